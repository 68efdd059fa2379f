use mathlib.Core.Path.{sym, ◌∙◌}
use Rattle.incremental.proofs.SetLaws.{covering-none, covering}
use Rattle.incremental.proofs.including.cover.Goals as goal

pub returns-then-not-has : goal.returns-then-not-has
returns-then-not-has c = covering-none _ _ _ _ _ c.requires.covered_len

pub returns-then-not-holds : goal.returns-then-not-holds
returns-then-not-holds c = covering-none _ _ _ _ _ c.requires.covered_len

pub returns : goal.returns
returns c = covering _ _ _ _ _ c.requires.covered_len _ (sym c.has.ensures ∙ c.if-not-has.false) c.holds.ensures (c.if-not-holds.false)
