use mathlib.Core.Path.{◌∙◌, sym}
use native.Mathlib.Omega.{arith}
use Rattle.matching.proofs.search.interval.pick_undecided.Goals as goal

pub returns-then-is_undecided : goal.returns-then-is_undecided
returns-then-is_undecided c = (omega arith, sym c.is_undecided.ensures ∙ c.if-is_undecided.true)
