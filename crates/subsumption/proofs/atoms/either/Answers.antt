use mathlib.Core.Path.{sym}
use Rattle.subsumption.proofs.Bools.{or-first, or-skip}
use Rattle.subsumption.proofs.atoms.either.Goals as goal

pub returns-then-x : goal.returns-then-x
returns-then-x c = sym (or-first _ _ c.if-x.true)

pub returns : goal.returns
returns c = sym (or-skip _ _ c.if-x.false)
