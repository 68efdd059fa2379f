use mathlib.Core.Path.{sym}
use Rattle.subsumption.proofs.Bools.{both-skip, both-none}
use Rattle.subsumption.proofs.atoms.and_also.Goals as goal

pub returns-then-x : goal.returns-then-x
returns-then-x c = sym (both-skip _ _ c.if-x.true)

pub returns : goal.returns
returns c = sym (both-none _ _ c.if-x.false)
