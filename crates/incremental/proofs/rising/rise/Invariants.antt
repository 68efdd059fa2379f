use Rattle.subsumption.specs.Inner.Roles.{in_set}
use Rattle.subsumption.specs.Inner.Settling.{choose_from}
use Rattle.incremental.proofs.RisingLaws.{RisenTo}
use Rattle.incremental.proofs.rising.rise.Given as goal

abbrev pub invariant-loop-j : goal.invariant-loop-j
invariant-loop-j l = RisenTo l.concepts l.inclusions (in_set l.into) (choose_from l.atoms l.choices) l.j l.initial.square l.square l.changed
