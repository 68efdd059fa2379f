use Prim.Native.Nat.{◌+◌}
use Rattle.subsumption.specs.Roles.{wider}
use Rattle.subsumption.specs.Inner.Columns.{slack}
use Rattle.subsumption.specs.Inner.Names.{Firsts}
use Rattle.subsumption.specs.Inner.Settling.{choose_from}
use Rattle.subsumption.specs.Inner.Links.{Laid, Sorted}
use Rattle.subsumption.proofs.Closing.{Closing, weight}
use Rattle.subsumption.proofs.closure.close.Given as goal

abbrev pub invariant-loop-busy : goal.invariant-loop-busy
invariant-loop-busy l = (Firsts l.concepts l.firsts) × Closing l.concepts l.inclusions (wider l.roles) (choose_from l.atoms l.assignment) l.firsts l.initial.columns l.columns l.busy × Laid l.outer l.inners l.kinds × Sorted l.concepts (wider l.roles) l.outer l.inners l.kinds

abbrev pub decreases-loop-busy : goal.decreases-loop-busy
decreases-loop-busy l = slack l.columns + weight l.busy
