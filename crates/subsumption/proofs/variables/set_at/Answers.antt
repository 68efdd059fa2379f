use Rattle.subsumption.proofs.Deciding.{few-concepts, few-numbers, layered}
use native.Mathlib.Omega.{arith}
use Rattle.subsumption.proofs.variables.set_at.Goals as goal

pub write_sets-requires : goal.write_sets-requires
write_sets-requires c = record { layered = layered _ _ _ _ _ c.requires.prepared; by_index = few-numbers _ _ _ _ _ c.requires.prepared }

pub bounds-sets-id : goal.bounds-sets-id
bounds-sets-id c = omega (arith, few-concepts _ _ _ _ _ c.requires.prepared, c.requires.id_bound)

pub returns : goal.returns
returns c = c.write_sets.ensures.each _ c.requires.id_bound
