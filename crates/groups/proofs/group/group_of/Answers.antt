use Rattle.subsumption.proofs.Accepted.{table-concepts, concepts-layered, few-numbers, well_formed}
use Rattle.groups.proofs.GroupLaws.{sets-known, group-set}
use Rattle.groups.proofs.group.group_of.Goals as goal

pub write_sets-requires : goal.write_sets-requires
write_sets-requires c = let passed = table-concepts _ c.requires.accepted.passed in record { layered = concepts-layered _ passed; by_index = few-numbers _ passed }

pub reach-reached-requires : goal.reach-reached-requires
reach-reached-requires c = record { known = sets-known _ c.requires.accepted.passed _ c.write_sets.ensures; m_bound = c.requires.m_bound }

pub gather-requires : goal.gather-requires
gather-requires c = record { known = sets-known _ c.requires.accepted.passed _ c.write_sets.ensures; questions_bound = (well_formed _ c.requires.accepted.passed).few-questions }

pub returns : goal.returns
returns c = group-set _ c.requires.accepted.passed _ c.write_sets.ensures _ _ _ c.requires.m_bound c.reach-reached.ensures c.gather.ensures
