use Rattle.matching.proofs.SearchLaws.Making.Cones.{held-comes, free_stays}
use Rattle.matching.proofs.search.problem.mark_held.Goals as goal

pub insert-requires : goal.insert-requires
insert-requires c = record { y_bound = c.requires.id_bound; at_in_bounds = c.requires.at_in_bounds }

pub shape_of-sets : goal.shape_of-sets
shape_of-sets c = c.insert.ensures.long

pub returns-then-problem-id-eq1 : goal.returns-then-problem-id-eq1
returns-then-problem-id-eq1 c = held-comes c.args.problem.now _ _ _ _ c.if-problem-id-eq1.true c.insert.ensures

pub returns-else-problem-id-eq1 : goal.returns-else-problem-id-eq1
returns-else-problem-id-eq1 c = free_stays c.args.problem.now _ _ _ c.if-problem-id-eq1.false
