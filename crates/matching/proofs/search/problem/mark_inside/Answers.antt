use Rattle.std.proofs.Common.{rules, sym, ◌∙◌}
use Rattle.subsumption.specs.Atoms.{inside}
use Rattle.matching.proofs.SearchLaws.Making.Cones.{inside-exists, inside-and, inside-rest}
use Rattle.matching.proofs.search.problem.mark_inside.Goals as goal

pub returns-in-Top : goal.returns-in-Top
unfolding inside
returns-in-Top c = inside-rest c.args.problem.now c.args.i _ _ (λ q. search rules)

pub returns-in-Exists : goal.returns-in-Exists
returns-in-Exists c = inside-exists c.args.problem.now c.args.i _ _ _ _ _ (sym c.node_at.ensures ∙ c.in-Exists.is) c.mark_held.ensures

pub returns-in-And : goal.returns-in-And
returns-in-And c =
    inside-and c.args.problem.now c.args.i _ _ _ _ _ _ (sym c.node_at.ensures ∙ c.in-And.is) c.mark_held-in-And.ensures c.mark_held-in-And-2.ensures
