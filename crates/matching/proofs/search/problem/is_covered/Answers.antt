use Rattle.std.proofs.Common.{sym, ◌∙◌, arith}
use Rattle.matching.proofs.SearchLaws.Walks.{members-low}
use Rattle.matching.proofs.SearchLaws.Making.Closers.{covered-and, covered_none}
use Rattle.matching.proofs.search.problem.is_covered.Goals as goal

pub words_at-a-requires : goal.words_at-a-requires
words_at-a-requires c = omega (arith, (members-low _ c.requires.shaped.numbers _ c.requires.e_bound.0 _ _ (sym c.node_at.ensures ∙ c.in-And.is)).0)

pub words_at-b-requires : goal.words_at-b-requires
words_at-b-requires c = omega (arith, (members-low _ c.requires.shaped.numbers _ c.requires.e_bound.0 _ _ (sym c.node_at.ensures ∙ c.in-And.is)).1)

pub returns-in-And : goal.returns-in-And
returns-in-And c = covered-and c.args.sets.now c.args.problem.now c.args.wanted.now c.args.e _ _ _ c.words_at-row.ensures c.words_at.ensures c.meet-asked.ensures _ _ _ _ _ _ _ (sym c.node_at.ensures ∙ c.in-And.is) c.words_at-a.ensures c.words_at-b.ensures c.join-own.ensures c.join.ensures c.is_same.ensures.same

pub returns : goal.returns
returns c = covered_none c.args.sets.now c.args.problem.now c.args.wanted.now c.args.e _ _ _ c.words_at-row.ensures c.words_at.ensures c.meet-asked.ensures _ c.is_same-2.ensures.same
