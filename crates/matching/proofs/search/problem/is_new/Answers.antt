use Rattle.matching.proofs.SearchLaws.Making.Closers.{new-kept, new-covered, new-here, new-other}
use mathlib.Core.Path.{sym, ◌∙◌}
use Rattle.matching.proofs.search.problem.is_new.Goals as goal

pub returns-then-has : goal.returns-then-has
returns-then-has c = new-kept c.args.sets.now c.args.problem.now c.args.at c.args.wanted.now c.args.e (sym c.has.ensures ∙ c.if-has.true)

pub is_covered-requires : goal.is_covered-requires
is_covered-requires c = record { shaped = c.requires.shaped; e_bound = c.requires.e_bound }

pub returns-then-is_covered : goal.returns-then-is_covered
returns-then-is_covered c = new-covered c.args.sets.now c.args.problem.now c.args.at c.args.wanted.now c.args.e (c.is_covered.ensures c.if-is_covered.true)

pub returns-then-is_closer : goal.returns-then-is_closer
returns-then-is_closer c = new-here c.args.sets.now c.args.problem.now c.args.at c.args.wanted.now c.args.e (sym c.is_closer.ensures ∙ c.if-is_closer.true) (sym c.has.ensures ∙ c.if-has.false)

pub returns : goal.returns
returns c = new-other c.args.sets.now c.args.problem.now c.args.at c.args.wanted.now c.args.e (sym c.is_closer.ensures ∙ c.if-is_closer.false)
