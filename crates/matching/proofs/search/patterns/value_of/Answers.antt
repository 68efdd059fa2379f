use Rattle.matching.proofs.SearchLaws.Sets.{line_low}
use Rattle.matching.proofs.SearchLaws.Walks.{read_made, read-line}
use native.Mathlib.Omega.{arith}
use Rattle.matching.proofs.search.patterns.value_of.Goals as goal

pub returns-then-problem-id-eq1 : goal.returns-then-problem-id-eq1
returns-then-problem-id-eq1 c = read_made c.args.sets.now c.args.problem.now c.args.values.now c.args.right c.args.id _ c.if-problem-id-eq1.true c.words_at.ensures

pub words_at-requires-2 : goal.words_at-requires-2
words_at-requires-2 c = omega (arith, c.line_at.ensures, line_low c.args.right c.args.id (omega arith))

pub returns : goal.returns
returns c = read-line c.args.sets.now c.args.problem.now c.args.values.now c.args.right c.args.id _ _ c.if-problem-id-eq1.false c.line_at.ensures c.words_at-2.ensures
