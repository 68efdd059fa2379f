use native.Mathlib.Omega.{arith}
use Rattle.allowance.proofs.KeptLaws.{tried-passes, tried-fails}
use Rattle.allowance.proofs.kept.test.Goals as goal

pub failing_of-m-requires : goal.failing_of-m-requires
failing_of-m-requires c = record { shaped = c.requires.shaped; scratch_len = c.requires.scratch_len.0 }

pub bounds-problem-897 : goal.bounds-problem-897
bounds-problem-897 c = omega (arith, c.requires.shaped.numbers.long)

pub overflow_cast-problem : goal.overflow_cast-problem
overflow_cast-problem c = omega (arith, c.requires.shaped.numbers.few)

pub returns-then-m-problem : goal.returns-then-m-problem
returns-then-m-problem c = tried-fails _ _ _ c.args.right _ c.failing_of-m.ensures _ _ c.if-m-problem.true c.note.ensures

pub returns : goal.returns
returns c = tried-passes _ _ _ c.args.right _ c.failing_of-m.ensures _ _ (omega arith) c.note-2.ensures
