use lib.ListN.{length-set}
use native.Mathlib.Omega.{arith}
use Rattle.matching.proofs.search.lookup.note_word.Goals as goal

pub loop-q-init : goal.loop-q-init
loop-q-init c = (omega arith, omega arith)

pub loop-q-preserved : goal.loop-q-preserved
loop-q-preserved c = (simp length-set (omega arith), omega arith)
