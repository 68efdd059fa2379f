use lib.ListN.{set}
use Prim.Native.Nat.{◌+◌, ◌*◌}
use native.Mathlib.Omega.{arith}
use Rattle.square.proofs.LoadingLaws.{row_loaded}
use borrow.Author.Rules.{Below-set}
use Rattle.square.proofs.loading.load_row.Goals as goal

pub bounds-square-i-2 : goal.bounds-square-i-2
bounds-square-i-2 c = Below-set _ c.args.square.now _ _ _ (omega arith)

pub bounds-square-i-3 : goal.bounds-square-i-3
bounds-square-i-3 c = Below-set _ (set c.args.square.now (c.args.i * 3) c.masked-first.result) _ _ _ (Below-set _ c.args.square.now (c.args.i * 3 + 2) _ _ (omega arith))

pub returns : goal.returns
returns c = row_loaded _ _ _ _ (omega arith) c.requires.square_len _ _ _ _ _ _ c.word_at.ensures c.word_at-2.ensures c.word_at-3.ensures c.masked-first.ensures c.masked-second.ensures c.masked-third.ensures
