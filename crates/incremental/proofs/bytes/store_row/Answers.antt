use native.Mathlib.Omega.{arith}
use Rattle.incremental.proofs.ByteLaws.{stored-none, stored_more, stored_row}
use lib.ListN.{get_or}
use mathlib.Core.Path.{refl, ap}
use Rattle.incremental.proofs.bytes.store_row.Goals as goal

pub store_word-requires-2 : goal.store_word-requires-2
store_word-requires-2 c = omega (arith, c.store_word.ensures.size)

pub store_word-requires-3 : goal.store_word-requires-3
store_word-requires-3 c = omega (arith, c.store_word.ensures.size, c.store_word-2.ensures.size)

pub returns : goal.returns
returns c = stored_row _ _ _ _ (stored_more _ _ _ 2 _ _ _ _ (stored_more _ _ _ 1 _ _ _ _ (stored_more _ _ _ 0 _ _ _ _ (stored-none _ _ _) (omega arith) (ap (λ z. get_or c.args.square.now z 0) (omega arith)) c.store_word.ensures) (omega arith) refl c.store_word-2.ensures) (omega arith) refl c.store_word-3.ensures)
