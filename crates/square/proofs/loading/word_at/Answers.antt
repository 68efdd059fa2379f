use native.Mathlib.Omega.{arith}
use Rattle.square.proofs.LoadingLaws.{word_first, word_more, word-done}
use Prim.Native.Nat.{◌+◌}
use Rattle.square.proofs.loading.word_at.Goals as goal

pub overflow_cast-a : goal.overflow_cast-a
overflow_cast-a c = omega (arith, c.type_inv.table c.args.at)

pub overflow_cast-b : goal.overflow_cast-b
overflow_cast-b c = omega (arith, c.type_inv.table (c.args.at + 1))

pub overflow_cast-c : goal.overflow_cast-c
overflow_cast-c c = omega (arith, c.type_inv.table (c.args.at + 2))

pub overflow_cast-d : goal.overflow_cast-d
overflow_cast-d c = omega (arith, c.type_inv.table (c.args.at + 3))

pub overflow_cast-e : goal.overflow_cast-e
overflow_cast-e c = omega (arith, c.type_inv.table (c.args.at + 4))

pub overflow_cast-f : goal.overflow_cast-f
overflow_cast-f c = omega (arith, c.type_inv.table (c.args.at + 5))

pub overflow_cast-g : goal.overflow_cast-g
overflow_cast-g c = omega (arith, c.type_inv.table (c.args.at + 6))

pub overflow_cast-h : goal.overflow_cast-h
overflow_cast-h c = omega (arith, c.type_inv.table (c.args.at + 7))

pub returns : goal.returns
returns c = word-done _ _ _ (word_more _ _ 7 _ (omega arith) (c.type_inv.table (c.args.at + 7)).fits (word_more _ _ 6 _ (omega arith) (c.type_inv.table (c.args.at + 6)).fits (word_more _ _ 5 _ (omega arith) (c.type_inv.table (c.args.at + 5)).fits (word_more _ _ 4 _ (omega arith) (c.type_inv.table (c.args.at + 4)).fits (word_more _ _ 3 _ (omega arith) (c.type_inv.table (c.args.at + 3)).fits (word_more _ _ 2 _ (omega arith) (c.type_inv.table (c.args.at + 2)).fits (word_more _ _ 1 _ (omega arith) (c.type_inv.table (c.args.at + 1)).fits (word_first _ _ (c.type_inv.table c.args.at).fits))))))))
