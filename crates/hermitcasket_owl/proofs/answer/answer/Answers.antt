use Prim.Native.Nat.{ℕ}
use mathlib.Core.Path.{sym}
use native.Mathlib.Omega.{arith}
use lib.ListN.{replicate, length-replicate}
use lib.Seq.{length-take-le}
use Rattle.numerals.proofs.WriteLaws.{refused-room}
use Rattle.hermitcasket_owl.proofs.AnswerLaws.{few-entries, few-pairs, card-room, carded, carded-refused}
use Rattle.hermitcasket_owl.proofs.answer.answer.Goals as goal

pub overflow_mul-n : goal.overflow_mul-n
overflow_mul-n c = omega (arith, few-entries _ (replicate 576 0) _ (replicate 192 0) _ (length-replicate {A = ℕ} 576 0) (length-replicate {A = ℕ} 192 0) c.read_catalogue-read.result c.read_catalogue-read.ensures _ c.in-Ok.is)

pub overflow_mul-m : goal.overflow_mul-m
overflow_mul-m c = omega (arith, few-pairs _ (replicate 576 0) _ (replicate 192 0) _ (length-replicate {A = ℕ} 576 0) (length-replicate {A = ℕ} 192 0) c.read_catalogue-read.result c.read_catalogue-read.ensures _ c.in-Ok.is)

pub slice_bounds-concepts-end : goal.slice_bounds-concepts-end
slice_bounds-concepts-end c = omega (arith, few-entries _ (replicate 576 0) _ (replicate 192 0) _ (length-replicate {A = ℕ} 576 0) (length-replicate {A = ℕ} 192 0) c.read_catalogue-read.result c.read_catalogue-read.ensures _ c.in-Ok.is, c.read_catalogue-read.auto)

pub slice_bounds-put_card-end : goal.slice_bounds-put_card-end
slice_bounds-put_card-end c = sym (length-take-le _ _ (omega (arith, few-entries _ (replicate 576 0) _ (replicate 192 0) _ (length-replicate {A = ℕ} 576 0) (length-replicate {A = ℕ} 192 0) c.read_catalogue-read.result c.read_catalogue-read.ensures _ c.in-Ok.is, c.read_catalogue-read.auto)))

pub slice_bounds-inclusions-end : goal.slice_bounds-inclusions-end
slice_bounds-inclusions-end c = omega (arith, few-pairs _ (replicate 576 0) _ (replicate 192 0) _ (length-replicate {A = ℕ} 576 0) (length-replicate {A = ℕ} 192 0) c.read_catalogue-read.result c.read_catalogue-read.ensures _ c.in-Ok.is, c.read_catalogue-read.auto)

pub slice_bounds-put_card-end-in-Ok : goal.slice_bounds-put_card-end-in-Ok
slice_bounds-put_card-end-in-Ok c = sym (length-take-le _ _ (omega (arith, few-pairs _ (replicate 576 0) _ (replicate 192 0) _ (length-replicate {A = ℕ} 576 0) (length-replicate {A = ℕ} 192 0) c.read_catalogue-read.result c.read_catalogue-read.ensures _ c.in-Ok.is, c.read_catalogue-read.auto)))

pub put_card-requires : goal.put_card-requires
put_card-requires c = card-room _ (replicate 576 0) _ (replicate 192 0) _ (length-replicate {A = ℕ} 576 0) (length-replicate {A = ℕ} 192 0) c.read_catalogue-read.result c.read_catalogue-read.ensures _ c.in-Ok.is c.args.out.now c.requires

pub put_refused-requires : goal.put_refused-requires
put_refused-requires c = refused-room c.code_of-code.result c.args.out.now (omega (arith, c.code_of-code.type_inv)) (omega (arith, c.code_of-code.type_inv)) c.requires

pub returns-in-Ok : goal.returns-in-Ok
returns-in-Ok c = carded _ (replicate 576 0) _ (replicate 192 0) _ (length-replicate {A = ℕ} 576 0) (length-replicate {A = ℕ} 192 0) c.read_catalogue-read.result c.read_catalogue-read.ensures _ c.in-Ok.is _ _ _ c.put_card.ensures

pub returns-in-Err : goal.returns-in-Err
returns-in-Err c = carded-refused _ (replicate 576 0) _ (replicate 192 0) _ (length-replicate {A = ℕ} 576 0) (length-replicate {A = ℕ} 192 0) c.read_catalogue-read.result c.read_catalogue-read.ensures _ c.in-Err.is c.code_of-code.result c.code_of-code.ensures _ _ _ c.put_refused.ensures
