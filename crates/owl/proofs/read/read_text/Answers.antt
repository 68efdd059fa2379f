use native.Mathlib.Omega.{arith}
use Rattle.subsumption.proofs.Refusals.{handed_up}
use Rattle.owl.proofs.ReadLaws.{reads-stop, few-tables, rows-within, rows-count, rows-room, sides-within, sides-count, sides-room, reads-tables}
use Rattle.owl.proofs.read.read_text.Goals as goal

pub overflow_mul-n : goal.overflow_mul-n
overflow_mul-n c = omega (arith, few-tables _ _ _ _ _ _ c.judge_text.ensures _ c.in_ok-reader.was)

pub overflow_mul-m : goal.overflow_mul-m
overflow_mul-m c = omega (arith, few-tables _ _ _ _ _ _ c.judge_text.ensures _ c.in_ok-reader.was)

pub slice_bounds-rows-end : goal.slice_bounds-rows-end
slice_bounds-rows-end c = rows-within _ _ _ _ _ _ c.judge_text.ensures _ c.in_ok-reader.was

pub slice_bounds-put_front-end : goal.slice_bounds-put_front-end
slice_bounds-put_front-end c = rows-count _ _ _ _ _ _ c.judge_text.ensures _ c.in_ok-reader.was

pub put_front-requires : goal.put_front-requires
put_front-requires c = rows-room _ _ _ _ _ _ c.judge_text.ensures _ c.in_ok-reader.was _ (omega arith)

pub slice_bounds-sides-end : goal.slice_bounds-sides-end
slice_bounds-sides-end c = sides-within _ _ _ _ _ _ c.judge_text.ensures _ c.in_ok-reader.was

pub slice_bounds-put_front-end-2 : goal.slice_bounds-put_front-end-2
slice_bounds-put_front-end-2 c = sides-count _ _ _ _ _ _ c.judge_text.ensures _ c.in_ok-reader.was

pub put_front-requires-2 : goal.put_front-requires-2
put_front-requires-2 c = sides-room _ _ _ _ _ _ c.judge_text.ensures _ c.in_ok-reader.was _ (omega arith)

pub returns : goal.returns
returns c = reads-tables _ _ _ _ _ _ c.judge_text.ensures _ c.in_ok-reader.was _ _ _ _ c.put_front.ensures c.put_front-2.ensures

pub returns-in_err-reader : goal.returns-in_err-reader
returns-in_err-reader c = rw (handed_up _ c.from_residual.ensures) (reads-stop _ _ _ _ _ _ c.judge_text.ensures _ c.in_err-reader.was _ _)
