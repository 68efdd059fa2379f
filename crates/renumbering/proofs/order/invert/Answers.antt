use native.Mathlib.Omega.{arith}
use Rattle.renumbering.proofs.BackLaws.{back_done}
use Rattle.renumbering.proofs.order.invert.Goals as goal

pub returns : goal.returns
returns c = back_done _ c.requires.arranges c.requires.order_len_bound _ _ c.loop-i.invariant (omega arith)
