use native.Mathlib.Omega.{arith}
use Rattle.incremental.proofs.including.proposed.Goals as goal

pub returns-then-count-n : goal.returns-then-count-n
returns-then-count-n c = record { low = omega arith; last = λ h. omega arith }

pub overflow_cast-i : goal.overflow_cast-i
overflow_cast-i c = omega (arith, c.type_inv.order c.args.n)

pub returns-then-i-count : goal.returns-then-i-count
returns-then-i-count c = record { low = omega arith; last = λ h. absurd (omega arith) }

pub returns : goal.returns
returns c = record { low = omega arith; last = λ h. absurd (omega arith) }
