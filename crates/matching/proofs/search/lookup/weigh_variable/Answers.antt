use native.Mathlib.Omega.{arith}
use Rattle.matching.proofs.search.lookup.weigh_variable.Goals as goal

pub kill-dead-requires : goal.kill-dead-requires
kill-dead-requires c = record { scratch_len = omega arith; from_bound = omega arith }

pub kill-shut-requires : goal.kill-shut-requires
kill-shut-requires c = record { scratch_len = omega arith; from_bound = omega arith }

pub count-want-requires : goal.count-want-requires
count-want-requires c = record { scratch_len = omega arith; from_bound = omega arith }

pub count-once-requires : goal.count-once-requires
count-once-requires c = record { scratch_len = omega arith; from_bound = omega arith }
