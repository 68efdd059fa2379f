use Rattle.matching.proofs.SearchLaws.Sets.{in-first, in-second, in-third}
use native.Mathlib.Omega.{arith}
use Rattle.matching.proofs.search.sets.is_in.Goals as goal

pub returns-then-c-lt64 : goal.returns-then-c-lt64
returns-then-c-lt64 c = in-first _ _ _ _ (omega arith)

pub returns-then-c-lt128 : goal.returns-then-c-lt128
returns-then-c-lt128 c = in-second _ _ _ _ (omega arith) (omega arith)

pub returns : goal.returns
returns c = in-third _ _ _ _ (omega arith) (omega arith)
