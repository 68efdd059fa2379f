use native.Mathlib.Omega.{arith}
use lib.ListN.{length-set}
use Rattle.owl.proofs.ShuttingLaws.{axiom-not, axiom-shut}
use Rattle.owl.proofs.shutting.shut_axiom.Goals as goal

pub returns-then-used-start-ne2 : goal.returns-then-used-start-ne2
returns-then-used-start-ne2 c = search axiom-not

pub bounds-inclusions-at-2 : goal.bounds-inclusions-at-2
bounds-inclusions-at-2 c = simp length-set (omega arith)

pub returns : goal.returns
returns c = search axiom-shut
