use Prim.Native.Nat.{◌+◌, ◌≤◌}
use native.Mathlib.Omega.{arith}
use lib.ListN.{length}
use Rattle.hermitcasket.proofs.PartLaws.{lined-none, lined-done, pairs-off, pairs-within, pairs-used, pairs-more}
use Rattle.hermitcasket.proofs.text.read_pairs.Goals as goal

pub loop-i-init : goal.loop-i-init
loop-i-init c = lined-none _ _ _ _ _ _

pub returns-in_default : goal.returns-in_default
returns-in_default c = search pairs-off

pub behind-rest-requires : goal.behind-rest-requires
behind-rest-requires c = search pairs-within

pub overflow_add-used : goal.overflow_add-used
overflow_add-used c =
    let h : c.loop-i.used + c.in-Some.line.length ≤ length c.args.part.now = search pairs-used in
    omega (arith, c.requires)

pub loop-i-preserved : goal.loop-i-preserved
loop-i-preserved c = search pairs-more

pub returns : goal.returns
returns c = search lined-done
