use Prim.Native.Nat.{◌+◌, ◌≤◌}
use lib.ListN.{length}
use native.Mathlib.Omega.{arith}
use Rattle.hermitcasket.proofs.LineLaws.{number-unkeyed, key-within, value_line, value-within, none-line}
use Rattle.hermitcasket.proofs.lines.number_line.Goals as goal

pub returns-then-not-starts_with : goal.returns-then-not-starts_with
returns-then-not-starts_with c = search number-unkeyed

pub behind-digits-requires : goal.behind-digits-requires
behind-digits-requires c = search key-within

pub overflow_add-result : goal.overflow_add-result
overflow_add-result c =
    let h : length c.args.key.now + c.in_ok-found.found.length ≤ length c.args.rest.now = search (value-within, c.in_ok-found.was) in
    omega (arith, c.well_formed)

pub returns : goal.returns
returns c = search (value_line, c.in_ok-found.was)

pub returns-in_err-found : goal.returns-in_err-found
returns-in_err-found c = rw c.from_residual.ensures (search (none-line, c.in_err-found.was))
