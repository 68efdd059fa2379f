use Prim.Native.Nat.{◌+◌, ◌≤◌}
use lib.ListN.{length}
use native.Mathlib.Omega.{arith}
use Rattle.hermitcasket.proofs.LineLaws.{pair-unkeyed, key-within, first-none, first-within, second_none, second-within, two-line}
use Rattle.hermitcasket.proofs.lines.pair_line.Goals as goal

pub returns-then-not-starts_with : goal.returns-then-not-starts_with
returns-then-not-starts_with c = search pair-unkeyed

pub behind-digits-requires : goal.behind-digits-requires
behind-digits-requires c = search key-within

pub returns-in_err-first : goal.returns-in_err-first
returns-in_err-first c = rw c.from_residual.ensures (search (first-none, c.in_err-first.was))

pub behind-more-requires : goal.behind-more-requires
behind-more-requires c = search (first-within, c.in_ok-first.was)

pub returns-in_err-second : goal.returns-in_err-second
returns-in_err-second c =
    rw c.from_residual-in_err-second.ensures (search (second_none, c.in_ok-first.was, c.in_err-second.was))

pub overflow_add-result : goal.overflow_add-result
overflow_add-result c =
    let h : length c.args.key.now + c.in_ok-first.first.length + c.in_ok-second.second.length ≤ length c.args.rest.now =
    search (second-within, c.in_ok-first.was, c.in_ok-second.was)
    in
    omega (arith, c.well_formed)

pub overflow_add-result-2 : goal.overflow_add-result-2
overflow_add-result-2 c =
    let h : length c.args.key.now + c.in_ok-first.first.length + c.in_ok-second.second.length ≤ length c.args.rest.now =
    search (second-within, c.in_ok-first.was, c.in_ok-second.was)
    in
    omega (arith, c.well_formed)

pub returns : goal.returns
returns c = search (two-line, c.in_ok-first.was, c.in_ok-second.was)
