use native.Mathlib.Omega.{arith}
use lib.ListN.{length-set}
use Rattle.numerals.proofs.DigitLaws.{digits-some}
use Rattle.numerals.proofs.WriteLaws.{wrote-digit, wrote-digits, next-within, number-room}
use Rattle.numerals.proofs.printing.+put_number.Goals as goal

pub bounds-out-at : goal.bounds-out-at
bounds-out-at t c =
    omega (arith, digits-some c.args.n)

pub overflow_add-result : goal.overflow_add-result
overflow_add-result t c =
    omega (arith, digits-some c.args.n, c.well_formed)

pub shape_of-out-then-n-lt10 : goal.shape_of-out-then-n-lt10
shape_of-out-then-n-lt10 t c =
    simp length-set

pub returns-then-n-lt10 : goal.returns-then-n-lt10
returns-then-n-lt10 t c =
    search wrote-digit

pub put_number-next-requires : goal.put_number-next-requires
put_number-next-requires t c =
    (omega arith, omega (arith, number-room c.args.out.now c.args.at c.args.n c.if-n-lt10.false c.requires))

pub bounds-out-next : goal.bounds-out-next
bounds-out-next t c =
    search next-within

pub overflow_add-result-2 : goal.overflow_add-result-2
overflow_add-result-2 t c =
    omega (arith, c.put_number-next.ensures.place, number-room c.args.out.now c.args.at c.args.n c.if-n-lt10.false c.requires, c.well_formed)

pub returns : goal.returns
returns t c =
    search wrote-digits
