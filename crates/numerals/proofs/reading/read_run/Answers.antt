use native.Mathlib.Omega.{arith}
use mathlib.Core.Path.{◌≡◌, sym, ◌∙◌}
use lib.ListN.{length}
use Rattle.numerals.proofs.ReadingLaws.{digit-right, counted_none, counted-end, counted-wrong, counted-more}
use Rattle.numerals.proofs.reading.read_run.Goals as goal

pub loop-n-init : goal.loop-n-init
loop-n-init c = counted_none _

pub returns-then-is_wrong_digit : goal.returns-then-is_wrong_digit
returns-then-is_wrong_digit c = search counted-wrong

pub overflow_sub-value : goal.overflow_sub-value
overflow_sub-value c = (digit-right _ _ _ (sym c.is_wrong_digit.ensures ∙ c.if-is_wrong_digit.false)).low

pub overflow_cast-value : goal.overflow_cast-value
overflow_cast-value c = omega (arith, digit-right _ _ _ (sym c.is_wrong_digit.ensures ∙ c.if-is_wrong_digit.false))

pub overflow_add-value : goal.overflow_add-value
overflow_add-value c = omega (arith, digit-right _ _ _ (sym c.is_wrong_digit.ensures ∙ c.if-is_wrong_digit.false))

pub loop-n-preserved : goal.loop-n-preserved
loop-n-preserved c = search counted-more

pub returns : goal.returns
returns c =
    let e : c.loop-n.n ≡ length c.args.rest.now = omega arith in
    rw (← e) (counted-end _ _ _ c.loop-n.invariant c.loop-n-test.false)
