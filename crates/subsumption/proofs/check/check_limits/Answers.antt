use native.Mathlib.Omega.{arith}
use Rattle.subsumption.proofs.LimitLaws.{limit-concepts, limit-inclusions, limit-questions, limit-variables, limit-roles, limit-none}
use Rattle.subsumption.proofs.check.check_limits.Goals as goal

pub returns-then-is_unfit : goal.returns-then-is_unfit
returns-then-is_unfit c = limit-concepts _ _ _ _ _ _ c.is_unfit.ensures c.if-is_unfit.true

pub returns-then-is_unfit-2 : goal.returns-then-is_unfit-2
returns-then-is_unfit-2 c = limit-inclusions _ _ _ _ _ _ _ c.is_unfit.ensures c.if-is_unfit.false c.is_unfit-2.ensures c.if-is_unfit-2.true

pub returns-then-is_unfit-3 : goal.returns-then-is_unfit-3
returns-then-is_unfit-3 c = limit-questions _ _ _ _ _ _ _ _ c.is_unfit.ensures c.if-is_unfit.false c.is_unfit-2.ensures c.if-is_unfit-2.false c.is_unfit-3.ensures c.if-is_unfit-3.true

pub returns-then-tables-gt-VARIABLES : goal.returns-then-tables-gt-VARIABLES
returns-then-tables-gt-VARIABLES c = limit-variables _ _ _ _ _ _ _ _ c.is_unfit.ensures c.if-is_unfit.false c.is_unfit-2.ensures c.if-is_unfit-2.false c.is_unfit-3.ensures c.if-is_unfit-3.false c.if-tables-gt-VARIABLES.true

pub returns-then-is_unfit-4 : goal.returns-then-is_unfit-4
returns-then-is_unfit-4 c = limit-roles _ _ _ _ _ _ _ _ c.is_unfit.ensures c.if-is_unfit.false c.is_unfit-2.ensures c.if-is_unfit-2.false c.is_unfit-3.ensures c.if-is_unfit-3.false (omega arith) _ c.is_unfit-4.ensures c.if-is_unfit-4.true

pub returns : goal.returns
returns c = limit-none _ _ _ _ _ _ _ _ c.is_unfit.ensures c.if-is_unfit.false c.is_unfit-2.ensures c.if-is_unfit-2.false c.is_unfit-3.ensures c.if-is_unfit-3.false (omega arith) _ c.is_unfit-4.ensures c.if-is_unfit-4.false
