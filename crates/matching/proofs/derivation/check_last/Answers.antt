use native.Mathlib.Omega.{arith}
use Rattle.matching.proofs.DerivationLaws.Lines.{some-lines, last-left, last-right, last-both}
use Rattle.matching.proofs.derivation.check_last.Goals as goal

pub overflow_sub-last : goal.overflow_sub-last
overflow_sub-last c = omega (arith, some-lines _ c.requires)

pub bounds-lines-last : goal.bounds-lines-last
bounds-lines-last c = omega (arith, some-lines _ c.requires)

pub returns-then-lines-last : goal.returns-then-lines-last
returns-then-lines-last c = last-left _ _ _ c.if-lines-last.true

pub bounds-lines-last-2 : goal.bounds-lines-last-2
bounds-lines-last-2 c = omega (arith, some-lines _ c.requires)

pub returns-then-lines-last-2 : goal.returns-then-lines-last-2
returns-then-lines-last-2 c = last-right _ _ _ c.if-lines-last.false c.if-lines-last-2.true

pub returns : goal.returns
returns c = last-both _ _ _ c.if-lines-last.false c.if-lines-last-2.false
