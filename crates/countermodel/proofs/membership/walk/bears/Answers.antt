use native.Mathlib.Omega.{arith}
use Rattle.countermodel.proofs.MemberLaws.Scanning.{unmet-none, unmet-more, bears-met, bears-none}
use Rattle.countermodel.proofs.membership.walk.bears.Goals as goal

pub loop-p-init : goal.loop-p-init
loop-p-init c = unmet-none _ _ _ _ (c.requires.stretches.low _)

pub loop-p-preserved-then-rows-at : goal.loop-p-preserved-then-rows-at
loop-p-preserved-then-rows-at c = unmet-more _ _ _ _ _ c.loop-p.invariant (λ w. c.if-rows-at.true w.element)

pub loop-p-preserved-then-rows-at-ne0 : goal.loop-p-preserved-then-rows-at-ne0
loop-p-preserved-then-rows-at-ne0 c = unmet-more _ _ _ _ _ c.loop-p.invariant (λ w. c.if-rows-at-ne0.true w.kind)

pub returns-then-rows-at-2 : goal.returns-then-rows-at-2
returns-then-rows-at-2 c = bears-met _ _ c.requires.stretches _ _ _ (record { known = omega arith; kind = c.if-rows-at-ne0.false; element = c.if-rows-at.false; name = c.if-rows-at-2.true })

pub loop-p-preserved : goal.loop-p-preserved
loop-p-preserved c = unmet-more _ _ _ _ _ c.loop-p.invariant (λ w. c.if-rows-at-2.false w.name)

pub returns : goal.returns
returns c = bears-none _ _ c.requires.stretches _ _ _ c.loop-p.invariant (omega arith)
