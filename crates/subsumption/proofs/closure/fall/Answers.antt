use native.Mathlib.Omega.{arith}
use Rattle.subsumption.specs.Inner.Settling.{Descended, choose_from}
use Rattle.subsumption.proofs.Passes.{fall-first, fall-more, fall-done}
use Rattle.subsumption.proofs.closure.fall.Goals as goal

pub loop-j-init : goal.loop-j-init
loop-j-init c = (omega arith, omega arith, λ is wide. fall-first (λ k l. Descended c.args.concepts.now (choose_from c.args.atoms.now c.args.assignment.now) k l) _ _)

pub descend-new-requires : goal.descend-new-requires
descend-new-requires c = record { settleable = c.requires.settleable; j_bound = omega (arith, c.loop-j.invariant.0) }

pub loop-j-preserved : goal.loop-j-preserved
loop-j-preserved c = (omega (arith, c.loop-j.invariant.0), omega (arith, c.loop-j.invariant.1), λ is wide. fall-more (λ k l. Descended c.args.concepts.now (choose_from c.args.atoms.now c.args.assignment.now) k l) _ _ _ (omega arith) (c.loop-j.invariant.2 is wide) (c.descend-new.ensures is wide))

pub returns : goal.returns
returns c = λ is wide. fall-done (λ k l. Descended c.args.concepts.now (choose_from c.args.atoms.now c.args.assignment.now) k l) _ _ (omega arith) (c.loop-j.invariant.2 is wide)
