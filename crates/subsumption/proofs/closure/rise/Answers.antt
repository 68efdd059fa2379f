use native.Mathlib.Omega.{arith}
use Rattle.subsumption.specs.Inner.Settling.{Ascended, choose_from}
use Rattle.subsumption.specs.Inner.Links.{LinkedTo}
use Rattle.subsumption.proofs.Passes.{pass-as, pass-then, loop-first, loop-more, loop-done}
use Rattle.subsumption.proofs.closure.rise.Goals as goal

pub loop-j-init : goal.loop-j-init
loop-j-init c = (omega arith, omega arith, λ is wide s. loop-first (λ k l. Ascended c.args.concepts.now c.args.firsts.now (choose_from c.args.atoms.now c.args.assignment.now) k l × LinkedTo c.args.concepts.now wide k l) _)

pub ascend-a-requires : goal.ascend-a-requires
ascend-a-requires c = record { settleable = c.requires.settleable; firsts = c.requires.firsts; j_bound = omega arith }

pub link_to-b-requires : goal.link_to-b-requires
link_to-b-requires c = record { inner = c.requires.inner; laid = c.requires.laid; f_bound = omega arith }

pub loop-j-preserved : goal.loop-j-preserved
loop-j-preserved c = (omega arith, omega (arith, c.loop-j.invariant.1), λ is wide s. loop-more (λ k l. Ascended c.args.concepts.now c.args.firsts.now (choose_from c.args.atoms.now c.args.assignment.now) k l × LinkedTo c.args.concepts.now wide k l) _ (c.loop-j.invariant.2 is wide s) (pass-then (c.ascend-a.ensures is wide) (c.link_to-b.ensures is wide _ s)))

pub returns : goal.returns
returns c = λ is wide s. pass-as (loop-done (λ k l. Ascended c.args.concepts.now c.args.firsts.now (choose_from c.args.atoms.now c.args.assignment.now) k l × LinkedTo c.args.concepts.now wide k l) _ _ (omega arith) (c.loop-j.invariant.2 is wide s)) (λ u. ((λ k h. (u k h).0), (λ k h. (u k h).1)))
