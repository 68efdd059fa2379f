use Rattle.matching.proofs.SearchLaws.Walks.{members-are, members-are-not, closing-first, closing-join, closing-skip, closing-done}
use native.Mathlib.Omega.{arith}
use Rattle.matching.proofs.search.patterns.close_once.Goals as goal

pub next_in-e-requires : goal.next_in-e-requires
next_in-e-requires c = record { at_in_bounds = omega arith; from_bound = omega arith }

pub loop-e-init : goal.loop-e-init
loop-e-init c = closing-first _ _ _ _ _ c.next_in-e.ensures

pub next_in-e-requires-in-loop-e : goal.next_in-e-requires-in-loop-e
next_in-e-requires-in-loop-e c = record { at_in_bounds = omega arith; from_bound = omega arith }

pub has_members-requires : goal.has_members-requires
has_members-requires c = record { numbers = c.requires.shaped.numbers; e_bound = omega arith }

pub loop-e-smaller-then-has_members : goal.loop-e-smaller-then-has_members
loop-e-smaller-then-has_members c = omega (arith, c.next_in-e-in-loop-e.ensures.after)

pub loop-e-preserved-then-has_members : goal.loop-e-preserved-then-has_members
loop-e-preserved-then-has_members c = closing-join _ _ _ c.requires.shaped.numbers _ _ _ _ (omega arith) c.loop-e.invariant c.next_in-e-in-loop-e.ensures _ _ (members-are c.has_members.ensures c.if-has_members.true) c.words_at.ensures c.join-sum.ensures

pub loop-e-smaller : goal.loop-e-smaller
loop-e-smaller c = omega (arith, c.next_in-e-in-loop-e.ensures.after)

pub loop-e-preserved : goal.loop-e-preserved
loop-e-preserved c = closing-skip _ _ _ c.requires.shaped.numbers _ _ _ _ (omega arith) c.loop-e.invariant c.next_in-e-in-loop-e.ensures (members-are-not c.has_members.ensures c.if-has_members.false)

pub returns : goal.returns
returns c = closing-done _ _ _ _ _ _ (omega arith) c.loop-e.invariant
