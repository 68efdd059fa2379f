use native.Mathlib.Omega.{arith}
use lib.ListN.{length-set}
use Rattle.subsumption.proofs.Marks.{node-rising}
use Rattle.subsumption.proofs.TwinKeys.{twins-none, slots_kept, twins-more, twins-done}
use Rattle.subsumption.proofs.twins.note_twins.Goals as goal

pub loop-i-init : goal.loop-i-init
loop-i-init c = twins-none _ _ c.told-firsts

pub key_of-key-requires : goal.key_of-key-requires
key_of-key-requires c = node-rising _ _ _ _ c.requires.layered (omega (arith, c.loop-i.invariant.long, c.requires.layered.few)) c.node_at.ensures

pub bounds-keys-i : goal.bounds-keys-i
bounds-keys-i c = omega (arith, c.requires.layered.few)

pub slice_bounds-first_place-end : goal.slice_bounds-first_place-end
slice_bounds-first_place-end c = omega (arith, length-set c.loop-i.keys c.loop-i.i c.key_of-key.result, c.loop-i.invariant.long-keys)

pub slice_bounds-first_place-end-in-loop-i : goal.slice_bounds-first_place-end-in-loop-i
slice_bounds-first_place-end-in-loop-i c = omega (arith, c.loop-i.invariant.slotted.long)

pub first_place-first-requires : goal.first_place-first-requires
first_place-first-requires c = record { i_in_bounds = omega (arith, length-set c.loop-i.keys c.loop-i.i c.key_of-key.result, c.loop-i.invariant.long-keys, c.requires.layered.few); i_bound = omega (arith, c.requires.layered.few); slots = slots_kept _ c.requires.layered c.requires.by_index _ _ _ _ c.loop-i.invariant (omega arith) _ (cc) }

pub overflow_cast-firsts : goal.overflow_cast-firsts
overflow_cast-firsts c = omega (arith, c.first_place-first.ensures.first_same.low, c.requires.layered.few)

pub bounds-firsts-i : goal.bounds-firsts-i
bounds-firsts-i c = omega (arith, c.loop-i.invariant.long, c.requires.layered.few)

pub loop-i-preserved : goal.loop-i-preserved
loop-i-preserved c = twins-more _ c.requires.layered c.requires.by_index _ _ _ _ c.loop-i.invariant (omega arith) _ (cc) _ c.first_place-first.ensures.first_same _ c.first_place-first.ensures.slots_2

pub returns : goal.returns
returns c = twins-done _ _ _ _ _ c.loop-i.invariant (omega arith)
