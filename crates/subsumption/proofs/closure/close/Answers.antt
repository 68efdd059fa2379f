use mathlib.Core.Path.{refl}
use Rattle.subsumption.proofs.Linking.{ready-nameable, ready-inner, sorted, laid}
use Rattle.subsumption.proofs.Closing.{pass-less, closing-first, closing-turn, closing-done}
use Rattle.subsumption.proofs.closure.close.Goals as goal

pub note_firsts-requires : goal.note_firsts-requires
note_firsts-requires c = record { nameable = ready-nameable c.requires.ready }

pub note_existentials-requires : goal.note_existentials-requires
note_existentials-requires c = record { inner = ready-inner c.requires.ready; outer_value = refl; inners_value = refl; lines_value = refl }

pub note_roles-requires : goal.note_roles-requires
note_roles-requires c = record { low_roles = c.requires.low_roles; into_value = refl }

pub loop-busy-init : goal.loop-busy-init
loop-busy-init c = (c.note_firsts.ensures, closing-first _ _ _ _ _ _ c.told-columns, laid _ _ _ _ _ _ c.note_existentials.ensures c.note_kinds.ensures, sorted _ _ _ _ _ _ _ (ready-inner c.requires.ready) c.note_roles.ensures c.note_existentials.ensures c.note_kinds.ensures)

pub round-busy-requires : goal.round-busy-requires
round-busy-requires c = record { ready = c.requires.ready; firsts = c.loop-busy.invariant.0; laid = c.loop-busy.invariant.2 }

pub loop-busy-smaller : goal.loop-busy-smaller
loop-busy-smaller c = pass-less _ _ _ _ c.loop-busy-test.true (c.round-busy.ensures _ c.loop-busy.invariant.3)

pub loop-busy-preserved : goal.loop-busy-preserved
loop-busy-preserved c = (c.loop-busy.invariant.0, closing-turn _ _ _ _ _ _ _ _ _ _ c.loop-busy.invariant.1 (c.round-busy.ensures _ c.loop-busy.invariant.3), c.loop-busy.invariant.2, c.loop-busy.invariant.3)

pub returns : goal.returns
returns c = closing-done _ _ _ _ _ _ _ _ c.loop-busy-test.false c.loop-busy.invariant.0 c.loop-busy.invariant.1
