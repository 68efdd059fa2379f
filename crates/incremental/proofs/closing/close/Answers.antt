use native.Mathlib.Omega.{arith}
use Rattle.incremental.proofs.ClosingLaws.{ready-low, all_closed}
use Rattle.subsumption.proofs.Linking.{ready-nameable, ready-inner}
use mathlib.Core.Path.{refl}
use Rattle.incremental.proofs.closing.close.Goals as goal

pub start-requires : goal.start-requires
start-requires c = record { nameable = ready-nameable c.requires.ready; square = c.requires.square }

pub note_chain-requires : goal.note_chain-requires
note_chain-requires c = record { pairs = ready-low c.requires.ready c.requires.inclusions_bound; chain_value = refl }

pub note_idle-requires : goal.note_idle-requires
note_idle-requires c = record { chain = c.note_chain.ensures; idle_value = refl }

pub note_roles-requires : goal.note_roles-requires
note_roles-requires c = record { low_roles = c.requires.low_roles; into_value = refl }

pub note_existentials-requires : goal.note_existentials-requires
note_existentials-requires c = record { inner = ready-inner c.requires.ready; outer_value = refl; inners_value = refl; roles_value = refl }

pub rounds-requires : goal.rounds-requires
rounds-requires c = record { ready = c.requires.ready; inclusions_bound = c.requires.inclusions_bound; chain = c.note_chain.ensures; idle = c.note_idle.ensures; existentials = c.note_existentials.ensures; square = c.start.ensures.grown.square }

pub shape_of-square : goal.shape_of-square
shape_of-square c = omega (arith, c.rounds.ensures.grown.square.long, c.requires.square.long)

pub returns : goal.returns
returns c = all_closed _ _ _ _ _ _ _ c.requires.ready c.note_roles.ensures _ _ _ c.start.ensures c.rounds.ensures
