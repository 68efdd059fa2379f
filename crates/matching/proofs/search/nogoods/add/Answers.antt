use Rattle.matching.proofs.SearchLaws.Nogoods.{added_none, added-one}
use lib.ListN.{length-set}
use mathlib.Core.Path.{◌∙◌}
use native.Mathlib.Omega.{arith}
use Rattle.matching.proofs.search.nogoods.add.Goals as goal

pub returns-then-filled-most : goal.returns-then-filled-most
returns-then-filled-most c = added_none _ _ _ c.requires.room

pub note-requires : goal.note-requires
note-requires c = record { scratch_len = omega arith; c_bound = omega arith }

pub shape_of-store : goal.shape_of-store
shape_of-store c = simp length-set (c.put-2.ensures.size ∙ c.put.ensures.size)

pub returns : goal.returns
returns c = added-one _ _ _ _ _ c.requires.room (omega arith) c.requires.low_len.0 c.requires.low_len.1 c.put.ensures c.put-2.ensures
