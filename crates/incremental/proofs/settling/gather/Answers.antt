use native.Mathlib.Omega.{arith}
use Rattle.incremental.proofs.SettlingLaws.{part-long, gather-adds}
use mathlib.Core.Path.{refl}
use mathlib.Core.Logic.{inr}
use Rattle.incremental.proofs.settling.gather.Goals as goal

pub slice_bounds-common-count : goal.slice_bounds-common-count
slice_bounds-common-count c = omega (arith, c.requires.square.long)

pub slice_bounds-common-start : goal.slice_bounds-common-start
slice_bounds-common-start c = omega (arith, c.requires.square.long)

pub slice_bounds-common-end : goal.slice_bounds-common-end
slice_bounds-common-end c = omega (arith, c.requires.square.long)

pub common-words-requires : goal.common-words-requires
common-words-requires c = record { columns_len = part-long c.args.square.now c.requires.square.long; known = c.requires.known }

pub take-requires : goal.take-requires
take-requires c = record { square = c.requires.square; base = (omega arith, inr refl); x_bound = omega arith }

pub returns : goal.returns
returns c = gather-adds _ _ _ c.requires.square c.requires.known.low _ _ _ c.common-words.ensures.common c.common-words.ensures.common_2 c.common-words.ensures.common_3 _ _ _ c.take.ensures
