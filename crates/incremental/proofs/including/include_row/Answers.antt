use native.Mathlib.Omega.{arith}
use mathlib.Core.Path.{refl}
use Rattle.incremental.proofs.IncludingLaws.{include-row}
use Rattle.incremental.proofs.including.include_row.Goals as goal

pub bounds-idle-0 : goal.bounds-idle-0
bounds-idle-0 c = omega (arith, c.requires.idle.long)

pub bounds-idle-1 : goal.bounds-idle-1
bounds-idle-1 c = omega (arith, c.requires.idle.long)

pub bounds-idle-2 : goal.bounds-idle-2
bounds-idle-2 c = omega (arith, c.requires.idle.long)

pub cover-requires : goal.cover-requires
cover-requires c = record { square_len = c.requires.square.long; done_len = c.requires.done_len; covered_len = refl; k_bound = (omega (arith, c.requires.pairs.low, c.requires.i_lt_count.1), omega (arith, c.requires.pairs.low, c.requires.i_lt_count.0)) }

pub slice_bounds-cover-end-2 : goal.slice_bounds-cover-end-2
slice_bounds-cover-end-2 c = omega (arith, c.cover.ensures.long)

pub cover-requires-2 : goal.cover-requires-2
cover-requires-2 c = record { square_len = c.requires.square.long; done_len = c.requires.done_len; covered_len = c.cover.ensures.long; k_bound = (omega (arith, c.requires.pairs.low, c.requires.i_lt_count.2), omega (arith, c.requires.pairs.low, c.requires.i_lt_count.0)) }

pub slice_bounds-cover-end-3 : goal.slice_bounds-cover-end-3
slice_bounds-cover-end-3 c = omega (arith, c.cover-2.ensures.long)

pub cover-requires-3 : goal.cover-requires-3
cover-requires-3 c = record { square_len = c.requires.square.long; done_len = c.requires.done_len; covered_len = c.cover-2.ensures.long; k_bound = (omega (arith, c.requires.pairs.low, c.requires.i_lt_count.3), omega (arith, c.requires.pairs.low, c.requires.i_lt_count.0)) }

pub slice_bounds-scan_lefts-end : goal.slice_bounds-scan_lefts-end
slice_bounds-scan_lefts-end c = omega (arith, c.cover-3.ensures.long)

pub overflow_add-i : goal.overflow_add-i
overflow_add-i c = omega (arith, c.requires.pairs.low, c.requires.i_lt_count.0)

pub scan_lefts-a-requires : goal.scan_lefts-a-requires
scan_lefts-a-requires c = record { pairs = c.requires.pairs; chain = c.requires.chain; square = c.requires.square; done_len = c.requires.done_len; covered_len = c.cover-3.ensures.long; i_lt_count = (c.requires.i_lt_count.0, omega (arith, c.requires.pairs.low, c.requires.i_lt_count.0), omega (arith, c.requires.pairs.low, c.requires.i_lt_count.0)) }

pub slice_bounds-scan_lefts-end-2 : goal.slice_bounds-scan_lefts-end-2
slice_bounds-scan_lefts-end-2 c = omega (arith, c.scan_lefts-a.ensures.covered_len_2)

pub scan_lefts-b-requires : goal.scan_lefts-b-requires
scan_lefts-b-requires c = record { pairs = c.requires.pairs; chain = c.requires.chain; square = c.scan_lefts-a.ensures.include_pass.square; done_len = c.requires.done_len; covered_len = c.scan_lefts-a.ensures.covered_len_2; i_lt_count = (c.requires.i_lt_count.0, omega arith, omega arith) }

pub shape_of-square : goal.shape_of-square
shape_of-square c = omega (arith, c.scan_lefts-b.ensures.include_pass.square.long, c.requires.square.long)

pub returns : goal.returns
returns c = include-row _ _ _ c.requires.pairs _ c.requires.i_lt_count.0 _ _ _ _ _ _ _ _ _ _ _ _ _ _ c.requires.i_lt_count.1 c.requires.i_lt_count.2 c.requires.i_lt_count.3 c.requires.idle c.cover.ensures c.cover-2.ensures c.cover-3.ensures c.scan_lefts-a.ensures.include_pass c.scan_lefts-b.ensures.include_pass
