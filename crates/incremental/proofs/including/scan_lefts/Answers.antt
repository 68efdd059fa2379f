use native.Mathlib.Omega.{arith}
use Rattle.incremental.proofs.IncludingLaws.{scan-first, scan-more, scan-done}
use Rattle.incremental.proofs.including.scan_lefts.Goals as goal

pub next_open-l-requires : goal.next_open-l-requires
next_open-l-requires c = record { square_len = c.requires.square.long; covered_len = c.requires.covered_len; i_bound = (omega (arith, c.requires.pairs.low), c.requires.i_lt_count.1) }

pub loop-l-init : goal.loop-l-init
loop-l-init c = scan-first _ _ _ c.requires.pairs _ c.requires.i_lt_count.0 _ _ _ _ c.requires.square c.requires.covered_len c.next_open-l.ensures

pub include_left-new-requires : goal.include_left-new-requires
include_left-new-requires c = record { pairs = c.requires.pairs; chain = c.requires.chain; square = c.loop-l.invariant.passed.square; done_len = c.requires.done_len; covered_len = c.loop-l.invariant.long; i_lt_count = (c.requires.i_lt_count.0, omega arith); l_value = c.loop-l.invariant.found (omega arith) }

pub insert-requires : goal.insert-requires
insert-requires c = record { y_bound = omega arith; at_in_bounds = omega (arith, c.include_left-new.ensures.covered_len_2) }

pub next_open-l-requires-in-loop-l : goal.next_open-l-requires-in-loop-l
next_open-l-requires-in-loop-l c = record { square_len = c.include_left-new.ensures.include_pass.square.long; covered_len = omega (arith, c.insert.ensures.long, c.include_left-new.ensures.covered_len_2); i_bound = (omega (arith, c.requires.pairs.low, c.requires.i_lt_count.0), omega (arith, c.loop-l-test.true, c.requires.i_lt_count.2)) }

pub loop-l-smaller : goal.loop-l-smaller
loop-l-smaller c = omega (arith, c.next_open-l-in-loop-l.ensures.low)

pub loop-l-preserved : goal.loop-l-preserved
loop-l-preserved c = scan-more _ _ _ c.requires.pairs _ c.requires.i_lt_count.0 _ _ _ _ _ _ _ _ _ _ _ _ c.loop-l.invariant (omega arith) c.include_left-new.ensures.covered_len_2 c.include_left-new.ensures.include_pass c.insert.ensures c.next_open-l-in-loop-l.ensures

pub shape_of-square : goal.shape_of-square
shape_of-square c = omega (arith, c.loop-l.invariant.passed.square.long, c.requires.square.long)

pub shape_of-covered : goal.shape_of-covered
shape_of-covered c = omega (arith, c.loop-l.invariant.long, c.requires.covered_len)

pub returns : goal.returns
returns c = record { include_pass = scan-done _ _ _ c.requires.pairs _ c.requires.i_lt_count.0 _ _ _ _ _ _ _ _ c.loop-l.invariant (omega arith); covered_len_2 = c.loop-l.invariant.long }
