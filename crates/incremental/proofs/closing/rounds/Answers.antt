use borrow.Author.Rules.{rules}
use native.Mathlib.Omega.{arith}
use Rattle.incremental.proofs.ClosingLaws.{rounding-first, rounding-turn, rounding-less, rounding-done}
use Rattle.incremental.proofs.closing.rounds.Goals as goal

pub note_order-requires : goal.note_order-requires
note_order-requires c = record { square_len = c.requires.square.long; count_bound = c.requires.ready.few; order_len = omega arith }

pub loop-busy-init : goal.loop-busy-init
loop-busy-init c = (search rules, rounding-first _ _ _ _ _ c.requires.square)

pub slice_bounds-round-end : goal.slice_bounds-round-end
slice_bounds-round-end c = omega (arith, c.loop-busy.invariant.0)

pub round-busy-requires : goal.round-busy-requires
round-busy-requires c = record { ready = c.requires.ready; inclusions_bound = c.requires.inclusions_bound; chain = c.requires.chain; idle = c.requires.idle; order_len = c.loop-busy.invariant.0; existentials = c.requires.existentials; square = c.loop-busy.invariant.1.grown.square }

pub loop-busy-smaller : goal.loop-busy-smaller
loop-busy-smaller c = rounding-less _ _ _ _ _ _ _ _ c.loop-busy-test.true c.round-busy.ensures

pub loop-busy-preserved : goal.loop-busy-preserved
loop-busy-preserved c = (c.loop-busy.invariant.0, rounding-turn _ _ _ _ _ _ _ _ _ c.loop-busy.invariant.1 c.round-busy.ensures)

pub shape_of-square : goal.shape_of-square
shape_of-square c = omega (arith, c.loop-busy.invariant.1.grown.square.long, c.requires.square.long)

pub returns : goal.returns
returns c = rounding-done _ _ _ _ _ _ _ c.loop-busy-test.false c.loop-busy.invariant.1
