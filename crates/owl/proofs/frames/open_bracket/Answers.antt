use native.Mathlib.Omega.{arith}
use lib.ListN.{length-set}
use Rattle.owl.proofs.FrameLaws.{opens_not, opens}
use Rattle.owl.proofs.frames.open_bracket.Goals as goal

pub returns-then-kind-ge-ITEM : goal.returns-then-kind-ge-ITEM
returns-then-kind-ge-ITEM c = search opens_not

pub bounds-frames-at : goal.bounds-frames-at
bounds-frames-at c = omega (arith, c.requires.bounds.bracket-room c.if-kind-ge-ITEM.false)

pub bounds-frames-at-2 : goal.bounds-frames-at-2
bounds-frames-at-2 c = simp length-set (omega (arith, c.requires.bounds.bracket-room c.if-kind-ge-ITEM.false))

pub bounds-frames-at-3 : goal.bounds-frames-at-3
bounds-frames-at-3 c = simp length-set (omega (arith, c.requires.bounds.bracket-room c.if-kind-ge-ITEM.false))

pub returns : goal.returns
returns c = search opens
