use native.Mathlib.Omega.{arith}
use lib.ListN.{get_or}
use Rattle.settings.proofs.SizeLaws.{size-most}
use Rattle.settings.proofs.CountLaws.{few-more}
use Rattle.settings.proofs.counts.is_few.Goals as goal

pub loop-k-preserved-then-most-k-ge64 : goal.loop-k-preserved-then-most-k-ge64
loop-k-preserved-then-most-k-ge64 c =
    few-more c.args.most.now c.args.choice _
    (omega (arith, c.if-most-k-ge64.true, size-most (get_or c.args.choice c.loop-k.k 0))) c.loop-k.invariant
