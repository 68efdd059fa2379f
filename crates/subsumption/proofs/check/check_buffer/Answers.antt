use Rattle.subsumption.proofs.Refusals.{refused-lt, done-le}
use Rattle.subsumption.specs.Check.{buffer_fault}
use Rattle.subsumption.proofs.check.check_buffer.Goals as goal

pub returns-then-size-wanted : goal.returns-then-size-wanted
unfolding buffer_fault
returns-then-size-wanted c = refused-lt _ _ _ c.if-size-wanted.true

pub returns : goal.returns
unfolding buffer_fault
returns c = done-le _ _ _ c.if-size-wanted.false
