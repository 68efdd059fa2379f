use Rattle.square.proofs.TurningLaws.{StagedTo}
use Rattle.square.proofs.turning.stage.Given as goal

abbrev pub invariant-loop-p : goal.invariant-loop-p
invariant-loop-p l = StagedTo l.by l.low l.high l.initial.block l.p l.block
