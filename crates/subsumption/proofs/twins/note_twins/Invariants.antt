use Rattle.subsumption.proofs.TwinKeys.{TwinsTo}
use Rattle.subsumption.proofs.twins.note_twins.Given as goal

abbrev pub invariant-loop-i : goal.invariant-loop-i
invariant-loop-i l = TwinsTo l.concepts l.firsts l.keys l.slots l.i
