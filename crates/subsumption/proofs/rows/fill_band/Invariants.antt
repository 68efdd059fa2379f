use Rattle.subsumption.proofs.Blocks.{BandTo}
use Rattle.subsumption.proofs.rows.fill_band.Given as goal

abbrev pub invariant-loop-a : goal.invariant-loop-a
invariant-loop-a l = BandTo l.columns l.count l.m l.a l.band
