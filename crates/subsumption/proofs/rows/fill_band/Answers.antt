use native.Mathlib.Omega.{arith}
use Rattle.subsumption.proofs.Blocks.{band-none, band-more, band-done}
use Rattle.subsumption.proofs.rows.fill_band.Goals as goal

pub loop-a-init : goal.loop-a-init
loop-a-init c = band-none _ _ _ _ c.told-band

pub block-word-requires : goal.block-word-requires
block-word-requires c = record { m_bound = (c.requires.m_bound, omega arith) }

pub loop-a-preserved : goal.loop-a-preserved
loop-a-preserved c = band-more _ _ _ _ _ _ _ c.loop-a.invariant (omega arith) c.block-word.ensures c.transpose-turned.ensures

pub returns : goal.returns
returns c = band-done _ _ _ _ _ c.loop-a.invariant (omega arith)
