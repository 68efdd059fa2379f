use native.Mathlib.Omega.{arith}
use Rattle.subsumption.proofs.rows.renew_band.Goals as goal

pub returns-then-i-ne0 : goal.returns-then-i-ne0
returns-then-i-ne0 c = c.requires.banded.of c.if-i-ne0.true

pub fill_band-requires : goal.fill_band-requires
fill_band-requires c = record { m_bound = omega arith }

pub returns : goal.returns
returns c = c.fill_band.ensures
