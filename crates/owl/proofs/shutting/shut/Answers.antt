use Rattle.owl.proofs.ShuttingLaws.{around-bounds, around-order, around-pairs, shuts-axiom, shuts-meet, shuts-exist}
use Rattle.owl.proofs.shutting.shut.Goals as goal

pub shut_axiom-requires : goal.shut_axiom-requires
shut_axiom-requires c = let e = c.wide-start.ensures in record { used_le_used = around-pairs _ _ _ _ _ c.requires.depth_nonzero c.requires.fits _ e; used_bound = c.requires.fits.bounds.apart; pending_len = c.requires.fits.pending-long; inclusions_len = c.requires.fits.inclusions-long }

pub returns-then-kind-eq-AXIOM : goal.returns-then-kind-eq-AXIOM
returns-then-kind-eq-AXIOM c = search shuts-axiom

pub shut_meet-requires : goal.shut_meet-requires
shut_meet-requires c = let e = c.wide-start.ensures in record { bounds = around-bounds _ _ _ _ _ c.requires.depth_nonzero c.requires.fits _ e; used_le_used = around-order _ _ _ _ _ c.requires.depth_nonzero c.requires.fits _ e; pending_len = c.requires.fits.pending-long; rows_len = c.requires.fits.rows_long }

pub returns-then-kind-eq-MEET : goal.returns-then-kind-eq-MEET
returns-then-kind-eq-MEET c = search shuts-meet

pub shut_exist-requires : goal.shut_exist-requires
shut_exist-requires c = let e = c.wide-start.ensures in record { bounds = around-bounds _ _ _ _ _ c.requires.depth_nonzero c.requires.fits _ e; used_le_used = around-order _ _ _ _ _ c.requires.depth_nonzero c.requires.fits _ e; pending_len = c.requires.fits.pending-long; rows_len = c.requires.fits.rows_long }

pub returns : goal.returns
returns c = search shuts-exist
