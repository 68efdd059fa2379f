use Rattle.matching.proofs.DerivationLaws.Lines.{pair-stops}
use Rattle.subsumption.proofs.Deciding.{pair_left, pair-right}
use Rattle.subsumption.proofs.Replies.{same-reply, same-refused}
use Rattle.subsumption.proofs.ListingLaws.{asked-rejected, asked-passed, asked-listed, asked-few, prepared}
use lib.Seq.{length-take-le}
use lib.ListN.{replicate}
use mathlib.Core.Path.{refl, sym}
use native.Mathlib.Omega.{arith}
use Rattle.subsumption.proofs.Refusals.{handed_up}
use Rattle.matching.proofs.derivation.check_derivation.Goals as goal

pub slice_bounds-ids-end : goal.slice_bounds-ids-end
slice_bounds-ids-end c = omega (arith, asked-few _ _ _ (replicate 64 0) _ c.list_asked.result refl c.list_asked.ensures.replied c.list_asked.ensures.written _ c.in_ok-count.was)

pub slice_bounds-check_known-end : goal.slice_bounds-check_known-end
slice_bounds-check_known-end c = sym (length-take-le _ _ (omega (arith, asked-few _ _ _ (replicate 64 0) _ c.list_asked.result refl c.list_asked.ensures.replied c.list_asked.ensures.written _ c.in_ok-count.was)))

pub check_known-requires : goal.check_known-requires
check_known-requires c = let p = asked-passed _ _ _ (replicate 64 0) _ c.list_asked.result refl c.list_asked.ensures.replied c.list_asked.ensures.written _ c.in_ok-count.was in record { prepared = prepared _ _ _ _ _ _ (asked-listed _ _ _ (replicate 64 0) _ c.list_asked.result refl c.list_asked.ensures.replied c.list_asked.ensures.written _ c.in_ok-count.was); left_bound = (pair_left _ _ _ p, pair-right _ _ _ p) }

pub returns-in_err-count : goal.returns-in_err-count
returns-in_err-count c = rw (handed_up _ c.from_residual.ensures) (same-refused _ _ (pair-stops _ _ _ _ _ _ (asked-rejected _ _ _ (replicate 64 0) _ c.list_asked.result refl c.list_asked.ensures.replied c.list_asked.ensures.written _ c.in_err-count.was)))

pub returns : goal.returns
returns c = same-reply c.check_known.result _ (c.check_known.ensures _ (asked-listed _ _ _ (replicate 64 0) _ c.list_asked.result refl c.list_asked.ensures.replied c.list_asked.ensures.written _ c.in_ok-count.was))
