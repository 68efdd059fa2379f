use lib.ListN.{replicate}
use Rattle.subsumption.proofs.Deciding.{pair_left, pair-right, pair-refused}
use Rattle.subsumption.proofs.ListingLaws.{asked-rejected, asked-passed, asked-listed, asked-few, prepared}
use lib.Seq.{length-take-le}
use mathlib.Core.Path.{refl, sym}
use native.Mathlib.Omega.{arith}
use Rattle.subsumption.proofs.Refusals.{handed_up}
use Rattle.subsumption.proofs.decide.decide_pair.Goals as goal

pub slice_bounds-ids-end : goal.slice_bounds-ids-end
slice_bounds-ids-end c = omega (arith, asked-few _ _ _ (replicate 64 0) _ c.list_asked.result refl c.list_asked.ensures.replied c.list_asked.ensures.written _ c.in_ok-count.was)

pub slice_bounds-decide_known-end : goal.slice_bounds-decide_known-end
slice_bounds-decide_known-end c = sym (length-take-le _ _ (omega (arith, asked-few _ _ _ (replicate 64 0) _ c.list_asked.result refl c.list_asked.ensures.replied c.list_asked.ensures.written _ c.in_ok-count.was)))

pub decide_known-requires : goal.decide_known-requires
decide_known-requires c = let p = asked-passed _ _ _ (replicate 64 0) _ c.list_asked.result refl c.list_asked.ensures.replied c.list_asked.ensures.written _ c.in_ok-count.was in record { prepared = prepared _ _ _ _ _ _ (asked-listed _ _ _ (replicate 64 0) _ c.list_asked.result refl c.list_asked.ensures.replied c.list_asked.ensures.written _ c.in_ok-count.was); left_bound = (pair_left _ _ _ p, pair-right _ _ _ p) }

pub returns-in_err-count : goal.returns-in_err-count
returns-in_err-count c = rw (handed_up _ c.from_residual.ensures) (pair-refused _ _ _ _ _ (asked-rejected _ _ _ (replicate 64 0) _ c.list_asked.result refl c.list_asked.ensures.replied c.list_asked.ensures.written _ c.in_err-count.was))

pub returns : goal.returns
returns c = c.decide_known.ensures _ (asked-listed _ _ _ (replicate 64 0) _ c.list_asked.result refl c.list_asked.ensures.replied c.list_asked.ensures.written _ c.in_ok-count.was)
