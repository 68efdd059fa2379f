use Rattle.matching.proofs.WriterLaws.Writing.{derive-refused}
use Rattle.subsumption.proofs.Deciding.{pair_left, pair-right}
use Rattle.subsumption.proofs.ListingLaws.{asked-rejected, asked-passed, asked-listed, asked-few, prepared}
use lib.Seq.{length-take-le}
use lib.ListN.{replicate}
use mathlib.Core.Path.{refl, sym}
use native.Mathlib.Omega.{arith}
use Rattle.subsumption.proofs.Refusals.{handed_up}
use Rattle.matching.proofs.writer.derive.Goals as goal

pub slice_bounds-ids-end : goal.slice_bounds-ids-end
slice_bounds-ids-end c = omega (arith, asked-few _ _ _ (replicate 64 0) _ c.list_asked.result refl c.list_asked.ensures.replied c.list_asked.ensures.written _ c.in_ok-count.was)

pub slice_bounds-derive_known-end : goal.slice_bounds-derive_known-end
slice_bounds-derive_known-end c = sym (length-take-le _ _ (omega (arith, asked-few _ _ _ (replicate 64 0) _ c.list_asked.result refl c.list_asked.ensures.replied c.list_asked.ensures.written _ c.in_ok-count.was)))

pub derive_known-requires : goal.derive_known-requires
derive_known-requires c = let p = asked-passed _ _ _ (replicate 64 0) _ c.list_asked.result refl c.list_asked.ensures.replied c.list_asked.ensures.written _ c.in_ok-count.was in record { prepared = prepared _ _ _ _ _ _ (asked-listed _ _ _ (replicate 64 0) _ c.list_asked.result refl c.list_asked.ensures.replied c.list_asked.ensures.written _ c.in_ok-count.was); left_bound = (pair_left _ _ _ p, pair-right _ _ _ p) }

pub returns-in_err-count : goal.returns-in_err-count
returns-in_err-count c = rw (handed_up _ c.from_residual.ensures) (derive-refused _ _ _ _ c.args.out.now _ (asked-rejected _ _ _ (replicate 64 0) _ c.list_asked.result refl c.list_asked.ensures.replied c.list_asked.ensures.written _ c.in_err-count.was))

pub returns : goal.returns
returns c = c.derive_known.ensures _ (asked-listed _ _ _ (replicate 64 0) _ c.list_asked.result refl c.list_asked.ensures.replied c.list_asked.ensures.written _ c.in_ok-count.was)
