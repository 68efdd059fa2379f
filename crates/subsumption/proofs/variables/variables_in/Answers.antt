use Rattle.subsumption.proofs.Deciding.{pair_left}
use Rattle.subsumption.proofs.ListingLaws.{asked-rejected, asked-passed, asked-listed, asked-few, prepared}
use Rattle.subsumption.proofs.Replies.{with-refused, with_value}
use lib.Seq.{length-take-le}
use lib.ListN.{replicate}
use mathlib.Core.Path.{refl, sym}
use native.Mathlib.Omega.{arith}
use Rattle.subsumption.proofs.Refusals.{handed_up}
use Rattle.subsumption.proofs.variables.variables_in.Goals as goal

pub slice_bounds-ids-end : goal.slice_bounds-ids-end
slice_bounds-ids-end c = omega (arith, asked-few _ _ _ (replicate 64 0) _ c.list_asked.result refl c.list_asked.ensures.replied c.list_asked.ensures.written _ c.in_ok-count.was)

pub slice_bounds-set_at-end : goal.slice_bounds-set_at-end
slice_bounds-set_at-end c = sym (length-take-le _ _ (omega (arith, asked-few _ _ _ (replicate 64 0) _ c.list_asked.result refl c.list_asked.ensures.replied c.list_asked.ensures.written _ c.in_ok-count.was)))

pub set_at-requires : goal.set_at-requires
set_at-requires c = record { prepared = prepared _ _ _ _ _ _ (asked-listed _ _ _ (replicate 64 0) _ c.list_asked.result refl c.list_asked.ensures.replied c.list_asked.ensures.written _ c.in_ok-count.was); id_bound = pair_left _ _ _ (asked-passed _ _ _ (replicate 64 0) _ c.list_asked.result refl c.list_asked.ensures.replied c.list_asked.ensures.written _ c.in_ok-count.was) }

pub returns-in_err-count : goal.returns-in_err-count
returns-in_err-count c = rw (handed_up _ c.from_residual.ensures) (with-refused _ _ _ (asked-rejected _ _ _ (replicate 64 0) _ c.list_asked.result refl c.list_asked.ensures.replied c.list_asked.ensures.written _ c.in_err-count.was))

pub returns : goal.returns
returns c = with_value _ _ _ (asked-passed _ _ _ (replicate 64 0) _ c.list_asked.result refl c.list_asked.ensures.replied c.list_asked.ensures.written _ c.in_ok-count.was) c.set_at.ensures
