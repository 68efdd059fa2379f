use Rattle.subsumption.specs.Refusal.{reply_of}
use mathlib.Core.Path.{refl, sym}
use native.Mathlib.Omega.{arith}
use lib.ListN.{replicate}
use lib.Seq.{length-take-le}
use Rattle.subsumption.proofs.ListingLaws.{tables-rejected, tables-listed, tables-few}
use Rattle.subsumption.proofs.Accepted.{well_formed}
use Rattle.matching.proofs.FindLaws.{tables-refuse, finds-all}
use Rattle.subsumption.proofs.Refusals.{handed_up}
use Rattle.matching.proofs.find.find_assignment.Goals as goal

pub all_atoms-all-requires : goal.all_atoms-all-requires
all_atoms-all-requires c = tables-few _ (replicate 64 0) _ c.list_atoms.result refl c.list_atoms.ensures.replied c.list_atoms.ensures.written _ c.in_ok-count.was

pub slice_bounds-ids-end : goal.slice_bounds-ids-end
slice_bounds-ids-end c = omega (arith, tables-few _ (replicate 64 0) _ c.list_atoms.result refl c.list_atoms.ensures.replied c.list_atoms.ensures.written _ c.in_ok-count.was)

pub slice_bounds-find_known-end : goal.slice_bounds-find_known-end
slice_bounds-find_known-end c = sym (length-take-le _ _ (omega (arith, tables-few _ (replicate 64 0) _ c.list_atoms.result refl c.list_atoms.ensures.replied c.list_atoms.ensures.written _ c.in_ok-count.was)))

pub slice_bounds-all-end : goal.slice_bounds-all-end
slice_bounds-all-end c = omega (arith, c.all_atoms-all.ensures.long, (well_formed _ (tables-listed _ (replicate 64 0) _ c.list_atoms.result refl c.list_atoms.ensures.replied c.list_atoms.ensures.written _ c.in_ok-count.was).passed).few-variables)

pub slice_bounds-settings-end : goal.slice_bounds-settings-end
slice_bounds-settings-end c = sym (length-take-le _ _ (omega (arith, c.all_atoms-all.ensures.long, (well_formed _ (tables-listed _ (replicate 64 0) _ c.list_atoms.result refl c.list_atoms.ensures.replied c.list_atoms.ensures.written _ c.in_ok-count.was).passed).few-variables)))

pub slice_bounds-most-end : goal.slice_bounds-most-end
slice_bounds-most-end c = (well_formed _ (tables-listed _ (replicate 64 0) _ c.list_atoms.result refl c.list_atoms.ensures.replied c.list_atoms.ensures.written _ c.in_ok-count.was).passed).few-variables

pub slice_bounds-settings-end-2 : goal.slice_bounds-settings-end-2
slice_bounds-settings-end-2 c = sym (length-take-le _ (replicate 8 64) (well_formed _ (tables-listed _ (replicate 64 0) _ c.list_atoms.result refl c.list_atoms.ensures.replied c.list_atoms.ensures.written _ c.in_ok-count.was).passed).few-variables)

pub find_known-requires : goal.find_known-requires
find_known-requires c = tables-listed _ (replicate 64 0) _ c.list_atoms.result refl c.list_atoms.ensures.replied c.list_atoms.ensures.written _ c.in_ok-count.was

pub returns-in_err-count : goal.returns-in_err-count
returns-in_err-count c = rw (handed_up _ c.from_residual.ensures) (tables-refuse _ c.args.out.now _ (tables-rejected _ (replicate 64 0) _ c.list_atoms.result refl c.list_atoms.ensures.replied c.list_atoms.ensures.written _ c.in_err-count.was))

pub returns : goal.returns
returns c = finds-all _ _ (tables-listed _ (replicate 64 0) _ c.list_atoms.result refl c.list_atoms.ensures.replied c.list_atoms.ensures.written _ c.in_ok-count.was) _ (sym (length-take-le _ _ (omega (arith, tables-few _ (replicate 64 0) _ c.list_atoms.result refl c.list_atoms.ensures.replied c.list_atoms.ensures.written _ c.in_ok-count.was)))) _ c.all_atoms-all.ensures c.args.out.now c.find_known.new.out (reply_of c.find_known.result) c.find_known.ensures
