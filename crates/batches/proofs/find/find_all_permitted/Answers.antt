use mathlib.Core.Path.{refl, sym}
use native.Mathlib.Omega.{arith}
use lib.ListN.{replicate}
use lib.Seq.{length-take-le}
use Rattle.subsumption.proofs.ListingLaws.{tables-rejected, tables-listed, tables-few}
use Rattle.subsumption.proofs.Accepted.{well_formed}
use Rattle.allowance.specs.Find.{counted_reply}
use Rattle.allowance.proofs.AnswerLaws.{tables-refuse}
use Rattle.batches.proofs.FindLaws.{finds-all}
use Rattle.batches.proofs.find.find_all_permitted.Goals as goal

pub all_atoms-all-requires : goal.all_atoms-all-requires
all_atoms-all-requires c = tables-few _ (replicate 64 0) _ c.list_atoms-listed.result refl c.list_atoms-listed.ensures.replied c.list_atoms-listed.ensures.written _ c.in-Ok.is

pub slice_bounds-ids-end : goal.slice_bounds-ids-end
slice_bounds-ids-end c = omega (arith, tables-few _ (replicate 64 0) _ c.list_atoms-listed.result refl c.list_atoms-listed.ensures.replied c.list_atoms-listed.ensures.written _ c.in-Ok.is)

pub slice_bounds-find_known-end : goal.slice_bounds-find_known-end
slice_bounds-find_known-end c = sym (length-take-le _ _ (omega (arith, tables-few _ (replicate 64 0) _ c.list_atoms-listed.result refl c.list_atoms-listed.ensures.replied c.list_atoms-listed.ensures.written _ c.in-Ok.is)))

pub slice_bounds-all-end : goal.slice_bounds-all-end
slice_bounds-all-end c = omega (arith, c.all_atoms-all.ensures.long, (well_formed _ (tables-listed _ (replicate 64 0) _ c.list_atoms-listed.result refl c.list_atoms-listed.ensures.replied c.list_atoms-listed.ensures.written _ c.in-Ok.is).passed).few-variables)

pub slice_bounds-settings-end : goal.slice_bounds-settings-end
slice_bounds-settings-end c = sym (length-take-le _ _ (omega (arith, c.all_atoms-all.ensures.long, (well_formed _ (tables-listed _ (replicate 64 0) _ c.list_atoms-listed.result refl c.list_atoms-listed.ensures.replied c.list_atoms-listed.ensures.written _ c.in-Ok.is).passed).few-variables)))

pub slice_bounds-most-end : goal.slice_bounds-most-end
slice_bounds-most-end c = (well_formed _ (tables-listed _ (replicate 64 0) _ c.list_atoms-listed.result refl c.list_atoms-listed.ensures.replied c.list_atoms-listed.ensures.written _ c.in-Ok.is).passed).few-variables

pub slice_bounds-settings-end-in-Ok : goal.slice_bounds-settings-end-in-Ok
slice_bounds-settings-end-in-Ok c = sym (length-take-le _ (replicate 8 64) (well_formed _ (tables-listed _ (replicate 64 0) _ c.list_atoms-listed.result refl c.list_atoms-listed.ensures.replied c.list_atoms-listed.ensures.written _ c.in-Ok.is).passed).few-variables)

pub find_known-requires : goal.find_known-requires
find_known-requires c = tables-listed _ (replicate 64 0) _ c.list_atoms-listed.result refl c.list_atoms-listed.ensures.replied c.list_atoms-listed.ensures.written _ c.in-Ok.is

pub returns-in-Err : goal.returns-in-Err
returns-in-Err c = tables-refuse _ _ _ c.args.out.now _ _ c.refused.ensures (tables-rejected _ (replicate 64 0) _ c.list_atoms-listed.result refl c.list_atoms-listed.ensures.replied c.list_atoms-listed.ensures.written _ c.in-Err.is)

pub returns-in-Ok : goal.returns-in-Ok
returns-in-Ok c = finds-all _ _ (tables-listed _ (replicate 64 0) _ c.list_atoms-listed.result refl c.list_atoms-listed.ensures.replied c.list_atoms-listed.ensures.written _ c.in-Ok.is) _ (sym (length-take-le _ _ (omega (arith, tables-few _ (replicate 64 0) _ c.list_atoms-listed.result refl c.list_atoms-listed.ensures.replied c.list_atoms-listed.ensures.written _ c.in-Ok.is)))) _ c.all_atoms-all.ensures c.args.allowance c.args.out.now c.find_known.new.out (counted_reply c.find_known.result) c.find_known.ensures
