use Rattle.subsumption.specs.Refusal.{reply_of}
use mathlib.Core.Path.{refl, sym}
use native.Mathlib.Omega.{arith}
use lib.ListN.{replicate}
use lib.Seq.{length-take-le}
use Rattle.subsumption.proofs.ListingLaws.{tables-rejected, tables-listed, tables-few}
use Rattle.matching.proofs.FindLaws.{all_asked}
use Rattle.matching.proofs.WithinLaws.{tables-refuse, finds-within}
use Rattle.subsumption.proofs.Refusals.{handed_up}
use Rattle.matching.proofs.within.find_within.Goals as goal

pub slice_bounds-ids-end : goal.slice_bounds-ids-end
slice_bounds-ids-end c = omega (arith, tables-few _ (replicate 64 0) _ c.list_atoms.result refl c.list_atoms.ensures.replied c.list_atoms.ensures.written _ c.in_ok-count.was)

pub slice_bounds-find_known-end : goal.slice_bounds-find_known-end
slice_bounds-find_known-end c = sym (length-take-le _ _ (omega (arith, tables-few _ (replicate 64 0) _ c.list_atoms.result refl c.list_atoms.ensures.replied c.list_atoms.ensures.written _ c.in_ok-count.was)))

pub find_known-requires : goal.find_known-requires
find_known-requires c = tables-listed _ (replicate 64 0) _ c.list_atoms.result refl c.list_atoms.ensures.replied c.list_atoms.ensures.written _ c.in_ok-count.was

pub returns-in_err-count : goal.returns-in_err-count
returns-in_err-count c = rw (handed_up _ c.from_residual.ensures) (tables-refuse _ _ c.args.out.now _ (tables-rejected _ (replicate 64 0) _ c.list_atoms.result refl c.list_atoms.ensures.replied c.list_atoms.ensures.written _ c.in_err-count.was))

pub returns : goal.returns
returns c = finds-within _ _ _ c.args.out.now c.find_known.new.out (reply_of c.find_known.result) (all_asked _ (tables-listed _ (replicate 64 0) _ c.list_atoms.result refl c.list_atoms.ensures.replied c.list_atoms.ensures.written _ c.in_ok-count.was).passed) c.find_known.ensures
