use mathlib.Core.Path.{refl, sym}
use native.Mathlib.Omega.{arith}
use lib.ListN.{replicate}
use lib.Seq.{length-take-le}
use Rattle.subsumption.proofs.ListingLaws.{tables-rejected, tables-listed, tables-few}
use Rattle.countermodel.proofs.MemberLaws.Deciding.{tables-refused, listing}
use Rattle.subsumption.proofs.Refusals.{handed_up}
use Rattle.countermodel.proofs.membership.decide_member.Goals as goal

pub slice_bounds-ids-end : goal.slice_bounds-ids-end
slice_bounds-ids-end c = omega (arith, tables-few _ (replicate 64 0) _ c.list_atoms.result refl c.list_atoms.ensures.replied c.list_atoms.ensures.written _ c.in_ok-count.was)

pub slice_bounds-decide_known-end : goal.slice_bounds-decide_known-end
slice_bounds-decide_known-end c = sym (length-take-le _ _ (omega (arith, tables-few _ (replicate 64 0) _ c.list_atoms.result refl c.list_atoms.ensures.replied c.list_atoms.ensures.written _ c.in_ok-count.was)))

pub decide_known-requires : goal.decide_known-requires
decide_known-requires c = listing _ _ _ _ _ _ (tables-listed _ (replicate 64 0) _ c.list_atoms.result refl c.list_atoms.ensures.replied c.list_atoms.ensures.written _ c.in_ok-count.was)

pub returns-in_err-count : goal.returns-in_err-count
returns-in_err-count c = rw (handed_up _ c.from_residual.ensures) (tables-refused _ _ _ _ _ _ _ (tables-rejected _ (replicate 64 0) _ c.list_atoms.result refl c.list_atoms.ensures.replied c.list_atoms.ensures.written _ c.in_err-count.was))

pub returns : goal.returns
returns c = c.decide_known.ensures _ _ _ (tables-listed _ (replicate 64 0) _ c.list_atoms.result refl c.list_atoms.ensures.replied c.list_atoms.ensures.written _ c.in_ok-count.was)
