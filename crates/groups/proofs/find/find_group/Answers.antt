use mathlib.Core.Path.{refl, sym}
use native.Mathlib.Omega.{arith}
use lib.ListN.{replicate}
use lib.Seq.{length-take-le}
use Rattle.subsumption.proofs.ListingLaws.{tables-rejected, tables-listed, tables-few}
use Rattle.groups.proofs.FindLaws.{place-refuses, tables-refuse}
use Rattle.subsumption.proofs.Refusals.{handed_up}
use Rattle.groups.proofs.find.find_group.Goals as goal

pub returns-then-m-tables : goal.returns-then-m-tables
returns-then-m-tables c = place-refuses _ _ _ c.args.out.now _ (omega (arith, c.if-m-tables.true)) c.refuse_place.ensures

pub slice_bounds-ids-end : goal.slice_bounds-ids-end
slice_bounds-ids-end c = omega (arith, tables-few _ (replicate 64 0) _ c.list_atoms.result refl c.list_atoms.ensures.replied c.list_atoms.ensures.written _ c.in_ok-count.was)

pub slice_bounds-find_placed-end : goal.slice_bounds-find_placed-end
slice_bounds-find_placed-end c = sym (length-take-le _ _ (omega (arith, tables-few _ (replicate 64 0) _ c.list_atoms.result refl c.list_atoms.ensures.replied c.list_atoms.ensures.written _ c.in_ok-count.was)))

pub find_placed-requires : goal.find_placed-requires
find_placed-requires c = record { accepted = tables-listed _ (replicate 64 0) _ c.list_atoms.result refl c.list_atoms.ensures.replied c.list_atoms.ensures.written _ c.in_ok-count.was; m_bound = omega (arith, c.if-m-tables.false) }

pub returns-in_err-count : goal.returns-in_err-count
returns-in_err-count c = rw (handed_up _ c.from_residual.ensures) (tables-refuse _ _ _ c.args.out.now _ (omega (arith, c.if-m-tables.false)) (tables-rejected _ (replicate 64 0) _ c.list_atoms.result refl c.list_atoms.ensures.replied c.list_atoms.ensures.written _ c.in_err-count.was))
