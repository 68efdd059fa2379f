use native.Mathlib.Omega.{arith}
use Rattle.incremental.proofs.UpdateLaws.{update-refused}
use Rattle.subsumption.proofs.ListingLaws.{tables-rejected, tables-listed, tables-few, prepared}
use mathlib.Core.Path.{refl, sym}
use lib.Seq.{length-take-le}
use lib.ListN.{replicate}
use Rattle.subsumption.proofs.Refusals.{handed_up}
use Rattle.incremental.proofs.update.update_table.Goals as goal

pub slice_bounds-ids-end : goal.slice_bounds-ids-end
slice_bounds-ids-end c = omega (arith, tables-few _ (replicate 64 0) _ c.list_atoms.result refl c.list_atoms.ensures.replied c.list_atoms.ensures.written _ c.in_ok-count.was)

pub slice_bounds-put_update-end : goal.slice_bounds-put_update-end
slice_bounds-put_update-end c = sym (length-take-le _ _ (omega (arith, tables-few _ (replicate 64 0) _ c.list_atoms.result refl c.list_atoms.ensures.replied c.list_atoms.ensures.written _ c.in_ok-count.was)))

pub put_update-requires : goal.put_update-requires
put_update-requires c = prepared _ _ _ _ _ _ (tables-listed _ (replicate 64 0) _ c.list_atoms.result refl c.list_atoms.ensures.replied c.list_atoms.ensures.written _ c.in_ok-count.was)

pub returns-in_err-count : goal.returns-in_err-count
returns-in_err-count c = rw (handed_up _ c.from_residual.ensures) (update-refused _ _ _ _ (tables-rejected _ (replicate 64 0) _ c.list_atoms.result refl c.list_atoms.ensures.replied c.list_atoms.ensures.written _ c.in_err-count.was))

pub returns : goal.returns
returns c = c.put_update.ensures _ (tables-listed _ (replicate 64 0) _ c.list_atoms.result refl c.list_atoms.ensures.replied c.list_atoms.ensures.written _ c.in_ok-count.was)
