use mathlib.Core.Path.{refl, sym}
use lib.Seq.{length-take-le}
use native.Mathlib.Omega.{arith}
use lib.ListN.{replicate}
use Rattle.subsumption.proofs.ListingLaws.{tables-rejected, tables-listed, tables-few, prepared}
use Rattle.subsumption.proofs.Deciding.{few-atoms}
use Rattle.matching.proofs.ChosenLaws.Faults.{choosing-rejected, choosing-found}
use Rattle.matching.proofs.chosen.put_chosen.Goals as goal

pub slice_bounds-ids-end : goal.slice_bounds-ids-end
slice_bounds-ids-end c = omega (arith, tables-few _ (replicate 64 0) _ c.list_atoms-atoms.result refl c.list_atoms-atoms.ensures.replied c.list_atoms-atoms.ensures.written _ c.in-Ok.is)

pub slice_bounds-put_known-end : goal.slice_bounds-put_known-end
slice_bounds-put_known-end c = sym (length-take-le _ _ (omega (arith, tables-few _ (replicate 64 0) _ c.list_atoms-atoms.result refl c.list_atoms-atoms.ensures.replied c.list_atoms-atoms.ensures.written _ c.in-Ok.is)))

pub put_known-requires : goal.put_known-requires
put_known-requires c = few-atoms _ _ _ _ _ (prepared _ _ _ _ _ _ (tables-listed _ (replicate 64 0) _ c.list_atoms-atoms.result refl c.list_atoms-atoms.ensures.replied c.list_atoms-atoms.ensures.written _ c.in-Ok.is))

pub returns-in-Err : goal.returns-in-Err
returns-in-Err c = choosing-rejected _ _ _ _ _ _ (tables-rejected _ (replicate 64 0) _ c.list_atoms-atoms.result refl c.list_atoms-atoms.ensures.replied c.list_atoms-atoms.ensures.written _ c.in-Err.is) c.refused_with.ensures

pub returns-in-Ok : goal.returns-in-Ok
returns-in-Ok c = choosing-found _ _ c.args.out.now _ _ _ c.put_known.result (tables-listed _ (replicate 64 0) _ c.list_atoms-atoms.result refl c.list_atoms-atoms.ensures.replied c.list_atoms-atoms.ensures.written _ c.in-Ok.is) c.put_known.ensures.result_value c.put_known.ensures.out_value
