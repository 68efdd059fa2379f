use mathlib.Core.Path.{refl, sym}
use native.Mathlib.Omega.{arith}
use lib.ListN.{replicate}
use lib.Seq.{length-take-le}
use Rattle.subsumption.proofs.ListingLaws.{tables-rejected, tables-listed, tables-few}
use Rattle.allowance.proofs.AnswerLaws.{tables-refuse}
use Rattle.allowance.proofs.find.find_counted.Goals as goal

pub slice_bounds-ids-end : goal.slice_bounds-ids-end
slice_bounds-ids-end c = omega (arith, tables-few _ (replicate 64 0) _ c.list_atoms-listed.result refl c.list_atoms-listed.ensures.replied c.list_atoms-listed.ensures.written _ c.in-Ok.is)

pub slice_bounds-find_known-end : goal.slice_bounds-find_known-end
slice_bounds-find_known-end c = sym (length-take-le _ _ (omega (arith, tables-few _ (replicate 64 0) _ c.list_atoms-listed.result refl c.list_atoms-listed.ensures.replied c.list_atoms-listed.ensures.written _ c.in-Ok.is)))

pub find_known-requires : goal.find_known-requires
find_known-requires c = tables-listed _ (replicate 64 0) _ c.list_atoms-listed.result refl c.list_atoms-listed.ensures.replied c.list_atoms-listed.ensures.written _ c.in-Ok.is

pub returns-in-Err : goal.returns-in-Err
returns-in-Err c = tables-refuse _ _ _ c.args.out.now _ _ c.refused.ensures (tables-rejected _ (replicate 64 0) _ c.list_atoms-listed.result refl c.list_atoms-listed.ensures.replied c.list_atoms-listed.ensures.written _ c.in-Err.is)

pub returns-in-Ok : goal.returns-in-Ok
returns-in-Ok c = c.find_known.ensures
