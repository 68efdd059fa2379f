use mathlib.Core.Path.{refl}
use Rattle.subsumption.proofs.Refusals.{stops, goes_on}
use Rattle.groups.proofs.find.refuse_place.Goals as goal

pub returns-in-Err : goal.returns-in-Err
returns-in-Err c = stops _ _ _ _ c.check_concepts.ensures c.in-Err.is

pub returns-in-Ok : goal.returns-in-Ok
returns-in-Ok c = goes_on _ _ _ _ c.check_concepts.ensures c.in-Ok.is refl
