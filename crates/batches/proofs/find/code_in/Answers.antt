use mathlib.Core.Path.{refl}
use Rattle.batches.proofs.FindLaws.{filled-coded, refused-coded}
use Rattle.batches.proofs.find.code_in.Goals as goal

pub returns-in-Ok : goal.returns-in-Ok
returns-in-Ok c = filled-coded _ _ c.in-Ok.is refl

pub returns-in-Err : goal.returns-in-Err
returns-in-Err c = refused-coded _ _ _ c.in-Err.is c.code_of.ensures
