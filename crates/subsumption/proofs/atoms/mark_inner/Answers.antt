use Rattle.std.proofs.Common.{rules, false}
use Rattle.subsumption.specs.Atoms.{inside}
use Rattle.subsumption.proofs.Marks.{marked-as, marked-none, marked-one, marked-two}
use Rattle.subsumption.proofs.atoms.mark_inner.Goals as goal

pub returns-in-Top : goal.returns-in-Top
unfolding inside
returns-in-Top c = marked-as (λ q. false) _ _ _ (λ q. search rules) (marked-none _ c.told-marks)

pub returns-in-Exists : goal.returns-in-Exists
unfolding inside
returns-in-Exists c = marked-as _ _ _ _ (λ q. cc) (marked-one _ _ c.told-marks (search rules))

pub returns-in-And : goal.returns-in-And
unfolding inside
returns-in-And c = marked-as _ _ _ _ (λ q. cc) (marked-two _ _ _ c.told-marks (search rules) (search rules))
