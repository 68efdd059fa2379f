use Rattle.hermitcasket.proofs.PlanLaws.{planned-fill, planned-show}
use Rattle.hermitcasket.proofs.answer.plan_tables.Goals as goal

pub returns-in-Fill : goal.returns-in-Fill
returns-in-Fill c = search planned-fill

pub returns-in-Show : goal.returns-in-Show
returns-in-Show c = search planned-show
