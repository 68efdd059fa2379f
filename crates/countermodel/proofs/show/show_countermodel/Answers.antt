use Rattle.countermodel.proofs.JudgingLaws.{judged-checked, judged-roles}
use Rattle.countermodel.proofs.ShowingLaws.{shows-refused, shows-laid}
use Rattle.subsumption.proofs.Refusals.{handed_up}
use Rattle.countermodel.proofs.show.show_countermodel.Goals as goal

pub returns-in_err-judge_pair : goal.returns-in_err-judge_pair
returns-in_err-judge_pair c = rw (handed_up _ c.from_residual.ensures) (shows-refused _ _ _ _ _ _ _ _ c.judge_pair.ensures c.in_err-judge_pair.was)

pub show_known-requires : goal.show_known-requires
show_known-requires c = record { checked = judged-checked _ _ _ _ _ _ c.judge_pair.ensures c.in_ok-judge_pair.was; low_roles = judged-roles _ _ _ _ _ _ c.judge_pair.ensures c.in_ok-judge_pair.was }

pub returns : goal.returns
returns c = shows-laid _ _ _ _ _ _ _ c.judge_pair.ensures c.in_ok-judge_pair.was _ _ c.show_known.ensures
