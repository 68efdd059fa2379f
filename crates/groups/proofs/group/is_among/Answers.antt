use Rattle.groups.proofs.GroupLaws.{meeting-belongs, apart-belongs}
use Rattle.groups.proofs.group.is_among.Goals as goal

pub returns-then-reached-set-ne0 : goal.returns-then-reached-set-ne0
returns-then-reached-set-ne0 c = meeting-belongs _ _ c.if-reached-set-ne0.true

pub returns : goal.returns
returns c = apart-belongs _ _ c.if-reached-set-ne0.false
