use Rattle.renumbering.proofs.MovingLaws.{field-moved, field-kept}
use Rattle.renumbering.proofs.moving.moved_field.Goals as goal

pub bounds-order-x : goal.bounds-order-x
bounds-order-x c = c.requires c.if-inner.true

pub returns-then-inner : goal.returns-then-inner
returns-then-inner c = field-moved _ _ _ c.if-inner.true

pub returns : goal.returns
returns c = field-kept _ _ _ c.if-inner.false
