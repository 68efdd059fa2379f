use Rattle.renumbering.proofs.MovingLaws.{first-known, second-known, row_moved}
use Rattle.renumbering.proofs.moving.moved_row.Goals as goal

pub moved_field-a-requires : goal.moved_field-a-requires
moved_field-a-requires c = first-known _ c.args.order.now c.requires.inward c.requires.order_len _ c.requires.i_bound _ c.row_at-row.ensures

pub moved_field-b-requires : goal.moved_field-b-requires
moved_field-b-requires c = second-known _ c.args.order.now c.requires.inward c.requires.order_len _ c.requires.i_bound _ c.row_at-row.ensures

pub returns : goal.returns
returns c = row_moved _ _ _ _ _ _ c.row_at-row.ensures c.moved_field-a.ensures c.moved_field-b.ensures
