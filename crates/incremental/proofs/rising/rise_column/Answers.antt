use Rattle.incremental.proofs.RisingLaws.{risen-none, risen-more}
use Rattle.incremental.proofs.rising.rise_column.Goals as goal

-- src/rising.rt:67:9
pub link_to-b-requires : goal.link_to-b-requires
link_to-b-requires c = record { inner = c.requires.inner; existentials = c.requires.existentials; square = c.settle_column-a.ensures.square; f_bound = c.requires.j_bound }

-- src/rising.rt:69:9
pub returns-then-not-a-b : goal.returns-then-not-a-b
returns-then-not-a-b c = risen-none _ _ _ _ _ (c.if-not-a-b.true) c.settle_column-a.ensures c.link_to-b.ensures

-- src/rising.rt:45:1
pub returns : goal.returns
returns c = risen-more _ _ _ _ _ (c.if-not-a-b.false) c.settle_column-a.ensures c.link_to-b.ensures c.include_column.ensures
