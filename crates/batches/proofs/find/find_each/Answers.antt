use native.Mathlib.Omega.{arith}
use Rattle.batches.proofs.BatchLaws.{few-tables, same_number, share-few, ends-within}
use Rattle.batches.proofs.RunLaws.{ran-none, ran-more, ran-all}
use Rattle.batches.proofs.find.find_each.Goals as goal

pub loop-k-init : goal.loop-k-init
loop-k-init c = ran-none _ _ _ _

pub overflow_add-end : goal.overflow_add-end
overflow_add-end c = omega (arith, ends-within _ _ _ c.requires c.loop-k.k c.loop-k-test.true, c.loop-k.invariant.started)

pub bounds-shares-k : goal.bounds-shares-k
bounds-shares-k c = omega (arith, same_number _ _ _ c.requires)

pub overflow_add-amount : goal.overflow_add-amount
overflow_add-amount c = omega (arith, few-tables _ _ _ c.requires, share-few _ _ _ c.requires c.loop-k.k c.loop-k-test.true, c.loop-k.invariant.few)

pub offset_bounds-tables-start : goal.offset_bounds-tables-start
offset_bounds-tables-start c = omega (arith, ends-within _ _ _ c.requires c.loop-k.k c.loop-k-test.true, c.loop-k.invariant.started)

pub slice_bounds-find_at-end : goal.slice_bounds-find_at-end
slice_bounds-find_at-end c = omega (arith, ends-within _ _ _ c.requires c.loop-k.k c.loop-k-test.true, c.loop-k.invariant.started)

pub find_at-counted-requires : goal.find_at-counted-requires
find_at-counted-requires c = omega (arith, few-tables _ _ _ c.requires)

pub bounds-numbers-k : goal.bounds-numbers-k
bounds-numbers-k c = omega (arith, few-tables _ _ _ c.requires)

pub offset_bounds-places-k : goal.offset_bounds-places-k
offset_bounds-places-k c = omega (arith, few-tables _ _ _ c.requires)

pub bounds-places-k : goal.bounds-places-k
bounds-places-k c = omega (arith, few-tables _ _ _ c.requires)

pub bounds-counts-k : goal.bounds-counts-k
bounds-counts-k c = omega (arith, few-tables _ _ _ c.requires)

pub loop-k-preserved : goal.loop-k-preserved
loop-k-preserved c = ran-more _ _ _ _ _ _ _ _ _ _ _ c.loop-k.invariant c.loop-k-test.true (few-tables _ _ _ c.requires) _ _ _ _ _ (c.code_in-code.ensures _) c.find_at-counted.ensures (share-few _ _ _ c.requires c.loop-k.k c.loop-k-test.true)

pub returns : goal.returns
returns c = ran-all _ _ _ _ _ _ _ _ _ _ _ c.loop-k.invariant c.loop-k-test.false
