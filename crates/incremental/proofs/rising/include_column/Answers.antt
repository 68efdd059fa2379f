use native.Mathlib.Omega.{arith}
use mathlib.Core.Path.{sym, ◌∙◌}
use Rattle.incremental.proofs.RisingLaws.{gains-more}
use Rattle.incremental.proofs.rising.include_column.Goals as goal

pub loop-m-preserved : goal.loop-m-preserved
loop-m-preserved c = gains-more _ _ c.requires.pairs _ c.requires.j_lt_count c.loop-m.m (omega arith) c.loop-m.invariant (sym c.has.ensures ∙ c.if-not-has.false) c.meet-new.ensures
