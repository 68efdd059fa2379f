use native.Mathlib.Omega.{arith}
use lib.ListN.{length-set}
use Rattle.matching.proofs.ChosenLaws.Picked.{pick-length, pick-few, writing-rest, writing-known, writing_more, writing-done}
use Rattle.matching.proofs.chosen.put_picked.Goals as goal

pub bounds-ids-position : goal.bounds-ids-position
bounds-ids-position c = writing-known _ _ _ _ _ _ c.loop-listed.invariant.1 (omega (arith, pick-length c.args.ids.now c.args.choice c.requires.choice_bound)) c.requires.ids_len_bound

pub overflow_sub-rest : goal.overflow_sub-rest
overflow_sub-rest c = writing-rest _ _ _ _ _ _ c.loop-listed.invariant.1 (omega (arith, pick-length c.args.ids.now c.args.choice c.requires.choice_bound))

pub loop-listed-preserved : goal.loop-listed-preserved
loop-listed-preserved c = (
  simp length-set c.loop-listed.invariant.0,
  writing_more _ _ _ _ _ _ c.loop-listed.invariant.1 (omega (arith, pick-length c.args.ids.now c.args.choice c.requires.choice_bound)) c.requires.ids_len_bound (omega (arith, pick-few c.args.ids.now c.args.choice c.requires.choice_bound)),
)

pub returns : goal.returns
returns c = record { value = pick-length _ _ c.requires.choice_bound; out_value = writing-done _ _ _ _ _ _ c.loop-listed.invariant.1 (omega (arith, pick-length c.args.ids.now c.args.choice c.requires.choice_bound)) }
