use native.Mathlib.Omega.{arith}
use Rattle.subsumption.specs.Inner.Lent.{given}
use Rattle.numerals.proofs.PieceLaws.{printed-none}
use Rattle.hermitcasket.proofs.FillLaws.{fill-room, fills-more, fills-done}
use Rattle.hermitcasket.proofs.filled.put_fills.Goals as goal

pub loop-k-init : goal.loop-k-init
loop-k-init c = printed-none _ _ _

pub put_variable-end-requires : goal.put_variable-end-requires
put_variable-end-requires c = record {
  variables_value = c.requires.variables_value;
  assignment_value = c.requires.assignment_value;
  variable_lt_variables = omega arith;
  variable_in_bounds =
      fill-room (given c.args.tables) _
      c.requires.assignment_value _ _ _ _ _ c.loop-k.invariant (omega arith) c.requires.assignment_in_bounds;
}

pub loop-k-preserved : goal.loop-k-preserved
loop-k-preserved c =
    fills-more _ _ c.requires.assignment_value _ _ _ _ _ c.loop-k.invariant (omega arith)
    c.requires.assignment_in_bounds _ _ c.put_variable-end.ensures

pub returns : goal.returns
returns c = search fills-done
