use Rattle.hermitcasket.specs.Text.{row_at}
use Rattle.hermitcasket.proofs.PartLaws.{Lined}
use Rattle.hermitcasket.proofs.text.read_rows.Given as goal

abbrev pub invariant-loop-i : goal.invariant-loop-i
invariant-loop-i l = Lined row_at 3 l.count l.at l.part l.out l.rest l.i l.used
