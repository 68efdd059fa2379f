use Rattle.hermitcasket.specs.Text.{pair_at}
use Rattle.hermitcasket.proofs.PartLaws.{Lined}
use Rattle.hermitcasket.proofs.text.read_pairs.Given as goal

abbrev pub invariant-loop-i : goal.invariant-loop-i
invariant-loop-i l = Lined (pair_at l.key) 2 l.count l.at l.part l.out l.rest l.i l.used
