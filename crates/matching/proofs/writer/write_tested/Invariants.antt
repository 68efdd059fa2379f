use mathlib.Core.Path.{◌≡◌}
use mathlib.Core.Bool.{false}
use lib.ListN.{length}
use Rattle.subsumption.specs.Tables.{count_of}
use Rattle.matching.specs.Inner.Derivation.{seen}
use Rattle.matching.specs.Inner.Writer.{RestKept, Written}
use Rattle.matching.proofs.writer.write_tested.Given as goal

abbrev pub invariant-loop-k : goal.invariant-loop-k
invariant-loop-k l = (length l.marks ≡ length l.initial.marks) × (RestKept l.initial.out l.out 0 l.n × (Written l.concepts l.inclusions l.into l.atoms l.assignment l.marks l.out l.n × (seen (count_of l.concepts) l.marks l.left l.right ≡ false)))
