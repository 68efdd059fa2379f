use Prim.Native.Nat.{◌+◌, ◌*◌}
use mathlib.Core.Path.{◌≡◌}
use mathlib.Core.Bool.{false}
use lib.ListN.{length}
use Rattle.subsumption.specs.Tables.{count_of}
use Rattle.matching.specs.Inner.Derivation.{seen}
use Rattle.matching.specs.Inner.Writer.{RestKept, Written, unset}
use Rattle.matching.proofs.WriterLaws.Steps.{started}
use Rattle.matching.proofs.writer.write_more.Given as goal

abbrev pub invariant-loop-rule : goal.invariant-loop-rule
invariant-loop-rule l = (length l.marks ≡ length l.initial.marks) × (RestKept l.initial.out l.out l.written l.n × (Written l.concepts l.inclusions l.into l.atoms l.assignment l.marks l.out l.n × (seen (count_of l.concepts) l.marks l.left l.right ≡ false)))

abbrev pub decreases-loop-rule : goal.decreases-loop-rule
decreases-loop-rule l = unset l.marks * 2 + started l.from
