use Prim.Native.Nat.{◌≤◌}
use mathlib.Core.Path.{◌≡◌}
use lib.ListN.{length}
use Rattle.subsumption.specs.Tables.{count_of}
use Rattle.matching.specs.Derivation.{lines_of}
use Rattle.matching.specs.Inner.Derivation.{MarksOf}
use Rattle.matching.proofs.DerivationLaws.Lines.{Passed}
use Rattle.matching.proofs.derivation.check_lines.Given as goal

abbrev pub invariant-loop-k : goal.invariant-loop-k
invariant-loop-k l = (l.k ≤ lines_of l.lines) × ((length l.marks ≡ length l.initial.marks) × (MarksOf (count_of l.concepts) l.marks l.lines l.k × Passed l.concepts l.inclusions l.into l.atoms l.assignment l.lines l.k))
