use Prim.Native.Nat.{◌≤◌}
use mathlib.Core.Path.{◌≡◌}
use lib.ListN.{length}
use mathlib.Core.Bool.{true}
use Rattle.matching.specs.Inner.Derivation.{seen}
use Rattle.matching.proofs.DerivationLaws.Rules.{AllBelow}
use Rattle.matching.proofs.derivation.rules.all_marked.Given as goal

abbrev pub invariant-loop-q : goal.invariant-loop-q
invariant-loop-q l = (l.q ≤ length l.atoms) × AllBelow l.atoms l.choice (λ p. seen l.count l.marks l.left p ≡ true) l.q
