use Prim.Native.Nat.{◌≤◌}
use mathlib.Core.Path.{◌≡◌}
use lib.ListN.{length}
use Rattle.matching.proofs.DerivationLaws.Rules.{AllBelow}
use Rattle.matching.proofs.derivation.rules.is_chosen.Given as goal

abbrev pub invariant-loop-q : goal.invariant-loop-q
invariant-loop-q l = (l.q ≤ length l.atoms) × AllBelow l.atoms l.choice (λ p. p ≡ l.id → ⊥) l.q
