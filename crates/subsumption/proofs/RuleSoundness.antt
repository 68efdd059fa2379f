-- A right line over pairs that are subsumed proves a pair that is subsumed.
use Prim.Native.Nat.{ℕ, ◌<◌}
use mathlib.Core.Path.{◌≡◌}
use mathlib.Core.List.{List}
use mathlib.Core.Bool.{Bool, true}
use Rattle.subsumption.specs.Tables.{Tables, count_of, right_of}
use Rattle.subsumption.specs.Atoms.{chosen}
use Rattle.subsumption.specs.Roles.{wider}
use Rattle.subsumption.specs.Subsumption.{assigned, Subsumed}
use Rattle.subsumption.specs.Rules.{follows}
use Rattle.subsumption.specs.Inner.Closure.{Steps}
use Rattle.subsumption.proofs.WellFormed.{WellFormed}
use Rattle.subsumption.proofs.Soundness.{subsumed-same, subsumed-trans, subsumed-steps}
use Rattle.subsumption.proofs.Rules.{Rules, follows-elim}

module _ (t : Tables) (assignment : List ℕ) (wf : WellFormed t) where
  steps : Steps t.concepts t.inclusions (wider t.roles) (chosen t assignment) (Subsumed t assignment)
  steps = subsumed-steps t assignment wf

  same : (i : ℕ) → Subsumed t assignment i i
  same = subsumed-same t (assigned t assignment)

  trans : (i j k : ℕ) → Subsumed t assignment i j → Subsumed t assignment j k → Subsumed t assignment i k
  trans = subsumed-trans t (assigned t assignment)

  pub subsumed-rules : Rules t assignment (Subsumed t assignment)
  subsumed-rules =
      record {
        same = λ i l. same i;
        named = λ i j n l k e f. steps.named i i j n l l k e f (same i);
        top = steps.top;
        first = λ i j a b l k e s. trans i a j (steps.first i i a b l l e (same i)) s;
        second = λ i j a b l k e s. trans i b j (steps.second i i a b l l e (same i)) s;
        meet = steps.meet;
        linked = λ i j r q a b l k e f w s. steps.linked i i j r q a b l l k e f w s (same i);
        included = λ i j m l k u p q. trans i (right_of t.inclusions m) j (steps.included i m l u p) q;
        chooses = λ i j v p l k e m s. trans i p j (steps.chooses i i v p l l e m (same i)) s;
        all-chosen = steps.all-chosen;
      }

  pub follows-sound :
      (proved : ℕ → ℕ → Bool)
      → ((i j : ℕ) → i < count_of t.concepts → j < count_of t.concepts → proved i j ≡ true → Subsumed t assignment i j)
      → (rule left right extra : ℕ) → follows t assignment proved rule left right extra ≡ true → Subsumed t assignment left right
  follows-sound = follows-elim t assignment wf (Subsumed t assignment) subsumed-rules
