-- What counting twins once leaves as it was (A.2): the assignments over the list with all copies, and those over the atoms.
use Rattle.subsumption.specs.Refusal.{Done}
use Rattle.std.specs.Prelude.{ℕ, ◌≡◌, ◌↔◌, length, get_or}
use mathlib.Core.List.{List, Memᴰ}
use Rattle.subsumption.specs.Tables.{Tables, count_of, tree}
use Rattle.subsumption.specs.Atoms.{stands, keep, pick, chosen}
use Rattle.subsumption.specs.Subsumption.{Member, no_variables}
use Rattle.subsumption.specs.Check.{assignment_fault_at, assignment_fault}
use Rattle.matching.specs.Solving.{Solved, Solves}

-- The list before: every id that stands in an inclusion or a variable-free right side, each copy by itself.
unfoldable pub copies : Tables → List ℕ
copies t = keep (stands t) 0 (count_of t.concepts)

unfoldable pub chosen_before : Tables → List ℕ → ℕ → List ℕ
chosen_before t assignment k = pick (copies t) (get_or assignment k 0)

-- An assignment over that list that check 9 accepts and that makes every question hold.
pub record FilledBefore (t : Tables) (assignment : List ℕ) : Type 0 where
  pub accepted : assignment_fault_at (length (copies t)) t.variables assignment ≡ Done
  pub solves : Solved t (λ I k x. (p : ℕ) → Memᴰ p (chosen_before t assignment k) → Member I no_variables (tree t.concepts p) x)

-- The same over the atoms.
pub record FilledNow (t : Tables) (assignment : List ℕ) : Type 0 where
  pub accepted : assignment_fault t assignment ≡ Done
  pub solves : Solves t assignment

-- Each concept of the one list of ids is a concept of the other.
abbrev pub ConceptsIn : Tables → List ℕ → List ℕ → Type 0
ConceptsIn t ids others = (p : ℕ) → Memᴰ p ids → (q : ℕ) × Memᴰ q others × (tree t.concepts p ≡ tree t.concepts q)

-- For each variable the two choose the same concepts.
pub record Corresponds (t : Tables) (before after : List ℕ) : Type 0 where
  pub lowered : (k : ℕ) → ConceptsIn t (chosen_before t before k) (chosen t after k)
  pub copied : (k : ℕ) → ConceptsIn t (chosen t after k) (chosen_before t before k)

-- Each assignment over the one list has a corresponding one over the other, and corresponding ones fill alike.
pub record TwinsCountOnce (t : Tables) : Type 0 where
  pub after : (before : List ℕ) → FilledBefore t before → (after : List ℕ) × FilledNow t after × Corresponds t before after
  pub before : (after : List ℕ) → FilledNow t after → (before : List ℕ) × FilledBefore t before × Corresponds t before after
  pub alike :
      (before after : List ℕ) → assignment_fault_at (length (copies t)) t.variables before ≡ Done → assignment_fault t after ≡ Done
      → Corresponds t before after → FilledBefore t before ↔ FilledNow t after
