-- What renumbering promises of the tables (02, A.12): the laws of proofs/RenumberingLaws.antt speak of these.
use Rattle.subsumption.specs.Refusal.{Done}
use Rattle.std.specs.Prelude.{ℕ, ◌<◌, ◌≡◌, ◌↔◌}
use mathlib.Core.List.{List, Memᴰ}
use Rattle.subsumption.specs.Tables.{Tables, count_of, tree}
use Rattle.subsumption.specs.Atoms.{chosen}
use Rattle.subsumption.specs.Subsumption.{Subsumed}
use Rattle.subsumption.specs.Check.{table_fault}
use Rattle.subsumption.specs.Table.{marked}
use Rattle.matching.specs.Twins.{FilledNow}
use Rattle.renumbering.specs.Order.{new_id, order_fault, inverse, composed}
use Rattle.renumbering.specs.Renumbering.{rising_fault, renumbered}

-- The tables are accepted, and the list passes its own checks.
pub record Renumberable (t : Tables) (order : List ℕ) : Type 0 where
  pub accepted : table_fault t ≡ Done
  pub listed : order_fault (count_of t.concepts) order ≡ Done
  pub rising : rising_fault t.concepts order ≡ Done

-- The inverse renumbering restores the tables exactly.
pub record Restored (t : Tables) (order : List ℕ) : Type 0 where
  pub able : Renumberable (renumbered order t) (inverse order)
  pub restored : renumbered (inverse order) (renumbered order t) ≡ t

-- One renumbering after another equals the composed one.
pub record Composes (t : Tables) (order next : List ℕ) : Type 0 where
  pub able : Renumberable t (composed order next)
  pub same : renumbered next (renumbered order t) ≡ renumbered (composed order next) t

-- Each concept of the one list of ids is a concept of the other.
abbrev pub ConceptsOf : Tables → List ℕ → Tables → List ℕ → Type 0
ConceptsOf t ids t' others = (p : ℕ) → Memᴰ p ids → (q : ℕ) × Memᴰ q others × (tree t.concepts p ≡ tree t'.concepts q)

-- For each variable two assignments choose the same concepts. Their ids and positions may differ: the lowest twin may be another.
pub record SameConcepts (t : Tables) (assignment : List ℕ) (t' : Tables) (assignment' : List ℕ) : Type 0 where
  pub there : (k : ℕ) → ConceptsOf t (chosen t assignment k) t' (chosen t' assignment' k)
  pub back : (k : ℕ) → ConceptsOf t' (chosen t' assignment' k) t (chosen t assignment k)

-- Below is the old one, with rows and columns moved; so is the table.
abbrev pub MovedBelow : Tables → List ℕ → List ℕ → List ℕ → Type 0
MovedBelow t order assignment assignment' =
    (i j : ℕ) → i < count_of t.concepts → j < count_of t.concepts
    → Subsumed t assignment i j ↔ Subsumed (renumbered order t) assignment' (new_id order i) (new_id order j)

abbrev pub MovedMarks : Tables → List ℕ → List ℕ → List ℕ → Type 0
MovedMarks t order old new =
    (i j : ℕ) → i < count_of t.concepts → j < count_of t.concepts → marked new (new_id order i) (new_id order j) ≡ marked old i j

-- To each filling there is one of the renumbered tables, of the same concepts.
abbrev pub FillsAlike : Tables → Tables → Type 0
FillsAlike t t' =
    (assignment : List ℕ) → FilledNow t assignment → (assignment' : List ℕ) × FilledNow t' assignment'
    × SameConcepts t assignment t' assignment'
