-- Reading told pairs (src/told.rt): the check given the atoms, an id's place among them, and the choices that the pairs tell.
use Rattle.std.specs.Prelude.{ℕ, ◌%◌, ◌<◌, ◌≤◌, ◌≡◌, List, Bool, true, not, eqb, ltb, length, get_or}
use Rattle.subsumption.specs.declared.refusal.Refusal.TheVariants.{BadAssignment}
use Rattle.subsumption.specs.Tables.{or, both, any_below, pairs_of, left_of, right_of}
use Rattle.subsumption.specs.Rules.{contains}
use Rattle.subsumption.specs.Refusal.{or_else, refuse_if, first_at, Outcome}
use Rattle.incremental.specs.Told.{tells, coded}

-- a variable that is not below the count, or an id that is no atom
abbrev pub bad_pair : List ℕ → ℕ → ℕ → ℕ → Bool
bad_pair atoms variables variable id = or (not (ltb variable variables)) (not (contains id atoms))

unfoldable pub told_fault_in : List ℕ → ℕ → List ℕ → Outcome
told_fault_in atoms variables told =
    or_else (refuse_if (not (eqb (length told % 2) 0)) (BadAssignment 0))
    (first_at BadAssignment (λ m. bad_pair atoms variables (left_of told m) (right_of told m)) 0 (pairs_of told))

-- the first place of the id, or the length
pub record PlaceOf (atoms : List ℕ) (id place : ℕ) : Type 0 where
  pub low : place ≤ length atoms
  pub found : place < length atoms → get_or atoms place 0 ≡ id
  pub none : (q : ℕ) → q < place → get_or atoms q 0 ≡ id → ⊥

-- the check passed
pub record Readable (atoms told : List ℕ) : Type 0 where
  pub few : length atoms ≤ 64
  pub distinct : (p q : ℕ) → p < length atoms → q < length atoms → get_or atoms p 0 ≡ get_or atoms q 0 → p ≡ q
  pub left : (m : ℕ) → m < pairs_of told → left_of told m < 8
  pub right : (m : ℕ) → m < pairs_of told → contains (right_of told m) atoms ≡ true

-- one of the first m pairs tells the variable and the id
abbrev pub tells_to : List ℕ → ℕ → ℕ → ℕ → Bool
tells_to told m k p = any_below m (λ n. both (eqb (left_of told n) k) (eqb (right_of told n) p))

pub record ToldTo (atoms told : List ℕ) (m : ℕ) (choices : List ℕ) : Type 0 where
  pub within : m ≤ pairs_of told
  pub long : length choices ≡ 8
  pub each : (k : ℕ) → k < 8 → get_or choices k 0 ≡ coded (tells_to told m k) atoms

pub record ToldChoices (atoms told choices : List ℕ) : Type 0 where
  pub long : length choices ≡ 8
  pub each : (k : ℕ) → k < 8 → get_or choices k 0 ≡ coded (tells told k) atoms
