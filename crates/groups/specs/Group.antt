-- Groups of questions (02, A.10): those that share a variable (01: a blank), directly or through others; those without variables
-- are one more.
use Rattle.std.specs.Prelude.{ℕ, ◌<◌, ◌≡◌, List, [], ◌∷◌, Bool, true, false, ◌⊎◌}
use Rattle.subsumption.specs.Tables.{Tables, or, pairs_of, left_of, right_of, tree}
use Rattle.subsumption.specs.Variables.{stands_in}

-- Variable k stands in question m, on either side.
unfoldable pub holds : Tables → ℕ → ℕ → Bool
holds t m k = or (stands_in k (tree t.concepts (left_of t.questions m))) (stands_in k (tree t.concepts (right_of t.questions m)))

-- The two questions share a variable.
pub record Share (t : Tables) (m n : ℕ) : Type 0 where
  pub variable : ℕ
  pub first : holds t m variable ≡ true
  pub second : holds t n variable ≡ true

-- From question m over others to question n, each shares a variable with the next.
abbrev pub Chain : Tables → ℕ → List ℕ → ℕ → Type 0
Chain t m [] n = Share t m n
Chain t m (o ∷ others) n = (o < pairs_of t.questions) × Share t m o × Chain t o others n

-- They share a variable, directly or through others.
pub record Joined (t : Tables) (m n : ℕ) : Type 0 where
  pub others : List ℕ
  pub chain : Chain t m others n

-- No variable stands in the question.
abbrev pub Ground : Tables → ℕ → Type 0
Ground t m = (k : ℕ) → holds t m k ≡ false

-- Question n is in the group of question m.
abbrev pub InGroup : Tables → ℕ → ℕ → Type 0
InGroup t m n = Joined t m n ⊎ (Ground t m × Ground t n)

-- No question of the group holds the variable.
abbrev pub Outside : Tables → ℕ → ℕ → Type 0
Outside t m k = (n : ℕ) → n < pairs_of t.questions → InGroup t m n → holds t n k ≡ false
