-- What making the sets and numbers of a problem promises (src/search/problem.rt).
use Rattle.std.specs.Prelude.{ℕ, ◌+◌, ◌*◌, ◌<◌, ◌≤◌, ◌≡◌, List, Bool, true, false, not, ◌⊎◌, ◌↔◌, eqb, ltb, length, get_or}
use Rattle.subsumption.specs.Tables.{Tables, or, both, and_at, node, count_of, pairs_of, tree, has_variable}
use Rattle.subsumption.specs.Atoms.{inside}
use Rattle.subsumption.specs.Subsumption.{Subsumed}
use Rattle.subsumption.specs.Inner.Tables.{Rising}
use Rattle.subsumption.specs.Inner.Roles.{in_set}
use Rattle.square.specs.Inner.Square.{on_line}
use Rattle.matching.specs.Inner.Search.Problem.{line_at, fit_at, cone_at, closers_at, held_at, left_at, right_at, inner_at, question_count, Covered, Closers, counting, nothing}

-- a list stands at a place of another, and the rest is as before
pub record CopiedAt (from : List ℕ) (at : ℕ) (before after : List ℕ) : Type 0 where
  pub long : length after ≡ length before
  pub here : (p : ℕ) → p < length from → get_or after (at + p) 0 ≡ get_or from p 0
  pub there : (p : ℕ) → (p < at) ⊎ (at + length from ≤ p) → get_or after p 0 ≡ get_or before p 0

pub record HeldNoted (concepts before after : List ℕ) : Type 0 where
  pub long : length after ≡ length before
  pub here : (i : ℕ) → i < count_of concepts → held_at after i ≡ has_variable (tree concepts i)
  pub there : (p : ℕ) → (p < 576) ⊎ (768 ≤ p) → get_or after p 0 ≡ get_or before p 0

-- the numbers before the hints are as before
pub record HintsNoted (before after : List ℕ) : Type 0 where
  pub long : length after ≡ length before
  pub front : (p : ℕ) → p < 899 → get_or after p 0 ≡ get_or before p 0

-- the rows, which ids hold a variable, the atoms, the questions and their number
pub record NumbersOf (concepts questions ids problem : List ℕ) : Type 0 where
  pub long : length problem ≡ 971
  pub rows : (p : ℕ) → p < length concepts → get_or problem p 0 ≡ get_or concepts p 0
  pub no_rows : (p : ℕ) → length concepts ≤ p → p < 576 → get_or problem p 0 ≡ 0
  pub held : (i : ℕ) → i < count_of concepts → held_at problem i ≡ has_variable (tree concepts i)
  pub atoms : (q : ℕ) → q < length ids → get_or problem (768 + q) 0 ≡ get_or ids q 0
  pub no-atoms : (q : ℕ) → length ids ≤ q → q < 64 → get_or problem (768 + q) 0 ≡ 0
  pub sides : (p : ℕ) → p < length questions → get_or problem (832 + p) 0 ≡ get_or questions p 0
  pub no_sides : (p : ℕ) → length questions ≤ p → p < 64 → get_or problem (832 + p) 0 ≡ 0
  pub count : question_count problem ≡ pairs_of questions

-- ---- the sets
-- the kind of an id, and the first of the two numbers beside it
abbrev pub kind_at : List ℕ → ℕ → ℕ
kind_at problem i = get_or problem (i * 3) 0

abbrev pub first_at : List ℕ → ℕ → ℕ
first_at problem i = get_or problem (i * 3 + 1) 0

-- what the sets are made from: ids and roles of the numbers are low
pub record Readable (problem : List ℕ) (count : ℕ) : Type 0 where
  pub long : length problem ≡ 971
  pub few : count ≤ 192
  pub rising : (i : ℕ) → i < count → Rising i (node problem i)
  pub low-roles : (i : ℕ) → i < count → kind_at problem i ≡ 2 → first_at problem i < 100
  pub few-questions : question_count problem ≤ 32
  pub left-known : (m : ℕ) → m < question_count problem → left_at problem m < count
  pub right-known : (m : ℕ) → m < question_count problem → right_at problem m < count

-- the rows and columns are those of the subsumption table under the assignment that chooses nothing
pub record LinesOf (t : Tables) (sets : List ℕ) : Type 0 where
  pub long : length sets ≡ 1152
  pub above :
      (i j : ℕ) → i < count_of t.concepts → j < count_of t.concepts → (on_line sets (line_at false i) j ≡ true)
      ↔ Subsumed t (nothing t) i j
  pub below :
      (i j : ℕ) → i < count_of t.concepts → j < count_of t.concepts → (on_line sets (line_at true j) i ≡ true)
      ↔ Subsumed t (nothing t) i j

-- the lines outside a stretch of words are as before
abbrev pub Outside : ℕ → ℕ → List ℕ → List ℕ → Type 0
Outside start end before after = (at q : ℕ) → q < 192 → (at + 3 ≤ start) ⊎ (end ≤ at) → on_line after at q ≡ on_line before at q

-- the ids that pass the test come to the line, and no other line changes
pub record Filled (at : ℕ) (test : ℕ → Bool) (before after : List ℕ) : Type 0 where
  pub long : length after ≡ length before
  pub here : (q : ℕ) → q < 192 → on_line after at q ≡ or (test q) (on_line before at q)
  pub there : Outside at (at + 3) before after

-- the existential e holds no variable, and its role and that of j count, by the sets of roles
unfoldable pub fits_by : List ℕ → List ℕ → Bool → ℕ → ℕ → Bool
fits_by problem into right j e =
    both (eqb (kind_at problem e) 2) (both (not (held_at problem e)) (counting right (in_set into) (first_at problem j) (first_at problem e)))

-- an existential with a variable
unfoldable pub is_open_at : List ℕ → ℕ → Bool
is_open_at problem j = both (eqb (kind_at problem j) 2) (held_at problem j)

unfoldable pub fits_in : List ℕ → List ℕ → ℕ → Bool → ℕ → ℕ → Bool
fits_in problem into count right j e = both (is_open_at problem j) (both (ltb e count) (fits_by problem into right j e))

pub record FitsNoted (problem into : List ℕ) (count : ℕ) (right : Bool) (before after : List ℕ) : Type 0 where
  pub long : length after ≡ length before
  pub here :
      (j q : ℕ) → j < count → q < 192
      → on_line after (fit_at right j) q ≡ or (fits_in problem into count right j q) (on_line before (fit_at right j) q)
  pub there : Outside (fit_at right 0) (fit_at right 192) before after

-- a variable-free top or conjunction
unfoldable pub is_closer : List ℕ → ℕ → Bool
is_closer problem e = both (not (held_at problem e)) (or (eqb (kind_at problem e) 0) (eqb (kind_at problem e) 3))

-- the id itself, if it holds a variable; the inner ids of i that hold one
abbrev pub held_id : List ℕ → ℕ → ℕ → Bool
held_id problem id q = both (eqb q id) (held_at problem q)

abbrev pub held_inside : List ℕ → ℕ → ℕ → Bool
held_inside problem i q = both (inside (eqb q) (node problem i)) (held_at problem q)

-- a cone: ids that hold a variable, among them the sides, and with an id its inner ones
pub record ConeOf (problem : List ℕ) (count m : ℕ) (line : ℕ → Bool) : Type 0 where
  pub known : (i : ℕ) → i < 192 → line i ≡ true → (i < count) × (held_at problem i ≡ true)
  pub left : held_at problem (left_at problem m) ≡ true → line (left_at problem m) ≡ true
  pub right : held_at problem (right_at problem m) ≡ true → line (right_at problem m) ≡ true
  pub inner : (i q : ℕ) → i < 192 → line i ≡ true → held_inside problem i q ≡ true → line q ≡ true

pub record ConeNoted (problem : List ℕ) (count m : ℕ) (before after : List ℕ) : Type 0 where
  pub long : length after ≡ length before
  pub cone : ConeOf problem count m (on_line after (cone_at m))
  pub there : Outside (cone_at m) (cone_at m + 3) before after

abbrev pub NoCones : List ℕ → Type 0
NoCones sets = (m q : ℕ) → m < 32 → q < 192 → on_line sets (cone_at m) q ≡ false

pub record ConesNoted (problem : List ℕ) (count : ℕ) (before after : List ℕ) : Type 0 where
  pub long : length after ≡ length before
  pub cones : (m : ℕ) → m < question_count problem → ConeOf problem count m (on_line after (cone_at m))
  pub there : Outside (cone_at 0) (closers_at 0) before after

-- ---- the closers
-- the set at word 0 loses nothing
pub record Grew (before after : List ℕ) : Type 0 where
  pub long : length after ≡ length before
  pub kept : (q : ℕ) → on_line before 0 q ≡ true → on_line after 0 q ≡ true

abbrev pub WantsInner : List ℕ → List ℕ → ℕ → List ℕ → Type 0
WantsInner sets problem j wanted = (e : ℕ) → e < 192 → on_line sets (fit_at false j) e ≡ true → on_line wanted 0 (inner_at problem e) ≡ true

pub record AskedFor (sets problem : List ℕ) (m : ℕ) (wanted : List ℕ) : Type 0 where
  pub long : length wanted ≡ 3
  pub right : on_line wanted 0 (right_at problem m) ≡ true
  pub inner : (j : ℕ) → j < 192 → on_line sets (cone_at m) j ≡ true → WantsInner sets problem j wanted

-- whether e is to be kept and is not yet
pub record NewAt (sets problem : List ℕ) (at : ℕ) (wanted : List ℕ) (e : ℕ) (answer : Bool) : Type 0 where
  pub closer : answer ≡ true → is_closer problem e ≡ true
  pub fresh : answer ≡ true → on_line sets at e ≡ false
  pub quiet : answer ≡ false → is_closer problem e ≡ true → on_line sets at e ≡ false → Covered sets problem (on_line wanted 0) e

pub record NextNew (sets problem : List ℕ) (count at : ℕ) (wanted : List ℕ) (from found : ℕ) : Type 0 where
  pub after : from ≤ found
  pub within : found ≤ count
  pub closer : found < count → is_closer problem found ≡ true
  pub fresh : found < count → on_line sets at found ≡ false
  pub quiet :
      (e : ℕ) → from ≤ e → e < found → is_closer problem e ≡ true → on_line sets at e ≡ false → Covered sets problem (on_line wanted 0) e

pub record Kept (problem : List ℕ) (at e : ℕ) (before after wanted more : List ℕ) : Type 0 where
  pub filled : Filled at (λ q. eqb q e) before after
  pub grew : Grew wanted more
  pub members : (i j : ℕ) → node problem e ≡ and_at i j → (on_line more 0 i ≡ true) × (on_line more 0 j ≡ true)

pub record KeptAll (problem : List ℕ) (count at : ℕ) (before after wanted more : List ℕ) : Type 0 where
  pub long : length after ≡ length before
  pub there : Outside at (at + 3) before after
  pub grew : Grew wanted more
  pub only : (e : ℕ) → e < 192 → on_line after at e ≡ true → (e < count) × (is_closer problem e ≡ true)
  pub members :
      (e i j : ℕ) → e < 192 → on_line after at e ≡ true → node problem e ≡ and_at i j → (on_line more 0 i ≡ true) × (on_line more 0 j ≡ true)
  pub quiet : (e : ℕ) → e < count → is_closer problem e ≡ true → on_line after at e ≡ false → Covered after problem (on_line more 0) e

pub record ClosersNoted (problem : List ℕ) (count m : ℕ) (before after : List ℕ) : Type 0 where
  pub long : length after ≡ length before
  pub closers : Closers after problem count m
  pub there : Outside (closers_at m) (closers_at m + 3) before after

abbrev pub NoClosers : List ℕ → Type 0
NoClosers sets = (m q : ℕ) → m < 32 → q < 192 → on_line sets (closers_at m) q ≡ false

pub record AllClosers (problem : List ℕ) (count : ℕ) (before after : List ℕ) : Type 0 where
  pub long : length after ≡ length before
  pub closers : (m : ℕ) → m < question_count problem → Closers after problem count m
  pub there : Outside (closers_at 0) (closers_at 32) before after
