-- What tests are lent in place of the tables (src/search/problem.rt): sets of ids, three words each, and the numbers that a test reads.
use Rattle.subsumption.specs.Refusal.{Done}
use Rattle.std.specs.Prelude.{ℕ, ◌+◌, ◌*◌, ◌<◌, ◌≤◌, ◌≡◌, List, Bool, true, false, ◌↔◌, eqb, length, get_or, take, replicate}
use Rattle.subsumption.specs.Tables.{Tables, or, Node, top_at, name_at, exists_at, and_at, var_at, node, count_of, pairs_of, left_of, right_of, tree, has_variable}
use Rattle.subsumption.specs.Atoms.{atoms}
use Rattle.subsumption.specs.Roles.{wider}
use Rattle.subsumption.specs.Subsumption.{Subsumed}
use Rattle.subsumption.specs.Check.{table_fault}
use Rattle.square.specs.Inner.Square.{on_line}

-- ---- the sets
-- where the line of a variable-free id starts: on the right side of a question its column, on the left side its row
abbrev pub line_at : Bool → ℕ → ℕ
line_at true i = 576 + i * 3
line_at false i = i * 3

-- where the existentials stand that fit an existential with a variable
abbrev pub fit_at : Bool → ℕ → ℕ
fit_at true i = 1152 + i * 3
fit_at false i = 1728 + i * 3

-- where the cone of a question starts: the ids of its sides that hold a variable
abbrev pub cone_at : ℕ → ℕ
cone_at m = 2304 + m * 3

-- where the tops and conjunctions of a question start that are walked through when its left values are closed
abbrev pub closers_at : ℕ → ℕ
closers_at m = 2400 + m * 3

-- ---- the numbers: from 0 on the rows of the ids
abbrev pub held_at : List ℕ → ℕ → Bool
held_at problem i = eqb (get_or problem (576 + i) 0) 1

abbrev pub atom_at : List ℕ → ℕ → ℕ
atom_at problem q = get_or problem (768 + q) 0

abbrev pub left_at : List ℕ → ℕ → ℕ
left_at problem m = get_or problem (832 + m * 2) 0

abbrev pub right_at : List ℕ → ℕ → ℕ
right_at problem m = get_or problem (832 + m * 2 + 1) 0

abbrev pub question_count : List ℕ → ℕ
question_count problem = get_or problem 897 0

-- the largest count of a variable
abbrev pub most_at : List ℕ → ℕ → ℕ
most_at problem k = get_or problem (931 + k) 0

-- question m is asked
abbrev pub AskedAt : List ℕ → ℕ → Type 0
AskedAt problem m = eqb (get_or problem (939 + m) 0) 1 ≡ true

-- the inner id of an existential, the second one of a conjunction
abbrev pub inner_at : List ℕ → ℕ → ℕ
inner_at problem i = get_or problem (i * 3 + 2) 0

-- What keeps every reading of the numbers inside the lists.
pub record Numbers (problem : List ℕ) : Type 0 where
  pub long : length problem ≡ 971
  pub kind-low : (i : ℕ) → i < 192 → get_or problem (i * 3) 0 < 5
  pub inner-low : (i : ℕ) → i < 192 → inner_at problem i < 192
  pub first-low : (i : ℕ) → i < 192 → get_or problem (i * 3) 0 ≡ 3 → get_or problem (i * 3 + 1) 0 < 192
  pub variable-low : (i : ℕ) → i < 192 → get_or problem (i * 3) 0 ≡ 4 → get_or problem (i * 3 + 1) 0 < 8
  pub atoms-low : (q : ℕ) → q < 64 → atom_at problem q < 192
  pub left-low : (m : ℕ) → m < 32 → left_at problem m < 192
  pub right-low : (m : ℕ) → m < 32 → right_at problem m < 192
  pub few : question_count problem ≤ 32

pub record Shaped (sets problem : List ℕ) : Type 0 where
  pub sets-long : length sets ≡ 2496
  pub numbers : Numbers problem

-- ---- what they tell of the tables
-- the id is known and holds no variable
pub record FreeId (t : Tables) (i : ℕ) : Type 0 where
  pub ground : has_variable (tree t.concepts i) ≡ false
  pub known : i < count_of t.concepts

-- the assignment that chooses nothing
abbrev pub nothing : Tables → List ℕ
nothing t = take t.variables (replicate 8 0)

-- Of two existentials, the role of the one counts as that of the other: on the right the variable-free one's as the other's, on the left
-- the other way.
abbrev pub counting : Bool → (ℕ → ℕ → Bool) → ℕ → ℕ → Bool
counting true wide own free = wide free own
counting false wide own free = wide own free

pub record Fitting (t : Tables) (right : Bool) (j e : ℕ) : Type 0 where
  pub free : FreeId t e
  pub own-role : ℕ
  pub own-inner : ℕ
  pub role : ℕ
  pub inner : ℕ
  pub own : node t.concepts j ≡ exists_at own-role own-inner
  pub row : node t.concepts e ≡ exists_at role inner
  pub counts : counting right (wider t.roles) own-role role ≡ true

-- top, or a conjunction
unfoldable pub closes : Node → Bool
closes top_at = true
closes (name_at n) = false
closes (exists_at r j) = false
closes (and_at i j) = true
closes (var_at k) = false

-- d is in the row of a member
unfoldable pub in_members : List ℕ → Node → ℕ → Bool
in_members sets top_at d = false
in_members sets (name_at n) d = false
in_members sets (exists_at r j) d = false
in_members sets (and_at i j) d = or (on_line sets (line_at false i) d) (on_line sets (line_at false j) d)
in_members sets (var_at k) d = false

-- the row of e brings nothing wanted that the rows of its members do not bring
abbrev pub Covered : List ℕ → List ℕ → (ℕ → Bool) → ℕ → Type 0
Covered sets problem wanted e =
    (d : ℕ) → d < 192 → on_line sets (line_at false e) d ≡ true → wanted d ≡ true → in_members sets (node problem e) d ≡ true

-- What is asked of closed left values of question m: the right side, and the inner ids of existentials that fit one of the cone.
-- With it are wanted the members of the conjunctions that are kept. What is not kept brings nothing wanted.
pub record Closers (sets problem : List ℕ) (count m : ℕ) : Type 0 where
  pub wanted : ℕ → Bool
  pub right : wanted (right_at problem m) ≡ true
  pub inner :
      (j e : ℕ) → j < 192 → e < 192 → on_line sets (cone_at m) j ≡ true → on_line sets (fit_at false j) e ≡ true
      → wanted (inner_at problem e) ≡ true
  pub only : (e : ℕ) → e < 192 → on_line sets (closers_at m) e ≡ true → (e < count) × (held_at problem e ≡ false)
  pub members :
      (e i j : ℕ) → e < 192 → on_line sets (closers_at m) e ≡ true → node problem e ≡ and_at i j → (wanted i ≡ true) × (wanted j ≡ true)
  pub quiet :
      (e : ℕ) → e < count → held_at problem e ≡ false → closes (node problem e) ≡ true → on_line sets (closers_at m) e ≡ false
      → Covered sets problem wanted e

-- a side of question m that holds a variable is in the cone, and with an id its inner ids that hold a variable
pub record Cone (t : Tables) (sets : List ℕ) (m : ℕ) : Type 0 where
  pub known :
      (i : ℕ) → i < 192 → on_line sets (cone_at m) i ≡ true → (i < count_of t.concepts) × (has_variable (tree t.concepts i) ≡ true)
  pub left : has_variable (tree t.concepts (left_of t.questions m)) ≡ true → on_line sets (cone_at m) (left_of t.questions m) ≡ true
  pub right : has_variable (tree t.concepts (right_of t.questions m)) ≡ true → on_line sets (cone_at m) (right_of t.questions m) ≡ true
  pub inner :
      (i r j : ℕ) → i < 192 → on_line sets (cone_at m) i ≡ true → node t.concepts i ≡ exists_at r j
      → has_variable (tree t.concepts j) ≡ true
      → on_line sets (cone_at m) j ≡ true
  pub first :
      (i j k : ℕ) → i < 192 → on_line sets (cone_at m) i ≡ true → node t.concepts i ≡ and_at j k → has_variable (tree t.concepts j) ≡ true
      → on_line sets (cone_at m) j ≡ true
  pub second :
      (i j k : ℕ) → i < 192 → on_line sets (cone_at m) i ≡ true → node t.concepts i ≡ and_at j k → has_variable (tree t.concepts k) ≡ true
      → on_line sets (cone_at m) k ≡ true

-- The sets and numbers are those of accepted tables.
pub record Problem (t : Tables) (sets problem : List ℕ) : Type 0 where
  pub passed : table_fault t ≡ Done
  pub rows : (i : ℕ) → i < count_of t.concepts → node problem i ≡ node t.concepts i
  pub held : (i : ℕ) → i < count_of t.concepts → held_at problem i ≡ has_variable (tree t.concepts i)
  pub atom : (q : ℕ) → q < length (atoms t) → atom_at problem q ≡ get_or (atoms t) q 0
  pub questions : question_count problem ≡ pairs_of t.questions
  pub left : (m : ℕ) → m < pairs_of t.questions → left_at problem m ≡ left_of t.questions m
  pub right : (m : ℕ) → m < pairs_of t.questions → right_at problem m ≡ right_of t.questions m
  pub above : (i j : ℕ) → FreeId t i → FreeId t j → (on_line sets (line_at false i) j ≡ true) ↔ Subsumed t (nothing t) i j
  pub below : (i j : ℕ) → FreeId t i → FreeId t j → (on_line sets (line_at true j) i ≡ true) ↔ Subsumed t (nothing t) i j
  pub fits :
      (right : Bool) (j e : ℕ) → j < count_of t.concepts → e < 192 → held_at problem j ≡ true
      → (on_line sets (fit_at right j) e ≡ true) ↔ Fitting t right j e
  pub cones : (m : ℕ) → m < pairs_of t.questions → Cone t sets m
  pub closers : (m : ℕ) → m < pairs_of t.questions → Closers sets problem (count_of t.concepts) m
