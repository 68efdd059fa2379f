-- What the walk over an interpretation's rows promises (src/membership.rt).
use Rattle.std.specs.Prelude.{ℕ, ◌+◌, ◌*◌, ◌<◌, ◌≤◌, ◌≡◌, Bool, true, false, length, get_or}
use mathlib.Core.List.{List, Memᴰ}
use Rattle.subsumption.specs.Tables.{Tables, tables, var_at, node, count_of, Concept, name, tree, has_variable}
use Rattle.subsumption.specs.Atoms.{pick}
use Rattle.subsumption.specs.Subsumption.{Interpretation, Reading, Member, no_variables}
use Rattle.subsumption.specs.Inner.Tables.{Rising}
use Rattle.subsumption.specs.Inner.Settling.{choose_from}
use Rattle.subsumption.specs.Inner.Listing.{Accepted}
use Rattle.countermodel.specs.Rows.{rows_of, at, interpretation_of}

-- The tables with these concepts are accepted, and these are their atoms. What is left to do reads no other table.
pub record Listing (concepts : List ℕ) (variables : ℕ) (atoms : List ℕ) : Type 0 where
  pub inclusions : List ℕ
  pub questions : List ℕ
  pub roles : List ℕ
  pub accepted : Accepted (tables concepts inclusions questions roles variables) atoms

-- Whatever the other tables are.
abbrev pub ForListing : List ℕ → ℕ → List ℕ → (Tables → Type 0) → Type 0
ForListing concepts variables atoms Holds =
    (inclusions questions roles : List ℕ) → Accepted (tables concepts inclusions questions roles variables) atoms
    → Holds (tables concepts inclusions questions roles variables)

-- An answer is right.
pub record Right (answer : Bool) (P : Type 0) : Type 0 where
  pub yes : answer ≡ true → P
  pub no : answer ≡ false → P → ⊥

-- The kind of a row, as the code reads it.
abbrev pub kind_at : List ℕ → ℕ → ℕ
kind_at rows p = get_or rows (p * 4) 0

-- Rows that passed their checks: elements are below 192.
pub record LowRows (rows : List ℕ) : Type 0 where
  pub kinds : (p : ℕ) → p < rows_of rows → kind_at rows p < 2
  pub left : (p : ℕ) → p < rows_of rows → at rows p 1 < 192
  pub right : (p : ℕ) → p < rows_of rows → at rows p 3 < 192

-- Where the ends of a row's stretch stand: by its element and its kind.
abbrev pub stretch_of : List ℕ → ℕ → ℕ
stretch_of rows p = at rows p 1 * 4 + kind_at rows p * 2

-- Each row is in its stretch.
pub record Stretches (rows ends : List ℕ) : Type 0 where
  pub long : length ends ≡ 768
  pub low : (k : ℕ) → get_or ends k 0 ≤ rows_of rows
  pub from : (p : ℕ) → p < rows_of rows → get_or ends (stretch_of rows p) 0 ≤ p
  pub past : (p : ℕ) → p < rows_of rows → p < get_or ends (stretch_of rows p + 1) 0

-- What the walk asks: the checks have passed, and the atoms are at hand. Atoms hold no variable.
pub record Walkable (concepts atoms assignment rows : List ℕ) : Type 0 where
  pub few : count_of concepts ≤ 192
  pub rising : (i : ℕ) → Rising i (node concepts i)
  pub numbered : (i k : ℕ) → node concepts i ≡ var_at k → k < length assignment
  pub few-atoms : length atoms ≤ 64
  pub atoms-known : (q : ℕ) → q < length atoms → get_or atoms q 0 < count_of concepts
  pub atoms-ground : (q : ℕ) → q < length atoms → has_variable (tree concepts (get_or atoms q 0)) ≡ false
  pub low : LowRows rows

-- Variables read by an assignment of these atoms.
abbrev pub read_by : List ℕ → List ℕ → List ℕ → Interpretation → Reading
read_by concepts atoms assignment I k x = (p : ℕ) → Memᴰ p (choose_from atoms assignment k) → Member I no_variables (tree concepts p) x

-- The element is a member, among the 192 elements that rows can speak of.
abbrev pub IsIn : List ℕ → List ℕ → List ℕ → List ℕ → Concept → ℕ → Type 0
IsIn concepts atoms assignment rows c x =
    Member (interpretation_of 192 rows) (read_by concepts atoms assignment (interpretation_of 192 rows)) c x

-- The element bears the name.
abbrev pub Bears : List ℕ → ℕ → ℕ → Type 0
Bears rows x n = Member (interpretation_of 192 rows) no_variables (name n) x

-- The element is a member of every chosen atom.
abbrev pub IsInAll : List ℕ → List ℕ → List ℕ → List ℕ → ℕ → ℕ → Type 0
IsInAll concepts atoms assignment rows choice x =
    (p : ℕ) → Memᴰ p (pick atoms choice) → IsIn concepts atoms assignment rows (tree concepts p) x

-- An answer in the memo; 0 is no answer yet.
abbrev pub noted : Bool → ℕ
noted true = 1
noted false = 2

-- Each answer in the memo is right.
pub record Remembers (concepts atoms assignment rows memo : List ℕ) : Type 0 where
  pub long : length memo ≡ 36864
  pub yes : (x i : ℕ) → i < 192 → get_or memo (x * 192 + i) 0 ≡ 1 → IsIn concepts atoms assignment rows (tree concepts i) x
  pub no : (x i : ℕ) → i < 192 → get_or memo (x * 192 + i) 0 ≡ 2 → IsIn concepts atoms assignment rows (tree concepts i) x → ⊥

-- The walk answers right, and the memo is right again.
pub record Walked (concepts atoms assignment rows : List ℕ) (P : Type 0) (memo : List ℕ) (answer : Bool) : Type 0 where
  pub answered : Right answer P
  pub remembered : Remembers concepts atoms assignment rows memo
