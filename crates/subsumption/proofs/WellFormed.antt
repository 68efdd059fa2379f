-- What the checks 1 to 7 leave of tables: the facts that every later proof goes by.
use Prim.Native.Nat.{ℕ, ◌*◌, ◌<◌, ◌≤◌}
use mathlib.Core.Path.{◌≡◌}
use mathlib.Core.Bool.{false}
use lib.ListN.{length}
use Rattle.subsumption.specs.Tables.{Tables, both, exists_at, var_at, node, count_of, pairs_of, left_of, right_of, tree, has_variable}
use Rattle.subsumption.specs.Atoms.{atoms}
use Rattle.subsumption.specs.Inner.Tables.{Rising}

pub record WellFormed (t : Tables) : Type 0 where
  pub whole : length t.concepts ≡ count_of t.concepts * 3
  pub few : count_of t.concepts ≤ 192
  pub even : length t.inclusions ≡ pairs_of t.inclusions * 2
  pub few-inclusions : pairs_of t.inclusions ≤ 96
  pub even-questions : length t.questions ≡ pairs_of t.questions * 2
  pub few-questions : pairs_of t.questions ≤ 32
  pub few-variables : t.variables ≤ 8
  pub rising : (i : ℕ) → Rising i (node t.concepts i)
  pub low-roles : (i r j : ℕ) → node t.concepts i ≡ exists_at r j → r < 100
  pub wide_low : (m : ℕ) → m < pairs_of t.roles → right_of t.roles m < 100
  pub numbered : (i k : ℕ) → node t.concepts i ≡ var_at k → k < t.variables
  pub left-known : (m : ℕ) → m < pairs_of t.inclusions → left_of t.inclusions m < count_of t.concepts
  pub right-known : (m : ℕ) → m < pairs_of t.inclusions → right_of t.inclusions m < count_of t.concepts
  pub left-ground : (m : ℕ) → m < pairs_of t.inclusions → has_variable (tree t.concepts (left_of t.inclusions m)) ≡ false
  pub right-ground : (m : ℕ) → m < pairs_of t.inclusions → has_variable (tree t.concepts (right_of t.inclusions m)) ≡ false
  pub question-left : (m : ℕ) → m < pairs_of t.questions → left_of t.questions m < count_of t.concepts
  pub question-right : (m : ℕ) → m < pairs_of t.questions → right_of t.questions m < count_of t.concepts
  pub one-sided :
      (m : ℕ) → m < pairs_of t.questions
      → both (has_variable (tree t.concepts (left_of t.questions m))) (has_variable (tree t.concepts (right_of t.questions m))) ≡ false
  pub few-atoms : length (atoms t) ≤ 64
