-- What the passes over marks of ids promise (src/atoms.rt).
use Rattle.std.specs.Prelude.{ℕ, ◌*◌, ◌<◌, ◌≤◌, ◌^◌, ◌≡◌, List, [], ◌++◌, Bool, true, false, not, eqb, length, get_or, drop}
use Rattle.std.specs.Int.Bits.{bit_or}
use Rattle.subsumption.specs.Tables.{tables, or, both, any_below, Node, top_at, name_at, exists_at, and_at, var_at, node, count_of, pairs_of, left_of, right_of, tree, variables_of, has_variable}
use Rattle.subsumption.specs.Atoms.{occurs, is_atomic, stands, is_atom, keep}
use Rattle.subsumption.specs.Inner.Tables.{Rising}

abbrev pub mark_at : List Bool → ℕ → Bool
mark_at marks i = get_or marks i false

-- the checks 1 to 3 passed
pub record Layered (concepts : List ℕ) : Type 0 where
  pub whole : length concepts ≡ count_of concepts * 3
  pub few : count_of concepts ≤ 192
  pub rising : (i : ℕ) → Rising i (node concepts i)

-- check 4 passed
pub record Known (count : ℕ) (pairs : List ℕ) : Type 0 where
  pub left-known : (m : ℕ) → m < pairs_of pairs → left_of pairs m < count
  pub right-known : (m : ℕ) → m < pairs_of pairs → right_of pairs m < count

-- a row holds a variable, by what its inner ids do
unfoldable pub held_by : (ℕ → Bool) → Node → Bool
held_by holds top_at = false
held_by holds (name_at n) = false
held_by holds (exists_at r j) = holds j
held_by holds (and_at j k) = or (holds j) (holds k)
held_by holds (var_at k) = true

-- the set of a row's variables, by those of its inner ids
unfoldable pub set_by : (ℕ → ℕ) → Node → ℕ
set_by sets top_at = 0
set_by sets (name_at n) = 0
set_by sets (exists_at r j) = sets j
set_by sets (and_at j k) = bit_or (sets j) (sets k)
set_by sets (var_at k) = 2 ^ k

-- a variable's number has its bit in eight
abbrev pub Narrow : Node → Type 0
Narrow top_at = Unit {0}
Narrow (name_at n) = Unit {0}
Narrow (exists_at r j) = Unit {0}
Narrow (and_at j k) = Unit {0}
Narrow (var_at k) = k < 8

pub record VariableSets (concepts sets : List ℕ) : Type 0 where
  pub long : length sets ≡ 192
  pub each : (i : ℕ) → i < count_of concepts → get_or sets i 0 ≡ variables_of (tree concepts i)

-- by its set, the id holds a variable
abbrev pub held : List ℕ → ℕ → Bool
held sets i = not (eqb (get_or sets i 0) 0)

pub record VariableMarks (concepts : List ℕ) (marks : List Bool) : Type 0 where
  pub long : length marks ≡ 192
  pub holds : (i : ℕ) → i < count_of concepts → mark_at marks i ≡ has_variable (tree concepts i)

-- the ids that pass the test are marked besides those marked before
pub record MarkedBy (test : ℕ → Bool) (before after : List Bool) : Type 0 where
  pub long : length after ≡ 192
  pub marks : (q : ℕ) → mark_at after q ≡ or (test q) (mark_at before q)

abbrev pub in_pair : List ℕ → ℕ → ℕ → Bool
in_pair pairs q m = or (eqb q (left_of pairs m)) (eqb q (right_of pairs m))

abbrev pub on_side : List ℕ → ℕ → Bool
on_side pairs q = any_below (pairs_of pairs) (in_pair pairs q)

abbrev pub in_ground_right : List ℕ → List ℕ → ℕ → ℕ → Bool
in_ground_right questions sets q m = both (not (held sets (right_of questions m))) (eqb q (right_of questions m))

abbrev pub on_ground_right : List ℕ → List ℕ → ℕ → Bool
on_ground_right questions sets q = any_below (pairs_of questions) (in_ground_right questions sets q)

-- the marks after are those ids that stand in an id marked before
pub record Spread (concepts : List ℕ) (before after : List Bool) : Type 0 where
  pub long : length after ≡ 192
  pub sound :
      (p : ℕ) → p < count_of concepts → mark_at after p ≡ true
      → (q : ℕ) × (q < count_of concepts) × (mark_at before q ≡ true) × (occurs concepts p q ≡ true)
  pub complete : (p q : ℕ) → q < count_of concepts → mark_at before q ≡ true → occurs concepts p q ≡ true → mark_at after p ≡ true

-- only marks that pass the test are kept
pub record Narrowed (concepts : List ℕ) (before after : List Bool) : Type 0 where
  pub long : length after ≡ 192
  pub marks : (p : ℕ) → p < count_of concepts → mark_at after p ≡ both (is_atomic (node concepts p)) (mark_at before p)

-- neither reads roles and the number of variables
pub record StandingMarks (concepts inclusions questions : List ℕ) (marks : List Bool) : Type 0 where
  pub long : length marks ≡ 192
  pub holds : (p : ℕ) → p < count_of concepts → mark_at marks p ≡ stands (tables concepts inclusions questions [] 0) p

pub record AtomMarks (concepts inclusions questions : List ℕ) (marks : List Bool) : Type 0 where
  pub long : length marks ≡ 192
  pub holds : (p : ℕ) → p < count_of concepts → mark_at marks p ≡ is_atom (tables concepts inclusions questions [] 0) p

-- the marked ids below count, rising
abbrev pub marked_ids : List Bool → ℕ → List ℕ
marked_ids marks count = keep (mark_at marks) 0 count

-- a list written to the front of a buffer
abbrev pub in_front : List ℕ → List ℕ → List ℕ
in_front xs before = xs ++ drop (length xs) before
