-- What the values of a pattern and the test of a question promise (src/search/patterns.rt).
use Rattle.subsumption.specs.Refusal.{Done}
use Rattle.std.specs.Prelude.{ℕ, ◌*◌, ◌<◌, ◌≡◌, List, Bool, true, false, ◌↔◌, take}
use Rattle.subsumption.specs.Tables.{Tables, Node, top_at, name_at, exists_at, and_at, var_at, node, count_of, pairs_of, tree, has_variable}
use Rattle.subsumption.specs.Atoms.{bit}
use Rattle.subsumption.specs.Subsumption.{Subsumed}
use Rattle.subsumption.specs.Check.{assignment_fault}
use Rattle.square.specs.Inner.Square.{on_line}
use Rattle.subsumption.specs.declared.closure.columns.Words.{Words}
use Rattle.matching.specs.Inner.Search.{Decided, HoldsAt}
use Rattle.matching.specs.Inner.Search.Sets.{in_words, Same, Grown}
use Rattle.matching.specs.Inner.Search.Problem.{line_at, fit_at, cone_at, held_at, atom_at, inner_at, FreeId, Problem}

-- ---- the parts, of sets and numbers alone
abbrev pub ReadBy : Bool → List ℕ → List ℕ → Bool → ℕ → Words → Type 0
ReadBy true sets values right i w = Same w values (i * 3)
ReadBy false sets values right i w = Same w sets (line_at right i)

abbrev pub ValueRead : List ℕ → List ℕ → List ℕ → Bool → ℕ → Words → Type 0
ValueRead sets problem values right i w = ReadBy (held_at problem i) sets values right i w

abbrev pub BelowAll : List ℕ → List ℕ → ℕ → Words → Type 0
BelowAll sets problem choice w =
    (c : ℕ) → c < 192 → (in_words w c ≡ true)
    ↔ ((q : ℕ) → q < 64 → bit choice q ≡ true → on_line sets (line_at true (atom_at problem q)) c ≡ true)

-- the place of a chosen atom whose row has c
pub record ChosenAbove (sets problem : List ℕ) (choice c : ℕ) : Type 0 where
  pub place : ℕ
  pub low : place < 64
  pub chosen : bit choice place ≡ true
  pub here : on_line sets (line_at false (atom_at problem place)) c ≡ true

abbrev pub AboveSome : List ℕ → List ℕ → ℕ → Words → Type 0
AboveSome sets problem choice w = (c : ℕ) → c < 192 → (in_words w c ≡ true) ↔ ChosenAbove sets problem choice c

-- an existential that fits j, whose inner id is in the given set and whose line has c
pub record LinkOf (sets problem : List ℕ) (inner : Words) (right : Bool) (j c : ℕ) : Type 0 where
  pub by : ℕ
  pub low : by < 192
  pub fits : on_line sets (fit_at right j) by ≡ true
  pub inside : in_words inner (inner_at problem by) ≡ true
  pub here : on_line sets (line_at right by) c ≡ true

abbrev pub Linked : List ℕ → List ℕ → Words → Bool → ℕ → Words → Type 0
Linked sets problem inner right j w = (c : ℕ) → c < 192 → (in_words w c ≡ true) ↔ LinkOf sets problem inner right j c

-- top, or a conjunction whose members pass
abbrev pub MembersOf : (ℕ → Type 0) → Node → Type 0
MembersOf P top_at = Unit {0}
MembersOf P (name_at n) = ⊥
MembersOf P (exists_at r j) = ⊥
MembersOf P (and_at i j) = P i × P j
MembersOf P (var_at k) = ⊥

abbrev pub Members : List ℕ → Words → ℕ → Bool → Type 0
Members problem w e answer = Decided (MembersOf (λ c. in_words w c ≡ true) (node problem e)) answer

-- c follows from the set by the rows of the tops and conjunctions that stand at a word
pub data Follows (sets problem : List ℕ) (at : ℕ) (x : Words) : ℕ → Type 0 where
  by-set : (c : ℕ) → c < 192 → in_words x c ≡ true → Follows sets problem at x c
  by-top :
      (e c : ℕ) → e < 192 → on_line sets at e ≡ true → node problem e ≡ top_at → c < 192 → on_line sets (line_at false e) c ≡ true
      → Follows sets problem at x c
  by_and :
      (e i j c : ℕ) → e < 192 → on_line sets at e ≡ true → node problem e ≡ and_at i j → Follows sets problem at x i
      → Follows sets problem at x j → c < 192
      → on_line sets (line_at false e) c ≡ true → Follows sets problem at x c

-- the set and what follows from it, and no more
pub record Followed (sets problem : List ℕ) (at : ℕ) (x w : Words) : Type 0 where
  pub kept : (c : ℕ) → c < 192 → in_words x c ≡ true → in_words w c ≡ true
  pub least : (c : ℕ) → c < 192 → in_words w c ≡ true → Follows sets problem at x c

-- it holds the row of each top, and of each conjunction whose members it holds
abbrev pub ClosedBy : List ℕ → List ℕ → ℕ → Words → Type 0
ClosedBy sets problem at w =
    (e : ℕ) → e < 192 → on_line sets at e ≡ true → MembersOf (λ c. in_words w c ≡ true) (node problem e) → (c : ℕ) → c < 192
    → on_line sets (line_at false e) c ≡ true → in_words w c ≡ true

-- one walk: nothing too much, and closed if nothing changed
pub record ClosedOnce (sets problem : List ℕ) (at : ℕ) (x w : Words) : Type 0 where
  pub followed : Followed sets problem at x w
  pub grown : Grown x w
  pub quiet : w ≡ x → ClosedBy sets problem at x

pub record ClosedUp (sets problem : List ℕ) (at : ℕ) (x w : Words) : Type 0 where
  pub followed : Followed sets problem at x w
  pub closed : ClosedBy sets problem at w

-- ---- what they tell of the tables
-- A set of variable-free ids that holds top, is closed upwards and under "and".
pub record Upper (t : Tables) (assignment : List ℕ) (X : ℕ → Type 0) : Type 0 where
  pub tops : (c : ℕ) → FreeId t c → node t.concepts c ≡ top_at → X c
  pub upward : (c d : ℕ) → FreeId t c → FreeId t d → Subsumed t assignment c d → X c → X d
  pub meets : (c i j : ℕ) → FreeId t c → node t.concepts c ≡ and_at i j → X i → X j → X c

-- The value of an id on the right: just the variable-free ids below it.
abbrev pub Exact : Tables → List ℕ → ℕ → (ℕ → Bool) → Type 0
Exact t assignment j set = (c : ℕ) → FreeId t c → (set c ≡ true) ↔ Subsumed t assignment c j

-- On the left: variable-free ids above it, upwards closed, from which all others follow.
pub record Generates (t : Tables) (assignment : List ℕ) (j : ℕ) (set : ℕ → Bool) : Type 0 where
  pub sound : (c : ℕ) → FreeId t c → set c ≡ true → Subsumed t assignment j c
  pub upward : (c d : ℕ) → FreeId t c → FreeId t d → Subsumed t assignment c d → set c ≡ true → set d ≡ true
  pub enough :
      (X : ℕ → Bool) → Upper t assignment (λ c. X c ≡ true) → ((c : ℕ) → FreeId t c → set c ≡ true → X c ≡ true)
      → (c : ℕ) → FreeId t c → Subsumed t assignment j c → X c ≡ true

abbrev pub ValueOf : Bool → Tables → List ℕ → ℕ → (ℕ → Bool) → Type 0
ValueOf true t assignment j set = Exact t assignment j set
ValueOf false t assignment j set = Generates t assignment j set

-- the values of the inner ids that hold a variable are made
pub record InnerValued (right : Bool) (t : Tables) (assignment values : List ℕ) (j : ℕ) : Type 0 where
  pub inner :
      (r i : ℕ) → node t.concepts j ≡ exists_at r i → has_variable (tree t.concepts i) ≡ true
      → ValueOf right t assignment i (on_line values (i * 3))
  pub first :
      (i k : ℕ) → node t.concepts j ≡ and_at i k → has_variable (tree t.concepts i) ≡ true
      → ValueOf right t assignment i (on_line values (i * 3))
  pub second :
      (i k : ℕ) → node t.concepts j ≡ and_at i k → has_variable (tree t.concepts k) ≡ true
      → ValueOf right t assignment k (on_line values (k * 3))

abbrev pub Valued : List ℕ → List ℕ → List ℕ → List ℕ → Bool → ℕ → Words → Type 0
Valued sets problem values choice right j w =
    (t : Tables) → Problem t sets problem → assignment_fault t (take t.variables choice) ≡ Done → j < count_of t.concepts
    → has_variable (tree t.concepts j) ≡ true → InnerValued right t (take t.variables choice) values j
    → ValueOf right t (take t.variables choice) j (in_words w)

-- the same for an id of the cone of question m
abbrev pub ValuedIn : List ℕ → List ℕ → List ℕ → List ℕ → ℕ → Bool → ℕ → Words → Type 0
ValuedIn sets problem values choice m right j w =
    (t : Tables) → Problem t sets problem → assignment_fault t (take t.variables choice) ≡ Done → m < pairs_of t.questions
    → on_line sets (cone_at m) j ≡ true → InnerValued right t (take t.variables choice) values j
    → ValueOf right t (take t.variables choice) j (in_words w)

abbrev pub AllValued : List ℕ → List ℕ → List ℕ → List ℕ → ℕ → Bool → Type 0
AllValued sets problem values choice m right =
    (t : Tables) → Problem t sets problem → assignment_fault t (take t.variables choice) ≡ Done → m < pairs_of t.questions
    → (i : ℕ) → i < 192 → on_line sets (cone_at m) i ≡ true → ValueOf right t (take t.variables choice) i (on_line values (i * 3))

abbrev pub Tested : List ℕ → List ℕ → ℕ → List ℕ → Bool → Type 0
Tested sets problem m choice answer =
    (t : Tables) → Problem t sets problem → assignment_fault t (take t.variables choice) ≡ Done → m < pairs_of t.questions
    → Decided (HoldsAt t (take t.variables choice) m) answer
