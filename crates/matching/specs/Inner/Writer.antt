-- What writing the lines of a derivation promises.
pub mod Explain
use Rattle.subsumption.specs.Refusal.{Done}
use Rattle.std.specs.Prelude.{ℕ, ◌+◌, ◌-◌, ◌*◌, ◌<◌, ◌≤◌, ◌≡◌, List, [], ◌∷◌, Bool, true, false, length, get_or, drop}
use Rattle.subsumption.specs.Tables.{Tables, count_of, pairs_of}
use Rattle.subsumption.specs.Subsumption.{Subsumed}
use Rattle.subsumption.specs.Check.{table_fault}
use Rattle.subsumption.specs.Inner.Closure.{Ready}
use Rattle.matching.specs.Derivation.{rule_at, left_at, right_at, extra_at, pair_at, proved_by, line_follows}
use Rattle.matching.specs.Writer.{DerivationOf}
use Rattle.matching.specs.Inner.Derivation.{Square, seen, Of, MarksOf}

-- what the search asks: the checks have passed, and the atoms are at hand
pub record Grounds (concepts inclusions ids assignment : List ℕ) : Type 0 where
  pub ready : Ready concepts inclusions ids assignment
  pub few-pairs : pairs_of inclusions ≤ 192

-- four numbers in front of what follows them
abbrev pub in_front : ℕ → ℕ → ℕ → ℕ → List ℕ → List ℕ
in_front rule left right extra rest = rule ∷ left ∷ right ∷ extra ∷ drop 4 rest

-- line n is written, and nothing else changes
pub record LineWritten (before after : List ℕ) (n rule left right extra : ℕ) : Type 0 where
  pub size : length after ≡ length before
  pub rule-is : rule_at after n ≡ rule
  pub left_is : left_at after n ≡ left
  pub right_is : right_at after n ≡ right
  pub extra-is : extra_at after n ≡ extra
  pub under : (p : ℕ) → p < n * 4 → get_or after p 0 ≡ get_or before p 0
  pub over : (p : ℕ) → (n + 1) * 4 ≤ p → get_or after p 0 ≡ get_or before p 0

-- lines are written after the first ones, and past them the buffer is as it was
pub record RestKept (before after : List ℕ) (first n : ℕ) : Type 0 where
  pub more : first ≤ n
  pub size : length after ≡ length before
  pub rest : (p : ℕ) → n * 4 ≤ p → get_or after p 0 ≡ get_or before p 0

-- how many marks are not set
unfoldable pub unset : List Bool → ℕ
unset [] = 0
unset (true ∷ marks) = unset marks
unset (false ∷ marks) = unset marks + 1

-- no pair is marked
pub record Blank (count : ℕ) (marks : List Bool) : Type 0 where
  pub square : Square count marks
  pub none : (i j : ℕ) → i < count → j < count → seen count marks i j ≡ false
  pub all : unset marks ≡ count * count

-- the asked pair is subsumed
pub record Asked (concepts inclusions into ids assignment : List ℕ) (left right : ℕ) : Type 0 where
  pub t : Tables
  pub of : Of t concepts inclusions into ids
  pub accepted : table_fault t ≡ Done
  pub left-known : left < count_of concepts
  pub right-known : right < count_of concepts
  pub subsumed : Subsumed t assignment left right

-- n lines are written: each follows from earlier ones, no pair twice, and just their pairs are marked
pub record Written (concepts inclusions into ids assignment : List ℕ) (marks : List Bool) (out : List ℕ) (n : ℕ) : Type 0 where
  pub marked : MarksOf (count_of concepts) marks out n
  pub room : n + unset marks ≡ count_of concepts * count_of concepts
  pub left-known : (k : ℕ) → k < n → left_at out k < count_of concepts
  pub right-known : (k : ℕ) → k < n → right_at out k < count_of concepts
  pub fresh : (k : ℕ) → k < n → proved_by out k (left_at out k) (right_at out k) ≡ false
  pub follow : (k : ℕ) → k < n → (t : Tables) → Of t concepts inclusions into ids → line_follows t assignment out k ≡ true

-- the asked pair is written last
pub record WrittenTo (concepts inclusions into ids assignment : List ℕ) (left right : ℕ) (marks : List Bool) (out : List ℕ)
    (n : ℕ) : Type 0 where
  pub written : Written concepts inclusions into ids assignment marks out n
  pub some : 0 < n
  pub last : pair_at out left right (n - 1) ≡ true

-- if the asked pair is written, it is written last
pub record Begun (concepts inclusions into ids assignment : List ℕ) (left right : ℕ) (marks : List Bool) (out : List ℕ)
    (n : ℕ) : Type 0 where
  pub written : Written concepts inclusions into ids assignment marks out n
  pub asked : seen (count_of concepts) marks left right ≡ true → WrittenTo concepts inclusions into ids assignment left right marks out n

-- the lines are a derivation of the pair, for all tables with these concepts, inclusions and atoms
pub record WrittenFor (concepts inclusions into ids assignment : List ℕ) (left right : ℕ) (before after : List ℕ) (n : ℕ) : Type 0 where
  pub each : (t : Tables) → Of t concepts inclusions into ids → DerivationOf t assignment left right before after n
