-- Rule 6 (src/including.rt): which inclusions have a left side, rows that have taken it in, and what is left for a row to look at.
use Rattle.std.specs.Prelude.{ℕ, ◌+◌, ◌-◌, ◌<◌, ◌≤◌, ◌≡◌, List, Bool, true, ◌⊎◌, length, get_or}
use Rattle.subsumption.specs.Tables.{pairs_of, left_of, right_of}
use Rattle.square.specs.Inner.Square.{on_line, in_row}
use Rattle.incremental.specs.Inner.Lines.{Under, IncludeAt, IncludeLines}
use Rattle.incremental.specs.Inner.Pass.{Pass}

-- a set of ids: three words
abbrev pub is_in : List ℕ → ℕ → Bool
is_in set y = on_line set 0 y

-- checks 1 and 4 passed
pub record Pairs (count : ℕ) (inclusions : List ℕ) : Type 0 where
  pub low : count ≤ 192
  pub few : pairs_of inclusions ≤ 96
  pub left : (m : ℕ) → m < pairs_of inclusions → left_of inclusions m < count
  pub right : (m : ℕ) → m < pairs_of inclusions → right_of inclusions m < count

-- of the inclusions from `from` on, n is the first with that left side, or there is none
pub record NextPair (inclusions : List ℕ) (l from n : ℕ) : Type 0 where
  pub low : from ≤ n
  pub none : (m : ℕ) → from ≤ m → m < n → m < pairs_of inclusions → left_of inclusions m ≡ l → ⊥
  pub found : n < pairs_of inclusions → left_of inclusions n ≡ l

-- from the inclusion m on: for each id the first inclusion with that left side, and for each inclusion the next one with its own
pub record ChainTo (inclusions chain : List ℕ) (m : ℕ) : Type 0 where
  pub long : length chain ≡ 288
  pub first : (l : ℕ) → l < 192 → NextPair inclusions l m (get_or chain l 0)
  pub next : (n : ℕ) → m ≤ n → n < pairs_of inclusions → NextPair inclusions (left_of inclusions n) (n + 1) (get_or chain (192 + n) 0)

abbrev pub Chain : List ℕ → List ℕ → Type 0
Chain inclusions chain = ChainTo inclusions chain 0

-- what is in the set is no left side
pub record Idle (inclusions idle : List ℕ) : Type 0 where
  pub long : length idle ≡ 3
  pub none : (l m : ℕ) → l < 192 → is_in idle l ≡ true → m < pairs_of inclusions → left_of inclusions m ≡ l → ⊥

-- the row i has taken in what the inclusions with that left side ask
abbrev pub IncludedBy : ℕ → List ℕ → (ℕ → ℕ → Bool) → ℕ → ℕ → Type 0
IncludedBy count inclusions R i l = (m : ℕ) → m < pairs_of inclusions → left_of inclusions m ≡ l → Under count R (right_of inclusions m) i

-- it has for every left side of the set
abbrev pub Covers : ℕ → List ℕ → List ℕ → ℕ → List ℕ → Type 0
Covers count inclusions square i covered = (l : ℕ) → l < 192 → is_in covered l ≡ true → IncludedBy count inclusions (in_row square) i l

-- the rows of the set have taken in what the inclusions ask of them
abbrev pub DoneRows : ℕ → List ℕ → List ℕ → List ℕ → Type 0
DoneRows count inclusions square done = (k : ℕ) → k < count → is_in done k ≡ true → IncludeAt count inclusions (in_row square) k

-- the ids of a finished row that lies within the row i come into the set
pub record Covering (square done : List ℕ) (k i : ℕ) (before after : List ℕ) : Type 0 where
  pub long : length after ≡ 3
  pub bits :
      (y : ℕ) → y < 192 → is_in after y ≡ true
      → (is_in before y ≡ true)
      ⊎ ((is_in done k ≡ true) × (in_row square k y ≡ true) × ((j : ℕ) → j < 192 → in_row square k j ≡ true → in_row square i j ≡ true))

-- the first id from `from` on that is in the row and not in the set, or 192
pub record NextOpen (square covered : List ℕ) (i from n : ℕ) : Type 0 where
  pub low : from ≤ n
  pub high : n ≤ 192
  pub none : (y : ℕ) → from ≤ y → y < n → in_row square i y ≡ true → is_in covered y ≡ true
  pub found : n < 192 → in_row square i n ≡ true

-- What is true of a square that did not change, if the finished rows are right: the row has taken in the inclusions of one left side, and
-- what is covered stays covered.
pub record LeftQuiet (count : ℕ) (inclusions done : List ℕ) (i l : ℕ) (before after : List ℕ) (square : List ℕ) : Type 0 where
  pub included : DoneRows count inclusions square done → IncludedBy count inclusions (in_row square) i l
  pub covers : DoneRows count inclusions square done → Covers count inclusions square i before → Covers count inclusions square i after

-- the same of all left sides from `from` up to `to`
pub record ScanQuiet (count : ℕ) (inclusions done : List ℕ) (i from to : ℕ) (before after : List ℕ) (square : List ℕ) : Type 0 where
  pub included :
      DoneRows count inclusions square done → Covers count inclusions square i before
      → (l : ℕ) → from ≤ l → l < to → in_row square i l ≡ true → IncludedBy count inclusions (in_row square) i l
  pub covers : DoneRows count inclusions square done → Covers count inclusions square i before → Covers count inclusions square i after

abbrev pub IncludePass : ℕ → List ℕ → (List ℕ → Type 0) → List ℕ → List ℕ → Bool → Type 0
IncludePass count inclusions Quiet before after changed = Pass count (IncludeLines count inclusions) Quiet before after changed

-- a row of the square, looked at in some order: for the n-th turn an id, which past the count of ids is the next in line
pub record Proposed (count n i : ℕ) : Type 0 where
  pub low : i < count
  pub last : count ≤ n → i ≡ n - count
