-- The closure of the columns: the steps, what flows by them, and columns that take them all (src/closure.rt).
use Rattle.std.specs.Prelude.{ℕ, ◌*◌, ◌<◌, ◌≤◌, ◌≡◌, Bool, true, false, length, get_or}
use mathlib.Core.List.{List, Memᴰ}
use Rattle.subsumption.specs.Tables.{Tables, top_at, name_at, exists_at, and_at, var_at, node, count_of, pairs_of, left_of, right_of}
use Rattle.subsumption.specs.Subsumption.{Subsumed}
use Rattle.subsumption.specs.Inner.Tables.{Rising}
use Rattle.subsumption.specs.Inner.Columns.{has, slack, Into}
use Rattle.subsumption.specs.Inner.Settling.{AllDescended, AllAscended}
use Rattle.subsumption.specs.Inner.Links.{AllLinked, Sorted}

-- what the closure asks: the checks have passed, and the atoms are at hand
pub record Ready (concepts inclusions atoms assignment : List ℕ) : Type 0 where
  pub whole : length concepts ≡ count_of concepts * 3
  pub few : count_of concepts ≤ 192
  pub even : length inclusions ≡ pairs_of inclusions * 2
  pub rising : (i : ℕ) → i < count_of concepts → Rising i (node concepts i)
  pub numbered : (i k : ℕ) → node concepts i ≡ var_at k → k < length assignment
  pub left-known : (m : ℕ) → m < pairs_of inclusions → left_of inclusions m < count_of concepts
  pub right-known : (m : ℕ) → m < pairs_of inclusions → right_of inclusions m < count_of concepts
  pub low-names : (i n : ℕ) → node concepts i ≡ name_at n → n < 1000
  pub low-roles : (i r x : ℕ) → node concepts i ≡ exists_at r x → r < 100
  pub few-atoms : length atoms ≤ 64
  pub atoms-known : (q : ℕ) → q < length atoms → get_or atoms q 0 < count_of concepts

-- what the steps at the inclusions ask of them
pub record LowPairs (inclusions : List ℕ) : Type 0 where
  pub left : (m : ℕ) → m < pairs_of inclusions → left_of inclusions m < 192
  pub right : (m : ℕ) → m < pairs_of inclusions → right_of inclusions m < 192

-- the left sides of the inclusions are rows
pub record LeftKnown (concepts inclusions : List ℕ) : Type 0 where
  pub few : count_of concepts ≤ 192
  pub left : (m : ℕ) → m < pairs_of inclusions → left_of inclusions m < count_of concepts

abbrev pub AllIncluded : List ℕ → List ℕ → List ℕ → Type 0
AllIncluded concepts inclusions columns =
    (m : ℕ) → m < pairs_of inclusions → Into (count_of concepts) columns (left_of inclusions m) (right_of inclusions m)

module _ (concepts inclusions : List ℕ) (wide : ℕ → ℕ → Bool) (choose : ℕ → List ℕ) where
  -- a relation on ids that takes every step
  pub record Steps (R : ℕ → ℕ → Type 0) : Type 0 where
    pub same : (j : ℕ) → j < count_of concepts → R j j
    pub top : (i j : ℕ) → i < count_of concepts → j < count_of concepts → node concepts j ≡ top_at → R i j
    pub named :
        (i j k n : ℕ) → i < count_of concepts → j < count_of concepts → k < count_of concepts
        → node concepts j ≡ name_at n → node concepts k ≡ name_at n → R i j → R i k
    pub first : (i j a b : ℕ) → i < count_of concepts → j < count_of concepts → node concepts j ≡ and_at a b → R i j → R i a
    pub second : (i j a b : ℕ) → i < count_of concepts → j < count_of concepts → node concepts j ≡ and_at a b → R i j → R i b
    pub meet : (i j a b : ℕ) → i < count_of concepts → j < count_of concepts → node concepts j ≡ and_at a b → R i a → R i b → R i j
    pub included : (i m : ℕ) → i < count_of concepts → m < pairs_of inclusions → R i (left_of inclusions m) → R i (right_of inclusions m)
    pub linked :
        (i e f r s x y : ℕ) → i < count_of concepts → e < count_of concepts → f < count_of concepts
        → node concepts e ≡ exists_at r x → node concepts f ≡ exists_at s y → wide r s ≡ true → R x y → R i e → R i f
    pub chooses :
        (i v k p : ℕ) → i < count_of concepts → v < count_of concepts → node concepts v ≡ var_at k → Memᴰ p (choose k) → R i v → R i p
    pub all-chosen :
        (i v k : ℕ) → i < count_of concepts → v < count_of concepts → node concepts v ≡ var_at k
        → ((p : ℕ) → Memᴰ p (choose k) → R i p) → R i v

  -- the least such relation that holds what some columns have from the start
  pub data Flow (given : List ℕ) : ℕ → ℕ → Type 0 where
    flow-given : (i j : ℕ) → i < count_of concepts → j < count_of concepts → has given i j ≡ true → Flow given i j
    flow-same : (j : ℕ) → j < count_of concepts → Flow given j j
    flow-top : (i j : ℕ) → i < count_of concepts → j < count_of concepts → node concepts j ≡ top_at → Flow given i j
    flow-named :
        (i j k n : ℕ) → i < count_of concepts → j < count_of concepts → k < count_of concepts
        → node concepts j ≡ name_at n → node concepts k ≡ name_at n → Flow given i j → Flow given i k
    flow-first : (i j a b : ℕ) → i < count_of concepts → j < count_of concepts → node concepts j ≡ and_at a b → Flow given i j → Flow given i a
    flow-second :
        (i j a b : ℕ) → i < count_of concepts → j < count_of concepts → node concepts j ≡ and_at a b → Flow given i j → Flow given i b
    flow-meet :
        (i j a b : ℕ) → i < count_of concepts → j < count_of concepts → node concepts j ≡ and_at a b → Flow given i a → Flow given i b
        → Flow given i j
    flow-included :
        (i m : ℕ) → i < count_of concepts → m < pairs_of inclusions → Flow given i (left_of inclusions m) → Flow given i (right_of inclusions m)
    flow-linked :
        (i e f r s x y : ℕ) → i < count_of concepts → e < count_of concepts → f < count_of concepts
        → node concepts e ≡ exists_at r x → node concepts f ≡ exists_at s y → wide r s ≡ true → Flow given x y → Flow given i e
        → Flow given i f
    flow-chooses :
        (i v k p : ℕ) → i < count_of concepts → v < count_of concepts → node concepts v ≡ var_at k → Memᴰ p (choose k)
        → Flow given i v → Flow given i p
    flow-all-chosen :
        (i v k : ℕ) → i < count_of concepts → v < count_of concepts → node concepts v ≡ var_at k
        → ((p : ℕ) → Memᴰ p (choose k) → Flow given i p) → Flow given i v

  abbrev pub Sound : List ℕ → List ℕ → Type 0
  Sound given columns = (i j : ℕ) → i < count_of concepts → j < count_of concepts → has columns i j ≡ true → Flow given i j

  -- all that the columns hold flows, and they take every step
  pub record Closed (given columns : List ℕ) : Type 0 where
    pub long : length columns ≡ 576
    pub sound : Sound given columns
    pub closed : Steps (λ i j. has columns i j ≡ true)

  -- a pass over the columns: nothing unsound comes in, a change uses up slack, and without one Quiet holds
  pub record Pass (Quiet : List ℕ → Type 0) (before after : List ℕ) (changed : Bool) : Type 0 where
    pub long : length after ≡ length before
    pub sound : (given : List ℕ) → Sound given before → Sound given after
    pub same : changed ≡ false → after ≡ before
    pub less : changed ≡ true → slack after < slack before
    pub quiet : changed ≡ false → Quiet before

  -- everything is taken
  pub record AllTaken (firsts columns : List ℕ) : Type 0 where
    pub descended : AllDescended concepts choose columns
    pub ascended : AllAscended concepts firsts choose columns
    pub included : AllIncluded concepts inclusions columns
    pub linked : AllLinked concepts wide columns

-- The passes of the steps that do not read all tables: whatever the others are.
abbrev pub SettlePass : List ℕ → (ℕ → List ℕ) → (List ℕ → Type 0) → List ℕ → List ℕ → Bool → Type 0
SettlePass concepts choose Quiet before after changed =
    (inclusions : List ℕ) (wide : ℕ → ℕ → Bool) → Pass concepts inclusions wide choose Quiet before after changed

abbrev pub LinkPass : List ℕ → List ℕ → List ℕ → List ℕ → ((ℕ → ℕ → Bool) → List ℕ → Type 0) → List ℕ → List ℕ → Bool → Type 0
LinkPass concepts outer inners kinds Quiet before after changed =
    (inclusions : List ℕ) (wide : ℕ → ℕ → Bool) (choose : ℕ → List ℕ) → Sorted concepts wide outer inners kinds
    → Pass concepts inclusions wide choose (Quiet wide) before after changed

abbrev pub RisePass :
    List ℕ → List ℕ → List ℕ → List ℕ → (ℕ → List ℕ) → ((ℕ → ℕ → Bool) → List ℕ → Type 0) → List ℕ → List ℕ → Bool → Type 0
RisePass concepts outer inners kinds choose Quiet before after changed =
    (inclusions : List ℕ) (wide : ℕ → ℕ → Bool) → Sorted concepts wide outer inners kinds
    → Pass concepts inclusions wide choose (Quiet wide) before after changed

abbrev pub IncludePass : List ℕ → List ℕ → List ℕ → Bool → Type 0
IncludePass inclusions before after changed =
    (concepts : List ℕ) (wide : ℕ → ℕ → Bool) (choose : ℕ → List ℕ) → LeftKnown concepts inclusions
    → Pass concepts inclusions wide choose (AllIncluded concepts inclusions) before after changed

-- The columns hold exactly what is subsumed under the assignment.
pub record ColumnsOf (t : Tables) (assignment columns : List ℕ) : Type 0 where
  pub long : length columns ≡ 576
  pub sound : (i j : ℕ) → i < count_of t.concepts → j < count_of t.concepts → has columns i j ≡ true → Subsumed t assignment i j
  pub complete : (i j : ℕ) → i < count_of t.concepts → j < count_of t.concepts → Subsumed t assignment i j → has columns i j ≡ true

abbrev pub RoundPass : List ℕ → List ℕ → List ℕ → List ℕ → List ℕ → (ℕ → List ℕ) → List ℕ → List ℕ → List ℕ → Bool → Type 0
RoundPass concepts inclusions outer inners kinds choose firsts before after changed =
    (wide : ℕ → ℕ → Bool) → Sorted concepts wide outer inners kinds
    → Pass concepts inclusions wide choose (AllTaken concepts inclusions wide choose firsts) before after changed
