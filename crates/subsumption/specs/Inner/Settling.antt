-- The steps at the rows (src/closure/settling.rt).
use Rattle.std.specs.Prelude.{ℕ, ◌<◌, ◌≤◌, ◌≡◌, true, length, get_or}
use mathlib.Core.List.{List, Memᴰ}
use Rattle.subsumption.specs.Tables.{Node, top_at, name_at, exists_at, and_at, var_at, node, count_of}
use Rattle.subsumption.specs.Atoms.{pick}
use Rattle.subsumption.specs.Inner.Tables.{Rising}
use Rattle.subsumption.specs.Inner.Columns.{has, Into}

-- what the steps at the rows ask
pub record Settleable (concepts atoms assignment : List ℕ) : Type 0 where
  pub few : count_of concepts ≤ 192
  pub rising : (i : ℕ) → i < count_of concepts → Rising i (node concepts i)
  pub numbered : (i k : ℕ) → node concepts i ≡ var_at k → k < length assignment
  pub few-atoms : length atoms ≤ 64
  pub atoms-known : (q : ℕ) → q < length atoms → get_or atoms q 0 < count_of concepts

-- the ids that the assignment chooses for a variable, of the atoms given
abbrev pub choose_from : List ℕ → List ℕ → ℕ → List ℕ
choose_from atoms assignment k = pick atoms (get_or assignment k 0)

-- the steps from the row j to itself and to smaller ids are taken
abbrev pub DescendedBy : ℕ → (ℕ → List ℕ) → ℕ → List ℕ → Node → Type 0
DescendedBy count choose j columns top_at = Unit {0}
DescendedBy count choose j columns (name_at n) = Unit {0}
DescendedBy count choose j columns (exists_at r x) = Unit {0}
DescendedBy count choose j columns (and_at a b) = Into count columns j a × Into count columns j b
DescendedBy count choose j columns (var_at k) = (p : ℕ) → Memᴰ p (choose k) → Into count columns j p

pub record Descended (concepts : List ℕ) (choose : ℕ → List ℕ) (j : ℕ) (columns : List ℕ) : Type 0 where
  pub same : has columns j j ≡ true
  pub by : DescendedBy (count_of concepts) choose j columns (node concepts j)

abbrev pub AllDescended : List ℕ → (ℕ → List ℕ) → List ℕ → Type 0
AllDescended concepts choose columns = (j : ℕ) → j < count_of concepts → Descended concepts choose j columns

-- the other steps at the row j are taken: names go by way of the first row of that name, existentials have no step here
abbrev pub AscendedBy : ℕ → (ℕ → List ℕ) → ℕ → ℕ → List ℕ → Node → Type 0
AscendedBy count choose first j columns top_at = (i : ℕ) → i < count → has columns i j ≡ true
AscendedBy count choose first j columns (name_at n) = Into count columns j first × Into count columns first j
AscendedBy count choose first j columns (exists_at r x) = Unit {0}
AscendedBy count choose first j columns (and_at a b) =
    (i : ℕ) → i < count → has columns i a ≡ true → has columns i b ≡ true → has columns i j ≡ true
AscendedBy count choose first j columns (var_at k) =
    (i : ℕ) → i < count → ((p : ℕ) → Memᴰ p (choose k) → has columns i p ≡ true) → has columns i j ≡ true

abbrev pub Ascended : List ℕ → List ℕ → (ℕ → List ℕ) → ℕ → List ℕ → Type 0
Ascended concepts firsts choose j columns = AscendedBy (count_of concepts) choose (get_or firsts j 0) j columns (node concepts j)

abbrev pub AllAscended : List ℕ → List ℕ → (ℕ → List ℕ) → List ℕ → Type 0
AllAscended concepts firsts choose columns = (j : ℕ) → j < count_of concepts → Ascended concepts firsts choose j columns
