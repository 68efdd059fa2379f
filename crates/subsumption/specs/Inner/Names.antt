-- Of each name, its first row (src/closure/names.rt).
use Rattle.std.specs.Prelude.{ℕ, ◌<◌, ◌≤◌, ◌≡◌, List, Bool, true, false, length, get_or}
use Rattle.subsumption.specs.Tables.{name_at, node, count_of}

-- of the rows of j's name, k is the first
pub record FirstNamed (concepts : List ℕ) (j k : ℕ) : Type 0 where
  pub low : k ≤ j
  pub named : (n : ℕ) → node concepts j ≡ name_at n → node concepts k ≡ name_at n
  pub least : (n i : ℕ) → node concepts j ≡ name_at n → node concepts i ≡ name_at n → k ≤ i

-- what noting the first rows asks of the rows
pub record Nameable (concepts : List ℕ) : Type 0 where
  pub few : count_of concepts ≤ 192
  pub low : (i n : ℕ) → node concepts i ≡ name_at n → n < 1000

-- for each name that a row below j has, the first such row
pub record Seen (concepts : List ℕ) (j : ℕ) (seen : List ℕ) : Type 0 where
  pub long : length seen ≡ 1000
  pub low : (n : ℕ) → n < 1000 → get_or seen n 0 ≤ j
  pub named : (n i : ℕ) → i < j → node concepts i ≡ name_at n → node concepts (get_or seen n 0) ≡ name_at n
  pub least : (n i : ℕ) → i < j → node concepts i ≡ name_at n → get_or seen n 0 ≤ i

pub record Firsts (concepts firsts : List ℕ) : Type 0 where
  pub long : length firsts ≡ 192
  pub each : (j : ℕ) → j < count_of concepts → FirstNamed concepts j (get_or firsts j 0)

pub record IsNamed (concepts : List ℕ) (k name : ℕ) (answer : Bool) : Type 0 where
  pub found : answer ≡ true → node concepts k ≡ name_at name
  pub none : answer ≡ false → node concepts k ≡ name_at name → ⊥
