-- Of each id its lowest twin, by keys of rows (src/twins.rt).
use Rattle.std.specs.Prelude.{ℕ, ◌+◌, ◌*◌, ◌%◌, ◌<◌, ◌≤◌, ◌≡◌, List, Bool, eqb, length, get_or}
use Rattle.subsumption.specs.Tables.{both, any_below, Node, top_at, name_at, exists_at, and_at, var_at, count_of, tree}
use Rattle.subsumption.specs.Inner.Atoms.{mark_at}

-- A row as one number: three bits for its kind, sixteen for its number, then the inner id, ids by their lowest twins.
unfoldable pub key_of : (ℕ → ℕ) → Node → ℕ
key_of lowest top_at = 0
key_of lowest (name_at n) = 1 + n * 8
key_of lowest (exists_at r j) = 2 + r * 8 + lowest j * 524288
key_of lowest (and_at j k) = 3 + lowest j * 8 + lowest k * 524288
key_of lowest (var_at k) = 4 + k * 8

-- the i-th key stands first at k
pub record FirstSame (keys : List ℕ) (i k : ℕ) : Type 0 where
  pub low : k ≤ i
  pub same : get_or keys k 0 ≡ get_or keys i 0
  pub least : (q : ℕ) → q < k → get_or keys q 0 ≡ get_or keys i 0 → ⊥

-- a slot is no higher than any row below i whose key falls into it
pub record Slots (keys : List ℕ) (i : ℕ) (slots : List ℕ) : Type 0 where
  pub long : length slots ≡ 1021
  pub each : (q : ℕ) → q < i → get_or slots (get_or keys q 0 % 1021) 0 ≤ q

-- of the ids of i's concept, k is the lowest
pub record LowestTwin (concepts : List ℕ) (i k : ℕ) : Type 0 where
  pub low : k ≤ i
  pub same : tree concepts k ≡ tree concepts i
  pub least : (q : ℕ) → tree concepts q ≡ tree concepts i → k ≤ q

pub record LowestTwins (concepts firsts : List ℕ) : Type 0 where
  pub long : length firsts ≡ 192
  pub each : (i : ℕ) → i < count_of concepts → LowestTwin concepts i (get_or firsts i 0)

-- marked after is what some marked id has as its lowest twin
pub record Lowered (firsts : List ℕ) (count : ℕ) (before after : List Bool) : Type 0 where
  pub long : length after ≡ 192
  pub marks : (q : ℕ) → q < count → mark_at after q ≡ any_below count (λ p. both (eqb (get_or firsts p 0) q) (mark_at before p))
