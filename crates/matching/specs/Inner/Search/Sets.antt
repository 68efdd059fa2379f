-- What walking through, joining and writing sets of ids promises (src/search/sets.rt).
use Rattle.std.specs.Prelude.{ℕ, ◌+◌, ◌<◌, ◌≤◌, ◌≡◌, List, [], ◌∷◌, Bool, true, false, ◌⊎◌, length, get_or}
use Rattle.subsumption.specs.Tables.{or}
use Rattle.subsumption.specs.Atoms.{bit}
use Rattle.square.specs.Inner.Square.{on_line}
use Rattle.subsumption.specs.declared.closure.columns.Words.{Words}

-- c is in the three words
abbrev pub in_words : Words → ℕ → Bool
in_words w c = on_line (w.first ∷ w.second ∷ w.third ∷ []) 0 c

-- the lowest one of the word from a place on, or 64
pub record NextBit (word from found : ℕ) : Type 0 where
  pub after : from ≤ found
  pub within : found ≤ 64
  pub here : found < 64 → bit word found ≡ true
  pub between : (k : ℕ) → from ≤ k → k < found → bit word k ≡ false

-- the lowest id of the set from an id on, or 192
pub record NextIn (sets : List ℕ) (at from found : ℕ) : Type 0 where
  pub after : from ≤ found
  pub within : found ≤ 192
  pub here : found < 192 → on_line sets at found ≡ true
  pub between : (k : ℕ) → from ≤ k → k < found → on_line sets at k ≡ false

-- the three words are those of the set
abbrev pub Same : Words → List ℕ → ℕ → Type 0
Same w sets at = (c : ℕ) → c < 192 → in_words w c ≡ on_line sets at c

-- no word is smaller
pub record Grown (a r : Words) : Type 0 where
  pub first : a.first ≤ r.first
  pub second : a.second ≤ r.second
  pub third : a.third ≤ r.third

-- what is in one of both; nothing is lost
pub record Joined (a b r : Words) : Type 0 where
  pub bits : (c : ℕ) → c < 192 → in_words r c ≡ or (in_words a c) (in_words b c)
  pub grown : Grown a r

-- whether the words are the same
pub record Compared (a b : Words) (answer : Bool) : Type 0 where
  pub same : answer ≡ true → a ≡ b
  pub other : answer ≡ false → a.first ≡ b.first → a.second ≡ b.second → a.third ≡ b.third → ⊥

-- the set is written there, every other word is as before
pub record PutAt (before after : List ℕ) (at : ℕ) (w : Words) : Type 0 where
  pub long : length after ≡ length before
  pub here : Same w after at
  pub there : (p : ℕ) → (p < at) ⊎ (at + 3 ≤ p) → get_or after p 0 ≡ get_or before p 0
