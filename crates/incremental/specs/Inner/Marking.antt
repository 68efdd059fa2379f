-- How the square of marks changes (src/marking.rt); the crate `square` has what it is.
use Rattle.std.specs.Prelude.{ℕ, ◌+◌, ◌*◌, ◌/◌, ◌%◌, ◌<◌, ◌≤◌, ◌≡◌, List, [], ◌∷◌, Bool, true, false, ◌⊎◌}
use Rattle.subsumption.specs.Atoms.{bit}
use Rattle.subsumption.specs.Inner.Columns.{slack}
use Rattle.square.specs.Inner.Square.{on_line, Square}

-- y is on the line x of the half that starts at `base`
abbrev pub in_half : ℕ → List ℕ → ℕ → ℕ → Bool
in_half base square x y = on_line square (base + x * 3) y

-- where a half starts
abbrev pub Base : ℕ → Type 0
Base base = (base ≤ 576) × ((base ≡ 0) ⊎ (base ≡ 576))

-- Marks come in, and none goes: read as that half, those of `new`; `changed` says whether there was anything new.
pub record Adds (read : List ℕ → ℕ → ℕ → Bool) (before after : List ℕ) (new : ℕ → ℕ → Type 0) (changed : Bool) : Type 0 where
  pub square : Square after
  pub kept : (x y : ℕ) → x < 192 → y < 192 → read before x y ≡ true → read after x y ≡ true
  pub bits : (x y : ℕ) → x < 192 → y < 192 → read after x y ≡ true → (read before x y ≡ true) ⊎ new x y
  pub taken : (x y : ℕ) → x < 192 → y < 192 → new x y → read after x y ≡ true
  pub same : changed ≡ false → after ≡ before
  pub less : changed ≡ true → slack after < slack before

-- y is in the word at `k` of the set
abbrev pub InWord : ℕ → ℕ → ℕ → Type 0
InWord k word y = (y / 64 ≡ k) × (bit word (y % 64) ≡ true)

-- y is in one of the three words
abbrev pub InThree : ℕ → ℕ → ℕ → ℕ → Type 0
InThree first second third y = on_line (first ∷ second ∷ third ∷ []) 0 y ≡ true

-- a yes: the line that starts at that word has all of the three words' bits
abbrev pub Holding : List ℕ → ℕ → ℕ → ℕ → ℕ → Bool → Type 0
Holding square at first second third answer = answer ≡ true → (y : ℕ) → y < 192 → InThree first second third y → on_line square at y ≡ true
