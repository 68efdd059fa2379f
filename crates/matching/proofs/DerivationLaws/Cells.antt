-- Cells of a square of marks: where a pair's mark stands.
use Prim.Native.Nat.{ℕ, suc, ◌+◌, ◌*◌, ◌/◌, ◌%◌, ◌<◌, ◌≤◌}
use mathlib.Core.Path.{◌≡◌, sym, ap, ◌∙◌}
use mathlib.Core.List.{List}
use mathlib.Core.Bool.{Bool, true, false}
use native.Mathlib.Omega.{arith}
use native.Mathlib.Nat.{mul-le-mul, mul-le-mul_right, suc-mul, mul-add-div_right, mul-add-mod_self_right, div-eq_of_lt, mod-eq_of_lt}
use lib.ListN.{length, set, length-set}
use lib.Seq.{get_or-set_same, get_or-set_other}
use Rattle.matching.specs.Inner.Derivation.{Square, seen}

pub cell_below : (count i j : ℕ) → i < count → j < count → i * count + j < count * count
cell_below count i j h l = omega (arith, mul-le-mul_right {m = suc i} {n = count} count (omega arith), suc-mul i count)

pub square-small : (count : ℕ) → count ≤ 192 → count * count ≤ 36864
square-small count h = mul-le-mul h h

pub cell_row : (count i j : ℕ) → j < count → (i * count + j) / count ≡ i
cell_row count i j h = mul-add-div_right {m = count} (omega arith) i j ∙ rw (div-eq_of_lt h) (omega arith)

pub cell-column : (count i j : ℕ) → j < count → (i * count + j) % count ≡ j
cell-column count i j h = mul-add-mod_self_right i count j ∙ mod-eq_of_lt h

-- what is needed to read or set a mark
module _ (count : ℕ) (marks : List Bool) (i j : ℕ) (s : Square count marks) (h : i < count) (l : j < count) where
  pub cell_room : i * count + j < length marks
  cell_room = omega (arith, cell_below count i j h l, s.long)

  pub cell-small : i * count + j < 36864
  cell-small = omega (arith, cell_below count i j h l, square-small count s.few)

-- a mark that is set changes no other pair's
module _ (count : ℕ) (marks : List Bool) (i j a b : ℕ) (s : Square count marks) (h : i < count) (l : j < count) (k : b < count) where
  pub seen-set-same : i ≡ a → j ≡ b → seen count (set marks (i * count + j) true) a b ≡ true
  unfolding seen
  seen-set-same e f = rw (← e, ← f) (get_or-set_same marks (i * count + j) true false (cell_room count marks i j s h l))

  pub seen-set-row : (i ≡ a → ⊥) → seen count (set marks (i * count + j) true) a b ≡ seen count marks a b
  unfolding seen
  seen-set-row ne = get_or-set_other marks (i * count + j) (a * count + b) true false
      (λ e. ne (sym (cell_row count i j l) ∙ ap (λ (z : ℕ). z / count) (sym e) ∙ cell_row count a b k))

  pub seen-set-column : (j ≡ b → ⊥) → seen count (set marks (i * count + j) true) a b ≡ seen count marks a b
  unfolding seen
  seen-set-column ne = get_or-set_other marks (i * count + j) (a * count + b) true false
      (λ e. ne (sym (cell-column count i j l) ∙ ap (λ (z : ℕ). z % count) (sym e) ∙ cell-column count a b k))

pub square-set : (count at : ℕ) (marks : List Bool) → Square count marks → Square count (set marks at true)
square-set count at marks s = record { few = s.few; long = length-set marks at true ∙ s.long }
