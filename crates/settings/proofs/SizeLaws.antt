-- How many atoms a choice takes.
use Prim.Native.Nat.{ℕ, ◌<◌, ◌≤◌, ◌^◌}
use mathlib.Core.Path.{◌≡◌, refl}
use mathlib.Core.Bool.{Bool, true, false}
use native.Mathlib.Omega.{arith}
use lib.Count.{ones}
use Rattle.subsumption.specs.Atoms.{bit}
use Rattle.subsumption.proofs.Bits.{bit-of-zero}
use Rattle.subsumption.proofs.MarkLaws.{counted-le, counted-less, counted-most, counted_none, ones-all}
use Rattle.settings.specs.Settings.{size}

pub size-le : (x y : ℕ) → ((q : ℕ) → bit x q ≡ true → bit y q ≡ true) → size x ≤ size y
unfolding size
size-le x y h = counted-le (bit x) (bit y) 64 (λ q l e. h q e)

pub size-most : (x : ℕ) → size x ≤ 64
unfolding size
size-most x = counted-most (bit x) 64

pub size_none : (x : ℕ) → ((q : ℕ) → q < 64 → bit x q ≡ false) → size x ≡ 0
unfolding size
size_none x h = counted_none (bit x) 64 h

not-that : (b : Bool) → (b ≡ true → ⊥) → b ≡ false
not-that true h = absurd (h refl)
not-that false h = refl

pub size-zero : size 0 ≡ 0
size-zero = size_none 0 (λ q l. not-that (bit 0 q) (bit-of-zero q))

-- what is no smaller than a part of itself is that part
pub size_same :
    (x y : ℕ) → ((q : ℕ) → bit x q ≡ true → bit y q ≡ true) → size y ≤ size x → (q : ℕ) → q < 64 → bit y q ≡ true → bit x q ≡ true
unfolding size
size_same x y h l q m e = go (bit x q) refl
  where
    go : (b : Bool) → bit x q ≡ b → bit x q ≡ true
    go true f = f
    go false f = absurd (omega (arith, counted-less (bit x) (bit y) 64 q m f e (λ p k g. h p g)))

-- what counting the ones of a word gives
pub ones-size : (x : ℕ) → x < 2 ^ 64 → ones x ≡ size x
unfolding size
ones-size x h = ones-all x 64 h (omega arith)
