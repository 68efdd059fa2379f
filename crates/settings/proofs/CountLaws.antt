-- Testing and clamping, variable by variable.
use Prim.Native.Nat.{ℕ, ◌+◌, ◌<◌, ◌≤◌}
use mathlib.Core.Path.{◌≡◌, sym, ap, ◌∙◌, subst}
use mathlib.Core.List.{List}
use mathlib.Core.Bool.{true}
use mathlib.Core.Logic.{◌⊎◌, inl, inr, ⊎_elim}
use native.Mathlib.Omega.{arith}
use lib.Bits.{bit_or}
use lib.ListN.{length, get_or}
use Rattle.subsumption.specs.Atoms.{bit}
use Rattle.subsumption.proofs.Bits.{bit_or_left}
use Rattle.subsumption.proofs.Bools.{last-cases}
use Rattle.settings.specs.Settings.{size}
use Rattle.settings.specs.Inner.Counts.{Reached, KeptAt, NamedAt}

-- ---- testing
abbrev pub FewTo : List ℕ → List ℕ → ℕ → Type 0
FewTo most choice k = (j : ℕ) → j < k → size (get_or choice j 0) ≤ get_or most j 0

pub few-more : (most choice : List ℕ) (k : ℕ) → size (get_or choice k 0) ≤ get_or most k 0 → FewTo most choice k → FewTo most choice (k + 1)
few-more most choice k h s j l =
    ⊎_elim (λ (e : j ≡ k). subst (λ (z : ℕ). size (get_or choice z 0) ≤ get_or most z 0) (sym e) h) (λ m. s j m) (last-cases j k (omega arith))

-- ---- clamping
abbrev pub ClampedAt : List ℕ → List ℕ → List ℕ → List ℕ → ℕ → Type 0
ClampedAt most low high inner k = (get_or inner k 0 ≡ get_or high k 0) ⊎ ((get_or inner k 0 ≡ get_or low k 0) × Reached most low k)

pub record ClampedTo (most low high inner : List ℕ) (k : ℕ) : Type 0 where
  pub long : length inner ≡ 8
  pub each : (j : ℕ) → j < k → ClampedAt most low high inner j
  pub rest : (j : ℕ) → k ≤ j → get_or inner j 0 ≡ get_or high j 0

-- ---- unclamping
pub record UnclampedTo (full low high inner below above low₁ high₁ : List ℕ) (k : ℕ) : Type 0 where
  pub low-long : length low₁ ≡ 8
  pub high-long : length high₁ ≡ 8
  pub each : (j : ℕ) → j < k → KeptAt high inner below above low₁ high₁ j ⊎ NamedAt full low high inner low₁ high₁ j
  pub low-rest : (j : ℕ) → k ≤ j → get_or low₁ j 0 ≡ get_or below j 0
  pub high-rest : (j : ℕ) → k ≤ j → get_or high₁ j 0 ≡ get_or above j 0

module _ (full low high inner below above low₁ high₁ : List ℕ) (k : ℕ) (h : k < 8) (s : UnclampedTo full low high inner below above low₁ high₁ k) where
  keep : (get_or inner k 0 ≡ get_or high k 0) ⊎ ((q : ℕ) → bit (get_or high k 0) q ≡ true → bit (get_or above k 0) q ≡ true) → UnclampedTo full low high inner below above low₁ high₁ (k + 1)
  keep a =
      record {
        low-long = s.low-long;
        high-long = s.high-long;
        each = λ j l. ⊎_elim (λ (e : j ≡ k). inl (subst (KeptAt high inner below above low₁ high₁) (sym e) here)) (λ m. s.each j m) (last-cases j k (omega arith));
        low-rest = λ j l. s.low-rest j (omega arith);
        high-rest = λ j l. s.high-rest j (omega arith);
      }
    where
      here : KeptAt high inner below above low₁ high₁ k
      here = record { low_same = s.low-rest k (omega arith); high_same = s.high-rest k (omega arith); around = a }

  pub unclamped-around : bit_or (get_or high k 0) (get_or high₁ k 0) ≡ get_or high₁ k 0 → UnclampedTo full low high inner below above low₁ high₁ (k + 1)
  unclamped-around e =
      keep
      (inr
      (λ q x.
      subst (λ (z : ℕ). bit z q ≡ true) (s.high-rest k (omega arith))
      (sym (ap (λ (z : ℕ). bit z q) e) ∙ bit_or_left (get_or high k 0) (get_or high₁ k 0) q x)))
