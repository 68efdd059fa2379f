-- The pass that notes each element's stretches.
use Prim.Native.Nat.{ℕ, ◌+◌, ◌<◌, ◌≤◌}
use mathlib.Core.Path.{◌≡◌, ap, ◌∙◌}
use mathlib.Core.List.{List}
use mathlib.Core.Logic.{⊎_elim}
use native.Mathlib.Omega.{arith}
use lib.ListN.{length, get_or, set, replicate, length-set, length-replicate, get_or-replicate, get_or-eq_default}
use lib.Seq.{get_or-set_same, get_or-set_other}
use Rattle.subsumption.proofs.Bools.{last-cases, eq-or-ne, le-or-lt}
use Rattle.countermodel.specs.Rows.{rows_of}
use Rattle.countermodel.specs.Inner.Membership.{LowRows, stretch_of, Stretches}

-- the rows below p are in their ends
pub record Stretching (rows ends : List ℕ) (p : ℕ) : Type 0 where
  pub within : p ≤ rows_of rows
  pub long : length ends ≡ 768
  pub low : (k : ℕ) → get_or ends k 0 ≤ p
  pub from : (q : ℕ) → q < p → get_or ends (stretch_of rows q) 0 ≤ q
  pub past : (q : ℕ) → q < p → q < get_or ends (stretch_of rows q + 1) 0

-- what a fresh array holds
pub all-zeros : (n k : ℕ) → get_or {A = ℕ} (replicate n 0) k 0 ≡ 0
all-zeros n k =
    ⊎_elim (λ (h : n ≤ k). get_or-eq_default {A = ℕ} (replicate n 0) 0 {n = k} (omega (arith, length-replicate {A = ℕ} n 0)))
    (λ h. get_or-replicate {A = ℕ} n k 0 0 h) (le-or-lt n k)

pub stretching-none : (rows ends : List ℕ) → ends ≡ replicate 768 0 → Stretching rows ends 0
stretching-none rows ends e =
    record {
      within = omega arith;
      long = ap length e ∙ length-replicate {A = ℕ} 768 0;
      low = λ k. omega (arith, ap (λ (z : List ℕ). get_or z k 0) e, all-zeros 768 k);
      from = λ q l. absurd (omega arith);
      past = λ q l. absurd (omega arith);
    }

pub place-known : (rows : List ℕ) (p : ℕ) → LowRows rows → p < rows_of rows → stretch_of rows p + 1 < 768
place-known rows p L l = omega (arith, L.left p l, L.kinds p l)

-- the stretch reaches to the row p, or begins there
abbrev pub widened : List ℕ → List ℕ → ℕ → List ℕ
widened rows ends p = set ends (stretch_of rows p + 1) (p + 1)

abbrev pub begun : List ℕ → List ℕ → ℕ → List ℕ
begun rows ends p = set (widened rows ends p) (stretch_of rows p) p

module _ (rows ends : List ℕ) (p : ℕ) (L : LowRows rows) (S : Stretching rows ends p) (l : p < rows_of rows) where
  set_there : get_or (widened rows ends p) (stretch_of rows p + 1) 0 ≡ p + 1
  set_there = get_or-set_same ends _ _ 0 (omega (arith, place-known rows p L l, S.long))

  kept : (k : ℕ) → (k ≡ stretch_of rows p + 1 → ⊥) → get_or (widened rows ends p) k 0 ≡ get_or ends k 0
  kept k n = get_or-set_other ends _ k (p + 1) 0 n

  -- firsts stand at even places
  firsts-kept : (q : ℕ) → get_or (widened rows ends p) (stretch_of rows q) 0 ≡ get_or ends (stretch_of rows q) 0
  firsts-kept q = kept (stretch_of rows q) (λ e. omega (arith, e))

  pub stretching-more : Stretching rows (widened rows ends p) (p + 1)
  stretching-more =
      record {
        within = omega arith;
        long = length-set ends _ _ ∙ S.long;
        low =
            λ k.
            ⊎_elim (λ (e : k ≡ stretch_of rows p + 1). omega (arith, ap (λ (z : ℕ). get_or (widened rows ends p) z 0) e, set_there))
            (λ n. omega (arith, kept k n, S.low k)) (eq-or-ne k (stretch_of rows p + 1));
        from =
            λ q h.
            ⊎_elim (λ (e : q ≡ p). omega (arith, firsts-kept q, S.low (stretch_of rows q)))
            (λ b. omega (arith, firsts-kept q, S.from q b)) (last-cases q p (omega arith));
        past =
            λ q h.
            ⊎_elim
            (λ (e : stretch_of rows q ≡ stretch_of rows p). omega (arith, ap (λ (z : ℕ). get_or (widened rows ends p) (z + 1) 0) e, set_there))
            (λ n.
            ⊎_elim (λ (e : q ≡ p). absurd (n (ap (stretch_of rows) e)))
            (λ b. omega (arith, kept (stretch_of rows q + 1) (λ e. n (omega (arith, e))), S.past q b)) (last-cases q p (omega arith)))
            (eq-or-ne (stretch_of rows q) (stretch_of rows p));
      }

  -- it was empty
  module _ (empty : get_or ends (stretch_of rows p + 1) 0 ≡ 0) where
    set_first : get_or (begun rows ends p) (stretch_of rows p) 0 ≡ p
    set_first =
        get_or-set_same (widened rows ends p) (stretch_of rows p) p 0 (omega (arith, place-known rows p L l, stretching-more.long))

    others : (k : ℕ) → (k ≡ stretch_of rows p → ⊥) → get_or (begun rows ends p) k 0 ≡ get_or (widened rows ends p) k 0
    others k n = get_or-set_other (widened rows ends p) _ k p 0 n

    first-row : (q : ℕ) → q < p + 1 → stretch_of rows q ≡ stretch_of rows p → q ≡ p
    first-row q h e =
        ⊎_elim (λ (f : q ≡ p). f)
        (λ b. absurd (omega (arith, S.past q b, ap (λ (z : ℕ). get_or ends (z + 1) 0) e, empty))) (last-cases q p (omega arith))

    pub stretching-new : Stretching rows (begun rows ends p) (p + 1)
    stretching-new =
        record {
          within = omega arith;
          long = length-set (widened rows ends p) _ _ ∙ stretching-more.long;
          low =
              λ k.
              ⊎_elim (λ (e : k ≡ stretch_of rows p). omega (arith, ap (λ (z : ℕ). get_or (begun rows ends p) z 0) e, set_first))
              (λ n. omega (arith, others k n, stretching-more.low k)) (eq-or-ne k (stretch_of rows p));
          from =
              λ q h.
              ⊎_elim (λ (e : stretch_of rows q ≡ stretch_of rows p). omega (arith, ap (λ (z : ℕ). get_or (begun rows ends p) z 0) e, set_first, first-row q h e))
              (λ n. omega (arith, others (stretch_of rows q) n, stretching-more.from q h)) (eq-or-ne (stretch_of rows q) (stretch_of rows p));
          past = λ q h. omega (arith, others (stretch_of rows q + 1) (λ e. omega (arith, e)), stretching-more.past q h);
        }

pub stretching-done : (rows ends : List ℕ) (p : ℕ) → Stretching rows ends p → rows_of rows ≤ p → Stretches rows ends
stretching-done rows ends p S h =
    record {
      long = S.long;
      low = λ k. omega (arith, S.low k, S.within);
      from = λ q l. S.from q (omega arith);
      past = λ q l. S.past q (omega arith);
    }
