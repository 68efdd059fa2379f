-- The list that leads back, as it is written.
use Prim.Native.Nat.{ℕ, ◌+◌, ◌<◌, ◌≤◌}
use mathlib.Core.Path.{◌≡◌, sym, ap, ◌∙◌, subst}
use mathlib.Core.List.{List}
use mathlib.Core.Logic.{⊎_elim}
use native.Mathlib.Omega.{arith}
use lib.ListN.{length, get_or, set, length-set}
use lib.Seq.{get_or-set_same, get_or-set_other}
use Rattle.subsumption.proofs.Bools.{eq-or-ne}
use Rattle.renumbering.specs.Order.{new_id, place_of}
use Rattle.renumbering.specs.Inner.Order.{Arranges, LeadsBack}
use Rattle.renumbering.proofs.OrderLaws.{place-of}

-- the places below i are written
pub record BackTo (order : List ℕ) (back : List ℕ) (i : ℕ) : Type 0 where
  pub within : i ≤ length order
  pub long : length back ≡ 192
  pub each : (m : ℕ) → m < i → get_or back (new_id order m) 0 ≡ m

pub back_none : (order back : List ℕ) → length back ≡ 192 → BackTo order back 0
back_none order back e = record { within = omega arith; long = e; each = λ m l. absurd (omega arith) }

module _ (order : List ℕ) (A : Arranges (length order) order) (few : length order ≤ 192) (back : List ℕ) (i : ℕ) (s : BackTo order back i) where
  pub back_low : i < length order → new_id order i < 192
  back_low h = omega (arith, A.low i h)

  pub back_more : i < length order → BackTo order (set back (new_id order i) i) (i + 1)
  back_more h = record { within = omega arith; long = length-set back (new_id order i) i ∙ s.long; each = at }
    where
      at : (m : ℕ) → m < i + 1 → get_or (set back (new_id order i) i) (new_id order m) 0 ≡ m
      at m l =
          ⊎_elim
          (λ (e : i ≡ m). subst (λ (z : ℕ). get_or (set back (new_id order i) i) (new_id order z) 0 ≡ z) e
          (get_or-set_same back (new_id order i) i 0 (omega (arith, s.long, back_low h))))
          (λ ne. get_or-set_other back (new_id order i) (new_id order m) i 0 (λ e. ne (sym (A.apart m i (omega arith) h e))) ∙ s.each m (omega (arith, ne)))
          (eq-or-ne i m)

  pub back_done : length order ≤ i → LeadsBack order back
  back_done h =
      record {
        long = s.long;
        each = λ k l.
            let (u, v) = place-of (length order) order A k l in
            ap (λ (z : ℕ). get_or back z 0) (sym v) ∙ s.each (place_of k order) (omega arith);
      }
