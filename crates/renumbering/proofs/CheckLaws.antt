-- Checks 21 and 22: what the loops have found so far.
use Rattle.std.specs.Prelude.{Err}
use Prim.Native.Nat.{ℕ, ◌+◌, ◌<◌, ◌≤◌}
use mathlib.Core.Path.{◌≡◌, refl, sym, ◌∙◌, subst}
use mathlib.Core.List.{List}
use mathlib.Core.Bool.{Bool, true, false, not}
use mathlib.Core.Logic.{⊎_elim}
use native.Mathlib.Omega.{arith}
use native.Mathlib.Numerals.{add-one}
use lib.Dec.{eqb, ltb}
use lib.ListN.{length, get_or, set, replicate, length-replicate, get_or-replicate, length-set}
use lib.Seq.{get_or-set_same, get_or-set_other}
use borrow.Author.Tests.{lt-ltb, le-ltb, eq-eqb, ne_eqb}
use Rattle.subsumption.specs.declared.refusal.Refusal.{Refusal}
use Rattle.subsumption.specs.declared.refusal.Refusal.TheVariants.{BadOrder}
use Rattle.subsumption.specs.Tables.{or, any_below, decode}
use Rattle.subsumption.specs.Refusal.{first_at, Done}
use Rattle.subsumption.specs.Check.{forward}
use Rattle.subsumption.proofs.Bools.{or-first, or-second, eq-or-ne}
use Rattle.subsumption.proofs.Refusals.{stops, goes_on, refused-if, done-if}
use Rattle.subsumption.specs.declared.tables.Row.{Row}
use Rattle.renumbering.specs.Order.{new_id, stood, order_fault}
use Rattle.renumbering.specs.Renumbering.{moved_node}
use Rattle.renumbering.specs.Inner.Moving.{moved_parts}

-- ---- check 21
abbrev pub bad_at : ℕ → List ℕ → ℕ → Bool
bad_at count order m = or (not (ltb (new_id order m) count)) (stood order m)

-- the flag of each id that stands below place m
pub record SeenTo (order : List ℕ) (m : ℕ) (seen : List Bool) : Type 0 where
  pub long : length seen ≡ 192
  pub flags : (x : ℕ) → x < 192 → get_or seen x false ≡ any_below m (λ n. eqb (new_id order n) x)

pub seen_none : (order : List ℕ) → SeenTo order 0 (replicate 192 false)
unfolding any_below
seen_none order = record { long = length-replicate 192 false; flags = λ x l. get_or-replicate 192 x false false l }

pub seen_more : (order : List ℕ) (m : ℕ) (seen : List Bool) → SeenTo order m seen → new_id order m < 192 → SeenTo order (m + 1) (set seen (new_id order m) true)
unfolding or any_below
seen_more order m seen s h = record { long = length-set seen (new_id order m) true ∙ s.long; flags = flag }
  where
    at : (x : ℕ) → x < 192 → get_or (set seen (new_id order m) true) x false ≡ or (eqb (new_id order m) x) (any_below m (λ n. eqb (new_id order n) x))
    at x l =
        ⊎_elim
        (λ (e : new_id order m ≡ x). subst (λ (z : ℕ). get_or (set seen (new_id order m) true) z false ≡ or (eqb (new_id order m) z) (any_below m (λ n. eqb (new_id order n) z))) e
        (get_or-set_same seen (new_id order m) true false (omega (arith, s.long)) ∙ rw (eq-eqb (new_id order m) (new_id order m) refl) refl))
        (λ ne. get_or-set_other seen (new_id order m) x true false (λ e. ne (sym e)) ∙ s.flags x l ∙ rw (ne_eqb (new_id order m) x ne) refl)
        (eq-or-ne (new_id order m) x)

    flag : (x : ℕ) → x < 192 → get_or (set seen (new_id order m) true) x false ≡ any_below (m + 1) (λ n. eqb (new_id order n) x)
    flag x l = rw add-one (at x l)

module _ (count : ℕ) (order : List ℕ) (m : ℕ) where
  pub bad-high : count ≤ new_id order m → bad_at count order m ≡ true
  bad-high h = or-first _ _ (rw (le-ltb (new_id order m) count h) refl)

  module _ (seen : List Bool) (s : SeenTo order m seen) where
    pub bad-again : new_id order m < 192 → get_or seen (new_id order m) false ≡ true → bad_at count order m ≡ true
    unfolding stood
    bad-again l h = or-second _ _ (sym (s.flags (new_id order m) l) ∙ h)

    pub not-bad : new_id order m < count → new_id order m < 192 → get_or seen (new_id order m) false ≡ false → bad_at count order m ≡ false
    unfolding or stood
    not-bad k l h = rw (lt-ltb (new_id order m) count k) (sym (s.flags (new_id order m) l) ∙ h)

module _ (count : ℕ) (order : List ℕ) where
  pub order-refused : (r : Refusal) → Err r ≡ first_at BadOrder (bad_at count order) 0 (length order) → Err r ≡ order_fault count order
  unfolding order_fault
  order-refused r e = stops (Err r) _ _ r e refl

  pub order-uneven : Done ≡ first_at BadOrder (bad_at count order) 0 (length order) → (length order ≡ count → ⊥) → Err (BadOrder (length order)) ≡ order_fault count order
  unfolding order_fault
  order-uneven e h = goes_on Done _ _ _ e refl (refused-if _ _ (rw (ne_eqb (length order) count h) refl))

  pub order-passed : Done ≡ first_at BadOrder (bad_at count order) 0 (length order) → length order ≡ count → Done ≡ order_fault count order
  unfolding order_fault
  order-passed e h = goes_on Done _ _ _ e refl (done-if _ _ (rw (eq-eqb (length order) count h) refl))

-- ---- check 22
-- the code's test of a row, and the paper's
pub moved-forward :
    (concepts order : List ℕ) (i : ℕ) (row : Row) (r : Bool) → row ≡ moved_parts order concepts i
    → r ≡ forward (new_id order i) (decode row.kind row.a row.b) → forward (new_id order i) (moved_node order concepts i) ≡ r
unfolding moved_node
moved-forward concepts order i row r e h = sym (rw e at h)
