-- Accepted settings, and how the check comes to its answer.
use Rattle.std.specs.Prelude.{Err}
use Prim.Native.Nat.{ℕ, ◌<◌, ◌≤◌, ◌^◌}
use mathlib.Core.Path.{◌≡◌, refl, sym, ap, ◌∙◌}
use mathlib.Core.Bool.{true, false, not}
use native.Mathlib.Omega.{arith}
use lib.Dec.{eqb, ltb}
use lib.ListN.{length, get_or}
use borrow.Author.Tests.{eqb-true, eq-eqb, ne_eqb, ltb-true, ltb-false, lt-ltb, le-ltb, not-false}
use Rattle.subsumption.specs.declared.refusal.Refusal.TheVariants.{BadSettings}
use Rattle.subsumption.specs.Tables.{Tables, or}
use Rattle.subsumption.specs.Atoms.{atoms}
use Rattle.subsumption.specs.Refusal.{first_at, Outcome, Done}
use Rattle.subsumption.proofs.Bools.{or-first, or-second, or-skip, or-false}
use Rattle.subsumption.proofs.Refusals.{stops, goes_on, refused-if, done-if, passed_first, passed-second, passed-if, passed-at, no-fault}
use Rattle.settings.specs.Settings.{Settings, faulty_at, settings_fault_at, settings_fault}

-- ---- one variable's
module _ (atomCount : ℕ) (s : Settings) (k : ℕ) where
  pub past-faulty : not (ltb (get_or s.permitted k 0) (2 ^ atomCount)) ≡ true → true ≡ faulty_at atomCount s k
  unfolding faulty_at
  past-faulty e = sym (or-first _ _ e)

  pub count-faulty : not (ltb (get_or s.permitted k 0) (2 ^ atomCount)) ≡ false → ltb 64 (get_or s.largest k 0) ≡ faulty_at atomCount s k
  unfolding faulty_at
  count-faulty e = sym (or-skip _ _ e)

-- ---- the check
module _ (atomCount variables : ℕ) (s : Settings) where
  pub permitted-uneven : (length s.permitted ≡ variables → ⊥) → Err (BadSettings variables) ≡ settings_fault_at atomCount variables s
  unfolding settings_fault_at
  permitted-uneven h = stops _ _ _ _ (refused-if _ _ (or-first _ _ (ap not (ne_eqb _ _ h)))) refl

  pub largest-uneven : (length s.largest ≡ variables → ⊥) → Err (BadSettings variables) ≡ settings_fault_at atomCount variables s
  unfolding settings_fault_at
  largest-uneven h = stops _ _ _ _ (refused-if _ _ (or-second _ _ (ap not (ne_eqb _ _ h)))) refl

  pub even-goes-on :
      (r : Outcome) → length s.permitted ≡ variables → length s.largest ≡ variables → r ≡ first_at BadSettings (faulty_at atomCount s) 0 variables
      → r ≡ settings_fault_at atomCount variables s
  unfolding settings_fault_at
  even-goes-on r e f h = goes_on Done _ _ _ (done-if _ _ (or-skip _ _ (ap not (eq-eqb _ _ e)) ∙ ap not (eq-eqb _ _ f))) refl h

-- ---- what it shows
module _ (t : Tables) (s : Settings) (h : settings_fault t s ≡ Done) where
  even : or (not (eqb (length s.permitted) t.variables)) (not (eqb (length s.largest) t.variables)) ≡ false
  unfolding settings_fault settings_fault_at
  even = passed-if _ _ (passed_first _ _ h)

  pub settings-long : (length s.permitted ≡ t.variables) × (length s.largest ≡ t.variables)
  settings-long = let (e, f) = or-false _ _ even in (eqb-true _ _ (not-false _ e), eqb-true _ _ (not-false _ f))

  sound : (k : ℕ) → k < t.variables → faulty_at (length (atoms t)) s k ≡ false
  unfolding settings_fault settings_fault_at
  sound k l = passed-at BadSettings _ 0 _ (passed-second _ _ h) k (omega arith) (omega arith)

  pub settings-below : (k : ℕ) → k < t.variables → get_or s.permitted k 0 < 2 ^ length (atoms t)
  unfolding faulty_at
  settings-below k l = ltb-true _ _ (not-false _ (or-false _ _ (sound k l)).0)

  pub settings-few : (k : ℕ) → k < t.variables → get_or s.largest k 0 ≤ 64
  unfolding faulty_at
  settings-few k l = ltb-false _ _ (or-false _ _ (sound k l)).1

pub settings-accept :
    (t : Tables) (s : Settings) → length s.permitted ≡ t.variables → length s.largest ≡ t.variables
    → ((k : ℕ) → k < t.variables → (get_or s.permitted k 0 < 2 ^ length (atoms t)) × (get_or s.largest k 0 ≤ 64)) → settings_fault t s ≡ Done
unfolding settings_fault faulty_at
settings-accept t s e f h = sym (even-goes-on _ _ s Done e f (no-fault BadSettings _ 0 _ (λ k l. fine k (omega arith))))
  where
    fine : (k : ℕ) → k < t.variables → faulty_at (length (atoms t)) s k ≡ false
    fine k l = or-skip _ _ (ap not (lt-ltb _ _ (h k l).0)) ∙ le-ltb _ _ (h k l).1
