-- Laws of the checks' order: when a check refuses, when it passes, and what a passed one tells.
use Rattle.std.specs.Prelude.{Result, Err, Ok}
use Rattle.std.specs.Result.{IsErr, IsErrAnd}
use Rattle.std.proofs.lemmas.Result.{err_from_is_err_and}
use Prim.Native.Nat.{ℕ, zero, suc, ◌+◌, ◌<◌, ◌≤◌}
use mathlib.Core.Path.{◌≡◌, refl, sym, ◌∙◌, ap, subst}
use mathlib.Core.Bool.{Bool, true, false}
use mathlib.Core.Logic.{⊎_elim}
use native.Mathlib.Omega.{arith}
use native.Mathlib.Nat.{eq-or-lt_of_le}
use lib.Dec.{ltb}
use borrow.Author.Tests.{lt-ltb, le-ltb, ltb-false}
use Rattle.subsumption.specs.declared.refusal.Refusal.{Refusal}
use Rattle.subsumption.specs.Refusal.{or_else, refuse_if, first_at, Outcome, Done}
use Rattle.subsumption.specs.Check.{buffer_fault}

-- What the exit of a `?` returns.
pub handed_up : {T : Type 0} {x : Refusal} (r : Result T Refusal) → IsErr r × IsErrAnd r (λ e. e ≡ x) → r ≡ Err x
handed_up r h = let p = err_from_is_err_and r h.1 in p.1 ∙ ap Err p.2

pub refused-if : (b : Bool) (r : Refusal) → b ≡ true → Err r ≡ refuse_if b r
unfolding refuse_if
refused-if b r e = rw e

pub done-if : (b : Bool) (r : Refusal) → b ≡ false → Done ≡ refuse_if b r
unfolding refuse_if
done-if b r e = rw e

pub refused-lt : (a b : ℕ) (r : Refusal) → a < b → Err r ≡ refuse_if (ltb a b) r
refused-lt a b r h = refused-if (ltb a b) r (lt-ltb a b h)

pub done-le : (a b : ℕ) (r : Refusal) → b ≤ a → Done ≡ refuse_if (ltb a b) r
done-le a b r h = done-if (ltb a b) r (le-ltb a b h)

-- the first check refuses
pub stops : (x a b : Outcome) (r : Refusal) → x ≡ a → x ≡ Err r → Err r ≡ or_else a b
unfolding or_else
stops x a b r e h = rw (← e, h)

-- the first check passes
pub goes_on : (x a b y : Outcome) → x ≡ a → x ≡ Done → y ≡ b → y ≡ or_else a b
unfolding or_else
goes_on x a b y e h k = rw (← e, h) k

-- both checks pass
pub both-done : (x a y b : Outcome) → x ≡ a → x ≡ Done → y ≡ b → y ≡ Done → Done ≡ or_else a b
both-done x a y b e h f k = goes_on x a b Done e h (sym (sym f ∙ k))

-- what was computed refuses
pub refuses : (x a : Outcome) (r : Refusal) → x ≡ a → x ≡ Err r → Err r ≡ a
refuses x a r e h = sym h ∙ e

-- what was computed passed
pub is-done : (x a : Outcome) → x ≡ a → x ≡ Done → a ≡ Done
is-done x a e h = sym e ∙ h

not-refused : (r : Refusal) {A : Type 0} → Err r ≡ Done → A
not-refused r e = absurd (let z : ◌≡◌ {A = ℕ} 0 1 = cc e in omega arith)

pub passed_first : (a b : Outcome) → or_else a b ≡ Done → a ≡ Done
unfolding or_else
passed_first (Ok tt) b e = refl
passed_first (Err r) b e = e

pub passed-second : (a b : Outcome) → or_else a b ≡ Done → b ≡ Done
unfolding or_else
passed-second (Ok tt) b e = e
passed-second (Err r) b e = not-refused r e

pub passed-if : (b : Bool) (r : Refusal) → refuse_if b r ≡ Done → b ≡ false
unfolding refuse_if
passed-if true r e = not-refused r e
passed-if false r e = refl

-- a scan that passed found no fault
pub passed-at :
    (refusal : ℕ → Refusal) (faulty : ℕ → Bool) (from count : ℕ) → first_at refusal faulty from count ≡ Done
    → (i : ℕ) → from ≤ i → i < from + count → faulty i ≡ false
unfolding first_at
passed-at refusal faulty from zero e i h l = absurd (omega arith)
passed-at refusal faulty from (suc count) e i h l =
    ⊎_elim
    (λ q. subst (λ (k : ℕ). faulty k ≡ false) q (passed-if (faulty from) (refusal from) (passed_first (refuse_if (faulty from) (refusal from)) (first_at refusal faulty (suc from) count) e)))
    (λ q. passed-at refusal faulty (suc from) count (passed-second (refuse_if (faulty from) (refusal from)) (first_at refusal faulty (suc from) count) e) i q (omega arith))
    (eq-or-lt_of_le h)

-- a scan that meets no fault passes
pub no-fault :
    (refusal : ℕ → Refusal) (faulty : ℕ → Bool) (from count : ℕ) → ((i : ℕ) → i < from + count → faulty i ≡ false)
    → Done ≡ first_at refusal faulty from count
unfolding first_at
no-fault refusal faulty from zero none = refl
no-fault refusal faulty from (suc count) none =
    both-done Done _ Done _ (done-if (faulty from) (refusal from) (none from (omega arith))) refl
    (no-fault refusal faulty (suc from) count (λ i l. none i (omega arith))) refl

pub buffer-fits : (wanted size : ℕ) → buffer_fault wanted size ≡ Done → wanted ≤ size
unfolding buffer_fault
buffer-fits wanted size h = ltb-false size wanted (passed-if _ _ h)
