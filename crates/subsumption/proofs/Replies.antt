-- Replies tell their cases apart: a refusal's number is not 0, and number and place give the refusal back.
use Rattle.std.specs.Prelude.{Err, Ok}
use Prim.Native.Nat.{ℕ, zero, suc}
use mathlib.Core.Path.{◌≡◌, refl, sym, ap, ◌∙◌}
use native.Mathlib.Omega.{arith}
use Rattle.subsumption.specs.declared.refusal.Refusal.{Refusal}
use Rattle.subsumption.specs.declared.refusal.Refusal.TheVariants.{Limit, Malformed, ForwardId, NoConcept, VariableInInclusion, VariablesOnBothSides, TooManyAtoms, BufferTooShort, BadAssignment, NoAssignment, NotSubsumed, BadDerivation, BadText, AllowanceSpent, NoCountermodel, BadRole, BadSyntax, TooDeep, BadSettings, BadBatch, BadOrder, ForwardInOrder}
use Rattle.subsumption.specs.Refusal.{code_of, Reply, reply_done, reply_refused, reply_with, reply_of, Outcome, Done}

-- the refusal of a number and a place; numbers from 17 on by themselves
later_at : ℕ → ℕ → Refusal
later_at (suc (suc (suc (suc zero)))) place = BadOrder place
later_at (suc (suc (suc (suc (suc zero))))) place = ForwardInOrder place
later_at (suc (suc (suc (suc (suc (suc number)))))) place = TooManyAtoms
later_at zero place = BadSyntax place
later_at (suc zero) place = TooDeep place
later_at (suc (suc zero)) place = BadSettings place
later_at (suc (suc (suc zero))) place = BadBatch place

refusal_at : ℕ → ℕ → Refusal
refusal_at zero place = TooManyAtoms
refusal_at (suc zero) place = Limit place
refusal_at (suc (suc zero)) place = Malformed place
refusal_at (suc (suc (suc zero))) place = ForwardId place
refusal_at (suc (suc (suc (suc zero)))) place = NoConcept place
refusal_at (suc (suc (suc (suc (suc zero))))) place = VariableInInclusion place
refusal_at (suc (suc (suc (suc (suc (suc zero)))))) place = VariablesOnBothSides place
refusal_at (suc (suc (suc (suc (suc (suc (suc zero))))))) place = TooManyAtoms
refusal_at (suc (suc (suc (suc (suc (suc (suc (suc zero)))))))) place = BufferTooShort place
refusal_at (suc (suc (suc (suc (suc (suc (suc (suc (suc zero))))))))) place = BadAssignment place
refusal_at (suc (suc (suc (suc (suc (suc (suc (suc (suc (suc zero)))))))))) place = NoAssignment
refusal_at (suc (suc (suc (suc (suc (suc (suc (suc (suc (suc (suc zero))))))))))) place = NotSubsumed
refusal_at (suc (suc (suc (suc (suc (suc (suc (suc (suc (suc (suc (suc zero)))))))))))) place = BadDerivation place
refusal_at (suc (suc (suc (suc (suc (suc (suc (suc (suc (suc (suc (suc (suc zero))))))))))))) place = BadText place
refusal_at (suc (suc (suc (suc (suc (suc (suc (suc (suc (suc (suc (suc (suc (suc zero)))))))))))))) place = AllowanceSpent
refusal_at (suc (suc (suc (suc (suc (suc (suc (suc (suc (suc (suc (suc (suc (suc (suc zero))))))))))))))) place = NoCountermodel
refusal_at (suc (suc (suc (suc (suc (suc (suc (suc (suc (suc (suc (suc (suc (suc (suc (suc zero)))))))))))))))) place = BadRole place
refusal_at (suc (suc (suc (suc (suc (suc (suc (suc (suc (suc (suc (suc (suc (suc (suc (suc (suc number))))))))))))))))) place = later_at number place

refusal-back : (r : Refusal) → refusal_at (code_of r).number (code_of r).place ≡ r
unfolding refusal_at later_at
refusal-back (Limit place) = refl
refusal-back (Malformed place) = refl
refusal-back (ForwardId place) = refl
refusal-back (NoConcept place) = refl
refusal-back (VariableInInclusion place) = refl
refusal-back (VariablesOnBothSides place) = refl
refusal-back TooManyAtoms = refl
refusal-back (BufferTooShort place) = refl
refusal-back (BadAssignment place) = refl
refusal-back NoAssignment = refl
refusal-back NotSubsumed = refl
refusal-back (BadDerivation place) = refl
refusal-back (BadText place) = refl
refusal-back AllowanceSpent = refl
refusal-back NoCountermodel = refl
refusal-back (BadRole place) = refl
refusal-back (BadSyntax place) = refl
refusal-back (TooDeep place) = refl
refusal-back (BadSettings place) = refl
refusal-back (BadBatch place) = refl
refusal-back (BadOrder place) = refl
refusal-back (ForwardInOrder place) = refl

pub same-refusal : (q r : Refusal) → reply_refused q ≡ reply_refused r → q ≡ r
same-refusal q r e = sym (refusal-back q) ∙ ap (λ (z : Reply). refusal_at z.number z.place) e ∙ refusal-back r

-- a refusal's number with 0 told apart from the others
pub is_refused : (r : Refusal) → (code_of r).number ≡ 0 → ⊥
is_refused (Limit place) e = omega arith
is_refused (Malformed place) e = omega arith
is_refused (ForwardId place) e = omega arith
is_refused (NoConcept place) e = omega arith
is_refused (VariableInInclusion place) e = omega arith
is_refused (VariablesOnBothSides place) e = omega arith
is_refused TooManyAtoms e = omega arith
is_refused (BufferTooShort place) e = omega arith
is_refused (BadAssignment place) e = omega arith
is_refused NoAssignment e = omega arith
is_refused NotSubsumed e = omega arith
is_refused (BadDerivation place) e = omega arith
is_refused (BadText place) e = omega arith
is_refused AllowanceSpent e = omega arith
is_refused NoCountermodel e = omega arith
is_refused (BadRole place) e = omega arith
is_refused (BadSyntax place) e = omega arith
is_refused (TooDeep place) e = omega arith
is_refused (BadSettings place) e = omega arith
is_refused (BadBatch place) e = omega arith
is_refused (BadOrder place) e = omega arith
is_refused (ForwardInOrder place) e = omega arith

pub not_done : (r : Refusal) (n : ℕ) {A : Type 0} → reply_refused r ≡ reply_done n → A
not_done r n e = absurd (is_refused r (ap (λ (z : Reply). z.number) e))

pub same-value : (m n : ℕ) → reply_done m ≡ reply_done n → m ≡ n
same-value m n e = ap (λ (z : Reply). z.value) e

-- what a reply by these checks was
module _ (fault : Outcome) (n : ℕ) where
  pub by-refusal : (r : Refusal) → reply_refused r ≡ reply_with fault n → Err r ≡ fault
  by-refusal r e = go fault e
    where
      go : (f : Outcome) → reply_refused r ≡ reply_with f n → Err r ≡ f
      go (Ok tt) e = not_done r n e
      go (Err q) e = ap Err (same-refusal r q e)

  pub by_value : (m : ℕ) → reply_done m ≡ reply_with fault n → (fault ≡ Done) × (m ≡ n)
  by_value m e = go fault e
    where
      go : (f : Outcome) → reply_done m ≡ reply_with f n → (f ≡ Done) × (m ≡ n)
      go (Ok tt) e = (refl, same-value m n e)
      go (Err q) e = not_done q m (sym e)

pub same-reply : (x y : Outcome) → x ≡ y → reply_of x ≡ reply_of y
same-reply x y e = ap reply_of e

pub same-refused : (r : Refusal) (f : Outcome) → Err r ≡ f → reply_refused r ≡ reply_of f
same-refused r f e = ap reply_of e

pub with-refused : (r : Refusal) (f : Outcome) (n : ℕ) → Err r ≡ f → reply_refused r ≡ reply_with f n
with-refused r f n e = ap (λ (z : Outcome). reply_with z n) e

pub with_value : (m : ℕ) (f : Outcome) (n : ℕ) → f ≡ Done → m ≡ n → reply_done m ≡ reply_with f n
with_value m f n e h = ap reply_done h ∙ ap (λ (z : Outcome). reply_with z n) (sym e)
