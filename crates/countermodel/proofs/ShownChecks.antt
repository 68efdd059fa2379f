-- The shown rows pass the checks of the membership operation, which then answers as the pair is decided.
use Prim.Native.Nat.{ℕ, zero, suc, ◌<◌, ◌%◌}
use mathlib.Core.Path.{◌≡◌, refl, sym, subst}
use mathlib.Core.List.{List}
use mathlib.Core.Bool.{Bool, false}
use mathlib.Core.Logic.{◌↔◌, ◌⊎◌, inl, inr}
use native.Mathlib.Omega.{arith}
use lib.ListN.{length}
use borrow.Author.Tests.{lt-ltb, le-ltb, ne_eqb}
use Rattle.subsumption.specs.declared.refusal.Refusal.TheVariants.{Malformed}
use Rattle.subsumption.specs.Tables.{Tables, or, count_of}
use Rattle.subsumption.specs.Subsumption.{Interpretation, Subsumed}
use Rattle.subsumption.specs.Refusal.{Reply, Replies, or_else, refuse_if, Done}
use Rattle.subsumption.specs.Check.{table_fault, assignment_fault}
use Rattle.subsumption.specs.Decide.{Tells}
use Rattle.subsumption.proofs.Accepted.{well_formed}
use Rattle.subsumption.proofs.Refusals.{no-fault}
use Rattle.countermodel.specs.Countermodel.{Exactly, shown_rows}
use Rattle.countermodel.specs.Membership.{size_fault, bad_row, rows_fault, element_fault, membership_fault, IsMember, TellsMember, DecidesMember}
use Rattle.countermodel.proofs.FlatLaws.{Row, flat-length, flat-count, flat-at, get_or-in}
use Rattle.countermodel.proofs.ShownLaws.{shown, shown-flat, IsName, IsLink, shown-out}
use Rattle.countermodel.proofs.CountermodelLaws.{shown-members}

module _ (concepts roles : List ℕ) (marks : ℕ → ℕ → Bool) where
  fine-row : {r : Row} → IsName concepts roles marks r ⊎ IsLink concepts roles marks r → bad_row (count_of concepts) r.kind r.element r.last ≡ false
  unfolding bad_row or
  fine-row (inl k) = rw (k.kind, lt-ltb _ _ k.element, k.last) refl
  fine-row (inr k) = rw (k.kind, lt-ltb _ _ k.element, lt-ltb _ _ k.last) refl

  -- four numbers a row
  pub rows_whole : length (shown_rows concepts roles marks) % 4 ≡ 0
  rows_whole = rw (← shown-flat concepts roles marks) (omega (arith, flat-length (shown concepts roles marks)))

  rows-fine : rows_fault (count_of concepts) (shown_rows concepts roles marks) ≡ Done
  unfolding rows_fault
  rows-fine =
      subst (λ (z : List ℕ). rows_fault (count_of concepts) z ≡ Done) (shown-flat concepts roles marks)
      (sym
      (no-fault Malformed _ 0 _
      (λ p l.
      subst (λ (r : Row). bad_row (count_of concepts) r.kind r.element r.last ≡ false) (sym (flat-at (shown concepts roles marks) p))
      (fine-row (shown-out concepts roles marks (get_or-in (shown concepts roles marks) p (omega (arith, flat-count (shown concepts roles marks)))))))))

-- where membership is subsumption, a value tells the one as it tells the other
tells-same :
    (t : Tables) (assignment : List ℕ) (I : Interpretation) (i j : ℕ) → IsMember t assignment I j i ↔ Subsumed t assignment i j
    → (value : ℕ) → TellsMember t assignment I j i value ↔ Tells t assignment i j value
tells-same t assignment I i j m zero = (λ h s. h (m.1 s), λ h s. h (m.0 s))
tells-same t assignment I i j m (suc zero) = m
tells-same t assignment I i j m (suc (suc value)) = (λ h. h, λ h. h)

module _ (t : Tables) (assignment : List ℕ) (fine : table_fault t ≡ Done) (given : assignment_fault t assignment ≡ Done) (marks : ℕ → ℕ → Bool) (i j : ℕ)
    (l : i < count_of t.concepts) (k : j < count_of t.concepts) where
  pub shown-passes : membership_fault t assignment (count_of t.concepts) (shown_rows t.concepts t.roles marks) j i ≡ Done
  unfolding membership_fault size_fault element_fault or_else refuse_if or
  shown-passes =
      rw (
        fine,
        given,
        ne_eqb (count_of t.concepts) 0 (omega arith),
        le-ltb 192 (count_of t.concepts) (well_formed t fine).few,
        rows_whole t.concepts t.roles marks,
        rows-fine t.concepts t.roles marks,
        lt-ltb i _ l,
        lt-ltb j _ k,
      )

  answers :
      Exactly t assignment marks
      → (reply : Reply)
      → DecidesMember t assignment (count_of t.concepts) (shown_rows t.concepts t.roles marks) j i reply
      ↔ Replies Done (Tells t assignment i j) reply
  answers exactly reply =
      let same = tells-same t assignment _ i j (shown-members t assignment fine marks exactly i j l k) reply.value in
      rw shown-passes (λ (e, h). (e, same.0 h), λ (e, h). (e, same.1 h))

-- The membership operation on the shown rows is done, and its value tells whether the element's concept is below the one asked for: what
-- the subsumption table says.
pub shown-answers :
    (t : Tables) (assignment : List ℕ) → table_fault t ≡ Done → assignment_fault t assignment ≡ Done → (marks : ℕ → ℕ → Bool) → Exactly t assignment marks
    → (i j : ℕ) → i < count_of t.concepts → j < count_of t.concepts → (reply : Reply)
    → DecidesMember t assignment (count_of t.concepts) (shown_rows t.concepts t.roles marks) j i reply
    ↔ Replies Done (Tells t assignment i j) reply
shown-answers t assignment fine accepted marks exactly i j l k reply = answers t assignment fine accepted marks i j l k exactly reply
