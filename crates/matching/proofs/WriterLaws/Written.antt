-- The written lines are a derivation.
use Prim.Native.Nat.{ℕ, zero, suc, ◌+◌, ◌-◌, ◌*◌, ◌<◌, ◌≤◌}
use mathlib.Core.Path.{◌≡◌, refl, sym, ap, ◌∙◌}
use mathlib.Core.List.{List}
use mathlib.Core.Bool.{Bool, true, false, not, true≢false}
use native.Mathlib.Omega.{arith}
use lib.ListN.{length, take, length-drop}
use lib.Seq.{length-take-le, get_or-take, get_or-drop, ext_get_or}
use borrow.Author.Tests.{eqb-true, eq-eqb}
use Rattle.subsumption.specs.declared.refusal.Refusal.{Refusal}
use Rattle.subsumption.specs.Tables.{Tables}
use Rattle.subsumption.specs.Inner.Closure.{Ready}
use Rattle.subsumption.specs.Refusal.{first_at, Done}
use Rattle.subsumption.proofs.Bools.{both_true, both-intro, any_below-intro}
use Rattle.subsumption.proofs.Refusals.{both-done, done-if}
use Rattle.matching.specs.Derivation.{lines_of, left_at, right_at, pair_at, proved_by, line_follows, rule_fault, derivation_fault}
use Rattle.matching.specs.Inner.Derivation.{Of}
use Rattle.matching.specs.Writer.{DerivationOf}
use Rattle.matching.specs.Inner.Writer.{RestKept, WrittenTo}
use Rattle.matching.proofs.DerivationLaws.Lines.{shape-whole, last-both}
use Rattle.matching.proofs.DerivationLaws.Monotone.{of-reads}
use Rattle.matching.proofs.WriterLaws.Lines.{Agree, line-agree}

pair-known : (lines : List ℕ) (i j k : ℕ) → pair_at lines i j k ≡ true → (i ≡ left_at lines k) × (j ≡ right_at lines k)
unfolding pair_at
pair-known lines i j k h = let (u, v) = both_true _ _ h in (eqb-true i (left_at lines k) u, eqb-true j (right_at lines k) v)

first-none : (refusal : ℕ → Refusal) (faulty : ℕ → Bool) (from count : ℕ) → ((i : ℕ) → from ≤ i → i < from + count → faulty i ≡ false) → Done ≡ first_at refusal faulty from count
unfolding first_at
first-none refusal faulty from zero h = refl
first-none refusal faulty from (suc count) h =
    both-done _ _ _ _ (done-if (faulty from) (refusal from) (h from (omega arith) (omega arith))) refl
    (first-none refusal faulty (suc from) count (λ i l k. h i (omega arith) (omega arith))) refl

module _ (t : Tables) (concepts inclusions into ids assignment : List ℕ) (left right : ℕ) (marks : List Bool) (before after : List ℕ) (n : ℕ)
    (of : Of t concepts inclusions into ids) (r : Ready concepts inclusions ids assignment) (d : WrittenTo concepts inclusions into ids assignment left right marks after n)
    (w : RestKept before after 0 n) (room : n * 4 ≤ length before) where
  once : (k m : ℕ) → k < m → m < n → left_at after k ≡ left_at after m → right_at after k ≡ right_at after m → ⊥
  unfolding proved_by pair_at
  once k m h l e f =
      true≢false (sym (any_below-intro m (pair_at after (left_at after m) (right_at after m)) k h (both-intro _ _ (eq-eqb _ _ (sym e)) (eq-eqb _ _ (sym f)))) ∙ d.written.fresh m l)

  abbrev lines : List ℕ
  lines = take (n * 4) after

  long : length lines ≡ n * 4
  long = length-take-le (n * 4) after (omega (arith, w.size))

  agree : Agree lines after n
  agree = record { each = λ p h. get_or-take (n * 4) after p 0 h }

  count-lines : lines_of lines ≡ n
  count-lines = omega (arith, long)

  lines-follow : (k : ℕ) → k < lines_of lines → line_follows t assignment lines k ≡ true
  lines-follow k h =
      line-agree lines after n agree t assignment (of-reads t concepts inclusions into ids assignment of r) k (omega (arith, count-lines))
      ∙ d.written.follow k (omega (arith, count-lines)) t of

  last-is-left : left_at lines (lines_of lines - 1) ≡ left
  last-is-left =
      ap (λ (z : ℕ). left_at lines (z - 1)) count-lines ∙ agree.each ((n - 1) * 4 + 1) (omega (arith, d.some))
      ∙ sym (pair-known after left right (n - 1) d.last).0

  last-is-right : right_at lines (lines_of lines - 1) ≡ right
  last-is-right =
      ap (λ (z : ℕ). right_at lines (z - 1)) count-lines ∙ agree.each ((n - 1) * 4 + 2) (omega (arith, d.some))
      ∙ sym (pair-known after left right (n - 1) d.last).1

  lines-accepted : Done ≡ derivation_fault t assignment left right lines
  unfolding derivation_fault rule_fault
  lines-accepted =
      both-done _ _ _ _ (shape-whole lines (λ e. absurd (omega (arith, long, d.some))) (omega (arith, long))) refl
      (both-done _ _ _ _ (first-none _ _ 0 (lines_of lines) (λ i l k. ap not (lines-follow i (omega arith)))) refl (last-both left right lines last-is-left last-is-right) refl) refl

  pub derivation-written : DerivationOf t assignment left right before after n
  derivation-written =
      record {
        size = w.size;
        room = omega (arith, w.size);
        accepted = sym lines-accepted;
        once = once;
        rest = ext_get_or 0 _ _ (rw (length-drop, length-drop, w.size) refl)
            (λ i h. get_or-drop (n * 4) after i 0 ∙ w.rest (n * 4 + i) (omega arith) ∙ sym (get_or-drop (n * 4) before i 0));
      }
