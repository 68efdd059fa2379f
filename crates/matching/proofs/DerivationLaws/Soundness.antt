-- Laws of derivations: whatever is accepted is subsumed.
use Rattle.subsumption.specs.Refusal.{Done}
use Prim.Native.Nat.{ℕ, zero, suc, ◌-◌, ◌<◌}
use mathlib.Core.Path.{◌≡◌, sym, subst}
use mathlib.Core.List.{List}
use mathlib.Core.Bool.{true, not}
use native.Mathlib.Omega.{arith}
use borrow.Author.Tests.{eqb-true, not-false}
use Rattle.subsumption.specs.Tables.{Tables}
use Rattle.subsumption.specs.Subsumption.{Subsumed}
use Rattle.subsumption.specs.Check.{table_fault}
use Rattle.subsumption.proofs.Bools.{both_true, any_below-elim}
use Rattle.subsumption.proofs.Refusals.{passed_first, passed-second, passed-if, passed-at}
use Rattle.subsumption.proofs.WellFormed.{WellFormed}
use Rattle.subsumption.proofs.Accepted.{well_formed}
use Rattle.subsumption.proofs.Deciding.{asked-tables}
use Rattle.subsumption.proofs.RuleSoundness.{follows-sound}
use Rattle.matching.specs.Derivation.{lines_of, left_at, right_at, pair_at, proved_by, line_follows, rule_fault, last_fault, derivation_fault, checking_fault}
use Rattle.matching.proofs.DerivationLaws.Lines.{some-lines}

module _ (t : Tables) (assignment lines : List ℕ) (wf : WellFormed t) (n : ℕ) (h : (k : ℕ) → k < n → line_follows t assignment lines k ≡ true) where
  -- the pair of each right line is subsumed
  pub line-sound : (b k : ℕ) → k < b → k < n → Subsumed t assignment (left_at lines k) (right_at lines k)
  unfolding line_follows proved_by pair_at
  line-sound zero k l m = absurd (omega arith)
  line-sound (suc b) k l m =
      follows-sound t assignment wf (proved_by lines k)
      (λ i j _ _ e.
      let (p, q, s) = any_below-elim _ _ e in
      let (u, v) = both_true _ _ s in
      subst (λ (z : ℕ). Subsumed t assignment z j) (sym (eqb-true i (left_at lines p) u))
      (subst (λ (z : ℕ). Subsumed t assignment (left_at lines p) z) (sym (eqb-true j (right_at lines p) v)) (line-sound b p (omega arith) (omega arith))))
      _ _ _ _ (h k m)

module _ (t : Tables) (assignment : List ℕ) (left right : ℕ) (lines : List ℕ) where
  -- Whatever the checker's definition accepts is subsumed.
  pub derivation-sound : table_fault t ≡ Done → derivation_fault t assignment left right lines ≡ Done → Subsumed t assignment left right
  unfolding derivation_fault rule_fault last_fault pair_at
  derivation-sound w h =
      let (u, v) = both_true _ _ (not-false _ (passed-if _ _ (passed-second _ _ (passed-second _ _ h)))) in
      subst (λ (z : ℕ). Subsumed t assignment z right) (sym (eqb-true left (left_at lines (lines_of lines - 1)) u))
      (subst (λ (z : ℕ). Subsumed t assignment (left_at lines (lines_of lines - 1)) z) (sym (eqb-true right (right_at lines (lines_of lines - 1)) v))
      (line-sound t assignment lines (well_formed t w) (lines_of lines) each (suc (lines_of lines - 1)) (lines_of lines - 1) (omega arith) (omega (arith, some-lines lines (passed_first _ _ h)))))
    where
      each : (k : ℕ) → k < lines_of lines → line_follows t assignment lines k ≡ true
      each k l = not-false _ (passed-at _ (λ k. not (line_follows t assignment lines k)) 0 (lines_of lines) (passed_first _ _ (passed-second _ _ h)) k (omega arith) (omega arith))

  pub checked-sound : checking_fault t assignment left right lines ≡ Done → Subsumed t assignment left right
  unfolding checking_fault
  checked-sound h = derivation-sound (asked-tables t assignment left right (passed_first _ _ h)) (passed-second _ _ h)
