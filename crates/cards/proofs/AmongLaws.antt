-- A computed test of the first assignment within settings that makes the asked questions hold, and the laws that turn it into the sentences.
use Rattle.subsumption.specs.Refusal.{Done}
use Prim.Native.Nat.{ℕ, ◌≤◌}
use mathlib.Core.Path.{◌≡◌, refl, sym, ap, ◌∙◌}
use mathlib.Core.List.{List}
use mathlib.Core.Bool.{Bool, true, false, not, true≢false}
use mathlib.Core.Logic.{inl, inr, ⊎_elim}
use native.Mathlib.Omega.{arith}
use lib.Dec.{ltb}
use lib.ListN.{length, get_or, get_or-eq_default}
use borrow.Author.Tests.{ltb-false, le-ltb, not-true}
use Rattle.subsumption.specs.Tables.{Tables, or, both, pairs_of, left_of, right_of}
use Rattle.subsumption.specs.Atoms.{atoms}
use Rattle.subsumption.specs.Check.{table_fault, assignment_fault}
use Rattle.subsumption.proofs.Bools.{or_cases, both_true, both-intro, le-or-lt}
use Rattle.subsumption.proofs.WellFormed.{WellFormed}
use Rattle.subsumption.proofs.Accepted.{well_formed}
use Rattle.settings.specs.Settings.{Settings, size, Heeds}
use Rattle.settings.proofs.SizeLaws.{size-zero}
use Rattle.matching.specs.Solving.{takes}
use Rattle.matching.specs.Among.{SolvesAmong, FirstAmong, NoneAmong}
use Rattle.matching.proofs.SearchLaws.Fronts.{accepted-long, accepted-bits}
use Rattle.cards.proofs.SampleLaws.{all_below, all_below-at, all_below-intro, mark_at, lines, rounds, rounds-sound, closed_test, closed-complete, same_list, same-list, all_in, all_in-at, assignments, all-assignments, earlier_test, test-earlier, is_done, is-done}

implied : (a b : Bool) → or (not a) b ≡ true → a ≡ true → b ≡ true
unfolding or
implied true b h e = h
implied false b h e = absurd (true≢false (sym e))

implies : (a b : Bool) → (a ≡ true → b ≡ true) → or (not a) b ≡ true
unfolding or
implies true b h = h refl
implies false b h = refl

-- ---- within the settings
module _ (t : Tables) (s : Settings) where
  unfoldable pub heeds_test : List ℕ → Bool
  heeds_test α =
      all_below t.variables
      (λ k.
      both (not (ltb (get_or s.largest k 0) (size (get_or α k 0))))
      (all_below (length (atoms t)) (λ q. or (not (takes α k q)) (takes s.permitted k q))))

  heeds-pass : (α : List ℕ) → assignment_fault t α ≡ Done → heeds_test α ≡ true → Heeds s α
  unfolding heeds_test
  heeds-pass α a h =
      record {
        permitted = λ k q e.
            let (l, m) = accepted-bits t α a k q e in
            implied (takes α k q) _ (all_below-at _ _ (both_true _ _ (all_below-at _ _ h k l)).1 q m) e;
        few = λ k.
            ⊎_elim
            (λ (l : t.variables ≤ k). omega (arith, ap size (get_or-eq_default α 0 {n = k} (omega (arith, accepted-long t α a))), size-zero))
            (λ l. ltb-false _ _ (not-true _ (both_true _ _ (all_below-at _ _ h k l)).0))
            (le-or-lt t.variables k);
      }

  heeds-test : (α : List ℕ) → Heeds s α → heeds_test α ≡ true
  unfolding heeds_test
  heeds-test α h =
      all_below-intro _ _
      (λ k l. both-intro _ _ (ap not (le-ltb _ _ (h.few k))) (all_below-intro _ _ (λ q m. implies (takes α k q) _ (h.permitted k q))))

-- ---- the asked questions
module _ (t : Tables) (s : Settings) (asked : ℕ → Bool) (n : ℕ) where
  unfoldable pub asked_test : List (List Bool) → Bool
  asked_test marks = all_below (pairs_of t.questions) (λ m. or (not (asked m)) (mark_at marks (left_of t.questions m) (right_of t.questions m)))

  -- not within the settings; or the marks after n rounds are closed, and an asked question is not marked
  unfoldable pub out_test : List ℕ → Bool
  out_test α =
      or (not (heeds_test t s α)) (both (closed_test t α (lines t) (rounds t α (lines t) n)) (not (asked_test (rounds t α (lines t) n))))

  unfoldable pub first_test : List ℕ → Bool
  first_test α =
      both (is_done (assignment_fault t α))
      (both (heeds_test t s α)
      (both (asked_test (rounds t α (lines t) n))
      (all_in (λ β. or (same_list β α) (or (earlier_test t.variables (length (atoms t)) α β) (out_test β))) (assignments t))))

  unfoldable pub none_test : Bool
  none_test = all_in out_test (assignments t)

  module _ (ok : table_fault t ≡ Done) where
    wf : WellFormed t
    wf = well_formed t ok

    out-not : (α : List ℕ) → out_test α ≡ true → Heeds s α → SolvesAmong (λ m. asked m ≡ true) t α → ⊥
    unfolding out_test asked_test
    out-not α h x y =
        ⊎_elim (λ e. true≢false (sym (heeds-test t s α x) ∙ not-true _ e))
        (λ e.
        let (c, q) = both_true _ _ e in
        true≢false
        (sym
        (all_below-intro _ _
        (λ m l. implies (asked m) _ (λ u. closed-complete t α wf _ c _ _ (wf.question-left m l) (wf.question-right m l) (y m l u))))
        ∙ not-true _ q))
        (or_cases _ _ h)

    pub first_passes : (α : List ℕ) → first_test α ≡ true → FirstAmong (λ m. asked m ≡ true) t s α
    unfolding first_test asked_test
    first_passes α h =
        let (a, p) = both_true _ _ h in
        let (b, q) = both_true _ _ p in
        let (c, d) = both_true _ _ q in
        record {
          accepted = is-done _ a;
          heeds = heeds-pass t s α (is-done _ a) b;
          solves = λ m l u.
              rounds-sound t α wf (lines t) n _ _ (wf.question-left m l) (wf.question-right m l) (implied (asked m) _ (all_below-at _ _ c m l) u);
          first = λ β e x y.
              ⊎_elim (λ u. inl (same-list β α u))
              (λ u. ⊎_elim (λ v. inr (test-earlier _ _ α β v)) (λ v. absurd (out-not β v x y)) (or_cases _ _ u))
              (or_cases _ _ (all_in-at _ (all-assignments t β e) d));
        }

    pub none_passes : none_test ≡ true → NoneAmong (λ m. asked m ≡ true) t s
    unfolding none_test
    none_passes h β e x y = out-not β (all_in-at _ (all-assignments t β e) h) x y
