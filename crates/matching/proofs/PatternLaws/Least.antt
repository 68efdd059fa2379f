-- What is subsumed is the least relation that takes every step: not-not, whatever the relation.
use Prim.Native.Nat.{ℕ, ◌<◌}
use mathlib.Core.Path.{◌≡◌, refl}
use mathlib.Core.List.{List}
use mathlib.Core.Bool.{Bool, true, false, false≢true}
use Rattle.subsumption.specs.Tables.{Tables, count_of}
use Rattle.subsumption.specs.Atoms.{chosen}
use Rattle.subsumption.specs.Roles.{wider}
use Rattle.subsumption.specs.Subsumption.{Subsumed}
use Rattle.subsumption.specs.Inner.Closure.{Steps}
use Rattle.subsumption.proofs.WellFormed.{WellFormed}
use Rattle.subsumption.proofs.Chosen.{chosen-known}
use Rattle.subsumption.proofs.Completeness.{steps-complete}
use Rattle.matching.proofs.SubstitutionLaws.Decided.{NotNot, Decides, decided-pairs}
use Rattle.matching.proofs.PatternLaws.Free.{known-inward}

-- a test is read off what is not impossible
pub true-stable : (b : Bool) → NotNot (b ≡ true) → b ≡ true
true-stable true h = refl
true-stable false h = absurd (h false≢true)

module _ (t : Tables) (assignment : List ℕ) (wf : WellFormed t) (R : ℕ → ℕ → Type 0)
    (steps : Steps t.concepts t.inclusions (wider t.roles) (chosen t assignment) R) where
  -- marks that decide the relation take every step
  marks-step :
      (marks : ℕ → ℕ → Bool)
      → ((i : ℕ) → i < count_of t.concepts → (j : ℕ) → j < count_of t.concepts → Decides (R i j) (marks i j))
      → Steps t.concepts t.inclusions (wider t.roles) (chosen t assignment) (λ i j. marks i j ≡ true)
  marks-step marks d =
      let inner = known-inward t wf in
      record {
        same = λ j l. (d j l j l).1 (steps.same j l);
        top = λ i j li lj e. (d i li j lj).1 (steps.top i j li lj e);
        named = λ i j k n li lj lk e f h. (d i li k lk).1 (steps.named i j k n li lj lk e f ((d i li j lj).0 h));
        first = λ i j a b li lj e h. (d i li a (inner.first j a b e lj)).1 (steps.first i j a b li lj e ((d i li j lj).0 h));
        second = λ i j a b li lj e h. (d i li b (inner.second j a b e lj)).1 (steps.second i j a b li lj e ((d i li j lj).0 h));
        meet = λ i j a b li lj e h k.
            (d i li j lj).1
            (steps.meet i j a b li lj e ((d i li a (inner.first j a b e lj)).0 h) ((d i li b (inner.second j a b e lj)).0 k));
        included = λ i m li lm h. (d i li _ (wf.right-known m lm)).1 (steps.included i m li lm ((d i li _ (wf.left-known m lm)).0 h));
        linked = λ i e f r s x y li le lf p q w h k.
            (d i li f lf).1
            (steps.linked i e f r s x y li le lf p q w ((d x (inner.inner e r x p le) y (inner.inner f s y q lf)).0 h) ((d i li e le).0 k));
        chooses = λ i v k p li lv e m h. (d i li p (chosen-known t assignment k p m)).1 (steps.chooses i v k p li lv e m ((d i li v lv).0 h));
        all-chosen = λ i v k li lv e h.
            (d i li v lv).1 (steps.all-chosen i v k li lv e (λ p m. (d i li p (chosen-known t assignment k p m)).0 (h p m)));
      }

  pub steps-least : (i j : ℕ) → i < count_of t.concepts → j < count_of t.concepts → Subsumed t assignment i j → NotNot (R i j)
  steps-least i j l k s never =
      decided-pairs R (count_of t.concepts) (count_of t.concepts)
      (λ (marks, d). never ((d i l j k).0 (steps-complete t assignment wf marks (marks-step marks d) i j l k s)))
