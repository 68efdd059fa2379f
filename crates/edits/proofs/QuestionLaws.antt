-- What adding questions that bring no atom can move, shown: who answers the newer questions answers the older.
use Rattle.subsumption.specs.Refusal.{Done}
use Prim.Native.Nat.{ℕ}
use mathlib.Core.Path.{◌≡◌, refl, sym, subst}
use mathlib.Core.List.{List, Memᴰ}
use mathlib.Core.Logic.{◌⊎◌, inl, inr}
use lib.ListN.{length, get_or, take}
use Rattle.subsumption.specs.Tables.{Tables, left_of, right_of, tree}
use Rattle.subsumption.specs.Atoms.{pick, chosen}
use Rattle.subsumption.specs.Subsumption.{Included, Subsumed}
use Rattle.subsumption.specs.Check.{assignment_fault_at, assignment_fault}
use Rattle.settings.specs.Settings.{Settings, settings_fault_at, settings_fault}
use Rattle.matching.specs.Solving.{substituted, Solves}
use Rattle.matching.specs.Find.{SomeSolves, FilledBy, NoneSolves}
use Rattle.matching.specs.Within.{FirstWithin, FilledWithin, NoneWithin}
use Rattle.incremental.specs.Fresh.{with_others, PairsAmong, SameChoices}
use Rattle.edits.specs.Edits.{MoreQuestions}
use Rattle.edits.specs.Questions.{StaysOrLater, FirstMovesLater, WithinMovesLater, FoundMovesLater, CountedMovesLater}
use Rattle.edits.proofs.CarriedLaws.{by-questions, obeys-fewer, subsumed-still}
use Rattle.allowance.proofs.CaseLaws.{found-cases, within-cases, counted-cases}

module _ (t : Tables) (questions : List ℕ) (M : MoreQuestions t (with_others t t.inclusions questions)) where
  abbrev t' : Tables
  t' = with_others t t.inclusions questions

  -- ---- the inclusions, the atoms and the checks are the same
  same-inclusions : PairsAmong t.inclusions t.inclusions
  same-inclusions m l = (m, l, refl, refl)

  same-ids : (a : List ℕ) → SameChoices t' a t a
  unfolding chosen
  same-ids a k p l = (
    subst (λ (z : List ℕ). Memᴰ p (pick z (get_or a k 0))) M.no-new-atom,
    subst (λ (z : List ℕ). Memᴰ p (pick z (get_or a k 0))) (sym M.no-new-atom),
  )

  accepted-before : (a : List ℕ) → assignment_fault t' a ≡ Done → assignment_fault t a ≡ Done
  unfolding assignment_fault
  accepted-before a = subst (λ (z : List ℕ). assignment_fault_at (length z) t.variables a ≡ Done) M.no-new-atom

  set_after : (s : Settings) → settings_fault t s ≡ Done → settings_fault t' s ≡ Done
  unfolding settings_fault
  set_after s = subst (λ (z : List ℕ). settings_fault_at (length z) t.variables s ≡ Done) (sym M.no-new-atom)

  -- ---- what solves solved before
  solves-before : (a : List ℕ) → Solves t' a → Solves t a
  solves-before a h m l =
      let (n, k, e, f) = M.questions m l in
      subst (λ (z : ℕ). Subsumed t a z (right_of t.questions m)) e
      (subst (λ (z : ℕ). Subsumed t a (left_of questions n) z) f
      (subsumed-still t t.inclusions questions same-inclusions M.accepted-before a a (same-ids a) _ _ (h n k)))

  some-before : SomeSolves t' → SomeSolves t
  some-before h =
      record {
        substitution = record { concept = h.substitution.concept; variable-free = h.substitution.variable-free };
        solves = λ m l I O.
            let (n, k, e, f) = M.questions m l in
            subst (λ (z : ℕ). Included I (substituted h.substitution.concept I) (tree t.concepts z) (tree t.concepts (right_of t.questions m))) e
            (subst (λ (z : ℕ). Included I (substituted h.substitution.concept I) (tree t.concepts (left_of questions n)) (tree t.concepts z)) f
            (h.solves n k I (obeys-fewer t t.inclusions questions same-inclusions I O)));
      }

  -- ---- so the first one stays or moves later
  first-later : (s : Settings) (a b : List ℕ) → FirstWithin t s a → FirstWithin t' s b → StaysOrLater a b
  first-later s a b h k = h.first b (accepted-before b k.accepted) k.heeds (solves-before b k.solves)

  module _ (before after before' after' : List ℕ) (Was WasNone Is IsNone : Type 0) where
    abbrev Moved : Type 0
    Moved = IsNone ⊎ (Was × Is × StaysOrLater (take t.variables after) (take t.variables after'))

    within-later :
        (s : Settings) → (Was × FilledWithin t s before after) ⊎ (WasNone × NoneWithin t s before after)
        → (Is × FilledWithin t' s before' after') ⊎ (IsNone × NoneWithin t' s before' after') → Moved
    within-later s (inl (e, h)) (inl (f, k)) = inr (e, f, first-later s _ _ h.first k.first)
    within-later s (inr (e, h)) (inl (f, k)) =
        absurd (h.none _ (accepted-before _ k.first.accepted) k.first.heeds (solves-before _ k.first.solves))
    within-later s h (inr (f, k)) = inl f

    found-later :
        (Was × FilledBy t before after) ⊎ (WasNone × NoneSolves t before after)
        → (Is × FilledBy t' before' after') ⊎ (IsNone × NoneSolves t' before' after') → Moved
    found-later (inl (e, h)) (inl (f, k)) =
        inr (e, f, h.first.first _ (accepted-before _ k.first.accepted) (solves-before _ k.first.solves))
    found-later (inr (e, h)) (inl (f, k)) = let some = some-before k.some in absurd (h.none some.substitution some.solves)
    found-later h (inr (f, k)) = inl f

pub first-moves-later : FirstMovesLater
first-moves-later = by-questions _ first-later

-- ---- the answers of the finders
pub within-moves-later : WithinMovesLater
within-moves-later =
    by-questions _
    (λ t questions M s set before after before' after' was is old new room room'.
    within-later t questions M before after before' after' _ _ _ _ s (within-cases t before after was M.accepted-before room s set old)
    (within-cases (with_others t t.inclusions questions) before' after' is M.accepted-after room' s (set_after t questions M s set) new))

pub found-moves-later : FoundMovesLater
found-moves-later =
    by-questions _
    (λ t questions M before after before' after' was is old new room room'.
    found-later t questions M before after before' after' _ _ _ _ (found-cases t before after was M.accepted-before room old)
    (found-cases (with_others t t.inclusions questions) before' after' is M.accepted-after room' new))

pub counted-moves-later : CountedMovesLater
counted-moves-later =
    by-questions _
    (λ t questions M s set allowance allowance' before after before' after' was is old new room room' enough enough'.
    within-later t questions M before after before' after' _ _ _ _ s (counted-cases t before after was M.accepted-before room s set allowance old enough)
    (counted-cases (with_others t t.inclusions questions) before' after' is M.accepted-after room' s (set_after t questions M s set) allowance' new enough'))
