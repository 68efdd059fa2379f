-- What adding inclusions can move, shown.
use Rattle.std.specs.Prelude.{Err, Ok}
use Prim.Native.Nat.{ℕ, zero, suc, ◌<◌, ◌≤◌}
use mathlib.Core.Path.{◌≡◌, refl, sym, ap, ◌∙◌, subst}
use mathlib.Core.List.Memᴰ
use mathlib.Core.List.{List, Memᴰ}
use mathlib.Core.Bool.{Bool, true}
use mathlib.Core.Logic.{⊎_elim}
use native.Mathlib.Omega.{arith}
use lib.ListN.{get_or, get_or-eq_default}
use Rattle.subsumption.specs.Tables.{Tables}
use Rattle.subsumption.specs.Atoms.{in_inclusion, stands, is_atom, atoms, chosen}
use Rattle.subsumption.specs.Subsumption.{Subsumed}
use Rattle.subsumption.specs.Rules.{contains}
use Rattle.subsumption.specs.Refusal.{Reply, reply_done, Replies, Outcome, Done}
use Rattle.subsumption.specs.Check.{table_fault, alone_fault, pair_fault}
use Rattle.subsumption.specs.Decide.{Tells, deciding_fault}
use Rattle.subsumption.proofs.Bools.{or_cases, or-first, or-second, both_true, both-intro, any_below-intro, any_below-elim, le-or-lt}
use Rattle.subsumption.proofs.Refusals.{passed_first, passed-second}
use Rattle.subsumption.proofs.Replies.{not_done}
use Rattle.subsumption.proofs.TwinLaws.{same-twin}
use Rattle.subsumption.proofs.AtomLaws.{atom-known, atom-passes, atom-listed, atom-stands}
use Rattle.subsumption.proofs.Chosen.{pick-member, pick_intro, chosen-atom}
use Rattle.subsumption.proofs.RuleTests.{contains-elim, contains-intro}
use Rattle.settings.specs.Settings.{Settings, size, Heeds}
use Rattle.settings.proofs.SizeLaws.{size-zero}
use Rattle.matching.specs.Solving.{Substitution, SolvesBy}
use Rattle.matching.specs.Within.{FirstWithin, NoneWithin}
use Rattle.matching.proofs.SubstitutionLaws.Assigning.{assignment_of, assignment_of-accepted, assignment_of-bit}
use Rattle.matching.proofs.SubstitutionLaws.Parts.{place}
use Rattle.matching.proofs.SearchLaws.Fronts.{accepted-long, accepted-bits}
use Rattle.incremental.specs.Fresh.{with_others, SameChoices}
use Rattle.edits.specs.Edits.{MoreInclusions}
use Rattle.edits.specs.Inclusions.{KeptBy, IdsCanBeKept, YesStays, DecidedYesStays, BarsNothing, FilledStays, FoundStays, CountedStays}
use Rattle.edits.proofs.CarriedLaws.{by-inclusions, obeys-fewer, subsumed-still}
use Rattle.edits.proofs.SizeLaws.{fewer-chosen}
use Rattle.allowance.proofs.CaseLaws.{found_some, filled-first, counted-first, passes, found-cases, within-cases, counted-cases}

module _ (t : Tables) (inclusions₀ : List ℕ) (M : MoreInclusions (with_others t inclusions₀ t.questions) t) where
  abbrev t₀ : Tables
  t₀ = with_others t inclusions₀ t.questions

  -- ---- an atom stays one
  stands-still : (p : ℕ) → stands t₀ p ≡ true → stands t p ≡ true
  unfolding stands in_inclusion
  stands-still p h =
      let (a, o) = both_true _ _ h in
      both-intro _ _ a (⊎_elim (λ e. or-first _ _ (included e)) (λ e. or-second _ _ e) (or_cases _ _ o))
    where
      included : in_inclusion t.concepts inclusions₀ p ≡ true → in_inclusion t.concepts t.inclusions p ≡ true
      included e =
          let (m, l, u) = any_below-elim _ _ e in
          let (n, k, f, g) = M.inclusions m l in
          any_below-intro _ _ n k (rw (f, g) u)

  atom-still : (p : ℕ) → Memᴰ p (atoms t₀) → Memᴰ p (atoms t)
  unfolding is_atom
  atom-still p m =
      let (q, l, e, s) = atom-stands t₀ p m in
      atom-listed t p (atom-known t₀ p m)
      (both-intro _ _ (both_true _ _ (atom-passes t₀ p m)).0
      (any_below-intro _ _ q l (both-intro _ _ (same-twin t.concepts p q e) (stands-still q s))))

  -- ---- the same ids at their new positions
  module _ (a : List ℕ) where
    chosen-before : ℕ → ℕ → Bool
    chosen-before k q = contains (get_or (atoms t) q 0) (chosen t₀ a k)

    same-ids : List ℕ
    same-ids = assignment_of t chosen-before

    same-ids-kept : KeptBy t₀ t a
    unfolding same-ids chosen-before chosen
    same-ids-kept = record { kept = same-ids; accepted = assignment_of-accepted t chosen-before; same = λ k p l. (there k p l, back k p l) }
      where
        there : (k p : ℕ) → k < t.variables → Memᴰ p (chosen t₀ a k) → Memᴰ p (chosen t same-ids k)
        there k p l m =
            let (q, u, e) = place 0 (atoms t) p (atom-still p (chosen-atom t₀ a k p m)) in
            pick_intro (atoms t) _ p
            (record { place = q; known = u; chosen = assignment_of-bit t chosen-before k q l u ∙ contains-intro (Memᴰ.cast e m); here = e })

        back : (k p : ℕ) → k < t.variables → Memᴰ p (chosen t same-ids k) → Memᴰ p (chosen t₀ a k)
        back k p l m =
            let c = pick-member (atoms t) _ p m in
            Memᴰ.cast (sym c.here) (contains-elim _ _ (sym (assignment_of-bit t chosen-before k c.place l c.known) ∙ c.chosen))

  -- ---- what is subsumed still is
  yes-still : (a b : List ℕ) → SameChoices t₀ a t b → (i j : ℕ) → Subsumed t₀ a i j → Subsumed t b i j
  yes-still = subsumed-still t inclusions₀ t.questions M.inclusions M.accepted-after

  -- ---- an assignment that solves and is within the settings leaves one with the same ids
  module _ (s s' : Settings) (counts : s'.largest ≡ s.largest) (bars : BarsNothing t s') (a : List ℕ) (first : FirstWithin t₀ s a) where
    heeds-still : Heeds s' (same-ids-kept a).kept
    heeds-still =
        record {
          permitted = λ k q e. let (l, u) = accepted-bits t _ (same-ids-kept a).accepted k q e in bars k q l u;
          few = λ k. subst (λ (z : List ℕ). size (get_or (same-ids-kept a).kept k 0) ≤ get_or z k 0) (sym counts) (few k);
        }
      where
        few : (k : ℕ) → size (get_or (same-ids-kept a).kept k 0) ≤ get_or s.largest k 0
        few k =
            ⊎_elim
            (λ l.
            omega (arith, ap size (get_or-eq_default (same-ids-kept a).kept 0 {n = k} (omega (arith, accepted-long t _ (same-ids-kept a).accepted))), size-zero))
            (λ l.
            omega (
              arith,
              first.heeds.few k,
              fewer-chosen t₀ t a _ k M.accepted-before M.accepted-after first.accepted (same-ids-kept a).accepted l l (λ p. ((same-ids-kept a).same k p l).1),
            ))
            (le-or-lt t.variables k)

    some-within : (before after : List ℕ) → NoneWithin t s' before after → ⊥
    some-within before after none =
        let b = same-ids-kept a in
        none.none b.kept b.accepted heeds-still (λ m l. yes-still a b.kept b.same _ _ (first.solves m l))

pub ids-can-be-kept : IdsCanBeKept
ids-can-be-kept = by-inclusions _ (λ t inclusions₀ M a accepted. same-ids-kept t inclusions₀ M a)

pub yes-stays : YesStays
yes-stays = by-inclusions _ yes-still

-- ---- the answers for one pair
told : (o : Outcome) (Right : ℕ → Type 0) (n : ℕ) (reply : Reply) → Replies o Right reply → reply ≡ reply_done n → (o ≡ Done) × Right n
told (Ok tt) Right n reply (_, h) e = (refl, subst Right (ap (λ (z : Reply). z.value) e) h)
told (Err r) Right n reply h e = not_done r n (sym h ∙ e)

tells-yes : (t : Tables) (b : List ℕ) (i j n : ℕ) → Subsumed t b i j → Tells t b i j n → n ≡ 1
tells-yes t b i j zero s h = absurd (h s)
tells-yes t b i j (suc zero) s h = refl
tells-yes t b i j (suc (suc n)) s h = absurd h

pair-passes : (t : Tables) (i j : ℕ) → table_fault t ≡ Done → alone_fault t.concepts i j ≡ Done → pair_fault t i j ≡ Done
unfolding table_fault pair_fault
pair-passes t i j ok alone = passes _ _ (passed_first _ _ ok) (passes _ _ alone (passed-second _ _ ok))

pub decided-yes-stays : DecidedYesStays
unfolding deciding_fault pair_fault
decided-yes-stays =
    by-inclusions _
    (λ t inclusions₀ M a b same accepted i j was is before after e.
    let t₀ = with_others t inclusions₀ t.questions in
    let (passed, yes-before) = told (deciding_fault t₀ a i j) (Tells t₀ a i j) 1 was before e in
    let alone : alone_fault t.concepts i j ≡ Done = passed_first _ _ (passed-second _ _ (passed_first _ _ passed)) in
    let (f, tells) = subst (λ (z : Outcome). Replies z (Tells t b i j) is) (passes _ _ (pair-passes t i j M.accepted-after alone) accepted) after in
    f ∙ ap reply_done (tells-yes t b i j is.value (yes-still t inclusions₀ M a b same i j yes-before) tells))

-- ---- the answers of the finders
pub filled-stays : FilledStays
filled-stays =
    by-inclusions _
    (λ t inclusions₀ M s s' counts bars set before after before' after' was is old new room e.
    let first = filled-first (with_others t inclusions₀ t.questions) before after was s old e in
    ⊎_elim (λ h. h.0) (λ h. absurd (some-within t inclusions₀ M s s' counts bars _ first before' after' h.1))
    (within-cases t before' after' is M.accepted-after room s' set new))

pub found-stays : FoundStays
found-stays =
    by-inclusions _
    (λ t inclusions₀ M before after before' after' was is old new room e.
    let some = found_some (with_others t inclusions₀ t.questions) before after was old e in
    let σ : Substitution t = record { concept = some.substitution.concept; variable-free = some.substitution.variable-free } in
    let solves : SolvesBy t σ = λ m l I O. some.solves m l I (obeys-fewer t inclusions₀ t.questions M.inclusions I O) in
    ⊎_elim (λ h. h.0) (λ h. absurd (h.1.none σ solves)) (found-cases t before' after' is M.accepted-after room new))

pub counted-stays : CountedStays
counted-stays =
    by-inclusions _
    (λ t inclusions₀ M s s' counts bars set allowance allowance' before after before' after' was is old new room e enough.
    let first = counted-first (with_others t inclusions₀ t.questions) before after was s allowance old e in
    ⊎_elim (λ h. h.0) (λ h. absurd (some-within t inclusions₀ M s s' counts bars _ first before' after' h.1))
    (counted-cases t before' after' is M.accepted-after room s' set allowance' new enough))
