-- From assignments that make the asked questions hold to the answer of a group.
use Rattle.std.specs.Prelude.{Err, Ok}
use Prim.Native.Nat.{ℕ, ◌<◌, ◌≤◌}
use mathlib.Core.Path.{◌≡◌, refl, sym, ap, ◌∙◌, subst}
use mathlib.Core.List.{List}
use mathlib.Core.Bool.{Bool, true, false, not, true≢false}
use mathlib.Core.Logic.{inl, inr, ⊎_elim, ◌↔◌}
use lib.Dec.{eqb}
use lib.ListN.{length, get_or}
use lib.Seq.{get_or-take}
use borrow.Author.Tests.{eq-eqb, ne_eqb, lt-ltb, le-ltb}
use Rattle.subsumption.specs.declared.refusal.Refusal.{Refusal}
use Rattle.subsumption.specs.declared.refusal.Refusal.TheVariants.{NoConcept}
use Rattle.subsumption.specs.Tables.{Tables, pairs_of}
use Rattle.subsumption.specs.Atoms.{bit}
use Rattle.subsumption.specs.Subsumption.{Interpretation, Reading}
use Rattle.subsumption.specs.Check.{table_fault, concept_fault, id_fault, use_fault}
use Rattle.subsumption.specs.Refusal.{Reply, reply_refused, or_else, refuse_if, Outcome, Done}
use Rattle.subsumption.proofs.Refusals.{stops, goes_on, passed_first, passed-second, done-if}
use Rattle.settings.specs.Settings.{Settings}
use Rattle.matching.specs.Within.{within_fault}
use Rattle.matching.specs.Among.{SolvedAmong, FirstAmong, NoneAmong, FilledAmong, UnfilledAmong}
use Rattle.matching.specs.Inner.Within.{FindsAmongAfter, FindsAmong}
use Rattle.groups.specs.Group.{holds, InGroup, Outside}
use Rattle.groups.specs.Find.{place_fault, group_fault, FindsGroupAfter, FindsGroup}
use Rattle.groups.proofs.RestrictedLaws.{restricted, restricted-empty, restricted-within, restricted-accepted, restricted-heeds, restricted-solves}

-- ---- the same questions, asked in other words
module _ (t : Tables) (s : Settings) (asked asked' : ℕ → Type 0) (same : (m : ℕ) → m < pairs_of t.questions → asked m ↔ asked' m) where
  solved-there : (reading : Interpretation → Reading) → SolvedAmong asked t reading → SolvedAmong asked' t reading
  solved-there reading h m l u = h m l ((same m l).1 u)

  solved-back : (reading : Interpretation → Reading) → SolvedAmong asked' t reading → SolvedAmong asked t reading
  solved-back reading h m l u = h m l ((same m l).0 u)

  pub first-among-same : (a : List ℕ) → FirstAmong asked t s a → FirstAmong asked' t s a
  first-among-same a f =
      record {
        accepted = f.accepted;
        heeds = f.heeds;
        solves = solved-there _ f.solves;
        first = λ other a h x. f.first other a h (solved-back _ x);
      }

  pub none-among-same : NoneAmong asked t s → NoneAmong asked' t s
  none-among-same n other a h x = n other a h (solved-back _ x)

  pub filled-among-same : (before after : List ℕ) → FilledAmong asked t s before after → FilledAmong asked' t s before after
  filled-among-same before after f = record { size = f.size; first = first-among-same _ f.first; rest = f.rest }

  pub unfilled-among-same : (before after : List ℕ) → UnfilledAmong asked t s before after → UnfilledAmong asked' t s before after
  unfilled-among-same before after f =
      record {
        none = none-among-same f.none;
        by-substitution = λ u σ x. f.by-substitution u σ (solved-back _ x);
        kept = f.kept;
      }

-- ---- the first one takes nothing for a variable that no asked question holds: without that it would come no later
abbrev is_other : ℕ → ℕ → Bool
is_other k j = not (eqb j k)

first-empty :
    (t : Tables) (s : Settings) (asked : ℕ → Type 0) (a : List ℕ) → FirstAmong asked t s a → (k : ℕ)
    → ((n : ℕ) → n < pairs_of t.questions → asked n → holds t n k ≡ false) → get_or a k 0 ≡ 0
first-empty t s asked a f k outside =
    ⊎_elim
    (λ (e : restricted (is_other k) a ≡ a). ap (λ (z : List ℕ). get_or z k 0) (sym e) ∙ restricted-empty (is_other k) a k (ap not (eq-eqb k k refl)))
    (λ x. absurd (true≢false (sym (restricted-within (is_other k) a _ _ x.taken) ∙ x.left_out)))
    (f.first _ (restricted-accepted (is_other k) a t f.accepted) (restricted-heeds (is_other k) a s f.heeds)
    (restricted-solves (is_other k) a t asked others f.solves))
  where
    others : (n j : ℕ) → n < pairs_of t.questions → asked n → holds t n j ≡ true → is_other k j ≡ true
    others n j l u e = ap not (ne_eqb j k (λ i. true≢false (sym e ∙ ap (holds t n) i ∙ outside n l u)))

pub first-outside-empty : (t : Tables) (s : Settings) (m : ℕ) (a : List ℕ) → FirstAmong (InGroup t m) t s a → (k : ℕ) → Outside t m k → get_or a k 0 ≡ 0
first-outside-empty t s m = first-empty t s (InGroup t m)

-- ---- the checks of a group are those of the whole, with the question's place
module _ (t : Tables) (s : Settings) (m : ℕ) where
  pub group-checks : (size : ℕ) → table_fault t ≡ Done → m < pairs_of t.questions → within_fault t s size ≡ group_fault t s m size
  unfolding within_fault group_fault table_fault place_fault
  group-checks size h l =
      let c : concept_fault t ≡ Done = passed_first _ _ h in
      let i : id_fault t ≡ Done = passed_first _ _ (passed-second _ _ h) in
      let u : use_fault t ≡ Done = passed-second _ _ (passed-second _ _ h) in
      sym (goes_on Done _ _ _ (sym h) refl refl)
      ∙ goes_on Done _ _ _ (sym c) refl
      (goes_on Done _ _ _ (done-if _ _ (ap not (lt-ltb _ _ l))) refl (goes_on Done _ _ _ (sym i) refl (goes_on Done _ _ _ (sym u) refl refl)))

  module _ (group : ℕ) (before after : List ℕ) (reply : Reply) where
    group-after :
        (o : Outcome) → ((n : ℕ) → n < pairs_of t.questions → (bit group n ≡ true) ↔ InGroup t m n)
        → FindsAmongAfter o (λ n. bit group n ≡ true) t s before after reply → FindsGroupAfter o t s m before after reply
    group-after (Err r) same x = x
    group-after (Ok tt) same (inr (e, u)) = inr (e, unfilled-among-same t s _ _ same before after u)
    group-after (Ok tt) same (inl (e, f)) =
        let filled : FilledAmong (InGroup t m) t s before after = filled-among-same t s _ _ same before after f in
        inl (
          e,
          record {
            filled = filled;
            empty = λ k l o. sym (get_or-take t.variables after k 0 l) ∙ first-outside-empty t s m _ filled.first k o;
          },
        )

    pub finds-group :
        table_fault t ≡ Done → m < pairs_of t.questions → ((n : ℕ) → n < pairs_of t.questions → (bit group n ≡ true) ↔ InGroup t m n)
        → FindsAmong (λ n. bit group n ≡ true) t s before after reply → FindsGroup t s m before after reply
    finds-group h l same x =
        subst (λ (o : Outcome). FindsGroupAfter o t s m before after reply) (group-checks (length before) h l)
        (group-after (within_fault t s (length before)) same x)

-- ---- the tables or the place are refused
more : (a b c : Outcome) (r : Refusal) → (Err r ≡ b → Err r ≡ c) → Err r ≡ or_else a b → Err r ≡ or_else a c
unfolding or_else
more (Ok tt) b c r f h = f h
more (Err q) b c r f h = h

group-refuses :
    (t : Tables) (s : Settings) (m : ℕ) (before : List ℕ) (r : Refusal)
    → Err r ≡ or_else (concept_fault t) (or_else (place_fault t m) (or_else (id_fault t) (use_fault t))) → FindsGroup t s m before before (reply_refused r)
unfolding group_fault
group-refuses t s m before r h =
    subst (λ (o : Outcome). FindsGroupAfter o t s m before before (reply_refused r))
    (more _ _ _ r (more _ _ _ r (more _ _ _ r (λ u. stops (Err r) _ _ r u refl))) h) (refl, refl)

module _ (t : Tables) (s : Settings) (m : ℕ) (before : List ℕ) (r : Refusal) where
  pub place-refuses :
      pairs_of t.questions ≤ m → Err r ≡ or_else (concept_fault t) (Err (NoConcept 0)) → FindsGroup t s m before before (reply_refused r)
  unfolding place_fault refuse_if or_else
  place-refuses l e = group-refuses t s m before r (rw (le-ltb m (pairs_of t.questions) l) e)

  pub tables-refuse : m < pairs_of t.questions → Err r ≡ table_fault t → FindsGroup t s m before before (reply_refused r)
  unfolding table_fault place_fault refuse_if or_else
  tables-refuse l e = group-refuses t s m before r (rw (lt-ltb m (pairs_of t.questions) l) e)
