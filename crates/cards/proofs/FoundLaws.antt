-- Where the first assignment of one variable is known, or that there is none, a finder's promise leaves one answer.
use Prim.Native.Nat.{ℕ, ◌<◌, ◌≤◌}
use mathlib.Core.Path.{◌≡◌, sym, ap, ap₂, ◌∙◌, subst}
use mathlib.Core.List.{List, [], ◌∷◌, ◌++◌}
use mathlib.Core.Logic.{inl, inr}
use native.Mathlib.Omega.{arith}
use lib.ListN.{length, take, drop, take-append-drop}
use Rattle.subsumption.specs.Tables.{Tables, pairs_of}
use Rattle.subsumption.specs.Refusal.{Reply, reply_done, Outcome, Done}
use Rattle.subsumption.specs.Check.{table_fault, assignment_fault}
use Rattle.subsumption.proofs.Accepted.{well_formed}
use Rattle.settings.specs.Settings.{Settings, Heeds, settings_fault}
use Rattle.matching.specs.Solving.{Substitution, Solves, SolvesBy, First}
use Rattle.matching.specs.Find.{FindsAfter, Finds}
use Rattle.matching.specs.Within.{FirstWithin, FindsWithinAfter, FindsWithin}
use Rattle.matching.specs.Among.{FirstAmong, NoneAmong}
use Rattle.matching.proofs.EarlierLaws.{one-first}
use Rattle.matching.proofs.SubstitutionLaws.Conjoined.{some-solves}
use Rattle.allowance.specs.Count.{CountOf}
use Rattle.allowance.specs.Find.{FindsCountedAfter, FindsCounted}
use Rattle.allowance.proofs.CountLaws.{count-unique, exceeds-less}
use Rattle.allowance.proofs.CaseLaws.{found-cases, checks-pass, within-cases}
use Rattle.groups.specs.Group.{InGroup}
use Rattle.groups.specs.Find.{FindsGroupAfter, FindsGroup}
use Rattle.groups.proofs.FindLaws.{group-checks}
use Rattle.cards.specs.Found.{tells, fills}

module _ (t : Tables) (one : t.variables ≡ 1) (before after : List ℕ) (told : Reply) where
  put_first :
      (choice : ℕ) → take t.variables after ≡ choice ∷ [] → drop t.variables after ≡ drop t.variables before → after ≡ fills choice before
  put_first choice e f = sym (take-append-drop t.variables after) ∙ ap₂ ◌++◌ e (f ∙ ap (λ (z : ℕ). drop z before) one)

  module _ (ok : table_fault t ≡ Done) (room : 1 ≤ length before) where
    -- ---- the first finder
    pub finds-first : (choice : ℕ) → First t (choice ∷ []) → Finds t before after told → (told ≡ tells 0 0 0) × (after ≡ fills choice before)
    finds-first choice f x = go (found-cases t before after told ok (omega arith) x)
      where
        go : FindsAfter Done t before after told → (told ≡ tells 0 0 0) × (after ≡ fills choice before)
        go (inl (e, g)) = (
          e,
          put_first choice
              (one-first _ _ (g.first.first _ f.accepted f.solves) (f.first _ g.first.accepted g.first.solves)) g.rest,
        )
        go (inr (e, g)) = let s = some-solves t (well_formed t ok) _ f.solves in absurd (g.none s.substitution s.solves)

    pub finds-none : ((σ : Substitution t) → SolvesBy t σ → ⊥) → Finds t before after told → (told ≡ tells 10 0 0) × (after ≡ before)
    finds-none n x = go (found-cases t before after told ok (omega arith) x)
      where
        go : FindsAfter Done t before after told → (told ≡ tells 10 0 0) × (after ≡ before)
        go (inl (e, g)) = absurd (n g.some.substitution g.some.solves)
        go (inr (e, g)) = (e, g.kept)

    module _ (s : Settings) (set : settings_fault t s ≡ Done) where
      first-written : (choice : ℕ) (a : List ℕ) → FirstWithin t s (choice ∷ []) → FirstWithin t s a → a ≡ choice ∷ []
      first-written choice a f g =
          one-first _ _ (g.first _ f.accepted f.heeds f.solves) (f.first _ g.accepted g.heeds g.solves)

      -- ---- within settings
      pub within_first :
          (choice : ℕ) → FirstWithin t s (choice ∷ []) → FindsWithin t s before after told → (told ≡ tells 0 0 0) × (after ≡ fills choice before)
      within_first choice f x = go (within-cases t before after told ok (omega arith) s set x)
        where
          go : FindsWithinAfter Done t s before after told → (told ≡ tells 0 0 0) × (after ≡ fills choice before)
          go (inl (e, g)) = (e, put_first choice (first-written choice _ f g.first) g.rest)
          go (inr (e, g)) = absurd (g.none _ f.accepted f.heeds f.solves)

      pub within_none :
          ((other : List ℕ) → assignment_fault t other ≡ Done → Heeds s other → Solves t other → ⊥) → FindsWithin t s before after told
          → (told ≡ tells 10 0 0) × (after ≡ before)
      within_none n x = go (within-cases t before after told ok (omega arith) s set x)
        where
          go : FindsWithinAfter Done t s before after told → (told ≡ tells 10 0 0) × (after ≡ before)
          go (inl (e, g)) = absurd (n _ g.first.accepted g.first.heeds g.first.solves)
          go (inr (e, g)) = (e, g.kept)

      -- ---- on an allowance
      module _ (allowance count : ℕ) (c : CountOf t s count) (x : FindsCounted t s allowance before after told) where
        counted-cases : FindsCountedAfter Done t s allowance before after told
        counted-cases =
            subst (λ (z : Outcome). FindsCountedAfter z t s allowance before after told)
            (checks-pass t before after told ok (omega arith) s set) x

        pub counted-first :
            (choice : ℕ) → FirstWithin t s (choice ∷ []) → count ≤ allowance → (told ≡ tells 0 0 count) × (after ≡ fills choice before)
        counted-first choice f enough = go counted-cases
          where
            go : FindsCountedAfter Done t s allowance before after told → (told ≡ tells 0 0 count) × (after ≡ fills choice before)
            go (inl (e, (g, d))) = (
              e ∙ ap reply_done (count-unique t s _ _ d.counted c),
              put_first choice (first-written choice _ f g.first) g.rest,
            )
            go (inr (inl (e, (g, d)))) = absurd (g.none _ f.accepted f.heeds f.solves)
            go (inr (inr (e, g))) = absurd (omega (arith, exceeds-less t s allowance count g.over c))

        pub counted-spent : allowance < count → (told ≡ tells 14 0 allowance) × (after ≡ before)
        counted-spent few = go counted-cases
          where
            go : FindsCountedAfter Done t s allowance before after told → (told ≡ tells 14 0 allowance) × (after ≡ before)
            go (inl (e, (g, d))) = absurd (omega (arith, d.enough, count-unique t s _ _ d.counted c))
            go (inr (inl (e, (g, d)))) = absurd (omega (arith, d.enough, count-unique t s _ _ d.counted c))
            go (inr (inr (e, g))) = (e, g.kept)

      -- ---- of a group
      module _ (m : ℕ) (asked : m < pairs_of t.questions) (x : FindsGroup t s m before after told) where
        group-cases : FindsGroupAfter Done t s m before after told
        group-cases =
            subst (λ (z : Outcome). FindsGroupAfter z t s m before after told)
            (sym (group-checks t s m (length before) ok asked) ∙ checks-pass t before after told ok (omega arith) s set) x

        pub group-first : (choice : ℕ) → FirstAmong (InGroup t m) t s (choice ∷ []) → (told ≡ tells 0 0 0) × (after ≡ fills choice before)
        group-first choice f = go group-cases
          where
            go : FindsGroupAfter Done t s m before after told → (told ≡ tells 0 0 0) × (after ≡ fills choice before)
            go (inl (e, g)) =
                let h = g.filled.first in (
                  e,
                  put_first choice
                      (one-first _ _ (h.first _ f.accepted f.heeds f.solves) (f.first _ h.accepted h.heeds h.solves))
                      g.filled.rest,
                )
            go (inr (e, g)) = absurd (g.none _ f.accepted f.heeds f.solves)

        pub group-none : NoneAmong (InGroup t m) t s → (told ≡ tells 10 0 0) × (after ≡ before)
        group-none n = go group-cases
          where
            go : FindsGroupAfter Done t s m before after told → (told ≡ tells 10 0 0) × (after ≡ before)
            go (inl (e, g)) = absurd (n _ g.filled.first.accepted g.filled.first.heeds g.filled.first.solves)
            go (inr (e, g)) = (e, g.kept)
