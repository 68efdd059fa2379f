-- Every finder's answer on the sample cards: what is first, and that there is none, passes by computation.
use Prim.Native.Nat.{ℕ, zero, suc, ◌<◌, ◌≤◌}
use mathlib.Core.Path.{◌≡◌, refl, sym, subst}
use mathlib.Core.List.Memᴰ
use mathlib.Core.List.{List, [], ◌∷◌}
use mathlib.Core.Bool.{true, false, true≢false}
use mathlib.Core.Logic.{inl, inr, ⊎_elim, ◌↔◌}
use native.Mathlib.Omega.{arith}
use native.Mathlib.Decide.{ℕ_discrete}
use lib.Dec.{ltb, lit<}
use lib.ListN.{length}
use Rattle.subsumption.specs.Tables.{Tables, tables, or, both, any_below, decode, node, shape, tree_to, tree, variables_of, has_variable, pairs_of}
use Rattle.subsumption.specs.Roles.{wider_to, wider}
use Rattle.subsumption.specs.Variables.{stands_in}
use Rattle.subsumption.specs.Table.{one, counted}
use Rattle.subsumption.specs.Atoms.{inside, occurs_to, occurs, is_atomic, in_inclusion, in_question, stands, holds as holdsAtom, twin, is_lowest, is_atom, keep, atoms, bit, pick, chosen}
use Rattle.subsumption.specs.Rules.{every, contains, same_name, is_top, on_picked, on_both, on_inner, on_variable, by_rule, follows}
use Rattle.subsumption.specs.Subsumption.{Interpretation, Reading, assigned, SubsumedBy}
use Rattle.subsumption.specs.Refusal.{or_else, refuse_if, first_at, Outcome, Done}
use Rattle.subsumption.specs.Check.{unfit, limit_fault, roles_fault, malformed_row, malformed, malformed_fault, forward, forward_fault, no_concept, pairs_fault, inclusion_fault, sides_fault, atoms_fault, concept_fault, id_fault, use_fault, table_fault, assignment_fault_at, assignment_fault}
use Rattle.subsumption.proofs.Accepted.{well_formed}
use Rattle.subsumption.proofs.Membership.{subsumed-by-ground}
use Rattle.subsumption.proofs.ModelRows.{gather}
use Rattle.settings.specs.Settings.{Settings, settings, size, faulty_at, settings_fault_at, settings_fault}
use Rattle.matching.specs.Within.{FirstWithin}
use Rattle.matching.specs.Among.{FirstAmong}
use Rattle.matching.proofs.SubstitutionLaws.Members.{any_in}
use Rattle.matching.proofs.SubstitutionLaws.Conjoined.{some-solves}
use Rattle.matching.proofs.WithinLaws.{heeds-all}
use Rattle.allowance.specs.Find.{FindsCountedAfter, FindsCounted}
use Rattle.groups.specs.Group.{holds, Chain, Joined, InGroup}
use Rattle.groups.proofs.FindLaws.{first-among-same}
use Rattle.cards.specs.Samples.{Holds, card, I, J, not_below, no_filling, filling, entries, house, looped, copied, narrowed, questions, cards, free}
use Rattle.cards.specs.Found.{tells, fills, Always, opposed, grouped, Found, FoundWithin, FoundCounted, FoundGroup}
use Rattle.cards.proofs.SampleLaws.{all_below, built, mark_at, lines, some, round, rounds, closed_test, same_list, all_in, before, all_lists, assignments, bools_agree, earlier_test, is_done, is-done, solved_by, refuted, on_ids, marks, misses, says_test, test-says, card_test}
use Rattle.cards.proofs.SampleCards.{every-card}
use Rattle.cards.proofs.SampleCount.{card-h, unrestricted, sample-count}
use Rattle.cards.proofs.AmongLaws.{heeds_test, asked_test, out_test, first_test, first_passes, none_test, none_passes}
use Rattle.cards.proofs.JudgedCards.{nine-refused}
use Rattle.cards.proofs.FoundLaws.{finds-first, finds-none, within_first, within_none, counted-first, counted-spent, group-first, group-none}

-- ---- by computation
unfoldable barred : Settings
barred = settings (3 ∷ []) (64 ∷ [])

unfoldable few : Settings
few = settings (7 ∷ []) (0 ∷ [])

record Computed : Type 0 where
  grouped-passes : is_done (table_fault grouped) ≡ true
  left-ground : has_variable (tree grouped.concepts 0) ≡ false
  right-ground : has_variable (tree grouped.concepts 3) ≡ false
  third-fails : says_test grouped 4 (not_below (0 ∷ []) 0 3) ≡ true
  barred-set : is_done (settings_fault (house questions) barred) ≡ true
  few-set : is_done (settings_fault (house questions) few) ≡ true
  free-set : is_done (settings_fault (house questions) free) ≡ true
  grouped-set : is_done (settings_fault grouped free) ≡ true
  opposed-set : is_done (settings_fault opposed free) ≡ true
  barred-first : first_test (house questions) barred (λ m. true) 4 (2 ∷ []) ≡ true
  few-none : none_test (house questions) few (λ m. true) 4 ≡ true
  joined-first : first_test grouped free (λ m. ltb m 2) 4 (4 ∷ []) ≡ true

computed : Computed
unfolding or both any_below decode node shape tree_to tree variables_of has_variable inside occurs_to occurs is_atomic in_inclusion in_question stands holdsAtom twin is_lowest is_atom keep atoms bit pick chosen every contains same_name is_top on_picked on_both on_inner on_variable by_rule follows or_else refuse_if first_at unfit limit_fault roles_fault wider wider_to malformed_row malformed malformed_fault forward forward_fault no_concept pairs_fault inclusion_fault sides_fault atoms_fault concept_fault id_fault use_fault table_fault assignment_fault_at assignment_fault gather entries house looped copied narrowed questions cards any_in all_below built mark_at lines some round rounds closed_test same_list all_in before all_lists assignments bools_agree earlier_test is_done solved_by refuted on_ids marks misses says_test card_test ℕ_discrete faulty_at settings_fault_at settings_fault size counted one heeds_test asked_test out_test first_test none_test opposed grouped barred few
computed =
    record {
      grouped-passes = refl;
      left-ground = refl;
      right-ground = refl;
      third-fails = refl;
      barred-set = refl;
      few-set = refl;
      free-set = refl;
      grouped-set = refl;
      opposed-set = refl;
      barred-first = refl;
      few-none = refl;
      joined-first = refl;
    }

-- ---- groups
abbrev HoldsSome : Tables → ℕ → Type 0
HoldsSome t m = (k : ℕ) × (holds t m k ≡ true)

chain-end : (t : Tables) (m : ℕ) (others : List ℕ) (n : ℕ) → Chain t m others n → HoldsSome t n
chain-end t m [] n c = (c.variable, c.second)
chain-end t m (o ∷ others) n c = chain-end t o others n c.2

-- the questions that hold the variable 0 are a group, whatever else there is
ask-both :
    (t : Tables) (n : ℕ) → holds t 0 0 ≡ true → holds t n 0 ≡ true → InGroup t 0 n
ask-both t n e f = inl (record { others = []; chain = record { variable = 0; first = e; second = f } })

joined-with : (n : ℕ) → n < pairs_of grouped.questions → (ltb n 2 ≡ true) ↔ InGroup grouped 0 n
unfolding holds stands_in tree tree_to shape node decode or house entries questions grouped
joined-with zero l = ((λ e. ask-both grouped 0 refl refl), (λ g. refl))
joined-with (suc zero) l = ((λ e. ask-both grouped 1 refl refl), (λ g. refl))
joined-with (suc (suc zero)) l = (
  (λ e. absurd (true≢false (sym e))),
  λ g.
      absurd
      (⊎_elim (λ (j : Joined grouped 0 2). true≢false (sym (chain-end grouped 0 j.others 2 j.chain).1))
      (λ h. true≢false (h.0 0)) g),
)
joined-with (suc (suc (suc n))) l = absurd (omega arith)

third-ground : (k : ℕ) → holds grouped 2 k ≡ false
unfolding holds stands_in tree tree_to shape node decode or house entries questions grouped
third-ground k = refl

opposed-with : (n : ℕ) → n < pairs_of opposed.questions → InGroup opposed 0 n
unfolding holds stands_in tree tree_to shape node decode or house entries questions opposed
opposed-with zero l = ask-both opposed 0 refl refl
opposed-with (suc zero) l = ask-both opposed 1 refl refl
opposed-with (suc (suc n)) l = absurd (omega arith)

-- ---- the answers
whole-first : (t : Tables) (s : Settings) (a : List ℕ) → FirstAmong (λ m. true ≡ true) t s a → FirstWithin t s a
whole-first t s a f =
    record {
      accepted = f.accepted;
      heeds = f.heeds;
      solves = λ m l. f.solves m l refl;
      first = λ other e h x. f.first other e h (λ m l u. x m l);
    }

free-first : FirstWithin (house questions) free (4 ∷ [])
free-first =
    record {
      accepted = card-h.1.accepted;
      heeds = heeds-all (house questions) free unrestricted (4 ∷ []) card-h.1.accepted;
      solves = card-h.1.solves;
      first = λ other e h x. card-h.1.first other e x;
    }

card-i : Holds (card I opposed no_filling)
unfolding cards opposed
card-i = every-card _ (Memᴰ.tail (Memᴰ.tail (Memᴰ.tail (Memᴰ.tail (Memᴰ.tail (Memᴰ.tail (Memᴰ.tail (Memᴰ.tail (Memᴰ.head refl)))))))))

card-j : Holds (card J (house []) (filling (0 ∷ [])))
unfolding cards
card-j = every-card _ (Memᴰ.tail (Memᴰ.tail (Memᴰ.tail (Memᴰ.tail (Memᴰ.tail (Memᴰ.tail (Memᴰ.tail (Memᴰ.tail (Memᴰ.tail (Memᴰ.head refl))))))))))

pub found : Found
unfolding house opposed
found =
    record {
      card-H = λ before after told room. finds-first (house questions) refl before after told card-h.0 room 4 card-h.1;
      card-I = λ before after told room. finds-none opposed refl before after told card-i.0 room card-i.1;
      card-J = λ before after told room. finds-first (house []) refl before after told card-j.0 room 0 card-j.1;
    }

pub found_within : FoundWithin
unfolding house barred few
found_within =
    record {
      barred = λ before after told room.
          within_first (house questions) refl before after told card-h.0 room barred (is-done _ computed.barred-set) 2
          (whole-first _ _ _ (first_passes (house questions) barred (λ m. true) 4 card-h.0 (2 ∷ []) computed.barred-first));
      counted = λ before after told room.
          within_none (house questions) refl before after told card-h.0 room few (is-done _ computed.few-set)
          (λ other e h x. none_passes (house questions) few (λ m. true) 4 card-h.0 computed.few-none other e h (λ m l u. x m l));
    }

pub sample-counted : (allowance : ℕ) → 4 ≤ allowance → Always (FindsCounted (house questions) free allowance) (tells 0 0 4) (fills 4)
unfolding house
sample-counted allowance l before after told room x =
    counted-first (house questions) refl before after told card-h.0 room free (is-done _ computed.free-set) allowance 4 sample-count x 4
    free-first l

pub found-counted : FoundCounted
unfolding house
found-counted =
    record {
      enough = sample-counted 4 (omega arith);
      spent = λ before after told room x.
          counted-spent (house questions) refl before after told card-h.0 room free (is-done _ computed.free-set) 3 4 sample-count x (omega arith);
      refused = λ before after told room x.
          subst (λ (z : Outcome). FindsCountedAfter z (tables [] [] [] [] 9) free 5 before after told) (nine-refused free (length before)) x;
    }

pub found-group : FoundGroup
unfolding house grouped opposed
found-group =
    record {
      joined = λ before after told room x.
          group-first grouped refl before after told ok room free (is-done _ computed.grouped-set) 0 (lit< tt) x 4
          (first-among-same grouped free _ _ joined-with _ (first_passes grouped free (λ m. ltb m 2) 4 ok (4 ∷ []) computed.joined-first));
      ground = λ before after told room x.
          group-none grouped refl before after told ok room free (is-done _ computed.grouped-set) 2 (lit< tt) x
          (λ other e h y. third-fails _ (y 2 (lit< tt) (inr (third-ground, third-ground))));
      whole = λ before after told room. finds-none grouped refl before after told ok room (λ σ y. third-fails _ (y 2 (lit< tt)));
      others = λ before after told room x.
          group-none opposed refl before after told card-i.0 room free (is-done _ computed.opposed-set) 0 (lit< tt) x
          (λ other e h y.
          let s = some-solves opposed (well_formed opposed card-i.0) other (λ m l. y m l (opposed-with m l)) in
          card-i.1 s.substitution s.solves);
    }
  where
    ok : table_fault grouped ≡ Done
    ok = is-done _ computed.grouped-passes

    -- the third question holds no variable, so it fails under every reading
    third-fails : (reading : Interpretation → Reading) → SubsumedBy grouped reading 0 3 → ⊥
    third-fails reading h =
        (test-says grouped 4 ok (not_below (0 ∷ []) 0 3) computed.third-fails).1
        (subsumed-by-ground grouped reading (assigned grouped (0 ∷ [])) 0 3 computed.left-ground computed.right-ground h)
