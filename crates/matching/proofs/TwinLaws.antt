-- Counting twins once: an assignment over the list with all copies solves exactly when a corresponding one over the atoms does.
use Rattle.subsumption.specs.Refusal.{Done}
use Prim.Native.Nat.{ℕ, ◌<◌}
use mathlib.Core.Path.{◌≡◌, refl, sym, ap, ◌∙◌, subst}
use mathlib.Core.List.Memᴰ
use mathlib.Core.List.{List, Memᴰ}
use mathlib.Core.Bool.{Bool, true}
use mathlib.Core.Logic.{◌↔◌, ⊎_elim}
use native.Mathlib.Omega.{arith}
use lib.ListN.{length, get_or, get_or-eq_default}
use Rattle.subsumption.specs.Tables.{Tables, both, any_below, count_of, left_of, right_of, Concept, tree}
use Rattle.subsumption.specs.Atoms.{stands, twin, atoms, bit, pick, chosen}
use Rattle.subsumption.specs.Subsumption.{Interpretation, Reading, Member, no_variables}
use Rattle.subsumption.specs.Check.{assignment_fault_at, assignment_fault}
use Rattle.subsumption.proofs.Bools.{both_true, both-intro, any_below-intro, any_below-elim, le-or-lt}
use Rattle.subsumption.proofs.Bits.{bit-of-zero}
use Rattle.subsumption.proofs.Keep.{keep-member, keep-intro}
use Rattle.subsumption.proofs.TwinLaws.{twin-same, same-twin}
use Rattle.subsumption.proofs.AtomLaws.{atom-of, atom-stands}
use Rattle.subsumption.proofs.Chosen.{pick-member, pick_intro, get_or-member}
use Rattle.matching.specs.Solving.{Solved}
use Rattle.matching.specs.Twins.{copies, chosen_before, FilledBefore, FilledNow, ConceptsIn, Corresponds, TwinsCountOnce}
use Rattle.matching.proofs.SubstitutionLaws.Readings.{member-reads}
use Rattle.matching.proofs.SubstitutionLaws.Assigning.{assignment_to, assignment_to-accepted, assignment_to-bit, assignment_to-length, accepted-length}
use Rattle.matching.proofs.SubstitutionLaws.Parts.{place}

-- ---- readings that choose the same concepts solve alike
module _ (t : Tables) (f g : ℕ → List ℕ) (there : (k : ℕ) → ConceptsIn t (f k) (g k)) (back : (k : ℕ) → ConceptsIn t (g k) (f k)) where
  abbrev reads : (ℕ → List ℕ) → Interpretation → Reading
  reads f I k x = (p : ℕ) → Memᴰ p (f k) → Member I no_variables (tree t.concepts p) x

  pub same-solved : Solved t (reads f) → Solved t (reads g)
  same-solved s m l I obeys x h c =
      member-reads I (reads f I) (reads g I) (λ k x l r q n. let (p, u, e) = back k q n in subst (λ (d : Concept). Member I no_variables d x) (sym e) (r p u))
      (tree t.concepts (right_of t.questions m)) x h
      (s m l I obeys x h
      (member-reads I (reads g I) (reads f I) (λ k x l r p n. let (q, u, e) = there k p n in subst (λ (d : Concept). Member I no_variables d x) (sym e) (r q u))
      (tree t.concepts (left_of t.questions m)) x h c))

-- ---- an assignment over one list of ids, told over another that has all its concepts
module _ (t : Tables) (ids others : List ℕ) (into : ConceptsIn t ids others) (assignment : List ℕ) (long : length assignment ≡ t.variables) where
  taken : ℕ → ℕ → Bool
  taken k q = any_below (length ids) (λ m. both (bit (get_or assignment k 0) m) (twin t.concepts (get_or ids m 0) (get_or others q 0)))

  pub told : List ℕ
  told = assignment_to (length others) t.variables taken

  pub told-accepted : assignment_fault_at (length others) t.variables told ≡ Done
  unfolding told
  told-accepted = assignment_to-accepted (length others) t.variables taken

  known : (list : List ℕ) → length list ≡ t.variables → (xs : List ℕ) (k p : ℕ) → Memᴰ p (pick xs (get_or list k 0)) → k < t.variables
  known list e xs k p m =
      let c = pick-member xs _ p m in
      ⊎_elim (λ l. absurd (none c.place c.chosen (get_or-eq_default list 0 {n = k} (omega arith)))) (λ l. l) (le-or-lt t.variables k)
    where
      none : (q : ℕ) → bit (get_or list k 0) q ≡ true → get_or list k 0 ≡ 0 → ⊥
      none q h z = bit-of-zero q (rw z at h)

  pub told-there : (k : ℕ) → ConceptsIn t (pick ids (get_or assignment k 0)) (pick others (get_or told k 0))
  unfolding told taken
  told-there k p m =
      let c = pick-member ids _ p m in
      let l = known assignment long ids k p m in
      let (q, n, e) = into p (Memᴰ.cast (sym c.here) (get_or-member ids c.place c.known)) in
      let (j, u, h) = place 0 others q n in (
        q,
        pick_intro others _ q
            (record {
              place = j;
              known = u;
              chosen =
                  assignment_to-bit (length others) t.variables taken k j l u
                  ∙ any_below-intro _ _ c.place c.known
                  (both-intro _ _ c.chosen (same-twin t.concepts _ _ (ap (tree t.concepts) c.here ∙ e ∙ ap (tree t.concepts) (sym h))));
              here = h;
            }),
        e,
      )

  pub told_back : (k : ℕ) → ConceptsIn t (pick others (get_or told k 0)) (pick ids (get_or assignment k 0))
  unfolding told taken
  told_back k q m =
      let c = pick-member others _ q m in
      let l = known told (assignment_to-length (length others) t.variables taken) others k q m in
      let (j, u, e) = any_below-elim _ _ (sym (assignment_to-bit (length others) t.variables taken k c.place l c.known) ∙ c.chosen) in (
        get_or ids j 0,
        pick_intro ids _ _ (record { place = j; known = u; chosen = (both_true _ _ e).0; here = refl }),
        sym (twin-same t.concepts _ _ (both_true _ _ e).1 ∙ ap (tree t.concepts) c.here),
      )

-- ---- the two lists
module _ (t : Tables) where
  copies-lowered : ConceptsIn t (copies t) (atoms t)
  unfolding copies
  copies-lowered p m =
      let k = keep-member (stands t) 0 (count_of t.concepts) p m in
      let a = atom-of t p (omega (arith, k.high)) k.passes in
      (a.atom, a.listed, sym a.same)

  atoms-copied : ConceptsIn t (atoms t) (copies t)
  unfolding copies
  atoms-copied p m =
      let (q, l, e, s) = atom-stands t p m in
      (q, keep-intro (stands t) 0 (count_of t.concepts) q (record { low = omega arith; high = omega arith; passes = s }), e)

  corresponding : (before after : List ℕ) → Corresponds t before after
      → assignment_fault_at (length (copies t)) t.variables before ≡ Done → assignment_fault t after ≡ Done → FilledBefore t before ↔ FilledNow t after
  corresponding before after c a b = (
    λ f. record { accepted = b; solves = same-solved t (chosen_before t before) (chosen t after) c.lowered c.copied f.solves },
    λ f. record { accepted = a; solves = same-solved t (chosen t after) (chosen_before t before) c.copied c.lowered f.solves },
  )

-- The promise of A.2. It asks nothing of the lists' lengths.
pub twins-count-once : (t : Tables) → TwinsCountOnce t
unfolding chosen_before chosen assignment_fault
twins-count-once t =
    record {
      after =
          λ before f.
          let long = accepted-length _ _ before f.accepted in
          let c : Corresponds t before (told t (copies t) (atoms t) (copies-lowered t) before long)
          = record { lowered = told-there t (copies t) (atoms t) (copies-lowered t) before long; copied = told_back t (copies t) (atoms t) (copies-lowered t) before long } in
          let ok = told-accepted t (copies t) (atoms t) (copies-lowered t) before long in
          (told t (copies t) (atoms t) (copies-lowered t) before long, (corresponding t before _ c f.accepted ok).0 f, c);
      before =
          λ after f.
          let long = accepted-length _ _ after f.accepted in
          let c : Corresponds t (told t (atoms t) (copies t) (atoms-copied t) after long) after
          = record { lowered = told_back t (atoms t) (copies t) (atoms-copied t) after long; copied = told-there t (atoms t) (copies t) (atoms-copied t) after long } in
          let ok = told-accepted t (atoms t) (copies t) (atoms-copied t) after long in
          (told t (atoms t) (copies t) (atoms-copied t) after long, (corresponding t _ after c ok f.accepted).1 f, c);
      alike = λ before after a b c. corresponding t before after c a b;
    }
