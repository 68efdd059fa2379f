-- The atoms' marks are right: what each pass adds, put together.
use Rattle.std.specs.Prelude.{Err}
use Prim.Native.Nat.{ℕ, zero, suc, ◌+◌, ◌<◌, ◌≤◌}
use mathlib.Core.Path.{◌≡◌, refl, sym, ap, ap₂, ◌∙◌, subst}
use mathlib.Core.List.{List, [], ◌∷◌}
use mathlib.Core.Bool.{Bool, true, false, not, false≢true}
use mathlib.Core.Logic.{⊎_elim}
use native.Mathlib.Omega.{arith}
use lib.Dec.{eqb}
use lib.ListN.{length, get_or, set, length-set, replicate, get_or-replicate, get_or-eq_default}
use lib.Seq.{get_or-set_same, get_or-set_other}
use borrow.Author.Tests.{eq-eqb, eqb-true, lt-ltb, le-ltb, ltb-false}
use Rattle.subsumption.specs.declared.refusal.Refusal.{Refusal}
use Rattle.subsumption.specs.declared.refusal.Refusal.TheVariants.{TooManyAtoms}
use Rattle.subsumption.specs.Tables.{Tables, tables, or, both, any_below, node, count_of, pairs_of, left_of, right_of, tree, has_variable}
use Rattle.subsumption.specs.Atoms.{is_atomic, occurs, in_inclusion, in_question, stands, is_lowest, is_atom, keep, atoms}
use Rattle.subsumption.specs.Refusal.{or_else, refuse_if, Outcome, Done}
use Rattle.subsumption.specs.Check.{inclusion_fault, sides_fault, roles_fault, atoms_fault, use_fault}
use Rattle.subsumption.specs.Inner.Atoms.{Known, mark_at, held, VariableSets, MarkedBy, in_pair, on_side, on_ground_right, Spread, Narrowed, StandingMarks, AtomMarks, marked_ids}
use Rattle.subsumption.specs.Inner.Twins.{LowestTwins, Lowered}
use Rattle.subsumption.specs.Inner.Check.{Used}
use Rattle.subsumption.proofs.Bools.{or_cases, or-first, or-second, both_true, both-intro, any_below-intro, any_below-elim, last-cases, le-or-lt, same_bool}
use Rattle.subsumption.proofs.Refusals.{passed-if, passed-second}
use Rattle.subsumption.proofs.Marks.{held-set}
use Rattle.subsumption.proofs.TwinLaws.{twin-same, same-twin, lowest-least, lowest-intro}

pub record NarrowedTo (concepts : List ℕ) (before marks : List Bool) (p : ℕ) : Type 0 where
  pub long : length marks ≡ 192
  pub within : p ≤ count_of concepts
  pub done : (q : ℕ) → q < p → mark_at marks q ≡ both (is_atomic (node concepts q)) (mark_at before q)
  pub rest : (q : ℕ) → p ≤ q → mark_at marks q ≡ mark_at before q

pub narrowed_none : (concepts : List ℕ) (marks : List Bool) → length marks ≡ 192 → NarrowedTo concepts marks marks 0
narrowed_none concepts marks l = record { long = l; within = omega arith; done = λ q h. absurd (omega arith); rest = λ q h. refl }

pub narrowed-more :
    (concepts : List ℕ) (before marks : List Bool) (p : ℕ) (atomic mark : Bool) → NarrowedTo concepts before marks p → p < count_of concepts
    → count_of concepts ≤ 192 → atomic ≡ is_atomic (node concepts p) → mark ≡ both atomic (mark_at marks p)
    → NarrowedTo concepts before (set marks p mark) (p + 1)
narrowed-more concepts before marks p atomic mark s h few f g =
    record {
      long = length-set marks p mark ∙ s.long;
      within = omega arith;
      done =
          λ q l.
          ⊎_elim (λ (x : q ≡ p). ap (mark_at (set marks p mark)) x ∙ here ∙ ap (λ (z : ℕ). both (is_atomic (node concepts z)) (mark_at before z)) (sym x))
          (λ x. get_or-set_other marks p q mark false (λ y. omega arith) ∙ s.done q x) (last-cases q p (omega arith));
      rest = λ q l. get_or-set_other marks p q mark false (λ y. omega arith) ∙ s.rest q (omega arith);
    }
  where
    here : mark_at (set marks p mark) p ≡ both (is_atomic (node concepts p)) (mark_at before p)
    here =
        get_or-set_same marks p mark false (omega (arith, s.long)) ∙ g ∙ ap₂ both f (s.rest p (omega arith))

pub narrowed-done : (concepts : List ℕ) (before marks : List Bool) (p : ℕ) → NarrowedTo concepts before marks p → count_of concepts ≤ p → Narrowed concepts before marks
narrowed-done concepts before marks p s h = record { long = s.long; marks = λ q l. s.done q (omega arith) }

no-mark : (q : ℕ) → mark_at (replicate 192 false) q ≡ false
no-mark q = ⊎_elim (λ h. get_or-eq_default (replicate 192 false) false {n = q} h) (λ h. get_or-replicate 192 q false false h) (le-or-lt 192 q)

module _ (concepts inclusions questions sets : List ℕ) (a b c d e : List Bool)
    (known-inclusions : Known (count_of concepts) inclusions) (known-questions : Known (count_of concepts) questions)
    (known-sets : VariableSets concepts sets) (none : a ≡ replicate 192 false)
    (sides : MarkedBy (on_side inclusions) a b) (rights : MarkedBy (on_ground_right questions sets) b c)
    (spread : Spread concepts c d) (narrowed : Narrowed concepts d e) where
  ground-right : (m : ℕ) → m < pairs_of questions → held sets (right_of questions m) ≡ has_variable (tree concepts (right_of questions m))
  ground-right m h = held-set concepts sets known-sets (right_of questions m) (known-questions.right-known m h)

  from-root : (p q : ℕ) → mark_at c q ≡ true → occurs concepts p q ≡ true → or (in_inclusion concepts inclusions p) (in_question concepts questions p) ≡ true
  unfolding in_inclusion in_question
  from-root p q h o = ⊎_elim (λ x. or-second _ _ (question x)) (λ x. or-first _ _ (⊎_elim inclusion (λ y. absurd (false≢true (sym (ap (λ (z : List Bool). mark_at z q) none ∙ no-mark q) ∙ y))) (or_cases _ _ (sym (sides.marks q) ∙ x)))) (or_cases _ _ (sym (rights.marks q) ∙ h))
    where
      there : (i : ℕ) → eqb q i ≡ true → occurs concepts p i ≡ true
      there i x = subst (λ (z : ℕ). occurs concepts p z ≡ true) (eqb-true q i x) o

      inclusion : on_side inclusions q ≡ true → in_inclusion concepts inclusions p ≡ true
      inclusion x =
          let (m, l, y) = any_below-elim _ _ x in
          any_below-intro _ _ m l (⊎_elim (λ z. or-first _ _ (there _ z)) (λ z. or-second _ _ (there _ z)) (or_cases _ _ y))

      question : on_ground_right questions sets q ≡ true → in_question concepts questions p ≡ true
      question x =
          let (m, l, y) = any_below-elim _ _ x in
          any_below-intro _ _ m l (both-intro _ _ (ap not (sym (ground-right m l)) ∙ (both_true _ _ y).0) (there _ (both_true _ _ y).1))

  to-root : (p : ℕ) → or (in_inclusion concepts inclusions p) (in_question concepts questions p) ≡ true → mark_at d p ≡ true
  unfolding in_inclusion in_question
  to-root p h = ⊎_elim inclusion question (or_cases _ _ h)
    where
      side : (i m : ℕ) → m < pairs_of inclusions → in_pair inclusions i m ≡ true → i < count_of concepts → occurs concepts p i ≡ true → mark_at d p ≡ true
      side i m l x k o = spread.complete p i k (rights.marks i ∙ or-second _ _ (sides.marks i ∙ or-first _ _ (any_below-intro _ _ m l x))) o

      inclusion : in_inclusion concepts inclusions p ≡ true → mark_at d p ≡ true
      inclusion x =
          let (m, l, y) = any_below-elim _ _ x in
          ⊎_elim
          (λ o. side (left_of inclusions m) m l (or-first _ _ (eq-eqb (left_of inclusions m) (left_of inclusions m) refl)) (known-inclusions.left-known m l) o)
          (λ o. side (right_of inclusions m) m l (or-second _ _ (eq-eqb (right_of inclusions m) (right_of inclusions m) refl)) (known-inclusions.right-known m l) o)
          (or_cases _ _ y)

      question : in_question concepts questions p ≡ true → mark_at d p ≡ true
      question x =
          let (m, l, y) = any_below-elim _ _ x in
          spread.complete p (right_of questions m) (known-questions.right-known m l)
          (rights.marks (right_of questions m)
          ∙ or-first _ _ (any_below-intro _ _ m l (both-intro _ _ (ap not (ground-right m l) ∙ (both_true _ _ y).0) (eq-eqb (right_of questions m) (right_of questions m) refl))))
          (both_true _ _ y).1

  pub standing-marked : StandingMarks concepts inclusions questions e
  unfolding stands
  standing-marked =
      record {
        long = narrowed.long;
        holds =
            λ p h.
            narrowed.marks p h
            ∙ ap (both (is_atomic (node concepts p)))
            (same_bool _ _ (λ x. let (q, l, m, o) = spread.sound p h x in from-root p q m o) (λ x. to-root p x));
      }

-- a mark moved to the lowest twin is a mark of a lowest twin
module _ (concepts inclusions questions firsts : List ℕ) (before after : List Bool) (standing : StandingMarks concepts inclusions questions before)
    (lowest : LowestTwins concepts firsts) (lowered : Lowered firsts (count_of concepts) before after) where
  abbrev t : Tables
  t = tables concepts inclusions questions [] 0

  is-lowest : (p q : ℕ) → p < count_of concepts → get_or firsts p 0 ≡ q → is_lowest concepts q ≡ true
  is-lowest p q l e =
      let w = lowest.each p l in
      lowest-intro concepts q (λ x h s. omega (arith, w.least x (sym s ∙ ap (tree concepts) (sym e) ∙ w.same)))

  there : (q : ℕ) → any_below (count_of concepts) (λ p. both (eqb (get_or firsts p 0) q) (mark_at before p)) ≡ true → is_atom t q ≡ true
  unfolding is_atom
  there q h =
      let (p, l, e) = any_below-elim _ _ h in
      let f : get_or firsts p 0 ≡ q = eqb-true _ q (both_true _ _ e).0 in
      both-intro _ _ (is-lowest p q l f)
      (any_below-intro _ _ p l
      (both-intro _ _ (same-twin concepts q p (ap (tree concepts) (sym f) ∙ (lowest.each p l).same)) (sym (standing.holds p l) ∙ (both_true _ _ e).1)))

  back : (q : ℕ) → is_atom t q ≡ true → any_below (count_of concepts) (λ p. both (eqb (get_or firsts p 0) q) (mark_at before p)) ≡ true
  unfolding is_atom
  back q h =
      let (p, l, e) = any_below-elim _ _ (both_true _ _ h).1 in
      let w = lowest.each p l in
      let s = twin-same concepts q p (both_true _ _ e).0 in
      let f : get_or firsts p 0 ≡ q
      = omega (arith, w.least q s, lowest-least concepts q (get_or firsts p 0) (both_true _ _ h).0 (s ∙ sym w.same)) in
      any_below-intro _ _ p l (both-intro _ _ (eq-eqb (get_or firsts p 0) q f) (standing.holds p l ∙ (both_true _ _ e).1))

  pub atoms-marked : AtomMarks concepts inclusions questions after
  atoms-marked = record { long = lowered.long; holds = λ q l. lowered.marks q l ∙ same_bool _ _ (there q) (back q) }

keep-as : (f g : ℕ → Bool) (from count : ℕ) → ((p : ℕ) → from ≤ p → p < from + count → f p ≡ g p) → keep f from count ≡ keep g from count
unfolding keep
keep-as f g from zero h = refl
keep-as f g from (suc count) h = go (keep-as f g (suc from) count (λ p l k. h p (omega arith) (omega arith))) (f from) refl (h from (omega arith) (omega arith))
  where
    go : keep f (suc from) count ≡ keep g (suc from) count → (b : Bool) → f from ≡ b → f from ≡ g from → keep f from (suc count) ≡ keep g from (suc count)
    go ih true e k = rw (e, sym k ∙ e) (ap (λ (z : List ℕ). from ∷ z) ih)
    go ih false e k = rw (e, sym k ∙ e) ih

-- the marked ids are the atoms
pub atoms-listed : (t : Tables) (marks : List Bool) → AtomMarks t.concepts t.inclusions t.questions marks → marked_ids marks (count_of t.concepts) ≡ atoms t
unfolding atoms is_atom stands
atoms-listed t marks m = keep-as (mark_at marks) (is_atom t) 0 (count_of t.concepts) (λ p l k. m.holds p (omega arith))

module _ (t : Tables) (x y w : Outcome) (n : ℕ) (marks : List Bool) (ex : x ≡ inclusion_fault t.concepts t.inclusions) (hx : x ≡ Done)
    (ey : y ≡ sides_fault t.concepts t.questions) (hy : y ≡ Done) (ew : w ≡ roles_fault t.roles) (hw : w ≡ Done) (m : AtomMarks t.concepts t.inclusions t.questions marks)
    (en : n ≡ length (marked_ids marks (count_of t.concepts))) where
  counted : n ≡ length (atoms t)
  counted = en ∙ ap length (atoms-listed t marks m)

  pub use-many : (after : List Bool) → 64 < n → Used t after (Err TooManyAtoms)
  unfolding use_fault atoms_fault or_else refuse_if
  use-many after h = record { answered = rw (← ex, hx, ← ey, hy, ← ew, hw, ← counted, lt-ltb 64 n h); marked = λ e. absurd (let z : ◌≡◌ {A = ℕ} 0 1 = cc e in omega arith) }

  pub use-few : n ≤ 64 → Used t marks Done
  unfolding use_fault atoms_fault or_else refuse_if
  use-few h = record { answered = rw (← ex, hx, ← ey, hy, ← ew, hw, ← counted, le-ltb 64 n h); marked = λ e. m }

pub use-refused : (t : Tables) (marks : List Bool) (r : Refusal) → Err r ≡ use_fault t → Used t marks (Err r)
use-refused t marks r e = record { answered = e; marked = λ h. absurd (let z : ◌≡◌ {A = ℕ} 0 1 = cc h in omega arith) }

pub used-few : (t : Tables) → use_fault t ≡ Done → length (atoms t) ≤ 64
unfolding use_fault atoms_fault
used-few t h = ltb-false 64 _ (passed-if _ _ (passed-second _ _ (passed-second _ _ (passed-second _ _ h))))
