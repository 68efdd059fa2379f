-- Members of `atoms`: below the count, without variables, and one for each id that stands in an inclusion or a variable-free right side.
use Prim.Native.Nat.{ℕ, ◌<◌}
use mathlib.Core.Path.{◌≡◌, ap, ◌∙◌}
use mathlib.Core.List.{Memᴰ}
use mathlib.Core.Bool.{true}
use mathlib.Core.Logic.{⊎_elim}
use native.Mathlib.Omega.{arith}
use borrow.Author.Tests.{not-true}
use Rattle.subsumption.specs.Tables.{Tables, count_of, tree, has_variable}
use Rattle.subsumption.specs.Atoms.{occurs, in_inclusion, in_question, stands, is_atom, atoms}
use Rattle.subsumption.proofs.Bools.{or_cases, both_true, both-intro, any_below-intro, any_below-elim}
use Rattle.subsumption.proofs.WellFormed.{WellFormed}
use Rattle.subsumption.proofs.Inward.{Ground}
use Rattle.subsumption.proofs.Occurs.{occurs-ground}
use Rattle.subsumption.proofs.TwinLaws.{twin-same, same-twin, lowest-of}
use Rattle.subsumption.proofs.Keep.{Kept, keep-member, keep-intro}

module _ (t : Tables) (p : ℕ) where
  atom-kept : Memᴰ p (atoms t) → Kept (is_atom t) 0 (count_of t.concepts) p
  unfolding atoms
  atom-kept h = keep-member (is_atom t) 0 (count_of t.concepts) p h

  pub atom-known : Memᴰ p (atoms t) → p < count_of t.concepts
  atom-known h = omega (arith, (atom-kept h).high)

  pub atom-passes : Memᴰ p (atoms t) → is_atom t p ≡ true
  atom-passes h = (atom-kept h).passes

  pub atom-listed : p < count_of t.concepts → is_atom t p ≡ true → Memᴰ p (atoms t)
  unfolding atoms
  atom-listed l h = keep-intro (is_atom t) 0 (count_of t.concepts) p (record { low = omega arith; high = omega arith; passes = h })

  -- an atom is a twin of an id that stands in an inclusion or a variable-free right side
  pub atom-stands : Memᴰ p (atoms t) → (q : ℕ) × (q < count_of t.concepts) × (tree t.concepts p ≡ tree t.concepts q) × (stands t q ≡ true)
  unfolding is_atom
  atom-stands h =
      let (q, l, e) = any_below-elim _ _ (both_true _ _ (atom-passes h)).1 in
      (q, l, twin-same t.concepts p q (both_true _ _ e).0, (both_true _ _ e).1)

  stands-ground : WellFormed t → stands t p ≡ true → Ground t.concepts p
  unfolding stands in_inclusion in_question
  stands-ground wf h = ⊎_elim inclusion question (or_cases _ _ (both_true _ _ h).1)
    where
      within : (i : ℕ) → occurs t.concepts p i ≡ true → Ground t.concepts i → Ground t.concepts p
      within = occurs-ground t.concepts wf.rising p

      inclusion : in_inclusion t.concepts t.inclusions p ≡ true → Ground t.concepts p
      inclusion e =
          let (m, l, o) = any_below-elim _ _ e in
          ⊎_elim (λ o. within _ o (wf.left-ground m l)) (λ o. within _ o (wf.right-ground m l)) (or_cases _ _ o)

      question : in_question t.concepts t.questions p ≡ true → Ground t.concepts p
      question e =
          let (m, l, o) = any_below-elim _ _ e in
          within _ (both_true _ _ o).1 (not-true _ (both_true _ _ o).0)

-- of each id that stands so, its lowest twin is an atom
pub record AtomOf (t : Tables) (q : ℕ) : Type 0 where
  pub atom : ℕ
  pub listed : Memᴰ atom (atoms t)
  pub same : tree t.concepts atom ≡ tree t.concepts q

module _ (t : Tables) (q : ℕ) where
  pub atom-of : q < count_of t.concepts → stands t q ≡ true → AtomOf t q
  unfolding is_atom
  atom-of l h =
      let s = lowest-of t.concepts q in
      record {
        atom = s.id;
        listed =
            atom-listed t s.id (omega (arith, s.low))
            (both-intro _ _ s.lowest (any_below-intro _ _ q l (both-intro _ _ (same-twin t.concepts s.id q s.same) h)));
        same = s.same;
      }

pub atom-ground : (t : Tables) (p : ℕ) → WellFormed t → Memᴰ p (atoms t) → Ground t.concepts p
atom-ground t p wf h =
    let (q, l, e, s) = atom-stands t p h in
    ap has_variable e ∙ stands-ground t q wf s
