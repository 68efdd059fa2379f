-- The eight rules on plain relations, and the test of a line against them.
use Prim.Native.Nat.{ℕ, zero, suc, ◌<◌}
use mathlib.Core.Path.{◌≡◌, refl, ap, ap₂, ◌∙◌, subst}
use mathlib.Core.List.{List, Memᴰ}
use mathlib.Core.Bool.{Bool, true, false≢true}
use mathlib.Core.Logic.{⊎_elim}
use borrow.Author.Tests.{eqb-true, eq-eqb, ltb-true, lt-ltb}
use Rattle.subsumption.specs.Tables.{Tables, both, top_at, name_at, exists_at, and_at, var_at, node, count_of, pairs_of, left_of, right_of}
use Rattle.subsumption.specs.Atoms.{chosen}
use Rattle.subsumption.specs.Roles.{wider}
use Rattle.subsumption.specs.Rules.{every, contains, same_name, is_top, on_picked, on_both, on_inner, on_variable, by_rule, follows}
use Rattle.subsumption.proofs.Bools.{or_cases, or-first, or-second, both_true, both-intro}
use Rattle.subsumption.proofs.WellFormed.{WellFormed}
use Rattle.subsumption.proofs.Inward.{Inward, below-inward}
use Rattle.subsumption.proofs.Chosen.{chosen-known}
use Rattle.subsumption.proofs.RuleTests.{every-elim, every-intro, contains-elim, contains-intro, same_name-elim, is_top-elim, onPicked-elim, onBoth-elim, onInner-elim, on_variable-elim}

-- A relation on ids that is closed under the rules.
pub record Rules (t : Tables) (assignment : List ℕ) (R : ℕ → ℕ → Type 0) : Type 0 where
  pub same : (i : ℕ) → i < count_of t.concepts → R i i
  pub named :
      (i j n : ℕ) → i < count_of t.concepts → j < count_of t.concepts
      → node t.concepts i ≡ name_at n → node t.concepts j ≡ name_at n → R i j
  pub top : (i j : ℕ) → i < count_of t.concepts → j < count_of t.concepts → node t.concepts j ≡ top_at → R i j
  pub first : (i j a b : ℕ) → i < count_of t.concepts → j < count_of t.concepts → node t.concepts i ≡ and_at a b → R a j → R i j
  pub second : (i j a b : ℕ) → i < count_of t.concepts → j < count_of t.concepts → node t.concepts i ≡ and_at a b → R b j → R i j
  pub meet :
      (i j a b : ℕ) → i < count_of t.concepts → j < count_of t.concepts → node t.concepts j ≡ and_at a b → R i a → R i b → R i j
  pub linked :
      (i j r s a b : ℕ) → i < count_of t.concepts → j < count_of t.concepts
      → node t.concepts i ≡ exists_at r a → node t.concepts j ≡ exists_at s b → wider t.roles r s ≡ true → R a b → R i j
  pub included :
      (i j m : ℕ) → i < count_of t.concepts → j < count_of t.concepts → m < pairs_of t.inclusions
      → R i (left_of t.inclusions m) → R (right_of t.inclusions m) j → R i j
  pub chooses :
      (i j k p : ℕ) → i < count_of t.concepts → j < count_of t.concepts → node t.concepts i ≡ var_at k
      → Memᴰ p (chosen t assignment k) → R p j → R i j
  pub all-chosen :
      (i j k : ℕ) → i < count_of t.concepts → j < count_of t.concepts → node t.concepts j ≡ var_at k
      → ((p : ℕ) → Memᴰ p (chosen t assignment k) → R i p) → R i j

-- A right line's pair is in every relation that is closed under the rules and holds what is proved.
module _ (t : Tables) (assignment : List ℕ) (wf : WellFormed t) (R : ℕ → ℕ → Type 0) (rules : Rules t assignment R) (proved : ℕ → ℕ → Bool)
    (holds : (i j : ℕ) → i < count_of t.concepts → j < count_of t.concepts → proved i j ≡ true → R i j) where
  known : Inward t.concepts (λ i. i < count_of t.concepts)
  known = below-inward t.concepts wf.rising (count_of t.concepts)

  module _ (i j : ℕ) (l : i < count_of t.concepts) (k : j < count_of t.concepts) where
    by_rule-elim : (rule extra : ℕ) → by_rule t assignment proved rule i j extra ≡ true → R i j
    unfolding by_rule
    by_rule-elim zero extra h = absurd (false≢true h)
    by_rule-elim (suc zero) extra h =
        ⊎_elim (λ e. subst (R i) (eqb-true i j e) (rules.same i l))
        (λ e. let (n, p, q) = same_name-elim _ _ e in rules.named i j n l k p q) (or_cases _ _ (both_true _ _ h).1)
    by_rule-elim (suc (suc zero)) extra h = rules.top i j l k (is_top-elim _ (both_true _ _ h).1)
    by_rule-elim (suc (suc (suc zero))) extra h =
        let (a, b, e, s) = onPicked-elim extra _ _ h in
        ⊎_elim (λ u. rules.first i j a b l k e (holds a j (known.first i a b e l) k u))
        (λ u. rules.second i j a b l k e (holds b j (known.second i a b e l) k u)) s
    by_rule-elim (suc (suc (suc (suc zero)))) extra h =
        let (a, b, e, u, v) = onBoth-elim _ _ (both_true _ _ h).1 in
        rules.meet i j a b l k e (holds i a l (known.first j a b e k) u) (holds i b l (known.second j a b e k) v)
    by_rule-elim (suc (suc (suc (suc (suc zero))))) extra h =
        let (r, s, a, b, e, f, w, u) = onInner-elim (wider t.roles) proved _ _ (both_true _ _ h).1 in
        rules.linked i j r s a b l k e f w (holds a b (known.inner i r a e l) (known.inner j s b f k) u)
    by_rule-elim (suc (suc (suc (suc (suc (suc zero)))))) extra h =
        let (e, u) = both_true _ _ h in
        let (p, q) = both_true _ _ u in
        let m = ltb-true _ _ e in
        rules.included i j extra l k m (holds i _ l (wf.left-known extra m) p) (holds _ j (wf.right-known extra m) k q)
    by_rule-elim (suc (suc (suc (suc (suc (suc (suc zero))))))) extra h =
        let (v, e, u) = on_variable-elim _ _ h in
        let (c, p) = both_true _ _ u in
        let m = contains-elim extra _ c in
        rules.chooses i j v extra l k e m (holds extra j (chosen-known t assignment v extra m) k p)
    by_rule-elim (suc (suc (suc (suc (suc (suc (suc (suc zero)))))))) extra h =
        let (v, e, u) = on_variable-elim _ _ (both_true _ _ h).1 in
        rules.all-chosen i j v l k e (λ p m. holds i p l (chosen-known t assignment v p m) (every-elim _ _ u p m))
    by_rule-elim (suc (suc (suc (suc (suc (suc (suc (suc (suc rule))))))))) extra h = absurd (false≢true h)

  pub follows-elim : (rule left right extra : ℕ) → follows t assignment proved rule left right extra ≡ true → R left right
  unfolding follows
  follows-elim rule left right extra h =
      let (l, u) = both_true _ _ h in
      let (k, s) = both_true _ _ u in
      by_rule-elim left right (ltb-true _ _ l) (ltb-true _ _ k) rule extra s

-- A line of each rule whose premises are proved is right.
module _ (t : Tables) (assignment : List ℕ) (proved : ℕ → ℕ → Bool) (i j : ℕ) (l : i < count_of t.concepts) (k : j < count_of t.concepts) where
  follows-intro : (rule extra : ℕ) → by_rule t assignment proved rule i j extra ≡ true → follows t assignment proved rule i j extra ≡ true
  unfolding follows
  follows-intro rule extra h = both-intro _ _ (lt-ltb _ _ l) (both-intro _ _ (lt-ltb _ _ k) h)

  pub follows_same : i ≡ j → follows t assignment proved 1 i j 0 ≡ true
  unfolding by_rule
  follows_same e = follows-intro 1 0 (both-intro _ _ refl (or-first _ _ (eq-eqb i j e)))

  pub follows-named : (n : ℕ) → node t.concepts i ≡ name_at n → node t.concepts j ≡ name_at n → follows t assignment proved 1 i j 0 ≡ true
  unfolding by_rule same_name
  follows-named n e f = follows-intro 1 0 (both-intro _ _ refl (or-second _ _ (ap₂ same_name e f ∙ eq-eqb n n refl)))

  pub follows-top : node t.concepts j ≡ top_at → follows t assignment proved 2 i j 0 ≡ true
  unfolding by_rule is_top
  follows-top e = follows-intro 2 0 (both-intro _ _ refl (ap is_top e))

  pub follows-first : (a b : ℕ) → node t.concepts i ≡ and_at a b → proved a j ≡ true → follows t assignment proved 3 i j 0 ≡ true
  unfolding by_rule on_picked
  follows-first a b e h = follows-intro 3 0 (ap (on_picked 0 (λ i. proved i j)) e ∙ h)

  pub follows-second : (a b : ℕ) → node t.concepts i ≡ and_at a b → proved b j ≡ true → follows t assignment proved 3 i j 1 ≡ true
  unfolding by_rule on_picked
  follows-second a b e h = follows-intro 3 1 (ap (on_picked 1 (λ i. proved i j)) e ∙ h)

  pub follows-meet :
      (a b : ℕ) → node t.concepts j ≡ and_at a b → proved i a ≡ true → proved i b ≡ true → follows t assignment proved 4 i j 0 ≡ true
  unfolding by_rule on_both
  follows-meet a b e h u = follows-intro 4 0 (both-intro _ _ refl (ap (on_both (proved i)) e ∙ both-intro _ _ h u))

  pub follows-linked :
      (r s a b : ℕ) → node t.concepts i ≡ exists_at r a → node t.concepts j ≡ exists_at s b → wider t.roles r s ≡ true → proved a b ≡ true
      → follows t assignment proved 5 i j 0 ≡ true
  unfolding by_rule on_inner
  follows-linked r s a b e f w h = follows-intro 5 0 (both-intro _ _ refl (ap₂ (on_inner (wider t.roles) proved) e f ∙ both-intro _ _ w h))

  pub follows-included :
      (m : ℕ) → m < pairs_of t.inclusions → proved i (left_of t.inclusions m) ≡ true → proved (right_of t.inclusions m) j ≡ true
      → follows t assignment proved 6 i j m ≡ true
  unfolding by_rule
  follows-included m u h v = follows-intro 6 m (both-intro _ _ (lt-ltb _ _ u) (both-intro _ _ h v))

  pub follows-chooses :
      (v p : ℕ) → node t.concepts i ≡ var_at v → Memᴰ p (chosen t assignment v) → proved p j ≡ true
      → follows t assignment proved 7 i j p ≡ true
  unfolding by_rule on_variable
  follows-chooses v p e m h =
      follows-intro 7 p (ap (on_variable (λ v. both (contains p (chosen t assignment v)) (proved p j))) e ∙ both-intro _ _ (contains-intro m) h)

  pub follows-all-chosen :
      (v : ℕ) → node t.concepts j ≡ var_at v → ((p : ℕ) → Memᴰ p (chosen t assignment v) → proved i p ≡ true)
      → follows t assignment proved 8 i j 0 ≡ true
  unfolding by_rule on_variable
  follows-all-chosen v e h =
      follows-intro 8 0
      (both-intro _ _ refl (ap (on_variable (λ v. every (proved i) (chosen t assignment v))) e ∙ every-intro _ _ h))

-- Marks that hold the pair of every right line over them are closed under the rules.
pub follows-rules :
    (t : Tables) (assignment : List ℕ) (marks : ℕ → ℕ → Bool)
    → ((rule left right extra : ℕ) → follows t assignment marks rule left right extra ≡ true → marks left right ≡ true)
    → Rules t assignment (λ i j. marks i j ≡ true)
follows-rules t assignment marks closed =
    record {
      same = λ i l. closed 1 i i 0 (follows_same t assignment marks i i l l refl);
      named = λ i j n l k e f. closed 1 i j 0 (follows-named t assignment marks i j l k n e f);
      top = λ i j l k e. closed 2 i j 0 (follows-top t assignment marks i j l k e);
      first = λ i j a b l k e h. closed 3 i j 0 (follows-first t assignment marks i j l k a b e h);
      second = λ i j a b l k e h. closed 3 i j 1 (follows-second t assignment marks i j l k a b e h);
      meet = λ i j a b l k e h u. closed 4 i j 0 (follows-meet t assignment marks i j l k a b e h u);
      linked = λ i j r s a b l k e f w h. closed 5 i j 0 (follows-linked t assignment marks i j l k r s a b e f w h);
      included = λ i j m l k u h v. closed 6 i j m (follows-included t assignment marks i j l k m u h v);
      chooses = λ i j v p l k e m h. closed 7 i j p (follows-chooses t assignment marks i j l k v p e m h);
      all-chosen = λ i j v l k e h. closed 8 i j 0 (follows-all-chosen t assignment marks i j l k v e h);
    }
