-- A line that follows from some pairs follows from more, and a test reads pairs of ids only.
use Prim.Native.Nat.{ℕ, zero, suc, ◌<◌}
use mathlib.Core.Path.{◌≡◌, refl, ◌∙◌, subst, sym}
use mathlib.Core.List.{List}
use mathlib.Core.Bool.{Bool, true, false≢true}
use native.Mathlib.Omega.{arith}
use borrow.Author.Tests.{ltb-true}
use Rattle.subsumption.specs.Tables.{Tables, both, Node, top_at, name_at, exists_at, and_at, var_at, node, count_of, pairs_of, left_of, right_of}
use Rattle.subsumption.specs.Atoms.{chosen}
use Rattle.subsumption.specs.Inner.Tables.{Rising}
use Rattle.subsumption.specs.Inner.Closure.{Ready}
use Rattle.subsumption.specs.Roles.{wider}
use Rattle.subsumption.specs.Rules.{every, contains, on_picked, on_both, on_inner, on_variable, by_rule, follows}
use Rattle.subsumption.proofs.Bools.{both_true, both-intro, same_bool}
use Rattle.subsumption.proofs.Chosen.{chosen-known}
use Rattle.subsumption.proofs.RuleTests.{every-elim, every-intro, contains-elim, onBoth-elim, onInner-elim, on_variable-elim}
use Rattle.matching.specs.Inner.Derivation.{Of}

picked-mono :
    (extra : ℕ) (p q : ℕ → Bool) (m : Node) → ((i j : ℕ) → m ≡ and_at i j → (p i ≡ true → q i ≡ true) × (p j ≡ true → q j ≡ true))
    → on_picked extra p m ≡ true → on_picked extra q m ≡ true
unfolding on_picked
picked-mono zero p q (and_at i j) f h = (f i j refl).0 h
picked-mono (suc zero) p q (and_at i j) f h = (f i j refl).1 h
picked-mono (suc (suc extra)) p q (and_at i j) f h = absurd (false≢true h)
picked-mono extra p q top_at f h = absurd (false≢true h)
picked-mono extra p q (name_at n) f h = absurd (false≢true h)
picked-mono extra p q (exists_at r j) f h = absurd (false≢true h)
picked-mono extra p q (var_at k) f h = absurd (false≢true h)

pub on_both-intro : (test : ℕ → Bool) (m : Node) (a b : ℕ) → m ≡ and_at a b → test a ≡ true → test b ≡ true → on_both test m ≡ true
unfolding on_both
on_both-intro test m a b e u v = rw e (both-intro _ _ u v)

pub on_inner-intro : (wide test : ℕ → ℕ → Bool) (m n : Node) (r s a b : ℕ) → m ≡ exists_at r a → n ≡ exists_at s b → wide r s ≡ true → test a b ≡ true → on_inner wide test m n ≡ true
unfolding on_inner
on_inner-intro wide test m n r s a b e f w u = rw (e, f) (both-intro _ _ w u)

pub on_variable-intro : (test : ℕ → Bool) (m : Node) (k : ℕ) → m ≡ var_at k → test k ≡ true → on_variable test m ≡ true
unfolding on_variable
on_variable-intro test m k e u = rw e u

-- the checks passed: what a line's test reads are ids
pub record Reads (t : Tables) : Type 0 where
  pub and_left : (i a b : ℕ) → i < count_of t.concepts → node t.concepts i ≡ and_at a b → a < count_of t.concepts
  pub and_right : (i a b : ℕ) → i < count_of t.concepts → node t.concepts i ≡ and_at a b → b < count_of t.concepts
  pub inner : (i r a : ℕ) → i < count_of t.concepts → node t.concepts i ≡ exists_at r a → a < count_of t.concepts
  pub left-known : (m : ℕ) → m < pairs_of t.inclusions → left_of t.inclusions m < count_of t.concepts
  pub right-known : (m : ℕ) → m < pairs_of t.inclusions → right_of t.inclusions m < count_of t.concepts

pub ready-reads : (t : Tables) (ids assignment : List ℕ) → Ready t.concepts t.inclusions ids assignment → Reads t
ready-reads t ids assignment r =
    record {
      and_left = λ i a b h e. omega (arith, (subst (Rising i) e (r.rising i h)).0);
      and_right = λ i a b h e. omega (arith, (subst (Rising i) e (r.rising i h)).1);
      inner = λ i s a h e. omega (arith, subst (Rising i) e (r.rising i h));
      left-known = r.left-known;
      right-known = r.right-known;
    }

pub of-reads : (t : Tables) (concepts inclusions into ids assignment : List ℕ) → Of t concepts inclusions into ids → Ready concepts inclusions ids assignment → Reads t
of-reads t concepts inclusions into ids assignment of r =
    ready-reads t ids assignment
    (subst (λ (z : List ℕ). Ready z t.inclusions ids assignment) (sym of.concepts-are)
    (subst (λ (z : List ℕ). Ready concepts z ids assignment) (sym of.inclusions-are) r))

module _ (t : Tables) (assignment : List ℕ) (reads : Reads t) (p q : ℕ → ℕ → Bool)
    (more : (i j : ℕ) → i < count_of t.concepts → j < count_of t.concepts → p i j ≡ true → q i j ≡ true) where
  module _ (i j : ℕ) (l : i < count_of t.concepts) (k : j < count_of t.concepts) where
    by_rule-mono : (rule extra : ℕ) → by_rule t assignment p rule i j extra ≡ true → by_rule t assignment q rule i j extra ≡ true
    unfolding by_rule
    by_rule-mono zero extra h = h
    by_rule-mono (suc zero) extra h = h
    by_rule-mono (suc (suc zero)) extra h = h
    by_rule-mono (suc (suc (suc zero))) extra h =
        picked-mono extra (λ a. p a j) (λ a. q a j) _
        (λ a b e. (more a j (reads.and_left i a b l e) k, more b j (reads.and_right i a b l e) k)) h
    by_rule-mono (suc (suc (suc (suc zero)))) extra h =
        let (z, s) = both_true _ _ h in
        let (a, b, e, u, v) = onBoth-elim _ _ s in
        both-intro _ _ z
        (on_both-intro (λ b. q i b) _ a b e (more i a l (reads.and_left j a b k e) u) (more i b l (reads.and_right j a b k e) v))
    by_rule-mono (suc (suc (suc (suc (suc zero))))) extra h =
        let (z, s) = both_true _ _ h in
        let (r, q', a, b, e, f, w, u) = onInner-elim (wider t.roles) p _ _ s in
        both-intro _ _ z
        (on_inner-intro (wider t.roles) q _ _ r q' a b e f w (more a b (reads.inner i r a l e) (reads.inner j q' b k f) u))
    by_rule-mono (suc (suc (suc (suc (suc (suc zero)))))) extra h =
        let (e, u) = both_true _ _ h in
        let (x, y) = both_true _ _ u in
        let m = ltb-true _ _ e in
        both-intro _ _ e (both-intro _ _ (more i _ l (reads.left-known extra m) x) (more _ j (reads.right-known extra m) k y))
    by_rule-mono (suc (suc (suc (suc (suc (suc (suc zero))))))) extra h =
        let (v, e, u) = on_variable-elim _ _ h in
        let (c, x) = both_true _ _ u in
        on_variable-intro (λ v. both (contains extra (chosen t assignment v)) (q extra j)) _ v e
        (both-intro _ _ c (more extra j (chosen-known t assignment v extra (contains-elim extra _ c)) k x))
    by_rule-mono (suc (suc (suc (suc (suc (suc (suc (suc zero)))))))) extra h =
        let (z, s) = both_true _ _ h in
        let (v, e, u) = on_variable-elim _ _ s in
        both-intro _ _ z
        (on_variable-intro (λ v. every (λ x. q i x) (chosen t assignment v)) _ v e
        (every-intro _ _ (λ x m. more i x l (chosen-known t assignment v x m) (every-elim _ _ u x m))))
    by_rule-mono (suc (suc (suc (suc (suc (suc (suc (suc (suc rule))))))))) extra h = h

  pub follows-mono : (rule left right extra : ℕ) → follows t assignment p rule left right extra ≡ true → follows t assignment q rule left right extra ≡ true
  unfolding follows
  follows-mono rule left right extra h =
      let (l, u) = both_true _ _ h in
      let (k, s) = both_true _ _ u in
      both-intro _ _ l (both-intro _ _ k (by_rule-mono left right (ltb-true _ _ l) (ltb-true _ _ k) rule extra s))

-- the same pairs of ids give the same answer
pub follows_same :
    (t : Tables) (assignment : List ℕ) → Reads t → (p q : ℕ → ℕ → Bool)
    → ((i j : ℕ) → i < count_of t.concepts → j < count_of t.concepts → p i j ≡ q i j)
    → (rule left right extra : ℕ) → follows t assignment p rule left right extra ≡ follows t assignment q rule left right extra
follows_same t assignment reads p q e rule left right extra =
    same_bool _ _ (follows-mono t assignment reads p q (λ i j l k h. sym (e i j l k) ∙ h) rule left right extra)
    (follows-mono t assignment reads q p (λ i j l k h. e i j l k ∙ h) rule left right extra)
