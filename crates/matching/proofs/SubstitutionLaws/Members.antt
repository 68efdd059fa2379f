-- Membership of a concept in an interpretation, as a test.
use Prim.Native.Nat.{ℕ}
use mathlib.Core.Path.{◌≡◌, refl, sym}
use mathlib.Core.List.Memᴰ
use mathlib.Core.List.{List, [], ◌∷◌, Memᴰ}
use mathlib.Core.Bool.{Bool, true, false, false≢true}
use mathlib.Core.Logic.{⊎_elim}
use lib.Dec.{eqb, ltb}
use borrow.Author.Tests.{eqb-true, eq-eqb, ltb-true, lt-ltb}
use Rattle.subsumption.specs.Tables.{or, both, Concept, top, name, exists, and, var}
use Rattle.subsumption.specs.Subsumption.{Interpretation, Member, no_variables}
use Rattle.subsumption.proofs.Bools.{or_cases, or-first, or-second, both_true, both-intro}

module _ {A : Type 0} (test : A → Bool) where
  unfoldable pub any_in : List A → Bool
  any_in [] = false
  any_in (a ∷ list) = or (test a) (any_in list)

  pub any_in-intro : {a : A} {list : List A} → Memᴰ a list → test a ≡ true → any_in list ≡ true
  unfolding any_in
  any_in-intro (Memᴰ.head e) h = or-first _ _ (rw e at h)
  any_in-intro (Memᴰ.tail m) h = or-second _ _ (any_in-intro m h)

  pub any_in-elim : (list : List A) → any_in list ≡ true → (a : A) × Memᴰ a list × (test a ≡ true)
  unfolding any_in
  any_in-elim [] h = absurd (false≢true h)
  any_in-elim (a ∷ list) h =
      ⊎_elim (λ e. (a, Memᴰ.head refl, e)) (λ e. let (b, m, p) = any_in-elim list e in (b, Memᴰ.tail m, p)) (or_cases _ _ h)

unfoldable pub is_member : Interpretation → Concept → ℕ → Bool
is_member I top x = true
is_member I (name n) x = any_in (λ o. both (eqb o.element x) (eqb o.name n)) I.names
is_member I (exists r c) x =
    any_in (λ o. both (eqb o.from x) (both (eqb o.role r) (both (ltb o.to I.size) (is_member I c o.to)))) I.links
is_member I (and c d) x = both (is_member I c x) (is_member I d x)
is_member I (var k) x = true

pub member-test : (I : Interpretation) (c : Concept) (x : ℕ) → Member I no_variables c x → is_member I c x ≡ true
unfolding is_member
member-test I top x h = refl
member-test I (name n) x h = any_in-intro _ h (both-intro _ _ (eq-eqb x x refl) (eq-eqb n n refl))
member-test I (exists r c) x (y, l, k, h) =
    any_in-intro _ k (both-intro _ _ (eq-eqb x x refl) (both-intro _ _ (eq-eqb r r refl) (both-intro _ _ (lt-ltb _ _ l) (member-test I c y h))))
member-test I (and c d) x (h, k) = both-intro _ _ (member-test I c x h) (member-test I d x k)
member-test I (var k) x h = refl

pub test-member : (I : Interpretation) (c : Concept) (x : ℕ) → is_member I c x ≡ true → Member I no_variables c x
unfolding is_member
test-member I top x h = tt
test-member I (name n) x h =
    let (o, m, e) = any_in-elim _ _ h in
    let (p, q) = both_true _ _ e in
    let p' = eqb-true _ _ p in
    let q' = eqb-true _ _ q in
    Memᴰ.cast (λ i. record { element = sym p' i; name = sym q' i }) m
test-member I (exists r c) x h =
    let (o, m, e) = any_in-elim _ _ h in
    let (p, e') = both_true _ _ e in
    let (q, e'') = both_true _ _ e' in
    let (l, u) = both_true _ _ e'' in
    let p' = eqb-true _ _ p in
    let q' = eqb-true _ _ q in
    (o.to, ltb-true _ _ l, Memᴰ.cast (λ i. record { from = sym p' i; role = sym q' i; to = o.to }) m, test-member I c o.to u)
test-member I (and c d) x h = (test-member I c x (both_true _ _ h).0, test-member I d x (both_true _ _ h).1)
test-member I (var k) x h = tt
