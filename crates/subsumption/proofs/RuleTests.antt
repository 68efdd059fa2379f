-- What the tests behind the rules say of lists and of rows.
use Prim.Native.Nat.{ℕ, zero, suc}
use mathlib.Core.Path.{◌≡◌, refl, sym, ap, ◌∙◌}
use mathlib.Core.List.Memᴰ
use mathlib.Core.List.{List, [], ◌∷◌, Memᴰ}
use mathlib.Core.Bool.{Bool, true, false≢true}
use mathlib.Core.Logic.{◌⊎◌, inl, inr, ⊎_elim}
use borrow.Author.Tests.{eqb-true, eq-eqb}
use Rattle.subsumption.specs.Tables.{Node, top_at, name_at, exists_at, and_at, var_at}
use Rattle.subsumption.specs.Rules.{every, contains, same_name, is_top, on_picked, on_both, on_inner, on_variable}
use Rattle.subsumption.proofs.Bools.{or_cases, or-first, or-second, both_true, both-intro}

pub every-elim : (test : ℕ → Bool) (xs : List ℕ) → every test xs ≡ true → (p : ℕ) → Memᴰ p xs → test p ≡ true
unfolding every
every-elim test [] h p m = absurd (Memᴰ.not-nil m)
every-elim test (x ∷ xs) h p m =
    let (here, rest) = both_true (test x) _ h in
    ⊎_elim (λ (e : p ≡ x). ap test e ∙ here) (every-elim test xs rest p) (Memᴰ.cases_cons m)

pub every-intro : (test : ℕ → Bool) (xs : List ℕ) → ((p : ℕ) → Memᴰ p xs → test p ≡ true) → every test xs ≡ true
unfolding every
every-intro test [] h = refl
every-intro test (x ∷ xs) h = both-intro _ _ (h x (Memᴰ.head refl)) (every-intro test xs (λ p m. h p (Memᴰ.tail m)))

pub contains-elim : (a : ℕ) (xs : List ℕ) → contains a xs ≡ true → Memᴰ a xs
unfolding contains
contains-elim a [] h = absurd (false≢true h)
contains-elim a (x ∷ xs) h = ⊎_elim (λ e. Memᴰ.head (eqb-true a x e)) (λ r. Memᴰ.tail (contains-elim a xs r)) (or_cases _ _ h)

pub contains-intro : {a : ℕ} {xs : List ℕ} → Memᴰ a xs → contains a xs ≡ true
unfolding contains
contains-intro {a} (Memᴰ.head {x} e) = or-first _ _ (eq-eqb a x e)
contains-intro (Memᴰ.tail m) = or-second _ _ (contains-intro m)

-- What each test says of the rows that pass it.
pub same_name-elim : (a b : Node) → same_name a b ≡ true → (n : ℕ) × (a ≡ name_at n) × (b ≡ name_at n)
unfolding same_name
same_name-elim (name_at n) (name_at m) h = (n, refl, ap name_at (sym (eqb-true n m h)))
same_name-elim (name_at n) top_at h = absurd (false≢true h)
same_name-elim (name_at n) (exists_at r j) h = absurd (false≢true h)
same_name-elim (name_at n) (and_at i j) h = absurd (false≢true h)
same_name-elim (name_at n) (var_at k) h = absurd (false≢true h)
same_name-elim top_at b h = absurd (false≢true h)
same_name-elim (exists_at r i) b h = absurd (false≢true h)
same_name-elim (and_at i j) b h = absurd (false≢true h)
same_name-elim (var_at k) b h = absurd (false≢true h)

pub is_top-elim : (a : Node) → is_top a ≡ true → a ≡ top_at
unfolding is_top
is_top-elim top_at h = refl
is_top-elim (name_at n) h = absurd (false≢true h)
is_top-elim (exists_at r j) h = absurd (false≢true h)
is_top-elim (and_at i j) h = absurd (false≢true h)
is_top-elim (var_at k) h = absurd (false≢true h)

pub onPicked-elim :
    (extra : ℕ) (test : ℕ → Bool) (a : Node) → on_picked extra test a ≡ true
    → (i : ℕ) × (j : ℕ) × (a ≡ and_at i j) × ((test i ≡ true) ⊎ (test j ≡ true))
unfolding on_picked
onPicked-elim zero test (and_at i j) h = (i, j, refl, inl h)
onPicked-elim (suc zero) test (and_at i j) h = (i, j, refl, inr h)
onPicked-elim (suc (suc extra)) test (and_at i j) h = absurd (false≢true h)
onPicked-elim extra test top_at h = absurd (false≢true h)
onPicked-elim extra test (name_at n) h = absurd (false≢true h)
onPicked-elim extra test (exists_at r j) h = absurd (false≢true h)
onPicked-elim extra test (var_at k) h = absurd (false≢true h)

pub onBoth-elim :
    (test : ℕ → Bool) (a : Node) → on_both test a ≡ true → (i : ℕ) × (j : ℕ) × (a ≡ and_at i j) × (test i ≡ true) × (test j ≡ true)
unfolding on_both
onBoth-elim test (and_at i j) h = let (p, q) = both_true _ _ h in (i, j, refl, p, q)
onBoth-elim test top_at h = absurd (false≢true h)
onBoth-elim test (name_at n) h = absurd (false≢true h)
onBoth-elim test (exists_at r j) h = absurd (false≢true h)
onBoth-elim test (var_at k) h = absurd (false≢true h)

pub onInner-elim :
    (wide test : ℕ → ℕ → Bool) (a b : Node) → on_inner wide test a b ≡ true
    → (r : ℕ) × (s : ℕ) × (i : ℕ) × (j : ℕ) × (a ≡ exists_at r i) × (b ≡ exists_at s j) × (wide r s ≡ true) × (test i j ≡ true)
unfolding on_inner
onInner-elim wide test (exists_at r i) (exists_at s j) h =
    let (e, k) = both_true _ _ h in
    (r, s, i, j, refl, refl, e, k)
onInner-elim wide test (exists_at r i) top_at h = absurd (false≢true h)
onInner-elim wide test (exists_at r i) (name_at n) h = absurd (false≢true h)
onInner-elim wide test (exists_at r i) (and_at j k) h = absurd (false≢true h)
onInner-elim wide test (exists_at r i) (var_at k) h = absurd (false≢true h)
onInner-elim wide test top_at b h = absurd (false≢true h)
onInner-elim wide test (name_at n) b h = absurd (false≢true h)
onInner-elim wide test (and_at i j) b h = absurd (false≢true h)
onInner-elim wide test (var_at k) b h = absurd (false≢true h)

pub on_variable-elim : (test : ℕ → Bool) (a : Node) → on_variable test a ≡ true → (k : ℕ) × (a ≡ var_at k) × (test k ≡ true)
unfolding on_variable
on_variable-elim test (var_at k) h = (k, refl, h)
on_variable-elim test top_at h = absurd (false≢true h)
on_variable-elim test (name_at n) h = absurd (false≢true h)
on_variable-elim test (exists_at r j) h = absurd (false≢true h)
on_variable-elim test (and_at i j) h = absurd (false≢true h)
