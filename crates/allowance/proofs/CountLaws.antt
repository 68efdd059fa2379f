-- There is a count and no second one, and it is over every allowance that it exceeds.
use Prim.Native.Nat.{ℕ, suc, ◌<◌, ◌≤◌}
use mathlib.Core.Path.{◌≡◌, refl, sym, ap, subst}
use mathlib.Core.List.{List, [], ◌∷◌, ◌++◌, Memᴰ}
use mathlib.Core.Bool.{Bool}
use mathlib.Core.Logic.{⊎_elim}
use native.Mathlib.Omega.{arith}
use lib.ListN.{length}
use Rattle.subsumption.specs.Tables.{Tables}
use Rattle.subsumption.proofs.Bools.{le-or-lt}
use Rattle.settings.specs.Settings.{Settings}
use Rattle.allowance.specs.Partial.{pairs, Open, all_partials}
use Rattle.allowance.specs.Count.{Stretch, none, opened, shut, CountOf, answered, unanswered, Exceeds}
use Rattle.allowance.proofs.OrderLaws.{partials-short}

-- Answered or not: so many open ones of a list up to and including its first answer, or all of them.
data Met (t : Tables) (settings : Settings) : List (List Bool) → ℕ → Type 0 where
  met-none : Met t settings [] 0
  met-answer : (s : List Bool) (rest : List (List Bool)) → length s ≡ pairs t → Open t settings s → Met t settings (s ∷ rest) 1
  met-open :
      (s : List Bool) (rest : List (List Bool)) (n : ℕ) → length s < pairs t → Open t settings s → Met t settings rest n
      → Met t settings (s ∷ rest) (suc n)
  met-shut : (s : List Bool) (rest : List (List Bool)) (n : ℕ) → (Open t settings s → ⊥) → Met t settings rest n → Met t settings (s ∷ rest) n

module _ (t : Tables) (settings : Settings) where
  met_all : (xs : List (List Bool)) (n : ℕ) → Stretch t settings xs n → Met t settings xs n
  met_all xs n none = met-none
  met_all xs n (opened s rest m l o x) = met-open s rest m l o (met_all rest m x)
  met_all xs n (shut s rest m o x) = met-shut s rest n o (met_all rest m x)

  met-first :
      (xs : List (List Bool)) (s : List Bool) (after : List (List Bool)) (n : ℕ) → length s ≡ pairs t → Open t settings s → Stretch t settings xs n
      → Met t settings (xs ++ (s ∷ after)) (suc n)
  met-first xs s after n w a none = met-answer s after w a
  met-first xs s after n w a (opened y rest m l o x) = met-open y _ (suc m) l o (met-first rest s after m w a x)
  met-first xs s after n w a (shut y rest m o x) = met-shut y _ (suc m) o (met-first rest s after m w a x)

  count-met : (n : ℕ) → CountOf t settings n → Met t settings (all_partials t) n
  count-met n (answered m s a) =
      subst (λ (z : List (List Bool)). Met t settings z (suc m)) (sym a.order) (met-first _ s _ m a.whole a.is_open a.stretch)
  count-met n (unanswered m x) = met_all _ m x

  met-unique : (xs : List (List Bool)) (m n : ℕ) → Met t settings xs m → Met t settings xs n → m ≡ n
  met-unique xs m n met-none met-none = refl
  met-unique xs m n (met-answer s rest w o) (met-answer s₁ rest₁ w₁ o₁) = refl
  met-unique xs m n (met-answer s rest w o) (met-open s₁ rest₁ k l o₁ x) = absurd (omega arith)
  met-unique xs m n (met-answer s rest w o) (met-shut s₁ rest₁ k o₁ x) = absurd (o₁ o)
  met-unique xs m n (met-open s rest k l o x) (met-answer s₁ rest₁ w o₁) = absurd (omega arith)
  met-unique xs m n (met-open s rest k l o x) (met-open s₁ rest₁ k₁ l₁ o₁ x₁) = ap suc (met-unique rest k k₁ x x₁)
  met-unique xs m n (met-open s rest k l o x) (met-shut s₁ rest₁ k₁ o₁ x₁) = absurd (o₁ o)
  met-unique xs m n (met-shut s rest k o x) (met-answer s₁ rest₁ w o₁) = absurd (o o₁)
  met-unique xs m n (met-shut s rest k o x) (met-open s₁ rest₁ k₁ l₁ o₁ x₁) = absurd (o o₁)
  met-unique xs m n (met-shut s rest k o x) (met-shut s₁ rest₁ k₁ o₁ x₁) = met-unique rest k k₁ x x₁

  met-more :
      (before : List (List Bool)) (here : List Bool) (after : List (List Bool)) (m n : ℕ) → Open t settings here → Stretch t settings before m
      → Met t settings (before ++ (here ∷ after)) n → m < n
  met-more before here after m n a none (met-answer s rest w o) = omega arith
  met-more before here after m n a none (met-open s rest k l o x) = omega arith
  met-more before here after m n a none (met-shut s rest k o x) = absurd (o a)
  met-more before here after m n a (opened s rest k l o y) (met-answer s₁ rest₁ w o₁) = absurd (omega arith)
  met-more before here after m n a (opened s rest k l o y) (met-open s₁ rest₁ k₁ l₁ o₁ x) = omega (arith, met-more rest here after k k₁ a y x)
  met-more before here after m n a (opened s rest k l o y) (met-shut s₁ rest₁ k₁ o₁ x) = absurd (o₁ o)
  met-more before here after m n a (shut s rest k o y) (met-answer s₁ rest₁ w o₁) = absurd (o o₁)
  met-more before here after m n a (shut s rest k o y) (met-open s₁ rest₁ k₁ l o₁ x) = absurd (o o₁)
  met-more before here after m n a (shut s rest k o y) (met-shut s₁ rest₁ k₁ o₁ x) = met-more rest here after k k₁ a y x

  pub count-unique : (m n : ℕ) → CountOf t settings m → CountOf t settings n → m ≡ n
  count-unique m n a b = met-unique _ m n (count-met m a) (count-met n b)

  pub exceeds-less : (allowance n : ℕ) → Exceeds t settings allowance → CountOf t settings n → allowance < n
  exceeds-less allowance n e a =
      met-more e.before e.here e.after allowance n e.is_open e.stretch
      (subst (λ (z : List (List Bool)). Met t settings z n) e.order (count-met n a))

-- ---- there is a count: what is open is not decided here, so this is said of what would follow if there were none
record FirstIn (t : Tables) (settings : Settings) (xs : List (List Bool)) (n : ℕ) : Type 0 where
  before : List (List Bool)
  here : List Bool
  after : List (List Bool)
  order : xs ≡ before ++ (here ∷ after)
  stretch : Stretch t settings before n
  whole : length here ≡ pairs t
  is_open : Open t settings here

by_size : (m n : ℕ) → m ≤ n → (m < n → ⊥) → (m ≡ n → ⊥) → ⊥
by_size m n h less same = ⊎_elim (λ l. same (omega arith)) less (le-or-lt n m)

module _ (t : Tables) (settings : Settings) where
  first-here : (s : List Bool) (xs : List (List Bool)) → length s ≡ pairs t → Open t settings s → FirstIn t settings (s ∷ xs) 0
  first-here s xs w o = record { before = []; here = s; after = xs; order = refl; stretch = none; whole = w; is_open = o }

  first-behind :
      (s : List Bool) (xs : List (List Bool)) (m n : ℕ) (f : FirstIn t settings xs n) → Stretch t settings (s ∷ f.before) m
      → FirstIn t settings (s ∷ xs) m
  first-behind s xs m n f x =
      record {
        before = s ∷ f.before;
        here = f.here;
        after = f.after;
        order = ap (λ (z : List (List Bool)). s ∷ z) f.order;
        stretch = x;
        whole = f.whole;
        is_open = f.is_open;
      }

  ends :
      (xs : List (List Bool)) → ((x : List Bool) → Memᴰ x xs → length x ≤ pairs t) → ((n : ℕ) → Stretch t settings xs n → ⊥)
      → ((n : ℕ) → FirstIn t settings xs n → ⊥) → ⊥
  ends [] short k l = k 0 none
  ends (s ∷ xs) short k l =
      let size = by_size (length s) (pairs t) (short s (Memᴰ.head refl)) in
      ends xs (λ x m. short x (Memᴰ.tail m))
      (λ n x.
      let is-shut : Open t settings s → ⊥ = λ o. size (λ less. k (suc n) (opened s xs n less o x)) (λ w. l 0 (first-here s xs w o)) in
      k n (shut s xs n is-shut x))
      (λ n f.
      let is-shut : Open t settings s → ⊥ =
      λ o. size (λ less. l (suc n) (first-behind s xs (suc n) n f (opened s _ n less o f.stretch))) (λ w. l 0 (first-here s xs w o)) in
      l n (first-behind s xs n n f (shut s _ n is-shut f.stretch)))

  pub count-exists : ((n : ℕ) → CountOf t settings n → ⊥) → ⊥
  unfolding all_partials
  count-exists k =
      ends (all_partials t) (λ x m. omega (arith, partials-short (pairs t) [] x m)) (λ n x. k n (unanswered n x))
      (λ n f.
      k (suc n)
      (answered n f.here
      (record { before = f.before; after = f.after; order = f.order; stretch = f.stretch; whole = f.whole; is_open = f.is_open })))
