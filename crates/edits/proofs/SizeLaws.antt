-- The size of a choice is told by the chosen ids, wherever their bits stand.
use Rattle.subsumption.specs.Refusal.{Done}
use Prim.Native.Nat.{ℕ, zero, suc, ◌/◌, ◌^◌, ◌<◌, ◌≤◌}
use mathlib.Core.Path.{◌≡◌, refl, sym, subst}
use mathlib.Core.List.Memᴰ
use mathlib.Core.List.{List, [], ◌∷◌, Memᴰ}
use mathlib.Core.Bool.{Bool, true, false}
use mathlib.Core.Logic.{⊎_elim}
use native.Mathlib.Omega.{arith}
use lib.Pow.{pow_mono}
use lib.ListN.{length, get_or}
use Rattle.subsumption.specs.Tables.{Tables, count_of}
use Rattle.subsumption.specs.Atoms.{is_atom, keep, atoms, bit, pick, chosen}
use Rattle.subsumption.specs.Check.{table_fault, assignment_fault}
use Rattle.subsumption.proofs.Accepted.{well_formed}
use Rattle.settings.specs.Settings.{size}
use Rattle.settings.proofs.SizeLaws.{ones-size}
use Rattle.matching.proofs.SearchLaws.Fronts.{accepted-below}
use Rattle.matching.proofs.ChosenLaws.Faults.{chosen-ones}

-- ---- rising lists
abbrev Rises : ℕ → List ℕ → Type 0
Rises from [] = Unit {0}
Rises from (x ∷ xs) = (from ≤ x) × Rises (suc x) xs

rises-lower : (from to : ℕ) (xs : List ℕ) → from ≤ to → Rises to xs → Rises from xs
rises-lower from to [] l h = h
rises-lower from to (x ∷ xs) l (k, h) = (omega arith, h)

rises-member : (from : ℕ) (xs : List ℕ) (p : ℕ) → Rises from xs → Memᴰ p xs → from ≤ p
rises-member from [] p h m = absurd (Memᴰ.not-nil m)
rises-member from (x ∷ xs) p (l, h) m =
    ⊎_elim (λ (e : p ≡ x). omega arith) (λ n. omega (arith, rises-member (suc x) xs p h n)) (Memᴰ.cases_cons m)

-- one whose members are among another's is no longer
rises-among :
    (from : ℕ) (xs ys : List ℕ) → Rises from xs → Rises from ys → ((p : ℕ) → Memᴰ p xs → Memᴰ p ys) → length xs ≤ length ys
rises-among from [] ys h k among = omega arith
rises-among from (x ∷ xs) [] h k among = absurd (Memᴰ.not-nil (among x (Memᴰ.head refl)))
rises-among from (x ∷ xs) (y ∷ ys) (l, h) (u, k) among =
    ⊎_elim
    (λ (e : x ≡ y).
    omega (
      arith,
      rises-among (suc x) xs ys h (subst (λ (z : ℕ). Rises (suc z) ys) (sym e) k)
          (λ p m. ⊎_elim (λ (f : p ≡ y). absurd (omega (arith, rises-member (suc x) xs p h m))) (λ n. n) (Memᴰ.cases_cons (among p (Memᴰ.tail m)))),
    ))
    (λ n.
    let v = rises-member (suc y) ys x k n in
    omega (
      arith,
      rises-among (suc y) (x ∷ xs) ys (v, h) k
          (λ p m. ⊎_elim (λ (f : p ≡ y). absurd (omega (arith, rises-member (suc y) (x ∷ xs) p (v, h) m))) (λ n. n) (Memᴰ.cases_cons (among p m))),
    ))
    (Memᴰ.cases_cons (among x (Memᴰ.head refl)))

keep-rises : (test : ℕ → Bool) (from count : ℕ) → Rises from (keep test from count)
unfolding keep
keep-rises test from zero = tt
keep-rises test from (suc count) = go (keep-rises test (suc from) count) (test from) refl
  where
    go : Rises (suc from) (keep test (suc from) count) → (b : Bool) → test from ≡ b → Rises from (keep test from (suc count))
    go rest true e = rw e (omega arith, rest)
    go rest false e = rw e (rises-lower from (suc from) (keep test (suc from) count) (omega arith) rest)

pick-rises : (from : ℕ) (xs : List ℕ) (choice : ℕ) → Rises from xs → Rises from (pick xs choice)
unfolding pick
pick-rises from [] choice h = tt
pick-rises from (x ∷ xs) choice (l, h) = go (pick-rises (suc x) xs (choice / 2) h) (bit choice 0) refl
  where
    go : Rises (suc x) (pick xs (choice / 2)) → (b : Bool) → bit choice 0 ≡ b → Rises from (pick (x ∷ xs) choice)
    go rest true e = rw e (l, rest)
    go rest false e = rw e (rises-lower from (suc x) (pick xs (choice / 2)) (omega arith) rest)

-- ---- the chosen ids
chosen-rises : (t : Tables) (a : List ℕ) (k : ℕ) → Rises 0 (chosen t a k)
unfolding chosen atoms
chosen-rises t a k = pick-rises 0 (atoms t) (get_or a k 0) (keep-rises (is_atom t) 0 (count_of t.concepts))

chosen-size :
    (t : Tables) (a : List ℕ) (k : ℕ) → table_fault t ≡ Done → assignment_fault t a ≡ Done → k < t.variables → length (chosen t a k) ≡ size (get_or a k 0)
chosen-size t a k ok accepted l =
    let few : get_or a k 0 < 2 ^ 64 = omega (arith, accepted-below t a accepted k l, pow_mono (well_formed t ok).few-atoms) in
    omega (arith, chosen-ones t a k accepted l, ones-size (get_or a k 0) few)

-- An assignment that chooses some of another's ids takes no more atoms.
pub fewer-chosen :
    (t₀ t : Tables) (a b : List ℕ) (k : ℕ) → table_fault t₀ ≡ Done → table_fault t ≡ Done → assignment_fault t₀ a ≡ Done → assignment_fault t b ≡ Done
    → k < t₀.variables → k < t.variables → ((p : ℕ) → Memᴰ p (chosen t b k) → Memᴰ p (chosen t₀ a k))
    → size (get_or b k 0) ≤ size (get_or a k 0)
fewer-chosen t₀ t a b k ok₀ ok accepted₀ accepted l₀ l among =
    omega (
      arith,
      chosen-size t₀ a k ok₀ accepted₀ l₀,
      chosen-size t b k ok accepted l,
      rises-among 0 (chosen t b k) (chosen t₀ a k) (chosen-rises t b k) (chosen-rises t₀ a k) among,
    )
