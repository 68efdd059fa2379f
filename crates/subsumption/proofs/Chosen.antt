-- Members of what `pick` picks, and so of the chosen ids.
use Prim.Native.Nat.{ℕ, zero, suc, ◌/◌, ◌<◌, ◌≤◌}
use mathlib.Core.Path.{◌≡◌, refl, sym, ap, ◌∙◌}
use mathlib.Core.List.Memᴰ
use mathlib.Core.List.{List, [], ◌∷◌, Memᴰ}
use mathlib.Core.Bool.{Bool, true, false}
use mathlib.Core.Logic.{⊎_elim}
use native.Mathlib.Omega.{arith}
use lib.ListN.{length, get_or}
use Rattle.subsumption.specs.Tables.{Tables, count_of}
use Rattle.subsumption.specs.Atoms.{keep, atoms, bit, pick, chosen}
pub use Rattle.subsumption.proofs.Bits.{bit-half}
use Rattle.subsumption.proofs.WellFormed.{WellFormed}
use Rattle.subsumption.proofs.Inward.{Ground}
use Rattle.subsumption.proofs.Keep.{keep-member}
use Rattle.subsumption.proofs.AtomLaws.{atom-known, atom-ground}

pub record Picked (xs : List ℕ) (choice p : ℕ) : Type 0 where
  pub place : ℕ
  pub known : place < length xs
  pub chosen : bit choice place ≡ true
  pub here : get_or xs place 0 ≡ p

pub pick-member : (xs : List ℕ) (choice p : ℕ) → Memᴰ p (pick xs choice) → Picked xs choice p
unfolding pick
pick-member [] choice p h = absurd (Memᴰ.not-nil h)
pick-member (x ∷ xs) choice p h = go (λ m. later (pick-member xs (choice / 2) p m)) (bit choice 0) refl
  where
    later : Picked xs (choice / 2) p → Picked (x ∷ xs) choice p
    later k = record { place = suc k.place; known = omega arith; chosen = sym (bit-half choice k.place) ∙ k.chosen; here = k.here }

    go : (Memᴰ p (pick xs (choice / 2)) → Picked (x ∷ xs) choice p) → (b : Bool) → bit choice 0 ≡ b → Picked (x ∷ xs) choice p
    go rest true e =
        ⊎_elim (λ (s : p ≡ x). record { place = 0; known = omega arith; chosen = e; here = sym s }) rest (Memᴰ.cases_cons (rw e at h))
    go rest false e = rest (rw e at h)

pub pick_intro : (xs : List ℕ) (choice p : ℕ) → Picked xs choice p → Memᴰ p (pick xs choice)
unfolding pick
pick_intro xs choice p k = go xs choice k.place k.known k.chosen k.here
  where
    go : (xs : List ℕ) (choice q : ℕ) → q < length xs → bit choice q ≡ true → get_or xs q 0 ≡ p → Memᴰ p (pick xs choice)
    go [] choice q l b e = absurd (omega arith)
    go (x ∷ xs) choice zero l b e = rw b (Memᴰ.head (sym e))
    go (x ∷ xs) choice (suc q) l b e = on (go xs (choice / 2) q (omega arith) (bit-half choice q ∙ b) e) (bit choice 0) refl
      where
        on : Memᴰ p (pick xs (choice / 2)) → (c : Bool) → bit choice 0 ≡ c → Memᴰ p (pick (x ∷ xs) choice)
        on m true c = rw c (Memᴰ.tail m)
        on m false c = rw c m

pub get_or-member : (xs : List ℕ) (q : ℕ) → q < length xs → Memᴰ (get_or xs q 0) xs
get_or-member [] q l = absurd (omega arith)
get_or-member (x ∷ xs) zero l = Memᴰ.head refl
get_or-member (x ∷ xs) (suc q) l = Memᴰ.tail (get_or-member xs q (omega arith))

member-from : (test : ℕ → Bool) (from count q : ℕ) → q < length (keep test from count) → from ≤ get_or (keep test from count) q 0
member-from test from count q l = (keep-member test from count _ (get_or-member (keep test from count) q l)).low

-- What is kept stands there once.
pub keep-distinct :
    (test : ℕ → Bool) (from count p q : ℕ) → p < length (keep test from count) → q < length (keep test from count)
    → get_or (keep test from count) p 0 ≡ get_or (keep test from count) q 0 → p ≡ q
unfolding keep
keep-distinct test from zero p q l h e = absurd (omega arith)
keep-distinct test from (suc count) p q l h e = go (keep-distinct test (suc from) count) (test from) refl
  where
    Distinct : List ℕ → Type 0
    Distinct xs = (p q : ℕ) → p < length xs → q < length xs → get_or xs p 0 ≡ get_or xs q 0 → p ≡ q

    first : Distinct (keep test (suc from) count) → Distinct (from ∷ keep test (suc from) count)
    first rest zero zero l h e = refl
    first rest zero (suc q) l h e = absurd (omega (arith, member-from test (suc from) count q (omega arith)))
    first rest (suc p) zero l h e = absurd (omega (arith, member-from test (suc from) count p (omega arith)))
    first rest (suc p) (suc q) l h e = ap suc (rest p q (omega arith) (omega arith) e)

    go : Distinct (keep test (suc from) count) → (b : Bool) → test from ≡ b → p ≡ q
    go rest true u = first rest p q (rw u at l) (rw u at h) (rw u at e)
    go rest false u = rest p q (rw u at l) (rw u at h) (rw u at e)

pub atoms-distinct : (t : Tables) (p q : ℕ) → p < length (atoms t) → q < length (atoms t) → get_or (atoms t) p 0 ≡ get_or (atoms t) q 0 → p ≡ q
unfolding atoms
atoms-distinct t p q = keep-distinct _ 0 (count_of t.concepts) p q

module _ (t : Tables) (assignment : List ℕ) (k p : ℕ) where
  pub chosen-atom : Memᴰ p (chosen t assignment k) → Memᴰ p (atoms t)
  unfolding chosen
  chosen-atom h =
      let c = pick-member (atoms t) (get_or assignment k 0) p h in
      Memᴰ.cast (sym c.here) (get_or-member (atoms t) c.place c.known)

  pub chosen-known : Memᴰ p (chosen t assignment k) → p < count_of t.concepts
  chosen-known h = atom-known t p (chosen-atom h)

  pub chosen-ground : WellFormed t → Memᴰ p (chosen t assignment k) → Ground t.concepts p
  chosen-ground wf h = atom-ground t p wf (chosen-atom h)
