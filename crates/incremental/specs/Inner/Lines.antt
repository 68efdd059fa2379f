-- The lines of the eight rules, as laws of a relation on ids. A square's own marks have them once it is closed.
use Rattle.std.specs.Prelude.{ℕ, ◌<◌, ◌≡◌, Bool, true}
use mathlib.Core.List.{List, Memᴰ}
use Rattle.subsumption.specs.Tables.{Node, top_at, name_at, exists_at, and_at, var_at, node, count_of, pairs_of, left_of, right_of}

-- what x is below, y is below
abbrev pub Under : ℕ → (ℕ → ℕ → Bool) → ℕ → ℕ → Type 0
Under count R x y = (j : ℕ) → j < count → R x j ≡ true → R y j ≡ true

-- Rules 1 and 2 ask for no mark.
pub record StartLines (concepts : List ℕ) (R : ℕ → ℕ → Bool) : Type 0 where
  pub same : (i : ℕ) → i < count_of concepts → R i i ≡ true
  pub named :
      (i j n : ℕ) → i < count_of concepts → j < count_of concepts → node concepts i ≡ name_at n → node concepts j ≡ name_at n → R i j ≡ true
  pub top : (i j : ℕ) → i < count_of concepts → j < count_of concepts → node concepts j ≡ top_at → R i j ≡ true

-- Rules 3 and 7, at the row i: it is below what a member of an "and", or an atom chosen for a variable, is below.
abbrev pub InnerAt : ℕ → (ℕ → List ℕ) → (ℕ → ℕ → Bool) → ℕ → Node → Type 0
InnerAt count choose R i top_at = Unit {0}
InnerAt count choose R i (name_at n) = Unit {0}
InnerAt count choose R i (exists_at r x) = Unit {0}
InnerAt count choose R i (and_at a b) = Under count R a i × Under count R b i
InnerAt count choose R i (var_at k) = (p : ℕ) → Memᴰ p (choose k) → Under count R p i

-- Rules 4 and 8, at the column j: below it is what is below both members, or all chosen atoms.
abbrev pub MeetAt : ℕ → (ℕ → List ℕ) → (ℕ → ℕ → Bool) → ℕ → Node → Type 0
MeetAt count choose R j top_at = Unit {0}
MeetAt count choose R j (name_at n) = Unit {0}
MeetAt count choose R j (exists_at r x) = Unit {0}
MeetAt count choose R j (and_at a b) = (i : ℕ) → i < count → R i a ≡ true → R i b ≡ true → R i j ≡ true
MeetAt count choose R j (var_at k) = (i : ℕ) → i < count → ((p : ℕ) → Memᴰ p (choose k) → R i p ≡ true) → R i j ≡ true

abbrev pub InnerLines : List ℕ → (ℕ → List ℕ) → (ℕ → ℕ → Bool) → Type 0
InnerLines concepts choose R = (i : ℕ) → i < count_of concepts → InnerAt (count_of concepts) choose R i (node concepts i)

abbrev pub MeetLines : List ℕ → (ℕ → List ℕ) → (ℕ → ℕ → Bool) → Type 0
MeetLines concepts choose R = (j : ℕ) → j < count_of concepts → MeetAt (count_of concepts) choose R j (node concepts j)

-- Rule 6, at the row i.
abbrev pub IncludeAt : ℕ → List ℕ → (ℕ → ℕ → Bool) → ℕ → Type 0
IncludeAt count inclusions R i =
    (m : ℕ) → m < pairs_of inclusions → R i (left_of inclusions m) ≡ true → Under count R (right_of inclusions m) i

abbrev pub IncludeLines : ℕ → List ℕ → (ℕ → ℕ → Bool) → Type 0
IncludeLines count inclusions R = (i : ℕ) → i < count → IncludeAt count inclusions R i

-- Rule 5, at the column f.
abbrev pub LinkAt : List ℕ → (ℕ → ℕ → Bool) → (ℕ → ℕ → Bool) → ℕ → Type 0
LinkAt concepts wide R f =
    (e r s x y : ℕ) → e < count_of concepts → node concepts e ≡ exists_at r x → node concepts f ≡ exists_at s y → wide r s ≡ true
    → R x y ≡ true
    → R e f ≡ true

abbrev pub LinkLines : List ℕ → (ℕ → ℕ → Bool) → (ℕ → ℕ → Bool) → Type 0
LinkLines concepts wide R = (f : ℕ) → f < count_of concepts → LinkAt concepts wide R f

-- all of them
pub record Lines (concepts inclusions : List ℕ) (wide : ℕ → ℕ → Bool) (choose : ℕ → List ℕ) (R : ℕ → ℕ → Bool) : Type 0 where
  pub start : StartLines concepts R
  pub inner : InnerLines concepts choose R
  pub meet : MeetLines concepts choose R
  pub include : IncludeLines (count_of concepts) inclusions R
  pub link : LinkLines concepts wide R
