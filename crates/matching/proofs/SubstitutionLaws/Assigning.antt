-- Assignments from decided bits.
use Prim.Native.Nat.{ℕ, zero, suc, ◌+◌, ◌*◌, ◌/◌, ◌%◌, ◌^◌, ◌<◌, ◌≤◌}
use mathlib.Core.Path.{◌≡◌, refl, sym, ap, ◌∙◌}
use mathlib.Core.List.{List, [], ◌∷◌}
use mathlib.Core.Bool.{Bool, true, false, not}
use native.Mathlib.Omega.{arith}
use native.Mathlib.Nat.{pow-suc}
use lib.Dec.{eqb, ltb}
use lib.ListN.{length, get_or}
use borrow.Author.Tests.{eq-eqb, eqb-true, lt-ltb, not-false}
use Rattle.subsumption.specs.declared.refusal.Refusal.{Refusal}
use Rattle.subsumption.specs.Refusal.{or_else, refuse_if, first_at, Done}
use Rattle.subsumption.specs.Tables.{Tables}
use Rattle.subsumption.specs.Atoms.{atoms, bit}
use Rattle.subsumption.specs.Check.{assignment_fault, assignment_fault_at}
use Rattle.subsumption.proofs.Refusals.{passed_first, passed-if}
use Rattle.subsumption.proofs.Chosen.{bit-half}

-- a number with these bits below n, and no others
unfoldable pub one_if : Bool → ℕ
one_if true = 1
one_if false = 0

unfoldable pub coded : (ℕ → Bool) → ℕ → ℕ
coded f zero = 0
coded f (suc n) = one_if (f 0) + coded (λ q. f (suc q)) n * 2

one-small : (b : Bool) → one_if b ≤ 1
unfolding one_if
one-small true = omega arith
one-small false = omega arith

pub coded-less : (f : ℕ → Bool) (n : ℕ) → coded f n < 2 ^ n
unfolding coded
coded-less f zero = omega arith
coded-less f (suc n) = omega (arith, pow-suc 2 n, one-small (f 0), coded-less (λ q. f (suc q)) n)

one_bit : (b : Bool) (y : ℕ) → eqb ((one_if b + y * 2) % 2) 1 ≡ b
unfolding one_if
one_bit true y = let e : (1 + y * 2) % 2 ≡ 1 = omega arith in ap (λ (z : ℕ). eqb z 1) e
one_bit false y = let e : (0 + y * 2) % 2 ≡ 0 = omega arith in ap (λ (z : ℕ). eqb z 1) e

pub coded-bit : (f : ℕ → Bool) (n q : ℕ) → q < n → bit (coded f n) q ≡ f q
unfolding coded bit
coded-bit f zero q l = absurd (omega arith)
coded-bit f (suc n) zero l = ap (λ (z : ℕ). eqb (z % 2) 1) (whole (coded f (suc n))) ∙ one_bit (f 0) (coded (λ q. f (suc q)) n)
  where
    whole : (x : ℕ) → x / 2 ^ 0 ≡ x
    whole x = omega arith
coded-bit f (suc n) (suc q) l =
    sym (bit-half (coded f (suc n)) q) ∙ ap (λ (z : ℕ). bit z q) (half _ _ (one-small (f 0))) ∙ coded-bit (λ q. f (suc q)) n q (omega arith)
  where
    half : (x y : ℕ) → x ≤ 1 → (x + y * 2) / 2 ≡ y
    half x y l = omega arith

-- the numbers that a function gives
unfoldable pub listed : (ℕ → ℕ) → ℕ → List ℕ
listed g zero = []
listed g (suc n) = g 0 ∷ listed (λ k. g (suc k)) n

pub listed-length : (g : ℕ → ℕ) (n : ℕ) → length (listed g n) ≡ n
unfolding listed
listed-length g zero = refl
listed-length g (suc n) = ap suc (listed-length (λ k. g (suc k)) n)

pub listed_at : (g : ℕ → ℕ) (n k : ℕ) → k < n → get_or (listed g n) k 0 ≡ g k
unfolding listed
listed_at g zero k l = absurd (omega arith)
listed_at g (suc n) zero l = refl
listed_at g (suc n) (suc k) l = listed_at (λ k. g (suc k)) n k (omega arith)

clear :
    (refusal : ℕ → Refusal) (faulty : ℕ → Bool) (from count : ℕ) → ((i : ℕ) → from ≤ i → i < from + count → faulty i ≡ false)
    → first_at refusal faulty from count ≡ Done
unfolding first_at or_else refuse_if
clear refusal faulty from zero h = refl
clear refusal faulty from (suc count) h = rw (h from (omega arith) (omega arith), refuse_if, or_else) (clear refusal faulty (suc from) count (λ i l k. h i (omega arith) (omega arith)))

-- What check 9 asks, over any number of atoms.
module _ (count variables : ℕ) (α : List ℕ) where
  pub accepted : length α ≡ variables → ((k : ℕ) → k < variables → get_or α k 0 < 2 ^ count) → assignment_fault_at count variables α ≡ Done
  unfolding assignment_fault_at or_else refuse_if
  accepted e h =
      rw (eq-eqb (length α) variables e)
      (clear _ (λ k. not (ltb (get_or α k 0) (2 ^ count))) 0 variables (λ k l u. ap not (lt-ltb _ _ (h k (omega arith)))))

  pub accepted-length : assignment_fault_at count variables α ≡ Done → length α ≡ variables
  unfolding assignment_fault_at
  accepted-length h = eqb-true _ _ (not-false _ (passed-if _ _ (passed_first _ _ h)))

-- The assignment that takes the atoms at these positions.
unfoldable pub assignment_to : ℕ → ℕ → (ℕ → ℕ → Bool) → List ℕ
assignment_to count variables f = listed (λ k. coded (f k) count) variables

module _ (count variables : ℕ) (f : ℕ → ℕ → Bool) where
  pub assignment_to-length : length (assignment_to count variables f) ≡ variables
  unfolding assignment_to
  assignment_to-length = listed-length _ variables

  at : (k : ℕ) → k < variables → get_or (assignment_to count variables f) k 0 ≡ coded (f k) count
  unfolding assignment_to
  at k l = listed_at _ variables k l

  pub assignment_to-accepted : assignment_fault_at count variables (assignment_to count variables f) ≡ Done
  assignment_to-accepted = accepted count variables (assignment_to count variables f) assignment_to-length (λ k l. omega (arith, at k l, coded-less (f k) count))

  pub assignment_to-bit : (k q : ℕ) → k < variables → q < count → bit (get_or (assignment_to count variables f) k 0) q ≡ f k q
  assignment_to-bit k q l u = ap (λ (z : ℕ). bit z q) (at k l) ∙ coded-bit (f k) count q u

-- The same over a problem's own atoms.
abbrev pub assignment_of : Tables → (ℕ → ℕ → Bool) → List ℕ
assignment_of t f = assignment_to (length (atoms t)) t.variables f

module _ (t : Tables) (f : ℕ → ℕ → Bool) where
  pub assignment_of-length : length (assignment_of t f) ≡ t.variables
  assignment_of-length = assignment_to-length (length (atoms t)) t.variables f

  pub assignment_of-accepted : assignment_fault t (assignment_of t f) ≡ Done
  unfolding assignment_fault
  assignment_of-accepted = assignment_to-accepted (length (atoms t)) t.variables f

  pub assignment_of-bit : (k q : ℕ) → k < t.variables → q < length (atoms t) → bit (get_or (assignment_of t f) k 0) q ≡ f k q
  assignment_of-bit k q l u = assignment_to-bit (length (atoms t)) t.variables f k q l u
