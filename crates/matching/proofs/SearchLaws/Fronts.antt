-- The choices of the variables: the front of a list of eight numbers.
use Rattle.subsumption.specs.Refusal.{Done}
use Prim.Native.Nat.{ℕ, zero, suc, ◌+◌, ◌*◌, ◌/◌, ◌%◌, ◌^◌, ◌<◌, ◌≤◌}
use mathlib.Core.Path.{◌≡◌, refl, sym, ap, ◌∙◌, subst}
use mathlib.Core.List.{List}
use mathlib.Core.Bool.{Bool, true, false, not}
use mathlib.Core.Logic.{⊎_elim}
use native.Mathlib.Omega.{arith}
use native.Mathlib.Nat.{div-eq_of_lt, add-zero, mod-lt}
use native.Mathlib.Numerals.{add-one}
use lib.Pow.{pow_pos, pow_mono, split}
use lib.Dec.{ltb}
use lib.ListN.{length, get_or, take, length-take, get_or-eq_default}
use lib.Seq.{get_or-take, ext_get_or}
use borrow.Author.Tests.{eqb-true, ltb-true, lt-ltb, not-false}
use Rattle.subsumption.specs.declared.refusal.Refusal.TheVariants.{BadAssignment}
use Rattle.subsumption.specs.Tables.{Tables}
use Rattle.subsumption.specs.Atoms.{atoms, bit}
use Rattle.subsumption.specs.Check.{assignment_fault_at, assignment_fault}
use Rattle.subsumption.proofs.Bools.{le-or-lt}
use Rattle.subsumption.proofs.Bits.{bit-of-zero, bit-shr}
use Rattle.subsumption.proofs.Refusals.{passed_first, passed-second, passed-if, passed-at}
use Rattle.subsumption.proofs.Accepted.{right-count}
use Rattle.subsumption.proofs.Scans.{Scan, scan-none, scan-more, scan-done}
use Rattle.matching.specs.Solving.{takes}
use Rattle.matching.specs.Inner.Search.{Within}
use Rattle.matching.proofs.SearchLaws.Choices.{same_bits}

-- ---- bits and bounds
pub bit_below : (x n q : ℕ) → x < 2 ^ n → bit x q ≡ true → q < n
bit_below x n q h e =
    ⊎_elim
    (λ (l : n ≤ q). absurd (bit-of-zero 0 (subst (λ (z : ℕ). bit z 0 ≡ true) (div-eq_of_lt (lower l)) (moved e))))
    (λ l. l)
    (le-or-lt n q)
  where
    lower : n ≤ q → x < 2 ^ q
    lower l = omega (arith, pow_mono l)

    moved : bit x q ≡ true → bit (x / 2 ^ q) 0 ≡ true
    moved e = bit-shr x q 0 ∙ ap (bit x) (add-zero q) ∙ e

pub below-bits : (x n : ℕ) → ((q : ℕ) → bit x q ≡ true → q < n) → x < 2 ^ n
below-bits x n h =
    ⊎_elim (λ (l : 2 ^ n ≤ x). absurd (no l)) (λ l. l) (le-or-lt (2 ^ n) x)
  where
    none : (q : ℕ) → bit (x / 2 ^ n) q ≡ bit 0 q
    none q = go (bit (x / 2 ^ n) q) refl (bit 0 q) refl
      where
        go : (a : Bool) → bit (x / 2 ^ n) q ≡ a → (b : Bool) → bit 0 q ≡ b → bit (x / 2 ^ n) q ≡ bit 0 q
        go true e b f = absurd (omega (arith, h (n + q) (sym (bit-shr x n q) ∙ e)))
        go false e true f = absurd (bit-of-zero q f)
        go false e false f = e ∙ sym f

    no : 2 ^ n ≤ x → ⊥
    no l = let e : x / 2 ^ n ≡ 0 = same_bits (x / 2 ^ n) 0 none in omega (arith, split x n, ap (λ (z : ℕ). z * 2 ^ n) e, mod-less)
      where
        mod-less : x % 2 ^ n < 2 ^ n
        mod-less = mod-lt x (pow_pos n)

-- ---- the front of a list
module _ (v : ℕ) (a : List ℕ) where
  pub front-known : (k q : ℕ) → takes (take v a) k q ≡ true → (k < v) × (takes a k q ≡ true)
  front-known k q e =
      ⊎_elim
      (λ (l : v ≤ k). absurd (bit-of-zero q (subst (λ (z : ℕ). bit z q ≡ true) (get_or-eq_default (take v a) 0 {n = k} (omega (arith, short))) e)))
      (λ l. (l, sym (ap (λ (z : ℕ). bit z q) (get_or-take v a k 0 l)) ∙ e))
      (le-or-lt v k)
    where
      short : length (take v a) ≤ v
      short = omega (arith, length-take v a)

  pub front-takes : (k q : ℕ) → k < v → takes a k q ≡ true → takes (take v a) k q ≡ true
  front-takes k q l e = ap (λ (z : ℕ). bit z q) (get_or-take v a k 0 l) ∙ e

pub front-within : (v : ℕ) (a b : List ℕ) → Within a b → Within (take v a) (take v b)
front-within v a b w k q e = let (l, x) = front-known v a k q e in front-takes v b k q l (w k q x)

-- ---- accepted assignments
module _ (t : Tables) (assignment : List ℕ) where
  module _ (h : assignment_fault t assignment ≡ Done) where
    pub accepted-long : length assignment ≡ t.variables
    unfolding assignment_fault assignment_fault_at
    accepted-long = eqb-true _ _ (not-false _ (passed-if _ _ (passed_first _ _ h)))

    pub accepted-below : (k : ℕ) → k < t.variables → get_or assignment k 0 < 2 ^ length (atoms t)
    unfolding assignment_fault assignment_fault_at
    accepted-below k l =
        ltb-true _ _ (not-false _ (passed-at _ (λ j. not (ltb (get_or assignment j 0) (2 ^ length (atoms t)))) 0 _ (passed-second _ _ h) k (omega arith) (omega arith)))

    pub accepted-bits : (k q : ℕ) → takes assignment k q ≡ true → (k < t.variables) × (q < length (atoms t))
    accepted-bits k q e =
        ⊎_elim
        (λ (l : t.variables ≤ k). absurd (bit-of-zero q (subst (λ (z : ℕ). bit z q ≡ true) (get_or-eq_default assignment 0 {n = k} (omega (arith, accepted-long))) e)))
        (λ l. (l, bit_below (get_or assignment k 0) _ q (accepted-below k l) e))
        (le-or-lt t.variables k)

  pub accept : length assignment ≡ t.variables → ((k : ℕ) → k < t.variables → get_or assignment k 0 < 2 ^ length (atoms t)) → assignment_fault t assignment ≡ Done
  unfolding assignment_fault
  accept e f = sym (right-count (length (atoms t)) t.variables assignment Done e (scan-done _ _ _ t.variables (scan t.variables (omega arith)) (omega arith)))
    where
      at : (k : ℕ) → k < t.variables → not (ltb (get_or assignment k 0) (2 ^ length (atoms t))) ≡ false
      at k l = ap not (lt-ltb _ _ (f k l))

      scan : (i : ℕ) → i ≤ t.variables → Scan BadAssignment (λ k. not (ltb (get_or assignment k 0) (2 ^ length (atoms t)))) t.variables i
      scan zero l = scan-none _ _ _
      scan (suc i) l = subst (Scan BadAssignment (λ k. not (ltb (get_or assignment k 0) (2 ^ length (atoms t)))) t.variables) (add-one i) (scan-more _ _ _ i (scan i (omega arith)) (omega arith) (at i (omega arith)))

-- what takes no more than an accepted one is accepted
pub within-accepted : (t : Tables) (a b : List ℕ) → assignment_fault t b ≡ Done → length a ≡ t.variables → Within a b → assignment_fault t a ≡ Done
within-accepted t a b h e w = accept t a e (λ k l. below-bits (get_or a k 0) _ (λ q x. (accepted-bits t b h k q (w k q x)).1))

-- accepted ones that take the same are equal
pub same_taken : (t : Tables) (a b : List ℕ) → assignment_fault t a ≡ Done → assignment_fault t b ≡ Done → ((k q : ℕ) → takes a k q ≡ takes b k q) → a ≡ b
same_taken t a b h l e =
    ext_get_or 0 a b (accepted-long t a h ∙ sym (accepted-long t b l)) (λ k _. same_bits (get_or a k 0) (get_or b k 0) (e k))
