-- Sets of the roles that count as a role: the walks that make them.
use Prim.Native.Nat.{ℕ, suc, ◌+◌, ◌*◌, ◌/◌, ◌%◌, ◌^◌, ◌<◌, ◌≤◌}
use mathlib.Core.Path.{◌≡◌, refl, sym, ap, ap₂, ◌∙◌, subst}
use mathlib.Core.List.{List}
use mathlib.Core.Bool.{Bool, true, false}
use mathlib.Core.Logic.{⊎_elim}
use native.Mathlib.Omega.{arith}
use lib.Bits.{bit_or}
use lib.Dec.{eqb}
use lib.ListN.{length, get_or, set, length-set, replicate, get_or-replicate}
use lib.Seq.{get_or-set_same, get_or-set_other}
use borrow.Author.Tests.{eq-eqb, ne_eqb}
use Rattle.subsumption.specs.Tables.{or, both, pairs_of, left_of, right_of}
use Rattle.subsumption.specs.Atoms.{bit}
use Rattle.subsumption.specs.Roles.{wider_to, wider}
use Rattle.subsumption.specs.Inner.Roles.{in_set, LowRoles, Started, Joined, Widened, RoleSets}
use Rattle.subsumption.proofs.Bools.{both_first, both-second, last-cases, le-or-lt, eq-or-ne}
use Rattle.subsumption.proofs.Bits.{bit-or, bit-pow, bit-pow-other, bit-of-zero}
use Rattle.subsumption.proofs.MarkLaws.{shifted}

or-none : (a b : Bool) → b ≡ false → or a b ≡ a
unfolding or
or-none true b e = refl
or-none false b e = e

-- one that is in it already
or-absorb : (a b : Bool) → or a (both a b) ≡ a
unfolding or both
or-absorb true b = refl
or-absorb false b = refl

pub bit-read : (into : List ℕ) (r s : ℕ) → eqb (get_or into (s * 2 + r / 64) 0 / 2 ^ (r % 64) % 2) 1 ≡ in_set into r s
unfolding in_set bit
bit-read into r s = refl

-- ---- each role by itself
pub record StartedTo (into : List ℕ) (s : ℕ) : Type 0 where
  pub long : length into ≡ 200
  pub within : s ≤ 100
  pub done : (r q : ℕ) → r < 100 → q < s → in_set into r q ≡ eqb r q
  pub rest : (p : ℕ) → s * 2 ≤ p → p < 200 → get_or into p 0 ≡ 0

pub started_none : (into : List ℕ) → into ≡ replicate 200 0 → StartedTo into 0
started_none into e =
    subst (λ (z : List ℕ). StartedTo z 0) (sym e)
    (record { long = refl; within = omega arith; done = λ r q h l. absurd (omega arith); rest = λ p h l. get_or-replicate 200 p 0 0 l })

module _ (into : List ℕ) (s : ℕ) (S : StartedTo into s) (l : s < 100) where
  abbrev own : ℕ
  own = 1 * 2 ^ (s % 64) % 18446744073709551616

  abbrev after : List ℕ
  after = set into (s * 2 + s / 64) own

  own-bit : (k : ℕ) → bit own k ≡ eqb k (s % 64)
  own-bit k =
      ap (λ (z : ℕ). bit z k) (shifted (s % 64) (omega arith))
      ∙ ⊎_elim (λ (e : k ≡ s % 64). subst (λ (z : ℕ). bit (2 ^ (s % 64)) z ≡ true) (sym e) (bit-pow (s % 64)) ∙ sym (eq-eqb k (s % 64) e))
      (λ n. no-bit k n ∙ sym (ne_eqb k (s % 64) n)) (eq-or-ne k (s % 64))
    where
      no-bit : (k : ℕ) → (k ≡ s % 64 → ⊥) → bit (2 ^ (s % 64)) k ≡ false
      no-bit k n = go (bit (2 ^ (s % 64)) k) refl
        where
          go : (b : Bool) → bit (2 ^ (s % 64)) k ≡ b → bit (2 ^ (s % 64)) k ≡ false
          go true e = absurd (n (bit-pow-other k (s % 64) e))
          go false e = e

  at_own : (r : ℕ) → r < 100 → in_set after r s ≡ eqb r s
  unfolding in_set
  at_own r h = ⊎_elim same other (eq-or-ne (r / 64) (s / 64))
    where
      same : r / 64 ≡ s / 64 → bit (get_or after (s * 2 + r / 64) 0) (r % 64) ≡ eqb r s
      same e =
          ap (λ (z : ℕ). bit (get_or after (s * 2 + z) 0) (r % 64)) e
          ∙ ap (λ (z : ℕ). bit z (r % 64)) (get_or-set_same into (s * 2 + s / 64) own 0 (omega (arith, S.long)))
          ∙ own-bit (r % 64) ∙ ⊎_elim (λ (u : r ≡ s). eq-eqb (r % 64) (s % 64) (omega arith) ∙ sym (eq-eqb r s u)) (λ n. ne_eqb (r % 64) (s % 64) (λ z. n (omega arith)) ∙ sym (ne_eqb r s n)) (eq-or-ne r s)

      other : (r / 64 ≡ s / 64 → ⊥) → bit (get_or after (s * 2 + r / 64) 0) (r % 64) ≡ eqb r s
      other n =
          ap (λ (z : ℕ). bit z (r % 64)) (get_or-set_other into (s * 2 + s / 64) (s * 2 + r / 64) own 0 (λ z. n (omega arith)) ∙ S.rest (s * 2 + r / 64) (omega arith) (omega arith))
          ∙ zero-none (r % 64) ∙ sym (ne_eqb r s (λ z. n (ap (λ (x : ℕ). x / 64) z)))
        where
          zero-none : (k : ℕ) → bit 0 k ≡ false
          zero-none k = go (bit 0 k) refl
            where
              go : (b : Bool) → bit 0 k ≡ b → bit 0 k ≡ false
              go true e = absurd (bit-of-zero k e)
              go false e = e

  pub started-more : StartedTo after (s + 1)
  unfolding in_set
  started-more =
      record {
        long = length-set into _ own ∙ S.long;
        within = omega arith;
        done =
            λ r q h u.
            ⊎_elim (λ (e : q ≡ s). subst (λ (z : ℕ). in_set after r z ≡ eqb r z) (sym e) (at_own r h))
            (λ w. ap (λ (z : ℕ). bit z (r % 64)) (get_or-set_other into (s * 2 + s / 64) (q * 2 + r / 64) own 0 (λ z. omega arith)) ∙ S.done r q h w)
            (last-cases q s (omega arith));
        rest = λ p h u. get_or-set_other into (s * 2 + s / 64) p own 0 (λ z. omega arith) ∙ S.rest p (omega arith) u;
      }

pub started-done : (into : List ℕ) (s : ℕ) → StartedTo into s → 100 ≤ s → Started into
started-done into s S h = record { long = S.long; each = λ r q l u. S.done r q l (omega arith) }

-- ---- one set joined to another
module _ (before : List ℕ) (from to : ℕ) (long : length before ≡ 200) (lf : from < 100) (lt : to < 100) where
  abbrev one_word : List ℕ
  one_word = set before (to * 2) (bit_or (get_or before (to * 2) 0) (get_or before (from * 2) 0))

  abbrev both_words : List ℕ
  both_words = set one_word (to * 2 + 1) (bit_or (get_or one_word (to * 2 + 1) 0) (get_or before (from * 2 + 1) 0))

  word : (part : ℕ) → part < 2 → get_or both_words (to * 2 + part) 0 ≡ bit_or (get_or before (to * 2 + part) 0) (get_or before (from * 2 + part) 0)
  word part l = ⊎_elim first second (eq-or-ne part 0)
    where
      first : part ≡ 0 → get_or both_words (to * 2 + part) 0 ≡ bit_or (get_or before (to * 2 + part) 0) (get_or before (from * 2 + part) 0)
      first e =
          let a : to * 2 + part ≡ to * 2 = omega arith in
          let b : from * 2 + part ≡ from * 2 = omega arith in
          ap (λ (z : ℕ). get_or both_words z 0) a ∙ get_or-set_other one_word (to * 2 + 1) (to * 2) _ 0 (λ z. omega arith)
          ∙ get_or-set_same before (to * 2) _ 0 (omega arith) ∙ sym (ap₂ (λ (x y : ℕ). bit_or (get_or before x 0) (get_or before y 0)) a b)

      second : (part ≡ 0 → ⊥) → get_or both_words (to * 2 + part) 0 ≡ bit_or (get_or before (to * 2 + part) 0) (get_or before (from * 2 + part) 0)
      second n =
          let a : to * 2 + part ≡ to * 2 + 1 = omega (arith, n) in
          let b : from * 2 + part ≡ from * 2 + 1 = omega (arith, n) in
          ap (λ (z : ℕ). get_or both_words z 0) a ∙ get_or-set_same one_word (to * 2 + 1) _ 0 (omega (arith, length-set before (to * 2) (bit_or (get_or before (to * 2) 0) (get_or before (from * 2) 0))))
          ∙ ap (λ (z : ℕ). bit_or z (get_or before (from * 2 + 1) 0)) (get_or-set_other before (to * 2) (to * 2 + 1) _ 0 (λ z. omega arith))
          ∙ sym (ap₂ (λ (x y : ℕ). bit_or (get_or before x 0) (get_or before y 0)) a b)

  pub joined : Joined before both_words from to
  unfolding in_set
  joined =
      record {
        long = length-set one_word _ _ ∙ length-set before _ _ ∙ long;
        each = λ r s h l. ⊎_elim (here r s h) (there r s h) (eq-or-ne s to);
      }
    where
      here : (r s : ℕ) → r < 100 → s ≡ to → in_set both_words r s ≡ or (in_set before r s) (both (in_set before r from) (eqb s to))
      here r s h e =
          ap (λ (z : ℕ). bit (get_or both_words (z * 2 + r / 64) 0) (r % 64)) e ∙ ap (λ (z : ℕ). bit z (r % 64)) (word (r / 64) (omega arith))
          ∙ bit-or (get_or before (to * 2 + r / 64) 0) (get_or before (from * 2 + r / 64) 0) (r % 64)
          ∙ ap₂ or (ap (λ (z : ℕ). bit (get_or before (z * 2 + r / 64) 0) (r % 64)) (sym e)) (sym (both_first _ _ (eq-eqb s to e)))

      there : (r s : ℕ) → r < 100 → (s ≡ to → ⊥) → in_set both_words r s ≡ or (in_set before r s) (both (in_set before r from) (eqb s to))
      there r s h n =
          ap (λ (z : ℕ). bit z (r % 64))
          (get_or-set_other one_word (to * 2 + 1) (s * 2 + r / 64) _ 0 (λ z. omega (arith, n)) ∙ get_or-set_other before (to * 2) (s * 2 + r / 64) _ 0 (λ z. omega (arith, n)))
          ∙ sym (or-none _ _ (both-second _ _ (ne_eqb s to n)))

-- ---- one pair more
pub record WidenedTo (before after : List ℕ) (narrow wide s : ℕ) : Type 0 where
  pub long : length after ≡ 200
  pub within : s ≤ 100
  pub done : (r q : ℕ) → r < 100 → q < s → in_set after r q ≡ or (in_set before r q) (both (in_set before r narrow) (in_set before wide q))
  pub rest : (r q : ℕ) → r < 100 → s ≤ q → q < 100 → in_set after r q ≡ in_set before r q

pub widened_none : (before : List ℕ) (narrow wide : ℕ) → length before ≡ 200 → WidenedTo before before narrow wide 0
widened_none before narrow wide l = record { long = l; within = omega arith; done = λ r q h u. absurd (omega arith); rest = λ r q h u w. refl }

module _ (before mid : List ℕ) (narrow wide s : ℕ) (ln : narrow < 100) (lw : wide < 100) (W : WidenedTo before mid narrow wide s) (l : s < 100) where
  -- the narrow role's own set stays
  narrow-same : (r : ℕ) → r < 100 → in_set mid r narrow ≡ in_set before r narrow
  narrow-same r h =
      ⊎_elim (λ (u : s ≤ narrow). W.rest r narrow h u ln) (λ u. W.done r narrow h u ∙ or-absorb (in_set before r narrow) (in_set before wide narrow)) (le-or-lt s narrow)

  pub widened-skip : in_set mid wide s ≡ false → WidenedTo before mid narrow wide (s + 1)
  widened-skip e =
      record {
        long = W.long;
        within = omega arith;
        done =
            λ r q h u.
            ⊎_elim
            (λ (z : q ≡ s).
            subst (λ (x : ℕ). in_set mid r x ≡ or (in_set before r x) (both (in_set before r narrow) (in_set before wide x))) (sym z)
            (W.rest r s h (omega arith) l ∙ sym (or-none _ _ (both-second _ _ (sym (W.rest wide s lw (omega arith) l) ∙ e)))))
            (λ w. W.done r q h w) (last-cases q s (omega arith));
        rest = λ r q h u w. W.rest r q h (omega arith) w;
      }

  pub widened_more : (after : List ℕ) → in_set mid wide s ≡ true → Joined mid after narrow s → WidenedTo before after narrow wide (s + 1)
  widened_more after e J =
      record {
        long = J.long;
        within = omega arith;
        done = λ r q h u. ⊎_elim (here r q h) (λ w. other r q h (omega arith) (λ z. omega arith) ∙ W.done r q h w) (last-cases q s (omega arith));
        rest = λ r q h u w. other r q h w (λ z. omega arith) ∙ W.rest r q h (omega arith) w;
      }
    where
      other : (r q : ℕ) → r < 100 → q < 100 → (q ≡ s → ⊥) → in_set after r q ≡ in_set mid r q
      other r q h w n = J.each r q h w ∙ or-none _ _ (both-second _ _ (ne_eqb q s n))

      here : (r q : ℕ) → r < 100 → q ≡ s → in_set after r q ≡ or (in_set before r q) (both (in_set before r narrow) (in_set before wide q))
      here r q h z =
          subst (λ (x : ℕ). in_set after r x ≡ or (in_set before r x) (both (in_set before r narrow) (in_set before wide x))) (sym z)
          (J.each r s h l
          ∙ ap₂ or (W.rest r s h (omega arith) l)
          (ap₂ both (narrow-same r h) (eq-eqb s s refl ∙ sym (sym (W.rest wide s lw (omega arith) l) ∙ e))))

pub widened-done : (before after : List ℕ) (narrow wide s : ℕ) → WidenedTo before after narrow wide s → 100 ≤ s → Widened before after narrow wide
widened-done before after narrow wide s W h = record { long = W.long; each = λ r q l u. W.done r q l (omega arith) }

-- ---- all pairs
pub record SetsTo (roles into : List ℕ) (m : ℕ) : Type 0 where
  pub within : m ≤ pairs_of roles
  pub long : length into ≡ 200
  pub each : (r s : ℕ) → r < 100 → s < 100 → in_set into r s ≡ wider_to roles m r s

pub sets-none : (roles into : List ℕ) → Started into → SetsTo roles into 0
unfolding wider_to
sets-none roles into S = record { within = omega arith; long = S.long; each = S.each }

pub sets_more :
    (roles before after : List ℕ) (m narrow wide : ℕ) → LowRoles roles → m < pairs_of roles → SetsTo roles before m → narrow ≡ left_of roles m → wide ≡ right_of roles m
    → Widened before after narrow wide → SetsTo roles after (m + 1)
unfolding wider_to
sets_more roles before after m narrow wide low l S en ew W =
    record {
      within = omega arith;
      long = W.long;
      each =
          λ r s h u.
          let e : m + 1 ≡ suc m = omega arith in
          W.each r s h u
          ∙ ap₂ or (S.each r s h u)
          (ap₂ both (S.each r narrow h (omega (arith, low.narrow m l)) ∙ ap (wider_to roles m r) en)
          (S.each wide s (omega (arith, low.wide m l)) u ∙ ap (λ (z : ℕ). wider_to roles m z s) ew))
          ∙ sym (ap (λ (z : ℕ). wider_to roles z r s) e);
    }

pub sets-done : (roles into : List ℕ) (m : ℕ) → SetsTo roles into m → pairs_of roles ≤ m → RoleSets roles into
unfolding wider
sets-done roles into m S h =
    record { long = S.long; each = λ r s l u. let e : m ≡ pairs_of roles = omega (arith, S.within) in S.each r s l u ∙ ap (λ (z : ℕ). wider_to roles z r s) e }
