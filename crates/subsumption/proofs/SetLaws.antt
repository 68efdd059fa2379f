-- Sets of ids: one id comes in; one set is put; the union of the sets that words pick.
use Prim.Native.Nat.{ℕ, zero, suc, ◌+◌, ◌*◌, ◌-◌, ◌/◌, ◌%◌, ◌^◌, ◌<◌, ◌≤◌}
use mathlib.Core.Path.{◌≡◌, refl, ap, sym, ◌∙◌, subst}
use mathlib.Core.List.{List, [], ◌∷◌}
use mathlib.Core.Bool.{true, false}
use mathlib.Core.Logic.{◌⊎◌, inl, inr, ⊎_elim}
use native.Mathlib.Omega.{arith}
use lib.ListN.{length, get_or, set, length-set, replicate}
use lib.Seq.{get_or-set_same, get_or-set_other}
use lib.Bits.{bit_and, bit_or}
use lib.Count.{count_trailing_zeros}
use Rattle.subsumption.specs.Atoms.{bit}
use Rattle.subsumption.specs.Inner.Columns.{has, InThree}
use Rattle.subsumption.specs.Inner.Links.{Inserted, Put, Picked, Joins, Union}
use Rattle.subsumption.proofs.Bools.{both_true, both-intro, eq-or-ne}
use Rattle.subsumption.proofs.Bits.{bit-and, bit-of-zero, bit-or-cases, bit_or_left, bit_or_right, bit-pow, bit-pow-other}
use Rattle.subsumption.proofs.Columns.{not-both, three-has}
use Rattle.subsumption.proofs.MarkLaws.{shifted}
use Rattle.subsumption.proofs.WordLaws.{Lowest, lowest, no_bits}

-- ---- one id
module _ (before : List ℕ) (to id : ℕ) (low : id < 192) (fits : to * 3 + 3 ≤ length before) where
  abbrev word : ℕ
  word = bit_or (get_or before (to * 3 + id / 64) 0) (1 * 2 ^ (id % 64) % 18446744073709551616)

  abbrev after : List ℕ
  after = set before (to * 3 + id / 64) word

  here : get_or after (to * 3 + id / 64) 0 ≡ bit_or (get_or before (to * 3 + id / 64) 0) (2 ^ (id % 64))
  here = get_or-set_same before (to * 3 + id / 64) word 0 (omega arith) ∙ ap (bit_or (get_or before (to * 3 + id / 64) 0)) (shifted (id % 64) (omega arith))

  else : (p : ℕ) → (p ≡ to * 3 + id / 64 → ⊥) → get_or after p 0 ≡ get_or before p 0
  else p n = get_or-set_other before (to * 3 + id / 64) p word 0 n

  insert-kept : (i j : ℕ) → has before i j ≡ true → has after i j ≡ true
  unfolding has
  insert-kept i j u =
      ⊎_elim
      (λ (e : j * 3 + i / 64 ≡ to * 3 + id / 64).
      subst (λ (z : ℕ). bit (get_or after z 0) (i % 64) ≡ true) (sym e)
      (ap (λ (w : ℕ). bit w (i % 64)) here ∙ bit_or_left (get_or before (to * 3 + id / 64) 0) (2 ^ (id % 64)) (i % 64) (subst (λ (z : ℕ). bit (get_or before z 0) (i % 64) ≡ true) e u)))
      (λ n. ap (λ (w : ℕ). bit w (i % 64)) (else (j * 3 + i / 64) n) ∙ u) (eq-or-ne (j * 3 + i / 64) (to * 3 + id / 64))

  insert-bits : (i j : ℕ) → i < 192 → has after i j ≡ true → (has before i j ≡ true) ⊎ ((j ≡ to) × (i ≡ id))
  unfolding has
  insert-bits i j l u =
      ⊎_elim
      (λ (e : j * 3 + i / 64 ≡ to * 3 + id / 64).
      ⊎_elim (λ v. inl (subst (λ (z : ℕ). bit (get_or before z 0) (i % 64) ≡ true) (sym e) v))
      (λ v. let r = bit-pow-other (i % 64) (id % 64) v in inr (omega (arith, e), omega (arith, e, r)))
      (bit-or-cases (get_or before (to * 3 + id / 64) 0) (2 ^ (id % 64)) (i % 64)
      (ap (λ (w : ℕ). bit w (i % 64)) (sym here) ∙ subst (λ (z : ℕ). bit (get_or after z 0) (i % 64) ≡ true) e u)))
      (λ n. inl (ap (λ (w : ℕ). bit w (i % 64)) (sym (else (j * 3 + i / 64) n)) ∙ u)) (eq-or-ne (j * 3 + i / 64) (to * 3 + id / 64))

  insert-taken : has after id to ≡ true
  unfolding has
  insert-taken = ap (λ (w : ℕ). bit w (id % 64)) here ∙ bit_or_right (get_or before (to * 3 + id / 64) 0) (2 ^ (id % 64)) (id % 64) (bit-pow (id % 64))

  pub inserted : Inserted before after to id
  inserted = record { long = length-set before _ word; kept = insert-kept; bits = insert-bits; taken = insert-taken }

-- sets that hold nothing
zeros : (n p : ℕ) → get_or {A = ℕ} (replicate n 0) p 0 ≡ 0
zeros zero p = refl
zeros (suc n) zero = refl
zeros (suc n) (suc p) = zeros n p

pub empty-sets : (n i j : ℕ) → has (replicate n 0) i j ≡ true → ⊥
unfolding has
empty-sets n i j e = bit-of-zero (i % 64) (ap (λ (w : ℕ). bit w (i % 64)) (sym (zeros n (j * 3 + i / 64))) ∙ e)

-- ---- one set is put
module _ (before : List ℕ) (to first second third : ℕ) (fits : to * 3 + 3 ≤ length before) where
  abbrev one : List ℕ
  one = set before (to * 3) first

  abbrev two : List ℕ
  two = set one (to * 3 + 1) second

  abbrev three : List ℕ
  three = set two (to * 3 + 2) third

  put_word : (q : ℕ) → q < 3 → get_or three (to * 3 + q) 0 ≡ get_or (first ∷ second ∷ third ∷ []) q 0
  put_word zero h =
      let z : to * 3 + 0 ≡ to * 3 = omega arith in
      ap (λ (p : ℕ). get_or three p 0) z
      ∙ get_or-set_other two (to * 3 + 2) (to * 3) third 0 (λ e. omega arith) ∙ get_or-set_other one (to * 3 + 1) (to * 3) second 0 (λ e. omega arith)
      ∙ get_or-set_same before (to * 3) first 0 (omega arith)
  put_word (suc zero) h =
      get_or-set_other two (to * 3 + 2) (to * 3 + 1) third 0 (λ e. omega arith)
      ∙ get_or-set_same one (to * 3 + 1) second 0 (omega (arith, length-set before (to * 3) first))
  put_word (suc (suc zero)) h =
      get_or-set_same two (to * 3 + 2) third 0 (omega (arith, length-set one (to * 3 + 1) second, length-set before (to * 3) first))
  put_word (suc (suc (suc q))) h = absurd (omega arith)

  put-there : (i j : ℕ) → i < 192 → (j ≡ to → ⊥) → get_or three (j * 3 + i / 64) 0 ≡ get_or before (j * 3 + i / 64) 0
  put-there i j l n =
      get_or-set_other two (to * 3 + 2) _ third 0 (λ e. n (omega arith)) ∙ get_or-set_other one (to * 3 + 1) _ second 0 (λ e. n (omega arith))
      ∙ get_or-set_other before (to * 3) _ first 0 (λ e. n (omega arith))

  pub puts : Put before three to first second third
  unfolding has
  puts =
      record {
        long = length-set two _ third ∙ length-set one _ second ∙ length-set before _ first;
        only = λ i l u. ap (λ (w : ℕ). bit w (i % 64)) (sym (put_word (i / 64) (omega arith))) ∙ u;
        every = λ i l u. ap (λ (w : ℕ). bit w (i % 64)) (put_word (i / 64) (omega arith)) ∙ u;
        there = λ i j l n. ap (λ (w : ℕ). bit w (i % 64)) (put-there i j l n);
      }

-- ---- the union of the sets that a word picks
or-three :
    (sets : List ℕ) (x first second third e : ℕ) → e < 192
    → (InThree (bit_or first (get_or sets (x * 3) 0)) (bit_or second (get_or sets (x * 3 + 1) 0)) (bit_or third (get_or sets (x * 3 + 2) 0)) e → InThree first second third e ⊎ (has sets e x ≡ true))
    × (InThree first second third e ⊎ (has sets e x ≡ true) → InThree (bit_or first (get_or sets (x * 3) 0)) (bit_or second (get_or sets (x * 3 + 1) 0)) (bit_or third (get_or sets (x * 3 + 2) 0)) e)
unfolding has
or-three sets x first second third e l = go (e / 64) (omega arith)
  where
    go :
        (w : ℕ) → w < 3
        → (bit (get_or (bit_or first (get_or sets (x * 3) 0) ∷ bit_or second (get_or sets (x * 3 + 1) 0) ∷ bit_or third (get_or sets (x * 3 + 2) 0) ∷ []) w 0) (e % 64) ≡ true
        → (bit (get_or (first ∷ second ∷ third ∷ []) w 0) (e % 64) ≡ true) ⊎ (bit (get_or sets (x * 3 + w) 0) (e % 64) ≡ true))
        × ((bit (get_or (first ∷ second ∷ third ∷ []) w 0) (e % 64) ≡ true) ⊎ (bit (get_or sets (x * 3 + w) 0) (e % 64) ≡ true)
        → bit (get_or (bit_or first (get_or sets (x * 3) 0) ∷ bit_or second (get_or sets (x * 3 + 1) 0) ∷ bit_or third (get_or sets (x * 3 + 2) 0) ∷ []) w 0) (e % 64) ≡ true)
    go zero h =
        let z : x * 3 + 0 ≡ x * 3 = omega arith in
        subst
        (λ (q : ℕ). (bit (bit_or first (get_or sets (x * 3) 0)) (e % 64) ≡ true → (bit first (e % 64) ≡ true) ⊎ (bit (get_or sets q 0) (e % 64) ≡ true))
        × ((bit first (e % 64) ≡ true) ⊎ (bit (get_or sets q 0) (e % 64) ≡ true) → bit (bit_or first (get_or sets (x * 3) 0)) (e % 64) ≡ true))
        (sym z)
        (bit-or-cases first (get_or sets (x * 3) 0) (e % 64), ⊎_elim (bit_or_left first (get_or sets (x * 3) 0) (e % 64)) (bit_or_right first (get_or sets (x * 3) 0) (e % 64)))
    go (suc zero) h =
        (bit-or-cases second (get_or sets (x * 3 + 1) 0) (e % 64), ⊎_elim (bit_or_left second (get_or sets (x * 3 + 1) 0) (e % 64)) (bit_or_right second (get_or sets (x * 3 + 1) 0) (e % 64)))
    go (suc (suc zero)) h =
        (bit-or-cases third (get_or sets (x * 3 + 2) 0) (e % 64), ⊎_elim (bit_or_left third (get_or sets (x * 3 + 2) 0) (e % 64)) (bit_or_right third (get_or sets (x * 3 + 2) 0) (e % 64)))
    go (suc (suc (suc w))) h = absurd (omega arith)

-- picked, and no more in the rest
pub record PickedOut (sets : List ℕ) (from word rest e : ℕ) : Type 0 where
  pub picked : Picked sets from word e
  pub gone : bit rest picked.place ≡ false

pub record Joining (sets : List ℕ) (from word : ℕ) (before : ℕ → Type 0) (rest first second third : ℕ) : Type 0 where
  pub small : rest < 2 ^ 64
  pub inside : (b : ℕ) → bit rest b ≡ true → bit word b ≡ true
  pub only : (e : ℕ) → e < 192 → InThree first second third e → before e ⊎ Picked sets from word e
  pub every : (e : ℕ) → e < 192 → before e ⊎ PickedOut sets from word rest e → InThree first second third e

module _ (sets : List ℕ) (from word first₀ second₀ third₀ : ℕ) where
  abbrev start : ℕ → Type 0
  start = InThree first₀ second₀ third₀

  pub joining-first : word < 2 ^ 64 → Joining sets from word start word first₀ second₀ third₀
  joining-first h =
      record {
        small = h;
        inside = λ b u. u;
        only = λ e l u. inl u;
        every = λ e l u. ⊎_elim (λ v. v) (λ v. not-both _ v.picked.chosen v.gone) u;
      }

  module _ (rest first second third : ℕ) (J : Joining sets from word start rest first second third) (some : rest ≡ 0 → ⊥) where
    next : Lowest 64 rest (count_trailing_zeros 64 rest) (bit_and rest (rest - 1))
    next = lowest 64 rest (omega arith) J.small

    pub joining-low : count_trailing_zeros 64 rest < 64
    joining-low = next.low

    pub joining-more :
        bit_and rest (rest - 1) < 2 ^ 64
        → Joining sets from word start (bit_and rest (rest - 1)) (bit_or first (get_or sets ((from + count_trailing_zeros 64 rest) * 3) 0))
        (bit_or second (get_or sets ((from + count_trailing_zeros 64 rest) * 3 + 1) 0)) (bit_or third (get_or sets ((from + count_trailing_zeros 64 rest) * 3 + 2) 0))
    joining-more small =
        record {
          small = small;
          inside = λ b u. J.inside b (still b u);
          only =
              λ e l u.
              ⊎_elim (λ v. J.only e l v)
              (λ v. inr (record { place = count_trailing_zeros 64 rest; low = next.low; chosen = J.inside _ next.here; in-set = v }))
              ((or-three sets (from + count_trailing_zeros 64 rest) first second third e l).0 u);
          every = λ e l u. (or-three sets (from + count_trailing_zeros 64 rest) first second third e l).1 (come e l u);
        }
      where
        still : (c : ℕ) → bit (bit_and rest (rest - 1)) c ≡ true → bit rest c ≡ true
        still c u = ⊎_elim (λ (e : c ≡ count_trailing_zeros 64 rest). not-both _ u (ap (bit (bit_and rest (rest - 1))) e ∙ next.gone)) (λ n. sym (next.others c n) ∙ u) (eq-or-ne c (count_trailing_zeros 64 rest))

        come : (e : ℕ) → e < 192 → start e ⊎ PickedOut sets from word (bit_and rest (rest - 1)) e → InThree first second third e ⊎ (has sets e (from + count_trailing_zeros 64 rest) ≡ true)
        come e l (inl u) = inl (J.every e l (inl u))
        come e l (inr v) =
            ⊎_elim (λ (q : v.picked.place ≡ count_trailing_zeros 64 rest). inr (subst (λ (z : ℕ). has sets e (from + z) ≡ true) q v.picked.in-set))
            (λ n. inl (J.every e l (inr (record { picked = v.picked; gone = sym (next.others _ n) ∙ v.gone }))))
            (eq-or-ne v.picked.place (count_trailing_zeros 64 rest))

  pub joining-done : (rest first second third : ℕ) → Joining sets from word start rest first second third → rest ≡ 0 → Joins sets from word start (InThree first second third)
  joining-done rest first second third J z =
      record {
        only = J.only;
        every = λ e l u. J.every e l (⊎_elim (λ v. inl v) (λ v. inr (record { picked = v; gone = ap (λ (w : ℕ). bit w v.place) z ∙ no_bits v.place })) u);
      }

-- ---- three words
pub nothing-in : (e : ℕ) → e < 192 → InThree 0 0 0 e → ⊥
nothing-in e l u = go (e / 64) (omega arith) u
  where
    go : (w : ℕ) → w < 3 → bit (get_or (0 ∷ 0 ∷ 0 ∷ []) w 0) (e % 64) ≡ true → ⊥
    go zero h v = bit-of-zero (e % 64) v
    go (suc zero) h v = bit-of-zero (e % 64) v
    go (suc (suc zero)) h v = bit-of-zero (e % 64) v
    go (suc (suc (suc w))) h v = omega arith

module _ (sets : List ℕ) (first second third : ℕ) (one two all : ℕ → Type 0)
    (A : Joins sets 0 first (InThree 0 0 0) one) (B : Joins sets 64 second one two) (C : Joins sets 128 third two all) where
  in_three : (w p x : ℕ) → w < 3 → p < 64 → x ≡ w * 64 + p → bit (get_or (first ∷ second ∷ third ∷ []) w 0) p ≡ true → InThree first second third x
  in_three w p x h l e u =
      let a : w ≡ x / 64 = omega arith in
      let b : p ≡ x % 64 = omega arith in
      subst (λ (z : ℕ). bit (get_or (first ∷ second ∷ third ∷ []) z 0) (x % 64) ≡ true) a
      (subst (λ (z : ℕ). bit (get_or (first ∷ second ∷ third ∷ []) w 0) z ≡ true) b u)

  union-only : (e : ℕ) → e < 192 → all e → (x : ℕ) × (x < 192) × InThree first second third x × (has sets e x ≡ true)
  union-only e l u =
      ⊎_elim
      (λ v.
      ⊎_elim
      (λ w.
      ⊎_elim (λ x. absurd (nothing-in e l x))
      (λ x. (0 + x.place, omega (arith, x.low), in_three 0 x.place (0 + x.place) (omega arith) x.low (omega arith) x.chosen, x.in-set)) (A.only e l w))
      (λ x. (64 + x.place, omega (arith, x.low), in_three 1 x.place (64 + x.place) (omega arith) x.low (omega arith) x.chosen, x.in-set)) (B.only e l v))
      (λ x. (128 + x.place, omega (arith, x.low), in_three 2 x.place (128 + x.place) (omega arith) x.low (omega arith) x.chosen, x.in-set)) (C.only e l u)

  union-every : (e x : ℕ) → e < 192 → x < 192 → InThree first second third x → has sets e x ≡ true → all e
  union-every e x l k u v = go (x / 64) refl (omega arith)
    where
      word : (q : ℕ) → x / 64 ≡ q → bit (get_or (first ∷ second ∷ third ∷ []) q 0) (x % 64) ≡ true
      word q a = subst (λ (z : ℕ). bit (get_or (first ∷ second ∷ third ∷ []) z 0) (x % 64) ≡ true) a u

      go : (q : ℕ) → x / 64 ≡ q → q < 3 → all e
      go zero a h =
          let b : x ≡ 0 + x % 64 = omega arith in
          C.every e l (inl (B.every e l (inl (A.every e l
          (inr (record { place = x % 64; low = omega arith; chosen = word 0 a; in-set = subst (λ (z : ℕ). has sets e z ≡ true) b v }))))))
      go (suc zero) a h =
          let b : x ≡ 64 + x % 64 = omega arith in
          C.every e l (inl (B.every e l
          (inr (record { place = x % 64; low = omega arith; chosen = word 1 a; in-set = subst (λ (z : ℕ). has sets e z ≡ true) b v }))))
      go (suc (suc zero)) a h =
          let b : x ≡ 128 + x % 64 = omega arith in
          C.every e l
          (inr (record { place = x % 64; low = omega arith; chosen = word 2 a; in-set = subst (λ (z : ℕ). has sets e z ≡ true) b v }))
      go (suc (suc (suc q))) a h = absurd (omega arith)

  pub unites : Union sets (InThree first second third) all
  unites = record { only = union-only; every = union-every }

-- the three words of a set
module _ (sets : List ℕ) (x e : ℕ) (low : e < 192) where
  pub in-line : InThree (get_or sets (x * 3) 0) (get_or sets (x * 3 + 1) 0) (get_or sets (x * 3 + 2) 0) e → has sets e x ≡ true
  unfolding has
  in-line u = ap (λ (v : ℕ). bit v (e % 64)) (sym (three-has sets x (e / 64) (omega arith))) ∙ u

  pub of-line : has sets e x ≡ true → InThree (get_or sets (x * 3) 0) (get_or sets (x * 3 + 1) 0) (get_or sets (x * 3 + 2) 0) e
  unfolding has
  of-line u = ap (λ (v : ℕ). bit v (e % 64)) (three-has sets x (e / 64) (omega arith)) ∙ u

-- the meet of two sets
pub and-three :
    (a b c d f g e : ℕ) → e < 192 → (InThree (bit_and a d) (bit_and b f) (bit_and c g) e → InThree a b c e × InThree d f g e) × (InThree a b c e × InThree d f g e → InThree (bit_and a d) (bit_and b f) (bit_and c g) e)
and-three a b c d f g e l = go (e / 64) (omega arith)
  where
    one :
        (x y k : ℕ) → (bit (bit_and x y) k ≡ true → (bit x k ≡ true) × (bit y k ≡ true)) × ((bit x k ≡ true) × (bit y k ≡ true) → bit (bit_and x y) k ≡ true)
    one x y k = ((λ u. both_true _ _ (sym (bit-and x y k) ∙ u)), (λ u. bit-and x y k ∙ both-intro _ _ u.0 u.1))

    go :
        (w : ℕ) → w < 3
        → (bit (get_or (bit_and a d ∷ bit_and b f ∷ bit_and c g ∷ []) w 0) (e % 64) ≡ true
        → (bit (get_or (a ∷ b ∷ c ∷ []) w 0) (e % 64) ≡ true) × (bit (get_or (d ∷ f ∷ g ∷ []) w 0) (e % 64) ≡ true))
        × ((bit (get_or (a ∷ b ∷ c ∷ []) w 0) (e % 64) ≡ true) × (bit (get_or (d ∷ f ∷ g ∷ []) w 0) (e % 64) ≡ true)
        → bit (get_or (bit_and a d ∷ bit_and b f ∷ bit_and c g ∷ []) w 0) (e % 64) ≡ true)
    go zero h = one a d (e % 64)
    go (suc zero) h = one b f (e % 64)
    go (suc (suc zero)) h = one c g (e % 64)
    go (suc (suc (suc w))) h = absurd (omega arith)
