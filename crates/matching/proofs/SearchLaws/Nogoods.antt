-- Nogoods in their list.
use Prim.Native.Nat.{ℕ, ◌+◌, ◌*◌, ◌<◌, ◌≤◌}
use mathlib.Core.Path.{◌≡◌, refl, sym, ap, ◌∙◌, subst}
use mathlib.Core.List.{List}
use mathlib.Core.Logic.{inl, inr, ⊎_elim}
use native.Mathlib.Omega.{arith}
use lib.ListN.{length, get_or, set, drop, length-set, length-drop}
use lib.Seq.{get_or-set_same, get_or-set_other, get_or-take, get_or-drop, length-take-le, ext_get_or}
use Rattle.subsumption.specs.Tables.{Tables}
use Rattle.subsumption.proofs.Bools.{last-cases}
use Rattle.matching.specs.Inner.Search.{NoSolution}
use Rattle.matching.specs.Inner.Search.Nogoods.{words, used, low_at, high_at, Room, Nogoods, Put, Kept, Added}

pub words-at : (store : List ℕ) (at k : ℕ) → k < 8 → get_or (words store at) k 0 ≡ get_or store (at + k) 0
words-at store at k l = get_or-take 8 (drop at store) k 0 l ∙ get_or-drop at store k 0

pub words_long : (store : List ℕ) (at : ℕ) → at + 8 ≤ length store → length (words store at) ≡ 8
words_long store at h = length-take-le 8 (drop at store) (omega (arith, length-drop at store))

-- eight numbers read one by one
pub words_are : (store set : List ℕ) (at : ℕ) → at + 8 ≤ length store → length set ≡ 8 → ((k : ℕ) → k < 8 → get_or set k 0 ≡ get_or store (at + k) 0) → set ≡ words store at
words_are store set at h e f =
    ext_get_or 0 set (words store at) (e ∙ sym (words_long store at h)) (λ k l. f k (omega (arith, e)) ∙ sym (words-at store at k (omega (arith, e))))

pub words_same :
    (a b : List ℕ) (at : ℕ) → at + 8 ≤ length a → at + 8 ≤ length b → ((p : ℕ) → at ≤ p → p < at + 8 → get_or a p 0 ≡ get_or b p 0) → words a at ≡ words b at
words_same a b at h l f =
    words_are b (words a at) at l (words_long a at h) (λ k m. words-at a at k m ∙ f (at + k) (omega arith) (omega arith))

-- ---- one more
pub added_none : (low high store : List ℕ) → Room store → Added low high store store
added_none low high store r = record { room = r; each = λ c l. inl (l, refl, refl) }

module _ (low high before one two : List ℕ) (r : Room before) (few : used before < 1024) (long-low : length low ≡ 8) (long-high : length high ≡ 8)
    (p : Put (used before * 16 + 1) low before one) (q : Put (used before * 16 + 9) high one two) where
  abbrev after : List ℕ
  after = set two 0 (used before + 1)

  long : length after ≡ 16385
  long = length-set two 0 _ ∙ q.size ∙ p.size ∙ r.long

  counted : used after ≡ used before + 1
  counted = get_or-set_same two 0 _ 0 (omega (arith, q.size, p.size, r.long))

  past : (i : ℕ) → 1 ≤ i → get_or after i 0 ≡ get_or two i 0
  past i h = get_or-set_other two 0 i _ 0 (λ e. omega arith)

  is-low : low_at after (used before) ≡ low
  is-low =
      sym
      (words_are after low (used before * 16 + 1) (omega (arith, long)) long-low
      (λ k l. sym (past (used before * 16 + 1 + k) (omega arith) ∙ q.there (used before * 16 + 1 + k) (inl (omega arith)) ∙ p.here k l)))

  is-high : high_at after (used before) ≡ high
  is-high =
      sym
      (words_are after high (used before * 16 + 9) (omega (arith, long)) long-high
      (λ k l. sym (past (used before * 16 + 9 + k) (omega arith) ∙ q.here k l)))

  as_before : (i : ℕ) → 1 ≤ i → i < used before * 16 + 1 → get_or after i 0 ≡ get_or before i 0
  as_before i h l = past i h ∙ q.there i (inl (omega arith)) ∙ p.there i (inl l)

  pub added-one : Added low high before (set two 0 (used before + 1))
  added-one =
      record {
        room = record { long = long; few = omega (arith, counted) };
        each = λ c l. ⊎_elim (λ (e : c ≡ used before). inr (new c e)) (λ m. inl (old c m)) (last-cases c (used before) (omega (arith, counted)));
      }
    where
      new : (c : ℕ) → c ≡ used before → (low_at after c ≡ low) × (high_at after c ≡ high)
      new c e = (ap (low_at after) e ∙ is-low, ap (high_at after) e ∙ is-high)

      old : (c : ℕ) → c < used before → Kept before after c
      old c m = (
        m,
        words_same after before (c * 16 + 1) (omega (arith, long)) (omega (arith, r.long)) (λ i a b. as_before i (omega arith) (omega arith)),
        words_same after before (c * 16 + 9) (omega (arith, long)) (omega (arith, r.long)) (λ i a b. as_before i (omega arith) (omega arith)),
      )

pub nogoods-added :
    (t : Tables) (problem low high before after : List ℕ) → Nogoods t problem before → NoSolution t problem low high → Added low high before after → Nogoods t problem after
nogoods-added t problem low high before after n s a =
    record {
      room = a.room;
      each =
          λ c l.
          ⊎_elim
          (λ (x : Kept before after c). subst (λ (z : List ℕ). NoSolution t problem z (high_at after c)) (sym x.1) (subst (NoSolution t problem (low_at before c)) (sym x.2) (n.each c x.0)))
          (λ (x : (low_at after c ≡ low) × (high_at after c ≡ high)). subst (λ (z : List ℕ). NoSolution t problem z (high_at after c)) (sym x.0) (subst (NoSolution t problem low) (sym x.1) s))
          (a.each c l);
    }

pub nogoods-none : (t : Tables) (problem store : List ℕ) → length store ≡ 16385 → used store ≡ 0 → Nogoods t problem store
nogoods-none t problem store e f = record { room = record { long = e; few = omega arith }; each = λ c l. absurd (omega arith) }
