-- How the square changes: one bit in both halves, the bits of a word, three words; and what that says of the marks.
use Prim.Native.Nat.{ℕ, zero, suc, ◌+◌, ◌*◌, ◌-◌, ◌/◌, ◌%◌, ◌^◌, ◌<◌}
use mathlib.Core.Path.{◌≡◌, refl, ap, sym, ◌∙◌, subst}
use mathlib.Core.List.{List, [], ◌∷◌}
use mathlib.Core.Bool.{Bool, true, false, not, ◌||◌}
use mathlib.Core.Logic.{◌⊎◌, inl, inr, ⊎_elim}
use native.Mathlib.Omega.{arith}
use lib.ListN.{length, get_or}
use lib.Bits.{bit_and, bit_or, bit_xor}
use lib.Count.{count_trailing_zeros}
use Rattle.subsumption.specs.Tables.{both}
use Rattle.subsumption.specs.Atoms.{bit}
use Rattle.subsumption.specs.Inner.Columns.{Absorbs}
use Rattle.subsumption.proofs.Bools.{both_true, both-intro, same_bool, eq-or-ne}
use Rattle.subsumption.proofs.Bits.{bit-or-cases, bit_or_left, bit_or_right, bit-pow, bit-pow-other}
use Rattle.subsumption.proofs.Columns.{any-true, any_false, not-both, falls}
use Rattle.subsumption.proofs.MarkLaws.{shifted}
use Rattle.square.specs.Inner.Square.{on_line, in_row, Square}
use Rattle.incremental.specs.Inner.Marking.{in_half, Base, Adds, InWord, InThree, Holding}
use Rattle.square.proofs.BitLaws.{lacking, Lowest, lowest, no_bits}
use Rattle.square.proofs.SetLaws.{line-three, both-three}

-- ---- the two halves
abbrev Apart : ℕ → ℕ → Type 0
Apart h g = ((h ≡ 0) × (g ≡ 576)) ⊎ ((h ≡ 576) × (g ≡ 0))

apart : (base : ℕ) → Base base → Apart base (576 - base)
apart base (_, inl e) = inl (e, omega arith)
apart base (_, inr e) = inr (e, omega arith)

other_way : (h g : ℕ) → Apart h g → Apart g h
other_way h g (inl u) = inr (u.1, u.0)
other_way h g (inr u) = inl (u.1, u.0)

line_at : (s : List ℕ) (a b y : ℕ) → a ≡ b → on_line s a y ≡ on_line s b y
line_at s a b y e = ap (λ (z : ℕ). on_line s z y) e

mirrored : (h g : ℕ) → Apart h g → (s : List ℕ) → Square s → (p q : ℕ) → p < 192 → q < 192 → in_half h s p q ≡ in_half g s q p
mirrored h g (inl (e, f)) s S p q l k = line_at s _ _ q (omega arith) ∙ S.mirror p q l k ∙ line_at s _ _ p (omega arith)
mirrored h g (inr (e, f)) s S p q l k = line_at s _ _ q (omega arith) ∙ sym (S.mirror q p k l) ∙ line_at s _ _ p (omega arith)

square-of : (h g : ℕ) → Apart h g → (s : List ℕ) → length s ≡ 1152 → ((p q : ℕ) → p < 192 → q < 192 → in_half h s p q ≡ in_half g s q p) → Square s
square-of h g (inl (e, f)) s n m =
    record { long = n; mirror = λ i j l k. line_at s _ _ j (omega arith) ∙ m i j l k ∙ line_at s _ _ i (omega arith) }
square-of h g (inr (e, f)) s n m =
    record { long = n; mirror = λ i j l k. line_at s _ _ j (omega arith) ∙ sym (m j i k l) ∙ line_at s _ _ i (omega arith) }

-- ---- one bit of one half
module _ (before after : List ℕ) (h x y : ℕ) (changed : Bool) (lx : x < 192) (ly : y < 192)
    (A : Absorbs before after (h + x * 3 + y / 64) (1 * 2 ^ (y % 64) % 18446744073709551616) changed) where
  one_word : get_or after (h + x * 3 + y / 64) 0 ≡ bit_or (get_or before (h + x * 3 + y / 64) 0) (2 ^ (y % 64))
  one_word = A.here ∙ ap (bit_or (get_or before (h + x * 3 + y / 64) 0)) (shifted (y % 64) (omega arith))

  same_place : (p q : ℕ) → q < 192 → h + p * 3 + q / 64 ≡ h + x * 3 + y / 64 → (p ≡ x) × (q / 64 ≡ y / 64)
  same_place p q l e = (omega arith, omega arith)

  one_kept : (p q : ℕ) → in_half h before p q ≡ true → in_half h after p q ≡ true
  unfolding on_line
  one_kept p q u = ⊎_elim same else (eq-or-ne (h + p * 3 + q / 64) (h + x * 3 + y / 64))
    where
      same : h + p * 3 + q / 64 ≡ h + x * 3 + y / 64 → bit (get_or after (h + p * 3 + q / 64) 0) (q % 64) ≡ true
      same e =
          subst (λ (z : ℕ). bit (get_or after z 0) (q % 64) ≡ true) (sym e)
          (ap (λ (w : ℕ). bit w (q % 64)) one_word ∙ bit_or_left _ _ _ (subst (λ (z : ℕ). bit (get_or before z 0) (q % 64) ≡ true) e u))

      else : (h + p * 3 + q / 64 ≡ h + x * 3 + y / 64 → ⊥) → bit (get_or after (h + p * 3 + q / 64) 0) (q % 64) ≡ true
      else n = ap (λ (w : ℕ). bit w (q % 64)) (A.there _ n) ∙ u

  one-bits : (p q : ℕ) → q < 192 → in_half h after p q ≡ true → (in_half h before p q ≡ true) ⊎ ((p ≡ x) × (q ≡ y))
  unfolding on_line
  one-bits p q l u = ⊎_elim same else (eq-or-ne (h + p * 3 + q / 64) (h + x * 3 + y / 64))
    where
      same : h + p * 3 + q / 64 ≡ h + x * 3 + y / 64 → (bit (get_or before (h + p * 3 + q / 64) 0) (q % 64) ≡ true) ⊎ ((p ≡ x) × (q ≡ y))
      same e =
          let s = same_place p q l e in
          ⊎_elim (λ v. inl (subst (λ (z : ℕ). bit (get_or before z 0) (q % 64) ≡ true) (sym e) v))
          (λ v. let r = bit-pow-other (q % 64) (y % 64) v in inr (s.0, omega (arith, s.1, r)))
          (bit-or-cases (get_or before (h + x * 3 + y / 64) 0) (2 ^ (y % 64)) (q % 64)
          (ap (λ (w : ℕ). bit w (q % 64)) (sym one_word) ∙ subst (λ (z : ℕ). bit (get_or after z 0) (q % 64) ≡ true) e u))

      else : (h + p * 3 + q / 64 ≡ h + x * 3 + y / 64 → ⊥) → (bit (get_or before (h + p * 3 + q / 64) 0) (q % 64) ≡ true) ⊎ ((p ≡ x) × (q ≡ y))
      else n = inl (ap (λ (w : ℕ). bit w (q % 64)) (sym (A.there _ n)) ∙ u)

  one-taken : in_half h after x y ≡ true
  unfolding on_line
  one-taken = ap (λ (w : ℕ). bit w (y % 64)) one_word ∙ bit_or_right (get_or before (h + x * 3 + y / 64) 0) (2 ^ (y % 64)) (y % 64) (bit-pow (y % 64))

  one-other : (g : ℕ) → Apart h g → (p q : ℕ) → p < 192 → q < 192 → in_half g after p q ≡ in_half g before p q
  unfolding on_line
  one-other g (inl u) p q l k = ap (λ (w : ℕ). bit w (q % 64)) (A.there _ (λ e. omega arith))
  one-other g (inr u) p q l k = ap (λ (w : ℕ). bit w (q % 64)) (A.there _ (λ e. omega arith))

-- ---- a mark: one bit of each half
module _ (before one after : List ℕ) (base x y : ℕ) (a b : Bool) (at : Base base) (lx : x < 192) (ly : y < 192) (S : Square before)
    (A : Absorbs before one (base + x * 3 + y / 64) (1 * 2 ^ (y % 64) % 18446744073709551616) a)
    (B : Absorbs one after (576 - base + y * 3 + x / 64) (1 * 2 ^ (x % 64) % 18446744073709551616) b) where
  mark-kept : (p q : ℕ) → p < 192 → q < 192 → in_half base before p q ≡ true → in_half base after p q ≡ true
  mark-kept p q l k u =
      one-other one after (576 - base) y x b ly lx B base (other_way _ _ (apart base at)) p q l k ∙ one_kept before one base x y a lx ly A p q u

  mark-bits : (p q : ℕ) → p < 192 → q < 192 → in_half base after p q ≡ true → (in_half base before p q ≡ true) ⊎ ((p ≡ x) × (q ≡ y))
  mark-bits p q l k u =
      one-bits before one base x y a lx ly A p q k (sym (one-other one after (576 - base) y x b ly lx B base (other_way _ _ (apart base at)) p q l k) ∙ u)

  mark-taken : in_half base after x y ≡ true
  mark-taken = one-other one after (576 - base) y x b ly lx B base (other_way _ _ (apart base at)) x y lx ly ∙ one-taken before one base x y a lx ly A

  -- the other half
  turned-kept : (p q : ℕ) → p < 192 → q < 192 → in_half (576 - base) before p q ≡ true → in_half (576 - base) after p q ≡ true
  turned-kept p q l k u = one_kept one after (576 - base) y x b ly lx B p q (one-other before one base x y a lx ly A (576 - base) (apart base at) p q l k ∙ u)

  turned-bits : (p q : ℕ) → p < 192 → q < 192 → in_half (576 - base) after p q ≡ true → (in_half (576 - base) before p q ≡ true) ⊎ ((p ≡ y) × (q ≡ x))
  turned-bits p q l k u =
      ⊎_elim (λ v. inl (sym (one-other before one base x y a lx ly A (576 - base) (apart base at) p q l k) ∙ v)) (λ v. inr v)
      (one-bits one after (576 - base) y x b ly lx B p q k u)

  turned_taken : in_half (576 - base) after y x ≡ true
  turned_taken = one-taken one after (576 - base) y x b ly lx B

  mark-mirror : (p q : ℕ) → p < 192 → q < 192 → in_half base after p q ≡ in_half (576 - base) after q p
  mark-mirror p q l k =
      same_bool _ _
      (λ u.
      ⊎_elim (λ v. turned-kept q p k l (sym (mirrored base (576 - base) (apart base at) before S p q l k) ∙ v))
      (λ v. subst (λ (z : ℕ). in_half (576 - base) after z p ≡ true) (sym v.1) (subst (λ (z : ℕ). in_half (576 - base) after y z ≡ true) (sym v.0) turned_taken))
      (mark-bits p q l k u))
      (λ u.
      ⊎_elim (λ v. mark-kept p q l k (mirrored base (576 - base) (apart base at) before S p q l k ∙ v))
      (λ v. subst (λ (z : ℕ). in_half base after z q ≡ true) (sym v.1) (subst (λ (z : ℕ). in_half base after x z ≡ true) (sym v.0) mark-taken))
      (turned-bits q p k l u))

  pub marks : Adds (in_half base) before after (λ p q. (p ≡ x) × (q ≡ y)) (a || b)
  marks =
      record {
        square = square-of base (576 - base) (apart base at) after (B.long ∙ A.long ∙ S.long) mark-mirror;
        kept = mark-kept;
        bits = mark-bits;
        taken = λ p q l k u. subst (λ (z : ℕ). in_half base after z q ≡ true) (sym u.0) (subst (λ (z : ℕ). in_half base after x z ≡ true) (sym u.1) mark-taken);
        same = λ e. let f : (a ≡ false) × (b ≡ false) = any_false a b e in B.quiet f.1 ∙ A.quiet f.0;
        less =
            λ e.
            let u = falls before one a A.quiet A.less in
            let v = falls one after b B.quiet B.less in
            ⊎_elim (λ f. omega (arith, A.less f, u, v)) (λ f. omega (arith, B.less f, u, v)) (any-true a b e);
      }

-- ---- several
module _ {read : List ℕ → ℕ → ℕ → Bool} where
  pub adds_none : {s : List ℕ} → Square s → Adds read s s (λ p q. ⊥) false
  adds_none S =
      record {
        square = S;
        kept = λ p q l k u. u;
        bits = λ p q l k u. inl u;
        taken = λ p q l k u. absurd u;
        same = λ e. refl;
        less = λ e. not-both true refl (sym e);
      }

  pub adds_then :
      {before mid after : List ℕ} {N M : ℕ → ℕ → Type 0} {a b : Bool} → Adds read before mid N a → Adds read mid after M b
      → Adds read before after (λ p q. N p q ⊎ M p q) (a || b)
  adds_then {before} {mid} {after} {N} {M} {a} {b} A B =
      record {
        square = B.square;
        kept = λ p q l k u. B.kept p q l k (A.kept p q l k u);
        bits = λ p q l k u. ⊎_elim (λ v. ⊎_elim (λ w. inl w) (λ w. inr (inl w)) (A.bits p q l k v)) (λ v. inr (inr v)) (B.bits p q l k u);
        taken = λ p q l k u. ⊎_elim (λ v. B.kept p q l k (A.taken p q l k v)) (λ v. B.taken p q l k v) u;
        same = λ e. let f : (a ≡ false) × (b ≡ false) = any_false a b e in B.same f.1 ∙ A.same f.0;
        less =
            λ e.
            let u = falls before mid a A.same A.less in
            let v = falls mid after b B.same B.less in
            ⊎_elim (λ f. omega (arith, A.less f, u, v)) (λ f. omega (arith, B.less f, u, v)) (any-true a b e);
      }

  -- the same marks, worded otherwise: what it adds besides was there
  pub adds-as :
      {before after : List ℕ} {N M : ℕ → ℕ → Type 0} {changed : Bool} → Adds read before after N changed
      → ((p q : ℕ) → p < 192 → q < 192 → N p q → M p q) → ((p q : ℕ) → p < 192 → q < 192 → M p q → (read before p q ≡ true) ⊎ N p q)
      → Adds read before after M changed
  adds-as A there back =
      record {
        square = A.square;
        kept = A.kept;
        bits = λ p q l k u. ⊎_elim (λ v. inl v) (λ v. inr (there p q l k v)) (A.bits p q l k u);
        taken = λ p q l k u. ⊎_elim (λ v. A.kept p q l k v) (λ v. A.taken p q l k v) (back p q l k u);
        same = A.same;
        less = A.less;
      }

-- ---- the bits of a word
pub record Taking (base x k add : ℕ) (before : List ℕ) (rest : ℕ) (after : List ℕ) (changed : Bool) : Type 0 where
  pub small : rest < 2 ^ 64
  pub inside : (b : ℕ) → bit rest b ≡ true → bit add b ≡ true
  pub adds : Adds (in_half base) before after (λ p q. (p ≡ x) × InWord k add q × (bit rest (q % 64) ≡ false)) changed

module _ (base x k add : ℕ) (before : List ℕ) where
  pub taking-first :
      Square before → bit_xor (bit_or (get_or before (base + x * 3 + k) 0) add) (get_or before (base + x * 3 + k) 0) < 2 ^ 64
      → Taking base x k add before (bit_xor (bit_or (get_or before (base + x * 3 + k) 0) add) (get_or before (base + x * 3 + k) 0)) before false
  unfolding on_line both
  taking-first S small =
      record {
        small = small;
        inside = λ b u. (both_true _ _ (sym (lacking (get_or before (base + x * 3 + k) 0) add b) ∙ u)).0;
        adds = adds-as (adds_none S) (λ p q l m u. absurd u) (λ p q l m u. inl (there p q u));
      }
    where
      was : (a o : Bool) → a ≡ true → both a (not o) ≡ false → o ≡ true
      was true true e f = refl
      was true false e f = sym f
      was false o e f = not-both true refl (sym e)

      there : (p q : ℕ) → (p ≡ x) × InWord k add q × (bit (bit_xor (bit_or (get_or before (base + x * 3 + k) 0) add) (get_or before (base + x * 3 + k) 0)) (q % 64) ≡ false) → in_half base before p q ≡ true
      there p q (e, (f, g), h) =
          subst (λ (z : ℕ). on_line before (base + z * 3) q ≡ true) (sym e)
          (subst (λ (z : ℕ). bit (get_or before (base + x * 3 + z) 0) (q % 64) ≡ true) (sym f)
          (was (bit add (q % 64)) _ g (sym (lacking (get_or before (base + x * 3 + k) 0) add (q % 64)) ∙ h)))

  module _ (rest : ℕ) (mid after : List ℕ) (a b : Bool) (low : k < 3) (T : Taking base x k add before rest mid a) (some : rest ≡ 0 → ⊥) where
    next : Lowest 64 rest (count_trailing_zeros 64 rest) (bit_and rest (rest - 1))
    next = lowest 64 rest (omega arith) T.small

    pub taking-low : k * 64 + count_trailing_zeros 64 rest < 192
    taking-low = omega (arith, next.low)

    pub taking-more :
        bit_and rest (rest - 1) < 2 ^ 64 → Adds (in_half base) mid after (λ p q. (p ≡ x) × (q ≡ k * 64 + count_trailing_zeros 64 rest)) b
        → Taking base x k add before (bit_and rest (rest - 1)) after (a || b)
    taking-more small A =
        record {
          small = small;
          inside = λ c u. T.inside c (still c u);
          adds = adds-as (adds_then T.adds A) there back;
        }
      where
        still : (c : ℕ) → bit (bit_and rest (rest - 1)) c ≡ true → bit rest c ≡ true
        still c u = ⊎_elim (λ (e : c ≡ count_trailing_zeros 64 rest). not-both _ u (ap (bit (bit_and rest (rest - 1))) e ∙ next.gone)) (λ n. sym (next.others c n) ∙ u) (eq-or-ne c (count_trailing_zeros 64 rest))

        at_place : (q : ℕ) → q ≡ k * 64 + count_trailing_zeros 64 rest → (q / 64 ≡ k) × (q % 64 ≡ count_trailing_zeros 64 rest)
        at_place q e = (omega (arith, next.low), omega (arith, next.low))

        there :
            (p q : ℕ) → p < 192 → q < 192 → ((p ≡ x) × InWord k add q × (bit rest (q % 64) ≡ false)) ⊎ ((p ≡ x) × (q ≡ k * 64 + count_trailing_zeros 64 rest))
            → (p ≡ x) × InWord k add q × (bit (bit_and rest (rest - 1)) (q % 64) ≡ false)
        there p q l m (inl (e, f, g)) =
            (e, f, ⊎_elim (λ (u : q % 64 ≡ count_trailing_zeros 64 rest). ap (bit (bit_and rest (rest - 1))) u ∙ next.gone) (λ n. next.others (q % 64) n ∙ g) (eq-or-ne (q % 64) (count_trailing_zeros 64 rest)))
        there p q l m (inr (e, f)) =
            let (u, v) = at_place q f in
            (e, (u, ap (bit add) v ∙ T.inside _ next.here), ap (bit (bit_and rest (rest - 1))) v ∙ next.gone)

        back :
            (p q : ℕ) → p < 192 → q < 192 → (p ≡ x) × InWord k add q × (bit (bit_and rest (rest - 1)) (q % 64) ≡ false)
            → (in_half base before p q ≡ true) ⊎ (((p ≡ x) × InWord k add q × (bit rest (q % 64) ≡ false)) ⊎ ((p ≡ x) × (q ≡ k * 64 + count_trailing_zeros 64 rest)))
        back p q l m (e, f, g) =
            ⊎_elim (λ (u : q % 64 ≡ count_trailing_zeros 64 rest). inr (inr (e, omega (arith, f.0, u)))) (λ n. inr (inl (e, f, sym (next.others (q % 64) n) ∙ g)))
            (eq-or-ne (q % 64) (count_trailing_zeros 64 rest))

  pub taking-done :
      (rest : ℕ) (after : List ℕ) (changed : Bool) → Taking base x k add before rest after changed → rest ≡ 0
      → Adds (in_half base) before after (λ p q. (p ≡ x) × InWord k add q) changed
  taking-done rest after changed T e =
      adds-as T.adds (λ p q l m u. (u.0, u.1)) (λ p q l m u. inr (u.0, u.1, ap (λ (z : ℕ). bit z (q % 64)) e ∙ no_bits (q % 64)))

-- ---- three words
module _ (first second third : ℕ) where
  word_in : (q : ℕ) → q < 192 → InThree first second third q → (InWord 0 first q ⊎ InWord 1 second q) ⊎ InWord 2 third q
  unfolding on_line
  word_in q l u = go (q / 64) refl (omega arith) u
    where
      go : (w : ℕ) → q / 64 ≡ w → w < 3 → bit (get_or (first ∷ second ∷ third ∷ []) (0 + w) 0) (q % 64) ≡ true → (InWord 0 first q ⊎ InWord 1 second q) ⊎ InWord 2 third q
      go zero e h v = inl (inl (e, v))
      go (suc zero) e h v = inl (inr (e, v))
      go (suc (suc zero)) e h v = inr (e, v)
      go (suc (suc (suc w))) e h v = absurd (omega arith)

  in-word : (q : ℕ) → (InWord 0 first q ⊎ InWord 1 second q) ⊎ InWord 2 third q → InThree first second third q
  unfolding on_line
  in-word q (inl (inl (e, u))) = ap (λ (w : ℕ). bit (get_or (first ∷ second ∷ third ∷ []) (0 + w) 0) (q % 64)) e ∙ u
  in-word q (inl (inr (e, u))) = ap (λ (w : ℕ). bit (get_or (first ∷ second ∷ third ∷ []) (0 + w) 0) (q % 64)) e ∙ u
  in-word q (inr (e, u)) = ap (λ (w : ℕ). bit (get_or (first ∷ second ∷ third ∷ []) (0 + w) 0) (q % 64)) e ∙ u

has-bits : (w add b : ℕ) → bit_or w add ≡ w → bit add b ≡ true → bit w b ≡ true
has-bits w add b e u = ap (λ (z : ℕ). bit z b) (sym e) ∙ bit_or_right w add b u

pub holding :
    (s : List ℕ) (at first second third : ℕ) → bit_or (get_or s at 0) first ≡ get_or s at 0 → bit_or (get_or s (at + 1) 0) second ≡ get_or s (at + 1) 0
    → (b : Bool) → (b ≡ true → bit_or (get_or s (at + 2) 0) third ≡ get_or s (at + 2) 0) → Holding s at first second third b
unfolding on_line
holding s at first second third e f b g h y l u = go (word_in first second third y l u)
  where
    go : (InWord 0 first y ⊎ InWord 1 second y) ⊎ InWord 2 third y → bit (get_or s (at + y / 64) 0) (y % 64) ≡ true
    go (inl (inl (p, v))) = subst (λ (z : ℕ). bit (get_or s z 0) (y % 64) ≡ true) (omega arith) (has-bits (get_or s at 0) first (y % 64) e v)
    go (inl (inr (p, v))) = subst (λ (z : ℕ). bit (get_or s (at + z) 0) (y % 64) ≡ true) (sym p) (has-bits (get_or s (at + 1) 0) second (y % 64) f v)
    go (inr (p, v)) = subst (λ (z : ℕ). bit (get_or s (at + z) 0) (y % 64) ≡ true) (sym p) (has-bits (get_or s (at + 2) 0) third (y % 64) (g h) v)

module _ (base x first second third : ℕ) where
  pub take_none :
      (s : List ℕ) (b : Bool) → Square s → Holding s (base + x * 3) first second third b → b ≡ true
      → Adds (in_half base) s s (λ p q. (p ≡ x) × InThree first second third q) false
  take_none s b S h e =
      adds-as (adds_none S) (λ p q l k u. absurd u) (λ p q l k u. inl (subst (λ (z : ℕ). on_line s (base + z * 3) q ≡ true) (sym u.0) (h e q k u.1)))

  pub take_words :
      {before one two after : List ℕ} {a b c : Bool} → Adds (in_half base) before one (λ p q. (p ≡ x) × InWord 0 first q) a
      → Adds (in_half base) one two (λ p q. (p ≡ x) × InWord 1 second q) b → Adds (in_half base) two after (λ p q. (p ≡ x) × InWord 2 third q) c
      → Adds (in_half base) before after (λ p q. (p ≡ x) × InThree first second third q) ((a || b) || c)
  take_words {before} A B C = adds-as (adds_then (adds_then A B) C) there (back before)
    where
      there :
          (p q : ℕ) → p < 192 → q < 192 → (((p ≡ x) × InWord 0 first q) ⊎ ((p ≡ x) × InWord 1 second q)) ⊎ ((p ≡ x) × InWord 2 third q)
          → (p ≡ x) × InThree first second third q
      there p q l k (inl (inl (e, u))) = (e, in-word first second third q (inl (inl u)))
      there p q l k (inl (inr (e, u))) = (e, in-word first second third q (inl (inr u)))
      there p q l k (inr (e, u)) = (e, in-word first second third q (inr u))

      split : (p q : ℕ) → p ≡ x → (InWord 0 first q ⊎ InWord 1 second q) ⊎ InWord 2 third q → (((p ≡ x) × InWord 0 first q) ⊎ ((p ≡ x) × InWord 1 second q)) ⊎ ((p ≡ x) × InWord 2 third q)
      split p q e (inl (inl u)) = inl (inl (e, u))
      split p q e (inl (inr u)) = inl (inr (e, u))
      split p q e (inr u) = inr (e, u)

      back :
          (s : List ℕ) (p q : ℕ) → p < 192 → q < 192 → (p ≡ x) × InThree first second third q
          → (in_half base s p q ≡ true) ⊎ ((((p ≡ x) × InWord 0 first q) ⊎ ((p ≡ x) × InWord 1 second q)) ⊎ ((p ≡ x) × InWord 2 third q))
      back s p q l k (e, u) = inr (split p q e (word_in first second third q k u))

-- ---- rows and columns
pub row-half : (s : List ℕ) (i j : ℕ) → in_half 0 s i j ≡ in_row s i j
row-half s i j = line_at s _ _ j (omega arith)

pub column-half : (s : List ℕ) (i j : ℕ) → Square s → i < 192 → j < 192 → in_half 576 s j i ≡ in_row s i j
column-half s i j S l k = sym (S.mirror i j l k)

pub adds-rows : {before after : List ℕ} {N : ℕ → ℕ → Type 0} {changed : Bool} → Adds (in_half 0) before after N changed → Adds in_row before after N changed
adds-rows {before} {after} A =
    record {
      square = A.square;
      kept = λ i j l k u. sym (row-half after i j) ∙ A.kept i j l k (row-half before i j ∙ u);
      bits = λ i j l k u. ⊎_elim (λ v. inl (sym (row-half before i j) ∙ v)) (λ v. inr v) (A.bits i j l k (row-half after i j ∙ u));
      taken = λ i j l k u. sym (row-half after i j) ∙ A.taken i j l k u;
      same = A.same;
      less = A.less;
    }

pub adds-columns :
    {before after : List ℕ} {N : ℕ → ℕ → Type 0} {changed : Bool} → Square before → Adds (in_half 576) before after N changed → Adds in_row before after (λ i j. N j i) changed
adds-columns {before} {after} S A =
    record {
      square = A.square;
      kept = λ i j l k u. sym (column-half after i j A.square l k) ∙ A.kept j i k l (column-half before i j S l k ∙ u);
      bits = λ i j l k u. ⊎_elim (λ v. inl (sym (column-half before i j S l k) ∙ v)) (λ v. inr v) (A.bits j i k l (column-half after i j A.square l k ∙ u));
      taken = λ i j l k u. sym (column-half after i j A.square l k) ∙ A.taken j i k l u;
      same = A.same;
      less = A.less;
    }

-- what `flow` and `meet` add
pub flow-adds :
    {before after : List ℕ} {changed : Bool} (from to : ℕ)
    → Adds (in_half 0) before after (λ p q. (p ≡ to) × InThree (get_or before (from * 3) 0) (get_or before (from * 3 + 1) 0) (get_or before (from * 3 + 2) 0) q) changed
    → Adds in_row before after (λ i j. (i ≡ to) × (in_row before from j ≡ true)) changed
flow-adds {before} from to A =
    adds-as (adds-rows A) (λ i j l k u. (u.0, sym (line-three before (from * 3) j k) ∙ u.1))
    (λ i j l k u. inr (u.0, line-three before (from * 3) j k ∙ u.1))

pub meet-adds :
    {before after : List ℕ} {changed : Bool} (left right to : ℕ) → left < 192 → right < 192 → Square before
    → Adds (in_half 576) before after
    (λ p q. (p ≡ to) × InThree (bit_and (get_or before (576 + left * 3) 0) (get_or before (576 + right * 3) 0))
    (bit_and (get_or before (576 + left * 3 + 1) 0) (get_or before (576 + right * 3 + 1) 0)) (bit_and (get_or before (576 + left * 3 + 2) 0) (get_or before (576 + right * 3 + 2) 0)) q) changed
    → Adds in_row before after (λ i j. (j ≡ to) × (in_row before i left ≡ true) × (in_row before i right ≡ true)) changed
meet-adds {before} left right to ll lr S A =
    adds-as (adds-columns S A)
    (λ i j l k u.
    let v = both_true _ _ (sym (both-three before (576 + left * 3) (576 + right * 3) i l) ∙ u.1) in
    (u.0, S.mirror i left l ll ∙ v.0, S.mirror i right l lr ∙ v.1))
    (λ i j l k u.
    inr (u.0, both-three before (576 + left * 3) (576 + right * 3) i l ∙ both-intro _ _ (sym (S.mirror i left l ll) ∙ u.1) (sym (S.mirror i right l lr) ∙ u.2)))
