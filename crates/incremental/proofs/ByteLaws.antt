-- Adding words to bytes.
use Prim.Native.Nat.{ℕ, ◌+◌, ◌*◌, ◌/◌, ◌%◌, ◌^◌, ◌<◌, ◌≤◌}
use mathlib.Core.Path.{◌≡◌, refl, ap, ap₂, sym, ◌∙◌, subst}
use mathlib.Core.List.{List}
use mathlib.Core.Bool.{Bool}
use mathlib.Core.Logic.{◌⊎◌, inl, inr, ⊎_elim}
use native.Mathlib.Omega.{arith}
use lib.ListN.{length, get_or, set, length-set}
use lib.Seq.{get_or-set_same, get_or-set_other}
use lib.Bits.{bit_or}
use Rattle.subsumption.specs.Tables.{or}
use Rattle.subsumption.specs.Atoms.{bit}
use Rattle.subsumption.specs.Table.{row_start, marked}
use Rattle.subsumption.proofs.Bools.{or-first, same_bool, or_cases, eq-or-ne, le-or-lt, last-cases}
use Rattle.subsumption.proofs.Bits.{bit-or, bit_or_right, bit-shr, bit-mod}
use Rattle.square.specs.Inner.Square.{on_line, in_row}
use Rattle.square.specs.Inner.Loading.{WordOf}
use Rattle.incremental.specs.Inner.Bytes.{WordStored, RowStored}

-- ---- a word's bits come to eight bytes
pub record AddedTo (word at : ℕ) (before : List ℕ) (m : ℕ) (after : List ℕ) : Type 0 where
  pub within : m ≤ 8
  pub size : length after ≡ length before
  pub bits : (k : ℕ) → k < m * 8 → bit (get_or after (at + k / 8) 0) (k % 8) ≡ or (bit (get_or before (at + k / 8) 0) (k % 8)) (bit word k)
  pub there : (p : ℕ) → (p < at) ⊎ (at + m ≤ p) → get_or after p 0 ≡ get_or before p 0

module _ (word at : ℕ) (before : List ℕ) where
  pub added_more :
      (m : ℕ) (mid : List ℕ) → m < 8 → at + 8 ≤ length before → AddedTo word at before m mid
      → AddedTo word at before (m + 1) (set mid (at + m) (bit_or (get_or mid (at + m) 0) (word / 2 ^ (m * 8) % 2 ^ 8)))
  added_more m mid h room A =
      record {
        within = omega arith;
        size = length-set mid (at + m) byte ∙ A.size;
        bits = λ k l. ⊎_elim (here k l) (old k l) (eq-or-ne (k / 8) m);
        there = λ p l. apart p l;
      }
    where
      byte : ℕ
      byte = bit_or (get_or mid (at + m) 0) (word / 2 ^ (m * 8) % 2 ^ 8)

      apart : (p : ℕ) → (p < at) ⊎ (at + (m + 1) ≤ p) → get_or (set mid (at + m) byte) p 0 ≡ get_or before p 0
      apart p (inl l) = get_or-set_other mid (at + m) p byte 0 (λ e. omega arith) ∙ A.there p (inl l)
      apart p (inr l) = get_or-set_other mid (at + m) p byte 0 (λ e. omega arith) ∙ A.there p (inr (omega arith))

      here : (k : ℕ) → k < (m + 1) * 8 → k / 8 ≡ m → bit (get_or (set mid (at + m) byte) (at + k / 8) 0) (k % 8) ≡ or (bit (get_or before (at + k / 8) 0) (k % 8)) (bit word k)
      here k l e =
          let f : at + k / 8 ≡ at + m = omega arith in
          let g : m * 8 + k % 8 ≡ k = omega arith in
          ap (λ (z : ℕ). bit (get_or (set mid (at + m) byte) z 0) (k % 8)) f
          ∙ ap (λ (z : ℕ). bit z (k % 8)) (get_or-set_same mid (at + m) byte 0 (omega (arith, A.size)))
          ∙ bit-or (get_or mid (at + m) 0) (word / 2 ^ (m * 8) % 2 ^ 8) (k % 8)
          ∙ ap₂ or
          (ap (λ (z : ℕ). bit z (k % 8)) (A.there (at + m) (inr (omega arith))) ∙ ap (λ (z : ℕ). bit (get_or before z 0) (k % 8)) (sym f))
          (bit-mod (word / 2 ^ (m * 8)) 8 (k % 8) (omega arith) ∙ bit-shr word (m * 8) (k % 8) ∙ ap (bit word) g)

      old : (k : ℕ) → k < (m + 1) * 8 → (k / 8 ≡ m → ⊥) → bit (get_or (set mid (at + m) byte) (at + k / 8) 0) (k % 8) ≡ or (bit (get_or before (at + k / 8) 0) (k % 8)) (bit word k)
      old k l n = ap (λ (z : ℕ). bit z (k % 8)) (get_or-set_other mid (at + m) (at + k / 8) byte 0 (λ e. n (omega arith))) ∙ A.bits k (omega (arith, n))

  -- nothing to add
  pub added_none : (old : ℕ) → WordOf before at old → bit_or old word ≡ old → WordStored word at before before
  added_none old W e =
      record {
        size = refl;
        bits =
            λ k l.
            same_bool _ _ (λ u. or-first _ _ u)
            (λ u.
            ⊎_elim (λ v. v)
            (λ v. sym (W.bits k l) ∙ ap (λ (z : ℕ). bit z k) (sym e) ∙ bit_or_right old word k v)
            (or_cases (bit (get_or before (at + k / 8) 0) (k % 8)) (bit word k) u));
        there = λ p l. refl;
      }

-- ---- a row
pub record RowStoredTo (square : List ℕ) (i : ℕ) (before : List ℕ) (w : ℕ) (after : List ℕ) : Type 0 where
  pub size : length after ≡ length before
  pub bits : (j : ℕ) → j < w * 64 → marked after i j ≡ or (marked before i j) (in_row square i j)
  pub there : (p : ℕ) → (p < i * 24) ⊎ (i * 24 + w * 8 ≤ p) → get_or after p 0 ≡ get_or before p 0

module _ (square : List ℕ) (i : ℕ) (before : List ℕ) where
  pub stored-none : RowStoredTo square i before 0 before
  stored-none = record { size = refl; bits = λ j h. absurd (omega arith); there = λ p h. refl }

  pub stored_more :
      (w at word : ℕ) (mid after : List ℕ) → RowStoredTo square i before w mid → at ≡ i * 24 + w * 8 → word ≡ get_or square (i * 3 + w) 0
      → WordStored word at mid after → RowStoredTo square i before (w + 1) after
  unfolding marked row_start on_line
  stored_more w at word mid after T e f S =
      record {
        size = S.size ∙ T.size;
        bits = λ j l. ⊎_elim (here j l) (old j l) (le-or-lt (w * 64) j);
        there = λ p l. ⊎_elim (λ u. S.there p (inl (omega arith)) ∙ T.there p (inl u)) (λ u. S.there p (inr (omega arith)) ∙ T.there p (inr (omega arith))) l;
      }
    where
      old : (j : ℕ) → j < (w + 1) * 64 → j < w * 64 → marked after i j ≡ or (marked before i j) (in_row square i j)
      old j l u = ap (λ (z : ℕ). bit z (j % 8)) (S.there (i * 24 + j / 8) (inl (omega arith))) ∙ T.bits j u

      here : (j : ℕ) → j < (w + 1) * 64 → w * 64 ≤ j → marked after i j ≡ or (marked before i j) (in_row square i j)
      here j l u =
          let a : at + j % 64 / 8 ≡ i * 24 + j / 8 = omega arith in
          let b : j % 64 % 8 ≡ j % 8 = omega arith in
          let c : w ≡ j / 64 = omega arith in
          subst
          (λ (y : ℕ). bit (get_or after (i * 24 + j / 8) 0) y ≡ or (bit (get_or before (i * 24 + j / 8) 0) y) (bit (get_or square (i * 3 + j / 64) 0) (j % 64))) b
          (subst
          (λ (z : ℕ). bit (get_or after z 0) (j % 64 % 8) ≡ or (bit (get_or before z 0) (j % 64 % 8)) (bit (get_or square (i * 3 + j / 64) 0) (j % 64))) a
          (S.bits (j % 64) (omega arith)
          ∙ ap₂ or (ap (λ (z : ℕ). bit z (j % 64 % 8)) (T.there (at + j % 64 / 8) (inr (omega arith))))
          (ap (λ (z : ℕ). bit z (j % 64)) f ∙ ap (λ (z : ℕ). bit (get_or square (i * 3 + z) 0) (j % 64)) c)))

  pub stored_row : (after : List ℕ) → RowStoredTo square i before 3 after → RowStored square i before after
  unfolding row_start
  stored_row after T =
      record {
        size = T.size;
        bits = λ j l. T.bits j (omega arith);
        under = λ p l. T.there p (inl (omega arith));
        over = λ p l. T.there p (inr (omega arith));
      }

-- ---- all rows
pub record StoredTo (square : List ℕ) (count : ℕ) (before : List ℕ) (n : ℕ) (after : List ℕ) : Type 0 where
  pub within : n ≤ count
  pub size : length after ≡ length before
  pub bits : (i j : ℕ) → i < n → j < 192 → marked after i j ≡ or (marked before i j) (in_row square i j)
  pub rest : (p : ℕ) → row_start n ≤ p → get_or after p 0 ≡ get_or before p 0

module _ (square : List ℕ) (count : ℕ) (before : List ℕ) where
  pub stored_next : (n : ℕ) (mid after : List ℕ) → n < count → StoredTo square count before n mid → RowStored square n mid after → StoredTo square count before (n + 1) after
  unfolding row_start marked
  stored_next n mid after h T R =
      record {
        within = omega arith;
        size = R.size ∙ T.size;
        bits =
            λ i j l m.
            ⊎_elim
            (λ (e : i ≡ n).
            subst (λ (z : ℕ). marked after z j ≡ or (marked before z j) (in_row square z j)) (sym e)
            (R.bits j m ∙ ap (λ (z : Bool). or z (in_row square n j)) (ap (λ (z : ℕ). bit z (j % 8)) (T.rest (n * 24 + j / 8) (omega arith)))))
            (λ v. ap (λ (z : ℕ). bit z (j % 8)) (R.under (i * 24 + j / 8) (omega arith)) ∙ T.bits i j v m) (last-cases i n (omega arith));
        rest = λ p l. R.over p (omega arith) ∙ T.rest p (omega arith);
      }
