-- Writing to a buffer, piece after piece.
use Prim.Native.Nat.{ℕ, zero, suc, ◌+◌, ◌/◌, ◌%◌, ◌^◌, ◌<◌, ◌≤◌}
use mathlib.Core.Path.{◌≡◌, refl, sym, ap, ◌∙◌}
use mathlib.Core.List.{List, [], ◌∷◌, ◌++◌, append_assoc, append-nil}
use native.Mathlib.Omega.{arith}
use native.Mathlib.Numerals.{add-one}
use lib.ListN.{length, take, drop, set, length-append, length-drop, take-append-drop}
use lib.Seq.{length-take-le, take_at, drop-drop, drop-append-add, set_split}
use Rattle.subsumption.specs.declared.refusal.Code.{Code}
use Rattle.numerals.specs.Digits.{digits}
use Rattle.numerals.specs.Printing.{number_text, pair_text, number_key, place_key, refused_text}
use Rattle.numerals.specs.Lines.{top_text, name_key, some_key, and_key, variable_key, row_text}
use Rattle.numerals.specs.Inner.Printing.{placed, Wrote}
use Rattle.numerals.proofs.DigitLaws.{digits-one, digits_more, digits-short}

head-length : (before : List ℕ) (at : ℕ) (xs : List ℕ) → at ≤ length before → length (take at before ++ xs) ≡ at + length xs
head-length before at xs h = length-append (take at before) xs ∙ ap (λ (z : ℕ). z + length xs) (length-take-le at before h)

pub placed-length : (before : List ℕ) (at : ℕ) (xs : List ℕ) → at + length xs ≤ length before → length (placed at xs before) ≡ length before
unfolding placed
placed-length before at xs h =
    length-append (take at before ++ xs) (drop (at + length xs) before)
    ∙ (let p = head-length before at xs (omega arith) in let q = length-drop (at + length xs) before in omega (arith, p, q))

placed-join :
    (before : List ℕ) (at : ℕ) (xs ys : List ℕ) → at + length xs ≤ length before
    → placed (at + length xs) ys (placed at xs before) ≡ placed at (xs ++ ys) before
unfolding placed
placed-join before at xs ys h =
    let l = head-length before at xs (omega arith) in
    let t = take_at (take at before ++ xs) (drop (at + length xs) before) (at + length xs) l in
    let d : drop (at + length xs + length ys) ((take at before ++ xs) ++ drop (at + length xs) before) ≡ drop (at + length (xs ++ ys)) before =
    ap (λ (z : ℕ). drop (z + length ys) ((take at before ++ xs) ++ drop (at + length xs) before)) (sym l)
    ∙ drop-append-add (take at before ++ xs) (drop (at + length xs) before) (length ys) ∙ drop-drop (length ys) (at + length xs) before
    ∙ ap (λ (z : ℕ). drop z before) sizes in
    rw (t, d, append_assoc (take at before) xs ys) refl
  where
    sizes : at + length xs + length ys ≡ at + length (xs ++ ys)
    sizes = rw length-append (omega arith)

pub wrote_none : (before : List ℕ) (at : ℕ) → Wrote before at [] at before
unfolding placed
wrote_none before at =
    let e : at + 0 ≡ at = omega arith in
    record { place = omega arith; buffer = sym (ap (λ (z : List ℕ). z ++ drop (at + 0) before) (append-nil (take at before)) ∙ rw e (take-append-drop at before)) }

pub wrote-byte : (before : List ℕ) (at v : ℕ) → at < length before → Wrote before at (v ∷ []) (at + 1) (set before at v)
unfolding placed
wrote-byte before at v h =
    record {
      place = refl;
      buffer = set_split before at v h ∙ sym (append_assoc (take at before) (v ∷ []) (drop (at + 1) before) ∙ ap (λ (z : ℕ). take at before ++ (v ∷ drop z before)) (add-one at));
    }

module _ (before : List ℕ) (at : ℕ) where
  pub wrote-length : (xs : List ℕ) (end : ℕ) (after : List ℕ) → at + length xs ≤ length before → Wrote before at xs end after → length after ≡ length before
  wrote-length xs end after h w = ap length w.buffer ∙ placed-length before at xs h

  pub wrote-join :
      (xs ys : List ℕ) (middle : ℕ) (between : List ℕ) (end : ℕ) (after : List ℕ) → at + length xs ≤ length before → Wrote before at xs middle between
      → Wrote between middle ys end after → Wrote before at (xs ++ ys) end after
  wrote-join xs ys middle between end after h v w =
      record {
        place = omega (arith, v.place, w.place, length-append xs ys);
        buffer =
            w.buffer ∙ ap (λ (z : ℕ). placed z ys between) v.place ∙ ap (λ (z : List ℕ). placed (at + length xs) ys z) v.buffer ∙ placed-join before at xs ys h;
      }

  -- ---- a number
  pub wrote-digit : (n : ℕ) → n < 10 → at + length (digits n) ≤ length before → Wrote before at (digits n) (at + 1) (set before at (48 + n))
  wrote-digit n h k = rw (digits-one n h) (wrote-byte before at (48 + n) (omega (arith, ap length (digits-one n h))))

  pub number-room : (n : ℕ) → 10 ≤ n → at + length (digits n) ≤ length before → at + length (digits (n / 10)) < length before
  number-room n h k = omega (arith, ap length (digits_more n h), length-append (digits (n / 10)) ((48 + n % 10) ∷ []))

  pub wrote-digits :
      (n : ℕ) → 10 ≤ n → at + length (digits n) ≤ length before → (next : ℕ) (between : List ℕ) → Wrote before at (digits (n / 10)) next between
      → Wrote before at (digits n) (next + 1) (set between next (48 + n % 10))
  wrote-digits n h k next between w =
      rw (digits_more n h)
      (wrote-join (digits (n / 10)) ((48 + n % 10) ∷ []) next between _ _ (omega (arith, number-room n h k)) w
      (wrote-byte between next (48 + n % 10) (omega (arith, number-room n h k, w.place, wrote-length (digits (n / 10)) next between (omega (arith, number-room n h k)) w))))

  pub next-within :
      (n : ℕ) → 10 ≤ n → at + length (digits n) ≤ length before → (next : ℕ) (between : List ℕ) → Wrote before at (digits (n / 10)) next between → next < length between
  next-within n h k next between w = omega (arith, number-room n h k, w.place, wrote-length (digits (n / 10)) next between (omega (arith, number-room n h k)) w)

-- ---- a text of three pieces
module _ (before : List ℕ) (at : ℕ) (x y z : List ℕ) (room : at + length (x ++ (y ++ z)) ≤ length before) where
  sizes : length (x ++ (y ++ z)) ≡ length x + (length y + length z)
  sizes = length-append x (y ++ z) ∙ ap (λ (n : ℕ). length x + n) (length-append y z)

  pub room-1 : at + length x ≤ length before
  room-1 = omega (arith, sizes)

  module _ (a : ℕ) (after-x : List ℕ) (wrote-x : Wrote before at x a after-x) where
    pub room-2 : a + length y ≤ length after-x
    room-2 = omega (arith, sizes, wrote-x.place, wrote-length before at x a after-x room-1 wrote-x)

    module _ (b : ℕ) (after-y : List ℕ) (wrote-y : Wrote after-x a y b after-y) where
      pub room-3 : b + length z ≤ length after-y
      room-3 = omega (arith, sizes, wrote-x.place, wrote-y.place, wrote-length before at x a after-x room-1 wrote-x, wrote-length after-x a y b after-y room-2 wrote-y)

      pub wrote-three : (e : ℕ) (after-z : List ℕ) → Wrote after-y b z e after-z → Wrote before at (x ++ (y ++ z)) e after-z
      wrote-three e after-z wrote-z = wrote-join before at x (y ++ z) a after-x e after-z room-1 wrote-x (wrote-join after-x a y z b after-y e after-z room-2 wrote-y wrote-z)

-- ---- a line of two numbers
module _ (before key : List ℕ) (at a b : ℕ) (room : at + length (pair_text key a b) ≤ length before) where
  pub pair-room-1 : at + length key ≤ length before
  unfolding pair_text number_text
  pair-room-1 = room-1 before at key (digits a) (number_text (44 ∷ []) b) room

  module _ (x : ℕ) (one : List ℕ) (wrote-1 : Wrote before at key x one) where
    pub pair-room-2 : x + length (digits a) ≤ length one
    unfolding pair_text number_text
    pair-room-2 = room-2 before at key (digits a) (number_text (44 ∷ []) b) room x one wrote-1

    module _ (y : ℕ) (two : List ℕ) (wrote-2 : Wrote one x (digits a) y two) where
      pub pair-room-3 : y + length (number_text (44 ∷ []) b) ≤ length two
      unfolding pair_text number_text
      pair-room-3 = room-3 before at key (digits a) (number_text (44 ∷ []) b) room x one wrote-1 y two wrote-2

      pub wrote-pair : (end : ℕ) (after : List ℕ) → Wrote two y (number_text (44 ∷ []) b) end after → Wrote before at (pair_text key a b) end after
      unfolding pair_text number_text
      wrote-pair end after wrote-3 = wrote-three before at key (digits a) (number_text (44 ∷ []) b) room x one wrote-1 y two wrote-2 end after wrote-3

-- ---- a line of the concept table, by its kind
module _ (kind a b : ℕ) where
  pub top-row : kind ≡ 0 → row_text kind a b ≡ top_text
  unfolding row_text
  top-row h = rw h refl

  pub name-row : kind ≡ 1 → row_text kind a b ≡ number_text name_key a
  unfolding row_text
  name-row h = rw h refl

  pub some-row : kind ≡ 2 → row_text kind a b ≡ pair_text some_key a b
  unfolding row_text
  some-row h = rw h refl

  pub and-row : kind ≡ 3 → row_text kind a b ≡ pair_text and_key a b
  unfolding row_text
  and-row h = rw h refl

  pub variable-row : kind ≡ 4 → row_text kind a b ≡ number_text variable_key a
  unfolding row_text
  variable-row h = rw h refl

  module _ (before : List ℕ) (at : ℕ) (line : List ℕ) (same : row_text kind a b ≡ line) where
    pub row_room : at + length (row_text kind a b) ≤ length before → at + length line ≤ length before
    row_room h = omega (arith, ap length same)

    pub wrote-row : (end : ℕ) (after : List ℕ) → Wrote before at line end after → Wrote before at (row_text kind a b) end after
    wrote-row end after w = rw same w

pub other_row : (kind a b : ℕ) → (kind ≡ 0 → ⊥) → (kind ≡ 1 → ⊥) → (kind ≡ 2 → ⊥) → (kind ≡ 3 → ⊥) → (kind ≡ 4 → ⊥) → row_text kind a b ≡ []
unfolding row_text
other_row zero a b g h i j k = absurd (g refl)
other_row (suc zero) a b g h i j k = absurd (h refl)
other_row (suc (suc zero)) a b g h i j k = absurd (i refl)
other_row (suc (suc (suc zero))) a b g h i j k = absurd (j refl)
other_row (suc (suc (suc (suc zero)))) a b g h i j k = absurd (k refl)
other_row (suc (suc (suc (suc (suc kind))))) a b g h i j k = refl

-- ---- how long the lines are
pub number-length : (key : List ℕ) (n : ℕ) → length (number_text key n) ≡ length key + length (digits n) + 1
unfolding number_text
number-length key n = omega (arith, length-append key (digits n ++ (10 ∷ [])), length-append (digits n) (10 ∷ []))

pub pair-length : (key : List ℕ) (a b : ℕ) → length (pair_text key a b) ≡ length key + length (digits a) + length (digits b) + 2
unfolding pair_text
pair-length key a b =
    omega (
      arith,
      length-append key (digits a ++ (44 ∷ (digits b ++ (10 ∷ [])))),
      length-append (digits a) (44 ∷ (digits b ++ (10 ∷ []))),
      length-append (digits b) (10 ∷ []),
    )

pub refused-room : (code : Code) (out : List ℕ) → code.number < 65536 → code.place < 2 ^ 64 → 4096 ≤ length out → 0 + length (refused_text code) ≤ length out
unfolding refused_text
refused-room code out h l k =
    omega (
      arith,
      number-length number_key code.number,
      digits-short 4 code.number (omega arith),
      number-length place_key code.place,
      digits-short 19 code.place (omega arith),
      length-append (number_text number_key code.number) (number_text place_key code.place),
    )
