-- Printing a card, line by line and piece by piece.
use Prim.Native.Nat.{ℕ, suc, ◌+◌, ◌-◌, ◌*◌, ◌<◌, ◌≤◌}
use mathlib.Core.Path.{◌≡◌, refl, sym, ap, ◌∙◌, subst}
use mathlib.Core.List.{List, ◌++◌}
use native.Mathlib.Omega.{arith}
use native.Mathlib.Nat.{suc-mul, zero-mul}
use native.Mathlib.Numerals.{add-one}
use lib.ListN.{length, get_or, take, drop, length-append}
use lib.Seq.{drop-drop, get_or-take, get_or-drop}
use Rattle.subsumption.specs.Tables.{count_of, pairs_of, left_of, right_of}
use Rattle.numerals.specs.Printing.{number_text, pair_text}
use Rattle.numerals.specs.Lines.{variables_key, concepts_key, inclusions_key, questions_key, below_key, row_text, lines_text, row_of_numbers, pair_of_numbers}
use Rattle.numerals.specs.Inner.Printing.{Wrote}
use Rattle.numerals.proofs.WriteLaws.{wrote-length, wrote-join}
use Rattle.numerals.proofs.PieceLaws.{Printed, piece-room, printed-more, printed-done}
use Rattle.hermitcasket_owl.specs.Card.{rows_text, pairs_text, entries_text, inclusions_text, card_text}

-- ---- a line for each row or pair: what is left after i of them
abbrev pub lines_left : (List ℕ → List ℕ) → ℕ → ℕ → List ℕ → ℕ → List ℕ
lines_left write width count xs i = lines_text write width (count - i) (drop (i * width) xs)

module _ (write : List ℕ → List ℕ) (width count : ℕ) (xs : List ℕ) where
  lines_next : (i : ℕ) → i < count → lines_left write width count xs i ≡ write (take width (drop (i * width) xs)) ++ lines_left write width count xs (i + 1)
  unfolding lines_text
  lines_next i h =
      let e : count - i ≡ suc (count - (i + 1)) = omega arith in
      let d : drop width (drop (i * width) xs) ≡ drop ((i + 1) * width) xs =
      drop-drop width (i * width) xs ∙ ap (λ (z : ℕ). drop z xs) (sym (ap (λ (z : ℕ). z * width) (add-one i) ∙ suc-mul i width)) in
      ap (λ (z : ℕ). lines_text write width z (drop (i * width) xs)) e
      ∙ ap (λ (z : List ℕ). write (take width (drop (i * width) xs)) ++ lines_text write width (count - (i + 1)) z) d

  all_left : lines_left write width count xs 0 ≡ lines_text write width count xs
  all_left = let e : count - 0 ≡ count = omega arith in rw (e, zero-mul width) refl

  module _ (before : List ℕ) (at : ℕ) (out : List ℕ) (end i : ℕ) (p : Printed (lines_left write width count xs) before at out end i) where
    module _
        (h : i < count) (room : at + length (lines_text write width count xs) ≤ length before)
        (line : List ℕ) (same : write (take width (drop (i * width) xs)) ≡ line) where
      all_room : at + length (lines_left write width count xs 0) ≤ length before
      all_room = omega (arith, ap length all_left)

      next : lines_left write width count xs i ≡ line ++ lines_left write width count xs (i + 1)
      next = lines_next i h ∙ ap (λ (z : List ℕ). z ++ lines_left write width count xs (i + 1)) same

      line-room : end + length line ≤ length out
      line-room = piece-room (lines_left write width count xs) before at out end i p all_room line next

      line-more : (end' : ℕ) (out' : List ℕ) → Wrote out end line end' out' → Printed (lines_left write width count xs) before at out' end' (i + 1)
      line-more = printed-more (lines_left write width count xs) before at out end i p all_room line next

    lines-done : count ≤ i → Wrote before at (lines_text write width count xs) end out
    unfolding lines_text
    lines-done h =
        let z : count - i ≡ 0 = omega arith in
        subst (λ (y : List ℕ). Wrote before at y end out) all_left
        (printed-done (lines_left write width count xs) before at out end i p (ap (λ (n : ℕ). lines_text write width n (drop (i * width) xs)) z))

-- the number k of line i
number_at : (width i k : ℕ) (xs : List ℕ) → k < width → get_or (take width (drop (i * width) xs)) k 0 ≡ get_or xs (i * width + k) 0
number_at width i k xs h = get_or-take width (drop (i * width) xs) k 0 h ∙ get_or-drop (i * width) xs k 0

first-at : (width i : ℕ) (xs : List ℕ) → 0 < width → get_or (take width (drop (i * width) xs)) 0 0 ≡ get_or xs (i * width) 0
first-at width i xs h = let e : i * width + 0 ≡ i * width = omega arith in number_at width i 0 xs h ∙ ap (λ (z : ℕ). get_or xs z 0) e

pub row_at : (i : ℕ) (xs : List ℕ) → row_of_numbers (take 3 (drop (i * 3) xs)) ≡ row_text (get_or xs (i * 3) 0) (get_or xs (i * 3 + 1) 0) (get_or xs (i * 3 + 2) 0)
row_at i xs = rw (first-at 3 i xs (omega arith), number_at 3 i 1 xs (omega arith), number_at 3 i 2 xs (omega arith)) refl

pub pair-at : (key : List ℕ) (i : ℕ) (xs : List ℕ) → pair_of_numbers key (take 2 (drop (i * 2) xs)) ≡ pair_text key (left_of xs i) (right_of xs i)
pair-at key i xs = rw (first-at 2 i xs (omega arith), number_at 2 i 1 xs (omega arith)) refl

-- ---- the rows
abbrev pub rows_left : List ℕ → ℕ → List ℕ
rows_left concepts i = lines_left row_of_numbers 3 (count_of concepts) concepts i

module _ (concepts before : List ℕ) (at : ℕ) (out : List ℕ) (end i : ℕ) (p : Printed (rows_left concepts) before at out end i) where
  module _ (h : i < count_of concepts) (room : at + length (rows_text concepts) ≤ length before) where
    pub row_room : end + length (row_text (get_or concepts (i * 3) 0) (get_or concepts (i * 3 + 1) 0) (get_or concepts (i * 3 + 2) 0)) ≤ length out
    row_room = line-room row_of_numbers 3 (count_of concepts) concepts before at out end i p h room _ (row_at i concepts)

    pub row_more :
        (end' : ℕ) (out' : List ℕ) → Wrote out end (row_text (get_or concepts (i * 3) 0) (get_or concepts (i * 3 + 1) 0) (get_or concepts (i * 3 + 2) 0)) end' out'
        → Printed (rows_left concepts) before at out' end' (i + 1)
    row_more = line-more row_of_numbers 3 (count_of concepts) concepts before at out end i p h room _ (row_at i concepts)

  pub rows-done : count_of concepts ≤ i → Wrote before at (rows_text concepts) end out
  rows-done = lines-done row_of_numbers 3 (count_of concepts) concepts before at out end i p

-- ---- the inclusions
abbrev pub pairs_left : List ℕ → ℕ → List ℕ
pairs_left inclusions i = lines_left (pair_of_numbers below_key) 2 (pairs_of inclusions) inclusions i

module _ (inclusions before : List ℕ) (at : ℕ) (out : List ℕ) (end i : ℕ) (p : Printed (pairs_left inclusions) before at out end i) where
  module _ (h : i < pairs_of inclusions) (room : at + length (pairs_text inclusions) ≤ length before) where
    pub pair-room : end + length (pair_text below_key (left_of inclusions i) (right_of inclusions i)) ≤ length out
    pair-room = line-room (pair_of_numbers below_key) 2 (pairs_of inclusions) inclusions before at out end i p h room _ (pair-at below_key i inclusions)

    pub pair-more :
        (end' : ℕ) (out' : List ℕ) → Wrote out end (pair_text below_key (left_of inclusions i) (right_of inclusions i)) end' out'
        → Printed (pairs_left inclusions) before at out' end' (i + 1)
    pair-more = line-more (pair_of_numbers below_key) 2 (pairs_of inclusions) inclusions before at out end i p h room _ (pair-at below_key i inclusions)

  pub pairs-done : pairs_of inclusions ≤ i → Wrote before at (pairs_text inclusions) end out
  pairs-done = lines-done (pair_of_numbers below_key) 2 (pairs_of inclusions) inclusions before at out end i p

-- ---- a text of two pieces
module _ (before : List ℕ) (at : ℕ) (x y : List ℕ) (room : at + length (x ++ y) ≤ length before) where
  front-room : at + length x ≤ length before
  front-room = omega (arith, length-append x y)

  back-room : (a : ℕ) (between : List ℕ) → Wrote before at x a between → a + length y ≤ length between
  back-room a between w = omega (arith, length-append x y, w.place, wrote-length before at x a between front-room w)

  wrote-two : (a : ℕ) (between : List ℕ) (end : ℕ) (after : List ℕ) → Wrote before at x a between → Wrote between a y end after → Wrote before at (x ++ y) end after
  wrote-two a between end after v w = wrote-join before at x y a between end after front-room v w

module _ (concepts before : List ℕ) (at : ℕ) (room : at + length (entries_text concepts) ≤ length before) where
  pub entries-front : at + length (number_text concepts_key (count_of concepts)) ≤ length before
  unfolding entries_text
  entries-front = front-room before at (number_text concepts_key (count_of concepts)) (rows_text concepts) room

  module _ (a : ℕ) (between : List ℕ) (v : Wrote before at (number_text concepts_key (count_of concepts)) a between) where
    pub entries-back : a + length (rows_text concepts) ≤ length between
    unfolding entries_text
    entries-back = back-room before at (number_text concepts_key (count_of concepts)) (rows_text concepts) room a between v

    pub wrote-entries :
        (end : ℕ) (after : List ℕ) → Wrote between a (rows_text concepts) end after → Wrote before at (entries_text concepts) end after
    unfolding entries_text
    wrote-entries end after w = wrote-two before at (number_text concepts_key (count_of concepts)) (rows_text concepts) room a between end after v w

module _ (inclusions before : List ℕ) (at : ℕ) (room : at + length (inclusions_text inclusions) ≤ length before) where
  pub inclusions-front : at + length (number_text inclusions_key (pairs_of inclusions)) ≤ length before
  unfolding inclusions_text
  inclusions-front = front-room before at (number_text inclusions_key (pairs_of inclusions)) (pairs_text inclusions) room

  module _ (a : ℕ) (between : List ℕ) (v : Wrote before at (number_text inclusions_key (pairs_of inclusions)) a between) where
    pub inclusions-back : a + length (pairs_text inclusions) ≤ length between
    unfolding inclusions_text
    inclusions-back = back-room before at (number_text inclusions_key (pairs_of inclusions)) (pairs_text inclusions) room a between v

    pub wrote-inclusions :
        (end : ℕ) (after : List ℕ) → Wrote between a (pairs_text inclusions) end after
        → Wrote before at (inclusions_text inclusions) end after
    unfolding inclusions_text
    wrote-inclusions end after w = wrote-two before at (number_text inclusions_key (pairs_of inclusions)) (pairs_text inclusions) room a between end after v w

-- ---- the whole card
module _ (concepts inclusions before : List ℕ) where
  abbrev last : List ℕ
  last = number_text questions_key 0

  abbrev from-inclusions : List ℕ
  from-inclusions = inclusions_text inclusions ++ last

  abbrev from_entries : List ℕ
  from_entries = entries_text concepts ++ from-inclusions

  module _ (room : 0 + length (card_text concepts inclusions) ≤ length before) where
    pub card-room-1 : 0 + length (number_text variables_key 0) ≤ length before
    unfolding card_text
    card-room-1 = front-room before 0 (number_text variables_key 0) from_entries room

    module _ (a : ℕ) (one : List ℕ) (wrote-1 : Wrote before 0 (number_text variables_key 0) a one) where
      rest-1 : a + length from_entries ≤ length one
      unfolding card_text
      rest-1 = back-room before 0 (number_text variables_key 0) from_entries room a one wrote-1

      pub card-room-2 : a + length (entries_text concepts) ≤ length one
      card-room-2 = front-room one a (entries_text concepts) from-inclusions rest-1

      module _ (b : ℕ) (two : List ℕ) (wrote-2 : Wrote one a (entries_text concepts) b two) where
        rest-2 : b + length from-inclusions ≤ length two
        rest-2 = back-room one a (entries_text concepts) from-inclusions rest-1 b two wrote-2

        pub card-room-3 : b + length (inclusions_text inclusions) ≤ length two
        card-room-3 = front-room two b (inclusions_text inclusions) last rest-2

        module _ (c : ℕ) (three : List ℕ) (wrote-3 : Wrote two b (inclusions_text inclusions) c three) where
          pub card-room-4 : c + length last ≤ length three
          card-room-4 = back-room two b (inclusions_text inclusions) last rest-2 c three wrote-3

          pub wrote-card : (end : ℕ) (after : List ℕ) → Wrote three c last end after → Wrote before 0 (card_text concepts inclusions) end after
          unfolding card_text
          wrote-card end after wrote-4 =
              wrote-two before 0 (number_text variables_key 0) from_entries room a one end after wrote-1
              (wrote-two one a (entries_text concepts) from-inclusions rest-1 b two end after wrote-2
              (wrote-two two b (inclusions_text inclusions) last rest-2 c three end after wrote-3 wrote-4))
