-- A card is under 4096 bytes: there are at most 192 rows of 12 bytes and 96 inclusions of 14.
use Rattle.subsumption.specs.Refusal.{Done}
use Prim.Native.Nat.{ℕ, zero, suc, ◌+◌, ◌*◌, ◌<◌, ◌≤◌}
use mathlib.Core.Path.{◌≡◌, ap, ◌∙◌}
use mathlib.Core.List.{List, [], ◌++◌}
use mathlib.Core.Bool.{false}
use native.Mathlib.Omega.{arith}
use native.Mathlib.Nat.{suc-mul, zero-mul}
use lib.ListN.{length, take, drop, length-append}
use lib.Seq.{drop-drop}
use borrow.Author.Tests.{ltb-true, ltb-false, not-false}
use Rattle.subsumption.specs.Tables.{tables, node, decode, count_of, pairs_of, left_of, right_of}
use Rattle.subsumption.specs.Check.{malformed_row, malformed, malformed_fault, forward, forward_fault, concept_fault, id_fault}
use Rattle.subsumption.proofs.Bools.{or-false}
use Rattle.subsumption.proofs.Refusals.{passed_first, passed-second, passed-at}
use Rattle.subsumption.proofs.Accepted.{concepts-few, inclusions-few, inclusions-known}
use Rattle.numerals.specs.Printing.{number_text, pair_text}
use Rattle.numerals.specs.Lines.{variables_key, concepts_key, inclusions_key, questions_key, below_key, name_key, some_key, and_key, row_text, lines_text, row_of_numbers, pair_of_numbers}
use Rattle.numerals.proofs.DigitLaws.{digits-short}
use Rattle.numerals.proofs.WriteLaws.{number-length, pair-length}
use Rattle.hermitcasket_owl.specs.Card.{rows_text, pairs_text, entries_text, inclusions_text, card_text}
use Rattle.hermitcasket_owl.proofs.CardLaws.{row_at, pair-at}

-- ---- one line
row-size : (i kind a b : ℕ) → i < 192 → malformed_row 0 kind a b ≡ false → forward i (decode kind a b) ≡ false → length (row_text kind a b) ≤ 12
unfolding row_text malformed_row decode forward
row-size i zero a b l h f = omega arith
row-size i (suc zero) a b l h f = omega (arith, number-length name_key a, digits-short 2 a (omega (arith, ltb-false 999 a (or-false _ _ h).0)))
row-size i (suc (suc zero)) a b l h f =
    omega (arith, pair-length some_key a b, digits-short 1 a (omega (arith, ltb-false 99 a h)), digits-short 2 b (omega (arith, ltb-true b i (not-false _ f))))
row-size i (suc (suc (suc zero))) a b l h f =
    omega (
      arith,
      pair-length and_key a b,
      digits-short 2 a (omega (arith, ltb-true a i (not-false _ (or-false _ _ f).0))),
      digits-short 2 b (omega (arith, ltb-true b i (not-false _ (or-false _ _ f).1))),
    )
row-size i (suc (suc (suc (suc zero)))) a b l h f = absurd (omega (arith, ltb-true a 0 (not-false _ (or-false _ _ h).0)))
row-size i (suc (suc (suc (suc (suc kind))))) a b l h f = omega arith

pair_size : (a b : ℕ) → a < 192 → b < 192 → length (pair_text below_key a b) ≤ 14
pair_size a b h k = omega (arith, pair-length below_key a b, digits-short 2 a (omega arith), digits-short 2 b (omega arith))

-- ---- so many lines
module _ (write : List ℕ → List ℕ) (width most : ℕ) where
  lines-size :
      (count : ℕ) (xs : List ℕ) → ((i : ℕ) → i < count → length (write (take width (drop (i * width) xs))) ≤ most)
      → length (lines_text write width count xs) ≤ count * most
  unfolding lines_text
  lines-size zero xs each = omega arith
  lines-size (suc count) xs each =
      omega (
        arith,
        suc-mul count most,
        first,
        lines-size count (drop width xs) (λ i l. later i (omega arith)),
        length-append (write (take width xs)) (lines_text write width count (drop width xs)),
      )
    where
      first : length (write (take width xs)) ≤ most
      first = omega (arith, each 0 (omega arith), ap (λ (z : ℕ). length (write (take width (drop z xs)))) (zero-mul width))

      later : (i : ℕ) → suc i < suc count → length (write (take width (drop (i * width) (drop width xs)))) ≤ most
      later i l =
          let next : width + i * width ≡ suc i * width = omega (arith, suc-mul i width) in
          omega (arith, each (suc i) l, ap (λ (z : List ℕ). length (write (take width z))) (drop-drop (i * width) width xs ∙ ap (λ (z : ℕ). drop z xs) next))

-- ---- the whole card
module _
    (concepts inclusions : List ℕ) (sound : concept_fault (tables concepts inclusions [] [] 0) ≡ Done)
    (known : id_fault (tables concepts inclusions [] [] 0) ≡ Done) where
  few-rows : count_of concepts ≤ 192
  few-rows = concepts-few (tables concepts inclusions [] [] 0) sound

  few-pairs : pairs_of inclusions ≤ 96
  few-pairs = inclusions-few (tables concepts inclusions [] [] 0) sound

  rows-size : length (rows_text concepts) ≤ count_of concepts * 12
  unfolding concept_fault malformed_fault malformed forward_fault node
  rows-size =
      lines-size row_of_numbers 3 12 (count_of concepts) concepts
      (λ i l. omega (
        arith,
        ap length (row_at i concepts),
        row-size i _ _ _ (omega (arith, few-rows)) (passed-at _ (malformed concepts 0) 0 _ (passed_first _ _ (passed-second _ _ sound)) i (omega arith) (omega arith))
            (passed-at _ (λ j. forward j (node concepts j)) 0 _ (passed-second _ _ (passed-second _ _ sound)) i (omega arith) (omega arith)),
      ))

  pairs-size : length (pairs_text inclusions) ≤ pairs_of inclusions * 14
  pairs-size =
      let sides = inclusions-known (tables concepts inclusions [] [] 0) known in
      lines-size (pair_of_numbers below_key) 2 14 (pairs_of inclusions) inclusions
      (λ i l. omega (
        arith,
        ap length (pair-at below_key i inclusions),
        pair_size (left_of inclusions i) (right_of inclusions i) (omega (arith, few-rows, sides.left-known i l)) (omega (arith, few-rows, sides.right-known i l)),
      ))

  pub card-fits : (out : List ℕ) → 4096 ≤ length out → 0 + length (card_text concepts inclusions) ≤ length out
  unfolding card_text entries_text inclusions_text
  card-fits out h =
      omega (
        arith,
        few-rows,
        few-pairs,
        rows-size,
        pairs-size,
        number-length variables_key 0,
        number-length concepts_key (count_of concepts),
        number-length inclusions_key (pairs_of inclusions),
        number-length questions_key 0,
        digits-short 0 0 (omega arith),
        digits-short 2 (count_of concepts) (omega (arith, few-rows)),
        digits-short 2 (pairs_of inclusions) (omega (arith, few-pairs)),
        length-append (number_text variables_key 0) (entries_text concepts ++ (inclusions_text inclusions ++ number_text questions_key 0)),
        length-append (entries_text concepts) (inclusions_text inclusions ++ number_text questions_key 0),
        length-append (inclusions_text inclusions) (number_text questions_key 0),
        length-append (number_text concepts_key (count_of concepts)) (rows_text concepts),
        length-append (number_text inclusions_key (pairs_of inclusions)) (pairs_text inclusions),
      )
