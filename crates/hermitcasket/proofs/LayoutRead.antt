-- Each layout within the counts is accepted, and reading it gives the tables back.
use Rattle.std.specs.Prelude.{None}
use Prim.Native.Nat.{ℕ, zero, suc, ◌+◌, ◌≤◌}
use mathlib.Core.Path.{◌≡◌, refl, sym, ap, ◌∙◌}
use mathlib.Core.List.{List, [], ◌∷◌, ◌++◌, append_assoc, append-nil}
use mathlib.Core.Bool.{Bool, true, false}
use native.Mathlib.Omega.{arith}
use lib.ListN.{length, take, drop, length-append, take-append-drop}
use lib.Seq.{drop-append-add, drop-append_seam}
use borrow.Author.Tests.{le-ltb}
use Rattle.subsumption.specs.Tables.{Tables, both, count_of, pairs_of}
use Rattle.numerals.specs.Digits.{digits}
use Rattle.numerals.specs.Bytes.{starts}
use Rattle.numerals.specs.Printing.{number_text, pair_text}
use Rattle.numerals.specs.Lines.{variables_key, roles_key, wider_key, concepts_key, inclusions_key, questions_key, below_key, show_key, top_text, name_key, some_key, and_key, variable_key, row_text, lines_text, row_of_numbers, pair_of_numbers}
use Rattle.numerals.proofs.ReadingLaws.{starts-right}
use Rattle.hermitcasket.specs.declared.text.Ask.{Ask}
use Rattle.hermitcasket.specs.declared.text.Ask.TheVariants.{Fill, Show}
use Rattle.hermitcasket.specs.Lines.{a_number, a_pair, a_row, pick_number, behind as shifted, number_line, second_of, first_of, pair_if, pair_line, top_row, one_row, two_row, or_row, row_line}
use Rattle.hermitcasket.specs.Text.{roles_text, ask_text, layout, RowFits, RowsFit, ConceptFits, PairFits, AskFits, Sayable, Line, numbers, row_numbers, pair_numbers, row_at, pair_at, part, prepend, line_then, read_lines, accepted, pick_judged, Onward, count_then, part_then, section_at, roles_at, show_then, judge_end, judge_questions, judge_inclusions, judge_concepts, judge_roles, judge_lines, judge}
use Rattle.hermitcasket.proofs.NumberLaws.{number-right}

-- ---- one line
number_line-of : (key : List ℕ) (v : ℕ) (more : List ℕ) → v ≤ 65535
    → number_line key (key ++ (digits v ++ (10 ∷ more))) ≡ a_number v (length key + (length (digits v) + 1))
unfolding number_line pick_number shifted
number_line-of key v more h = rw (starts-right key (digits v ++ (10 ∷ more)), drop-append_seam key (digits v ++ (10 ∷ more)), number-right 10 (omega arith) v more h) refl

pub number_line-right : (key : List ℕ) (v : ℕ) (more : List ℕ) → v ≤ 65535
    → number_line key (number_text key v ++ more) ≡ a_number v (length (number_text key v))
unfolding number_text
number_line-right key v more h =
    ap (number_line key) (append_assoc key (digits v ++ (10 ∷ [])) more ∙ ap (λ (z : List ℕ). key ++ z) (append_assoc (digits v) (10 ∷ []) more)) ∙ number_line-of key v more h
    ∙ ap (λ (z : ℕ). a_number v z)
    (sym (length-append key (digits v ++ (10 ∷ [])) ∙ ap (λ (z : ℕ). length key + z) (length-append (digits v) (10 ∷ []))))

pairLine-of :
    (key : List ℕ) (a b : ℕ) (more : List ℕ) → a ≤ 65535 → b ≤ 65535
    → pair_line key (key ++ (digits a ++ (44 ∷ (digits b ++ (10 ∷ more))))) ≡ a_pair a b
    (length key + (length (digits a) + 1) + (length (digits b) + 1))
unfolding pair_line pair_if first_of second_of
pairLine-of key a b more ha hb =
    let y = digits b ++ (10 ∷ more) in
    let x = digits a ++ (44 ∷ y) in
    let second : drop (length key + (length (digits a) + 1)) (key ++ x) ≡ y = drop-append-add key x (length (digits a) + 1) ∙ drop-append-add (digits a) (44 ∷ y) 1 in
    rw (starts-right key x, drop-append_seam key x, number-right 44 (omega arith) a y ha, second, number-right 10 (omega arith) b more hb) refl

pub pairLine-right :
    (key : List ℕ) (a b : ℕ) (more : List ℕ) → a ≤ 65535 → b ≤ 65535
    → pair_line key (pair_text key a b ++ more) ≡ a_pair a b (length (pair_text key a b))
unfolding pair_text
pairLine-right key a b more ha hb =
    ap (pair_line key)
    (append_assoc key (digits a ++ (44 ∷ (digits b ++ (10 ∷ [])))) more
    ∙ ap (λ (z : List ℕ). key ++ z) (append_assoc (digits a) (44 ∷ (digits b ++ (10 ∷ []))) more ∙ ap (λ (z : List ℕ). digits a ++ (44 ∷ z)) (append_assoc (digits b) (10 ∷ []) more)))
    ∙ pairLine-of key a b more ha hb ∙ ap (λ (z : ℕ). a_pair a b z) sizes
  where
    sizes : length key + (length (digits a) + 1) + (length (digits b) + 1) ≡ length (key ++ (digits a ++ (44 ∷ (digits b ++ (10 ∷ [])))))
    sizes =
        omega (
          arith,
          length-append key (digits a ++ (44 ∷ (digits b ++ (10 ∷ [])))),
          length-append (digits a) (44 ∷ (digits b ++ (10 ∷ []))),
          length-append (digits b) (10 ∷ []),
        )

no_number : (key rest : List ℕ) → starts key rest ≡ false → number_line key rest ≡ None
unfolding number_line pick_number
no_number key rest h = rw h

no-pair : (key rest : List ℕ) → starts key rest ≡ false → pair_line key rest ≡ None
unfolding pair_line pair_if
no-pair key rest h = rw h

module _ (a b : ℕ) (more : List ℕ) where
  name-1 : starts top_text (number_text name_key a ++ more) ≡ false
  unfolding starts both number_text
  name-1 = refl

  some-1 : starts top_text (pair_text some_key a b ++ more) ≡ false
  unfolding starts both pair_text
  some-1 = refl

  some-2 : starts name_key (pair_text some_key a b ++ more) ≡ false
  unfolding starts both pair_text
  some-2 = refl

  and-1 : starts top_text (pair_text and_key a b ++ more) ≡ false
  unfolding starts both pair_text
  and-1 = refl

  and-2 : starts name_key (pair_text and_key a b ++ more) ≡ false
  unfolding starts both pair_text
  and-2 = refl

  and-3 : starts some_key (pair_text and_key a b ++ more) ≡ false
  unfolding starts both pair_text
  and-3 = refl

  variable-1 : starts top_text (number_text variable_key a ++ more) ≡ false
  unfolding starts both number_text
  variable-1 = refl

  variable-2 : starts name_key (number_text variable_key a ++ more) ≡ false
  unfolding starts both number_text
  variable-2 = refl

  variable-3 : starts some_key (number_text variable_key a ++ more) ≡ false
  unfolding starts both number_text
  variable-3 = refl

  variable-4 : starts and_key (number_text variable_key a ++ more) ≡ false
  unfolding starts both number_text
  variable-4 = refl

pub row_line-right : (kind a b : ℕ) (more : List ℕ) → RowFits kind a b
    → row_line (row_text kind a b ++ more) ≡ a_row kind a b (length (row_text kind a b))
unfolding row_line or_row top_row one_row two_row row_text
row_line-right zero a b more h = rw (starts-right top_text more, h.0, h.1) refl
row_line-right (suc zero) a b more h = rw (name-1 a b more, number_line-right name_key a more h.0, h.1) refl
row_line-right (suc (suc zero)) a b more h = rw (some-1 a b more, no_number name_key _ (some-2 a b more), pairLine-right some_key a b more h.0 h.1) refl
row_line-right (suc (suc (suc zero))) a b more h =
    rw (and-1 a b more, no_number name_key _ (and-2 a b more), no-pair some_key _ (and-3 a b more), pairLine-right and_key a b more h.0 h.1) refl
row_line-right (suc (suc (suc (suc zero)))) a b more h =
    rw (variable-1 a b more, no_number name_key _ (variable-2 a b more), no-pair some_key _ (variable-3 a b more), no-pair and_key _ (variable-4 a b more), number_line-right variable_key a more h.0, h.1) refl
row_line-right (suc (suc (suc (suc (suc kind))))) a b more h = absurd h

rows_right : (xs more : List ℕ) → length xs ≡ 3 → ConceptFits xs → row_at (row_of_numbers xs ++ more) ≡ numbers xs (length (row_of_numbers xs))
unfolding row_numbers
rows_right [] more l h = absurd (omega arith)
rows_right (x ∷ []) more l h = absurd (omega arith)
rows_right (x ∷ y ∷ []) more l h = absurd (omega arith)
rows_right (x ∷ y ∷ z ∷ []) more l h = rw (row_line-right x y z more h) refl
rows_right (x ∷ y ∷ z ∷ w ∷ xs) more l h = absurd (omega arith)

pairs-right : (key xs more : List ℕ) → length xs ≡ 2 → PairFits xs → pair_at key (pair_of_numbers key xs ++ more) ≡ numbers xs (length (pair_of_numbers key xs))
unfolding pair_numbers
pairs-right key [] more l h = absurd (omega arith)
pairs-right key (x ∷ []) more l h = absurd (omega arith)
pairs-right key (x ∷ y ∷ []) more l h = rw (pairLine-right key x y more h.0 h.1) refl
pairs-right key (x ∷ y ∷ z ∷ xs) more l h = absurd (omega arith)

-- ---- several lines
module _
    (line : List ℕ → Line) (write : List ℕ → List ℕ) (Fits : List ℕ → Type 0) (width : ℕ)
    (reads : (xs more : List ℕ) → length xs ≡ width → Fits xs → line (write xs ++ more) ≡ numbers xs (length (write xs))) where
  step :
      (front after more xs ys : List ℕ) (count at p : ℕ) → line (front ++ (after ++ more)) ≡ numbers xs (length front)
      → read_lines line count (at + length front) (after ++ more) ≡ part ys p more → read_lines line (suc count) at ((front ++ after) ++ more) ≡ part (xs ++ ys) p more
  unfolding read_lines line_then prepend
  step front after more xs ys count at p e f = rw (append_assoc front after more) (rw e (rw (drop-append_seam front (after ++ more), f) refl))

  lines-right :
      (count at : ℕ) (xs more : List ℕ) → RowsFit Fits width count xs
      → read_lines line count at (lines_text write width count xs ++ more) ≡ part xs (at + length (lines_text write width count xs)) more
  unfolding read_lines lines_text
  lines-right zero at xs more h = let e : at ≡ at + 0 = omega arith in rw h (ap (λ (z : ℕ). part [] z more) e)
  lines-right (suc count) at xs more h =
      step (write (take width xs)) (lines_text write width count (drop width xs)) more (take width xs) (drop width xs) count at _
      (reads (take width xs) (lines_text write width count (drop width xs) ++ more) h.0 h.1)
      (lines-right count (at + length (write (take width xs))) (drop width xs) more h.2)
      ∙ ap (λ (z : List ℕ). part z (at + length (write (take width xs)) + length (lines_text write width count (drop width xs))) more) (take-append-drop width xs)
      ∙ ap (λ (z : ℕ). part xs z more) places
    where
      places : at + length (write (take width xs)) + length (lines_text write width count (drop width xs)) ≡ at + length (write (take width xs) ++ lines_text write width count (drop width xs))
      places = rw length-append (omega arith)

  -- ---- a section
  pub section-right :
      (key : List ℕ) (limit table at count : ℕ) (xs more : List ℕ) (go : List ℕ → Onward) → count ≤ limit → limit ≤ 65535 → RowsFit Fits width count xs
      → section_at key limit table line go at (number_text key count ++ (lines_text write width count xs ++ more))
      ≡ go xs (at + length (number_text key count) + length (lines_text write width count xs)) more
  unfolding section_at count_then pick_judged part_then
  section-right key limit table at count xs more go l m h =
      rw (number_line-right key count (lines_text write width count xs ++ more) (omega arith), le-ltb limit count l)
      (rw (drop-append_seam (number_text key count) (lines_text write width count xs ++ more), lines-right count (at + length (number_text key count)) xs more h) refl)

-- ---- the whole text
key-there : (n : ℕ) (more : List ℕ) → starts roles_key (number_text roles_key n ++ more) ≡ true
unfolding number_text
key-there n more = rw (append_assoc roles_key (digits n ++ (10 ∷ [])) more) (starts-right roles_key ((digits n ++ (10 ∷ [])) ++ more))

key-missing : (n : ℕ) (more : List ℕ) → starts roles_key (number_text concepts_key n ++ more) ≡ false
unfolding starts both number_text
key-missing n more = refl

ask-right : (t : Tables) (ask : Ask) (at : ℕ) → AskFits ask → judge_end t at (ask_text ask) ≡ accepted t ask
unfolding judge_end show_then pick_judged ask_text pair_text
ask-right t Fill at h = refl
ask-right t (Show left right) at h =
    let line = pair_text show_key left right in
    let e : pair_line show_key line ≡ a_pair left right (length line) =
    ap (pair_line show_key) (sym (append-nil line)) ∙ pairLine-right show_key left right [] h.0 h.1 in
    rw (e, le-ltb (length line) (length line) (omega arith)) refl

module _ (t : Tables) (ask : Ask) (s : Sayable t ask) (present : Bool) (absent : present ≡ false → t.roles ≡ []) where
  a : List ℕ
  a = number_text variables_key t.variables

  r : List ℕ
  r = roles_text present t.roles

  b : List ℕ
  b = number_text concepts_key (count_of t.concepts)

  c : List ℕ
  c = lines_text row_of_numbers 3 (count_of t.concepts) t.concepts

  d : List ℕ
  d = number_text inclusions_key (pairs_of t.inclusions)

  e : List ℕ
  e = lines_text (pair_of_numbers below_key) 2 (pairs_of t.inclusions) t.inclusions

  f : List ℕ
  f = number_text questions_key (pairs_of t.questions)

  g : List ℕ
  g = lines_text (pair_of_numbers below_key) 2 (pairs_of t.questions) t.questions

  text-is : layout present t ask ≡ a ++ (r ++ (b ++ (c ++ (d ++ (e ++ (f ++ (g ++ ask_text ask)))))))
  unfolding layout a r b c d e f g
  text-is = refl

  first : (more : List ℕ) → judge_lines 0 (a ++ more) ≡ judge_roles t.variables (0 + length a) more
  unfolding judge_lines count_then pick_judged a
  first more =
      rw (number_line-right variables_key t.variables more (omega (arith, s.few-variables)), le-ltb 8 t.variables s.few-variables)
      (rw (drop-append_seam (number_text variables_key t.variables) more) refl)

  second : (at : ℕ) (more : List ℕ) → judge_roles t.variables at (r ++ (b ++ more)) ≡ judge_concepts t.variables t.roles (at + length r) (b ++ more)
  unfolding judge_roles roles_at pick_judged roles_text r b
  second at more = go present absent
    where
      go :
          (x : Bool) → (x ≡ false → t.roles ≡ [])
          → judge_roles t.variables at (roles_text x t.roles ++ (number_text concepts_key (count_of t.concepts) ++ more))
          ≡ judge_concepts t.variables t.roles (at + length (roles_text x t.roles)) (number_text concepts_key (count_of t.concepts) ++ more)
      go true h =
          let n = number_text roles_key (pairs_of t.roles) in
          let l = lines_text (pair_of_numbers wider_key) 2 (pairs_of t.roles) t.roles in
          let more' = number_text concepts_key (count_of t.concepts) ++ more in
          let z : at + length n + length l ≡ at + length (n ++ l) = omega (arith, length-append n l) in
          ap (λ (y : List ℕ). judge_roles t.variables at y) (append_assoc n l more')
          ∙ rw (key-there (pairs_of t.roles) (l ++ more'))
          (section-right (pair_at wider_key) (pair_of_numbers wider_key) PairFits 2 (pairs-right wider_key) roles_key 32 4 at (pairs_of t.roles) t.roles more' _
          s.few-roles (omega arith) s.roles-fit
          ∙ ap (λ (y : ℕ). judge_concepts t.variables t.roles y more') z)
      go false h =
          let z : at + 0 ≡ at = omega arith in
          rw (key-missing (count_of t.concepts) more, z, h refl) refl

  third :
      (at : ℕ) → judge_concepts t.variables t.roles at (b ++ (c ++ (d ++ (e ++ (f ++ (g ++ ask_text ask)))))) ≡ judge_inclusions t.variables t.roles t.concepts (at + length b + length c) (d ++ (e ++ (f ++ (g ++ ask_text ask))))
  unfolding judge_concepts b c
  third at =
      section-right row_at row_of_numbers ConceptFits 3 rows_right concepts_key 192 0 at (count_of t.concepts) t.concepts (d ++ (e ++ (f ++ (g ++ ask_text ask)))) _
      s.few-concepts (omega arith) s.concepts-fit

  fourth :
      (at : ℕ) → judge_inclusions t.variables t.roles t.concepts at (d ++ (e ++ (f ++ (g ++ ask_text ask)))) ≡ judge_questions t.variables t.roles t.concepts t.inclusions (at + length d + length e) (f ++ (g ++ ask_text ask))
  unfolding judge_inclusions d e
  fourth at =
      section-right (pair_at below_key) (pair_of_numbers below_key) PairFits 2 (pairs-right below_key) inclusions_key 96 1 at (pairs_of t.inclusions) t.inclusions (f ++ (g ++ ask_text ask)) _
      s.few-inclusions (omega arith) s.inclusions-fit

  fifth : (at : ℕ) → judge_questions t.variables t.roles t.concepts t.inclusions at (f ++ (g ++ ask_text ask)) ≡ accepted t ask
  unfolding judge_questions f g
  fifth at =
      section-right (pair_at below_key) (pair_of_numbers below_key) PairFits 2 (pairs-right below_key) questions_key 32 2 at (pairs_of t.questions) t.questions (ask_text ask) _
      s.few-questions (omega arith) s.questions-fit
      ∙ ask-right t ask _ s.ask-fits

  pub layout-accepted : length (layout present t ask) ≤ 8192 → judge (layout present t ask) ≡ accepted t ask
  unfolding judge pick_judged
  layout-accepted h =
      rw (le-ltb 8192 (length (layout present t ask)) h)
      (ap (λ (z : List ℕ). judge_lines 0 z) text-is ∙ first _ ∙ second _ _ ∙ third _ ∙ fourth _ ∙ fifth _)
