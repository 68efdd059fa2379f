-- An interpretation that is shown: each part as the code prints it, and all parts together are the whole.
use Rattle.subsumption.specs.Refusal.{Outcome}
use Prim.Native.Nat.{ℕ, zero, suc, ◌+◌, ◌-◌, ◌*◌, ◌/◌, ◌%◌, ◌<◌, ◌≤◌}
use mathlib.Core.Path.{◌≡◌, refl, sym, ap, ap₂, ◌∙◌, subst}
use mathlib.Core.List.{List, [], ◌∷◌, ◌++◌, append_assoc}
use mathlib.Core.Bool.{Bool, true, false}
use native.Mathlib.Omega.{arith}
use lib.ListN.{length, take, length-append}
use borrow.Author.Tests.{lt-ltb, le-ltb}
use Rattle.subsumption.specs.Tables.{Tables, count_of}
use Rattle.subsumption.specs.Atoms.{keep}
use Rattle.subsumption.specs.Table.{marked}
use Rattle.subsumption.specs.Inner.Atoms.{mark_at, marked_ids}
use Rattle.subsumption.specs.Inner.Roles.{in_set, RoleSets}
use Rattle.countermodel.specs.Rows.{joined}
use Rattle.countermodel.specs.Countermodel.{names_at, links_at, name_rows, link_rows, shown_rows}
use Rattle.countermodel.specs.Inner.Show.{Checked, NamesOf, ForRoles, LinksOf}
use Rattle.countermodel.proofs.JudgingLaws.{checked}
use Rattle.numerals.specs.Printing.{number_text, Output}
use Rattle.numerals.specs.Inner.Printing.{Wrote}
use Rattle.numerals.specs.Lines.{lines_text}
use Rattle.numerals.proofs.PieceLaws.{output}
use Rattle.hermitcasket.specs.declared.answer.Plan.TheVariants.{Parts}
use Rattle.hermitcasket.specs.Text.{Judged, judge}
use Rattle.hermitcasket.specs.Printing.{pick_text, things_key, line_of, rows_text, shown_text, parts_of, links_part, part_text}
use Rattle.hermitcasket.specs.Answer.{shown_or, AnsweredJudged, Answered, Held, IsPart, InParts, Planned}
use Rattle.hermitcasket.specs.Inner.Print.{mark_lines, IsLinks}
use Rattle.hermitcasket.proofs.MarkLines.{rows-one, name-lines, link-lines}
use Rattle.hermitcasket.proofs.SizeLaws.{keep-below, few-borne, names-short}

keep-as : (f g : ℕ → Bool) (from count : ℕ) → ((p : ℕ) → from ≤ p → p < from + count → f p ≡ g p) → keep f from count ≡ keep g from count
unfolding keep
keep-as f g from zero h = refl
keep-as f g from (suc count) h = go (keep-as f g (suc from) count (λ p l k. h p (omega arith) (omega arith))) (g from) refl (h from (omega arith) (omega arith))
  where
    go : keep f (suc from) count ≡ keep g (suc from) count → (b : Bool) → g from ≡ b → f from ≡ g from → keep f from (suc count) ≡ keep g from (suc count)
    go ih true e k = rw (k, e) (ap (λ (z : List ℕ). from ∷ z) ih)
    go ih false e k = rw (k, e) ih

-- ---- the names of an element
module _
    (concepts table : List ℕ) (i : ℕ) (C : Checked concepts) (known : i < count_of concepts) (names : List Bool)
    (N : NamesOf concepts (marked table) i names) where
  noted-names : marked_ids names 1000 ≡ names_at concepts (marked table) i
  unfolding names_at
  noted-names = keep-as (mark_at names) _ 0 1000 (λ n l h. N.each n (omega arith))

  pub names-room : (out : List ℕ) → 4096 ≤ length out → 0 + length (mark_lines false i 0 (marked_ids names 1000)) ≤ length out
  names-room out h =
      names-short i (marked_ids names 1000) out (omega (arith, C.layered.few)) (keep-below (mark_at names) 1000 0 1000 (omega arith))
      (omega (arith, ap length noted-names, few-borne concepts (marked table) i, C.layered.few)) h

  pub wrote-names :
      (before : List ℕ) (end : ℕ) (after : List ℕ) → Wrote before 0 (mark_lines false i 0 (marked_ids names 1000)) end after
      → Wrote before 0 (rows_text (name_rows i (names_at concepts (marked table) i))) end after
  wrote-names before end after w =
      subst (λ (z : List ℕ). Wrote before 0 z end after) (name-lines i 0 (marked_ids names 1000) ∙ ap (λ (z : List ℕ). rows_text (name_rows i z)) noted-names) w

-- ---- the links of an element by a role
pub output-links :
    (concepts into table : List ℕ) (i s : ℕ) (links : List Bool) → ForRoles into (λ roles. LinksOf concepts roles (marked table) i s links)
    → (before : List ℕ) (end : ℕ) (after : List ℕ) → Wrote before 0 (mark_lines true i s (marked_ids links (count_of concepts))) end after
    → Output (IsLinks concepts into table i s) before end after
unfolding links_at
output-links concepts into table i s links L before end after w =
    output _ before _ end after w
    (λ roles R. link-lines i s (marked_ids links (count_of concepts))
    ∙ ap (λ (z : List ℕ). rows_text (link_rows i s z)) (keep-as (mark_at links) _ 0 (count_of concepts) (λ y l h. (L roles R).each y (omega arith))))

-- ---- part k
module _ (concepts roles : List ℕ) (marks : ℕ → ℕ → Bool) (k : ℕ) where
  names-part : k < count_of concepts → part_text concepts roles marks (suc k) ≡ rows_text (name_rows k (names_at concepts marks k))
  unfolding part_text pick_text
  names-part h = rw (lt-ltb k (count_of concepts) h) refl

  links-part : count_of concepts ≤ k → part_text concepts roles marks (suc k) ≡ links_part concepts roles marks (k - count_of concepts)
  unfolding part_text pick_text
  links-part h = rw (le-ltb k (count_of concepts) h) refl

module _ (concepts into table : List ℕ) where
  pub held-checked : ((t : Tables) × Held t concepts into table) → Checked concepts
  held-checked (t, H) = subst Checked (sym H.same) (checked t H.checked)

  held-sets : (t : Tables) → Held t concepts into table → RoleSets t.roles into
  unfolding in_set
  held-sets t H = record { long = H.sets-long; each = H.sets }

  module _ (k : ℕ) (before : List ℕ) (end : ℕ) (after : List ℕ) where
    -- the part as the concept array says it
    is-part : (bytes : List ℕ) → ((t : Tables) → Held t concepts into table → bytes ≡ part_text concepts t.roles (marked table) k) → IsPart concepts into table k bytes
    is-part bytes h t H = h t H ∙ ap (λ (z : List ℕ). part_text z t.roles (marked table) k) H.same

    pub part-first : k ≡ 0 → Wrote before 0 (number_text things_key (count_of concepts)) end after → Output (IsPart concepts into table k) before end after
    unfolding part_text
    part-first e w = output _ before _ end after w (is-part _ (λ t H. rw e refl))

    module _ (later : k ≡ 0 → ⊥) where
      this : (roles : List ℕ) → part_text concepts roles (marked table) (suc (k - 1)) ≡ part_text concepts roles (marked table) k
      this roles = let e : suc (k - 1) ≡ k = omega arith in ap (part_text concepts roles (marked table)) e

      pub part-names :
          k ≤ count_of concepts → Wrote before 0 (rows_text (name_rows (k - 1) (names_at concepts (marked table) (k - 1)))) end after
          → Output (IsPart concepts into table k) before end after
      part-names l w = output _ before _ end after w (is-part _ (λ t H. sym (names-part concepts t.roles (marked table) (k - 1) (omega arith)) ∙ this t.roles))

      pub part-links :
          count_of concepts < k → Output (IsLinks concepts into table ((k - 1 - count_of concepts) / 100) ((k - 1 - count_of concepts) % 100)) before end after
          → Output (IsPart concepts into table k) before end after
      unfolding links_part
      part-links l o =
          record {
            answered = is-part _ (λ t H. o.answered t.roles (held-sets t H) ∙ sym (links-part concepts t.roles (marked table) (k - 1) (omega arith)) ∙ this t.roles);
            within = o.within;
            kept = o.kept;
          }

-- ---- lists one behind the other
module _ {A : Type 0} where
  joined_as : (f g : ℕ → List A) (a b count : ℕ) → ((k : ℕ) → k < count → f (a + k) ≡ g (b + k)) → joined f a count ≡ joined g b count
  unfolding joined
  joined_as f g a b zero h = refl
  joined_as f g a b (suc count) h =
      ap₂ (λ (x y : List A). x ++ y) (ap f (nought a) ∙ h 0 (omega arith) ∙ sym (ap g (nought b)))
      (joined_as f g (suc a) (suc b) count (λ k l. ap f (next a k) ∙ h (suc k) (omega arith) ∙ sym (ap g (next b k))))
    where
      nought : (a : ℕ) → a ≡ a + 0
      nought a = omega arith

      next : (a k : ℕ) → suc a + k ≡ a + suc k
      next a k = omega arith

  joined-split : (f : ℕ → List A) (from m n : ℕ) → joined f from (m + n) ≡ joined f from m ++ joined f (from + m) n
  unfolding joined
  joined-split f from zero n =
      let e : 0 + n ≡ n = omega arith in
      let d : from + 0 ≡ from = omega arith in
      rw (e, d) refl
  joined-split f from (suc m) n =
      let e : suc m + n ≡ suc (m + n) = omega arith in
      let d : suc from + m ≡ from + suc m = omega arith in
      rw e (ap (λ (z : List A). f from ++ z) (joined-split f (suc from) m n) ∙ sym (append_assoc (f from) (joined f (suc from) m) (joined f (suc from + m) n)) ∙ rw d refl)

  -- a hundred for each of so many
  joined-hundreds :
      (f : ℕ → ℕ → List A) (from count : ℕ)
      → joined (λ i. joined (f i) 0 100) from count ≡ joined (λ p. f (p / 100) (p % 100)) (from * 100) (count * 100)
  unfolding joined
  joined-hundreds f from zero = refl
  joined-hundreds f from (suc count) =
      let e : suc count * 100 ≡ 100 + count * 100 = omega arith in
      let d : from * 100 + 100 ≡ suc from * 100 = omega arith in
      rw e
      (ap₂ (λ (x y : List A). x ++ y) (joined_as (f from) (λ p. f (p / 100) (p % 100)) 0 (from * 100) 100 one)
      (joined-hundreds f (suc from) count ∙ ap (λ (z : ℕ). joined (λ p. f (p / 100) (p % 100)) z (count * 100)) (sym d))
      ∙ sym (joined-split (λ p. f (p / 100) (p % 100)) (from * 100) 100 (count * 100)))
    where
      one : (k : ℕ) → k < 100 → f from (0 + k) ≡ f ((from * 100 + k) / 100) ((from * 100 + k) % 100)
      one k h =
          let a : (from * 100 + k) / 100 ≡ from = omega arith in
          let b : (from * 100 + k) % 100 ≡ 0 + k = omega arith in
          rw (a, b) refl

-- ---- the lines of rows one behind the other
abbrev InFours : List ℕ → Type 0
InFours rows = length rows % 4 ≡ 0

rows_append : (xs ys : List ℕ) → InFours xs → rows_text (xs ++ ys) ≡ rows_text xs ++ rows_text ys
unfolding rows_text lines_text
rows_append [] ys h = refl
rows_append (a ∷ []) ys h = absurd (omega arith)
rows_append (a ∷ b ∷ []) ys h = absurd (omega arith)
rows_append (a ∷ b ∷ c ∷ []) ys h = absurd (omega arith)
rows_append (a ∷ b ∷ c ∷ d ∷ xs) ys h =
    rows-one a b c d (xs ++ ys) ∙ ap (λ (z : List ℕ). line_of a b c d ++ z) (rows_append xs ys (omega arith))
    ∙ sym (ap (λ (z : List ℕ). z ++ rows_text ys) (rows-one a b c d xs) ∙ append_assoc (line_of a b c d) (rows_text xs) (rows_text ys))

joined-whole : (rows : ℕ → List ℕ) → ((k : ℕ) → InFours (rows k)) → (from count : ℕ) → InFours (joined rows from count)
unfolding joined
joined-whole rows h from zero = refl
joined-whole rows h from (suc count) = rw length-append (omega (arith, h from, joined-whole rows h (suc from) count))

rows-joined : (rows : ℕ → List ℕ) → ((k : ℕ) → InFours (rows k)) → (from count : ℕ) → rows_text (joined rows from count) ≡ joined (λ k. rows_text (rows k)) from count
unfolding joined rows_text lines_text
rows-joined rows h from zero = refl
rows-joined rows h from (suc count) =
    rows_append (rows from) (joined rows (suc from) count) (h from) ∙ ap (λ (z : List ℕ). rows_text (rows from) ++ z) (rows-joined rows h (suc from) count)

names-whole : (i : ℕ) (names : List ℕ) → InFours (name_rows i names)
unfolding name_rows
names-whole i [] = refl
names-whole i (n ∷ names) = omega (arith, names-whole i names)

links-whole : (i s : ℕ) (links : List ℕ) → InFours (link_rows i s links)
unfolding link_rows
links-whole i s [] = refl
links-whole i s (y ∷ links) = omega (arith, links-whole i s links)

-- ---- all parts
module _ (concepts roles : List ℕ) (marks : ℕ → ℕ → Bool) where
  names : ℕ → List ℕ
  names i = name_rows i (names_at concepts marks i)

  links : ℕ → ℕ → List ℕ
  links i s = link_rows i s (links_at concepts roles marks i s)

  all-names : joined (part_text concepts roles marks) 1 (count_of concepts) ≡ rows_text (joined names 0 (count_of concepts))
  unfolding names
  all-names =
      joined_as (part_text concepts roles marks) (λ i. rows_text (name_rows i (names_at concepts marks i))) 1 0 (count_of concepts) each
      ∙ sym (rows-joined (λ i. name_rows i (names_at concepts marks i)) (λ i. names-whole i (names_at concepts marks i)) 0 (count_of concepts))
    where
      each : (k : ℕ) → k < count_of concepts → part_text concepts roles marks (1 + k) ≡ rows_text (name_rows (0 + k) (names_at concepts marks (0 + k)))
      each k h =
          let a : 1 + k ≡ suc (0 + k) = omega arith in
          ap (part_text concepts roles marks) a ∙ names-part concepts roles marks (0 + k) (omega arith)

  all-links :
      joined (part_text concepts roles marks) (1 + count_of concepts) (count_of concepts * 100)
      ≡ rows_text (joined (λ i. joined (links i) 0 100) 0 (count_of concepts))
  unfolding links links_part
  all-links =
      joined_as (part_text concepts roles marks) (λ p. rows_text (links (p / 100) (p % 100))) (1 + count_of concepts) 0 (count_of concepts * 100) each
      ∙ sym (joined-hundreds (λ i s. rows_text (links i s)) 0 (count_of concepts))
      ∙ joined_as (λ i. joined (λ s. rows_text (links i s)) 0 100) (λ i. rows_text (joined (links i) 0 100)) 0 0 (count_of concepts)
      (λ k h. sym (rows-joined (links (0 + k)) (λ s. links-whole (0 + k) s (links_at concepts roles marks (0 + k) s)) 0 100))
      ∙ sym (rows-joined (λ i. joined (links i) 0 100) (λ i. joined-whole (links i) (λ s. links-whole i s (links_at concepts roles marks i s)) 0 100) 0 (count_of concepts))
    where
      each : (k : ℕ) → k < count_of concepts * 100 → part_text concepts roles marks (1 + count_of concepts + k) ≡ rows_text (links ((0 + k) / 100) ((0 + k) % 100))
      each k h =
          let a : 1 + count_of concepts + k ≡ suc (count_of concepts + k) = omega arith in
          let b : count_of concepts + k - count_of concepts ≡ 0 + k = omega arith in
          ap (part_text concepts roles marks) a ∙ links-part concepts roles marks (count_of concepts + k) (omega arith) ∙ rw b refl

  all-parts :
      part_text concepts roles marks 0 ++ rows_text (joined names 0 (count_of concepts) ++ joined (λ i. joined (links i) 0 100) 0 (count_of concepts))
      ≡ shown_text concepts roles marks
  unfolding part_text shown_text shown_rows names links
  all-parts = refl

  pub shown-parts : joined (part_text concepts roles marks) 0 (parts_of concepts) ≡ shown_text concepts roles marks
  unfolding joined names
  shown-parts =
      let e : parts_of concepts ≡ suc (count_of concepts + count_of concepts * 100) = omega arith in
      rw e
      (ap (λ (z : List ℕ). part_text concepts roles marks 0 ++ z)
      (joined-split (part_text concepts roles marks) 1 (count_of concepts) (count_of concepts * 100) ∙ ap₂ (λ (x y : List ℕ). x ++ y) all-names all-links
      ∙ sym (rows_append (joined names 0 (count_of concepts)) _ (joined-whole names (λ i. names-whole i (names_at concepts marks i)) 0 (count_of concepts))))
      ∙ all-parts)

-- ---- the parts that are printed, one behind the other, are the answer to the text
joined-answer :
    (judged : Judged) (concepts into table : List ℕ) (parts : ℕ) → InParts judged concepts into table parts
    → (bytes : ℕ → List ℕ) → ((k : ℕ) → k < parts → IsPart concepts into table k (bytes k)) → AnsweredJudged judged (joined bytes 0 parts)
joined-answer judged concepts into table parts P bytes each =
    subst (λ (z : Judged). AnsweredJudged z (joined bytes 0 parts)) (sym P.asked) (
    record {
      marks = marked table;
      exactly = λ e. P.exactly;
      shown = printed ∙ ap (λ (z : Outcome). shown_or z (shown_text P.t.concepts P.t.roles (marked table))) (sym P.fails);
    }
    )
  where
    printed : joined bytes 0 parts ≡ shown_text P.t.concepts P.t.roles (marked table)
    printed =
        joined_as bytes (part_text P.t.concepts P.t.roles (marked table)) 0 0 parts (λ k h. each (0 + k) (omega arith) P.t P.held)
        ∙ ap (joined (part_text P.t.concepts P.t.roles (marked table)) 0) (P.all ∙ ap parts_of P.held.same)
        ∙ shown-parts P.t.concepts P.t.roles (marked table)

pub parts-answer :
    (text concepts into table before after : List ℕ) (count parts : ℕ) → Planned (judge text) (Parts count parts) concepts into table before after
    → (bytes : ℕ → List ℕ) → ((k : ℕ) → k < parts → IsPart (take (count * 3) concepts) into table k (bytes k)) → Answered text (joined bytes 0 parts)
parts-answer text concepts into table before after count parts P bytes each =
    joined-answer (judge text) (take (count * 3) concepts) into table parts P.1 bytes each
