-- Counts and sections: how the judgement goes on behind them.
use Rattle.std.specs.Prelude.{Option, Some, None, Result, Ok, Err}
use Prim.Native.Nat.{ℕ, ◌+◌, ◌*◌, ◌<◌, ◌≤◌}
use mathlib.Core.Path.{◌≡◌, refl, sym, ap, ◌∙◌, subst}
use mathlib.Core.List.{List, [], ◌∷◌}
use mathlib.Core.Bool.{Bool, true, false, not}
use native.Mathlib.Omega.{arith}
use lib.ListN.{length, drop, length-drop}
use lib.Seq.{drop-drop}
use borrow.Author.Tests.{lt-ltb, le-ltb, not-true, not-false}
use Rattle.subsumption.specs.declared.refusal.Refusal.{Refusal}
use Rattle.subsumption.specs.declared.refusal.Refusal.TheVariants.{Limit, BadText}
use Rattle.subsumption.specs.Tables.{Tables}
use Rattle.numerals.specs.Bytes.{starts}
use Rattle.numerals.specs.Lines.{roles_key, wider_key, show_key}
use Rattle.hermitcasket.specs.declared.lines.Number.{Number}
use Rattle.hermitcasket.specs.declared.lines.PairLine.{PairLine}
use Rattle.hermitcasket.specs.declared.text.Ask.TheVariants.{Fill, Show}
use Rattle.hermitcasket.specs.declared.text.Section.{Section}
use Rattle.hermitcasket.specs.Lines.{number_line, pair_line}
use Rattle.hermitcasket.specs.Text.{Line, accepted, pick_judged, count_then, part_then, read_lines, Onward, section_at, roles_at, pair_at, show_then, judge_end}
use Rattle.hermitcasket.specs.Inner.Text.{lines_then, LinesFit, LinesRead, counted_then, section_then, end_then, Ends, SectionFits, Counts, Sectioned}
use Rattle.hermitcasket.proofs.LineLaws.{holds-within}
use Rattle.hermitcasket.proofs.RightLines.{number_line-holds}

-- ---- a count
module _ (key : List ℕ) (limit table at : ℕ) (rest : List ℕ) (found : Option Number) (is_found : found ≡ number_line key rest) where
  pub count_none : found ≡ None → Counts key limit table at rest (Err (BadText at))
  unfolding count_then counted_then
  count_none h = record { judged = λ go. rw (sym is_found ∙ h) refl; fits = tt }

  pub count-over : (n : Number) → found ≡ Some n → limit < n.value → Counts key limit table at rest (Err (Limit table))
  unfolding count_then counted_then pick_judged
  count-over n h l = record { judged = λ go. rw (sym is_found ∙ h, lt-ltb limit n.value l) refl; fits = tt }

  pub count-through : (n : Number) → found ≡ Some n → n.value ≤ limit
      → Counts key limit table at rest (Ok (record { count = n.value; length = n.length }))
  unfolding count_then counted_then pick_judged
  count-through n h l =
      record {
        judged = λ go. rw (sym is_found ∙ h, le-ltb limit n.value l) refl;
        fits = (l, holds-within rest _ n.length (number_line-holds key rest n.value n.length (sym is_found ∙ h)));
      }

-- ---- a section
module _ (key : List ℕ) (limit table at : ℕ) (rest : List ℕ) (counted : Result Section Refusal)
    (counts : Counts key limit table at rest counted) where
  pub section-refused :
      (line : List ℕ → Line) (width : ℕ) (r : Refusal) (out : List ℕ) → counted ≡ Err r
      → Sectioned (section_at key limit table line) limit width at rest (Err r) out
  unfolding section_at counted_then section_then
  section-refused line width r out h = record { judged = λ go. counts.judged _ ∙ rw h refl; fits = tt }

  module _ (s : Section) (h : counted ≡ Ok s) where
    fits : SectionFits (Ok s) limit (length rest)
    fits = subst (λ (z : Result Section Refusal). SectionFits z limit (length rest)) h counts.fits

    pub counted-few : s.count ≤ limit
    counted-few = fits.0

    pub counted-within : s.length ≤ length rest
    counted-within = fits.1

    module _ (more : List ℕ) (e : more ≡ drop s.length rest) where
      pub lines-room : at + length rest ≤ 8192 → at + s.length + length more ≤ 8192
      lines-room l = omega (arith, counted-within, ap length e, length-drop s.length rest)

      module _
          (line : List ℕ → Line) (width : ℕ) (lines : Result ℕ Refusal) (out : List ℕ)
          (r : LinesRead line width s.count (at + s.length) more lines out) where
        all :
            (go : List ℕ → Onward)
            → part_then (read_lines line s.count (at + s.length) (drop s.length rest)) go
            ≡ lines_then lines (s.count * width) out go (at + s.length) (drop s.length rest)
        all go =
            subst
            (λ (z : List ℕ).
            part_then (read_lines line s.count (at + s.length) z) go ≡ lines_then lines (s.count * width) out go (at + s.length) z)
            e (r.judged go)

        pub section-off : (q : Refusal) → lines ≡ Err q → Sectioned (section_at key limit table line) limit width at rest (Err q) out
        unfolding section_at counted_then section_then lines_then
        section-off q f = record { judged = λ go. counts.judged _ ∙ rw h (all go ∙ rw f refl); fits = tt }

        module _ (m : ℕ) (f : lines ≡ Ok m) where
          pub lines-used : s.length + m ≤ length rest
          lines-used =
              let k : m ≤ length more = subst (λ (z : Result ℕ Refusal). LinesFit z (length more)) f r.fits in
              omega (arith, counted-within, ap length e, length-drop s.length rest)

          pub section-through :
              Sectioned (section_at key limit table line) limit width at rest (Ok (record { count = s.count; length = s.length + m })) out
          unfolding section_at counted_then section_then lines_then
          section-through =
              let q : at + s.length + m ≡ at + (s.length + m) = omega arith in
              record {
                judged = λ go. counts.judged _ ∙ rw h (all go ∙ rw f (rw (q, drop-drop m s.length rest) refl));
                fits = (counted-few, lines-used);
              }

-- ---- the roles, if their key is there
module _ (at : ℕ) (rest : List ℕ) (there : Bool) (is-there : there ≡ starts roles_key rest) (out : List ℕ) where
  pub roles-absent : not there ≡ true → Sectioned roles_at 32 2 at rest (Ok (record { count = 0; length = 0 })) out
  unfolding roles_at pick_judged section_then
  roles-absent h =
      let z : at + 0 ≡ at = omega arith in
      record { judged = λ go. rw (sym is-there ∙ not-true there h, z) refl; fits = (omega arith, omega arith) }

  pub roles-present :
      not there ≡ false → (r : Result Section Refusal) → Sectioned (section_at roles_key 32 4 (pair_at wider_key)) 32 2 at rest r out
      → Sectioned roles_at 32 2 at rest r out
  unfolding roles_at pick_judged
  roles-present h r s = record { judged = λ go. rw (sym is-there ∙ not-false there h) (s.judged go); fits = s.fits }

-- ---- the end of the text
module _ (at : ℕ) (rest : List ℕ) where
  pub end_none : length rest ≡ 0 → Ends at rest (Ok Fill)
  unfolding judge_end end_then
  end_none h t = go rest h
    where
      go : (xs : List ℕ) → length xs ≡ 0 → judge_end t at xs ≡ accepted t Fill
      go [] e = refl
      go (x ∷ xs) e = absurd (omega arith)

  module _ (some : length rest ≡ 0 → ⊥) (line : Option PairLine) (is-line : line ≡ pair_line show_key rest) where
    one_line : (t : Tables) → judge_end t at rest ≡ show_then line t at rest
    unfolding judge_end
    one_line t = go rest some ∙ ap (λ (z : Option PairLine). show_then z t at rest) (sym is-line)
      where
        go : (xs : List ℕ) → (length xs ≡ 0 → ⊥) → judge_end t at xs ≡ show_then (pair_line show_key xs) t at xs
        go [] e = absurd (e refl)
        go (x ∷ xs) e = refl

    pub end-off : line ≡ None → Ends at rest (Err (BadText at))
    unfolding show_then end_then
    end-off h t = one_line t ∙ rw h refl

    module _ (l : PairLine) (h : line ≡ Some l) where
      pub end_more : l.length < length rest → Ends at rest (Err (BadText (at + l.length)))
      unfolding show_then pick_judged end_then
      end_more k t = one_line t ∙ rw (h, lt-ltb l.length (length rest) k) refl

      pub end-shown : length rest ≤ l.length → Ends at rest (Ok (Show l.a l.b))
      unfolding show_then pick_judged end_then
      end-shown k t = one_line t ∙ rw (h, le-ltb l.length (length rest) k) refl
