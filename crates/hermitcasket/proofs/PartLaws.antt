-- Reading several lines: what is left of it after i lines.
use Rattle.std.specs.Prelude.{Option, Some, None, Ok, Err}
use Prim.Native.Nat.{ℕ, suc, ◌+◌, ◌-◌, ◌*◌, ◌<◌, ◌≤◌}
use mathlib.Core.Path.{◌≡◌, refl, sym, ap, ◌∙◌}
use mathlib.Core.List.{List, [], ◌∷◌, ◌++◌, append_assoc, append-nil}
use native.Mathlib.Omega.{arith}
use native.Mathlib.Nat.{zero-mul}
use lib.ListN.{length, take, drop, set, length-drop}
use lib.Seq.{drop-drop}
use Rattle.subsumption.specs.declared.refusal.Refusal.TheVariants.{BadText}
use Rattle.subsumption.proofs.Lists.{take-two, take-three}
use Rattle.hermitcasket.specs.declared.lines.PairLine.{PairLine}
use Rattle.hermitcasket.specs.declared.lines.RowLine.{RowLine}
use Rattle.hermitcasket.specs.Lines.{pair_line, row_line}
use Rattle.hermitcasket.specs.Text.{Line, numbers, off, row_numbers, pair_numbers, row_at, pair_at, Part, part, faulty, prepend, line_then, read_lines, part_then}
use Rattle.hermitcasket.specs.Inner.Text.{lines_then, LinesRead}
use Rattle.hermitcasket.proofs.RightLines.{row_within, pair-within}

prepend-none : (p : Part) → p ≡ prepend [] p
unfolding prepend
prepend-none (part xs at rest) = refl
prepend-none (faulty at) = refl

prepend-more : (xs ys : List ℕ) (p : Part) → prepend xs (prepend ys p) ≡ prepend (xs ++ ys) p
unfolding prepend
prepend-more xs ys (part zs at rest) = ap (λ (z : List ℕ). part z at rest) (sym (append_assoc xs ys zs))
prepend-more xs ys (faulty at) = refl

module _ (line : List ℕ → Line) (width count at : ℕ) (text : List ℕ) where
  pub record Lined (out rest : List ℕ) (i used : ℕ) : Type 0 where
    pub here : rest ≡ drop used text
    pub within : used ≤ length text
    pub upto : i ≤ count
    pub left : read_lines line count at text ≡ prepend (take (i * width) out) (read_lines line (count - i) (at + used) rest)

  pub lined-none : (out : List ℕ) → Lined out text 0 0
  lined-none out =
      record {
        here = refl;
        within = omega arith;
        upto = omega arith;
        left =
            let e : count - 0 ≡ count = omega arith in
            let f : at + 0 ≡ at = omega arith in
            rw (zero-mul width, e, f) (prepend-none (read_lines line count at text));
      }

  split : (i : ℕ) → i < count → count - i ≡ suc (count - (i + 1))
  split i h = omega arith

  pub lined-off :
      (out rest : List ℕ) (i used : ℕ) → Lined out rest i used → i < count → line rest ≡ off
      → LinesRead line width count at text (Err (BadText (at + used))) out
  unfolding read_lines line_then prepend part_then lines_then
  lined-off out rest i used s h e =
      let f : read_lines line count at text ≡ faulty (at + used) =
      s.left ∙ ap (λ (z : ℕ). prepend (take (i * width) out) (read_lines line z (at + used) rest)) (split i h) ∙ rw e refl
      in
      record { judged = λ go. ap (λ (p : Part). part_then p go) f; fits = tt }

  pub lined-more :
      (out next rest more : List ℕ) (i used n : ℕ) (xs : List ℕ) → Lined out rest i used → i < count → line rest ≡ numbers xs n → more ≡ drop n rest → n ≤ length rest
      → take ((i + 1) * width) next ≡ take (i * width) out ++ xs → Lined next more (i + 1) (used + n)
  unfolding read_lines line_then
  lined-more out next rest more i used n xs s h e m l t =
      record {
        here = m ∙ ap (drop n) s.here ∙ drop-drop n used text;
        within = omega (arith, ap length s.here, length-drop used text, s.within);
        upto = omega arith;
        left =
            let f : at + used + n ≡ at + (used + n) = omega arith in
            s.left ∙ ap (λ (z : ℕ). prepend (take (i * width) out) (read_lines line z (at + used) rest)) (split i h)
            ∙ rw e (rw (prepend-more, f, t, m) refl);
      }

  pub lined-done : (out rest : List ℕ) (i used : ℕ) → Lined out rest i used → count ≤ i → LinesRead line width count at text (Ok used) out
  unfolding read_lines prepend part_then lines_then
  lined-done out rest i used s h =
      let e : count - i ≡ 0 = omega arith in
      let f : i ≡ count = omega (arith, s.upto) in
      let g : read_lines line count at text ≡ part (take (count * width) out) (at + used) (drop used text) =
      s.left ∙ ap (λ (z : ℕ). prepend (take (i * width) out) (read_lines line z (at + used) rest)) e
      ∙ rw (f, s.here) (ap (λ (z : List ℕ). part z (at + used) (drop used text)) (append-nil (take (count * width) out)))
      in
      record { judged = λ go. ap (λ (p : Part). part_then p go) g; fits = s.within }

-- ---- rows of three numbers and pairs of two
module _ (count at : ℕ) (text out rest : List ℕ) (i used : ℕ) (h : i < count) where
  module _ (line : Option RowLine) (s : Lined row_at 3 count at text out rest i used) (e : line ≡ row_line rest) where
    pub rows-off : line ≡ None → LinesRead row_at 3 count at text (Err (BadText (at + used))) out
    unfolding row_numbers
    rows-off f = lined-off row_at 3 count at text out rest i used s h (rw (sym e ∙ f) refl)

    module _ (l : RowLine) (f : line ≡ Some l) where
      pub rows-within : l.length ≤ length rest
      rows-within = row_within rest l.kind l.a l.b l.length (sym e ∙ f)

      pub rows-used : used + l.length ≤ length text
      rows-used = omega (arith, rows-within, ap length s.here, length-drop used text, s.within)

      pub rows_more :
          (more : List ℕ) → more ≡ drop l.length rest → (before : List ℕ) → length out ≡ length before → count * 3 ≤ length before
          → Lined row_at 3 count at text (set (set (set out (i * 3) l.kind) (i * 3 + 1) l.a) (i * 3 + 2) l.b) more (i + 1) (used + l.length)
      unfolding row_numbers
      rows_more more m before q h3 =
          lined-more row_at 3 count at text out _ rest more i used l.length (l.kind ∷ l.a ∷ l.b ∷ []) s h
          (rw (sym e ∙ f) refl) m rows-within
          (take-three (i * 3) ((i + 1) * 3) l.kind l.a l.b out (omega arith) (omega arith))

  module _ (key : List ℕ) (line : Option PairLine) (s : Lined (pair_at key) 2 count at text out rest i used)
      (e : line ≡ pair_line key rest) where
    pub pairs-off : line ≡ None → LinesRead (pair_at key) 2 count at text (Err (BadText (at + used))) out
    unfolding pair_numbers
    pairs-off f = lined-off (pair_at key) 2 count at text out rest i used s h (rw (sym e ∙ f) refl)

    module _ (l : PairLine) (f : line ≡ Some l) where
      pub pairs-within : l.length ≤ length rest
      pairs-within = pair-within key rest l.a l.b l.length (sym e ∙ f)

      pub pairs-used : used + l.length ≤ length text
      pairs-used = omega (arith, pairs-within, ap length s.here, length-drop used text, s.within)

      pub pairs-more :
          (more : List ℕ) → more ≡ drop l.length rest → (before : List ℕ) → length out ≡ length before → count * 2 ≤ length before
          → Lined (pair_at key) 2 count at text (set (set out (i * 2) l.a) (i * 2 + 1) l.b) more (i + 1) (used + l.length)
      unfolding pair_numbers
      pairs-more more m before q h2 =
          lined-more (pair_at key) 2 count at text out _ rest more i used l.length (l.a ∷ l.b ∷ []) s h (rw (sym e ∙ f) refl) m pairs-within
          (take-two (i * 2) ((i + 1) * 2) l.a l.b out (omega arith) (omega arith))
