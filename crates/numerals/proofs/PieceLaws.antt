-- Printing piece after piece, and what an output then is.
use Prim.Native.Nat.{ℕ, ◌+◌, ◌≤◌}
use mathlib.Core.Path.{◌≡◌, refl, sym, ap, ◌∙◌, subst}
use mathlib.Core.List.{List, [], ◌++◌, append_assoc, append-nil}
use native.Mathlib.Omega.{arith}
use lib.ListN.{length, take, drop, length-append}
use lib.Seq.{take-append_seam, drop-append_seam}
use Rattle.numerals.specs.Printing.{Output}
use Rattle.numerals.specs.Inner.Printing.{placed, Wrote}
use Rattle.numerals.proofs.WriteLaws.{wrote_none, wrote-join, wrote-length}

-- ---- piece after piece: what stands there, and what is left
module _ (left : ℕ → List ℕ) (before : List ℕ) (at : ℕ) where
  pub record Printed (out : List ℕ) (end i : ℕ) : Type 0 where
    pub text : List ℕ
    pub wrote : Wrote before at text end out
    pub whole : left 0 ≡ text ++ left i
    pub long : length out ≡ length before

  pub printed-none : Printed before at 0
  printed-none = record { text = []; wrote = wrote_none before at; whole = refl; long = refl }

  module _
      (out : List ℕ) (end i : ℕ) (s : Printed out end i) (room : at + length (left 0) ≤ length before)
      (piece : List ℕ) (next : left i ≡ piece ++ left (i + 1)) where
    split : left 0 ≡ (s.text ++ piece) ++ left (i + 1)
    split = s.whole ∙ ap (λ (z : List ℕ). s.text ++ z) next ∙ sym (append_assoc s.text piece (left (i + 1)))

    sizes : at + length s.text + length piece ≤ length before
    sizes = omega (arith, ap length split, length-append (s.text ++ piece) (left (i + 1)), length-append s.text piece)

    pub piece-room : end + length piece ≤ length out
    piece-room = omega (arith, sizes, s.wrote.place, s.long)

    pub printed-more : (end' : ℕ) (out' : List ℕ) → Wrote out end piece end' out' → Printed out' end' (i + 1)
    printed-more end' out' w =
        record {
          text = s.text ++ piece;
          wrote = wrote-join before at s.text piece end out end' out' (omega (arith, sizes)) s.wrote w;
          whole = split;
          long = wrote-length out end piece end' out' piece-room w ∙ s.long;
        }

  pub printed-skip : (out : List ℕ) (end i : ℕ) → Printed out end i → left i ≡ left (i + 1) → Printed out end (i + 1)
  printed-skip out end i s e =
      record { text = s.text; wrote = s.wrote; whole = s.whole ∙ ap (λ (z : List ℕ). s.text ++ z) e; long = s.long }

  pub printed-done : (out : List ℕ) (end i : ℕ) → Printed out end i → left i ≡ [] → Wrote before at (left 0) end out
  printed-done out end i s e =
      subst (λ (z : List ℕ). Wrote before at z end out) (sym (s.whole ∙ ap (λ (z : List ℕ). s.text ++ z) e ∙ append-nil s.text)) s.wrote

-- ---- what was written in front is the output
module _ (Right : List ℕ → Type 0) (before bytes : List ℕ) (size : ℕ) (after : List ℕ) (wrote : Wrote before 0 bytes size after) where
  whole : after ≡ bytes ++ drop (0 + length bytes) before
  unfolding placed
  whole = wrote.buffer

  length-is : size ≡ length bytes
  length-is = omega (arith, wrote.place)

  pub output : Right bytes → Output Right before size after
  output h =
      record {
        answered =
            subst (λ (z : List ℕ). Right z)
            (sym (ap (λ (z : ℕ). take z after) length-is ∙ ap (λ (z : List ℕ). take (length bytes) z) whole ∙ take-append_seam bytes (drop (0 + length bytes) before))) h;
        within = omega (arith, length-is, ap length whole, length-append bytes (drop (0 + length bytes) before));
        kept =
            ap (λ (z : ℕ). drop z after) length-is ∙ ap (λ (z : List ℕ). drop (length bytes) z) whole ∙ drop-append_seam bytes (drop (0 + length bytes) before)
            ∙ ap (λ (z : ℕ). drop z before) (sym wrote.place);
      }
