-- Columns in rising order: rule 6 at one column, one column, all columns.
use Prim.Native.Nat.{ℕ, ◌+◌, ◌<◌}
use mathlib.Core.Path.{◌≡◌, sym, ap, ◌∙◌, subst}
use mathlib.Core.List.{List}
use mathlib.Core.Bool.{Bool, true, false, ◌||◌}
use native.Mathlib.Omega.{arith}
use Rattle.subsumption.specs.Tables.{count_of, pairs_of, left_of, right_of}
use Rattle.square.specs.Inner.Square.{in_row, in_column}
use Rattle.incremental.specs.Inner.Marking.{Adds}
use Rattle.incremental.specs.Inner.Pass.{Pass}
use Rattle.incremental.specs.Inner.Settling.{MeetPass}
use Rattle.incremental.specs.Inner.Including.{Pairs}
use Rattle.incremental.specs.Inner.Links.{LinkPass}
use Rattle.incremental.specs.Inner.Rising.{ColumnGains, RisenLines, RisenAt, RisenPass}
use Rattle.incremental.proofs.Passes.{pass-as, pass-then, pass-law, step-pass, loop-more}

-- ---- rule 6, at the column j
module _ (count : ℕ) (inclusions : List ℕ) (P : Pairs count inclusions) (j : ℕ) (inside : j < count) where
  pub gains-more :
      (m : ℕ) (low : m < pairs_of inclusions) {before mid after : List ℕ} {a b : Bool} → ColumnGains count inclusions before mid a
      → in_column mid (right_of inclusions m) j ≡ true
      → Adds in_row mid after (λ i p. (p ≡ j) × (in_row mid i (left_of inclusions m) ≡ true) × (in_row mid i (left_of inclusions m) ≡ true)) b
      → ColumnGains count inclusions before after (a || b)
  gains-more m low {before} {mid} p h A =
      pass-as
      (pass-then {Q = λ s. Unit {0}} {Q' = λ s. Unit {0}} p
      (step-pass P.low A
      (λ R r w i q l k u.
      let here = p.square.mirror (right_of inclusions m) j (omega (arith, P.right m low, P.low)) (omega (arith, P.low)) ∙ h in (
        omega (arith, u.0),
        subst (λ (z : ℕ). R i z ≡ true) (sym u.0)
            (r i l m low (w i (left_of inclusions m) l (omega (arith, P.left m low, P.low)) u.1).1 j inside
            (w (right_of inclusions m) j (P.right m low) (omega (arith, P.low)) here).1),
      ))
      (λ f. tt)))
      (λ u. tt)

module _ (concepts inclusions : List ℕ) (wide : ℕ → ℕ → Bool) (choose : ℕ → List ℕ) where
  -- ---- one column
  both :
      (j : ℕ) {before one two : List ℕ} {a b : Bool} → MeetPass concepts choose j before one a → LinkPass concepts wide j one two b
      → RisenPass concepts inclusions wide choose j before two (a || b)
  both j A B = pass-then (pass-law (λ R r. r.meet) A) (pass-law (λ R r. r.link) B)

  pub risen-none :
      (j : ℕ) {before one two : List ℕ} {a b : Bool} → (a || b) ≡ false → MeetPass concepts choose j before one a → LinkPass concepts wide j one two b
      → RisenPass concepts inclusions wide choose j before two false
  risen-none j {before} {one} {two} e A B = subst (λ (x : Bool). RisenPass concepts inclusions wide choose j before two x) e (both j A B)

  pub risen-more :
      (j : ℕ) {before one two after : List ℕ} {a b c : Bool} → (a || b) ≡ true → MeetPass concepts choose j before one a → LinkPass concepts wide j one two b
      → ColumnGains (count_of concepts) inclusions two after c → RisenPass concepts inclusions wide choose j before after true
  risen-more j {before} {one} {two} {after} {a} {b} {c} e A B C =
      subst (λ (x : Bool). RisenPass concepts inclusions wide choose j before after x) (ap (λ (x : Bool). x || c) e)
      (pass-as (pass-then (both j A B) (pass-law (λ R r. r.include) C)) (λ u. u.0))

  -- ---- all columns
  abbrev pub RisenTo : ℕ → List ℕ → List ℕ → Bool → Type 0
  RisenTo n before after changed =
      Pass (count_of concepts) (RisenLines concepts inclusions wide choose) (λ s. (j : ℕ) → j < n → RisenAt concepts wide choose j s) before after changed

  pub risen-next :
      (n : ℕ) {before mid after : List ℕ} {a b : Bool} → RisenTo n before mid a → RisenPass concepts inclusions wide choose n mid after b → RisenTo (n + 1) before after (a || b)
  risen-next n p q = loop-more (RisenAt concepts wide choose) n p q
