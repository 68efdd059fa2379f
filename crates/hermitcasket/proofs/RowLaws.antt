-- A line of the concept table: the first kind whose line is there.
use Rattle.std.specs.Prelude.{Option, None}
use Prim.Native.Nat.{ℕ}
use mathlib.Core.Path.{◌≡◌, sym, ◌∙◌}
use mathlib.Core.List.{List}
use mathlib.Core.Bool.{Bool, true, false}
use Rattle.numerals.specs.Bytes.{starts}
use Rattle.numerals.specs.Lines.{top_text, name_key, some_key, and_key, variable_key}
use Rattle.hermitcasket.specs.declared.lines.Number.{Number}
use Rattle.hermitcasket.specs.declared.lines.PairLine.{PairLine}
use Rattle.hermitcasket.specs.Lines.{a_number, a_pair, a_row, number_line, pair_line, top_row, one_row, two_row, or_row, row_line}

module _ (rest : List ℕ) (top : Bool) (is-top : top ≡ starts top_text rest) where
  pub row-top : top ≡ true → a_row 0 0 0 6 ≡ row_line rest
  unfolding row_line or_row top_row
  row-top h = rw (sym is-top ∙ h)

  module _ (no_top : top ≡ false) (name : Option Number) (is_name : name ≡ number_line name_key rest) where
    pub row-name : (a n : ℕ) → name ≡ a_number a n → a_row 1 a 0 n ≡ row_line rest
    unfolding row_line or_row top_row one_row
    row-name a n h = rw (sym is-top ∙ no_top, sym is_name ∙ h)

    module _ (no_name : name ≡ None) (existential : Option PairLine) (is-existential : existential ≡ pair_line some_key rest) where
      pub row-existential : (a b n : ℕ) → existential ≡ a_pair a b n → a_row 2 a b n ≡ row_line rest
      unfolding row_line or_row top_row one_row two_row
      row-existential a b n h = rw (sym is-top ∙ no_top, sym is_name ∙ no_name, sym is-existential ∙ h)

      module _ (no-existential : existential ≡ None) (conjunction : Option PairLine)
          (is-conjunction : conjunction ≡ pair_line and_key rest) where
        pub row-conjunction : (a b n : ℕ) → conjunction ≡ a_pair a b n → a_row 3 a b n ≡ row_line rest
        unfolding row_line or_row top_row one_row two_row
        row-conjunction a b n h = rw (sym is-top ∙ no_top, sym is_name ∙ no_name, sym is-existential ∙ no-existential, sym is-conjunction ∙ h)

        module _ (no-conjunction : conjunction ≡ None) (variable : Option Number)
            (is-variable : variable ≡ number_line variable_key rest) where
          pub row-variable : (a n : ℕ) → variable ≡ a_number a n → a_row 4 a 0 n ≡ row_line rest
          unfolding row_line or_row top_row one_row two_row
          row-variable a n h =
              rw (sym is-top ∙ no_top, sym is_name ∙ no_name, sym is-existential ∙ no-existential, sym is-conjunction ∙ no-conjunction, sym is-variable ∙ h)

          pub row-none : variable ≡ None → None ≡ row_line rest
          unfolding row_line or_row top_row one_row two_row
          row-none h =
              rw (sym is-top ∙ no_top, sym is_name ∙ no_name, sym is-existential ∙ no-existential, sym is-conjunction ∙ no-conjunction, sym is-variable ∙ h)
