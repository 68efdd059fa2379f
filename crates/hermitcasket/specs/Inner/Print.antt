-- What the printing functions write for the parts of an interpretation (src/parts.rt).
use Rattle.std.specs.Prelude.{ℕ, ◌≡◌, List, [], ◌∷◌, ◌++◌, Bool, true, false}
use Rattle.subsumption.specs.Table.{marked}
use Rattle.countermodel.specs.Countermodel.{links_at, link_rows}
use Rattle.countermodel.specs.Inner.Show.{ForRoles}
use Rattle.numerals.specs.Printing.{pair_text}
use Rattle.hermitcasket.specs.Printing.{is_key, link_text, rows_text}

-- The line of a mark q of the element i: its name q, or its link by the role s to q.
unfoldable pub mark_line : Bool → ℕ → ℕ → ℕ → List ℕ
mark_line false i s q = pair_text is_key i q
mark_line true i s q = link_text i s q

unfoldable pub mark_lines : Bool → ℕ → ℕ → List ℕ → List ℕ
mark_lines link i s [] = []
mark_lines link i s (q ∷ marks) = mark_line link i s q ++ mark_lines link i s marks

-- The lines of the element's links by the role s, for whatever roles these are the sets of.
abbrev pub IsLinks : List ℕ → List ℕ → List ℕ → ℕ → ℕ → List ℕ → Type 0
IsLinks concepts into table i s bytes = ForRoles into (λ roles. bytes ≡ rows_text (link_rows i s (links_at concepts roles (marked table) i s)))
