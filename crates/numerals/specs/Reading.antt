-- Reading a number (01, "House text and the program"): decimal digits, the highest first, without leading zeros, at most 65535.
use Rattle.std.specs.Prelude.{ℕ, suc, ◌+◌, ◌-◌, ◌*◌, List, [], ◌∷◌, Bool, true, false, eqb, ltb}
use Rattle.subsumption.specs.Tables.{or, both}
use Rattle.numerals.specs.declared.reading.Run.{Run}

-- No digit, a digit after a leading zero, or a number over 65535: of a number that so many digits gave.
unfoldable pub wrong_digit : ℕ → ℕ → ℕ → Bool
wrong_digit value count b = or (ltb b 48) (or (ltb 57 b) (or (both (ltb 0 count) (eqb value 0)) (ltb 65535 (value * 10 + (b - 48)))))

-- The longest run of right digits in front, of which `count` are read and give `value`.
unfoldable pub run_from : ℕ → ℕ → List ℕ → Run
run_from value count [] = record { value = value; length = count }
run_from value count (b ∷ rest) =
    elim (wrong_digit value count b)
    [ true ↦ record { value = value; length = count } | false ↦ run_from (value * 10 + (b - 48)) (suc count) rest ]

abbrev pub run_of : List ℕ → Run
run_of rest = run_from 0 0 rest
