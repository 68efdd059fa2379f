-- Decimal digits as bytes, the highest first, without leading zeros.
use Rattle.std.specs.Prelude.{ℕ, zero, suc, ◌+◌, ◌/◌, ◌%◌, List, [], ◌∷◌, ◌++◌, true, false, ltb}

unfoldable pub digits_to : ℕ → ℕ → List ℕ
digits_to zero n = (48 + n) ∷ []
digits_to (suc more) n = elim (ltb n 10) [ true ↦ (48 + n) ∷ [] | false ↦ digits_to more (n / 10) ++ ((48 + n % 10) ∷ []) ]

-- Each digit makes the number smaller, so n of them are enough.
unfoldable pub digits : ℕ → List ℕ
digits n = digits_to n n
