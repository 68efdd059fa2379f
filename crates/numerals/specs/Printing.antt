-- What is printed (01, "House text and the program"): lines of numbers behind a key, refusals, and what an output is. Byte 10 ends a line,
-- byte 44 is the comma.
use Rattle.std.specs.Prelude.{ℕ, ◌≤◌, ◌≡◌, List, [], ◌∷◌, ◌++◌, length, take, drop}
use Rattle.subsumption.specs.declared.refusal.Code.{Code}
use Rattle.numerals.specs.Digits.{digits}

unfoldable pub number_text : List ℕ → ℕ → List ℕ
number_text key n = key ++ (digits n ++ (10 ∷ []))

unfoldable pub pair_text : List ℕ → ℕ → ℕ → List ℕ
pair_text key a b = key ++ (digits a ++ (44 ∷ (digits b ++ (10 ∷ []))))

-- ---- a refusal

-- the whole line "answer=refused"
abbrev pub refused_line : List ℕ
refused_line = 97 ∷ 110 ∷ 115 ∷ 119 ∷ 101 ∷ 114 ∷ 61 ∷ 114 ∷ 101 ∷ 102 ∷ 117 ∷ 115 ∷ 101 ∷ 100 ∷ 10 ∷ []

-- "number=", "place="
abbrev pub number_key : List ℕ
number_key = 110 ∷ 117 ∷ 109 ∷ 98 ∷ 101 ∷ 114 ∷ 61 ∷ []

abbrev pub place_key : List ℕ
place_key = 112 ∷ 108 ∷ 97 ∷ 99 ∷ 101 ∷ 61 ∷ []

unfoldable pub refused_text : Code → List ℕ
refused_text code = refused_line ++ (number_text number_key code.number ++ number_text place_key code.place)

-- ---- what a program writes

-- The first `size` bytes of the buffer are such an output, and past them it keeps its values.
pub record Output (Right : List ℕ → Type 0) (before : List ℕ) (size : ℕ) (after : List ℕ) : Type 0 where
  pub answered : Right (take size after)
  pub within : size ≤ length after
  pub kept : drop size after ≡ drop size before
