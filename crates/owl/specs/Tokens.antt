-- Tokens of the OWL functional syntax (02, A.8): a round bracket, or a longest run of bytes other than round brackets, spaces and
-- line ends.
use Rattle.std.specs.Prelude.{ℕ, suc, List, [], ◌∷◌, Bool, true, false, eqb}
use Rattle.subsumption.specs.Tables.{or}

pub data Token : Type 0 where
  opening : Token
  closing : Token
  word : List ℕ → Token

-- A token and the place of its first byte.
pub record Placed : Type 0 where
  pub place : ℕ
  pub token : Token

-- Byte 32, 10 or 13.
unfoldable pub is_space : ℕ → Bool
is_space b = or (eqb b 32) (or (eqb b 10) (eqb b 13))

-- Bytes 40 and 41.
unfoldable pub is_bracket : ℕ → Bool
is_bracket b = or (eqb b 40) (eqb b 41)

unfoldable pub bracket_of : ℕ → Token
bracket_of b = elim (eqb b 40) [ true ↦ opening | false ↦ closing ]

-- A byte of a word, with the tokens behind it: a word that starts at the next place goes on with it.
unfoldable pub joined_onto : ℕ → ℕ → Placed → List Placed → Token → List Placed
joined_onto place b next more opening = record { place = place; token = word (b ∷ []) } ∷ next ∷ more
joined_onto place b next more closing = record { place = place; token = word (b ∷ []) } ∷ next ∷ more
joined_onto place b next more (word bytes) =
    elim (eqb next.place (suc place)) [
      | true ↦ record { place = place; token = word (b ∷ bytes) } ∷ more
      | false ↦ record { place = place; token = word (b ∷ []) } ∷ next ∷ more
    ]

unfoldable pub joined : ℕ → ℕ → List Placed → List Placed
joined place b [] = record { place = place; token = word (b ∷ []) } ∷ []
joined place b (next ∷ more) = joined_onto place b next more next.token

-- The tokens of the bytes from that place on.
unfoldable pub tokens_from : ℕ → List ℕ → List Placed
tokens_from place [] = []
tokens_from place (b ∷ rest) =
    elim (is_space b) [
      | true ↦ tokens_from (suc place) rest
      | false ↦ elim (is_bracket b) [
        | true ↦ record { place = place; token = bracket_of b } ∷ tokens_from (suc place) rest
        | false ↦ joined place b (tokens_from (suc place) rest)
      ]
    ]

abbrev pub tokens : List ℕ → List Placed
tokens text = tokens_from 0 text
