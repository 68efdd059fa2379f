-- Where tokens begin and end (src/tokens.rt).
use Rattle.std.specs.Prelude.{ℕ, ◌-◌, ◌<◌, ◌≤◌, ◌≡◌, List, [], ◌∷◌, true, false, length, get_or, take, drop}
use Rattle.owl.specs.Tokens.{Token, Placed, word, bracket_of, is_space, is_bracket, tokens_from}

-- the tokens from `at` on are those from `p` on, and no space stands there
pub record Skips (text : List ℕ) (at p : ℕ) : Type 0 where
  pub low : at ≤ p
  pub high : p ≤ length text
  pub same : tokens_from at (drop at text) ≡ tokens_from p (drop p text)
  pub here : p < length text → is_space (get_or text p 0) ≡ false

-- the token of these bytes
abbrev pub token_of : List ℕ → Token
token_of [] = word []
token_of (b ∷ rest) = elim (is_bracket b) [ true ↦ bracket_of b | false ↦ word (b ∷ rest) ]

-- the bytes of the token that begins at `at` and ends in front of `p`
abbrev pub token_at : List ℕ → ℕ → ℕ → Placed
token_at text at p = record { place = at; token = token_of (take (p - at) (drop at text)) }

-- the token that begins at `at` ends in front of `p`
pub record Ends (text : List ℕ) (at p : ℕ) : Type 0 where
  pub low : at < p
  pub high : p ≤ length text
  pub split : tokens_from at (drop at text) ≡ token_at text at p ∷ tokens_from p (drop p text)
