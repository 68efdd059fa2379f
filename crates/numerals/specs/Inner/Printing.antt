-- What the printing functions do to the buffer.
use Rattle.std.specs.Prelude.{ℕ, ◌+◌, ◌≡◌, List, ◌++◌, length, take, drop}

unfoldable pub placed : ℕ → List ℕ → List ℕ → List ℕ
placed at bytes before = (take at before ++ bytes) ++ drop (at + length bytes) before

-- The bytes stand from `at` on, `end` is the place behind them, and the rest is as it was.
pub record Wrote (before : List ℕ) (at : ℕ) (bytes : List ℕ) (end : ℕ) (after : List ℕ) : Type 0 where
  pub place : end ≡ at + length bytes
  pub buffer : after ≡ placed at bytes before
