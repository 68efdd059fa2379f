-- The groups' assignments put together (02, A.10).
use Rattle.std.specs.Prelude.{ℕ, zero, suc, ◌<◌, ◌≤◌, ◌≡◌, List, [], ◌∷◌, length, get_or}
use Rattle.std.specs.Int.Bits.{bit_or}
use Rattle.subsumption.specs.Tables.{Tables, pairs_of}
use Rattle.subsumption.specs.Refusal.{Reply, Done}
use Rattle.subsumption.specs.Check.{table_fault}
use Rattle.settings.specs.Settings.{Settings, settings_fault}
use Rattle.matching.specs.Within.{FindsWithin}
use Rattle.groups.specs.Find.{FindsGroup}

-- The numbers f 0, f 1, and so on, n of them.
unfoldable pub numbers : (ℕ → ℕ) → ℕ → List ℕ
numbers f zero = []
numbers f (suc n) = f 0 ∷ numbers (λ k. f (suc k)) n

-- What the first n questions' assignments take for variable k, each question having that of its group.
unfoldable pub choice_of : (ℕ → List ℕ) → ℕ → ℕ → ℕ
choice_of part k zero = 0
choice_of part k (suc n) = bit_or (choice_of part k n) (get_or (part n) k 0)

unfoldable pub together : Tables → (ℕ → List ℕ) → List ℕ
together t part = numbers (λ k. choice_of part k (pairs_of t.questions)) t.variables

-- The answers for the whole and for every question's group, where nothing is refused.
pub record Answers (t : Tables) (s : Settings) (before after : List ℕ) (reply : Reply) (befores afters : ℕ → List ℕ)
    (replies : ℕ → Reply) : Type 0 where
  pub tables : table_fault t ≡ Done
  pub settings : settings_fault t s ≡ Done
  pub room : t.variables ≤ length before
  pub rooms : (m : ℕ) → m < pairs_of t.questions → t.variables ≤ length (befores m)
  pub whole : FindsWithin t s before after reply
  pub groups : (m : ℕ) → m < pairs_of t.questions → FindsGroup t s m (befores m) (afters m) (replies m)
