-- What the walk of accepted tables within accepted settings promises.
use Rattle.subsumption.specs.Refusal.{Done}
use Rattle.std.specs.Prelude.{ℕ, ◌≤◌, ◌≡◌, List, length, take}
use Rattle.subsumption.specs.Tables.{Tables}
use Rattle.subsumption.specs.Check.{assignment_fault}
use Rattle.settings.specs.Settings.{Settings, Heeds}
use Rattle.matching.specs.Solving.{Solves}
use Rattle.matching.specs.Within.{FirstWithin}
use Rattle.allowance.specs.declared.walk.Ending.{Ending}
use Rattle.allowance.specs.declared.walk.Ending.TheVariants.{Found, Spent, Absent}
use Rattle.allowance.specs.Count.{CountOf, Exceeds}

-- The first assignment within the settings that solves, or there is none, with the count; or the count is over the allowance.
pub record FirstCounted (t : Tables) (settings : Settings) (allowance : ℕ) (choice : List ℕ) (met : ℕ) : Type 0 where
  pub long : length choice ≡ 8
  pub first : FirstWithin t settings (take t.variables choice)
  pub counted : CountOf t settings met
  pub enough : met ≤ allowance

pub record NoneCounted (t : Tables) (settings : Settings) (allowance met : ℕ) : Type 0 where
  pub none : (other : List ℕ) → assignment_fault t other ≡ Done → Heeds settings other → Solves t other → ⊥
  pub counted : CountOf t settings met
  pub enough : met ≤ allowance

abbrev pub WalkedBy : Tables → Settings → ℕ → Ending → ℕ → Type 0
WalkedBy t settings allowance (Found choice) met = FirstCounted t settings allowance choice met
WalkedBy t settings allowance Spent met = Exceeds t settings allowance × (met ≡ allowance)
WalkedBy t settings allowance Absent met = NoneCounted t settings allowance met
