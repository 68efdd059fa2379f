-- Sets of the roles that count as a role (src/roles.rt).
use Rattle.std.specs.Prelude.{ℕ, ◌+◌, ◌*◌, ◌/◌, ◌%◌, ◌<◌, ◌≡◌, List, Bool, eqb, length, get_or}
use Rattle.subsumption.specs.Tables.{or, both, pairs_of, left_of, right_of}
use Rattle.subsumption.specs.Atoms.{bit}
use Rattle.subsumption.specs.Roles.{wider}

-- the role r is in the set of s: two words of 64 bits a role
unfoldable pub in_set : List ℕ → ℕ → ℕ → Bool
in_set into r s = bit (get_or into (s * 2 + r / 64) 0) (r % 64)

-- check 16 passed
pub record LowRoles (roles : List ℕ) : Type 0 where
  pub narrow : (m : ℕ) → m < pairs_of roles → left_of roles m < 100
  pub wide : (m : ℕ) → m < pairs_of roles → right_of roles m < 100

pub record Started (into : List ℕ) : Type 0 where
  pub long : length into ≡ 200
  pub each : (r s : ℕ) → r < 100 → s < 100 → in_set into r s ≡ eqb r s

pub record Joined (before after : List ℕ) (from to : ℕ) : Type 0 where
  pub long : length after ≡ 200
  pub each : (r s : ℕ) → r < 100 → s < 100 → in_set after r s ≡ or (in_set before r s) (both (in_set before r from) (eqb s to))

pub record Widened (before after : List ℕ) (narrow wide : ℕ) : Type 0 where
  pub long : length after ≡ 200
  pub each : (r s : ℕ) → r < 100 → s < 100 → in_set after r s ≡ or (in_set before r s) (both (in_set before r narrow) (in_set before wide s))

pub record RoleSets (roles into : List ℕ) : Type 0 where
  pub long : length into ≡ 200
  pub each : (r s : ℕ) → r < 100 → s < 100 → in_set into r s ≡ wider roles r s
