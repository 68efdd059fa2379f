-- Roles above roles (A.6): each link of a narrow role counts as one of the wide role, through chains and circles.
use Rattle.std.specs.Prelude.{ℕ, zero, suc, ◌<◌, List, Bool, eqb}
use Rattle.subsumption.specs.Tables.{or, both, pairs_of, left_of, right_of}

-- By the first m pairs, one pair more at a time: a way through the new pair goes to its narrow role and on from its wide one.
unfoldable pub wider_to : List ℕ → ℕ → ℕ → ℕ → Bool
wider_to roles zero r s = eqb r s
wider_to roles (suc m) r s = or (wider_to roles m r s) (both (wider_to roles m r (left_of roles m)) (wider_to roles m (right_of roles m) s))

-- A link of the role r counts as one of the role s.
unfoldable pub wider : List ℕ → ℕ → ℕ → Bool
wider roles = wider_to roles (pairs_of roles)

-- The same as chains of pairs: the law `wider-exactly` says so.
pub data Chain (roles : List ℕ) : ℕ → ℕ → Type 0 where
  chain-end : (r : ℕ) → Chain roles r r
  chain-pair : (m s : ℕ) → m < pairs_of roles → Chain roles (right_of roles m) s → Chain roles (left_of roles m) s
