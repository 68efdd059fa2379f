-- Membership is monotone in how variables are read.
use Prim.Native.Nat.{ℕ, ◌<◌}
use Rattle.subsumption.specs.Tables.{Concept, top, name, exists, and, var}
use Rattle.subsumption.specs.Subsumption.{Interpretation, Reading, Member}

module _ (I : Interpretation) (ρ ρ' : Reading) (reads : (k x : ℕ) → x < I.size → ρ k x → ρ' k x) where
  pub member-reads : (c : Concept) (x : ℕ) → x < I.size → Member I ρ c x → Member I ρ' c x
  member-reads top x l h = h
  member-reads (name n) x l h = h
  member-reads (exists r c) x l (y, u, k, h) = (y, u, k, member-reads c y u h)
  member-reads (and c d) x l (h, k) = (member-reads c x l h, member-reads d x l k)
  member-reads (var k) x l h = reads k x l h
