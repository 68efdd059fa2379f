-- What the three numbers of a row say of its node, and back.
use Prim.Native.Nat.{ℕ, zero, suc, ◌+◌, ◌*◌}
use mathlib.Core.Path.{◌≡◌, refl}
use mathlib.Core.List.{List}
use native.Mathlib.Omega.{arith}
use lib.ListN.{get_or}
use Rattle.subsumption.specs.Tables.{name_at, exists_at, and_at, var_at, node, decode}

module _ (concepts : List ℕ) (i : ℕ) where
  pub node-name : get_or concepts (i * 3) 0 ≡ 1 → node concepts i ≡ name_at (get_or concepts (i * 3 + 1) 0)
  unfolding node decode
  node-name e = rw (e, decode) refl

  pub node-exists : get_or concepts (i * 3) 0 ≡ 2 → node concepts i ≡ exists_at (get_or concepts (i * 3 + 1) 0) (get_or concepts (i * 3 + 2) 0)
  unfolding node decode
  node-exists e = rw (e, decode) refl

  pub node-and : get_or concepts (i * 3) 0 ≡ 3 → node concepts i ≡ and_at (get_or concepts (i * 3 + 1) 0) (get_or concepts (i * 3 + 2) 0)
  unfolding node decode
  node-and e = rw (e, decode) refl

  pub node-var : get_or concepts (i * 3) 0 ≡ 4 → node concepts i ≡ var_at (get_or concepts (i * 3 + 1) 0)
  unfolding node decode
  node-var e = rw (e, decode) refl

name-decoded : (kind a b m : ℕ) → decode kind a b ≡ name_at m → (kind ≡ 1) × (a ≡ m)
unfolding decode
name-decoded zero a b m e = let z : ◌≡◌ {A = ℕ} 0 1 = cc in absurd (omega arith)
name-decoded (suc zero) a b m e = (refl, cc)
name-decoded (suc (suc zero)) a b m e = let z : ◌≡◌ {A = ℕ} 0 1 = cc in absurd (omega arith)
name-decoded (suc (suc (suc zero))) a b m e = let z : ◌≡◌ {A = ℕ} 0 1 = cc in absurd (omega arith)
name-decoded (suc (suc (suc (suc zero)))) a b m e = let z : ◌≡◌ {A = ℕ} 0 1 = cc in absurd (omega arith)
name-decoded (suc (suc (suc (suc (suc k))))) a b m e = let z : ◌≡◌ {A = ℕ} 0 1 = cc in absurd (omega arith)

exists-decoded : (kind a b r x : ℕ) → decode kind a b ≡ exists_at r x → (kind ≡ 2) × (a ≡ r) × (b ≡ x)
unfolding decode
exists-decoded zero a b r x e = let z : ◌≡◌ {A = ℕ} 0 1 = cc in absurd (omega arith)
exists-decoded (suc zero) a b r x e = let z : ◌≡◌ {A = ℕ} 0 1 = cc in absurd (omega arith)
exists-decoded (suc (suc zero)) a b r x e = (refl, (cc), (cc))
exists-decoded (suc (suc (suc zero))) a b r x e = let z : ◌≡◌ {A = ℕ} 0 1 = cc in absurd (omega arith)
exists-decoded (suc (suc (suc (suc zero)))) a b r x e = let z : ◌≡◌ {A = ℕ} 0 1 = cc in absurd (omega arith)
exists-decoded (suc (suc (suc (suc (suc k))))) a b r x e = let z : ◌≡◌ {A = ℕ} 0 1 = cc in absurd (omega arith)

and-decoded : (kind a b x y : ℕ) → decode kind a b ≡ and_at x y → (kind ≡ 3) × (a ≡ x) × (b ≡ y)
unfolding decode
and-decoded zero a b x y e = let z : ◌≡◌ {A = ℕ} 0 1 = cc in absurd (omega arith)
and-decoded (suc zero) a b x y e = let z : ◌≡◌ {A = ℕ} 0 1 = cc in absurd (omega arith)
and-decoded (suc (suc zero)) a b x y e = let z : ◌≡◌ {A = ℕ} 0 1 = cc in absurd (omega arith)
and-decoded (suc (suc (suc zero))) a b x y e = (refl, (cc), (cc))
and-decoded (suc (suc (suc (suc zero)))) a b x y e = let z : ◌≡◌ {A = ℕ} 0 1 = cc in absurd (omega arith)
and-decoded (suc (suc (suc (suc (suc k))))) a b x y e = let z : ◌≡◌ {A = ℕ} 0 1 = cc in absurd (omega arith)

var-decoded : (kind a b k : ℕ) → decode kind a b ≡ var_at k → (kind ≡ 4) × (a ≡ k)
unfolding decode
var-decoded zero a b k e = let z : ◌≡◌ {A = ℕ} 0 1 = cc in absurd (omega arith)
var-decoded (suc zero) a b k e = let z : ◌≡◌ {A = ℕ} 0 1 = cc in absurd (omega arith)
var-decoded (suc (suc zero)) a b k e = let z : ◌≡◌ {A = ℕ} 0 1 = cc in absurd (omega arith)
var-decoded (suc (suc (suc zero))) a b k e = let z : ◌≡◌ {A = ℕ} 0 1 = cc in absurd (omega arith)
var-decoded (suc (suc (suc (suc zero)))) a b k e = (refl, cc)
var-decoded (suc (suc (suc (suc (suc x))))) a b k e = let z : ◌≡◌ {A = ℕ} 0 1 = cc in absurd (omega arith)

module _ (concepts : List ℕ) (i : ℕ) where
  pub name-node : (m : ℕ) → node concepts i ≡ name_at m → (get_or concepts (i * 3) 0 ≡ 1) × (get_or concepts (i * 3 + 1) 0 ≡ m)
  unfolding node
  name-node m e = name-decoded _ _ _ m e

  pub exists-node :
      (r x : ℕ) → node concepts i ≡ exists_at r x
      → (get_or concepts (i * 3) 0 ≡ 2) × (get_or concepts (i * 3 + 1) 0 ≡ r) × (get_or concepts (i * 3 + 2) 0 ≡ x)
  unfolding node
  exists-node r x e = exists-decoded _ _ _ r x e

  pub and-node :
      (x y : ℕ) → node concepts i ≡ and_at x y
      → (get_or concepts (i * 3) 0 ≡ 3) × (get_or concepts (i * 3 + 1) 0 ≡ x) × (get_or concepts (i * 3 + 2) 0 ≡ y)
  unfolding node
  and-node x y e = and-decoded _ _ _ x y e

  pub var-node : (k : ℕ) → node concepts i ≡ var_at k → (get_or concepts (i * 3) 0 ≡ 4) × (get_or concepts (i * 3 + 1) 0 ≡ k)
  unfolding node
  var-node k e = var-decoded _ _ _ k e
