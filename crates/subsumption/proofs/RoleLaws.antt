-- Wider roles: reflexive, transitive, and the least such relation that holds the pairs.
use Prim.Native.Nat.{ℕ, zero, suc, ◌<◌}
use mathlib.Core.Path.{◌≡◌, refl, subst}
use mathlib.Core.List.{List}
use mathlib.Core.Bool.{true}
use mathlib.Core.Logic.{◌↔◌, ⊎_elim}
use native.Mathlib.Omega.{arith}
use borrow.Author.Tests.{eqb-true, eq-eqb}
use Rattle.subsumption.specs.Tables.{pairs_of, left_of, right_of}
use Rattle.subsumption.specs.Roles.{wider_to, wider, Chain, chain-end, chain-pair}
use Rattle.subsumption.proofs.Bools.{or_cases, or-first, or-second, both_true, both-intro, last-cases}

module _ (roles : List ℕ) where
  to-refl : (m r : ℕ) → wider_to roles m r r ≡ true
  unfolding wider_to
  to-refl zero r = eq-eqb r r refl
  to-refl (suc m) r = or-first _ _ (to-refl m r)

  to-trans : (m r s u : ℕ) → wider_to roles m r s ≡ true → wider_to roles m s u ≡ true → wider_to roles m r u ≡ true
  unfolding wider_to
  to-trans zero r s u p q = subst (λ (z : ℕ). wider_to roles zero r z ≡ true) (eqb-true s u q) p
  to-trans (suc m) r s u p q =
      ⊎_elim
      (λ a.
      ⊎_elim (λ b. or-first _ _ (to-trans m r s u a b))
      (λ b. or-second _ _ (both-intro _ _ (to-trans m r s _ a (both_true _ _ b).0) (both_true _ _ b).1)) (or_cases _ _ q))
      (λ a.
      ⊎_elim (λ b. or-second _ _ (both-intro _ _ (both_true _ _ a).0 (to-trans m _ s u (both_true _ _ a).1 b)))
      (λ b. or-second _ _ (both-intro _ _ (both_true _ _ a).0 (both_true _ _ b).1)) (or_cases _ _ q))
      (or_cases _ _ p)

  to-pair : (m n : ℕ) → n < m → wider_to roles m (left_of roles n) (right_of roles n) ≡ true
  unfolding wider_to
  to-pair zero n l = absurd (omega arith)
  to-pair (suc m) n l =
      ⊎_elim
      (λ (e : n ≡ m).
      subst (λ (z : ℕ). wider_to roles (suc m) (left_of roles z) (right_of roles z) ≡ true) (last e)
      (or-second _ _ (both-intro _ _ (to-refl m (left_of roles m)) (to-refl m (right_of roles m)))))
      (λ u. or-first _ _ (to-pair m n u)) (last-cases n m l)
    where
      last : n ≡ m → m ≡ n
      last e = omega arith

  -- What is reflexive and passes along each pair holds along what is wider.
  to-along :
      (P : ℕ → Type 0) (m : ℕ) → ((n : ℕ) → n < m → P (left_of roles n) → P (right_of roles n)) → (r s : ℕ) → wider_to roles m r s ≡ true → P r → P s
  unfolding wider_to
  to-along P zero pass r s h p = subst P (eqb-true r s h) p
  to-along P (suc m) pass r s h p =
      ⊎_elim (λ a. to-along P m (λ n l. pass n (omega arith)) r s a p)
      (λ a.
      to-along P m (λ n l. pass n (omega arith)) _ s (both_true _ _ a).1
      (pass m (omega arith) (to-along P m (λ n l. pass n (omega arith)) r _ (both_true _ _ a).0 p)))
      (or_cases _ _ h)

  pub wider-refl : (r : ℕ) → wider roles r r ≡ true
  unfolding wider
  wider-refl r = to-refl (pairs_of roles) r

  pub wider-trans : (r s u : ℕ) → wider roles r s ≡ true → wider roles s u ≡ true → wider roles r u ≡ true
  unfolding wider
  wider-trans r s u p q = to-trans (pairs_of roles) r s u p q

  pub wider-pair : (m : ℕ) → m < pairs_of roles → wider roles (left_of roles m) (right_of roles m) ≡ true
  unfolding wider
  wider-pair m l = to-pair (pairs_of roles) m l

  pub wider-along :
      (P : ℕ → Type 0) → ((m : ℕ) → m < pairs_of roles → P (left_of roles m) → P (right_of roles m)) → (r s : ℕ) → wider roles r s ≡ true → P r → P s
  unfolding wider
  wider-along P pass r s h p = to-along P (pairs_of roles) pass r s h p

  chain-then : {r s u : ℕ} → Chain roles r s → Chain roles s u → Chain roles r u
  chain-then (chain-end r) c = c
  chain-then (chain-pair m s l b) c = chain-pair m _ l (chain-then b c)

  chain-wider : {r s : ℕ} → Chain roles r s → wider roles r s ≡ true
  chain-wider (chain-end r) = wider-refl r
  chain-wider (chain-pair m s l b) = wider-trans _ _ s (wider-pair m l) (chain-wider b)

-- A role counts as another exactly when a chain of pairs leads there.
pub wider-exactly : (roles : List ℕ) (r s : ℕ) → (wider roles r s ≡ true) ↔ Chain roles r s
wider-exactly roles r s =
    (λ h. wider-along roles (Chain roles r) (λ m l c. chain-then roles c (chain-pair m _ l (chain-end _))) r s h (chain-end r), λ c. chain-wider roles c)
