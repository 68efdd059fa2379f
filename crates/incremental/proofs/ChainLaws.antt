-- Which inclusions have a left side: the chains, and the ids that are none.
use Prim.Native.Nat.{ℕ, ◌+◌, ◌-◌, ◌<◌, ◌≤◌}
use mathlib.Core.Path.{◌≡◌, ap, sym, ◌∙◌, subst}
use mathlib.Core.List.{List}
use mathlib.Core.Logic.{⊎_elim}
use native.Mathlib.Omega.{arith}
use lib.ListN.{length, get_or, set, length-set, replicate, length-replicate, get_or-replicate}
use lib.Seq.{get_or-set_same, get_or-set_other}
use Rattle.subsumption.specs.Tables.{pairs_of, left_of}
use Rattle.subsumption.proofs.Bools.{eq-or-ne}
use Rattle.incremental.specs.Inner.Including.{Pairs, NextPair, ChainTo, Idle}
use Rattle.square.proofs.SetLaws.{empty-line}

pub chain-none : (inclusions : List ℕ) → pairs_of inclusions ≤ 96 → ChainTo inclusions (replicate 288 96) (pairs_of inclusions)
chain-none inclusions few =
    record {
      long = length-replicate {A = ℕ} 288 96;
      first = λ l h. subst (λ (n : ℕ). NextPair inclusions l (pairs_of inclusions) n) (sym (get_or-replicate 288 l 96 0 (omega arith)))
          (record { low = few; none = λ m p q r e. omega arith; found = λ u. absurd (omega arith) });
      next = λ n h l. absurd (omega arith);
    }

module _ (inclusions chain : List ℕ) (m : ℕ) (P : Pairs 192 inclusions) (some : 0 < m) (inside : m ≤ pairs_of inclusions) (C : ChainTo inclusions chain m) where
  abbrev left : ℕ
  left = left_of inclusions (m - 1)

  abbrev one : List ℕ
  one = set chain (192 + (m - 1)) (get_or chain left 0)

  abbrev two : List ℕ
  two = set one left (m - 1)

  low : left < 192
  low = P.left (m - 1) (omega arith)

  one-long : length one ≡ 288
  one-long = length-set chain _ _ ∙ C.long

  chain_first : (l : ℕ) → l < 192 → NextPair inclusions l (m - 1) (get_or two l 0)
  chain_first l h = ⊎_elim same other (eq-or-ne l left)
    where
      same : l ≡ left → NextPair inclusions l (m - 1) (get_or two l 0)
      same e =
          subst (λ (n : ℕ). NextPair inclusions l (m - 1) n) (sym (ap (λ (z : ℕ). get_or two z 0) e ∙ get_or-set_same one left (m - 1) 0 (omega (arith, one-long, low))))
          (record { low = omega arith; none = λ k p q r u. omega arith; found = λ _. sym e })

      other : (l ≡ left → ⊥) → NextPair inclusions l (m - 1) (get_or two l 0)
      other n =
          let old = C.first l h in
          subst (λ (z : ℕ). NextPair inclusions l (m - 1) z) (sym (get_or-set_other one left l (m - 1) 0 n ∙ get_or-set_other chain (192 + (m - 1)) l _ 0 (λ e. omega arith)))
          (record {
            low = omega (arith, old.low);
            none = λ k p q r u. ⊎_elim (λ (e : k ≡ m - 1). n (sym u ∙ ap (left_of inclusions) e)) (λ v. old.none k (omega (arith, v)) q r u) (eq-or-ne k (m - 1));
            found = old.found;
          })

  chain_next : (n : ℕ) → m - 1 ≤ n → n < pairs_of inclusions → NextPair inclusions (left_of inclusions n) (n + 1) (get_or two (192 + n) 0)
  chain_next n h k = ⊎_elim same other (eq-or-ne n (m - 1))
    where
      apart : get_or two (192 + n) 0 ≡ get_or one (192 + n) 0
      apart = get_or-set_other one left (192 + n) (m - 1) 0 (λ e. omega (arith, low))

      same : n ≡ m - 1 → NextPair inclusions (left_of inclusions n) (n + 1) (get_or two (192 + n) 0)
      same e =
          let u : m ≡ n + 1 = omega arith in
          subst (λ (z : ℕ). NextPair inclusions (left_of inclusions n) (n + 1) z)
          (sym (apart ∙ ap (λ (z : ℕ). get_or one (192 + z) 0) e ∙ get_or-set_same chain (192 + (m - 1)) _ 0 (omega (arith, C.long, P.few)) ∙ ap (λ (z : ℕ). get_or chain (left_of inclusions z) 0) (sym e)))
          (subst (λ (z : ℕ). NextPair inclusions (left_of inclusions n) z (get_or chain (left_of inclusions n) 0)) u
          (C.first (left_of inclusions n) (P.left n k)))

      other : (n ≡ m - 1 → ⊥) → NextPair inclusions (left_of inclusions n) (n + 1) (get_or two (192 + n) 0)
      other v =
          subst (λ (z : ℕ). NextPair inclusions (left_of inclusions n) (n + 1) z)
          (sym (apart ∙ get_or-set_other chain (192 + (m - 1)) (192 + n) _ 0 (λ e. v (omega arith))))
          (C.next n (omega (arith, v)) k)

  pub chain_more : ChainTo inclusions two (m - 1)
  chain_more = record { long = length-set one left (m - 1) ∙ one-long; first = chain_first; next = chain_next }

-- ---- ids that are no left side
pub idle-none : (inclusions idle : List ℕ) → idle ≡ replicate 3 0 → Idle inclusions idle
idle-none inclusions idle e =
    subst (λ (z : List ℕ). Idle inclusions z) (sym e)
    (record { long = length-replicate {A = ℕ} 3 0; none = λ l m h u p q. empty-line 3 0 l h (omega arith) u })
