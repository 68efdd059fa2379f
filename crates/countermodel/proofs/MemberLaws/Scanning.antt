-- The scans of one stretch: nothing that is looked for was met yet.
use Prim.Native.Nat.{ℕ, ◌+◌, ◌*◌, ◌<◌, ◌≤◌}
use mathlib.Core.Path.{◌≡◌, sym, ap, subst}
use mathlib.Core.List.{List}
use mathlib.Core.Bool.{true, false, true≢false, false≢true}
use mathlib.Core.Logic.{⊎_elim}
use native.Mathlib.Omega.{arith}
use lib.ListN.{get_or}
use Rattle.subsumption.proofs.Bools.{last-cases}
use Rattle.countermodel.specs.Rows.{rows_of}
use Rattle.countermodel.specs.Inner.Membership.{Right, stretch_of, Stretches, Bears}
use Rattle.countermodel.proofs.RowMembers.{NamedAt, LinkedAt, name_in, name_out}

pub right-yes : {P : Type 0} → P → Right true P
right-yes h = record { yes = λ e. h; no = λ e. absurd (true≢false e) }

pub right-no : {P : Type 0} → (P → ⊥) → Right false P
right-no h = record { yes = λ e. absurd (false≢true e); no = λ e. h }

module _ (P : ℕ → Type 0) (from past count : ℕ) where
  -- no row of the stretch below p
  pub record Unmet (p : ℕ) : Type 0 where
    pub low : past ≤ count
    pub none : (q : ℕ) → from ≤ q → q < p → P q → ⊥

  pub unmet-none : past ≤ count → Unmet from
  unmet-none h = record { low = h; none = λ q h l. absurd (omega arith) }

  pub unmet-more : (p : ℕ) → Unmet p → (P p → ⊥) → Unmet (p + 1)
  unmet-more p u n =
      record {
        low = u.low;
        none = λ q h l. ⊎_elim (λ (e : q ≡ p). subst (λ (z : ℕ). P z → ⊥) (sym e) n) (λ b. u.none q h b) (last-cases q p (omega arith));
      }

module _ (rows ends : List ℕ) (S : Stretches rows ends) where
  pub name-stretch : (x n p : ℕ) → NamedAt rows x n p → (get_or ends (x * 4) 0 ≤ p) × (p < get_or ends (x * 4 + 1) 0)
  name-stretch x n p w =
      let e : stretch_of rows p ≡ x * 4 = omega (arith, w.kind, w.element) in
      (omega (arith, S.from p w.known, ap (λ (z : ℕ). get_or ends z 0) e), omega (arith, S.past p w.known, ap (λ (z : ℕ). get_or ends (z + 1) 0) e))

  pub link-stretch : (x r y p : ℕ) → LinkedAt rows x r y p → (get_or ends (x * 4 + 2) 0 ≤ p) × (p < get_or ends (x * 4 + 3) 0)
  link-stretch x r y p w =
      let e : stretch_of rows p ≡ x * 4 + 2 = omega (arith, w.kind, w.from) in
      let f : stretch_of rows p + 1 ≡ x * 4 + 3 = omega arith in
      (omega (arith, S.from p w.known, ap (λ (z : ℕ). get_or ends z 0) e), omega (arith, S.past p w.known, ap (λ (z : ℕ). get_or ends z 0) f))

-- ---- the names of an element
module _ (rows ends : List ℕ) (S : Stretches rows ends) (x n : ℕ) where
  abbrev pub NamesUnmet : ℕ → Type 0
  NamesUnmet = Unmet (NamedAt rows x n) (get_or ends (x * 4) 0) (get_or ends (x * 4 + 1) 0) (rows_of rows)

  pub bears-met : (p : ℕ) → NamedAt rows x n p → Right true (Bears rows x n)
  bears-met p w = right-yes (name_in 192 rows x n p w)

  pub bears-none : (p : ℕ) → NamesUnmet p → get_or ends (x * 4 + 1) 0 ≤ p → Right false (Bears rows x n)
  bears-none p u h =
      right-no (λ m. let (q, w) = name_out 192 rows x n m in let (a, b) = name-stretch rows ends S x n q w in u.none q a (omega arith) w)
