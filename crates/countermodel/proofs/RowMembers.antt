-- Names and links of the interpretation that rows say, row by row.
use Prim.Native.Nat.{ℕ, zero, suc, ◌*◌, ◌<◌}
use mathlib.Core.Path.{◌≡◌, refl, sym, ap, ◌∙◌}
use mathlib.Core.List.Memᴰ
use mathlib.Core.List.{List, Memᴰ}
use native.Mathlib.Omega.{arith}
use native.Mathlib.Nat.{add-zero}
use lib.ListN.{get_or}
use Rattle.subsumption.specs.Subsumption.{Named, Linked}
use Rattle.countermodel.specs.Rows.{rows_of, at, named_by, linked_by, interpretation_of}
use Rattle.countermodel.specs.Inner.Membership.{kind_at}
use Rattle.countermodel.proofs.JoinedLaws.{joined_in, joined-out}

-- the row p says the name
pub record NamedAt (rows : List ℕ) (x n p : ℕ) : Type 0 where
  pub known : p < rows_of rows
  pub kind : kind_at rows p ≡ 0
  pub element : at rows p 1 ≡ x
  pub name : at rows p 2 ≡ n

-- the row p says the link
pub record LinkedAt (rows : List ℕ) (x r y p : ℕ) : Type 0 where
  pub known : p < rows_of rows
  pub kind : kind_at rows p ≡ 1
  pub from : at rows p 1 ≡ x
  pub role : at rows p 2 ≡ r
  pub to : at rows p 3 ≡ y

pub kind-at : (rows : List ℕ) (p : ℕ) → at rows p 0 ≡ kind_at rows p
kind-at rows p = ap (λ (z : ℕ). get_or rows z 0) (add-zero (p * 4))

named_in : (k x n x' n' : ℕ) → k ≡ 0 → x' ≡ x → n' ≡ n → Memᴰ (record { element = x; name = n }) (named_by k x' n')
unfolding named_by
named_in k x n x' n' e f g = rw (e, f, g) (Memᴰ.head refl)

named-out : (k x n x' n' : ℕ) → Memᴰ (record { element = x; name = n }) (named_by k x' n') → (k ≡ 0) × (x' ≡ x) × (n' ≡ n)
unfolding named_by
named-out zero x n x' n' h =
    let e = Memᴰ.eq_of_singleton h in
    (refl, sym (ap (λ (z : Named). z.element) e), sym (ap (λ (z : Named). z.name) e))
named-out (suc k) x n x' n' h = absurd (Memᴰ.not-nil h)

linked-in : (k x r y x' r' y' : ℕ) → k ≡ 1 → x' ≡ x → r' ≡ r → y' ≡ y → Memᴰ (record { from = x; role = r; to = y }) (linked_by k x' r' y')
unfolding linked_by
linked-in k x r y x' r' y' d e f g = rw (d, e, f, g) (Memᴰ.head refl)

linked-out :
    (k x r y x' r' y' : ℕ) → Memᴰ (record { from = x; role = r; to = y }) (linked_by k x' r' y')
    → (k ≡ 1) × (x' ≡ x) × (r' ≡ r) × (y' ≡ y)
unfolding linked_by
linked-out zero x r y x' r' y' h = absurd (Memᴰ.not-nil h)
linked-out (suc zero) x r y x' r' y' h =
    let e = Memᴰ.eq_of_singleton h in
    (refl, sym (ap (λ (z : Linked). z.from) e), sym (ap (λ (z : Linked). z.role) e), sym (ap (λ (z : Linked). z.to) e))
linked-out (suc (suc k)) x r y x' r' y' h = absurd (Memᴰ.not-nil h)

-- Each row that says a name or a link gives the member, and every member comes from such a row.
module _ (size : ℕ) (rows : List ℕ) where
  pub name_in : (x n p : ℕ) → NamedAt rows x n p → Memᴰ (record { element = x; name = n }) (interpretation_of size rows).names
  unfolding interpretation_of
  name_in x n p w = joined_in _ 0 _ p (omega arith) (omega (arith, w.known)) (named_in _ x n _ _ (kind-at rows p ∙ w.kind) w.element w.name)

  pub name_out :
      (x n : ℕ) → Memᴰ (record { element = x; name = n }) (interpretation_of size rows).names → (p : ℕ) × NamedAt rows x n p
  unfolding interpretation_of
  name_out x n h =
      let (p, _, l, u) = joined-out (λ q. named_by (at rows q 0) (at rows q 1) (at rows q 2)) 0 _ h in
      let (e, f, g) = named-out _ x n _ _ u in
      (p, record { known = omega (arith, l); kind = sym (kind-at rows p) ∙ e; element = f; name = g })

  pub link-in :
      (x r y p : ℕ) → LinkedAt rows x r y p → Memᴰ (record { from = x; role = r; to = y }) (interpretation_of size rows).links
  unfolding interpretation_of
  link-in x r y p w =
      joined_in _ 0 _ p (omega arith) (omega (arith, w.known)) (linked-in _ x r y _ _ _ (kind-at rows p ∙ w.kind) w.from w.role w.to)

  pub link-out :
      (x r y : ℕ) → Memᴰ (record { from = x; role = r; to = y }) (interpretation_of size rows).links → (p : ℕ) × LinkedAt rows x r y p
  unfolding interpretation_of
  link-out x r y h =
      let (p, _, l, u) = joined-out (λ q. linked_by (at rows q 0) (at rows q 1) (at rows q 2) (at rows q 3)) 0 _ h in
      let (d, e, f, g) = linked-out _ x r y _ _ _ u in
      (p, record { known = omega (arith, l); kind = sym (kind-at rows p) ∙ d; from = e; role = f; to = g })
