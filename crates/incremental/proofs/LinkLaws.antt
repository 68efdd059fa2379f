-- Rule 5: the sets of existentials, unions of their lines, and what comes below one.
use Prim.Native.Nat.{ℕ, zero, suc, ◌+◌, ◌*◌, ◌-◌, ◌/◌, ◌%◌, ◌^◌, ◌<◌, ◌≤◌}
use mathlib.Core.Path.{◌≡◌, refl, ap, sym, ◌∙◌, subst}
use mathlib.Core.List.{List, [], ◌∷◌}
use mathlib.Core.Bool.{Bool, true, false}
use mathlib.Core.Logic.{◌⊎◌, inl, inr, ⊎_elim}
use native.Mathlib.Omega.{arith}
use lib.ListN.{get_or, replicate, length-replicate}
use lib.Bits.{bit_and, bit_or}
use lib.Count.{count_trailing_zeros}
use Rattle.subsumption.specs.Tables.{exists_at, node, count_of}
use Rattle.subsumption.specs.Atoms.{bit}
use Rattle.subsumption.specs.Inner.Roles.{in_set}
use Rattle.subsumption.specs.Inner.Links.{Inner}
use Rattle.subsumption.proofs.Bools.{both_true, both-intro, eq-or-ne, le-or-lt, last-cases}
use Rattle.subsumption.proofs.Bits.{bit-and, bit-or-cases, bit_or_left, bit_or_right}
use Rattle.subsumption.proofs.Columns.{not-both}
use Rattle.square.specs.Inner.Square.{on_line, in_row, Square}
use Rattle.incremental.specs.Inner.Marking.{in_half, Adds, InThree, Holding}
use Rattle.incremental.specs.Inner.Lines.{LinkAt, LinkLines}
use Rattle.square.specs.Inner.Sets.{Inserted}
use Rattle.incremental.specs.Inner.Including.{is_in}
use Rattle.incremental.specs.Inner.Links.{WithInner, WithRole, OuterTo, RolesTo, InnersTo, Existentials, Picked, Joins, ByRole, ByInner, LinkPass}
use Rattle.square.proofs.BitLaws.{Lowest, lowest, no_bits}
use Rattle.square.proofs.SetLaws.{empty-line}
use Rattle.incremental.proofs.MarkingLaws.{adds-columns}
use Rattle.incremental.proofs.Passes.{pass-none, step-pass}

-- ---- noting the existentials
pub existentials-none :
    (concepts outer inners roles : List ℕ) → outer ≡ replicate 576 0 → inners ≡ replicate 3 0 → roles ≡ replicate 384 0 → Existentials concepts outer inners roles 0
existentials-none concepts outer inners roles e f g =
    record {
      outers =
          subst (λ (z : List ℕ). OuterTo concepts z 0) (sym e)
          (record {
            long = length-replicate {A = ℕ} 576 0;
            only = λ x i h l u. absurd (empty-line 576 (x * 3) i l (omega arith) u);
            every = λ x i h l w. absurd (omega (arith, w.before));
          });
      inner =
          subst (λ (z : List ℕ). InnersTo concepts z 0) (sym f)
          (record { long = length-replicate {A = ℕ} 3 0; every = λ x i h w. absurd (omega (arith, w.before)) });
      role =
          subst (λ (z : List ℕ). RolesTo concepts z 0) (sym g)
          (record {
            long = length-replicate {A = ℕ} 384 0;
            only = λ r i h l u. absurd (empty-line 384 (r * 3) i l (omega arith) u);
            every = λ r i h l w. absurd (omega (arith, w.before));
          });
    }

apart : (x y : ℕ) → (x ≡ y → ⊥) → (x * 3 + 3 ≤ y * 3) ⊎ (y * 3 + 3 ≤ x * 3)
apart x y n = ⊎_elim (λ l. inr (omega (arith, n))) (λ l. inl (omega arith)) (le-or-lt y x)

module _ (concepts : List ℕ) (n : ℕ) where
  -- one row more that is no existential
  more-inner : (x e : ℕ) → WithInner concepts n x e → WithInner concepts (n + 1) x e
  more-inner x e w = record { before = omega (arith, w.before); role = w.role; row = w.row }

  more-role : (r e : ℕ) → WithRole concepts n r e → WithRole concepts (n + 1) r e
  more-role r e w = record { before = omega (arith, w.before); inner = w.inner; row = w.row }

  inner-cases : (x e : ℕ) → WithInner concepts (n + 1) x e → (e ≡ n) ⊎ WithInner concepts n x e
  inner-cases x e w = ⊎_elim (λ u. inl u) (λ l. inr (record { before = l; role = w.role; row = w.row })) (last-cases e n (omega (arith, w.before)))

  role-cases : (r e : ℕ) → WithRole concepts (n + 1) r e → (e ≡ n) ⊎ WithRole concepts n r e
  role-cases r e w = ⊎_elim (λ u. inl u) (λ l. inr (record { before = l; inner = w.inner; row = w.row })) (last-cases e n (omega (arith, w.before)))

  pub existentials-skip :
      (outer inners roles : List ℕ) → ((r x : ℕ) → node concepts n ≡ exists_at r x → ⊥) → Existentials concepts outer inners roles n → Existentials concepts outer inners roles (n + 1)
  existentials-skip outer inners roles k E =
      record {
        outers =
            record {
              long = E.outers.long;
              only = λ x e h l u. more-inner x e (E.outers.only x e h l u);
              every = λ x e h l w. ⊎_elim (λ u. none-inner x e u w) (λ v. E.outers.every x e h l v) (inner-cases x e w);
            };
        inner =
            record {
              long = E.inner.long;
              every = λ x e h w. ⊎_elim (λ u. none-inner x e u w) (λ v. E.inner.every x e h v) (inner-cases x e w);
            };
        role =
            record {
              long = E.role.long;
              only = λ r e h l u. more-role r e (E.role.only r e h l u);
              every = λ r e h l w. ⊎_elim (λ u. none-role r e u w) (λ v. E.role.every r e h l v) (role-cases r e w);
            };
      }
    where
      none-inner : {A : Type 0} (x e : ℕ) → e ≡ n → WithInner concepts (n + 1) x e → A
      none-inner x e u w = absurd (k w.role x (ap (node concepts) (sym u) ∙ w.row))

      none-role : {A : Type 0} (r e : ℕ) → e ≡ n → WithRole concepts (n + 1) r e → A
      none-role r e u w = absurd (k r w.inner (ap (node concepts) (sym u) ∙ w.row))

  module _ (role inner : ℕ) (outer inners roles outer' inners' roles' : List ℕ) (E : Existentials concepts outer inners roles n)
      (row : node concepts n ≡ exists_at role inner) (low : n < 192)
      (A : Inserted outer outer' (inner * 3) n) (B : Inserted inners inners' 0 inner) (C : Inserted roles roles' (role * 3) n) where
    same-inner : (x e : ℕ) → e ≡ n → WithInner concepts (n + 1) x e → x ≡ inner
    same-inner x e u w = let q : node concepts n ≡ exists_at w.role x = ap (node concepts) (sym u) ∙ w.row in cc

    same-role : (r e : ℕ) → e ≡ n → WithRole concepts (n + 1) r e → r ≡ role
    same-role r e u w = let q : node concepts n ≡ exists_at r w.inner = ap (node concepts) (sym u) ∙ w.row in cc

    outer-only : (x e : ℕ) → x < 192 → e < 192 → on_line outer' (x * 3) e ≡ true → WithInner concepts (n + 1) x e
    outer-only x e h l u = ⊎_elim same other (eq-or-ne x inner)
      where
        same : x ≡ inner → WithInner concepts (n + 1) x e
        same q =
            ⊎_elim (λ v. more-inner x e (E.outers.only x e h l (subst (λ (z : ℕ). on_line outer (z * 3) e ≡ true) (sym q) v)))
            (λ (v : e ≡ n). record { before = omega arith; role = role; row = ap (node concepts) v ∙ row ∙ ap (exists_at role) (sym q) })
            (A.bits e l (subst (λ (z : ℕ). on_line outer' (z * 3) e ≡ true) q u))

        other : (x ≡ inner → ⊥) → WithInner concepts (n + 1) x e
        other q = more-inner x e (E.outers.only x e h l (sym (A.there (x * 3) e l (apart x inner q)) ∙ u))

    role-only : (r e : ℕ) → r < 128 → e < 192 → on_line roles' (r * 3) e ≡ true → WithRole concepts (n + 1) r e
    role-only r e h l u = ⊎_elim same other (eq-or-ne r role)
      where
        same : r ≡ role → WithRole concepts (n + 1) r e
        same q =
            ⊎_elim (λ v. more-role r e (E.role.only r e h l (subst (λ (z : ℕ). on_line roles (z * 3) e ≡ true) (sym q) v)))
            (λ (v : e ≡ n). record { before = omega arith; inner = inner; row = ap (node concepts) v ∙ row ∙ ap (λ (z : ℕ). exists_at z inner) (sym q) })
            (C.bits e l (subst (λ (z : ℕ). on_line roles' (z * 3) e ≡ true) q u))

        other : (r ≡ role → ⊥) → WithRole concepts (n + 1) r e
        other q = more-role r e (E.role.only r e h l (sym (C.there (r * 3) e l (apart r role q)) ∙ u))

    pub existentials-more : Existentials concepts outer' inners' roles' (n + 1)
    existentials-more =
        record {
          outers =
              record {
                long = A.long ∙ E.outers.long;
                only = outer-only;
                every =
                    λ x e h l w.
                    ⊎_elim
                    (λ (u : e ≡ n). subst (λ (z : ℕ). on_line outer' (z * 3) e ≡ true) (sym (same-inner x e u w)) (subst (λ (z : ℕ). on_line outer' (inner * 3) z ≡ true) (sym u) A.taken))
                    (λ v. A.kept (x * 3) e (E.outers.every x e h l v)) (inner-cases x e w);
              };
          inner =
              record {
                long = B.long ∙ E.inner.long;
                every =
                    λ x e h w.
                    ⊎_elim (λ (u : e ≡ n). subst (λ (z : ℕ). is_in inners' z ≡ true) (sym (same-inner x e u w)) B.taken)
                    (λ v. B.kept 0 x (E.inner.every x e h v)) (inner-cases x e w);
              };
          role =
              record {
                long = C.long ∙ E.role.long;
                only = role-only;
                every =
                    λ r e h l w.
                    ⊎_elim
                    (λ (u : e ≡ n). subst (λ (z : ℕ). on_line roles' (z * 3) e ≡ true) (sym (same-role r e u w)) (subst (λ (z : ℕ). on_line roles' (role * 3) z ≡ true) (sym u) C.taken))
                    (λ v. C.kept (r * 3) e (E.role.every r e h l v)) (role-cases r e w);
              };
        }

-- ---- the union of the lines that a word picks
or-three :
    (sets : List ℕ) (at first second third e : ℕ) → e < 192
    → (InThree (bit_or first (get_or sets at 0)) (bit_or second (get_or sets (at + 1) 0)) (bit_or third (get_or sets (at + 2) 0)) e → InThree first second third e ⊎ (on_line sets at e ≡ true))
    × (InThree first second third e ⊎ (on_line sets at e ≡ true) → InThree (bit_or first (get_or sets at 0)) (bit_or second (get_or sets (at + 1) 0)) (bit_or third (get_or sets (at + 2) 0)) e)
unfolding on_line
or-three sets at first second third e l = go (e / 64) (omega arith)
  where
    go :
        (w : ℕ) → w < 3
        → (bit (get_or (bit_or first (get_or sets at 0) ∷ bit_or second (get_or sets (at + 1) 0) ∷ bit_or third (get_or sets (at + 2) 0) ∷ []) (0 + w) 0) (e % 64) ≡ true
        → (bit (get_or (first ∷ second ∷ third ∷ []) (0 + w) 0) (e % 64) ≡ true) ⊎ (bit (get_or sets (at + w) 0) (e % 64) ≡ true))
        × ((bit (get_or (first ∷ second ∷ third ∷ []) (0 + w) 0) (e % 64) ≡ true) ⊎ (bit (get_or sets (at + w) 0) (e % 64) ≡ true)
        → bit (get_or (bit_or first (get_or sets at 0) ∷ bit_or second (get_or sets (at + 1) 0) ∷ bit_or third (get_or sets (at + 2) 0) ∷ []) (0 + w) 0) (e % 64) ≡ true)
    go zero h =
        let z : at + 0 ≡ at = omega arith in
        subst
        (λ (q : ℕ). (bit (bit_or first (get_or sets at 0)) (e % 64) ≡ true → (bit first (e % 64) ≡ true) ⊎ (bit (get_or sets q 0) (e % 64) ≡ true))
        × ((bit first (e % 64) ≡ true) ⊎ (bit (get_or sets q 0) (e % 64) ≡ true) → bit (bit_or first (get_or sets at 0)) (e % 64) ≡ true))
        (sym z)
        (bit-or-cases first (get_or sets at 0) (e % 64), ⊎_elim (bit_or_left first (get_or sets at 0) (e % 64)) (bit_or_right first (get_or sets at 0) (e % 64)))
    go (suc zero) h =
        (bit-or-cases second (get_or sets (at + 1) 0) (e % 64), ⊎_elim (bit_or_left second (get_or sets (at + 1) 0) (e % 64)) (bit_or_right second (get_or sets (at + 1) 0) (e % 64)))
    go (suc (suc zero)) h =
        (bit-or-cases third (get_or sets (at + 2) 0) (e % 64), ⊎_elim (bit_or_left third (get_or sets (at + 2) 0) (e % 64)) (bit_or_right third (get_or sets (at + 2) 0) (e % 64)))
    go (suc (suc (suc w))) h = absurd (omega arith)

-- picked, and no more in the rest
pub record PickedOut (sets : List ℕ) (from word rest e : ℕ) : Type 0 where
  pub picked : Picked sets from word e
  pub gone : bit rest picked.place ≡ false

pub record Joining (sets : List ℕ) (from word : ℕ) (before : ℕ → Type 0) (rest first second third : ℕ) : Type 0 where
  pub small : rest < 2 ^ 64
  pub inside : (b : ℕ) → bit rest b ≡ true → bit word b ≡ true
  pub only : (e : ℕ) → e < 192 → InThree first second third e → before e ⊎ Picked sets from word e
  pub every : (e : ℕ) → e < 192 → before e ⊎ PickedOut sets from word rest e → InThree first second third e

module _ (sets : List ℕ) (from word first₀ second₀ third₀ : ℕ) where
  abbrev start : ℕ → Type 0
  start = InThree first₀ second₀ third₀

  pub joining-first : word < 2 ^ 64 → Joining sets from word start word first₀ second₀ third₀
  joining-first h =
      record {
        small = h;
        inside = λ b u. u;
        only = λ e l u. inl u;
        every = λ e l u. ⊎_elim (λ v. v) (λ v. not-both _ v.picked.chosen v.gone) u;
      }

  module _ (rest first second third : ℕ) (J : Joining sets from word start rest first second third) (some : rest ≡ 0 → ⊥) where
    next : Lowest 64 rest (count_trailing_zeros 64 rest) (bit_and rest (rest - 1))
    next = lowest 64 rest (omega arith) J.small

    pub joining-low : count_trailing_zeros 64 rest < 64
    joining-low = next.low

    pub joining-more :
        bit_and rest (rest - 1) < 2 ^ 64
        → Joining sets from word start (bit_and rest (rest - 1)) (bit_or first (get_or sets ((from + count_trailing_zeros 64 rest) * 3) 0))
        (bit_or second (get_or sets ((from + count_trailing_zeros 64 rest) * 3 + 1) 0)) (bit_or third (get_or sets ((from + count_trailing_zeros 64 rest) * 3 + 2) 0))
    joining-more small =
        record {
          small = small;
          inside = λ b u. J.inside b (still b u);
          only =
              λ e l u.
              ⊎_elim (λ v. J.only e l v)
              (λ v. inr (record { place = count_trailing_zeros 64 rest; low = next.low; chosen = J.inside _ next.here; has = v }))
              ((or-three sets ((from + count_trailing_zeros 64 rest) * 3) first second third e l).0 u);
          every = λ e l u. (or-three sets ((from + count_trailing_zeros 64 rest) * 3) first second third e l).1 (come e l u);
        }
      where
        still : (c : ℕ) → bit (bit_and rest (rest - 1)) c ≡ true → bit rest c ≡ true
        still c u = ⊎_elim (λ (e : c ≡ count_trailing_zeros 64 rest). not-both _ u (ap (bit (bit_and rest (rest - 1))) e ∙ next.gone)) (λ n. sym (next.others c n) ∙ u) (eq-or-ne c (count_trailing_zeros 64 rest))

        come : (e : ℕ) → e < 192 → start e ⊎ PickedOut sets from word (bit_and rest (rest - 1)) e → InThree first second third e ⊎ (on_line sets ((from + count_trailing_zeros 64 rest) * 3) e ≡ true)
        come e l (inl u) = inl (J.every e l (inl u))
        come e l (inr v) =
            ⊎_elim (λ (q : v.picked.place ≡ count_trailing_zeros 64 rest). inr (subst (λ (z : ℕ). on_line sets ((from + z) * 3) e ≡ true) q v.picked.has))
            (λ n. inl (J.every e l (inr (record { picked = v.picked; gone = sym (next.others _ n) ∙ v.gone }))))
            (eq-or-ne v.picked.place (count_trailing_zeros 64 rest))

  pub joining-done : (rest first second third : ℕ) → Joining sets from word start rest first second third → rest ≡ 0 → Joins sets from word start (InThree first second third)
  joining-done rest first second third J e =
      record {
        only = J.only;
        every = λ i l u. J.every i l (⊎_elim (λ v. inl v) (λ v. inr (record { picked = v; gone = ap (λ (z : ℕ). bit z v.place) e ∙ no_bits v.place })) u);
      }

nothing-in : (e : ℕ) → e < 192 → InThree 0 0 0 e → ⊥
nothing-in e l u = empty-line 3 0 e l (omega arith) u

-- ---- by role, by inner id
module _ (into roles : List ℕ) (s : ℕ) (some all : ℕ → Type 0)
    (A : Joins roles 0 (get_or into (s * 2) 0) (InThree 0 0 0) some) (B : Joins roles 64 (get_or into (s * 2 + 1) 0) some all) where
  pub by-role : ByRole into roles s all
  unfolding in_set
  by-role = record { only = only; every = every }
    where
      at_low : (p : ℕ) → p < 64 → bit (get_or into (s * 2) 0) p ≡ true → in_set into (0 + p) s ≡ true
      at_low p l u =
          let a : s * 2 ≡ s * 2 + (0 + p) / 64 = omega arith in
          let b : p ≡ (0 + p) % 64 = omega arith in
          subst (λ (z : ℕ). bit (get_or into z 0) ((0 + p) % 64) ≡ true) a (subst (λ (z : ℕ). bit (get_or into (s * 2) 0) z ≡ true) b u)

      at_high : (p : ℕ) → p < 64 → bit (get_or into (s * 2 + 1) 0) p ≡ true → in_set into (64 + p) s ≡ true
      at_high p l u =
          let a : s * 2 + 1 ≡ s * 2 + (64 + p) / 64 = omega arith in
          let b : p ≡ (64 + p) % 64 = omega arith in
          subst (λ (z : ℕ). bit (get_or into z 0) ((64 + p) % 64) ≡ true) a (subst (λ (z : ℕ). bit (get_or into (s * 2 + 1) 0) z ≡ true) b u)

      only : (e : ℕ) → e < 192 → all e → (r : ℕ) × (r < 128) × (in_set into r s ≡ true) × (on_line roles (r * 3) e ≡ true)
      only e l u =
          ⊎_elim
          (λ v. ⊎_elim (λ w. absurd (nothing-in e l w)) (λ w. (0 + w.place, omega (arith, w.low), at_low w.place w.low w.chosen, w.has)) (A.only e l v))
          (λ w. (64 + w.place, omega (arith, w.low), at_high w.place w.low w.chosen, w.has)) (B.only e l u)

      every : (e r : ℕ) → e < 192 → r < 128 → in_set into r s ≡ true → on_line roles (r * 3) e ≡ true → all e
      every e r l k u v = ⊎_elim high low (le-or-lt 64 r)
        where
          low : r < 64 → all e
          low h =
              let a : s * 2 + r / 64 ≡ s * 2 = omega arith in
              let b : r % 64 ≡ r = omega arith in
              let c : r ≡ 0 + r = omega arith in
              B.every e l
              (inl (A.every e l
              (inr (record {
                place = r;
                low = h;
                chosen = subst (λ (z : ℕ). bit (get_or into (s * 2) 0) z ≡ true) b (subst (λ (z : ℕ). bit (get_or into z 0) (r % 64) ≡ true) a u);
                has = subst (λ (z : ℕ). on_line roles (z * 3) e ≡ true) c v;
              }))))

          high : 64 ≤ r → all e
          high h =
              let a : s * 2 + r / 64 ≡ s * 2 + 1 = omega arith in
              let b : r % 64 ≡ r - 64 = omega arith in
              let c : r ≡ 64 + (r - 64) = omega arith in
              B.every e l
              (inr (record {
                place = r - 64;
                low = omega arith;
                chosen = subst (λ (z : ℕ). bit (get_or into (s * 2 + 1) 0) z ≡ true) b (subst (λ (z : ℕ). bit (get_or into z 0) (r % 64) ≡ true) a u);
                has = subst (λ (z : ℕ). on_line roles (z * 3) e ≡ true) c v;
              }))

module _ (square outer inners : List ℕ) (y : ℕ) (S : Square square) (low : y < 192) (one two all : ℕ → Type 0)
    (A : Joins outer 0 (bit_and (get_or square (576 + y * 3) 0) (get_or inners 0 0)) (InThree 0 0 0) one)
    (B : Joins outer 64 (bit_and (get_or square (576 + y * 3 + 1) 0) (get_or inners 1 0)) one two)
    (C : Joins outer 128 (bit_and (get_or square (576 + y * 3 + 2) 0) (get_or inners 2 0)) two all) where
  -- the x-th bit of the column and of the set, in the word w
  in-column : (w p x : ℕ) → w < 3 → p < 64 → x ≡ w * 64 + p → bit (bit_and (get_or square (576 + y * 3 + w) 0) (get_or inners w 0)) p ≡ true → in_row square x y ≡ true
  unfolding on_line
  in-column w p x h l e u =
      let a : w ≡ x / 64 = omega arith in
      let b : p ≡ x % 64 = omega arith in
      S.mirror x y (omega arith) low
      ∙ subst (λ (z : ℕ). bit (get_or square (576 + y * 3 + z) 0) (x % 64) ≡ true) a
      (subst (λ (z : ℕ). bit (get_or square (576 + y * 3 + w) 0) z ≡ true) b (both_true _ _ (sym (bit-and (get_or square (576 + y * 3 + w) 0) (get_or inners w 0) p) ∙ u)).0)

  from-column : (w x : ℕ) → w < 3 → x / 64 ≡ w → x < 192 → in_row square x y ≡ true → is_in inners x ≡ true → bit (bit_and (get_or square (576 + y * 3 + w) 0) (get_or inners w 0)) (x % 64) ≡ true
  unfolding on_line
  from-column w x h e l u v =
      let a : 0 + x / 64 ≡ w = omega arith in
      bit-and (get_or square (576 + y * 3 + w) 0) (get_or inners w 0) (x % 64)
      ∙ both-intro _ _ (subst (λ (z : ℕ). bit (get_or square (576 + y * 3 + z) 0) (x % 64) ≡ true) e (sym (S.mirror x y l low) ∙ u))
      (subst (λ (z : ℕ). bit (get_or inners z 0) (x % 64) ≡ true) a v)

  pub by-inner : ByInner square outer inners y all
  by-inner = record { only = only; every = every }
    where
      zeroth : 576 + y * 3 ≡ 576 + y * 3 + 0
      zeroth = omega arith

      only : (e : ℕ) → e < 192 → all e → (x : ℕ) × (x < 192) × (in_row square x y ≡ true) × (on_line outer (x * 3) e ≡ true)
      only e l u =
          ⊎_elim
          (λ v.
          ⊎_elim
          (λ w.
          ⊎_elim (λ x. absurd (nothing-in e l x))
          (λ x. (0 + x.place, omega (arith, x.low), in-column 0 x.place _ (omega arith) x.low (omega arith) (subst (λ (z : ℕ). bit (bit_and (get_or square z 0) (get_or inners 0 0)) x.place ≡ true) zeroth x.chosen), x.has)) (A.only e l w))
          (λ x. (64 + x.place, omega (arith, x.low), in-column 1 x.place _ (omega arith) x.low (omega arith) x.chosen, x.has)) (B.only e l v))
          (λ x. (128 + x.place, omega (arith, x.low), in-column 2 x.place _ (omega arith) x.low (omega arith) x.chosen, x.has)) (C.only e l u)

      every : (e x : ℕ) → e < 192 → x < 192 → in_row square x y ≡ true → is_in inners x ≡ true → on_line outer (x * 3) e ≡ true → all e
      every e x l k u v w = go (x / 64) refl (omega arith)
        where
          go : (q : ℕ) → x / 64 ≡ q → q < 3 → all e
          go zero a h =
              let b : x ≡ 0 + x % 64 = omega arith in
              C.every e l (inl (B.every e l (inl (A.every e l
              (inr (record {
                place = x % 64;
                low = omega arith;
                chosen = subst (λ (z : ℕ). bit (bit_and (get_or square z 0) (get_or inners 0 0)) (x % 64) ≡ true) (sym zeroth) (from-column 0 x (omega arith) a k u v);
                has = subst (λ (z : ℕ). on_line outer (z * 3) e ≡ true) b w;
              }))))))
          go (suc zero) a h =
              let b : x ≡ 64 + x % 64 = omega arith in
              C.every e l (inl (B.every e l
              (inr (record { place = x % 64; low = omega arith; chosen = from-column 1 x (omega arith) a k u v; has = subst (λ (z : ℕ). on_line outer (z * 3) e ≡ true) b w }))))
          go (suc (suc zero)) a h =
              let b : x ≡ 128 + x % 64 = omega arith in
              C.every e l
              (inr (record { place = x % 64; low = omega arith; chosen = from-column 2 x (omega arith) a k u v; has = subst (λ (z : ℕ). on_line outer (z * 3) e ≡ true) b w }))
          go (suc (suc (suc q))) a h = absurd (omega arith)

-- ---- what comes below an existential
and-three :
    (a b c d f g e : ℕ) → e < 192 → (InThree (bit_and a d) (bit_and b f) (bit_and c g) e → InThree a b c e × InThree d f g e) × (InThree a b c e × InThree d f g e → InThree (bit_and a d) (bit_and b f) (bit_and c g) e)
unfolding on_line
and-three a b c d f g e l = go (e / 64) (omega arith)
  where
    one :
        (x y k : ℕ) → (bit (bit_and x y) k ≡ true → (bit x k ≡ true) × (bit y k ≡ true)) × ((bit x k ≡ true) × (bit y k ≡ true) → bit (bit_and x y) k ≡ true)
    one x y k = ((λ u. both_true _ _ (sym (bit-and x y k) ∙ u)), (λ u. bit-and x y k ∙ both-intro _ _ u.0 u.1))

    go :
        (w : ℕ) → w < 3
        → (bit (get_or (bit_and a d ∷ bit_and b f ∷ bit_and c g ∷ []) (0 + w) 0) (e % 64) ≡ true
        → (bit (get_or (a ∷ b ∷ c ∷ []) (0 + w) 0) (e % 64) ≡ true) × (bit (get_or (d ∷ f ∷ g ∷ []) (0 + w) 0) (e % 64) ≡ true))
        × ((bit (get_or (a ∷ b ∷ c ∷ []) (0 + w) 0) (e % 64) ≡ true) × (bit (get_or (d ∷ f ∷ g ∷ []) (0 + w) 0) (e % 64) ≡ true)
        → bit (get_or (bit_and a d ∷ bit_and b f ∷ bit_and c g ∷ []) (0 + w) 0) (e % 64) ≡ true)
    go zero h = one a d (e % 64)
    go (suc zero) h = one b f (e % 64)
    go (suc (suc zero)) h = one c g (e % 64)
    go (suc (suc (suc w))) h = absurd (omega arith)

module _ (concepts into outer inners roles : List ℕ) (I : Inner concepts) (E : Existentials concepts outer inners roles (count_of concepts)) (square : List ℕ) (S : Square square)
    (f : ℕ) (inside : f < count_of concepts) (s y : ℕ) (row-f : node concepts f ≡ exists_at s y) where
  module _ (first second third : ℕ) (R : ByRole into roles s (InThree first second third)) where
    -- an existential whose role counts is in the set
    in-kind : (e r x : ℕ) → e < count_of concepts → node concepts e ≡ exists_at r x → in_set into r s ≡ true → InThree first second third e
    in-kind e r x l n u =
        let low = I.low e r x n in
        R.every e r (omega (arith, I.few)) (omega arith) u (E.role.every r e (omega arith) (omega (arith, I.few)) (record { before = l; inner = x; row = n }))

    pub link-none : (b : Bool) → Holding square (576 + f * 3) first second third b → b ≡ true → LinkPass concepts (in_set into) f square square false
    link-none b h q =
        pass-none S
        (λ e r s' x y' l n m u v.
        let same-s : s ≡ s' = cc in
        S.mirror e f (omega (arith, I.few)) (omega (arith, I.few))
        ∙ h q e (omega (arith, I.few)) (in-kind e r x l n (subst (λ (z : ℕ). in_set into r z ≡ true) (sym same-s) u)))

    pub link-some :
        (a b c : ℕ) (after : List ℕ) (changed : Bool) → ByInner square outer inners y (InThree a b c)
        → Adds (in_half 576) square after (λ p q. (p ≡ f) × InThree (bit_and first a) (bit_and second b) (bit_and third c) q) changed
        → LinkPass concepts (in_set into) f square after changed
    link-some a b c after changed B A = step-pass I.few (adds-columns S A) right done
      where
        row_of : (i r x s z : ℕ) → node concepts i ≡ exists_at r x → node concepts i ≡ exists_at s z → node concepts i ≡ exists_at s x
        row_of i r x s z e f = cc

        right :
            (Q : ℕ → ℕ → Bool) → LinkLines concepts (in_set into) Q
            → ((i j : ℕ) → i < count_of concepts → j < 192 → in_row square i j ≡ true → (j < count_of concepts) × (Q i j ≡ true))
            → (i j : ℕ) → i < count_of concepts → j < 192 → (j ≡ f) × InThree (bit_and first a) (bit_and second b) (bit_and third c) i → (j < count_of concepts) × (Q i j ≡ true)
        right Q law w i j l m (e, u) =
            let (v, o) = (and-three first second third a b c i (omega (arith, I.few))).0 u in
            let (r, rl, rs, ron) = R.only i (omega (arith, I.few)) v in
            let (x, xl, xy, xon) = B.only i (omega (arith, I.few)) o in
            let p = E.role.only r i rl (omega (arith, I.few)) ron in
            let q = E.outers.only x i xl (omega (arith, I.few)) xon in
            let known : x < count_of concepts = I.known i q.role x l q.row in
            let row-i = row_of i q.role x r p.inner q.row p.row in
            let below = w x y known (omega (arith, I.few, I.known f s y inside row-f)) xy in
            (omega (arith, e), subst (λ (z : ℕ). Q i z ≡ true) (sym e) (law f inside i r s x y l row-i row-f rs below.1))

        done :
            ((i j : ℕ) → i < 192 → j < 192 → (j ≡ f) × InThree (bit_and first a) (bit_and second b) (bit_and third c) i → in_row square i j ≡ true)
            → LinkAt concepts (in_set into) (in_row square) f
        done g e r s' x y' l n m u v =
            let same-s : s ≡ s' = cc in
            let same-y : y ≡ y' = cc in
            let xl : x < count_of concepts = I.known e r x l n in
            let el : e < 192 = omega (arith, I.few) in
            g e f el (omega (arith, I.few)) (
              refl,
              (and-three first second third a b c e el).1 (
                in-kind e r x l n (subst (λ (z : ℕ). in_set into r z ≡ true) (sym same-s) u),
                B.every e x el (omega (arith, I.few)) (subst (λ (z : ℕ). in_row square x z ≡ true) (sym same-y) v)
                    (E.inner.every x e (omega (arith, I.few)) (record { before = l; role = r; row = n }))
                    (E.outers.every x e (omega (arith, I.few)) el (record { before = l; role = r; row = n })),
              ),
            )

pub link-other : (concepts into square : List ℕ) (f : ℕ) → Square square → ((s y : ℕ) → node concepts f ≡ exists_at s y → ⊥) → LinkPass concepts (in_set into) f square square false
link-other concepts into square f S k = pass-none S (λ e r s x y l n m u v. absurd (k s y m))
