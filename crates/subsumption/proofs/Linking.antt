-- Looking for existentials, and rows of one name.
use Prim.Native.Nat.{ℕ, zero, suc, ◌+◌, ◌*◌, ◌/◌, ◌%◌, ◌<◌, ◌≤◌}
use mathlib.Core.Path.{◌≡◌, refl, ap, sym, ◌∙◌, subst}
use mathlib.Core.List.{List, [], ◌∷◌}
use mathlib.Core.Bool.{Bool, true, false}
use mathlib.Core.Logic.{◌⊎◌, inl, inr, ⊎_elim}
use native.Mathlib.Omega.{arith}
use lib.ListN.{length, get_or, set, replicate, length-set, length-replicate, get_or-replicate}
use lib.Seq.{get_or-set_same, get_or-set_other}
use lib.Bits.{bit_and}
use lib.Dec.{eqb}
use borrow.Author.Tests.{eqb-true, eqb-false}
use Rattle.subsumption.specs.Tables.{Node, name_at, exists_at, node, count_of}
use Rattle.subsumption.specs.Roles.{wider}
use Rattle.subsumption.specs.Inner.Tables.{Rising}
use Rattle.subsumption.specs.Atoms.{bit}
use Rattle.subsumption.specs.Inner.Columns.{has, InThree, Takes}
use Rattle.subsumption.specs.Inner.Roles.{in_set, RoleSets}
use Rattle.subsumption.specs.Inner.Names.{FirstNamed, Nameable, Seen, Firsts}
use Rattle.subsumption.specs.Inner.Links.{Inner, LinkedTo, Inserted, Put, Union, WithInner, WithRole, Existentials, KindsTo, Laid, Sorted}
use Rattle.subsumption.specs.Inner.Closure.{Ready, Flow, flow-linked, Sound, LinkPass}
use Rattle.subsumption.proofs.Bools.{last-cases}
use Rattle.subsumption.proofs.Nodes.{name-node, node-name}
use Rattle.subsumption.proofs.Bits.{bit-of-zero}
use Rattle.subsumption.proofs.SetLaws.{empty-sets, and-three, in-line, of-line}
use Rattle.subsumption.proofs.Passes.{pass-none, step-pass}

pub ready-nameable : {concepts inclusions atoms assignment : List ℕ} → Ready concepts inclusions atoms assignment → Nameable concepts
ready-nameable R = record { few = R.few; low = R.low-names }

pub ready-inner : {concepts inclusions atoms assignment : List ℕ} → Ready concepts inclusions atoms assignment → Inner concepts
ready-inner {concepts} R =
    record { few = R.few; known = λ e r x h n. omega (arith, subst (λ (m : Node). Rising e m) n (R.rising e h)); low = R.low-roles }

-- ---- noting the existentials
pub existentials-none :
    (concepts outer inners lines : List ℕ) → outer ≡ replicate 576 0 → inners ≡ replicate 3 0 → lines ≡ replicate 576 0 → Existentials concepts outer inners lines 0
existentials-none concepts outer inners lines e f g =
    record {
      outer-long = ap length e ∙ length-replicate {A = ℕ} 576 0;
      inners-long = ap length f ∙ length-replicate {A = ℕ} 3 0;
      lines_long = ap length g ∙ length-replicate {A = ℕ} 576 0;
      outer-only = λ x i l u. absurd (empty-sets 576 i x (subst (λ (z : List ℕ). has z i x ≡ true) e u));
      outer-every = λ x i w. absurd (omega (arith, w.before));
      inners-every = λ x i w. absurd (omega (arith, w.before));
      lines-only = λ r i l u. absurd (empty-sets 576 i r (subst (λ (z : List ℕ). has z i r ≡ true) g u));
      lines-every = λ r i w. absurd (omega (arith, w.before));
    }

module _ (concepts : List ℕ) (n : ℕ) where
  more-inner : (x e : ℕ) → WithInner concepts n x e → WithInner concepts (n + 1) x e
  more-inner x e w = record { before = omega (arith, w.before); role = w.role; row = w.row }

  more-role : (r e : ℕ) → WithRole concepts n r e → WithRole concepts (n + 1) r e
  more-role r e w = record { before = omega (arith, w.before); inner = w.inner; row = w.row }

  inner-cases : (x e : ℕ) → WithInner concepts (n + 1) x e → (e ≡ n) ⊎ WithInner concepts n x e
  inner-cases x e w = ⊎_elim (λ u. inl u) (λ l. inr (record { before = l; role = w.role; row = w.row })) (last-cases e n (omega (arith, w.before)))

  role-cases : (r e : ℕ) → WithRole concepts (n + 1) r e → (e ≡ n) ⊎ WithRole concepts n r e
  role-cases r e w = ⊎_elim (λ u. inl u) (λ l. inr (record { before = l; inner = w.inner; row = w.row })) (last-cases e n (omega (arith, w.before)))

  -- one row more that is no existential
  pub existentials-skip :
      (outer inners lines : List ℕ) → ((r x : ℕ) → node concepts n ≡ exists_at r x → ⊥) → Existentials concepts outer inners lines n → Existentials concepts outer inners lines (n + 1)
  existentials-skip outer inners lines k E =
      record {
        outer-long = E.outer-long;
        inners-long = E.inners-long;
        lines_long = E.lines_long;
        outer-only = λ x e l u. more-inner x e (E.outer-only x e l u);
        outer-every = λ x e w. ⊎_elim (λ u. none-inner x e u w) (λ v. E.outer-every x e v) (inner-cases x e w);
        inners-every = λ x e w. ⊎_elim (λ u. none-inner x e u w) (λ v. E.inners-every x e v) (inner-cases x e w);
        lines-only = λ r e l u. more-role r e (E.lines-only r e l u);
        lines-every = λ r e w. ⊎_elim (λ u. none-role r e u w) (λ v. E.lines-every r e v) (role-cases r e w);
      }
    where
      none-inner : {A : Type 0} (x e : ℕ) → e ≡ n → WithInner concepts (n + 1) x e → A
      none-inner x e u w = absurd (k w.role x (ap (node concepts) (sym u) ∙ w.row))

      none-role : {A : Type 0} (r e : ℕ) → e ≡ n → WithRole concepts (n + 1) r e → A
      none-role r e u w = absurd (k r w.inner (ap (node concepts) (sym u) ∙ w.row))

  module _ (role inner : ℕ) (outer inners lines outer' inners' lines' : List ℕ) (E : Existentials concepts outer inners lines n) (row : node concepts n ≡ exists_at role inner)
      (A : Inserted outer outer' inner n) (B : Inserted inners inners' 0 inner) (C : Inserted lines lines' role n) where
    same-inner : (x e : ℕ) → e ≡ n → WithInner concepts (n + 1) x e → x ≡ inner
    same-inner x e u w = let q : node concepts n ≡ exists_at w.role x = ap (node concepts) (sym u) ∙ w.row in cc

    same-role : (r e : ℕ) → e ≡ n → WithRole concepts (n + 1) r e → r ≡ role
    same-role r e u w = let q : node concepts n ≡ exists_at r w.inner = ap (node concepts) (sym u) ∙ w.row in cc

    pub existentials-more : Existentials concepts outer' inners' lines' (n + 1)
    existentials-more =
        record {
          outer-long = A.long ∙ E.outer-long;
          inners-long = B.long ∙ E.inners-long;
          lines_long = C.long ∙ E.lines_long;
          outer-only =
              λ x e l u.
              ⊎_elim (λ v. more-inner x e (E.outer-only x e l v))
              (λ (v : (x ≡ inner) × (e ≡ n)). record { before = omega (arith, v.1); role = role; row = ap (node concepts) v.1 ∙ row ∙ ap (exists_at role) (sym v.0) })
              (A.bits e x l u);
          outer-every =
              λ x e w.
              ⊎_elim
              (λ (u : e ≡ n). subst (λ (z : ℕ). has outer' e z ≡ true) (sym (same-inner x e u w)) (subst (λ (z : ℕ). has outer' z inner ≡ true) (sym u) A.taken))
              (λ v. A.kept e x (E.outer-every x e v)) (inner-cases x e w);
          inners-every =
              λ x e w.
              ⊎_elim (λ (u : e ≡ n). subst (λ (z : ℕ). has inners' z 0 ≡ true) (sym (same-inner x e u w)) B.taken)
              (λ v. B.kept x 0 (E.inners-every x e v)) (inner-cases x e w);
          lines-only =
              λ r e l u.
              ⊎_elim (λ v. more-role r e (E.lines-only r e l v))
              (λ (v : (r ≡ role) × (e ≡ n)). record { before = omega (arith, v.1); inner = inner; row = ap (node concepts) v.1 ∙ row ∙ ap (λ (z : ℕ). exists_at z inner) (sym v.0) })
              (C.bits e r l u);
          lines-every =
              λ r e w.
              ⊎_elim
              (λ (u : e ≡ n). subst (λ (z : ℕ). has lines' e z ≡ true) (sym (same-role r e u w)) (subst (λ (z : ℕ). has lines' z role ≡ true) (sym u) C.taken))
              (λ v. C.kept e r (E.lines-every r e v)) (role-cases r e w);
        }

pub existentials-all :
    (concepts outer inners lines : List ℕ) (n : ℕ) → n ≤ count_of concepts → count_of concepts ≤ n → Existentials concepts outer inners lines n
    → Existentials concepts outer inners lines (count_of concepts)
existentials-all concepts outer inners lines n h l E = subst (λ (z : ℕ). Existentials concepts outer inners lines z) (omega arith) E

-- ---- the existentials by the roles that theirs counts as
-- the set of roles as three words
module _ (into : List ℕ) (s : ℕ) where
  roles-only : (r : ℕ) → r < 192 → InThree (get_or into (s * 2) 0) (get_or into (s * 2 + 1) 0) 0 r → in_set into r s ≡ true
  unfolding in_set
  roles-only r l u = go (r / 64) (omega arith) u
    where
      go : (w : ℕ) → w < 3 → bit (get_or (get_or into (s * 2) 0 ∷ get_or into (s * 2 + 1) 0 ∷ 0 ∷ []) w 0) (r % 64) ≡ true → bit (get_or into (s * 2 + w) 0) (r % 64) ≡ true
      go zero h v = let z : s * 2 + 0 ≡ s * 2 = omega arith in subst (λ (p : ℕ). bit (get_or into p 0) (r % 64) ≡ true) (sym z) v
      go (suc zero) h v = v
      go (suc (suc zero)) h v = absurd (bit-of-zero (r % 64) v)
      go (suc (suc (suc w))) h v = absurd (omega arith)

  roles-every : (r : ℕ) → r < 128 → in_set into r s ≡ true → InThree (get_or into (s * 2) 0) (get_or into (s * 2 + 1) 0) 0 r
  unfolding in_set
  roles-every r l u = go (r / 64) (omega arith) u
    where
      go : (w : ℕ) → w < 2 → bit (get_or into (s * 2 + w) 0) (r % 64) ≡ true → bit (get_or (get_or into (s * 2) 0 ∷ get_or into (s * 2 + 1) 0 ∷ 0 ∷ []) w 0) (r % 64) ≡ true
      go zero h v = let z : s * 2 + 0 ≡ s * 2 = omega arith in subst (λ (p : ℕ). bit (get_or into p 0) (r % 64) ≡ true) z v
      go (suc zero) h v = v
      go (suc (suc w)) h v = absurd (omega arith)

module _ (into lines : List ℕ) where
  pub kinds-none : (kinds : List ℕ) → length kinds ≡ 300 → KindsTo into lines kinds 0
  kinds-none kinds h = record { long = h; only = λ s e l. absurd (omega arith); every = λ s e r l. absurd (omega arith) }

  pub kinds-more :
      (kinds kinds' : List ℕ) (s first second third : ℕ) → KindsTo into lines kinds s
      → Union lines (InThree (get_or into (s * 2) 0) (get_or into (s * 2 + 1) 0) 0) (InThree first second third) → Put kinds kinds' s first second third
      → KindsTo into lines kinds' (s + 1)
  kinds-more kinds kinds' s first second third K U P =
      record {
        long = P.long ∙ K.long;
        only = λ t e l h u. ⊎_elim (λ (q : t ≡ s). here-only t e q h u) (λ m. K.only t e m h (sym (P.there e t h (λ q. omega arith)) ∙ u)) (last-cases t s (omega arith));
        every = λ t e r l h k u v. ⊎_elim (λ (q : t ≡ s). here-every t e r q h k u v) (λ m. P.there e t h (λ q. omega arith) ∙ K.every t e r m h k u v) (last-cases t s (omega arith));
      }
    where
      here-only : (t e : ℕ) → t ≡ s → e < 192 → has kinds' e t ≡ true → (r : ℕ) × (in_set into r t ≡ true) × (has lines e r ≡ true)
      here-only t e q h u =
          let (r, l, v, w) = U.only e h (P.only e h (subst (λ (z : ℕ). has kinds' e z ≡ true) q u)) in
          (r, subst (λ (z : ℕ). in_set into r z ≡ true) (sym q) (roles-only into s r l v), w)

      here-every : (t e r : ℕ) → t ≡ s → e < 192 → r < 100 → in_set into r t ≡ true → has lines e r ≡ true → has kinds' e t ≡ true
      here-every t e r q h k u v =
          subst (λ (z : ℕ). has kinds' e z ≡ true) (sym q)
          (P.every e h (U.every e r h (omega arith) (roles-every into s r (omega arith) (subst (λ (z : ℕ). in_set into r z ≡ true) q u)) v))

  pub kinds-done : (kinds : List ℕ) (s : ℕ) → KindsTo into lines kinds s → 100 ≤ s → KindsTo into lines kinds 100
  kinds-done kinds s K h = record { long = K.long; only = λ t e l. K.only t e (omega arith); every = λ t e r l. K.every t e r (omega arith) }

pub sorted :
    (concepts roles into outer inners lines kinds : List ℕ) → Inner concepts → RoleSets roles into → Existentials concepts outer inners lines (count_of concepts) → KindsTo into lines kinds 100
    → Sorted concepts (wider roles) outer inners kinds
sorted concepts roles into outer inners lines kinds I R E K =
    record {
      outer-only = E.outer-only;
      outer-every = E.outer-every;
      inners-every = E.inners-every;
      kinds-only =
          λ s e l h u.
          let (r, v, w) = K.only s e l h u in
          let o = E.lines-only r e h w in
          (r, sym (R.each r s (I.low e r o.inner o.row) l) ∙ v, o);
      kinds-every =
          λ s e r l u w.
          let low = I.low e r w.inner w.row in
          K.every s e r l (omega (arith, w.before, I.few)) low (R.each r s low l ∙ u) (E.lines-every r e w);
    }

pub laid :
    (concepts into outer inners lines kinds : List ℕ) → Existentials concepts outer inners lines (count_of concepts) → KindsTo into lines kinds 100 → Laid outer inners kinds
laid concepts into outer inners lines kinds E K = record { outer-long = E.outer-long; inners-long = E.inners-long; kinds-long = K.long }

-- ---- what an existential takes in
pub over-union :
    (columns outer inners : List ℕ) (y : ℕ) (set : ℕ → Type 0)
    → Union outer (InThree (bit_and (get_or columns (y * 3) 0) (get_or inners 0 0)) (bit_and (get_or columns (y * 3 + 1) 0) (get_or inners 1 0)) (bit_and (get_or columns (y * 3 + 2) 0) (get_or inners 2 0))) set
    → Union outer (λ x. (has columns x y ≡ true) × (has inners x 0 ≡ true)) set
unfolding has
over-union columns outer inners y set U =
    record {
      only =
          λ e l u.
          let (x, h, v, w) = U.only e l u in
          let m = (and-three (get_or columns (y * 3) 0) (get_or columns (y * 3 + 1) 0) (get_or columns (y * 3 + 2) 0) (get_or inners 0 0) (get_or inners 1 0) (get_or inners 2 0) x h).0 v in
          (x, h, (in-line columns y x h m.0, in-line inners 0 x h m.1), w);
      every =
          λ e x l h v w.
          U.every e x l h
          ((and-three (get_or columns (y * 3) 0) (get_or columns (y * 3 + 1) 0) (get_or columns (y * 3 + 2) 0) (get_or inners 0 0) (get_or inners 1 0) (get_or inners 2 0) x h).1
          (of-line columns y x h v.0, of-line inners 0 x h v.1)) w;
    }

module _ (concepts outer inners kinds : List ℕ) (I : Inner concepts) (f : ℕ) (inside : f < count_of concepts) where
  pub not-linked : (columns : List ℕ) → ((r x : ℕ) → node concepts f ≡ exists_at r x → ⊥) → LinkPass concepts outer inners kinds (λ wide. LinkedTo concepts wide f) columns columns false
  not-linked columns ne inclusions wide choose S = pass-none (λ e r y h n l. absurd (ne r y n))

  module _ (s y : ℕ) (row-f : node concepts f ≡ exists_at s y) (before after : List ℕ) (changed : Bool) (a b c first second third : ℕ)
      (O : Union outer (λ x. (has before x y ≡ true) × (has inners x 0 ≡ true)) (InThree a b c))
      (U : Union before
      (InThree (bit_and a (get_or kinds (s * 3) 0)) (bit_and b (get_or kinds (s * 3 + 1) 0)) (bit_and c (get_or kinds (s * 3 + 2) 0)))
      (InThree first second third))
      (T : Takes before after (λ j. j ≡ f) (InThree first second third) changed) where
    pub linked-pass : LinkPass concepts outer inners kinds (λ wide. LinkedTo concepts wide f) before after changed
    linked-pass inclusions wide choose S = step-pass I.few T flows done
      where
        low : s < 100
        low = I.low f s y row-f

        row_of : (i r x t z : ℕ) → node concepts i ≡ exists_at r x → node concepts i ≡ exists_at t z → node concepts i ≡ exists_at t x
        row_of i r x t z p q = cc

        flows :
            (g : List ℕ) → Sound concepts inclusions wide choose g before → (i j : ℕ) → i < count_of concepts → j < count_of concepts → j ≡ f → InThree first second third i
            → Flow concepts inclusions wide choose g i j
        flows g k i j l _ p u =
            let (e, el, v, w) = U.only i (omega (arith, I.few)) u in
            let m = (and-three a b c (get_or kinds (s * 3) 0) (get_or kinds (s * 3 + 1) 0) (get_or kinds (s * 3 + 2) 0) e el).0 v in
            let (x, xl, xy, xe) = O.only e el m.0 in
            let o = S.outer-only x e el xe in
            let (r, rs, q) = S.kinds-only s e low el (in-line kinds s e el m.1) in
            let row-e = row_of e o.role x r q.inner o.row q.row in
            subst (λ (z : ℕ). Flow concepts inclusions wide choose g i z) (sym p)
            (flow-linked i e f r s x y l o.before inside row-e row-f rs
            (k x y (I.known e r x o.before row-e) (I.known f s y inside row-f) xy.0) (k i e l o.before w))

        done : ((i j : ℕ) → i < count_of concepts → j ≡ f → InThree first second third i → has before i j ≡ true) → LinkedTo concepts wide f before
        done q e s' y' l n k i h u =
            let same-s : s ≡ s' = cc in
            let same-y : y ≡ y' = cc in
            let el : e < 192 = omega (arith, I.few) in
            let w : WithInner concepts (count_of concepts) k.from e = record { before = l; role = k.narrow; row = k.row } in
            let xl : k.from < 192 = omega (arith, I.known e _ _ l k.row, I.few) in
            let found : InThree a b c e = O.every e k.from el xl (subst (λ (z : ℕ). has before k.from z ≡ true) (sym same-y) k.below, S.inners-every k.from e w) (S.outer-every k.from e w) in
            let of : has kinds e s ≡ true = S.kinds-every s e k.narrow low (subst (λ (z : ℕ). wide k.narrow z ≡ true) (sym same-s) k.counting) (record { before = l; inner = k.from; row = k.row }) in
            q i f h refl
            (U.every i e (omega (arith, I.few)) el
            ((and-three a b c (get_or kinds (s * 3) 0) (get_or kinds (s * 3 + 1) 0) (get_or kinds (s * 3 + 2) 0) e el).1 (found, of-line kinds s e el of)) u)

-- the first row of each name seen
module _ (concepts : List ℕ) (j : ℕ) where
  no_name : (get_or concepts (j * 3) 0 ≡ 1 → ⊥) → (n : ℕ) → node concepts j ≡ name_at n → ⊥
  no_name ne n e = ne (name-node concepts j n e).0

  pub name-low : Nameable concepts → get_or concepts (j * 3) 0 ≡ 1 → get_or concepts (j * 3 + 1) 0 < 1000
  name-low N kind = N.low j _ (node-name concepts j kind)

  module _ (seen : List ℕ) (N : Nameable concepts) (S : Seen concepts j seen) (kind : get_or concepts (j * 3) 0 ≡ 1) where
    abbrev name : ℕ
    name = get_or concepts (j * 3 + 1) 0

    known : get_or seen name 0 ≤ j
    known = S.low name (name-low N kind)

    of-name : (n : ℕ) → node concepts j ≡ name_at n → n ≡ name
    of-name n p = sym (name-node concepts j n p).1

    pub seen_more : (k : ℕ) → FirstNamed concepts j k → Seen concepts (j + 1) (set seen (get_or concepts (j * 3 + 1) 0) k)
    seen_more k F =
        record {
          long = length-set seen name k ∙ S.long;
          low = λ n l. low n l (eqb n name) refl;
          named = λ n i l p. at_named n i l p (eqb n name) refl;
          least = λ n i l p. at_least n i l p (eqb n name) refl;
        }
      where
        here : (n : ℕ) → eqb n name ≡ true → get_or (set seen name k) n 0 ≡ k
        here n s =
            ap (λ (x : ℕ). get_or (set seen name k) x 0) (eqb-true n name s) ∙ get_or-set_same seen name k 0 (omega (arith, S.long, name-low N kind))

        there : (n : ℕ) → eqb n name ≡ false → get_or (set seen name k) n 0 ≡ get_or seen n 0
        there n s = get_or-set_other seen name n k 0 (eqb-false n name s)

        earlier : (n i : ℕ) → i < j + 1 → node concepts i ≡ name_at n → eqb n name ≡ false → i < j
        earlier n i l p s = go (eqb i j) refl
          where
            go : (t : Bool) → eqb i j ≡ t → i < j
            go true u = absurd (eqb-false n name s (of-name n (ap (node concepts) (sym (eqb-true i j u)) ∙ p)))
            go false u = omega (arith, eqb-false i j u)

        low : (n : ℕ) → n < 1000 → (t : Bool) → eqb n name ≡ t → get_or (set seen name k) n 0 ≤ j + 1
        low n l true s = omega (arith, here n s, F.low)
        low n l false s = omega (arith, there n s, S.low n l)

        at_named : (n i : ℕ) → i < j + 1 → node concepts i ≡ name_at n → (t : Bool) → eqb n name ≡ t → node concepts (get_or (set seen name k) n 0) ≡ name_at n
        at_named n i l p true s =
            ap (node concepts) (here n s) ∙ F.named name (node-name concepts j kind) ∙ ap name_at (sym (eqb-true n name s))
        at_named n i l p false s = ap (node concepts) (there n s) ∙ S.named n i (earlier n i l p s) p

        at_least : (n i : ℕ) → i < j + 1 → node concepts i ≡ name_at n → (t : Bool) → eqb n name ≡ t → get_or (set seen name k) n 0 ≤ i
        at_least n i l p true s =
            omega (arith, here n s, F.least name i (node-name concepts j kind) (p ∙ ap name_at (eqb-true n name s)))
        at_least n i l p false s = omega (arith, there n s, S.least n i (earlier n i l p s) p)

  pub seen_skip : (seen : List ℕ) → Seen concepts j seen → (get_or concepts (j * 3) 0 ≡ 1 → ⊥) → Seen concepts (j + 1) seen
  seen_skip seen S ne =
      record {
        long = S.long;
        low = λ n l. omega (arith, S.low n l);
        named = λ n i l p. S.named n i (earlier n i l p) p;
        least = λ n i l p. S.least n i (earlier n i l p) p;
      }
    where
      earlier : (n i : ℕ) → i < j + 1 → node concepts i ≡ name_at n → i < j
      earlier n i l p = go (eqb i j) refl
        where
          go : (t : Bool) → eqb i j ≡ t → i < j
          go true u = absurd (no_name ne n (ap (node concepts) (sym (eqb-true i j u)) ∙ p))
          go false u = omega (arith, eqb-false i j u)

pub seen_none : (concepts : List ℕ) → Seen concepts 0 (replicate 1000 0)
seen_none concepts =
    record {
      long = length-replicate {A = ℕ} 1000 0;
      low = λ n l. omega (arith, get_or-replicate {A = ℕ} 1000 n 0 0 l);
      named = λ n i l. absurd (omega arith);
      least = λ n i l. absurd (omega arith);
    }

module _ (concepts : List ℕ) where
  pub record FirstsTo (j : ℕ) (firsts : List ℕ) : Type 0 where
    pub within : j ≤ count_of concepts
    pub long : length firsts ≡ 192
    pub each : (i : ℕ) → i < j → FirstNamed concepts i (get_or firsts i 0)

  pub firsts-none : (firsts : List ℕ) → length firsts ≡ 192 → FirstsTo 0 firsts
  firsts-none firsts h = record { within = omega arith; long = h; each = λ i l. absurd (omega arith) }

  pub firsts_more :
      (j : ℕ) (firsts : List ℕ) (k : ℕ) → count_of concepts ≤ 192 → FirstsTo j firsts → j < count_of concepts → FirstNamed concepts j k
      → FirstsTo (j + 1) (set firsts j k)
  firsts_more j firsts k few F h N =
      record { within = omega arith; long = length-set firsts j k ∙ F.long; each = λ i l. go i l (eqb i j) refl }
    where
      go : (i : ℕ) → i < j + 1 → (t : Bool) → eqb i j ≡ t → FirstNamed concepts i (get_or (set firsts j k) i 0)
      go i l true s =
          subst (λ (x : ℕ). FirstNamed concepts x (get_or (set firsts j k) x 0)) (sym (eqb-true i j s))
          (subst (λ (x : ℕ). FirstNamed concepts j x) (sym (get_or-set_same firsts j k 0 (omega (arith, F.long)))) N)
      go i l false s =
          subst (λ (x : ℕ). FirstNamed concepts i x) (sym (get_or-set_other firsts j i k 0 (eqb-false i j s))) (F.each i (omega (arith, eqb-false i j s)))

  pub firsts-done : (j : ℕ) (firsts : List ℕ) → FirstsTo j firsts → count_of concepts ≤ j → Firsts concepts firsts
  firsts-done j firsts F h = record { long = F.long; each = λ i l. F.each i (omega arith) }
