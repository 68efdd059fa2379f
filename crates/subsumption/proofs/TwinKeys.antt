-- Keys of rows tell concepts apart; the loops that note the lowest twins and move the marks to them.
use Prim.Native.Nat.{ℕ, suc, ◌+◌, ◌*◌, ◌%◌, ◌<◌, ◌≤◌}
use mathlib.Core.Path.{◌≡◌, refl, sym, ap, ap₂, ◌∙◌, subst}
use mathlib.Core.List.{List}
use mathlib.Core.Bool.{Bool, true, false}
use mathlib.Core.Logic.{◌⊎◌, ⊎_elim}
use native.Mathlib.Omega.{arith}
use lib.Dec.{eqb}
use lib.ListN.{length, get_or, set, length-set, replicate}
use lib.Seq.{get_or-set_same, get_or-set_other}
use borrow.Author.Tests.{eq-eqb, ne_eqb, eqb-true}
use Rattle.subsumption.specs.Tables.{or, both, any_below, Node, top_at, name_at, exists_at, and_at, var_at, node, count_of, name, exists, and, var, shape, tree}
use Rattle.subsumption.specs.Inner.Tables.{Rising}
use Rattle.subsumption.specs.Inner.Atoms.{Layered, mark_at}
use Rattle.subsumption.specs.Inner.Twins.{key_of, FirstSame, Slots, LowestTwin, LowestTwins, Lowered}
use Rattle.subsumption.proofs.Bools.{or-first, or-skip, both_true, both_first, both-second, any_below-elim, last-cases, le-or-lt, eq-or-ne}
use Rattle.subsumption.proofs.Trees.{tree-eq}
use Rattle.subsumption.proofs.TwinLaws.{lowest-least, lowest-of}

-- ---- keys
key-smaller : (f g : ℕ → ℕ) (i : ℕ) (m : Node) → Rising i m → ((j : ℕ) → j < i → f j ≡ g j) → key_of f m ≡ key_of g m
unfolding key_of
key-smaller f g i top_at up h = refl
key-smaller f g i (name_at n) up h = refl
key-smaller f g i (exists_at r j) up h = omega (arith, h j up)
key-smaller f g i (and_at j k) up h = omega (arith, h j up.0, h k up.1)
key-smaller f g i (var_at k) up h = refl

same-high : (a b x y : ℕ) → a < 65536 → b < 65536 → a * 8 + x * 524288 ≡ b * 8 + y * 524288 → x ≡ y
same-high a b x y l h e =
    ⊎_elim (λ (u : x ≤ y). ⊎_elim (λ (w : y ≤ x). omega arith) (λ w. absurd (omega arith)) (le-or-lt y x)) (λ u. absurd (omega arith)) (le-or-lt x y)

-- the lowest twin, as a function
pub lowest : List ℕ → ℕ → ℕ
lowest concepts j = (lowest-of concepts j).id

abbrev pub Roles : List ℕ → Type 0
Roles concepts = (i r j : ℕ) → node concepts i ≡ exists_at r j → r < 100

module _ (concepts : List ℕ) (L : Layered concepts) (roles : Roles concepts) where
  lowest-low : (j : ℕ) → lowest concepts j ≤ j
  unfolding lowest
  lowest-low j = (lowest-of concepts j).low

  same-lowest : (j k : ℕ) → tree concepts j ≡ tree concepts k → lowest concepts j ≡ lowest concepts k
  unfolding lowest
  same-lowest j k e =
      let s = lowest-of concepts j in
      let u = lowest-of concepts k in
      omega (arith, lowest-least concepts s.id u.id s.lowest (s.same ∙ e ∙ sym u.same), lowest-least concepts u.id s.id u.lowest (u.same ∙ sym e ∙ sym s.same))

  lowest-same : (j k : ℕ) → lowest concepts j ≡ lowest concepts k → tree concepts j ≡ tree concepts k
  unfolding lowest
  lowest-same j k e = sym (lowest-of concepts j).same ∙ ap (tree concepts) e ∙ (lowest-of concepts k).same

  abbrev key : ℕ → ℕ
  key i = key_of (lowest concepts) (node concepts i)

  -- equal keys are equal concepts, and equal concepts have equal keys
  abbrev Small : Node → Type 0
  Small top_at = Unit {0}
  Small (name_at n) = Unit {0}
  Small (exists_at r j) = r < 100
  Small (and_at j k) = lowest concepts j < 192
  Small (var_at k) = Unit {0}

  key-shape : (m n : Node) → Small m → Small n → key_of (lowest concepts) m ≡ key_of (lowest concepts) n → shape (tree concepts) m ≡ shape (tree concepts) n
  unfolding key_of shape
  key-shape top_at top_at u w e = refl
  key-shape top_at (name_at m) u w e = absurd (omega arith)
  key-shape top_at (exists_at s l) u w e = absurd (omega arith)
  key-shape top_at (and_at x y) u w e = absurd (omega arith)
  key-shape top_at (var_at y) u w e = absurd (omega arith)
  key-shape (name_at n) top_at u w e = absurd (omega arith)
  key-shape (name_at n) (name_at m) u w e = ap name (omega arith)
  key-shape (name_at n) (exists_at s l) u w e = absurd (omega arith)
  key-shape (name_at n) (and_at x y) u w e = absurd (omega arith)
  key-shape (name_at n) (var_at y) u w e = absurd (omega arith)
  key-shape (exists_at r j) top_at u w e = absurd (omega arith)
  key-shape (exists_at r j) (name_at m) u w e = absurd (omega arith)
  key-shape (exists_at r j) (exists_at s l) u w e = let h = same-high r s (lowest concepts j) (lowest concepts l) (omega arith) (omega arith) (omega arith) in ap₂ exists (omega arith) (lowest-same j l h)
  key-shape (exists_at r j) (and_at x y) u w e = absurd (omega arith)
  key-shape (exists_at r j) (var_at y) u w e = absurd (omega arith)
  key-shape (and_at j k) top_at u w e = absurd (omega arith)
  key-shape (and_at j k) (name_at m) u w e = absurd (omega arith)
  key-shape (and_at j k) (exists_at s l) u w e = absurd (omega arith)
  key-shape (and_at j k) (and_at x y) u w e = let h = same-high (lowest concepts j) (lowest concepts x) (lowest concepts k) (lowest concepts y) (omega arith) (omega arith) (omega arith) in ap₂ and (lowest-same j x (omega arith)) (lowest-same k y h)
  key-shape (and_at j k) (var_at y) u w e = absurd (omega arith)
  key-shape (var_at j) top_at u w e = absurd (omega arith)
  key-shape (var_at j) (name_at m) u w e = absurd (omega arith)
  key-shape (var_at j) (exists_at s l) u w e = absurd (omega arith)
  key-shape (var_at j) (and_at x y) u w e = absurd (omega arith)
  key-shape (var_at j) (var_at y) u w e = ap var (omega arith)

  shape-key : (m n : Node) → shape (tree concepts) m ≡ shape (tree concepts) n → key_of (lowest concepts) m ≡ key_of (lowest concepts) n
  unfolding key_of shape
  shape-key top_at top_at e = refl
  shape-key top_at (name_at m) e = absurd (let z : ◌≡◌ {A = ℕ} 0 1 = cc e in omega arith)
  shape-key top_at (exists_at s l) e = absurd (let z : ◌≡◌ {A = ℕ} 0 1 = cc e in omega arith)
  shape-key top_at (and_at x y) e = absurd (let z : ◌≡◌ {A = ℕ} 0 1 = cc e in omega arith)
  shape-key top_at (var_at y) e = absurd (let z : ◌≡◌ {A = ℕ} 0 1 = cc e in omega arith)
  shape-key (name_at n) top_at e = absurd (let z : ◌≡◌ {A = ℕ} 0 1 = cc e in omega arith)
  shape-key (name_at n) (name_at m) e = ap (λ (z : ℕ). 1 + z * 8) (cc e)
  shape-key (name_at n) (exists_at s l) e = absurd (let z : ◌≡◌ {A = ℕ} 0 1 = cc e in omega arith)
  shape-key (name_at n) (and_at x y) e = absurd (let z : ◌≡◌ {A = ℕ} 0 1 = cc e in omega arith)
  shape-key (name_at n) (var_at y) e = absurd (let z : ◌≡◌ {A = ℕ} 0 1 = cc e in omega arith)
  shape-key (exists_at r j) top_at e = absurd (let z : ◌≡◌ {A = ℕ} 0 1 = cc e in omega arith)
  shape-key (exists_at r j) (name_at m) e = absurd (let z : ◌≡◌ {A = ℕ} 0 1 = cc e in omega arith)
  shape-key (exists_at r j) (exists_at s l) e = let a : r ≡ s = cc e in let b : tree concepts j ≡ tree concepts l = cc e in omega (arith, same-lowest j l b)
  shape-key (exists_at r j) (and_at x y) e = absurd (let z : ◌≡◌ {A = ℕ} 0 1 = cc e in omega arith)
  shape-key (exists_at r j) (var_at y) e = absurd (let z : ◌≡◌ {A = ℕ} 0 1 = cc e in omega arith)
  shape-key (and_at j k) top_at e = absurd (let z : ◌≡◌ {A = ℕ} 0 1 = cc e in omega arith)
  shape-key (and_at j k) (name_at m) e = absurd (let z : ◌≡◌ {A = ℕ} 0 1 = cc e in omega arith)
  shape-key (and_at j k) (exists_at s l) e = absurd (let z : ◌≡◌ {A = ℕ} 0 1 = cc e in omega arith)
  shape-key (and_at j k) (and_at x y) e = let a : tree concepts j ≡ tree concepts x = cc e in let b : tree concepts k ≡ tree concepts y = cc e in omega (arith, same-lowest j x a, same-lowest k y b)
  shape-key (and_at j k) (var_at y) e = absurd (let z : ◌≡◌ {A = ℕ} 0 1 = cc e in omega arith)
  shape-key (var_at j) top_at e = absurd (let z : ◌≡◌ {A = ℕ} 0 1 = cc e in omega arith)
  shape-key (var_at j) (name_at m) e = absurd (let z : ◌≡◌ {A = ℕ} 0 1 = cc e in omega arith)
  shape-key (var_at j) (exists_at s l) e = absurd (let z : ◌≡◌ {A = ℕ} 0 1 = cc e in omega arith)
  shape-key (var_at j) (and_at x y) e = absurd (let z : ◌≡◌ {A = ℕ} 0 1 = cc e in omega arith)
  shape-key (var_at j) (var_at y) e = ap (λ (z : ℕ). 4 + z * 8) (cc e)

  small : (i : ℕ) → i < 192 → Small (node concepts i)
  small i h = go (node concepts i) refl (L.rising i)
    where
      go : (m : Node) → node concepts i ≡ m → Rising i m → Small m
      go top_at e up = tt
      go (name_at n) e up = tt
      go (exists_at r j) e up = roles i r j e
      go (and_at j k) e up = omega (arith, lowest-low j, up.0)
      go (var_at k) e up = tt

  key-tree : (q i : ℕ) → q < 192 → i < 192 → key q ≡ key i → tree concepts q ≡ tree concepts i
  key-tree q i h l e = tree-eq concepts L.rising q ∙ key-shape (node concepts q) (node concepts i) (small q h) (small i l) e ∙ sym (tree-eq concepts L.rising i)

  tree-key : (q i : ℕ) → tree concepts q ≡ tree concepts i → key q ≡ key i
  tree-key q i e = shape-key (node concepts q) (node concepts i) (sym (tree-eq concepts L.rising q) ∙ e ∙ tree-eq concepts L.rising i)

-- ---- looking for the first place of a key
module _ (keys : List ℕ) (i : ℕ) where
  abbrev pub NoneTo : ℕ → Type 0
  NoneTo q = (p : ℕ) → p < q → get_or keys p 0 ≡ get_or keys i 0 → ⊥

  pub none_more : (q : ℕ) → NoneTo q → (get_or keys q 0 ≡ get_or keys i 0 → ⊥) → NoneTo (q + 1)
  none_more q none ne p l e =
      ⊎_elim (λ (s : p ≡ q). ne (subst (λ (z : ℕ). get_or keys z 0 ≡ get_or keys i 0) s e)) (λ h. none p h e) (last-cases p q (omega arith))

  pub first_found : (q : ℕ) → NoneTo q → q ≤ i → get_or keys q 0 ≡ get_or keys i 0 → FirstSame keys i q
  first_found q none l e = record { low = l; same = e; least = none }

  pub first-own : (q : ℕ) → NoneTo q → i ≤ q → FirstSame keys i i
  first-own q none l = record { low = omega arith; same = refl; least = λ p h. none p (omega arith) }

module _ (keys slots : List ℕ) (i slot : ℕ) (S : Slots keys i slots) (at : slot ≡ get_or keys i 0 % 1021) where
  in-slot : (q : ℕ) → q < i → get_or keys q 0 ≡ get_or keys i 0 → get_or slots slot 0 ≤ q
  in-slot q l e = subst (λ (z : ℕ). get_or slots z 0 ≤ q) (ap (λ (z : ℕ). z % 1021) e ∙ sym at) (S.each q l)

  pub none_before : get_or slots slot 0 < i → NoneTo keys i (get_or slots slot 0)
  none_before h q l e = omega (arith, in-slot q (omega arith) e)

  pub none_below : i ≤ get_or slots slot 0 → NoneTo keys i i
  none_below h q l e = omega (arith, in-slot q l e)

  pub slots_same : get_or slots slot 0 < i → Slots keys (i + 1) slots
  slots_same l =
      record {
        long = S.long;
        each =
            λ q h.
            ⊎_elim
            (λ (e : q ≡ i). let z : get_or slots (get_or keys q 0 % 1021) 0 ≡ get_or slots slot 0 = ap (λ (z : ℕ). get_or slots z 0) (ap (λ (z : ℕ). get_or keys z 0 % 1021) e ∙ sym at) in omega arith)
            (λ u. S.each q u) (last-cases q i (omega arith));
      }

  pub slots-new : i ≤ get_or slots slot 0 → Slots keys (i + 1) (set slots slot i)
  slots-new l =
      record {
        long = length-set slots slot i ∙ S.long;
        each = λ q h. ⊎_elim (here q) (λ u. earlier q u (eq-or-ne (get_or keys q 0 % 1021) slot)) (last-cases q i (omega arith));
      }
    where
      here : (q : ℕ) → q ≡ i → get_or (set slots slot i) (get_or keys q 0 % 1021) 0 ≤ q
      here q e =
          let z : get_or (set slots slot i) (get_or keys q 0 % 1021) 0 ≡ i
          = ap (λ (z : ℕ). get_or (set slots slot i) z 0) (ap (λ (z : ℕ). get_or keys z 0 % 1021) e ∙ sym at) ∙ get_or-set_same slots slot i 0 (omega (arith, S.long)) in
          omega arith

      earlier : (q : ℕ) → q < i → ((get_or keys q 0 % 1021 ≡ slot) ⊎ (get_or keys q 0 % 1021 ≡ slot → ⊥)) → get_or (set slots slot i) (get_or keys q 0 % 1021) 0 ≤ q
      earlier q u c =
          ⊎_elim
          (λ (e : get_or keys q 0 % 1021 ≡ slot). absurd (let z : get_or slots (get_or keys q 0 % 1021) 0 ≡ get_or slots slot 0 = ap (λ (z : ℕ). get_or slots z 0) e in omega (arith, S.each q u)))
          (λ n. let z = get_or-set_other slots slot (get_or keys q 0 % 1021) i 0 n in omega (arith, z, S.each q u)) c

-- ---- the walk that notes the lowest twins
pub record TwinsTo (concepts firsts keys slots : List ℕ) (i : ℕ) : Type 0 where
  pub within : i ≤ count_of concepts
  pub long : length firsts ≡ 192
  pub long-keys : length keys ≡ 192
  pub keyed : (q : ℕ) → q < i → get_or keys q 0 ≡ key_of (lowest concepts) (node concepts q)
  pub noted : (q : ℕ) → q < i → get_or firsts q 0 ≡ lowest concepts q
  pub slotted : Slots keys i slots

pub twins-none : (concepts firsts : List ℕ) → length firsts ≡ 192 → TwinsTo concepts firsts (replicate 192 0) (replicate 1021 192) 0
twins-none concepts firsts l =
    record {
      within = omega arith;
      long = l;
      long-keys = refl;
      keyed = λ q h. absurd (omega arith);
      noted = λ q h. absurd (omega arith);
      slotted = record { long = refl; each = λ q h. absurd (omega arith) };
    }

module _ (concepts : List ℕ) (L : Layered concepts) (roles : Roles concepts) (firsts keys slots : List ℕ) (i : ℕ) (T : TwinsTo concepts firsts keys slots i)
    (l : i < count_of concepts) (k : ℕ) (f : k ≡ key_of (λ j. get_or firsts j 0) (node concepts i)) where
  pub slots_kept : Slots (set keys i k) i slots
  slots_kept =
      record {
        long = T.slotted.long;
        each = λ q h. subst (λ (z : ℕ). get_or slots (z % 1021) 0 ≤ q) (sym (get_or-set_other keys i q k 0 (λ z. omega arith))) (T.slotted.each q h);
      }

  own_key : get_or (set keys i k) i 0 ≡ key_of (lowest concepts) (node concepts i)
  own_key =
      get_or-set_same keys i k 0 (omega (arith, T.long-keys, L.few)) ∙ f
      ∙ key-smaller (λ j. get_or firsts j 0) (lowest concepts) i (node concepts i) (L.rising i) T.noted

  keyed-more : (q : ℕ) → q < i + 1 → get_or (set keys i k) q 0 ≡ key_of (lowest concepts) (node concepts q)
  keyed-more q h =
      ⊎_elim (λ (s : q ≡ i). subst (λ (z : ℕ). get_or (set keys i k) z 0 ≡ key_of (lowest concepts) (node concepts z)) (sym s) own_key)
      (λ u. get_or-set_other keys i q k 0 (λ z. omega arith) ∙ T.keyed q u) (last-cases q i (omega arith))

  module _ (first : ℕ) (F : FirstSame (set keys i k) i first) where
    first-tree : tree concepts first ≡ tree concepts i
    first-tree =
        key-tree concepts L roles first i (omega (arith, F.low, L.few)) (omega (arith, L.few))
        (sym (keyed-more first (omega (arith, F.low))) ∙ F.same ∙ keyed-more i (omega arith))

    first-lowest : first ≡ lowest concepts i
    unfolding lowest
    first-lowest =
        let s = lowest-of concepts i in
        let low = lowest-least concepts s.id first s.lowest (s.same ∙ sym first-tree) in
        ⊎_elim (λ (h : first ≤ s.id). omega arith)
        (λ h. absurd (F.least s.id h (keyed-more s.id (omega (arith, s.low)) ∙ tree-key concepts L roles s.id i s.same ∙ sym (keyed-more i (omega arith)))))
        (le-or-lt first s.id)

    pub twins-more : (after : List ℕ) → Slots (set keys i k) (i + 1) after → TwinsTo concepts (set firsts i first) (set keys i k) after (i + 1)
    twins-more after S =
        record {
          within = omega arith;
          long = length-set firsts i first ∙ T.long;
          long-keys = length-set keys i k ∙ T.long-keys;
          keyed = keyed-more;
          noted =
              λ q h.
              ⊎_elim
              (λ (s : q ≡ i). subst (λ (z : ℕ). get_or (set firsts i first) z 0 ≡ lowest concepts z) (sym s) (get_or-set_same firsts i first 0 (omega (arith, T.long, L.few)) ∙ first-lowest))
              (λ u. get_or-set_other firsts i q first 0 (λ z. omega arith) ∙ T.noted q u) (last-cases q i (omega arith));
          slotted = S;
        }

pub twins-done : (concepts firsts keys slots : List ℕ) (i : ℕ) → TwinsTo concepts firsts keys slots i → count_of concepts ≤ i → LowestTwins concepts firsts
unfolding lowest
twins-done concepts firsts keys slots i T over =
    record {
      long = T.long;
      each =
          λ q l.
          let s = lowest-of concepts q in
          subst (LowestTwin concepts q) (sym (T.noted q (omega arith)))
          (record { low = s.low; same = s.same; least = λ p e. lowest-least concepts s.id p s.lowest (s.same ∙ sym e) });
    }

-- ---- the walk that moves the marks
pub record LoweredTo (firsts : List ℕ) (count : ℕ) (before marks : List Bool) (p : ℕ) : Type 0 where
  pub long : length marks ≡ 192
  pub within : p ≤ count
  pub done : (q : ℕ) → q < p → mark_at marks q ≡ any_below p (λ r. both (eqb (get_or firsts r 0) q) (mark_at before r))
  pub rest : (q : ℕ) → p ≤ q → mark_at marks q ≡ mark_at before q

pub lowered_none : (firsts : List ℕ) (count : ℕ) (marks : List Bool) → length marks ≡ 192 → LoweredTo firsts count marks marks 0
lowered_none firsts count marks l = record { long = l; within = omega arith; done = λ q h. absurd (omega arith); rest = λ q h. refl }

module _ (firsts : List ℕ) (count : ℕ) (before marks : List Bool) (p : ℕ) (few : count ≤ 192)
    (low : (i : ℕ) → i < count → get_or firsts i 0 ≤ i) (S : LoweredTo firsts count before marks p) (l : p < count) where
  abbrev moved : ℕ → ℕ → Bool
  moved q r = both (eqb (get_or firsts r 0) q) (mark_at before r)

  none-there : any_below p (moved p) ≡ false
  none-there = go (any_below p (moved p)) refl
    where
      go : (b : Bool) → any_below p (moved p) ≡ b → any_below p (moved p) ≡ false
      go true e = absurd (let (r, h, m) = any_below-elim p (moved p) e in omega (arith, low r (omega arith), eqb-true (get_or firsts r 0) p (both_true _ _ m).0))
      go false e = e

  -- without the p-th mark
  so_far : (q : ℕ) → q < p + 1 → (marks' : List Bool) → ((q : ℕ) → q < p → mark_at marks' q ≡ mark_at marks q) → mark_at marks' p ≡ false → mark_at marks' q ≡ any_below p (moved q)
  so_far q h marks' same none =
      ⊎_elim (λ (e : q ≡ p). subst (λ (z : ℕ). mark_at marks' z ≡ any_below p (moved z)) (sym e) (none ∙ sym none-there)) (λ u. same q u ∙ S.done q u)
      (last-cases q p (omega arith))

  pub lowered-skip : mark_at marks p ≡ false → LoweredTo firsts count before marks (p + 1)
  unfolding any_below
  lowered-skip e =
      record {
        long = S.long;
        within = omega arith;
        done =
            λ q h.
            so_far q h marks (λ q u. refl) e
            ∙ sym (ap (λ (n : ℕ). any_below n (moved q)) add-one' ∙ or-skip _ _ (both-second _ _ (sym (S.rest p (omega arith)) ∙ e)));
        rest = λ q h. S.rest q (omega arith);
      }
    where
      add-one' : p + 1 ≡ suc p
      add-one' = omega arith

  abbrev after : List Bool
  after = set (set marks p false) (get_or firsts p 0) true

  pub lowered-more : mark_at marks p ≡ true → LoweredTo firsts count before after (p + 1)
  unfolding any_below
  lowered-more e =
      record {
        long = length-set (set marks p false) _ true ∙ length-set marks p false ∙ S.long;
        within = omega arith;
        done = λ q h. ⊎_elim (taken q h) (other q h) (eq-or-ne (get_or firsts p 0) q);
        rest =
            λ q h.
            get_or-set_other (set marks p false) (get_or firsts p 0) q true false (λ z. omega (arith, low p l)) ∙ get_or-set_other marks p q false false (λ z. omega arith)
            ∙ S.rest q (omega arith);
      }
    where
      marked : mark_at before p ≡ true
      marked = sym (S.rest p (omega arith)) ∙ e

      next : (q : ℕ) → any_below (p + 1) (moved q) ≡ or (eqb (get_or firsts p 0) q) (any_below p (moved q))
      next q =
          let s : p + 1 ≡ suc p = omega arith in
          ap (λ (n : ℕ). any_below n (moved q)) s ∙ ap (λ (b : Bool). or b (any_below p (moved q))) (both_first _ _ marked)

      taken : (q : ℕ) → q < p + 1 → get_or firsts p 0 ≡ q → mark_at after q ≡ any_below (p + 1) (moved q)
      taken q h f =
          subst (λ (z : ℕ). mark_at after z ≡ true) f (get_or-set_same (set marks p false) (get_or firsts p 0) true false (omega (arith, low p l, length-set marks p false, S.long)))
          ∙ sym (next q ∙ or-first _ _ (eq-eqb (get_or firsts p 0) q f))

      cleared : (q : ℕ) → (get_or firsts p 0 ≡ q → ⊥) → mark_at after q ≡ mark_at (set marks p false) q
      cleared q n = get_or-set_other (set marks p false) (get_or firsts p 0) q true false (λ z. n (sym z))

      other : (q : ℕ) → q < p + 1 → (get_or firsts p 0 ≡ q → ⊥) → mark_at after q ≡ any_below (p + 1) (moved q)
      other q h n =
          cleared q n
          ∙ so_far q h (set marks p false) (λ q u. get_or-set_other marks p q false false (λ z. omega arith)) (get_or-set_same marks p false false (omega (arith, S.long)))
          ∙ sym (next q ∙ or-skip _ _ (ne_eqb (get_or firsts p 0) q n))

pub lowered-done : (firsts : List ℕ) (count : ℕ) (before marks : List Bool) (p : ℕ) → LoweredTo firsts count before marks p → count ≤ p → Lowered firsts count before marks
lowered-done firsts count before marks p S h =
    record {
      long = S.long;
      marks = λ q l. let e : p ≡ count = omega (arith, S.within) in subst (λ (n : ℕ). mark_at marks q ≡ any_below n (λ r. both (eqb (get_or firsts r 0) q) (mark_at before r))) e (S.done q (omega arith));
    }
