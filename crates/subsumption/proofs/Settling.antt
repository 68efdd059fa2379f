-- The steps at one row, downwards and upwards.
use Prim.Native.Nat.{ℕ, ◌+◌, ◌*◌, ◌<◌}
use mathlib.Core.Path.{◌≡◌, refl, sym, subst}
use mathlib.Core.List.{List, Memᴰ}
use mathlib.Core.Bool.{Bool, true, ◌||◌}
use native.Mathlib.Omega.{arith}
use lib.ListN.{length, get_or}
use Rattle.subsumption.specs.Tables.{Node, top_at, name_at, and_at, var_at, node, count_of}
use Rattle.subsumption.specs.Atoms.{pick}
use Rattle.subsumption.specs.Inner.Tables.{Rising}
use Rattle.subsumption.specs.Inner.Columns.{has, Into, Takes}
use Rattle.subsumption.specs.Inner.Names.{Firsts}
use Rattle.subsumption.specs.Inner.Settling.{Settleable, Descended, DescendedBy, Ascended, AscendedBy, choose_from}
use Rattle.subsumption.specs.Inner.Closure.{Ready, Flow, flow-same, flow-top, flow-named, flow-first, flow-second, flow-meet, flow-chooses, flow-all-chosen, Pass, SettlePass}
use Rattle.subsumption.proofs.Nodes.{node-and}
use Rattle.subsumption.proofs.Picks.{ChosenBelow, at-picked}
use Rattle.subsumption.proofs.Passes.{pass-as, pass-then, step-pass, flow-pass}

pub ready-settleable : {concepts inclusions atoms assignment : List ℕ} → Ready concepts inclusions atoms assignment → Settleable concepts atoms assignment
ready-settleable R =
    record {
      few = R.few;
      rising = R.rising;
      numbered = R.numbered;
      few-atoms = R.few-atoms;
      atoms-known = R.atoms-known;
    }

module _ {concepts atoms assignment : List ℕ} (R : Settleable concepts atoms assignment) (j : ℕ) (inside : j < count_of concepts) where
  rising : {m : Node} → node concepts j ≡ m → Rising j m
  rising {m} e = subst (λ (x : Node). Rising j x) e (R.rising j inside)

  pub first-low : {firsts : List ℕ} → Firsts concepts firsts → get_or firsts j 0 < 192
  first-low F = omega (arith, (F.each j inside).low, R.few)

  pub and_low : get_or concepts (j * 3) 0 ≡ 3 → (get_or concepts (j * 3 + 1) 0 < 192) × (get_or concepts (j * 3 + 2) 0 < 192)
  and_low e = (omega (arith, (rising (node-and concepts j e)).0, R.few), omega (arith, (rising (node-and concepts j e)).1, R.few))

module _ (concepts atoms assignment : List ℕ) (R : Settleable concepts atoms assignment) (j : ℕ) (inside : j < count_of concepts) where
  abbrev pub DescendedPass : List ℕ → List ℕ → Bool → Type 0
  DescendedPass = SettlePass concepts (choose_from atoms assignment) (Descended concepts (choose_from atoms assignment) j)

  descended :
      {m : Node} {columns : List ℕ} → node concepts j ≡ m → has columns j j ≡ true
      → DescendedBy (count_of concepts) (choose_from atoms assignment) j columns m → Descended concepts (choose_from atoms assignment) j columns
  descended {m} {columns} e s b =
      record { same = s; by = subst (λ (x : Node). DescendedBy (count_of concepts) (choose_from atoms assignment) j columns x) (sym e) b }

  marked :
      {inclusions : List ℕ} {wide : ℕ → ℕ → Bool} {before after : List ℕ} {changed : Bool} → Takes before after (λ x. x ≡ j) (λ i. i ≡ j) changed
      → Pass concepts inclusions wide (choose_from atoms assignment) (λ l. has l j j ≡ true) before after changed
  marked {inclusions} {wide} t =
      step-pass R.few t
      (λ g s i k h l p q. subst (λ (x : ℕ). Flow concepts inclusions wide (choose_from atoms assignment) g x k) (sym q)
      (subst (λ (x : ℕ). Flow concepts inclusions wide (choose_from atoms assignment) g j x) (sym p) (flow-same j inside)))
      (λ f. f j j inside refl refl)

  pub descend-other :
      (before after : List ℕ) (own : Bool) → DescendedBy (count_of concepts) (choose_from atoms assignment) j before (node concepts j)
      → Takes before after (λ x. x ≡ j) (λ i. i ≡ j) own → DescendedPass before after own
  descend-other before after own none t inclusions wide = pass-as (marked t) (λ s. descended refl s none)

  pub descend-and :
      (x y : ℕ) (before one two after : List ℕ) (own a b : Bool) → node concepts j ≡ and_at x y → Takes before one (λ x. x ≡ j) (λ i. i ≡ j) own
      → Takes one two (λ z. z ≡ x) (λ i. has one i j ≡ true) a → Takes two after (λ z. z ≡ y) (λ i. has two i j ≡ true) b
      → DescendedPass before after ((own || a) || b)
  descend-and x y before one two after own a b e t u v inclusions wide =
      pass-as (pass-then (pass-then (marked t) left) right) (λ q. descended e q.0.0 (q.0.1, q.1))
    where
      left : Pass concepts inclusions wide (choose_from atoms assignment) (λ l. Into (count_of concepts) l j x) one two a
      left = flow-pass j x R.few inside (λ g i h z. flow-first i j x y h inside e z) u

      right : Pass concepts inclusions wide (choose_from atoms assignment) (λ l. Into (count_of concepts) l j y) two after b
      right = flow-pass j y R.few inside (λ g i h z. flow-second i j x y h inside e z) v

  pub descend-var :
      (k : ℕ) (before one after : List ℕ) (own a : Bool) → node concepts j ≡ var_at k → Takes before one (λ x. x ≡ j) (λ i. i ≡ j) own
      → Takes one after (λ p. Memᴰ p (pick atoms (get_or assignment k 0))) (λ i. has one i j ≡ true) a → DescendedPass before after (own || a)
  descend-var k before one after own a e t u inclusions wide = pass-as (pass-then (marked t) down) (λ q. descended e q.0 q.1)
    where
      down :
          Pass concepts inclusions wide (choose_from atoms assignment)
          (λ l. (p : ℕ) → Memᴰ p (choose_from atoms assignment k) → Into (count_of concepts) l j p) one after a
      down =
          step-pass R.few u (λ g s i p h l m q. flow-chooses i j k p h inside e m (s i j h inside q)) (λ f p m i h q. f i p h m q)

module _ (concepts atoms assignment firsts : List ℕ) (R : Settleable concepts atoms assignment) (F : Firsts concepts firsts)
    (j : ℕ) (inside : j < count_of concepts) where
  abbrev pub AscendedPass : List ℕ → List ℕ → Bool → Type 0
  AscendedPass = SettlePass concepts (choose_from atoms assignment) (Ascended concepts firsts (choose_from atoms assignment) j)

  ascended :
      {m : Node} (columns : List ℕ) → node concepts j ≡ m
      → AscendedBy (count_of concepts) (choose_from atoms assignment) (get_or firsts j 0) j columns m
      → Ascended concepts firsts (choose_from atoms assignment) j columns
  ascended {m} columns e b = subst (λ (x : Node). AscendedBy (count_of concepts) (choose_from atoms assignment) (get_or firsts j 0) j columns x) (sym e) b

  pub ascend-top :
      (before after : List ℕ) (a : Bool) → node concepts j ≡ top_at → Takes before after (λ x. x ≡ j) (λ i. Unit {0}) a → AscendedPass before after a
  ascend-top before after a e u inclusions wide =
      step-pass R.few u
      (λ g s i k h l p _. subst (λ (x : ℕ). Flow concepts inclusions wide (choose_from atoms assignment) g i x) (sym p) (flow-top i j h inside e))
      (λ f. ascended before e (λ i h. f i j h refl tt))

  pub ascend-name :
      (n : ℕ) (before one after : List ℕ) (a b : Bool) → node concepts j ≡ name_at n
      → Takes before one (λ x. x ≡ get_or firsts j 0) (λ i. has before i j ≡ true) a
      → Takes one after (λ x. x ≡ j) (λ i. has one i (get_or firsts j 0) ≡ true) b → AscendedPass before after (a || b)
  ascend-name n before one after a b e u v inclusions wide = pass-as (pass-then there back) (λ q. ascended before e (q.0, q.1))
    where
      f : node concepts (get_or firsts j 0) ≡ name_at n
      f = (F.each j inside).named _ e

      known : get_or firsts j 0 < count_of concepts
      known = omega (arith, (F.each j inside).low)

      there : Pass concepts inclusions wide (choose_from atoms assignment) (λ l. Into (count_of concepts) l j (get_or firsts j 0)) before one a
      there = flow-pass j (get_or firsts j 0) R.few inside (λ g i h w. flow-named i j (get_or firsts j 0) _ h inside known e f w) u

      back : Pass concepts inclusions wide (choose_from atoms assignment) (λ l. Into (count_of concepts) l (get_or firsts j 0) j) one after b
      back = flow-pass (get_or firsts j 0) j R.few known (λ g i h w. flow-named i (get_or firsts j 0) j _ h known inside f e w) v

  pub ascend-and :
      (x y : ℕ) (before after : List ℕ) (a : Bool) → node concepts j ≡ and_at x y
      → Takes before after (λ x. x ≡ j) (λ i. (has before i x ≡ true) × (has before i y ≡ true)) a → AscendedPass before after a
  ascend-and x y before after a e w inclusions wide =
      step-pass R.few w
      (λ g s i k h l p q.
      subst (λ (z : ℕ). Flow concepts inclusions wide (choose_from atoms assignment) g i z) (sym p)
      (flow-meet i j x y h inside e (s i x h x-known q.0) (s i y h y-known q.1)))
      (λ f. ascended before e (λ i h p q. f i j h refl (p, q)))
    where
      x-known : x < count_of concepts
      x-known = omega (arith, (rising R j inside e).0)

      y-known : y < count_of concepts
      y-known = omega (arith, (rising R j inside e).1)

  pub ascend-var :
      (k : ℕ) (before after : List ℕ) (a : Bool) → node concepts j ≡ var_at k
      → Takes before after (λ x. x ≡ j) (λ i. (p : ℕ) → Memᴰ p (pick atoms (get_or assignment k 0)) → has before i p ≡ true) a
      → AscendedPass before after a
  ascend-var k before after a e v inclusions wide =
      step-pass R.few v
      (λ g s i x h l p q.
      subst (λ (z : ℕ). Flow concepts inclusions wide (choose_from atoms assignment) g i z) (sym p)
      (flow-all-chosen i j k h inside e (λ z m. s i z h (chosen-known z m) (q z m))))
      (λ f. ascended before e (λ i h q. f i j h refl q))
    where
      chosen-known : (z : ℕ) → Memᴰ z (choose_from atoms assignment k) → z < count_of concepts
      chosen-known z m =
          let c : ChosenBelow (length atoms) atoms (get_or assignment k 0) z = at-picked atoms (get_or assignment k 0) z m in
          subst (λ (y : ℕ). y < count_of concepts) c.found (R.atoms-known c.place c.before)
