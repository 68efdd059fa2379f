-- The lines at rows of "and" and of variables.
use Prim.Native.Nat.{ℕ, zero, suc, ◌+◌, ◌-◌, ◌*◌, ◌/◌, ◌%◌, ◌^◌, ◌<◌, ◌≤◌}
use mathlib.Core.Path.{◌≡◌, refl, sym, ap, ◌∙◌, subst}
use mathlib.Core.List.{List, [], ◌∷◌, Memᴰ}
use mathlib.Core.Bool.{Bool, true, false, ◌||◌}
use mathlib.Core.Logic.{◌⊎◌, inl, inr, ⊎_elim}
use native.Mathlib.Omega.{arith}
use lib.ListN.{length, get_or, take, drop, length-drop}
use lib.Seq.{get_or-drop, take_all}
use Rattle.subsumption.specs.Tables.{Node, and_at, var_at, node, count_of}
use Rattle.subsumption.specs.Atoms.{bit, pick}
use Rattle.subsumption.specs.Inner.Tables.{Rising}
use Rattle.subsumption.specs.Inner.Columns.{Common}
use Rattle.subsumption.specs.Inner.Settling.{Settleable, choose_from}
use Rattle.subsumption.proofs.Bits.{zero_bit}
use Rattle.subsumption.proofs.Bools.{last-cases}
use Rattle.subsumption.proofs.Picks.{ChosenBelow, picked-at, at-picked}
use Rattle.square.specs.Inner.Square.{on_line, in_row, Square}
use Rattle.incremental.specs.Inner.Marking.{in_half, Adds, InThree}
use Rattle.incremental.specs.Inner.Lines.{Under, InnerAt, MeetAt}
use Rattle.incremental.specs.Inner.Pass.{Within, Pass}
use Rattle.incremental.specs.Inner.Settling.{ChosenUnder, SpreadPass, InnerPass, MeetPass}
use Rattle.square.proofs.BitLaws.{picked-bit}
use Rattle.incremental.proofs.MarkingLaws.{adds-columns, adds-as}
use Rattle.incremental.proofs.Passes.{pass-none, pass-as, pass-then, pass-law, step-pass}

-- ---- one row that takes in another, one column that takes in what two have
pub flow-pass :
    {count : ℕ} {Law : (ℕ → ℕ → Bool) → Type 0} {before after : List ℕ} {changed : Bool} (from to : ℕ) → count ≤ 192 → from < count → to < count
    → ((R : ℕ → ℕ → Bool) → Law R → Within count R before → Under count R from to) → Adds in_row before after (λ i j. (i ≡ to) × (in_row before from j ≡ true)) changed
    → Pass count Law (λ s. Under count (in_row s) from to) before after changed
flow-pass from to few h l law A =
    step-pass few A
    (λ R r w i j _ k u.
    let v = w from j h k u.1 in
    (v.0, subst (λ (z : ℕ). R z j ≡ true) (sym u.0) (law R r w j v.0 v.1)))
    (λ f j k u. f to j (omega arith) (omega arith) (refl, u))

pub meet-pass :
    {count : ℕ} {Law : (ℕ → ℕ → Bool) → Type 0} {before after : List ℕ} {changed : Bool} (a b to : ℕ) → count ≤ 192 → a < count → b < count → to < count
    → ((R : ℕ → ℕ → Bool) → Law R → (i : ℕ) → i < count → R i a ≡ true → R i b ≡ true → R i to ≡ true)
    → Adds in_row before after (λ i j. (j ≡ to) × (in_row before i a ≡ true) × (in_row before i b ≡ true)) changed
    → Pass count Law (λ s. (i : ℕ) → i < count → in_row s i a ≡ true → in_row s i b ≡ true → in_row s i to ≡ true) before after changed
meet-pass a b to few la lb lt law A =
    step-pass few A
    (λ R r w i j l k u.
    (omega (arith, u.0), subst (λ (z : ℕ). R i z ≡ true) (sym u.0) (law R r i l (w i a l (omega arith) u.1).1 (w i b l (omega arith) u.2).1)))
    (λ f i l u v. f i to (omega arith) (omega arith) (refl, u, v))

-- ---- the loop over the chosen atoms
pub record Spreading (q : ℕ) (atoms : List ℕ) (choice to : ℕ) (before after : List ℕ) (changed : Bool) : Type 0 where
  pub within : q ≤ length atoms
  pub square : Square after
  pub passed :
      (count : ℕ) → count ≤ 192 → to < count → ((q : ℕ) → q < length atoms → get_or atoms q 0 < count)
      → Pass count (ChosenUnder atoms choice to count) (λ s. (p : ℕ) → ChosenBelow q atoms choice p → Under count (in_row s) p to) before after changed

module _ (atoms : List ℕ) (choice to : ℕ) (before : List ℕ) where
  module _ (q : ℕ) (mid : List ℕ) (a : Bool) (inside : q < length atoms) (T : Spreading q atoms choice to before mid a) where
    last_or : (p : ℕ) (c : ChosenBelow (q + 1) atoms choice p) → (c.place ≡ q) ⊎ (ChosenBelow q atoms choice p)
    last_or p c =
        ⊎_elim (λ e. inl e) (λ l. inr (record { place = c.place; before = l; picked = c.picked; found = c.found }))
        (last-cases c.place q (omega (arith, c.before)))

    pub spreading-skip : choice / 2 ^ q % 2 ≡ 0 → Spreading (q + 1) atoms choice to before mid a
    spreading-skip e =
        record {
          within = omega arith;
          square = T.square;
          passed =
              λ count few l known.
              pass-as (T.passed count few l known)
              (λ u p c. ⊎_elim (λ (f : c.place ≡ q). absurd (zero_bit choice q e (subst (λ (x : ℕ). bit choice x ≡ true) f c.picked))) (λ d. u p d) (last_or p c));
        }

    pub spreading-turn :
        (after : List ℕ) (b : Bool) → (choice / 2 ^ q % 2 ≡ 0 → ⊥)
        → Adds in_row mid after (λ i j. (i ≡ to) × (in_row mid (get_or atoms q 0) j ≡ true)) b → Spreading (q + 1) atoms choice to before after (a || b)
    spreading-turn after b ne A =
        record {
          within = omega arith;
          square = A.square;
          passed =
              λ count few l known.
              pass-as
              (pass-then (T.passed count few l known)
              (flow-pass (get_or atoms q 0) to few (known q inside) l (λ R r w. r (get_or atoms q 0) (picked-at atoms choice q inside (picked-bit choice q ne))) A))
              (λ u p c.
              ⊎_elim (λ (f : c.place ≡ q). subst (λ (x : ℕ). Under count (in_row before) x to) (ap (λ (x : ℕ). get_or atoms x 0) (sym f) ∙ c.found) u.1)
              (λ d. u.0 p d) (last_or p c));
        }

  pub spreading-done :
      (q : ℕ) (after : List ℕ) (changed : Bool) → Spreading q atoms choice to before after changed → length atoms ≤ q → SpreadPass atoms choice to before after changed
  spreading-done q after changed T over count few l known =
      pass-as (T.passed count few l known)
      (λ u p m.
      let c = at-picked atoms choice p m in
      u p (record { place = c.place; before = omega (arith, c.before); picked = c.picked; found = c.found }))

-- ---- what all chosen atoms' columns have
pub part-long : (s : List ℕ) → length s ≡ 1152 → length (take (length s - 576) (drop 576 s)) ≡ 576
part-long s e = ap length (take_all (length s - 576) (drop 576 s) (omega (arith, length-drop 576 s))) ∙ length-drop 576 s ∙ sixes
  where
    sixes : length s - 576 ≡ 576
    sixes = omega arith

part_at : (s : List ℕ) (p : ℕ) → length s ≡ 1152 → get_or (take (length s - 576) (drop 576 s)) p 0 ≡ get_or s (576 + p) 0
part_at s p e = ap (λ (l : List ℕ). get_or l p 0) (take_all (length s - 576) (drop 576 s) (omega (arith, length-drop 576 s))) ∙ get_or-drop 576 s p 0

module _ (atoms : List ℕ) (choice : ℕ) (s : List ℕ) (S : Square s) (known : (q : ℕ) → q < length atoms → get_or atoms q 0 < 192) (first second third : ℕ)
    (A : Common (length atoms) atoms choice (take (length s - 576) (drop 576 s)) 0 first)
    (B : Common (length atoms) atoms choice (take (length s - 576) (drop 576 s)) 1 second)
    (C : Common (length atoms) atoms choice (take (length s - 576) (drop 576 s)) 2 third) where
  word : (w : ℕ) → w < 3 → Common (length atoms) atoms choice (take (length s - 576) (drop 576 s)) w (get_or (first ∷ second ∷ third ∷ []) (0 + w) 0)
  word zero h = A
  word (suc zero) h = B
  word (suc (suc zero)) h = C
  word (suc (suc (suc w))) h = absurd (omega arith)

  column-bit : (i p : ℕ) → i < 192 → p < 192 → bit (get_or (take (length s - 576) (drop 576 s)) (p * 3 + i / 64) 0) (i % 64) ≡ in_row s i p
  unfolding on_line
  column-bit i p l k =
      ap (λ (z : ℕ). bit z (i % 64)) (part_at s (p * 3 + i / 64) S.long ∙ ap (λ (z : ℕ). get_or s z 0) (omega arith)) ∙ sym (S.mirror i p l k)

  all_have : (i : ℕ) → i < 192 → InThree first second third i → (p : ℕ) → Memᴰ p (pick atoms choice) → in_row s i p ≡ true
  unfolding on_line
  all_have i l u p m =
      let c = at-picked atoms choice p m in
      subst (λ (x : ℕ). in_row s i x ≡ true) c.found
      (sym (column-bit i (get_or atoms c.place 0) l (known c.place c.before))
      ∙ (word (i / 64) (omega arith)).only (i % 64) c.place (omega arith) u c.before c.picked)

  have-all : (i : ℕ) → i < 192 → ((p : ℕ) → Memᴰ p (pick atoms choice) → in_row s i p ≡ true) → InThree first second third i
  unfolding on_line
  have-all i l f =
      (word (i / 64) (omega arith)).every (i % 64) (omega arith)
      (λ q k e. column-bit i (get_or atoms q 0) l (known q k) ∙ f (get_or atoms q 0) (picked-at atoms choice q k e))

  pub gather-adds :
      (after : List ℕ) (to : ℕ) (changed : Bool) → Adds (in_half 576) s after (λ p q. (p ≡ to) × InThree first second third q) changed
      → Adds in_row s after (λ i j. (j ≡ to) × ((p : ℕ) → Memᴰ p (pick atoms choice) → in_row s i p ≡ true)) changed
  gather-adds after to changed T =
      adds-as (adds-columns S T) (λ i j l k u. (u.0, all_have i l u.1)) (λ i j l k u. inr (u.0, have-all i l u.1))

-- ---- a row
module _ (concepts atoms choices : List ℕ) (R : Settleable concepts atoms choices) where
  chosen-low : (k p : ℕ) → Memᴰ p (choose_from atoms choices k) → p < count_of concepts
  chosen-low k p m = let c = at-picked atoms (get_or choices k 0) p m in subst (λ (x : ℕ). x < count_of concepts) c.found (R.atoms-known c.place c.before)

  module _ (i : ℕ) (inside : i < count_of concepts) (before after : List ℕ) (changed : Bool) where
    rising : (m : Node) → node concepts i ≡ m → Rising i m
    rising m e = subst (λ (x : Node). Rising i x) e (R.rising i inside)

    pub inner-and :
        (x y : ℕ) (mid : List ℕ) (a b : Bool) → node concepts i ≡ and_at x y → Adds in_row before mid (λ p q. (p ≡ i) × (in_row before x q ≡ true)) a
        → Adds in_row mid after (λ p q. (p ≡ i) × (in_row mid y q ≡ true)) b → InnerPass concepts (choose_from atoms choices) i before after (a || b)
    inner-and x y mid a b n A B =
        let low = rising _ n in
        pass-as
        (pass-then
        (flow-pass _ i R.few (omega (arith, low.0)) inside (λ Q r w. (subst (λ (x : Node). InnerAt (count_of concepts) (choose_from atoms choices) Q i x) n (r i inside)).0) A)
        (flow-pass _ i R.few (omega (arith, low.1)) inside (λ Q r w. (subst (λ (x : Node). InnerAt (count_of concepts) (choose_from atoms choices) Q i x) n (r i inside)).1) B))
        (λ u. subst (λ (x : Node). InnerAt (count_of concepts) (choose_from atoms choices) (in_row before) i x) (sym n) (u.0, u.1))

    pub inner-var :
        (k : ℕ) → node concepts i ≡ var_at k → SpreadPass atoms (get_or choices k 0) i before after changed
        → InnerPass concepts (choose_from atoms choices) i before after changed
    inner-var k n P =
        pass-as
        (pass-law (λ Q r. subst (λ (x : Node). InnerAt (count_of concepts) (choose_from atoms choices) Q i x) n (r i inside))
        (P (count_of concepts) R.few inside R.atoms-known))
        (λ u. subst (λ (x : Node). InnerAt (count_of concepts) (choose_from atoms choices) (in_row before) i x) (sym n) u)

    pub meet-and :
        (x y : ℕ) → node concepts i ≡ and_at x y
        → Adds in_row before after (λ p q. (q ≡ i) × (in_row before p x ≡ true) × (in_row before p y ≡ true)) changed
        → MeetPass concepts (choose_from atoms choices) i before after changed
    meet-and x y n A =
        let low = rising _ n in
        pass-as
        (meet-pass _ _ i R.few (omega (arith, low.0)) (omega (arith, low.1)) inside
        (λ Q r. subst (λ (x : Node). MeetAt (count_of concepts) (choose_from atoms choices) Q i x) n (r i inside)) A)
        (λ u. subst (λ (x : Node). MeetAt (count_of concepts) (choose_from atoms choices) (in_row before) i x) (sym n) u)

    pub meet-var :
        (k : ℕ) → node concepts i ≡ var_at k
        → Adds in_row before after (λ p q. (q ≡ i) × ((x : ℕ) → Memᴰ x (pick atoms (get_or choices k 0)) → in_row before p x ≡ true)) changed
        → MeetPass concepts (choose_from atoms choices) i before after changed
    meet-var j n A =
        step-pass R.few A
        (λ Q r w p q l k u. (
          omega (arith, u.0),
          subst (λ (z : ℕ). Q p z ≡ true) (sym u.0)
              (subst (λ (x : Node). MeetAt (count_of concepts) (choose_from atoms choices) Q i x) n (r i inside) p l
              (λ x m. (w p x l (omega (arith, chosen-low _ x m, R.few)) (u.1 x m)).1)),
        ))
        (λ f. subst (λ (x : Node). MeetAt (count_of concepts) (choose_from atoms choices) (in_row before) i x) (sym n)
        (λ p l u. f p i (omega (arith, R.few)) (omega (arith, R.few)) (refl, u)))

module _ (concepts : List ℕ) (choose : ℕ → List ℕ) (i : ℕ) (s : List ℕ) (S : Square s) where
  pub inner-none : InnerAt (count_of concepts) choose (in_row s) i (node concepts i) → InnerPass concepts choose i s s false
  inner-none e = pass-none S e

  pub meet-none : MeetAt (count_of concepts) choose (in_row s) i (node concepts i) → MeetPass concepts choose i s s false
  meet-none e = pass-none S e
