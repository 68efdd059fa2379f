-- Rule 6: the inclusions of one left side, the left sides of a row, all rows.
use Prim.Native.Nat.{ℕ, ◌+◌, ◌<◌, ◌≤◌}
use mathlib.Core.Path.{◌≡◌, refl, sym, ◌∙◌, subst}
use mathlib.Core.List.{List, [], ◌∷◌}
use mathlib.Core.Bool.{Bool, true, false, ◌||◌}
use mathlib.Core.Logic.{◌⊎◌, ⊎_elim}
use native.Mathlib.Omega.{arith}
use lib.ListN.{length, get_or}
use Rattle.subsumption.specs.Tables.{pairs_of, left_of, right_of}
use Rattle.subsumption.proofs.Bools.{eq-or-ne, le-or-lt}
use Rattle.square.specs.Inner.Square.{in_row, Square}
use Rattle.incremental.specs.Inner.Marking.{Adds}
use Rattle.incremental.specs.Inner.Lines.{Under, IncludeAt, IncludeLines}
use Rattle.incremental.specs.Inner.Pass.{Pass}
use Rattle.square.specs.Inner.Sets.{Inserted}
use Rattle.incremental.specs.Inner.Including.{is_in, Pairs, NextPair, Idle, IncludedBy, Covers, DoneRows, Covering, NextOpen, LeftQuiet, ScanQuiet, IncludePass}
use Rattle.incremental.proofs.Passes.{pass-none, pass-as, pass-then, pass-seen}
use Rattle.incremental.proofs.SettlingLaws.{flow-pass}

-- the inclusions of one left side, up to m; `before` and `covered₀` are what the row started with
module _ (count : ℕ) (inclusions done : List ℕ) (i l : ℕ) (before covered₀ : List ℕ) where
  abbrev pub TakenTo : ℕ → List ℕ → List ℕ → Type 0
  TakenTo m covered s =
      (DoneRows count inclusions s done → (k : ℕ) → k < m → k < pairs_of inclusions → left_of inclusions k ≡ l → Under count (in_row s) (right_of inclusions k) i)
      × (DoneRows count inclusions s done → Covers count inclusions s i covered₀ → Covers count inclusions s i covered)

  pub record LeftTo (m : ℕ) (covered after : List ℕ) (changed : Bool) : Type 0 where
    pub long : length covered ≡ 3
    pub found : m < pairs_of inclusions → left_of inclusions m ≡ l
    pub passed : IncludePass count inclusions (TakenTo m covered) before after changed

-- the left sides of the row, from `from` up to n
module _ (count : ℕ) (inclusions done : List ℕ) (i from : ℕ) (before covered₀ : List ℕ) where
  abbrev pub ScannedTo : ℕ → List ℕ → List ℕ → Type 0
  ScannedTo n covered s =
      DoneRows count inclusions s done → Covers count inclusions s i covered₀
      → Covers count inclusions s i covered × ((l : ℕ) → from ≤ l → l < n → in_row s i l ≡ true → IncludedBy count inclusions (in_row s) i l)

  pub record ScanTo (n : ℕ) (covered after : List ℕ) (changed : Bool) : Type 0 where
    pub long : length covered ≡ 3
    pub high : n ≤ 192
    pub found : n < 192 → in_row after i n ≡ true
    pub passed : IncludePass count inclusions (ScannedTo n covered) before after changed

-- three words, one by one
triple : (l : List ℕ) → length l ≡ 3 → get_or l 0 0 ∷ get_or l 1 0 ∷ get_or l 2 0 ∷ [] ≡ l
triple [] e = absurd (omega arith)
triple (a ∷ []) e = absurd (omega arith)
triple (a ∷ b ∷ []) e = absurd (omega arith)
triple (a ∷ b ∷ c ∷ []) e = refl
triple (a ∷ b ∷ c ∷ d ∷ l) e = absurd (omega arith)

module _ (count : ℕ) (inclusions done : List ℕ) (P : Pairs count inclusions) (i : ℕ) (inside : i < count) where
  -- ---- what a finished row within the row covers
  covered_more :
      (s : List ℕ) (k : ℕ) (before after : List ℕ) → k < count → DoneRows count inclusions s done
      → ((y : ℕ) → y < 192 → is_in after y ≡ true → (is_in before y ≡ true) ⊎ ((is_in done k ≡ true) × (in_row s k y ≡ true) × ((j : ℕ) → j < 192 → in_row s k j ≡ true → in_row s i j ≡ true)))
      → Covers count inclusions s i before → Covers count inclusions s i after
  covered_more s k before after h D C old l low u m r e =
      ⊎_elim (λ v. old l low v m r e)
      (λ v j g w. v.2 j (omega (arith, P.low)) (D k h v.0 m r (subst (λ (z : ℕ). in_row s k z ≡ true) (sym e) v.1) j g w))
      (C l low u)

  -- ---- the inclusions of one left side
  module _ (l : ℕ) (before : List ℕ) (marked : in_row before i l ≡ true) (covered₀ : List ℕ) where
    abbrev Taken : ℕ → List ℕ → List ℕ → Type 0
    Taken = TakenTo count inclusions done i l before covered₀

    abbrev Left : ℕ → List ℕ → List ℕ → Bool → Type 0
    Left = LeftTo count inclusions done i l before covered₀

    pub left-first : (n : ℕ) → Square before → length covered₀ ≡ 3 → NextPair inclusions l 0 n → Left n covered₀ before false
    left-first n S h N =
        record {
          long = h;
          found = N.found;
          passed = pass-none S ((λ D k p q e. absurd (N.none k (omega arith) p q e)), (λ D C. C));
        }

    pub left-more :
        (m n : ℕ) (covered covered' mid after : List ℕ) (a b : Bool) → Left m covered mid a → m < pairs_of inclusions
        → Adds in_row mid after (λ p q. (p ≡ i) × (in_row mid (right_of inclusions m) q ≡ true)) b → Covering after done (right_of inclusions m) i covered covered'
        → NextPair inclusions (left_of inclusions m) (m + 1) n → Left n covered' after (a || b)
    left-more m n covered covered' mid after a b T h A C N =
        record {
          long = C.long;
          found = λ u. N.found u ∙ T.found h;
          passed = pass-as (pass-then T.passed (pass-seen {Q' = Seen} step C.bits)) quiet;
        }
      where
        Seen : List ℕ → Type 0
        Seen s =
            (y : ℕ) → y < 192 → is_in covered' y ≡ true
            → (is_in covered y ≡ true) ⊎ ((is_in done (right_of inclusions m) ≡ true) × (in_row s (right_of inclusions m) y ≡ true) × ((j : ℕ) → j < 192 → in_row s (right_of inclusions m) j ≡ true → in_row s i j ≡ true))

        step : Pass count (IncludeLines count inclusions) (λ s. Under count (in_row s) (right_of inclusions m) i) mid after b
        step =
            flow-pass (right_of inclusions m) i P.low (P.right m h) inside
            (λ R r w. r i inside m h (w i (left_of inclusions m) inside (omega (arith, P.left m h, P.low)) (subst (λ (z : ℕ). in_row mid i z ≡ true) (sym (T.found h)) (T.passed.kept i l (omega (arith, P.low)) (omega (arith, T.found h, P.left m h, P.low)) marked))).1) A

        quiet : Taken m covered before × (Under count (in_row before) (right_of inclusions m) i × Seen before) → Taken n covered' before
        quiet (t, (u, v)) = (
          (λ D k p q e.
              ⊎_elim (λ (g : k ≡ m). subst (λ (z : ℕ). Under count (in_row before) (right_of inclusions z) i) (sym g) u)
              (λ g. ⊎_elim (λ w. absurd (N.none k (omega (arith, g)) p q (e ∙ sym (T.found h)))) (λ w. t.0 D k w q e) (le-or-lt m k)) (eq-or-ne k m)),
          (λ D old. covered_more before (right_of inclusions m) covered covered' (P.right m h) D v (t.1 D old)),
        )

    pub left-done :
        (m : ℕ) (covered after : List ℕ) (changed : Bool) → Left m covered after changed → pairs_of inclusions ≤ m
        → IncludePass count inclusions (LeftQuiet count inclusions done i l covered₀ covered) before after changed
    left-done m covered after changed T h =
        pass-as T.passed (λ u. record { included = λ D k q e. u.0 D k (omega arith) q e; covers = u.1 })

  -- ---- the left sides of the row
  module _ (from : ℕ) (before covered₀ : List ℕ) where
    abbrev Scanned : ℕ → List ℕ → List ℕ → Type 0
    Scanned = ScannedTo count inclusions done i from before covered₀

    abbrev Scan : ℕ → List ℕ → List ℕ → Bool → Type 0
    Scan = ScanTo count inclusions done i from before covered₀

    pub scan-first : (n : ℕ) → Square before → length covered₀ ≡ 3 → NextOpen before covered₀ i from n → Scan n covered₀ before false
    scan-first n S h N =
        record {
          long = h;
          high = N.high;
          found = N.found;
          passed = pass-none S (λ D C. (C, λ l p q u. C l (omega (arith, N.high)) (N.none l p q u)));
        }

    pub scan-more :
        (n next : ℕ) (covered covered' covered'' mid after : List ℕ) (a b : Bool) → Scan n covered mid a → n < 192 → length covered' ≡ 3
        → IncludePass count inclusions (LeftQuiet count inclusions done i n covered covered') mid after b → Inserted covered' covered'' 0 n
        → NextOpen after covered'' i (n + 1) next → Scan next covered'' after (a || b)
    scan-more n next covered covered' covered'' mid after a b T h long L I N =
        record {
          long = I.long ∙ long;
          high = N.high;
          found = N.found;
          passed = pass-as (pass-then T.passed (pass-seen {Q' = Seen} L N.none)) quiet;
        }
      where
        Seen : List ℕ → Type 0
        Seen s = (y : ℕ) → n + 1 ≤ y → y < next → in_row s i y ≡ true → is_in covered'' y ≡ true

        quiet : Scanned n covered before × (LeftQuiet count inclusions done i n covered covered' before × Seen before) → Scanned next covered'' before
        quiet (t, (u, v)) D C =
            let (old, taken) = t D C in
            let new = more D old in (
              new,
              λ l p q w.
                  ⊎_elim (λ (g : l ≡ n). subst (λ (z : ℕ). IncludedBy count inclusions (in_row before) i z) (sym g) (u.included D))
                  (λ g. ⊎_elim (λ x. new l (omega (arith, N.high)) (v l (omega (arith, g)) q w)) (λ x. taken l p x w) (le-or-lt n l)) (eq-or-ne l n),
            )
          where
            more : DoneRows count inclusions before done → Covers count inclusions before i covered → Covers count inclusions before i covered''
            more D old l low w =
                ⊎_elim (λ x. u.covers D old l low x) (λ (g : l ≡ n). subst (λ (z : ℕ). IncludedBy count inclusions (in_row before) i z) (sym g) (u.included D)) (I.bits l low w)

    pub scan-done :
        (n to : ℕ) (covered after : List ℕ) (changed : Bool) → Scan n covered after changed → to ≤ n
        → IncludePass count inclusions (ScanQuiet count inclusions done i from to covered₀ covered) before after changed
    scan-done n to covered after changed T h =
        pass-as T.passed (λ u. record { included = λ D C l p q w. (u D C).1 l p (omega arith) w; covers = λ D C. (u D C).0 })

  -- ---- the row
  pub include-row :
      (x y z : ℕ) (idle one two covered covered' covered'' before mid after : List ℕ) (a b : Bool) → x < count → y < count → z < count → Idle inclusions idle
      → Covering before done x i (get_or idle 0 0 ∷ get_or idle 1 0 ∷ get_or idle 2 0 ∷ []) one → Covering before done y i one two → Covering before done z i two covered
      → IncludePass count inclusions (ScanQuiet count inclusions done i i (i + 1) covered covered') before mid a
      → IncludePass count inclusions (ScanQuiet count inclusions done i 0 192 covered' covered'') mid after b
      → IncludePass count inclusions (λ s. DoneRows count inclusions s done → IncludeAt count inclusions (in_row s) i) before after (a || b)
  include-row x y z idle one two covered covered' covered'' before mid after a b lx ly lz I X Y Z A B =
      pass-as (pass-then A B)
      (λ u D m p w.
      let none : Covers count inclusions before i idle = λ l low v k q e. absurd (I.none l k low v q e) in
      let first = covered_more before x _ one lx D X.bits (subst (λ (c : List ℕ). Covers count inclusions before i c) (sym (triple idle I.long)) none) in
      let start = covered_more before z two covered lz D Z.bits (covered_more before y one two ly D Y.bits first) in
      u.1.included D (u.0.covers D start) (left_of inclusions m) (omega arith) (omega (arith, P.left m p, P.low)) w m p refl)
