-- Rules 1 and 2: the ids of a name, one id, all ids.
use Prim.Native.Nat.{ℕ, zero, suc, ◌+◌, ◌*◌, ◌/◌, ◌%◌, ◌<◌, ◌≤◌}
use mathlib.Core.Path.{◌≡◌, refl, ap, sym, ◌∙◌, subst}
use mathlib.Core.List.{List, [], ◌∷◌}
use mathlib.Core.Bool.{Bool, true}
use mathlib.Core.Logic.{◌⊎◌, inl, inr, ⊎_elim}
use native.Mathlib.Omega.{arith}
use lib.ListN.{get_or, replicate, length-replicate}
use Rattle.subsumption.specs.Tables.{Node, top_at, name_at, node, count_of}
use Rattle.subsumption.specs.Atoms.{bit}
use Rattle.subsumption.specs.Inner.Names.{Nameable}
use Rattle.subsumption.proofs.Bools.{eq-or-ne, le-or-lt, last-cases}
use Rattle.subsumption.proofs.Bits.{bit-ones}
use Rattle.square.specs.Inner.Square.{on_line, in_row, Square}
use Rattle.incremental.specs.Inner.Marking.{in_half, Adds, InThree}
use Rattle.incremental.specs.Inner.Lines.{StartLines}
use Rattle.square.specs.Inner.Sets.{Inserted}
use Rattle.incremental.specs.Inner.Start.{NamesTo, StartAt, Grown, Begun, BegunAt}
use Rattle.square.proofs.SetLaws.{empty-line}
use Rattle.square.proofs.SetLaws.{line-three}
use Rattle.incremental.proofs.MarkingLaws.{adds-rows, adds-columns}

-- ---- the ids of a name
pub names-none : (concepts names : List ℕ) → names ≡ replicate 3000 0 → NamesTo concepts names 0
names-none concepts names e =
    subst (λ (z : List ℕ). NamesTo concepts z 0) (sym e)
    (record {
      long = length-replicate {A = ℕ} 3000 0;
      only = λ n j h l u. absurd (empty-line 3000 (n * 3) j l (omega arith) u);
      every = λ n j h l u. absurd (omega arith);
    })

pub names-skip : (concepts names : List ℕ) (i : ℕ) → ((n : ℕ) → node concepts i ≡ name_at n → ⊥) → NamesTo concepts names i → NamesTo concepts names (i + 1)
names-skip concepts names i k N =
    record {
      long = N.long;
      only = λ n j h l u. let v = N.only n j h l u in (omega (arith, v.0), v.1);
      every =
          λ n j h l u.
          ⊎_elim (λ (e : j ≡ i). absurd (k n (ap (node concepts) (sym e) ∙ u))) (λ v. N.every n j h v u) (last-cases j i (omega arith));
    }

apart : (x y : ℕ) → (x ≡ y → ⊥) → (x * 3 + 3 ≤ y * 3) ⊎ (y * 3 + 3 ≤ x * 3)
apart x y n = ⊎_elim (λ l. inr (omega (arith, n))) (λ l. inl (omega arith)) (le-or-lt y x)

module _ (concepts names after : List ℕ) (i name : ℕ) (row : node concepts i ≡ name_at name) (N : NamesTo concepts names i) (A : Inserted names after (name * 3) i) where
  only-more : (n j : ℕ) → n < 1000 → j < 192 → on_line after (n * 3) j ≡ true → (j < i + 1) × (node concepts j ≡ name_at n)
  only-more n j h l u = ⊎_elim same other (eq-or-ne n name)
    where
      same : n ≡ name → (j < i + 1) × (node concepts j ≡ name_at n)
      same e =
          ⊎_elim (λ v. let w = N.only n j h l (subst (λ (z : ℕ). on_line names (z * 3) j ≡ true) (sym e) v) in (omega (arith, w.0), w.1))
          (λ (v : j ≡ i). (omega arith, ap (node concepts) v ∙ row ∙ ap name_at (sym e)))
          (A.bits j l (subst (λ (z : ℕ). on_line after (z * 3) j ≡ true) e u))

      other : (n ≡ name → ⊥) → (j < i + 1) × (node concepts j ≡ name_at n)
      other e = let w = N.only n j h l (sym (A.there (n * 3) j l (apart n name e)) ∙ u) in (omega (arith, w.0), w.1)

  pub names_more : NamesTo concepts after (i + 1)
  names_more =
      record {
        long = A.long ∙ N.long;
        only = only-more;
        every =
            λ n j h l u.
            ⊎_elim
            (λ (e : j ≡ i).
            subst (λ (z : ℕ). on_line after (z * 3) j ≡ true) (same_name n (ap (node concepts) (sym e) ∙ u))
            (subst (λ (z : ℕ). on_line after (name * 3) z ≡ true) (sym e) A.taken))
            (λ v. A.kept (n * 3) j (N.every n j h v u)) (last-cases j i (omega arith));
      }
    where
      same_name : (n : ℕ) → node concepts i ≡ name_at n → name ≡ n
      same_name n u = cc

-- ---- growth
module _ {count : ℕ} {Law : (ℕ → ℕ → Bool) → Type 0} where
  pub grown-none : {s : List ℕ} → Square s → Grown count Law s s
  grown-none S = record { square = S; kept = λ i j l k u. u; sound = λ R r w. w }

  pub grown-then : {before mid after : List ℕ} → Grown count Law before mid → Grown count Law mid after → Grown count Law before after
  grown-then A B =
      record {
        square = B.square;
        kept = λ i j l k u. B.kept i j l k (A.kept i j l k u);
        sound = λ R r w. B.sound R r (A.sound R r w);
      }

  pub grown-by :
      {before after : List ℕ} {new : ℕ → ℕ → Type 0} {changed : Bool} → count ≤ 192 → Adds in_row before after new changed
      → ((R : ℕ → ℕ → Bool) → Law R → (i j : ℕ) → i < count → j < 192 → new i j → (j < count) × (R i j ≡ true)) → Grown count Law before after
  grown-by few A right =
      record {
        square = A.square;
        kept = A.kept;
        sound = λ R r w i j l k u. ⊎_elim (λ v. w i j l k v) (λ v. right R r i j l k v) (A.bits i j (omega arith) k u);
      }

pub grown-law :
    {count : ℕ} {Law Law' : (ℕ → ℕ → Bool) → Type 0} {before after : List ℕ} → ((R : ℕ → ℕ → Bool) → Law' R → Law R) → Grown count Law before after → Grown count Law' before after
grown-law f A = record { square = A.square; kept = A.kept; sound = λ R r w. A.sound R (f R r) w }

-- ---- one id
pub all_three : (q : ℕ) → q < 192 → InThree 18446744073709551615 18446744073709551615 18446744073709551615 q
unfolding on_line
all_three q l = go (q / 64) (omega arith)
  where
    go : (w : ℕ) → w < 3 → bit (get_or (18446744073709551615 ∷ 18446744073709551615 ∷ 18446744073709551615 ∷ []) (0 + w) 0) (q % 64) ≡ true
    go zero h = bit-ones (q % 64) (omega arith)
    go (suc zero) h = bit-ones (q % 64) (omega arith)
    go (suc (suc zero)) h = bit-ones (q % 64) (omega arith)
    go (suc (suc (suc w))) h = absurd (omega arith)

module _ (concepts : List ℕ) (N : Nameable concepts) (i : ℕ) (inside : i < count_of concepts) (before one : List ℕ) (a : Bool)
    (A : Adds (in_half 0) before one (λ p q. (p ≡ i) × (q ≡ i)) a) where
  own : Grown (count_of concepts) (StartLines concepts) before one
  own =
      grown-by N.few (adds-rows A)
      (λ R r p q l k u. (omega (arith, u.1), subst (λ (z : ℕ). R z q ≡ true) (sym u.0) (subst (λ (z : ℕ). R i z ≡ true) (sym u.1) (r.same i inside))))

  low : i < 192
  low = omega (arith, N.few)

  own-mark : in_row one i i ≡ true
  own-mark = (adds-rows A).taken i i low low (refl, refl)

  pub begun-other : {m : Node} → node concepts i ≡ m → ((n : ℕ) → m ≡ name_at n → ⊥) → (m ≡ top_at → ⊥) → BegunAt concepts before one i
  begun-other e no_name no_top =
      record {
        grown = own;
        here = record { same = own-mark; named = λ j n h p q. absurd (no_name n (sym e ∙ p)); top = λ k h p. absurd (no_top (sym e ∙ p)) };
      }

  pub begun-name :
      (name : ℕ) (names after : List ℕ) (b : Bool) → NamesTo concepts names (count_of concepts) → node concepts i ≡ name_at name
      → Adds (in_half 0) one after
      (λ p q. (p ≡ i) × InThree (get_or names (name * 3) 0) (get_or names (name * 3 + 1) 0) (get_or names (name * 3 + 2) 0) q) b
      → BegunAt concepts before after i
  begun-name name names after b M row B =
      record {
        grown = grown-then own more;
        here =
            record {
              same = (adds-rows B).kept i i low low own-mark;
              named = λ j n h p q. (adds-rows B).taken i j low (omega (arith, N.few)) (refl, has-name j n h p q);
              top = λ k h p. absurd (no_top p);
            };
      }
    where
      name-low : name < 1000
      name-low = N.low i name row

      more : Grown (count_of concepts) (StartLines concepts) one after
      more =
          grown-by N.few (adds-rows B)
          (λ R r p q l m u.
          let v = M.only name q name-low m (sym (line-three names (name * 3) q m) ∙ u.1) in
          (v.0, subst (λ (z : ℕ). R z q ≡ true) (sym u.0) (r.named i q name inside v.0 row v.1)))

      has-name :
          (j n : ℕ) → j < count_of concepts → node concepts i ≡ name_at n → node concepts j ≡ name_at n
          → InThree (get_or names (name * 3) 0) (get_or names (name * 3 + 1) 0) (get_or names (name * 3 + 2) 0) j
      has-name j n h p q = line-three names (name * 3) j (omega (arith, N.few)) ∙ M.every name j name-low h (q ∙ sym p ∙ row)

      no_top : node concepts i ≡ top_at → ⊥
      no_top p = let z : ◌≡◌ {A = ℕ} 0 1 = cc (p, row) in omega arith

  pub begun-top :
      (after : List ℕ) (b : Bool) → node concepts i ≡ top_at
      → Adds (in_half 576) one after (λ p q. (p ≡ i) × InThree 18446744073709551615 18446744073709551615 18446744073709551615 q) b → BegunAt concepts before after i
  begun-top after b row B =
      record {
        grown =
            grown-then own
            (grown-by N.few (adds-columns A.square B)
            (λ R r p q l m u. (omega (arith, u.0), subst (λ (z : ℕ). R p z ≡ true) (sym u.0) (r.top p i l inside row))));
        here =
            record {
              same = (adds-columns A.square B).kept i i low low own-mark;
              named = λ j n h p q. absurd (no_name n p);
              top = λ k h p. (adds-columns A.square B).taken k i (omega (arith, N.few)) low (refl, all_three k (omega (arith, N.few)));
            };
      }
    where
      no_name : (n : ℕ) → node concepts i ≡ name_at n → ⊥
      no_name n p = let z : ◌≡◌ {A = ℕ} 0 1 = cc (p, row) in omega arith

-- ---- all ids
pub record BegunTo (concepts before : List ℕ) (i : ℕ) (after : List ℕ) : Type 0 where
  pub within : i ≤ count_of concepts
  pub grown : Grown (count_of concepts) (StartLines concepts) before after
  pub each : (k : ℕ) → k < i → StartAt concepts after k

module _ (concepts before : List ℕ) (few : count_of concepts ≤ 192) where
  at_more : (mid after : List ℕ) (i : ℕ) → i < count_of concepts → Grown (count_of concepts) (StartLines concepts) mid after → StartAt concepts mid i → StartAt concepts after i
  at_more mid after i l G T =
      record {
        same = G.kept i i (omega arith) (omega arith) T.same;
        named = λ j n h p q. G.kept i j (omega arith) (omega arith) (T.named j n h p q);
        top = λ k h p. G.kept k i (omega arith) (omega arith) (T.top k h p);
      }

  pub begun_first : Square before → BegunTo concepts before 0 before
  begun_first S = record { within = omega arith; grown = grown-none S; each = λ k h. absurd (omega arith) }

  pub begun_more : (i : ℕ) (mid after : List ℕ) → i < count_of concepts → BegunTo concepts before i mid → BegunAt concepts mid after i → BegunTo concepts before (i + 1) after
  begun_more i mid after h T B =
      record {
        within = omega arith;
        grown = grown-then T.grown B.grown;
        each =
            λ k l.
            ⊎_elim (λ (e : k ≡ i). subst (λ (z : ℕ). StartAt concepts after z) (sym e) B.here)
            (λ v. at_more mid after k (omega arith) B.grown (T.each k v)) (last-cases k i (omega arith));
      }

  pub begun-done : (i : ℕ) (after : List ℕ) → count_of concepts ≤ i → BegunTo concepts before i after → Begun concepts before after
  begun-done i after h T =
      record {
        grown = T.grown;
        lines =
            record {
              same = λ k l. (T.each k (omega arith)).same;
              named = λ k j n l m p q. (T.each k (omega arith)).named j n m p q;
              top = λ k j l m p. (T.each j (omega arith)).top k l p;
            };
      }
