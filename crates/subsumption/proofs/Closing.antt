-- Rounds until nothing changes.
use Prim.Native.Nat.{ℕ, ◌+◌, ◌*◌, ◌/◌, ◌%◌, ◌<◌}
use mathlib.Core.Path.{◌≡◌, refl, ap, sym, ◌∙◌, subst}
use mathlib.Core.List.{List, []}
use mathlib.Core.Bool.{Bool, true, false, ◌||◌}
use native.Mathlib.Omega.{arith}
use native.Mathlib.Nat.{le_antisymm}
use lib.ListN.{length, get_or, replicate, length-replicate}
use Rattle.subsumption.specs.Tables.{Node, top_at, name_at, and_at, var_at, node, count_of}
use Rattle.subsumption.specs.Atoms.{bit}
use Rattle.subsumption.specs.Inner.Columns.{has, slack, Empty}
use Rattle.subsumption.specs.Inner.Names.{Firsts}
use Rattle.subsumption.specs.Inner.Settling.{DescendedBy, AscendedBy, AllDescended, AllAscended}
use Rattle.subsumption.specs.Inner.Links.{AllLinked}
use Rattle.subsumption.specs.Inner.Closure.{Steps, flow-given, Sound, LowPairs, LeftKnown, Pass, IncludePass, AllTaken, AllIncluded, Closed}
use Rattle.subsumption.proofs.Bits.{bit-of-zero}
use Rattle.subsumption.proofs.Columns.{not-both}
use Rattle.subsumption.proofs.Passes.{pass-none, pass-as, pass-then}

pub nothing :
    (columns : List ℕ) → Empty columns → (i j : ℕ) → i < 192 → j < 192 → has columns i j ≡ true → ⊥
unfolding has
nothing columns E i j h l e = bit-of-zero (i % 64) (ap (λ (w : ℕ). bit w (i % 64)) (sym (E.zeros (j * 3 + i / 64) (omega arith))) ∙ e)

-- 1 while busy
abbrev pub weight : Bool → ℕ
weight true = 1
weight false = 0

pub pass-less :
    {concepts inclusions : List ℕ} {wide : ℕ → ℕ → Bool} {choose : ℕ → List ℕ} {Q : List ℕ → Type 0} (before after : List ℕ) (busy changed : Bool) → busy ≡ true
    → Pass concepts inclusions wide choose Q before after changed → slack after + weight changed < slack before + weight busy
pass-less before after true true e p = omega (arith, p.less refl)
pass-less before after true false e p = omega (arith, ap slack (p.same refl))
pass-less before after false changed e p = not-both true refl (sym e)

module _ (concepts inclusions : List ℕ) (wide : ℕ → ℕ → Bool) (choose : ℕ → List ℕ) (firsts : List ℕ) where
  pub record Closing (given columns : List ℕ) (busy : Bool) : Type 0 where
    pub long : length columns ≡ 576
    pub sound : Sound concepts inclusions wide choose given columns
    pub taken : busy ≡ false → AllTaken concepts inclusions wide choose firsts columns

  pub closing-first : (given : List ℕ) → length given ≡ 576 → Closing given given true
  closing-first given h = record { long = h; sound = λ i j l k e. flow-given i j l k e; taken = λ e. not-both true refl e }

  pub closing-turn :
      (given before after : List ℕ) (busy changed : Bool) → Closing given before busy
      → Pass concepts inclusions wide choose (AllTaken concepts inclusions wide choose firsts) before after changed → Closing given after changed
  closing-turn given before after busy changed C p =
      record {
        long = p.long ∙ C.long;
        sound = p.sound given C.sound;
        taken = λ e. subst (λ (l : List ℕ). AllTaken concepts inclusions wide choose firsts l) (sym (p.same e)) (p.quiet e);
      }

  -- one round
  pub round-pass :
      {before one two after : List ℕ} {a b c : Bool} → Pass concepts inclusions wide choose (AllDescended concepts choose) before one a
      → Pass concepts inclusions wide choose (λ l. AllAscended concepts firsts choose l × AllLinked concepts wide l) one two b
      → Pass concepts inclusions wide choose (AllIncluded concepts inclusions) two after c
      → Pass concepts inclusions wide choose (AllTaken concepts inclusions wide choose firsts) before after ((a || b) || c)
  round-pass p q r =
      pass-as (pass-then (pass-then p q) r) (λ u. record { descended = u.0.0; ascended = u.0.1.0; included = u.1; linked = u.0.1.1 })

  module _ (columns : List ℕ) (F : Firsts concepts firsts) (A : AllTaken concepts inclusions wide choose firsts columns) where
    down : (j : ℕ) (m : Node) → j < count_of concepts → node concepts j ≡ m → DescendedBy (count_of concepts) choose j columns m
    down j m h e = subst (λ (x : Node). DescendedBy (count_of concepts) choose j columns x) e (A.descended j h).by

    up : (j : ℕ) (m : Node) → j < count_of concepts → node concepts j ≡ m → AscendedBy (count_of concepts) choose (get_or firsts j 0) j columns m
    up j m h e = subst (λ (x : Node). AscendedBy (count_of concepts) choose (get_or firsts j 0) j columns x) e (A.ascended j h)

    one-first : (j k n : ℕ) → j < count_of concepts → k < count_of concepts → node concepts j ≡ name_at n → node concepts k ≡ name_at n → get_or firsts j 0 ≡ get_or firsts k 0
    one-first j k n h l p q =
        le_antisymm ((F.each j h).least n (get_or firsts k 0) p ((F.each k l).named n q)) ((F.each k l).least n (get_or firsts j 0) q ((F.each j h).named n p))

    pub all-steps : Steps concepts inclusions wide choose (λ i j. has columns i j ≡ true)
    all-steps =
        record {
          same = λ j h. (A.descended j h).same;
          top = λ i j h l e. up j top_at l e i h;
          named =
              λ i j k n h l m p q r.
              (up k (name_at n) m q).1 i h
              (subst (λ (x : ℕ). has columns i x ≡ true) (one-first j k n l m p q) ((up j (name_at n) l p).0 i h r));
          first = λ i j a b h l e r. (down j (and_at a b) l e).0 i h r;
          second = λ i j a b h l e r. (down j (and_at a b) l e).1 i h r;
          meet = λ i j a b h l e r s. up j (and_at a b) l e i h r s;
          included = λ i m h l r. A.included m l i h r;
          linked = λ i e f r s x y h l m p q w u t. A.linked f m e s y l q (record { narrow = r; from = x; row = p; counting = w; below = u }) i h t;
          chooses = λ i v k p h l e m r. down v (var_at k) l e p m i h r;
          all-chosen = λ i v k h l e r. up v (var_at k) l e i h r;
        }

  pub closing-done :
      (given columns : List ℕ) (busy : Bool) → busy ≡ false → Firsts concepts firsts → Closing given columns busy
      → Closed concepts inclusions wide choose given columns
  closing-done given columns busy e F C = record { long = C.long; sound = C.sound; closed = all-steps columns F (C.taken e) }

-- the inclusions until they are quiet
module _ (inclusions : List ℕ) where
  abbrev pub Quieting : List ℕ → List ℕ → Bool → Bool → Type 0
  Quieting before columns changed busy =
      (concepts : List ℕ) (wide : ℕ → ℕ → Bool) (choose : ℕ → List ℕ) → LeftKnown concepts inclusions
      → Pass concepts inclusions wide choose (λ l. busy ≡ false → AllIncluded concepts inclusions l) before columns changed

  pub quieting-first : (columns : List ℕ) → Quieting columns columns false true
  quieting-first columns concepts wide choose K = pass-none (λ e. not-both true refl e)

  pub quieting-more :
      (before columns after : List ℕ) (changed busy again : Bool) → Quieting before columns changed busy → IncludePass inclusions columns after again
      → Quieting before after (changed || again) again
  quieting-more before columns after changed busy again Q p concepts wide choose K = pass-as (pass-then (Q concepts wide choose K) (p concepts wide choose K)) (λ u _. u.1)

  pub quieting-done : (before columns : List ℕ) (changed busy : Bool) → Quieting before columns changed busy → busy ≡ false → IncludePass inclusions before columns changed
  quieting-done before columns changed busy Q e concepts wide choose K = pass-as (Q concepts wide choose K) (λ u. u e)

  -- rows enough for any left side
  known : LowPairs inclusions → LeftKnown (replicate 576 0) inclusions
  known L =
      let n : length {A = ℕ} (replicate 576 0) ≡ 576 = length-replicate {A = ℕ} 576 0 in
      record { few = omega (arith, n); left = λ m h. omega (arith, n, L.left m h) }

  pub quieting-less :
      (columns after : List ℕ) (busy again : Bool) → LowPairs inclusions → busy ≡ true → IncludePass inclusions columns after again
      → slack after + weight again < slack columns + weight busy
  quieting-less columns after busy again L e p = pass-less columns after busy again e (p (replicate 576 0) (λ r s. true) (λ k. []) (known L))
