-- Needs: nogoods that want one of some pairs of one variable, counted.
use Rattle.subsumption.specs.Refusal.{Done}
use Prim.Native.Nat.{ℕ, ◌+◌, ◌*◌, ◌^◌, ◌<◌, ◌≤◌}
use mathlib.Core.Path.{◌≡◌, refl, sym, ap, ◌∙◌, subst}
use mathlib.Core.List.{List}
use mathlib.Core.Bool.{Bool, true, false, not, ◌&&◌, false≢true, true≢false}
use mathlib.Core.Logic.{◌⊎◌, inl, inr, ⊎_elim}
use native.Mathlib.Omega.{arith}
use lib.Bits.{bit_and, bit_or, bit_xor}
use lib.ListN.{length, get_or, set, take, replicate, length-set, get_or-replicate, get_or-eq_default}
use lib.Seq.{get_or-set_same, get_or-set_other}
use Rattle.subsumption.specs.Tables.{Tables, both, any_below}
use Rattle.subsumption.specs.Atoms.{bit}
use Rattle.subsumption.specs.Table.{counted}
use Rattle.subsumption.specs.Check.{assignment_fault}
use Rattle.subsumption.proofs.Bools.{eq-or-ne, le-or-lt, or_cases, or-first, or-second, both_true, both-intro, both-second, any_below-intro, any_below-elim}
use Rattle.subsumption.proofs.Bits.{bit-and, bit_or_left, bit_or_right, bit-of-zero}
use Rattle.subsumption.proofs.MarkLaws.{counted-le, counted-less}
use Rattle.square.proofs.BitLaws.{lacking}
use Rattle.settings.specs.Settings.{size}
use Rattle.settings.proofs.SizeLaws.{size-most}
use Rattle.matching.specs.Solving.{takes}
use Rattle.matching.specs.Inner.Search.{Decided, Within, Between, Meets}
use Rattle.matching.specs.Inner.Search.Problem.{most_at}
use Rattle.matching.specs.Inner.Search.Pairs.{Joined, Met}
use Rattle.matching.specs.Inner.Search.Interval.{IntervalOf}
use Rattle.matching.specs.Inner.Search.Nogoods.{used, low_at, high_at, Nogoods}
use Rattle.matching.specs.Inner.Search.Needs.{Need, NeedAt, Kept, Overdrawn}
use Rattle.matching.proofs.SearchLaws.Fronts.{bit_below, front-known, front-takes}
use Rattle.matching.proofs.SearchLaws.Nogoods.{words-at}

-- ---- one need
module _ (store : List ℕ) (c : ℕ) (high low : List ℕ) (k met : ℕ) where
  -- the high side without what the nogood keeps
  abbrev pub outside : ℕ
  outside = bit_xor (bit_or (get_or store (c * 16 + 9 + k) 0) (get_or high k 0)) (get_or store (c * 16 + 9 + k) 0)

  module _ (h : k < 8) (clear : bit_and outside met ≡ 0) where
    found : Within (low_at store c) low → Within (set high k 0) (high_at store c) → Need store c high low k met outside
    found above others = record { above = above; wants = wants; fresh = fresh }
      where
        wants : (l q : ℕ) → takes high l q ≡ true → (takes (high_at store c) l q ≡ true) ⊎ ((l ≡ k) × (bit outside q ≡ true))
        wants l q e =
            ⊎_elim (λ (x : l ≡ k). here x (bit (get_or store (c * 16 + 9 + k) 0) q) refl)
            (λ x. inl (others l q (ap (λ (z : ℕ). bit z q) (get_or-set_other high k l 0 0 x) ∙ e))) (eq-or-ne l k)
          where
            here : l ≡ k → (b : Bool) → bit (get_or store (c * 16 + 9 + k) 0) q ≡ b → (takes (high_at store c) l q ≡ true) ⊎ ((l ≡ k) × (bit outside q ≡ true))
            here x true f = inl (subst (λ (z : ℕ). takes (high_at store c) z q ≡ true) (sym x) (ap (λ (z : ℕ). bit z q) (words-at store (c * 16 + 9) k h) ∙ f))
            here x false f = inr (x, lacking _ _ q ∙ both-intro _ _ (subst (λ (z : ℕ). takes high z q ≡ true) x e) (ap not f))

        fresh : (q : ℕ) → bit outside q ≡ true → bit met q ≡ false
        fresh q e = go (bit met q) refl
          where
            go : (b : Bool) → bit met q ≡ b → bit met q ≡ false
            go true f = absurd (bit-of-zero q (sym (ap (λ (z : ℕ). bit z q) clear) ∙ bit-and outside met q ∙ both-intro _ _ e f))
            go false f = f

    pub need-found :
        (below above : List ℕ) (a b : Bool) → below ≡ low_at store c → above ≡ high_at store c → Decided (Within below low) a → Decided (Within (set high k 0) above) b
        → (a && b) ≡ true → NeedAt store c high low k met outside
    need-found below above true true e f x y z =
        inr (found (subst (λ (w : List ℕ). Within w low) e x) (subst (Within (set high k 0)) f y))
    need-found below above true false e f x y z = absurd (false≢true z)
    need-found below above false b e f x y z = absurd (false≢true z)

-- ---- needs counted
zero-at : (l : ℕ) → ◌≡◌ {A = ℕ} (get_or (replicate 8 0) l 0) 0
zero-at l = ⊎_elim (λ (h : 8 ≤ l). get_or-eq_default (replicate 8 0) 0 {n = l} h) (λ h. get_or-replicate 8 l 0 0 h) (le-or-lt 8 l)

-- after c nogoods: a solution takes at least so many of the pairs met
pub record Wanting (problem store full low high : List ℕ) (k : ℕ) (about allowed : List ℕ) (met sum c : ℕ) : Type 0 where
  pub low-long : length about ≡ 8
  pub high-long : length allowed ≡ 8
  pub within : Within about low
  pub around : Within high full → Within high allowed
  pub few : sum ≤ 64 + c
  pub least :
      (t : Tables) → IntervalOf t low high → Nogoods t problem store → (other : List ℕ) → assignment_fault t other ≡ Done
      → Between (take t.variables about) (take t.variables allowed) other → Meets t problem other
      → sum ≤ counted (λ q. both (takes other k q) (bit met q)) 64

module _ (problem store full low high : List ℕ) (k : ℕ) where
  pub wanting-none :
      (sum : ℕ) → k < 8 → length full ≡ 8 → sum ≡ size (get_or low k 0)
      → Wanting problem store full low high k (set (replicate 8 0) k (get_or low k 0)) full (get_or low k 0) sum 0
  unfolding size
  wanting-none sum h long e =
      record {
        low-long = length-set (replicate 8 0) k _;
        high-long = long;
        within = within;
        around = λ w. w;
        few = omega (arith, e, size-most (get_or low k 0));
        least =
            λ t i n other a b m.
            omega (
              arith,
              e,
              counted-le (bit (get_or low k 0)) (λ q. both (takes other k q) (bit (get_or low k 0) q)) 64
                  (λ q l x.
                  both-intro _ _
                  (⊎_elim (λ (y : t.variables ≤ k). absurd (i.idle k q y (i.ordered k q x)))
                  (λ y. b.above k q (front-takes t.variables (set (replicate 8 0) k (get_or low k 0)) k q y (ap (λ (z : ℕ). bit z q) here ∙ x))) (le-or-lt t.variables k))
                  x),
            );
      }
    where
      here : get_or (set (replicate 8 0) k (get_or low k 0)) k 0 ≡ get_or low k 0
      here = get_or-set_same (replicate 8 0) k (get_or low k 0) 0 h

      within : Within (set (replicate 8 0) k (get_or low k 0)) low
      within l q x =
          ⊎_elim
          (λ (y : l ≡ k).
          subst (λ (z : ℕ). takes low z q ≡ true) (sym y)
          (sym (ap (λ (z : ℕ). bit z q) here) ∙ subst (λ (z : ℕ). takes (set (replicate 8 0) k (get_or low k 0)) z q ≡ true) y x))
          (λ y. absurd (bit-of-zero q (sym (ap (λ (z : ℕ). bit z q) (get_or-set_other (replicate 8 0) k l _ 0 y ∙ zero-at l)) ∙ x)))
          (eq-or-ne l k)

  module _ (about allowed : List ℕ) (met sum c : ℕ) (w : Wanting problem store full low high k about allowed met sum c) where
    pub wanting-over : most_at problem k < sum → Overdrawn problem store full low high about allowed
    unfolding size
    wanting-over h t i j n =
        record {
          low-long = w.low-long;
          high-long = w.high-long;
          above = w.within;
          below = w.around j.ordered;
          none =
              λ other a b m.
              omega (arith, w.least t i n other a b m, m.few k, counted-le (λ q. both (takes other k q) (bit met q)) (bit (get_or other k 0)) 64 (λ q l e. (both_true _ _ e).0));
        }

    module _ (wanted : ℕ) (below above more fewer : List ℕ) (l : c < used store) (small : wanted < 2 ^ 64) (some : wanted ≡ 0 → ⊥)
        (need : NeedAt store c high low k met wanted) (e : below ≡ low_at store c) (f : above ≡ high_at store c) (j : Joined about below more) (u : Kept allowed above high fewer) where
      n : Need store c high low k met wanted
      n = ⊎_elim (λ x. absurd (some x)) (λ x. x) need

      -- a solution takes one of the pairs wanted
      taken :
          (t : Tables) → Nogoods t problem store → (other : List ℕ) → assignment_fault t other ≡ Done → Between (take t.variables more) (take t.variables fewer) other
          → Meets t problem other → any_below 64 (λ q. both (takes other k q) (bit wanted q)) ≡ true
      taken t g other a b m = go (any_below 64 (λ q. both (takes other k q) (bit wanted q))) refl
        where
          go : (v : Bool) → any_below 64 (λ q. both (takes other k q) (bit wanted q)) ≡ v → any_below 64 (λ q. both (takes other k q) (bit wanted q)) ≡ true
          go true x = x
          go false x = absurd (g.each c l other a (record { above = over; below = under }) m)
            where
              over : Within (take t.variables (low_at store c)) other
              over i q y =
                  let (h, z) = front-known t.variables (low_at store c) i q y in
                  b.above i q (front-takes t.variables more i q h (j.bits i q ∙ or-second _ _ (subst (λ (s : List ℕ). takes s i q ≡ true) (sym e) z)))

              -- it is not wanted, so the nogood keeps it
              kept : (i q : ℕ) → takes other i q ≡ true → takes high i q ≡ true → takes (high_at store c) i q ≡ true
              kept i q y z =
                  ⊎_elim (λ v. v)
                  (λ (v : (i ≡ k) × (bit wanted q ≡ true)).
                  absurd
                  (true≢false
                  (sym (any_below-intro 64 (λ p. both (takes other k p) (bit wanted p)) q (bit_below wanted 64 q small v.1) (both-intro _ _ (subst (λ (s : ℕ). takes other s q ≡ true) v.0 y) v.1))
                  ∙ x)))
                  (n.wants i q z)

              under : Within other (take t.variables (high_at store c))
              under i q y =
                  let (h, z) = front-known t.variables fewer i q (b.below i q y) in
                  front-takes t.variables (high_at store c) i q h
                  (⊎_elim (λ v. subst (λ (s : List ℕ). takes s i q ≡ true) f v) (kept i q y) (or_cases _ _ (both_true _ _ (sym (u.bits i q) ∙ z)).1))

      pub wanting-more : Wanting problem store full low high k more fewer (bit_or met wanted) (sum + 1) (c + 1)
      wanting-more =
          record {
            low-long = j.long;
            high-long = u.long;
            within =
                λ i q x.
                ⊎_elim (λ y. w.within i q y) (λ y. n.above i q (subst (λ (s : List ℕ). takes s i q ≡ true) e y)) (or_cases _ _ (sym (j.bits i q) ∙ x));
            around = λ v i q x. u.bits i q ∙ both-intro _ _ (w.around v i q x) (or-second _ _ x);
            few = omega (arith, w.few);
            least = least;
          }
        where
          least :
              (t : Tables) → IntervalOf t low high → Nogoods t problem store → (other : List ℕ) → assignment_fault t other ≡ Done
              → Between (take t.variables more) (take t.variables fewer) other → Meets t problem other
              → sum + 1 ≤ counted (λ q. both (takes other k q) (bit (bit_or met wanted) q)) 64
          least t i g other a b m =
              let (q, h, x) = any_below-elim 64 (λ p. both (takes other k p) (bit wanted p)) (taken t g other a b m) in
              let (y, z) = both_true _ _ x in
              omega (
                arith,
                w.least t i g other a (record { above = before; below = behind }) m,
                counted-less (λ p. both (takes other k p) (bit met p)) (λ p. both (takes other k p) (bit (bit_or met wanted) p)) 64 q h
                    (both-second _ _ (n.fresh q z)) (both-intro _ _ y (bit_or_right met wanted q z))
                    (λ p r v. both-intro _ _ (both_true _ _ v).0 (bit_or_left met wanted p (both_true _ _ v).1)),
              )
            where
              before : Within (take t.variables about) other
              before l q x =
                  let (h, y) = front-known t.variables about l q x in
                  b.above l q (front-takes t.variables more l q h (j.bits l q ∙ or-first _ _ y))

              behind : Within other (take t.variables allowed)
              behind l q x =
                  let (h, y) = front-known t.variables fewer l q (b.below l q x) in
                  front-takes t.variables allowed l q h (both_true _ _ (sym (u.bits l q) ∙ y)).0

-- both sides of what is allowed
pub kept-met : (allowed above high upper fewer : List ℕ) → Joined above high upper → Met allowed upper fewer → Kept allowed above high fewer
kept-met allowed above high upper fewer j m =
    record { long = m.long; bits = λ k q. m.bits k q ∙ ap (both (takes allowed k q)) (j.bits k q) }
