-- What a choice picks: as many ids as it has ones, the next one at its lowest one.
use Prim.Native.Nat.{ℕ, zero, suc, ◌+◌, ◌-◌, ◌*◌, ◌/◌, ◌%◌, ◌^◌, ◌<◌, ◌≤◌}
use mathlib.Core.Path.{◌≡◌, refl, sym, ap, ◌∙◌, subst}
use mathlib.Core.List.{List, [], ◌∷◌, ◌++◌}
use mathlib.Core.Bool.{true, false}
use mathlib.Core.Logic.{◌⊎◌, inl, inr, ⊎_elim}
use native.Mathlib.Omega.{arith}
use native.Mathlib.Nat.{pow-suc}
use native.Mathlib.Numerals.{add-one}
use lib.Dec.{eqb}
use lib.ListN.{length, get_or, set, take, drop, length-drop}
use lib.Seq.{drop-cons, take-suc, length-take-le, take-length}
use lib.Bits.{bit_and, and_step, and_self, and_le_r}
use lib.Count.{ones, ones_step, ones-le, count_trailing_zeros}
use Rattle.subsumption.specs.Atoms.{bit, pick}
use Rattle.subsumption.specs.Inner.Atoms.{in_front}
use Rattle.subsumption.proofs.Bools.{eq-or-ne}
use Rattle.subsumption.proofs.Lists.{front-more}

-- the lowest bit
odd-bit : (x : ℕ) → x % 2 ≡ 1 → bit x 0 ≡ true
unfolding bit
odd-bit x h = let e : x / 2 ^ 0 % 2 ≡ 1 = omega arith in ap (λ (z : ℕ). eqb z 1) e

even-bit : (x : ℕ) → x % 2 ≡ 0 → bit x 0 ≡ false
unfolding bit
even-bit x h = let e : x / 2 ^ 0 % 2 ≡ 0 = omega arith in ap (λ (z : ℕ). eqb z 1) e

pick_odd : (a : ℕ) (ids : List ℕ) (x : ℕ) → x % 2 ≡ 1 → pick (a ∷ ids) x ≡ a ∷ pick ids (x / 2)
unfolding pick
pick_odd a ids x h = rw (odd-bit x h) refl

pick_even : (a : ℕ) (ids : List ℕ) (x : ℕ) → x % 2 ≡ 0 → pick (a ∷ ids) x ≡ pick ids (x / 2)
unfolding pick
pick_even a ids x h = rw (even-bit x h) refl

parity : (x : ℕ) → (x % 2 ≡ 1) ⊎ (x % 2 ≡ 0)
parity x = ⊎_elim inl (λ n. inr (omega arith)) (eq-or-ne (x % 2) 1)

-- the choice without its lowest one
clear-odd : (x : ℕ) → x % 2 ≡ 1 → bit_and x (x - 1) ≡ x / 2 * 2
clear-odd x h =
    let e : (x - 1) / 2 ≡ x / 2 = omega arith in
    let f : (x - 1) % 2 ≡ 0 = omega arith in
    and_step x (x - 1) ∙ rw (e, f, h, and_self) (omega arith)

clear-even : (x : ℕ) → 0 < x → x % 2 ≡ 0 → bit_and x (x - 1) ≡ bit_and (x / 2) (x / 2 - 1) * 2
clear-even x l h =
    let e : (x - 1) / 2 ≡ x / 2 - 1 = omega arith in
    let f : (x - 1) % 2 ≡ 1 = omega arith in
    and_step x (x - 1) ∙ rw (e, f, h) (omega arith)

-- as many as there are ones
pub pick-length : (ids : List ℕ) (x : ℕ) → x < 2 ^ length ids → ones x ≡ length (pick ids x)
unfolding pick
pick-length [] x h = omega (arith, ones-le 0 x h)
pick-length (a ∷ ids) x h = go (pick-length ids (x / 2) (omega (arith, pow-suc 2 (length ids)))) (parity x)
  where
    go : ones (x / 2) ≡ length (pick ids (x / 2)) → (x % 2 ≡ 1) ⊎ (x % 2 ≡ 0) → ones x ≡ length (pick (a ∷ ids) x)
    go ih (inl e) = ones_step x ∙ rw (e, pick_odd a ids x e) (omega arith)
    go ih (inr e) = ones_step x ∙ rw (e, pick_even a ids x e) (omega arith)

pub record Next (ids : List ℕ) (x position rest : ℕ) : Type 0 where
  pub known : position < length ids
  pub next : pick ids x ≡ get_or ids position 0 ∷ pick ids rest

pub pick_next : (ids : List ℕ) (d x : ℕ) → length ids ≤ d → 0 < x → x < 2 ^ length ids → Next ids x (count_trailing_zeros d x) (bit_and x (x - 1))
unfolding count_trailing_zeros
pick_next [] d x l p h = absurd (omega arith)
pick_next (a ∷ ids) zero x l p h = absurd (omega arith)
pick_next (a ∷ ids) (suc d) x l p h = go (λ q. pick_next ids d (x / 2) (omega arith) q (omega (arith, pow-suc 2 (length ids)))) (parity x)
  where
    half : (y : ℕ) → y * 2 / 2 ≡ y
    half y = omega arith

    even : (y : ℕ) → y * 2 % 2 ≡ 0
    even y = omega arith

    go : (0 < x / 2 → Next ids (x / 2) (count_trailing_zeros d (x / 2)) (bit_and (x / 2) (x / 2 - 1))) → (x % 2 ≡ 1) ⊎ (x % 2 ≡ 0) → Next (a ∷ ids) x (count_trailing_zeros (suc d) x) (bit_and x (x - 1))
    go ih (inl e) =
        rw (e, clear-odd x e)
        (record { known = omega arith; next = pick_odd a ids x e ∙ ap (λ (z : List ℕ). a ∷ z) (sym (pick_even a ids (x / 2 * 2) (even (x / 2)) ∙ ap (pick ids) (half (x / 2)))) })
    go ih (inr e) =
        let n = ih (omega arith) in
        rw (e, clear-even x p e)
        (record {
          known = omega (arith, n.known);
          next = pick_even a ids x e ∙ n.next ∙ ap (λ (z : List ℕ). get_or ids (count_trailing_zeros d (x / 2)) 0 ∷ z) (sym (pick_even a ids _ (even _) ∙ ap (pick ids) (half _)));
        })

pub pick-few : (ids : List ℕ) (x : ℕ) → x < 2 ^ length ids → length (pick ids x) ≤ length ids
pick-few ids x h = omega (arith, pick-length ids x h, ones-le (length ids) x h)

-- Some of the ids that the choice picks stand in front of the buffer, and `rest` picks the others.
pub record Writing (ids : List ℕ) (choice : ℕ) (before out : List ℕ) (rest listed : ℕ) : Type 0 where
  pub low : rest < 2 ^ length ids
  pub left : pick ids rest ≡ drop listed (pick ids choice)
  pub within : listed ≤ length (pick ids choice)
  pub buffer : out ≡ in_front (take listed (pick ids choice)) before

module _ (ids : List ℕ) (choice : ℕ) (before : List ℕ) where
  module _ (out : List ℕ) (rest listed : ℕ) (w : Writing ids choice before out rest listed) (more : listed < length (pick ids choice)) where
    pub writing-rest : 0 < rest
    writing-rest = ⊎_elim (λ (e : rest ≡ 0). absurd (none e)) (λ n. omega arith) (eq-or-ne rest 0)
      where
        none : rest ≡ 0 → ⊥
        none e = omega (arith, pick-length ids rest w.low, ap length w.left, length-drop listed (pick ids choice), ap ones e, ones-le 0 0 (omega arith))

    module _ (few : length ids ≤ 64) where
      next : Next ids rest (count_trailing_zeros 64 rest) (bit_and rest (rest - 1))
      next = pick_next ids 64 rest few writing-rest w.low

      pub writing-known : count_trailing_zeros 64 rest < length ids
      writing-known = next.known

      pub writing_more : length (pick ids choice) ≤ length before → Writing ids choice before (set out listed (get_or ids (count_trailing_zeros 64 rest) 0)) (bit_and rest (rest - 1)) (listed + 1)
      writing_more room =
          let e = next.next in
          let f = drop-cons (pick ids choice) listed 0 more in
          let g : get_or (pick ids choice) listed 0 ≡ get_or ids (count_trailing_zeros 64 rest) 0 = cc (e, f, w.left) in
          let l = length-take-le listed (pick ids choice) w.within in
          record {
            low = omega (arith, w.low, and_le_r rest (rest - 1));
            left = rw add-one (cc (e, f, w.left));
            within = omega arith;
            buffer = rw (w.buffer, add-one, take-suc (pick ids choice) listed 0 more, g)
                (subst (λ (z : ℕ). set (in_front (take listed (pick ids choice)) before) z (get_or ids (count_trailing_zeros 64 rest) 0) ≡ in_front (take listed (pick ids choice) ++ (get_or ids (count_trailing_zeros 64 rest) 0 ∷ [])) before) l
                (front-more (take listed (pick ids choice)) before (get_or ids (count_trailing_zeros 64 rest) 0) (omega arith)));
          }

  pub writing-done : (out : List ℕ) (rest listed : ℕ) → Writing ids choice before out rest listed → length (pick ids choice) ≤ listed → out ≡ in_front (pick ids choice) before
  writing-done out rest listed w l =
      let e : listed ≡ length (pick ids choice) = omega (arith, w.within) in
      w.buffer ∙ rw (e, take-length) refl
