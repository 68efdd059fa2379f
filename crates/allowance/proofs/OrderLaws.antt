-- The order of the partial choices: stretches of it, and what comes behind a partial choice and all that extends it.
use Rattle.subsumption.specs.Refusal.{Done}
use Prim.Native.Nat.{ℕ, zero, suc, ◌+◌, ◌<◌, ◌≤◌}
use mathlib.Core.Path.{◌≡◌, refl, sym, ap, ap₂, ◌∙◌, subst}
use mathlib.Core.List.Memᴰ
use mathlib.Core.List.{List, [], ◌∷◌, ◌++◌, append_assoc, append-nil, Memᴰ}
use mathlib.Core.Bool.{Bool, true, false, false≢true, true≢false}
use mathlib.Core.Logic.{◌⊎◌, inl, inr, ⊎_elim}
use native.Mathlib.Omega.{arith}
use lib.ListN.{length, length-append}
use Rattle.subsumption.specs.Tables.{Tables}
use Rattle.subsumption.specs.Check.{table_fault}
use Rattle.settings.specs.Settings.{Settings}
use Rattle.allowance.specs.Partial.{settled, pairs, Open, partials}
use Rattle.allowance.specs.Count.{Stretch, none, opened, shut}
use Rattle.allowance.specs.Inner.Place.{has_next, next_of}
use Rattle.allowance.proofs.PartialLaws.{settled-last, settled-other, up_to, up_to-length, up_to-settled, open-back}

-- ---- stretches
module _ (t : Tables) (settings : Settings) where
  pub stretch-join : (a b : List (List Bool)) (m n : ℕ) → Stretch t settings a m → Stretch t settings b n → Stretch t settings (a ++ b) (m + n)
  stretch-join a b m n none y = subst (Stretch t settings b) (omega arith) y
  stretch-join a b m n (opened s rest k l o x) y = subst (Stretch t settings (s ∷ (rest ++ b))) (omega arith) (opened s _ _ l o (stretch-join rest b k n x y))
  stretch-join a b m n (shut s rest k o x) y = shut s _ _ o (stretch-join rest b k n x y)

  pub stretch-open : (s : List Bool) → length s < pairs t → Open t settings s → Stretch t settings (s ∷ []) 1
  stretch-open s l o = opened s _ _ l o none

  -- what extends one that is not open is not open either
  pub shut-all : table_fault t ≡ Done → (r : ℕ) (s : List Bool) → (Open t settings s → ⊥) → Stretch t settings (partials r s) 0
  unfolding partials
  shut-all h zero s n = shut s _ _ n none
  shut-all h (suc r) s n =
      shut s _ _ n
      (stretch-join _ _ _ _ (shut-all h r (false ∷ s) (λ o. n (open-back t settings false s o h)))
      (shut-all h r (true ∷ s) (λ o. n (open-back t settings true s o h))))

-- ---- what comes behind a partial choice, so many pairs unsettled, and all that extends it
unfoldable pub pending : ℕ → List Bool → List (List Bool)
pending r [] = []
pending r (false ∷ s) = partials r (true ∷ s) ++ pending (suc r) s
pending r (true ∷ s) = pending (suc r) s

pub pending-none : (r : ℕ) (s : List Bool) → has_next s ≡ false → pending r s ≡ []
unfolding pending has_next
pending-none r [] e = refl
pending-none r (false ∷ s) e = absurd (true≢false e)
pending-none r (true ∷ s) e = pending-none (suc r) s e

pub pending_next :
    (r : ℕ) (s : List Bool) → has_next s ≡ true
    → (r₁ : ℕ) × (length (next_of s) + r₁ ≡ length s + r) × (pending r s ≡ partials r₁ (next_of s) ++ pending r₁ (next_of s))
unfolding pending has_next next_of
pending_next r [] e = absurd (false≢true e)
pending_next r (false ∷ s) e = (r, refl, refl)
pending_next r (true ∷ s) e = let (r₁, l, f) = pending_next (suc r) s e in (r₁, omega arith, f)

-- how many are ahead, from s on: fewer with every step
unfoldable pub ahead : ℕ → List Bool → ℕ
ahead r s = length (partials r s) + length (pending r s)

pub ahead-extend : (r : ℕ) (s : List Bool) → ahead r (false ∷ s) < ahead (suc r) s
unfolding ahead partials pending
ahead-extend r s =
    omega (arith, length-append (partials r (true ∷ s)) (pending (suc r) s), length-append (partials r (false ∷ s)) (partials r (true ∷ s)))

some : (r : ℕ) (s : List Bool) → 0 < length (partials r s)
unfolding partials
some zero s = omega arith
some (suc r) s = omega arith

pub ahead-next : (r r₁ : ℕ) (s : List Bool) → has_next s ≡ true → length (next_of s) + r₁ ≡ length s + r → ahead r₁ (next_of s) < ahead r s
unfolding ahead
ahead-next r r₁ s e m =
    let (r₂, l, f) = pending_next r s e in
    let same : r₂ ≡ r₁ = omega arith in
    subst (λ (z : ℕ). ahead z (next_of s) < ahead r s) same
    (omega (arith, some r s, ap length f, length-append (partials r₂ (next_of s)) (pending r₂ (next_of s))))

-- ---- how far the order of n pairs is gone through: what is before s, then s with r pairs unsettled and all that extends it, then what is pending
pub record Reached (n : ℕ) (before : List (List Bool)) (r : ℕ) (s : List Bool) : Type 0 where
  pub many : length s + r ≡ n
  pub order : partials n [] ≡ before ++ (partials r s ++ pending r s)

module _ (n : ℕ) where
  pub reached-start : Reached n [] n []
  unfolding pending
  reached-start = record { many = omega arith; order = sym (append-nil (partials n [])) }

  module _ (before : List (List Bool)) (r : ℕ) (s : List Bool) where
    pub reached-extend : Reached n before (suc r) s → Reached n (before ++ (s ∷ [])) r (false ∷ s)
    unfolding partials pending
    reached-extend p =
        record {
          many = omega (arith, p.many);
          order =
              p.order ∙ ap (λ (z : List (List Bool)). before ++ (s ∷ z)) (append_assoc (partials r (false ∷ s)) (partials r (true ∷ s)) (pending (suc r) s))
              ∙ sym (append_assoc before (s ∷ []) _);
        }

    pub reached-next : Reached n before r s → has_next s ≡ true → (r₁ : ℕ) × Reached n (before ++ partials r s) r₁ (next_of s)
    reached-next p e =
        let (r₁, l, f) = pending_next r s e in (
          r₁,
          record {
            many = omega (arith, p.many);
            order = p.order ∙ sym (append_assoc before (partials r s) (pending r s)) ∙ ap (λ (z : List (List Bool)). (before ++ partials r s) ++ z) f;
          },
        )

    pub reached-last : Reached n before r s → has_next s ≡ false → partials n [] ≡ before ++ partials r s
    reached-last p e =
        p.order ∙ ap (λ (z : List (List Bool)). before ++ (partials r s ++ z)) (pending-none r s e)
        ∙ ap (λ (z : List (List Bool)). before ++ z) (append-nil (partials r s))

  -- s comes next
  pub reached-here : (before : List (List Bool)) (r : ℕ) (s : List Bool) → Reached n before r s → (after : List (List Bool)) × (partials n [] ≡ before ++ (s ∷ after))
  unfolding partials
  reached-here before zero s p = (_, p.order)
  reached-here before (suc r) s p = (_, p.order)

-- ---- where the whole ones stand
-- f settles the first pairs as s does
abbrev Agrees : (ℕ → Bool) → List Bool → Type 0
Agrees f s = s ≡ up_to f (length s)

agrees-more : (f : ℕ → Bool) (b : Bool) (s : List Bool) → f (length s) ≡ b → Agrees f s → Agrees f (b ∷ s)
unfolding up_to
agrees-more f b s e h = ap₂ ◌∷◌ (sym e) h

agrees-all : (f : ℕ → Bool) (s : List Bool) (n : ℕ) → Agrees f s → length s + 0 ≡ n → s ≡ up_to f n
agrees-all f s n h e = let m : length s ≡ n = omega arith in h ∙ ap (up_to f) m

-- each stands behind every one that it extends
pub whole-listed : (f : ℕ → Bool) (n r : ℕ) (s : List Bool) → length s + r ≡ n → Agrees f s → Memᴰ (up_to f n) (partials r s)
unfolding partials
whole-listed f n zero s m h = Memᴰ.head (sym (agrees-all f s n h m))
whole-listed f n (suc r) s m h = Memᴰ.tail (go (f (length s)) refl (λ b e. whole-listed f n r (b ∷ s) (omega arith) (agrees-more f b s e h)))
  where
    go :
        (b : Bool) → f (length s) ≡ b → ((b : Bool) → f (length s) ≡ b → Memᴰ (up_to f n) (partials r (b ∷ s)))
        → Memᴰ (up_to f n) (partials r (false ∷ s) ++ partials r (true ∷ s))
    go false e in-half = Memᴰ.append_left (partials r (true ∷ s)) (in-half false e)
    go true e in-half = Memᴰ.append_right (partials r (false ∷ s)) (in-half true e)

-- and only behind those
partials-extend : (r : ℕ) (s x : List Bool) (rest : Bool) (p : ℕ) → Memᴰ x (partials r s) → p < length s → settled x rest p ≡ settled s rest p
unfolding partials
partials-extend zero s x rest p h l = ap (λ (z : List Bool). settled z rest p) (Memᴰ.eq_of_singleton h)
partials-extend (suc r) s x rest p h l =
    ⊎_elim (λ e. ap (λ (z : List Bool). settled z rest p) e)
    (λ m.
    ⊎_elim (λ a. partials-extend r (false ∷ s) x rest p a (omega arith) ∙ settled-other false s rest p (λ e. omega arith))
    (λ a. partials-extend r (true ∷ s) x rest p a (omega arith) ∙ settled-other true s rest p (λ e. omega arith))
    (Memᴰ.append_cases (partials r (false ∷ s)) m))
    (Memᴰ.cases_cons h)

-- none settles more than all pairs
pub partials-short : (r : ℕ) (s x : List Bool) → Memᴰ x (partials r s) → length x ≤ length s + r
unfolding partials
partials-short zero s x h = omega (arith, ap length (Memᴰ.eq_of_singleton h))
partials-short (suc r) s x h =
    ⊎_elim (λ e. omega (arith, ap length e))
    (λ m.
    ⊎_elim (λ a. omega (arith, partials-short r (false ∷ s) x a)) (λ a. omega (arith, partials-short r (true ∷ s) x a))
    (Memᴰ.append_cases (partials r (false ∷ s)) m))
    (Memᴰ.cases_cons h)

-- what stands in two lists put together stands in the first or behind it
split :
    (a b before : List (List Bool)) (here : List Bool) (after : List (List Bool)) → a ++ b ≡ before ++ (here ∷ after)
    → ((c : List (List Bool)) × (a ≡ before ++ (here ∷ c))) ⊎ ((c : List (List Bool)) × (before ≡ a ++ c) × (b ≡ c ++ (here ∷ after)))
split [] b before here after e = inr (before, refl, e)
split (x ∷ a) b [] here after e = let f : x ≡ here = cc e in inl (a, ap (λ (z : List Bool). z ∷ a) f)
split (x ∷ a) b (y ∷ before) here after e =
    let f : x ≡ y = cc e in
    let g : a ++ b ≡ before ++ (here ∷ after) = cc e in
    ⊎_elim (λ l. inl (l.0, ap₂ ◌∷◌ f l.1)) (λ l. inr (l.0, ap₂ ◌∷◌ (sym f) l.1, l.2)) (split a b before here after g)

-- At the first pair where the two differ, f leaves it out and g takes it.
pub record Later (f g : ℕ → Bool) : Type 0 where
  pub at : ℕ
  pub left_out : f at ≡ false
  pub taken : g at ≡ true
  pub same : (p : ℕ) → p < at → f p ≡ g p

bool_cases : {A : Type 0} (b : Bool) → (b ≡ true → A) → (b ≡ false → A) → A
bool_cases true h k = h refl
bool_cases false h k = k refl

-- whatever is whole stands before a whole one, is the same or comes later in the order of assignments
module _ (f g : ℕ → Bool) (n : ℕ) where
  same-below : (s : List Bool) → Agrees f s → Agrees g s → (p : ℕ) → p < length s → f p ≡ g p
  same-below s h i p l =
      sym (up_to-settled f (length s) false p l) ∙ ap (λ (z : List Bool). settled z false p) (sym h ∙ i) ∙ up_to-settled g (length s) false p l

  half_of : (r : ℕ) (b : Bool) (s : List Bool) → length s < n → Memᴰ (up_to f n) (partials r (b ∷ s)) → f (length s) ≡ b
  half_of r b s l h =
      sym (up_to-settled f n false (length s) l) ∙ partials-extend r (b ∷ s) _ false (length s) h (omega arith) ∙ settled-last b s false _ refl

  abbrev Placed : List (List Bool) → Type 0
  Placed before = Memᴰ (up_to g n) before ⊎ ((up_to g n ≡ up_to f n) ⊎ Later f g)

  behind : (a b : List (List Bool)) → ((x : List Bool) → Memᴰ x a → Memᴰ x b) → Placed a → Placed b
  behind a b h p = ⊎_elim (λ m. inl (h _ m)) (λ l. inr l) p

  pub placed :
      (r : ℕ) (s : List Bool) (before after : List (List Bool)) → length s + r ≡ n → Agrees f s → Agrees g s
      → partials r s ≡ before ++ (up_to f n ∷ after) → Placed before
  unfolding partials
  placed zero s before after m h i e = inr (inl (sym (agrees-all g s n i m) ∙ agrees-all f s n h m))
  placed (suc r) s [] after m h i e = let x : s ≡ up_to f n = cc e in absurd (omega (arith, ap length x, up_to-length f n))
  placed (suc r) s (y ∷ before) after m h i e =
      let x : partials r (false ∷ s) ++ partials r (true ∷ s) ≡ before ++ (up_to f n ∷ after) = cc e in
      let less : length s < n = omega arith in
      behind before (y ∷ before) (λ z w. Memᴰ.tail w)
      (⊎_elim
      (λ l.
      let k : f (length s) ≡ false = half_of r false s less (rw l.1 (Memᴰ.append_right before (Memᴰ.head refl))) in
      bool_cases (g (length s)) (λ j. inr (inr (record { at = length s; left_out = k; taken = j; same = same-below s h i })))
      (λ j. placed r (false ∷ s) before l.0 (omega arith) (agrees-more f false s k h) (agrees-more g false s j i) l.1))
      (λ l.
      let k : f (length s) ≡ true = half_of r true s less (rw l.2 (Memᴰ.append_right l.0 (Memᴰ.head refl))) in
      bool_cases (g (length s))
      (λ j.
      behind l.0 before (λ z w. rw l.1 (Memᴰ.append_right (partials r (false ∷ s)) w))
      (placed r (true ∷ s) l.0 after (omega arith) (agrees-more f true s k h) (agrees-more g true s j i) l.2))
      (λ j.
      inl (rw l.1 (Memᴰ.append_left l.0 (whole-listed g n r (false ∷ s) (omega arith) (agrees-more g false s j i))))))
      (split (partials r (false ∷ s)) (partials r (true ∷ s)) before (up_to f n) after x))
