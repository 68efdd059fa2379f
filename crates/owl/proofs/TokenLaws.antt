-- Where tokens begin and end.
use Prim.Native.Nat.{ℕ, zero, suc, ◌+◌, ◌-◌, ◌<◌, ◌≤◌}
use mathlib.Core.Path.{◌≡◌, refl, sym, ◌∙◌, subst}
use mathlib.Core.List.{List, [], ◌∷◌}
use mathlib.Core.Bool.{Bool, true, false, not}
use mathlib.Core.Logic.{⊎_elim}
use native.Mathlib.Omega.{arith}
use native.Mathlib.Numerals.{add-one}
use lib.Dec.{eqb}
use lib.ListN.{length, get_or, take, drop, drop_of_length-le}
use lib.Seq.{drop-cons}
use borrow.Author.Tests.{eq-eqb, ne_eqb, not-true, not-false}
use Rattle.subsumption.specs.Tables.{or}
use Rattle.subsumption.proofs.Bools.{last-cases}
use Rattle.owl.specs.Tokens.{Token, opening, closing, word, Placed, is_space, is_bracket, bracket_of, joined_onto, joined, tokens_from}
use Rattle.owl.specs.Inner.Tokens.{Skips, Ends, token_of}

-- ---- the tests of a byte
module _ (b : ℕ) where
  pub space-32 : b ≡ 32 → true ≡ is_space b
  unfolding is_space or
  space-32 e = rw (eq-eqb b 32 e)

  pub space-10 : (b ≡ 32 → ⊥) → b ≡ 10 → true ≡ is_space b
  unfolding is_space or
  space-10 n e = rw (ne_eqb b 32 n, eq-eqb b 10 e)

  pub space-13 : (b ≡ 32 → ⊥) → (b ≡ 10 → ⊥) → eqb b 13 ≡ is_space b
  unfolding is_space or
  space-13 n m = rw (ne_eqb b 32 n, ne_eqb b 10 m)

  pub bracket-40 : b ≡ 40 → true ≡ is_bracket b
  unfolding is_bracket or
  bracket-40 e = rw (eq-eqb b 40 e)

  pub bracket-41 : (b ≡ 40 → ⊥) → eqb b 41 ≡ is_bracket b
  unfolding is_bracket or
  bracket-41 n = rw (ne_eqb b 40 n)

-- ---- what a byte of a word is not joined to
alone : ℕ → ℕ → Placed
alone place b = record { place = place; token = word (b ∷ []) }

-- it stays alone in front of these tokens
abbrev Apart : ℕ → ℕ → List Placed → Type 0
Apart place b ts = joined place b ts ≡ alone place b ∷ ts

apart-bracket : (place b q x : ℕ) (ts : List Placed) → Apart place b (record { place = q; token = bracket_of x } ∷ ts)
unfolding joined joined_onto bracket_of alone
apart-bracket place b q x ts = go (eqb x 40) refl
  where
    go : (v : Bool) → eqb x 40 ≡ v → Apart place b (record { place = q; token = bracket_of x } ∷ ts)
    go true e = rw (e, bracket_of) refl
    go false e = rw (e, bracket_of) refl

apart-word : (place b q : ℕ) (bytes : List ℕ) (ts : List Placed) → suc place < q → Apart place b (record { place = q; token = word bytes } ∷ ts)
unfolding joined joined_onto alone
apart-word place b q bytes ts h = rw (ne_eqb q (suc place) (λ e. omega arith), joined_onto) refl

-- a byte of a word begins a word
abbrev Begins : ℕ → List Placed → Type 0
Begins q ts = (bytes : List ℕ) × (more : List Placed) × (ts ≡ record { place = q; token = word bytes } ∷ more)

joined_to : (q x : ℕ) (t : Placed) (ts : List Placed) (k : Token) → Begins q (joined_onto q x t ts k)
unfolding joined_onto
joined_to q x t ts opening = (x ∷ [], t ∷ ts, refl)
joined_to q x t ts closing = (x ∷ [], t ∷ ts, refl)
joined_to q x t ts (word bytes) = pick (eqb t.place (suc q)) refl
  where
    pick : (v : Bool) → eqb t.place (suc q) ≡ v → Begins q (joined_onto q x t ts (word bytes))
    pick true e = (x ∷ bytes, ts, rw (e, joined_onto) refl)
    pick false e = (x ∷ [], t ∷ ts, rw (e, joined_onto) refl)

joined_word : (q x : ℕ) (ts : List Placed) → Begins q (joined q x ts)
unfolding joined
joined_word q x [] = (x ∷ [], [], refl)
joined_word q x (t ∷ ts) = joined_to q x t ts t.token

apart-nil : (place b : ℕ) → Apart place b []
unfolding joined alone
apart-nil place b = refl

-- nor to tokens that begin later
apart-later : (place b q : ℕ) (rest : List ℕ) → suc place < q → Apart place b (tokens_from q rest)
unfolding tokens_from
apart-later place b q [] h = apart-nil place b
apart-later place b q (x ∷ rest) h = go (is_space x) refl (is_bracket x) refl (apart-later place b (suc q) rest (omega arith))
  where
    go :
        (v : Bool) → is_space x ≡ v → (w : Bool) → is_bracket x ≡ w → Apart place b (tokens_from (suc q) rest)
        → Apart place b (tokens_from q (x ∷ rest))
    go true e w f ih = rw (e, tokens_from) ih
    go false e true f ih = rw (e, f, tokens_from) (apart-bracket place b q x (tokens_from (suc q) rest))
    go false e false f ih =
        let r = joined_word q x (tokens_from (suc q) rest) in
        rw (e, f, tokens_from) (subst (λ (z : List Placed). Apart place b z) (sym r.2) (apart-word place b q r.0 r.1 h))

apart-end : (place b q : ℕ) → Apart place b (tokens_from q [])
unfolding tokens_from
apart-end place b q = apart-nil place b

alone-is : (at b : ℕ) (ts : List Placed) → alone at b ∷ ts ≡ record { place = at; token = word (b ∷ []) } ∷ ts
unfolding alone
alone-is at b ts = refl

-- a word that begins at the next place goes on with the byte
joined-next :
    (at b : ℕ) (bytes : List ℕ) (ts : List Placed)
    → joined at b (record { place = suc at; token = word bytes } ∷ ts) ≡ record { place = at; token = word (b ∷ bytes) } ∷ ts
unfolding joined joined_onto
joined-next at b bytes ts = rw (eq-eqb (suc at) (suc at) refl, joined_onto) refl

module _ (text : List ℕ) where
  -- ---- spaces
  space-step : (p : ℕ) → p < length text → is_space (get_or text p 0) ≡ true → tokens_from p (drop p text) ≡ tokens_from (suc p) (drop (suc p) text)
  unfolding tokens_from
  space-step p h e = rw (drop-cons text p 0 h, e, tokens_from) refl

  pub record Skipping (at p : ℕ) : Type 0 where
    pub low : at ≤ p
    pub high : p ≤ length text
    pub same : tokens_from at (drop at text) ≡ tokens_from p (drop p text)

  pub skipping-none : (at : ℕ) → at ≤ length text → Skipping at at
  skipping-none at h = record { low = omega arith; high = h; same = refl }

  pub skipping-more : (at p : ℕ) (r : Bool) → Skipping at p → p < length text → r ≡ is_space (get_or text p 0) → not r ≡ false → Skipping at (p + 1)
  skipping-more at p r s h e t =
      record { low = omega (arith, s.low); high = omega arith; same = s.same ∙ rw add-one (space-step p h (sym e ∙ not-false r t)) }

  pub skipping-met : (at p : ℕ) (r : Bool) → Skipping at p → p < length text → r ≡ is_space (get_or text p 0) → not r ≡ true → Skips text at p
  skipping-met at p r s h e f = record { low = s.low; high = s.high; same = s.same; here = λ k. sym e ∙ not-true r f }

  pub skipping-end : (at p : ℕ) → Skipping at p → length text ≤ p → Skips text at p
  skipping-end at p s h = record { low = s.low; high = s.high; same = s.same; here = λ k. absurd (omega arith) }

  -- ---- words
  abbrev Plain : ℕ → Type 0
  Plain i = (is_space (get_or text i 0) ≡ false) × (is_bracket (get_or text i 0) ≡ false)

  pub record Wordy (at p : ℕ) : Type 0 where
    pub low : at < p
    pub high : p ≤ length text
    pub plain : (i : ℕ) → at ≤ i → i < p → Plain i

  pub wordy-one : (at : ℕ) → at < length text → is_space (get_or text at 0) ≡ false → is_bracket (get_or text at 0) ≡ false → Wordy at (at + 1)
  wordy-one at h e f =
      record {
        low = omega arith;
        high = omega arith;
        plain = λ i l k. let z : at ≡ i = omega arith in subst (λ (j : ℕ). Plain j) z (e, f);
      }

  pub wordy-more :
      (at p : ℕ) (r q : Bool) → Wordy at p → p < length text → r ≡ is_space (get_or text p 0) → r ≡ false → q ≡ is_bracket (get_or text p 0) → q ≡ false
      → Wordy at (p + 1)
  wordy-more at p r q s h e t f u =
      record {
        low = omega (arith, s.low);
        high = omega arith;
        plain = λ i l k. ⊎_elim (λ (z : i ≡ p). subst (λ (j : ℕ). Plain j) (sym z) (sym e ∙ t, sym f ∙ u)) (λ z. s.plain i l z) (last-cases i p (omega arith));
      }

  abbrev Parts : ℕ → Type 0
  Parts p = (place b : ℕ) → suc place ≡ p → Apart place b (tokens_from p (drop p text))

  -- a word's byte, and what stands behind it
  word-step : (at : ℕ) → at < length text → Plain at → tokens_from at (drop at text) ≡ joined at (get_or text at 0) (tokens_from (suc at) (drop (suc at) text))
  unfolding tokens_from
  word-step at h f = rw (drop-cons text at 0 h, f.0, f.1, tokens_from) refl

  take_step : (n at : ℕ) → at < length text → take (suc n) (drop at text) ≡ get_or text at 0 ∷ take n (drop (suc at) text)
  take_step n at h = rw (drop-cons text at 0 h) refl

  word-tokens :
      (n at p : ℕ) → p ≡ at + suc n → p ≤ length text → ((i : ℕ) → at ≤ i → i < p → Plain i) → Parts p
      → tokens_from at (drop at text) ≡ record { place = at; token = word (take (suc n) (drop at text)) } ∷ tokens_from p (drop p text)
  word-tokens zero at p e l f a =
      word-step at (omega arith) (f at (omega arith) (omega arith))
      ∙ subst
      (λ (z : ℕ). joined at (get_or text at 0) (tokens_from z (drop z text)) ≡ record { place = at; token = word (take 1 (drop at text)) } ∷ tokens_from p (drop p text))
      (omega arith) (a at (get_or text at 0) (omega arith) ∙ rw (take_step 0 at (omega arith)) (alone-is at (get_or text at 0) (tokens_from p (drop p text))))
  word-tokens (suc n) at p e l f a =
      word-step at (omega arith) (f at (omega arith) (omega arith))
      ∙ rw (word-tokens n (suc at) p (omega arith) l (λ i k m. f i (omega arith) m) a, take_step (suc n) at (omega arith))
      (joined-next at (get_or text at 0) (take (suc n) (drop (suc at) text)) (tokens_from p (drop p text)))

  word_of : (n at : ℕ) → at < length text → is_bracket (get_or text at 0) ≡ false → token_of (take (suc n) (drop at text)) ≡ word (take (suc n) (drop at text))
  word_of n at h f = rw (take_step n at h) (rw (f, token_of) refl)

  ends : (at p : ℕ) → Wordy at p → Parts p → Ends text at p
  ends at p s a =
      let n = p - at - 1 in
      let e : p ≡ at + suc n = omega (arith, s.low) in
      let w : p - at ≡ suc n = omega (arith, s.low) in
      let short : at < length text = omega (arith, s.low, s.high) in
      record {
        low = s.low;
        high = s.high;
        split =
            rw w
            (rw (word_of n at short (s.plain at (omega arith) s.low).1) (word-tokens n at p e s.high s.plain a));
      }

  pub ends-space : (at p : ℕ) (r : Bool) → Wordy at p → p < length text → r ≡ is_space (get_or text p 0) → r ≡ true → Ends text at p
  ends-space at p r s h e t =
      ends at p s (λ place b z. subst (λ (ts : List Placed). Apart place b ts) (sym (space-step p h (sym e ∙ t))) (apart-later place b (suc p) (drop (suc p) text) (omega arith)))

  bracket-step :
      (p : ℕ) → p < length text → is_space (get_or text p 0) ≡ false → is_bracket (get_or text p 0) ≡ true
      → tokens_from p (drop p text) ≡ record { place = p; token = bracket_of (get_or text p 0) } ∷ tokens_from (suc p) (drop (suc p) text)
  unfolding tokens_from
  bracket-step p h e f = rw (drop-cons text p 0 h, e, f, tokens_from) refl

  pub ends-bracket :
      (at p : ℕ) (r q : Bool) → Wordy at p → p < length text → r ≡ is_space (get_or text p 0) → r ≡ false → q ≡ is_bracket (get_or text p 0) → q ≡ true
      → Ends text at p
  ends-bracket at p r q s h e t f u =
      ends at p s
      (λ place b z. subst (λ (ts : List Placed). Apart place b ts) (sym (bracket-step p h (sym e ∙ t) (sym f ∙ u))) (apart-bracket place b p (get_or text p 0) (tokens_from (suc p) (drop (suc p) text))))

  pub ends-text : (at p : ℕ) → Wordy at p → length text ≤ p → Ends text at p
  ends-text at p s h = ends at p s (λ place b z. rw (drop_of_length-le text h) (apart-end place b p))

  pub bracket-ends : (at : ℕ) (q : Bool) → at < length text → is_space (get_or text at 0) ≡ false → q ≡ is_bracket (get_or text at 0) → q ≡ true → Ends text at (at + 1)
  bracket-ends at q h e f u =
      let w : at + 1 - at ≡ 1 = omega arith in
      record {
        low = omega arith;
        high = omega arith;
        split = rw (w, add-one, take_step 0 at h, bracket-step at h e (sym f ∙ u), sym f ∙ u, token_of) refl;
      }
