-- Loops through the ones of a choice or of a set (src/search/patterns.rt): what they join, meet and close.
use Prim.Native.Nat.{ℕ, ◌+◌, ◌-◌, ◌*◌, ◌<◌, ◌≤◌}
use mathlib.Core.Path.{◌≡◌, refl, sym, ◌∙◌, subst}
use mathlib.Core.List.{List}
use mathlib.Core.Bool.{Bool, true, false, true≢false}
use mathlib.Core.Logic.{◌⊎◌, ◌↔◌, ⊎_elim}
use native.Mathlib.Omega.{arith}
use lib.ListN.{get_or}
use borrow.Author.Tests.{eq-eqb, ne_eqb}
use Rattle.subsumption.specs.Tables.{both, Node, top_at, name_at, exists_at, and_at, var_at, node}
use Rattle.subsumption.specs.Atoms.{bit}
use Rattle.subsumption.proofs.Bools.{or_cases, or-first, or-second, both_true, both-intro, last-cases, le-or-lt}
use Rattle.subsumption.proofs.Nodes.{and-node, var-node}
use Rattle.square.specs.Inner.Square.{on_line}
use Rattle.subsumption.specs.declared.closure.columns.Words.{Words}
use Rattle.matching.specs.Inner.Search.{Decided}
use Rattle.matching.specs.Inner.Search.Sets.{in_words, NextBit, NextIn, Same, Grown, Joined, Compared}
use Rattle.matching.specs.Inner.Search.Problem.{Numbers, line_at, fit_at, atom_at, inner_at}
use Rattle.matching.specs.Inner.Search.Patterns.{ReadBy, ValueRead, BelowAll, ChosenAbove, AboveSome, LinkOf, Linked, MembersOf, Follows, by-set, by-top, by_and, Followed, ClosedOnce, ClosedUp}
use Rattle.matching.proofs.SearchLaws.Sets.{all_in, none_in}

-- ---- what was passed
pub passed-cases :
    (test : ℕ → Bool) (q next p : ℕ) → ((k : ℕ) → q + 1 ≤ k → k < next → test k ≡ false) → p < next → test p ≡ true → (p ≡ q) ⊎ (p < q)
passed-cases test q next p h l e =
    ⊎_elim (λ (u : q + 1 ≤ p). absurd (true≢false (sym e ∙ h p u l))) (λ u. last-cases p q (omega arith)) (le-or-lt (q + 1) p)

pub passed_none : (test : ℕ → Bool) (next p : ℕ) → ((k : ℕ) → 0 ≤ k → k < next → test k ≡ false) → p < next → test p ≡ true → ⊥
passed_none test next p h l e = true≢false (sym e ∙ h p (omega arith) l)

-- ---- below every chosen atom
pub record BelowTo (sets problem : List ℕ) (choice q : ℕ) (common : Words) : Type 0 where
  pub within : q ≤ 64
  pub here : q < 64 → bit choice q ≡ true
  pub bits :
      (c : ℕ) → c < 192
      → (in_words common c ≡ true) ↔ ((p : ℕ) → p < q → bit choice p ≡ true → on_line sets (line_at true (atom_at problem p)) c ≡ true)

module _ (sets problem : List ℕ) (choice : ℕ) where
  pub below-first :
      (q : ℕ) → NextBit choice 0 q
      → BelowTo sets problem choice q (record { first = 18446744073709551615; second = 18446744073709551615; third = 18446744073709551615 })
  below-first q N =
      record {
        within = N.within;
        here = N.here;
        bits = λ c l. (λ _ p m b. absurd (passed_none (bit choice) q p N.between m b), λ _. all_in c l);
      }

  pub below_more :
      (q next : ℕ) (common line sum : Words) → q < 64 → BelowTo sets problem choice q common → Same line sets (576 + atom_at problem q * 3)
      → ((c : ℕ) → c < 192 → in_words sum c ≡ both (in_words common c) (in_words line c)) → NextBit choice (q + 1) next
      → BelowTo sets problem choice next sum
  below_more q next common line sum h B S M N = record { within = N.within; here = N.here; bits = λ c l. (to c l, from c l) }
    where
      to :
          (c : ℕ) → c < 192 → in_words sum c ≡ true → (p : ℕ) → p < next → bit choice p ≡ true
          → on_line sets (line_at true (atom_at problem p)) c ≡ true
      to c l e p m b =
          let (x, y) = both_true _ _ (sym (M c l) ∙ e) in
          ⊎_elim
          (λ (u : p ≡ q). subst (λ (z : ℕ). on_line sets (line_at true (atom_at problem z)) c ≡ true) (sym u) (sym (S c l) ∙ y))
          (λ u. (B.bits c l).0 x p u b) (passed-cases (bit choice) q next p N.between m b)

      from :
          (c : ℕ) → c < 192
          → ((p : ℕ) → p < next → bit choice p ≡ true → on_line sets (line_at true (atom_at problem p)) c ≡ true) → in_words sum c ≡ true
      from c l f =
          M c l
          ∙ both-intro _ _ ((B.bits c l).1 (λ p m b. f p (omega (arith, N.after)) b)) (S c l ∙ f q (omega (arith, N.after)) (B.here h))

  pub below-done : (q : ℕ) (w : Words) → 64 ≤ q → BelowTo sets problem choice q w → BelowAll sets problem choice w
  below-done q w h B c l = (λ e p m b. (B.bits c l).0 e p (omega arith) b, λ f. (B.bits c l).1 (λ p m b. f p (omega (arith, B.within)) b))

-- ---- above some chosen atom
pub record AboveTo (sets problem : List ℕ) (choice q : ℕ) (sum : Words) : Type 0 where
  pub within : q ≤ 64
  pub here : q < 64 → bit choice q ≡ true
  pub bits : (c : ℕ) → c < 192 → (in_words sum c ≡ true) ↔ ((k : ChosenAbove sets problem choice c) × (k.place < q))

module _ (sets problem : List ℕ) (choice : ℕ) where
  pub above-first : (q : ℕ) → NextBit choice 0 q → AboveTo sets problem choice q (record { first = 0; second = 0; third = 0 })
  above-first q N =
      record {
        within = N.within;
        here = N.here;
        bits = λ c l. (λ e. absurd (none_in c l e), λ (k, m). absurd (passed_none (bit choice) q k.place N.between m k.chosen));
      }

  pub above_more :
      (q next : ℕ) (before line sum : Words) → q < 64 → AboveTo sets problem choice q before → Same line sets (atom_at problem q * 3) → Joined before line sum
      → NextBit choice (q + 1) next → AboveTo sets problem choice next sum
  above_more q next before line sum h A S J N = record { within = N.within; here = N.here; bits = λ c l. (to c l, from c l) }
    where
      to : (c : ℕ) → c < 192 → in_words sum c ≡ true → (k : ChosenAbove sets problem choice c) × (k.place < next)
      to c l e =
          ⊎_elim (λ u. let (k, m) = (A.bits c l).0 u in (k, omega (arith, N.after)))
          (λ u. (record { place = q; low = h; chosen = A.here h; here = sym (S c l) ∙ u }, omega (arith, N.after)))
          (or_cases (in_words before c) (in_words line c) (sym (J.bits c l) ∙ e))

      from : (c : ℕ) → c < 192 → (k : ChosenAbove sets problem choice c) × (k.place < next) → in_words sum c ≡ true
      from c l (k, m) =
          J.bits c l
          ∙ ⊎_elim
          (λ (u : k.place ≡ q). or-second _ _ (S c l ∙ subst (λ (z : ℕ). on_line sets (line_at false (atom_at problem z)) c ≡ true) u k.here))
          (λ u. or-first _ _ ((A.bits c l).1 (k, u))) (passed-cases (bit choice) q next k.place N.between m k.chosen)

  pub above-done : (q : ℕ) (w : Words) → 64 ≤ q → AboveTo sets problem choice q w → AboveSome sets problem choice w
  above-done q w h A c l = (λ e. ((A.bits c l).0 e).0, λ k. (A.bits c l).1 (k, omega (arith, k.low)))

-- ---- by existentials that fit
pub record LinkedTo (sets problem : List ℕ) (inner : Words) (right : Bool) (j e : ℕ) (sum : Words) : Type 0 where
  pub within : e ≤ 192
  pub here : e < 192 → on_line sets (fit_at right j) e ≡ true
  pub bits : (c : ℕ) → c < 192 → (in_words sum c ≡ true) ↔ ((k : LinkOf sets problem inner right j c) × (k.by < e))

module _ (sets problem : List ℕ) (inner : Words) (right : Bool) (j at : ℕ) (place : at ≡ fit_at right j) where
  pub linked-first : (e : ℕ) → NextIn sets at 0 e → LinkedTo sets problem inner right j e (record { first = 0; second = 0; third = 0 })
  linked-first e M =
      let N : NextIn sets (fit_at right j) 0 e = subst (λ (z : ℕ). NextIn sets z 0 e) place M in
      record {
        within = N.within;
        here = N.here;
        bits =
            λ c l.
            (λ u. absurd (none_in c l u), λ (k, m). absurd (passed_none (on_line sets (fit_at right j)) e k.by N.between m k.fits));
      }

  module _ (f next : ℕ) (before : Words) (h : f < 192) (L : LinkedTo sets problem inner right j f before) (M : NextIn sets at (f + 1) next) where
    step : NextIn sets (fit_at right j) (f + 1) next
    step = subst (λ (z : ℕ). NextIn sets z (f + 1) next) place M

    earlier :
        (c : ℕ) (k : LinkOf sets problem inner right j c) → k.by < next → (k.by ≡ f) ⊎ (k.by < f)
    earlier c k m = passed-cases (on_line sets (fit_at right j)) f next k.by step.between m k.fits

    pub linked-join :
        (line : ℕ) (row sum : Words) → in_words inner (inner_at problem f) ≡ true → line ≡ line_at right f → Same row sets line → Joined before row sum
        → LinkedTo sets problem inner right j next sum
    linked-join line row sum i p R J = record { within = step.within; here = step.here; bits = λ c l. (to c l, from c l) }
      where
        S : Same row sets (line_at right f)
        S = subst (Same row sets) p R

        to : (c : ℕ) → c < 192 → in_words sum c ≡ true → (k : LinkOf sets problem inner right j c) × (k.by < next)
        to c l e =
            ⊎_elim (λ u. let (k, m) = (L.bits c l).0 u in (k, omega (arith, step.after)))
            (λ u. (record { by = f; low = h; fits = L.here h; inside = i; here = sym (S c l) ∙ u }, omega (arith, step.after)))
            (or_cases (in_words before c) (in_words row c) (sym (J.bits c l) ∙ e))

        from : (c : ℕ) → c < 192 → (k : LinkOf sets problem inner right j c) × (k.by < next) → in_words sum c ≡ true
        from c l (k, m) =
            J.bits c l
            ∙ ⊎_elim
            (λ (u : k.by ≡ f). or-second _ _ (S c l ∙ subst (λ (z : ℕ). on_line sets (line_at right z) c ≡ true) u k.here))
            (λ u. or-first _ _ ((L.bits c l).1 (k, u))) (earlier c k m)

    pub linked-skip : in_words inner (inner_at problem f) ≡ false → LinkedTo sets problem inner right j next before
    linked-skip i = record { within = step.within; here = step.here; bits = λ c l. (to c l, from c l) }
      where
        to : (c : ℕ) → c < 192 → in_words before c ≡ true → (k : LinkOf sets problem inner right j c) × (k.by < next)
        to c l e = let (k, m) = (L.bits c l).0 e in (k, omega (arith, step.after))

        from : (c : ℕ) → c < 192 → (k : LinkOf sets problem inner right j c) × (k.by < next) → in_words before c ≡ true
        from c l (k, m) =
            ⊎_elim
            (λ (u : k.by ≡ f).
            absurd (true≢false (sym (subst (λ (z : ℕ). in_words inner (inner_at problem z) ≡ true) u k.inside) ∙ i)))
            (λ u. (L.bits c l).1 (k, u)) (earlier c k m)

pub linked-done :
    (sets problem : List ℕ) (inner : Words) (right : Bool) (j e : ℕ) (w : Words) → 192 ≤ e → LinkedTo sets problem inner right j e w
    → Linked sets problem inner right j w
linked-done sets problem inner right j e w h L c l = (λ u. ((L.bits c l).0 u).0, λ k. (L.bits c l).1 (k, omega (arith, k.low)))

-- ---- members
pub members-are : {Q : Type 0} {b : Bool} → Decided Q b → b ≡ true → Q
members-are {b = true} d e = d
members-are {b = false} d e = absurd (true≢false (sym e))

pub members-are-not : {Q : Type 0} {b : Bool} → Decided Q b → b ≡ false → Q → ⊥
members-are-not {b = true} d e = absurd (true≢false e)
members-are-not {b = false} d e = d

module _ (problem : List ℕ) (numbers : Numbers problem) (e : ℕ) (low : e < 192) where
  pub members-low : (i j : ℕ) → node problem e ≡ and_at i j → (i < 192) × (j < 192)
  members-low i j n =
      let (k, p, q) = and-node problem e i j n in
      (omega (arith, numbers.first-low e low k, p), omega (arith, numbers.inner-low e low, q))

  pub variable-low : (k : ℕ) → node problem e ≡ var_at k → k < 8
  variable-low k n = let (u, v) = var-node problem e k n in omega (arith, numbers.variable-low e low u, v)

  pub members-top : (P : ℕ → Type 0) → node problem e ≡ top_at → MembersOf P (node problem e)
  members-top P n = subst (MembersOf P) (sym n) tt

  module _ (x : Words) where
    abbrev In : ℕ → Type 0
    In c = in_words x c ≡ true

    pub members-and :
        (i j : ℕ) (a b : Bool) → node problem e ≡ and_at i j → a ≡ in_words x i → a ≡ true → b ≡ in_words x j → Decided (MembersOf In (node problem e)) b
    members-and i j a b n p u q = subst (λ (n : Node). Decided (MembersOf In n) b) (sym n) (go b q)
      where
        go : (b : Bool) → b ≡ in_words x j → Decided (In i × In j) b
        go true q = (sym p ∙ u, sym q)
        go false q = λ (i, j). true≢false (sym j ∙ sym q)

    pub members-out :
        (i j : ℕ) (a : Bool) → node problem e ≡ and_at i j → a ≡ in_words x i → a ≡ false → MembersOf In (node problem e) → ⊥
    members-out i j a n p u m = go (subst (MembersOf In) n m)
      where
        go : In i × In j → ⊥
        go (i, j) = true≢false (sym i ∙ sym p ∙ u)

  pub members-other : (P : ℕ → Type 0) (n : Node) → (n ≡ top_at → ⊥) → ((i j : ℕ) → n ≡ and_at i j → ⊥) → MembersOf P n → ⊥
  members-other P top_at t a m = t refl
  members-other P (name_at n) t a m = m
  members-other P (exists_at r j) t a m = m
  members-other P (and_at i j) t a m = a i j refl
  members-other P (var_at k) t a m = m

  pub members-more : (P Q : ℕ → Type 0) → ((i : ℕ) → i < 192 → P i → Q i) → MembersOf P (node problem e) → MembersOf Q (node problem e)
  members-more P Q h m = go (node problem e) refl m
    where
      go : (n : Node) → node problem e ≡ n → MembersOf P n → MembersOf Q n
      go top_at u m = tt
      go (name_at n) u m = m
      go (exists_at r j) u m = m
      go (and_at i j) u (p, q) = let (a, b) = members-low i j u in (h i a p, h j b q)
      go (var_at k) u m = m

-- ---- what follows
module _ (sets problem : List ℕ) (at : ℕ) where
  pub followed-first : (x : Words) → Followed sets problem at x x
  followed-first x = record { kept = λ c l e. e; least = λ c l e. by-set c l e }

  lift : (x y : Words) {c : ℕ} → Followed sets problem at x y → Follows sets problem at y c → Follows sets problem at x c
  lift x y F (by-set c l e) = F.least c l e
  lift x y F (by-top e c l o n m r) = by-top e c l o n m r
  lift x y F (by_and e i j c l o n p q m r) = by_and e i j c l o n (lift x y F p) (lift x y F q) m r

  pub followed-trans : (x y z : Words) → Followed sets problem at x y → Followed sets problem at y z → Followed sets problem at x z
  followed-trans x y z F G = record { kept = λ c l e. G.kept c l (F.kept c l e); least = λ c l e. lift x y F (G.least c l e) }

  pub closed-up :
      (x y z : Words) → Followed sets problem at x y → ClosedOnce sets problem at y z → z ≡ y → ClosedUp sets problem at x y
  closed-up x y z F O e = record { followed = F; closed = O.quiet e }

  -- nothing new
  abbrev Inside : Words → Words → Type 0
  Inside w x = (c : ℕ) → c < 192 → in_words w c ≡ true → in_words x c ≡ true

  pub record ClosingTo (x : Words) (e : ℕ) (sum : Words) : Type 0 where
    pub within : e ≤ 192
    pub here : e < 192 → on_line sets at e ≡ true
    pub followed : Followed sets problem at x sum
    pub grown : Grown x sum
    pub quiet :
        Inside sum x → (f : ℕ) → f < e → on_line sets at f ≡ true → MembersOf (λ c. in_words x c ≡ true) (node problem f)
        → (c : ℕ) → c < 192 → on_line sets (line_at false f) c ≡ true → in_words x c ≡ true

  pub closing-first : (x : Words) (e : ℕ) → NextIn sets at 0 e → ClosingTo x e x
  closing-first x e N =
      record {
        within = N.within;
        here = N.here;
        followed = followed-first x;
        grown = record { first = omega arith; second = omega arith; third = omega arith };
        quiet = λ _ f l o. absurd (passed_none (on_line sets at) e f N.between l o);
      }

  module _ (numbers : Numbers problem) (x : Words) (f next : ℕ) (before : Words) (h : f < 192) (C : ClosingTo x f before) (N : NextIn sets at (f + 1) next) where
    row-follows :
        (c : ℕ) → MembersOf (λ d. in_words before d ≡ true) (node problem f) → c < 192 → on_line sets (line_at false f) c ≡ true → Follows sets problem at x c
    row-follows c m l r = go (node problem f) refl m
      where
        go : (n : Node) → node problem f ≡ n → MembersOf (λ d. in_words before d ≡ true) n → Follows sets problem at x c
        go top_at u m = by-top f c h (C.here h) u l r
        go (name_at n) u m = absurd m
        go (exists_at s j) u m = absurd m
        go (and_at i j) u (p, q) =
            let (a, b) = members-low problem numbers f h i j u in
            by_and f i j c h (C.here h) u (C.followed.least i a p) (C.followed.least j b q) l r
        go (var_at k) u m = absurd m

    pub closing-join :
        (row sum : Words) → MembersOf (λ c. in_words before c ≡ true) (node problem f) → Same row sets (f * 3) → Joined before row sum → ClosingTo x next sum
    closing-join row sum m S J =
        record {
          within = N.within;
          here = N.here;
          followed =
              record {
                kept = λ c l e. kept c l (C.followed.kept c l e);
                least =
                    λ c l e.
                    ⊎_elim (λ u. C.followed.least c l u) (λ u. row-follows c m l (sym (S c l) ∙ u))
                    (or_cases (in_words before c) (in_words row c) (sym (J.bits c l) ∙ e));
              };
          grown =
              record {
                first = omega (arith, C.grown.first, J.grown.first);
                second = omega (arith, C.grown.second, J.grown.second);
                third = omega (arith, C.grown.third, J.grown.third);
              };
          quiet =
              λ i e l o k c lc r.
              ⊎_elim
              (λ (u : e ≡ f). i c lc (J.bits c lc ∙ or-second _ _ (S c lc ∙ subst (λ (z : ℕ). on_line sets (z * 3) c ≡ true) u r)))
              (λ u. C.quiet (λ d ld g. i d ld (kept d ld g)) e u o k c lc r) (passed-cases (on_line sets at) f next e N.between l o);
        }
      where
        kept : (c : ℕ) → c < 192 → in_words before c ≡ true → in_words sum c ≡ true
        kept c l e = J.bits c l ∙ or-first _ _ e

    pub closing-skip : (MembersOf (λ c. in_words before c ≡ true) (node problem f) → ⊥) → ClosingTo x next before
    closing-skip n =
        record {
          within = N.within;
          here = N.here;
          followed = C.followed;
          grown = C.grown;
          quiet =
              λ i e l o k c lc r.
              ⊎_elim
              (λ (u : e ≡ f).
              absurd
              (n
              (members-more problem numbers f h (λ d. in_words x d ≡ true) (λ d. in_words before d ≡ true) C.followed.kept
              (subst (λ (z : ℕ). MembersOf (λ d. in_words x d ≡ true) (node problem z)) u k))))
              (λ u. C.quiet i e u o k c lc r) (passed-cases (on_line sets at) f next e N.between l o);
        }

  pub closing-done : (x : Words) (e : ℕ) (w : Words) → 192 ≤ e → ClosingTo x e w → ClosedOnce sets problem at x w
  closing-done x e w h C =
      record {
        followed = C.followed;
        grown = C.grown;
        quiet =
            λ s f l o m c lc r.
            C.quiet (λ d ld i. subst (λ (z : Words). in_words z d ≡ true) s i) f (omega arith) o m c lc r;
      }

-- the words rise until nothing is new
pub closing-less :
    (x w : Words) → w.first < 18446744073709551616 → w.second < 18446744073709551616 → w.third < 18446744073709551616 → Grown x w
    → {b : Bool} → Compared w x b → b ≡ false
    → 55340232221128654848 - (w.first + w.second + w.third) < 55340232221128654848 - (x.first + x.second + x.third)
closing-less x w p q r G K e =
    ⊎_elim
    (λ (u : w.first + w.second + w.third ≤ x.first + x.second + x.third).
    absurd
    (K.other e (omega (arith, G.first, G.second, G.third)) (omega (arith, G.first, G.second, G.third)) (omega (arith, G.first, G.second, G.third))))
    (λ u. omega arith) (le-or-lt (w.first + w.second + w.third) (x.first + x.second + x.third))

-- ---- reading a value
module _ (sets problem values : List ℕ) (right : Bool) (i : ℕ) (w : Words) where
  pub read_made : get_or problem (576 + i) 0 ≡ 1 → Same w values (i * 3) → ValueRead sets problem values right i w
  read_made e S = subst (λ (b : Bool). ReadBy b sets values right i w) (sym (eq-eqb _ 1 e)) S

  pub read-line : (line : ℕ) → (get_or problem (576 + i) 0 ≡ 1 → ⊥) → line ≡ line_at right i → Same w sets line → ValueRead sets problem values right i w
  read-line line n p S =
      subst (λ (b : Bool). ReadBy b sets values right i w) (sym (ne_eqb _ 1 n)) (subst (Same w sets) p S)
