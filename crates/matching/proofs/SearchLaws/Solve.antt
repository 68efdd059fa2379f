-- Answers of the search: how a nogood comes about, and how two make one.
use Rattle.subsumption.specs.Refusal.{Done}
use Prim.Native.Nat.{ℕ, ◌+◌, ◌*◌, ◌/◌, ◌%◌, ◌<◌, ◌≤◌}
use mathlib.Core.Path.{◌≡◌, refl, sym, ap, ◌∙◌, subst}
use mathlib.Core.List.{List}
use mathlib.Core.Bool.{Bool, true, false, not, beq, ◌&&◌, false≢true, true≢false}
use mathlib.Core.Logic.{⊎_elim}
use native.Mathlib.Omega.{arith}
use borrow.Author.Tests.{eq-eqb, not-true, not-false}
use lib.ListN.{length, take, get_or}
use Rattle.subsumption.specs.Tables.{Tables, pairs_of, right_of, tree, has_variable}
use Rattle.subsumption.specs.Atoms.{bit}
use Rattle.subsumption.specs.Check.{table_fault, assignment_fault}
use Rattle.subsumption.proofs.Bools.{last-cases, or_cases, or-first, or-second, both_true, both-intro}
use Rattle.subsumption.proofs.Bits.{bit-of-zero}
use Rattle.subsumption.proofs.Accepted.{well_formed}
use Rattle.settings.specs.Inner.Counts.{Counted, Clamped, Unclamped}
use Rattle.matching.specs.Solving.{takes}
use Rattle.matching.specs.Inner.Search.{Decided, HoldsAt, Within, SolutionIn, NoSolution}
use Rattle.matching.specs.Inner.Search.Problem.{Problem, held_at, right_at, question_count, AskedAt}
use Rattle.matching.specs.Inner.Search.Pairs.{Changed}
use Rattle.matching.specs.Inner.Search.Interval.{IntervalOf, undecided}
use Rattle.matching.specs.Inner.Search.Nogoods.{words, used, low_at, high_at, Room, Nogoods, Added}
use Rattle.matching.specs.Inner.Search.Patterns.{Tested}
use Rattle.matching.specs.Inner.Search.Widen.{Mixed, StillFails}
use Rattle.matching.specs.Inner.Search.Needs.{Overdrawn}
use Rattle.matching.specs.Inner.Search.Solve.{AskedOf, FailingOf, Failing, Refuted, RefutedBy, Searched, CanSplit, Known, Shutting, Merged}
use Rattle.matching.proofs.SearchLaws.Fronts.{front-known, front-takes, front-within}
use Rattle.matching.proofs.SearchLaws.Nogoods.{words_long, nogoods-added}
use Rattle.matching.proofs.SearchLaws.Interval.{decided-true, decided-false, at_pair, grown, grown-cases, shrunk, shrunk-cases, low-shuts, high-shuts, decided-shut, low-accepted, take-keeps, take_found, leave-keeps, leave-found}
use Rattle.matching.proofs.SearchLaws.Counts.{counts_same, few-front, over-refutes, clamped-open, clamped-inside, clamped-full, unclamped-refutes}

-- ---- questions of the problem
module _ (t : Tables) (sets problem : List ℕ) (c : Problem t sets problem) where
  pub is-question : (m : ℕ) → m < question_count problem → m < pairs_of t.questions
  is-question m l = subst (λ (z : ℕ). m < z) c.questions l

  -- the mark of its right side
  pub right-held : (m : ℕ) → m < pairs_of t.questions → held_at problem (right_at problem m) ≡ has_variable (tree t.concepts (right_of t.questions m))
  right-held m l = ap (held_at problem) (c.right m l) ∙ c.held _ ((well_formed t c.passed).question-right m l)

-- ---- largest counts as they are lent
abbrev pub counts : List ℕ → List ℕ
counts problem = words problem 931

pub counts-long : (problem : List ℕ) → length problem ≡ 971 → length (counts problem) ≡ 8
counts-long problem e = words_long problem 931 (omega (arith, e))

-- ---- looking for one that fails
abbrev pub HoldTo : List ℕ → List ℕ → List ℕ → Bool → ℕ → Type 0
HoldTo sets problem choice right m =
    (t : Tables) → Problem t sets problem → assignment_fault t (take t.variables choice) ≡ Done → (n : ℕ) → n < m → n < pairs_of t.questions
    → AskedOf t problem right n → HoldsAt t (take t.variables choice) n

unlike : (a b : Bool) → not (beq a b) ≡ true → a ≡ b → ⊥
unlike true true o e = false≢true o
unlike true false o e = true≢false e
unlike false true o e = false≢true e
unlike false false o e = false≢true o

alike : (a b : Bool) → not (beq a b) ≡ false → a ≡ b
alike true true o = refl
alike true false o = absurd (true≢false o)
alike false true o = absurd (true≢false o)
alike false false o = refl

module _ (sets problem choice : List ℕ) (right : Bool) where
  one_more :
      (m : ℕ) → HoldTo sets problem choice right m
      → ((t : Tables) → Problem t sets problem → assignment_fault t (take t.variables choice) ≡ Done → m < pairs_of t.questions
      → AskedOf t problem right m → HoldsAt t (take t.variables choice) m)
      → HoldTo sets problem choice right (m + 1)
  one_more m h g t c a n l =
      ⊎_elim
      (λ (e : n ≡ m).
      subst (λ (z : ℕ). z < pairs_of t.questions → AskedOf t problem right z → HoldsAt t (take t.variables choice) z) (sym e)
      (g t c a))
      (λ x. h t c a n x) (last-cases n m (omega arith))

  -- of the other kind
  pub hold-skip : (m : ℕ) → not (beq (held_at problem (right_at problem m)) right) ≡ true → HoldTo sets problem choice right m → HoldTo sets problem choice right (m + 1)
  hold-skip m o h = one_more m h (λ t c a l x. absurd (unlike _ _ o (right-held t sets problem c m l ∙ x.1)))

  module _ (m : ℕ) (b : Bool) (d : Tested sets problem m choice b) where
    pub failing-here :
        b ≡ false → m < question_count problem → get_or problem (939 + m) 0 ≡ 1 → not (beq (held_at problem (right_at problem m)) right) ≡ false
        → HoldTo sets problem choice right m → FailingOf sets problem choice right m
    failing-here e l w o h t c a =
        let here = is-question t sets problem c m l in
        record {
          low = omega arith;
          of-kind = λ x. (eq-eqb _ 1 w, sym (right-held t sets problem c m x) ∙ alike _ _ o);
          fails = λ x. decided-false _ b (d t c a x) e;
          before = λ n y. h t c a n y (omega arith);
        }

module _ (sets problem choice : List ℕ) (m : ℕ) where
  pub failing-first : FailingOf sets problem choice true m → m < question_count problem → Failing sets problem choice m
  failing-first f l t c a =
      record {
        low = (f t c a).low;
        asked = λ x. ((f t c a).of-kind x).0;
        fails = (f t c a).fails;
        hold = λ x. absurd (omega (arith, c.questions));
      }

  -- none with a variable on the right, then the others
  pub failing-second : (n : ℕ) → FailingOf sets problem choice true n → question_count problem ≤ n → FailingOf sets problem choice false m → Failing sets problem choice m
  failing-second n f l g t c a =
      record {
        low = (g t c a).low;
        asked = λ x. ((g t c a).of-kind x).0;
        fails = (g t c a).fails;
        hold = λ x o y z. go x o y z (has_variable (tree t.concepts (right_of t.questions o))) refl;
      }
    where
      go :
          pairs_of t.questions ≤ m → (o : ℕ) → o < pairs_of t.questions → AskedAt problem o → (b : Bool)
          → has_variable (tree t.concepts (right_of t.questions o)) ≡ b → HoldsAt t (take t.variables choice) o
      go x o y z true e = (f t c a).before o (omega (arith, c.questions)) (z, e)
      go x o y z false e = (g t c a).before o (omega arith) (z, e)

-- ---- the low side by itself
module _ (t : Tables) (low full : List ℕ) (i : IntervalOf t low full) where
  pub full-interval : IntervalOf t full full
  full-interval = record { low-long = i.high-long; high-long = i.high-long; accepted = i.accepted; ordered = λ k q x. x; idle = i.idle }

  module _ (empty : List ℕ) (zeros : (k : ℕ) → get_or empty k 0 ≡ 0) (long : length empty ≡ 8) where
    none-taken : (k q : ℕ) → takes empty k q ≡ true → ⊥
    none-taken k q e = bit-of-zero q (subst (λ (z : ℕ). bit z q ≡ true) (zeros k) e)

    pub empty-interval : IntervalOf t empty full
    empty-interval =
        record { low-long = long; high-long = i.high-long; accepted = i.accepted; ordered = λ k q x. absurd (none-taken k q x); idle = i.idle }

    pub low-refuted : (problem core : List ℕ) → Mixed low empty core → NoSolution t problem core full → Refuted t problem low low core full
    low-refuted problem core w n =
        record {
          low-long = w.long;
          high-long = i.high-long;
          above = λ k q x. ⊎_elim (λ y. y) (λ y. absurd (none-taken k q y)) (w.upper k q x);
          below = i.ordered;
          none = n;
        }

    pub high-refuted : (problem rest : List ℕ) → Mixed low full rest → NoSolution t problem empty rest → Refuted t problem low low empty rest
    high-refuted problem rest w n =
        record {
          low-long = long;
          high-long = w.long;
          above = λ k q x. absurd (none-taken k q x);
          below = λ k q x. w.lower k q x (i.ordered k q x);
          none = n;
        }

-- a question fails at the low side: carried on, it shuts an interval around
module _ (sets problem full low empty : List ℕ) (m : ℕ) (zeros : (k : ℕ) → get_or empty k 0 ≡ 0) (long : length empty ≡ 8) where
  pub refuted-right :
      (core : List ℕ) → held_at problem (right_at problem m) ≡ true → Mixed low empty core → StillFails sets problem m low empty core
      → RefutedBy sets problem full low m core full
  refuted-right core e w f t c l x i n =
      low-refuted t low full i empty zeros long problem core w
      (low-shuts t c.passed problem core full m l x (sym (right-held t sets problem c m l) ∙ e) (f t c l full i (empty-interval t low full i empty zeros long) n))

  pub refuted-left :
      (rest : List ℕ) → held_at problem (right_at problem m) ≡ false → Mixed low full rest → StillFails sets problem m low full rest
      → RefutedBy sets problem full low m empty rest
  refuted-left rest e w f t c l x i n =
      high-refuted t low full i empty zeros long problem rest w
      (high-shuts t c.passed problem empty rest m l x (sym (right-held t sets problem c m l) ∙ e) (f t c l full i (full-interval t low full i) n))

module _ (sets problem full low before : List ℕ) (m : ℕ) (f : Failing sets problem low m) where
  pub tried-refuted :
      (low₁ high₁ after : List ℕ) → m < question_count problem → RefutedBy sets problem full low m low₁ high₁ → Added low₁ high₁ before after
      → Searched sets problem full low low before after (λ t. Refuted t problem low low low₁ high₁)
  tried-refuted low₁ high₁ after l r a t c i j n =
      let x = is-question t sets problem c m l in
      let y = r t c x ((f t c i.accepted).asked x) j ((f t c i.accepted).fails x) in
      (y, nogoods-added t problem low₁ high₁ before after n y.none a)

  pub tried-solves :
      (b : Bool) → Counted (counts problem) low b → not b ≡ false → question_count problem ≤ m
      → Searched sets problem full low low before before (λ t. SolutionIn t problem low low low)
  tried-solves b o e l t c i j n = (
    record {
      long = i.low-long;
      between = record { above = λ k q e. e; below = λ k q e. e };
      meets =
          record {
            solves = (f t c i.accepted).hold (omega (arith, c.questions));
            few = few-front problem (counts problem) low (counts_same problem _ refl) t.variables (well_formed t c.passed).few-variables (subst (Counted (counts problem) low) (not-false b e) o);
          };
    },
    n,
  )

-- it takes more than a largest count
pub tried-over :
    (sets problem full low store : List ℕ) (b : Bool) → Counted (counts problem) low b → not b ≡ true
    → Searched sets problem full low low store store (λ t. Refuted t problem low low low full)
tried-over sets problem full low store b o e t c i j n =
    (over-refutes problem (counts problem) low (counts_same problem _ refl) t full j (subst (Counted (counts problem) low) (not-true b e) o), n)

-- ---- one step
pub refuted-none : (t : Tables) (problem low high low₁ high₁ : List ℕ) → Refuted t problem low high low₁ high₁ → NoSolution t problem low high
refuted-none t problem low high low₁ high₁ r other a b s =
    r.none other a
    (record {
      above = λ k q e. b.above k q (front-within t.variables low₁ low r.above k q e);
      below = λ k q e. front-within t.variables high high₁ r.below k q (b.below k q e);
    })
    s

module _ (t : Tables) (problem : List ℕ) (h : table_fault t ≡ Done) (low high : List ℕ) (i : IntervalOf t low high) (low₁ high₁ : List ℕ) where
  pub tried-solution : SolutionIn t problem low low low₁ → SolutionIn t problem low high low₁
  tried-solution s =
      record {
        long = s.long;
        between = record { above = s.between.above; below = λ k q x. i.ordered k q (s.between.below k q x) };
        meets = s.meets;
      }

  module _ (r : Refuted t problem low low low₁ high₁) where
    pub tried-shut : (w : Bool) → Decided (Within high high₁) w → w ≡ true → Refuted t problem low high low₁ high₁
    tried-shut w c e =
        record { low-long = r.low-long; high-long = r.high-long; above = r.above; below = decided-true _ w c e; none = r.none }

    pub tried-all : ((p : ℕ) → p < 512 → undecided low high p ≡ false) → Refuted t problem low high low high
    tried-all d =
        record {
          low-long = i.low-long;
          high-long = i.high-long;
          above = λ k q x. x;
          below = λ k q x. x;
          none = decided-shut t h low high i problem low₁ high₁ r d;
        }

pub recalled :
    (store : List ℕ) (place : ℕ) (low high : List ℕ) → Room store → place < used store → low ≡ low_at store place → high ≡ high_at store place
    → Known store low high
recalled store place low high r l e f =
    record {
      place = place;
      kept = l;
      low-here = e;
      high-here = f;
      low-long = ap length e ∙ words_long store (place * 16 + 1) (omega (arith, r.long, r.few));
      high-long = ap length f ∙ words_long store (place * 16 + 9) (omega (arith, r.long, r.few));
    }

pub shutting :
    (low high low₁ high₁ : List ℕ) (a b : Bool) → Decided (Within low₁ low) a → Decided (Within high high₁) b
    → Shutting low high low₁ high₁ (a && b)
shutting low high low₁ high₁ true true x y = record { above = x; below = y }
shutting low high low₁ high₁ true false x y = tt
shutting low high low₁ high₁ false b x y = tt

known-refuted :
    (t : Tables) (problem store low high low₁ high₁ : List ℕ) → Nogoods t problem store → Known store low₁ high₁
    → Shutting low high low₁ high₁ true
    → Refuted t problem low high low₁ high₁
known-refuted t problem store low high low₁ high₁ n k x =
    record {
      low-long = k.low-long;
      high-long = k.high-long;
      above = x.above;
      below = x.below;
      none = subst (λ (z : List ℕ). NoSolution t problem z high₁) (sym k.low-here) (subst (NoSolution t problem (low_at store k.place)) (sym k.high-here) (n.each k.place k.kept));
    }

pub can-split : (low high : List ℕ) (p : ℕ) (b : Bool) → CanSplit low high p b → b ≡ true → (p < 512) × (undecided low high p ≡ true)
can-split low high p b x e = subst (CanSplit low high p) e x

pub split-as : (low high : List ℕ) (p : ℕ) (b : Bool) → p < 512 → b ≡ undecided low high p → CanSplit low high p b
split-as low high p true l e = (l, sym e)
split-as low high p false l e = tt

-- ---- intervals
-- an interval inside one that is inside all
pub through : (t : Tables) (low high full : List ℕ) → IntervalOf t low high → IntervalOf t high full → IntervalOf t low full
through t low high full i j =
    record { low-long = i.low-long; high-long = j.high-long; accepted = j.accepted; ordered = λ k q x. j.ordered k q (i.ordered k q x); idle = j.idle }

pub same-high : (t : Tables) (high high₂ full : List ℕ) → high₂ ≡ high → IntervalOf t high full → IntervalOf t high₂ full
same-high t high high₂ full e i = subst (λ (z : List ℕ). IntervalOf t z full) (sym e) i

pub less-high : (t : Tables) (high high₂ full : List ℕ) (k q : ℕ) → Changed high high₂ k q false → IntervalOf t high full → IntervalOf t high₂ full
less-high t high high₂ full k q c i =
    record { low-long = c.long; high-long = i.high-long; accepted = i.accepted; ordered = λ l r x. i.ordered l r (shrunk high high₂ k q c l r x); idle = i.idle }

-- ---- splitting at a pair
module _ (t : Tables) (problem : List ℕ) (h : table_fault t ≡ Done) (low high : List ℕ) (i : IntervalOf t low high) (p : ℕ) (u : undecided low high p ≡ true) where
  module _ (low₂ high₂ : List ℕ) (e : high₂ ≡ high) (c : Changed low low₂ (p / 64) (p % 64) true) where
    -- a nogood of the one half that does not need the pair
    pub with-refuted :
        (n : Bool) (l₁ h₁ : List ℕ) → Refuted t problem low₂ high₂ l₁ h₁ → n ≡ takes l₁ (p / 64) (p % 64) → n ≡ false
        → Refuted t problem low high l₁ h₁
    with-refuted n l₁ h₁ r f g =
        record {
          low-long = r.low-long;
          high-long = r.high-long;
          above =
              λ k q x.
              ⊎_elim (λ y. absurd (true≢false (sym x ∙ at_pair l₁ k q _ _ false y (sym f ∙ g)))) (λ y. y)
              (grown-cases low low₂ _ _ c k q (r.above k q x));
          below = subst (λ (z : List ℕ). Within z h₁) e r.below;
          none = r.none;
        }

  module _ (low₃ high₃ : List ℕ) (e : low₃ ≡ low) (c : Changed high high₃ (p / 64) (p % 64) false) where
    pub without-refuted :
        (n : Bool) (l₁ h₁ : List ℕ) → Refuted t problem low₃ high₃ l₁ h₁ → n ≡ takes h₁ (p / 64) (p % 64) → n ≡ true
        → Refuted t problem low high l₁ h₁
    without-refuted n l₁ h₁ r f g =
        record {
          low-long = r.low-long;
          high-long = r.high-long;
          above = subst (Within l₁) e r.above;
          below =
              λ k q x.
              ⊎_elim (λ y. at_pair h₁ k q _ _ true y (sym f ∙ g)) (λ y. r.below k q y) (shrunk-cases high high₃ _ _ c k q x);
          none = r.none;
        }

  -- the nogoods of both halves give one of the whole
  module _ (low₂ high₂ : List ℕ) (e : high₂ ≡ high) (c : Changed low low₂ (p / 64) (p % 64) true)
      (low₃ high₃ : List ℕ) (f : low₃ ≡ low) (d : Changed high high₃ (p / 64) (p % 64) false)
      (la ha lb hb : List ℕ) (a : Refuted t problem low₂ high₂ la ha) (b : Refuted t problem low₃ high₃ lb hb)
      (l r : List ℕ) (m : Merged la ha lb hb (p / 64) (p % 64) l r) where
    none-merged : NoSolution t problem l r
    none-merged other x y s = go (takes other (p / 64) (p % 64)) refl
      where
        go : (z : Bool) → takes other (p / 64) (p % 64) ≡ z → ⊥
        go true z =
            a.none other x
            (record {
              above =
                  λ k q w.
                  let (v, g) = front-known t.variables la k q w in
                  ⊎_elim (λ n. at_pair other k q _ _ true n z)
                  (λ n. y.above k q (front-takes t.variables l k q v (m.joined.bits k q ∙ or-first _ _ n)))
                  (shrunk-cases la m.fewer _ _ m.left k q g);
              below =
                  λ k q w.
                  let (v, g) = front-known t.variables r k q (y.below k q w) in
                  front-takes t.variables ha k q v (both_true _ _ (sym (m.met.bits k q) ∙ g)).0;
            })
            s
        go false z =
            b.none other x
            (record {
              above =
                  λ k q w.
                  let (v, g) = front-known t.variables lb k q w in
                  y.above k q (front-takes t.variables l k q v (m.joined.bits k q ∙ or-second _ _ g));
              below =
                  λ k q w.
                  let (v, g) = front-known t.variables r k q (y.below k q w) in
                  ⊎_elim (λ n. absurd (true≢false (sym w ∙ at_pair other k q _ _ false n z)))
                  (λ n. front-takes t.variables hb k q v n)
                  (grown-cases hb m.more _ _ m.taken k q (both_true _ _ (sym (m.met.bits k q) ∙ g)).1);
            })
            s

    pub merged-refutes : Refuted t problem low high l r
    merged-refutes =
        record {
          low-long = m.joined.long;
          high-long = m.met.long;
          above =
              λ k q x.
              ⊎_elim
              (λ y.
              ⊎_elim
              (λ n. absurd (true≢false (sym y ∙ at_pair m.fewer k q _ _ false n m.left.here)))
              (λ n. n)
              (grown-cases low low₂ _ _ c k q (a.above k q (shrunk la m.fewer _ _ m.left k q y))))
              (λ y. subst (Within lb) f b.above k q y)
              (or_cases _ _ (sym (m.joined.bits k q) ∙ x));
          below =
              λ k q x.
              m.met.bits k q
              ∙ both-intro _ _ (subst (λ (z : List ℕ). Within z ha) e a.below k q x)
              (⊎_elim (λ n. at_pair m.more k q _ _ true n m.taken.here) (λ n. grown hb m.more _ _ m.taken k q (b.below k q n)) (shrunk-cases high high₃ _ _ d k q x));
          none = none-merged;
        }

-- ---- whatever the tables
-- by a test of the low side
module _ (sets problem full low high before after : List ℕ) where
  at_low :
      (Given : Tables → Type 0) → Searched sets problem full low low before after Given
      → (t : Tables) → Problem t sets problem → IntervalOf t low high → IntervalOf t high full → Nogoods t problem before
      → Given t × Nogoods t problem after
  at_low Given s t c i j n =
      s t c (record { low-long = i.low-long; high-long = i.low-long; accepted = low-accepted t c.passed low high i; ordered = λ k q e. e; idle = λ k q l x. i.idle k q l (i.ordered k q x) })
      (through t low high full i j) n

  pub by-solution :
      (l : List ℕ) → Searched sets problem full low low before after (λ t. SolutionIn t problem low low l)
      → Searched sets problem full low high before after (λ t. SolutionIn t problem low high l)
  by-solution l s t c i j n = let (y, m) = at_low _ s t c i j n in (tried-solution t problem c.passed low high i l l y, m)

  module _ (l h : List ℕ) (s : Searched sets problem full low low before after (λ t. Refuted t problem low low l h)) where
    pub by-test : (w : Bool) → Decided (Within high h) w → w ≡ true
        → Searched sets problem full low high before after (λ t. Refuted t problem low high l h)
    by-test w x e t c i j n = let (y, m) = at_low _ s t c i j n in (tried-shut t problem c.passed low high i l h y w x e, m)

    pub by-decided : ((p : ℕ) → p < 512 → undecided low high p ≡ false)
        → Searched sets problem full low high before after (λ t. Refuted t problem low high low high)
    by-decided d t c i j n = let (y, m) = at_low _ s t c i j n in (tried-all t problem c.passed low high i l h y d, m)

    pub by-none : Searched sets problem full low high before after (λ t. Unit {0})
    by-none t c i j n = (tt, (at_low _ s t c i j n).1)

module _ (sets problem full low high store : List ℕ) where
  pub by-known :
      (l h : List ℕ) → Known store l h → (b : Bool) → Shutting low high l h b → b ≡ true
      → Searched sets problem full low high store store (λ t. Refuted t problem low high l h)
  by-known l h k b x e t c i j n = (known-refuted t problem store low high l h n k (subst (Shutting low high l h) e x), n)

  pub by-nothing : Searched sets problem full low high store store (λ t. Unit {0})
  by-nothing t c i j n = (tt, n)

  -- by counts of needs
  pub by-wanted : (l h : List ℕ) → Overdrawn problem store full low high l h
      → Searched sets problem full low high store store (λ t. Refuted t problem low high l h)
  by-wanted l h x t c i j n = (x t i j n, n)

-- by a step at the clamped interval
module _ (sets problem full low high before after inner : List ℕ) (z : Clamped (counts problem) low high inner) where
  at_inner :
      (Given : Tables → Type 0) → Searched sets problem full low inner before after Given
      → (t : Tables) → Problem t sets problem → IntervalOf t low high → IntervalOf t high full → Nogoods t problem before
      → Given t × Nogoods t problem after
  at_inner Given s t c i j n = s t c (clamped-inside t _ low high inner i z) (clamped-full t _ low high inner i z full j) n

  -- its split or solution is one of the whole
  pub clamp-solution :
      (l : List ℕ) → Searched sets problem full low inner before after (λ t. SolutionIn t problem low inner l)
      → Searched sets problem full low high before after (λ t. SolutionIn t problem low high l)
  clamp-solution l s t c i j n =
      let (a, m) = at_inner _ s t c i j n in (
        record {
          long = a.long;
          between =
              record {
                above = a.between.above;
                below =
                    λ k q x. (clamped-full t _ low high inner i z high (full-interval t low high i)).ordered k q (a.between.below k q x);
              };
          meets = a.meets;
        },
        m,
      )

  pub clamp-splits :
      (p : ℕ) → (p < 512) × (undecided low inner p ≡ true) → Searched sets problem full low inner before after (λ t. Unit {0})
      → ((p < 512) × (undecided low high p ≡ true)) × Searched sets problem full low high before after (λ t. Unit {0})
  clamp-splits p u s = ((u.0, clamped-open _ low high inner z p u.1), at_inner _ s)

  -- its nogood makes one of the whole
  pub clamp-refutes :
      (l h : List ℕ) → Searched sets problem full low inner before after (λ t. Refuted t problem low inner l h) → (l₁ h₁ : List ℕ)
      → Unclamped full low high inner l h l₁ h₁
      → Searched sets problem full low high before after (λ t. Refuted t problem low high l₁ h₁)
  clamp-refutes l h s l₁ h₁ u t c i j n =
      let (a, m) = at_inner _ s t c i j n in
      (unclamped-refutes t c.passed problem _ full low high inner l h (counts_same problem _ refl) i j z a l₁ h₁ u, m)

-- at a pair: first with it, then without it
module _ (sets problem full low high : List ℕ) (p : ℕ) (u : undecided low high p ≡ true) (start one two : List ℕ)
    (s : Searched sets problem full low high start one (λ t. Unit {0})) (low₂ high₂ : List ℕ) (e : high₂ ≡ high)
    (c : Changed low low₂ (p / 64) (p % 64) true) where
  with_pair :
      (Given : Tables → Type 0) → Searched sets problem full low₂ high₂ one two Given
      → (t : Tables) → Problem t sets problem → IntervalOf t low high → IntervalOf t high full → Nogoods t problem start
      → Given t × Nogoods t problem two
  with_pair Given a t k i j n =
      a t k (take-keeps t k.passed low high i p u low₂ high₂ e c) (same-high t high high₂ full e j) (s t k i j n).1

  pub with-solution :
      (la : List ℕ) → Searched sets problem full low₂ high₂ one two (λ t. SolutionIn t problem low₂ high₂ la)
      → Searched sets problem full low high start two (λ t. SolutionIn t problem low high la)
  with-solution la a t k i j n =
      let (y, m) = with_pair _ a t k i j n in (take_found t k.passed low high i p u low₂ high₂ e c problem la y, m)

  module _ (la ha : List ℕ) (a : Searched sets problem full low₂ high₂ one two (λ t. Refuted t problem low₂ high₂ la ha)) where
    pub split-with :
        (x : Bool) → x ≡ takes la (p / 64) (p % 64) → x ≡ false
        → Searched sets problem full low high start two (λ t. Refuted t problem low high la ha)
    split-with x f g t k i j n =
        let (y, m) = with_pair _ a t k i j n in (with-refuted t problem k.passed low high i p u low₂ high₂ e c x la ha y f g, m)

    module _ (three low₃ high₃ : List ℕ) (f : low₃ ≡ low) (d : Changed high high₃ (p / 64) (p % 64) false) where
      without-pair :
          (Given : Tables → Type 0) → Searched sets problem full low₃ high₃ two three Given
          → (t : Tables) → Problem t sets problem → IntervalOf t low high → IntervalOf t high full → Nogoods t problem start
          → Given t × Nogoods t problem three
      without-pair Given b t k i j n =
          b t k (leave-keeps t k.passed low high i p u low₃ high₃ f d) (less-high t high high₃ full _ _ d j) (with_pair _ a t k i j n).1

      pub without-solution :
          (lb : List ℕ) → Searched sets problem full low₃ high₃ two three (λ t. SolutionIn t problem low₃ high₃ lb)
          → Searched sets problem full low high start three (λ t. SolutionIn t problem low high lb)
      without-solution lb b t k i j n =
          let (y, m) = without-pair _ b t k i j n in (leave-found t k.passed low high i p u low₃ high₃ f d problem lb y, m)

      module _ (lb hb : List ℕ) (b : Searched sets problem full low₃ high₃ two three (λ t. Refuted t problem low₃ high₃ lb hb)) where
        pub split-without :
            (x : Bool) → x ≡ takes hb (p / 64) (p % 64) → x ≡ true
            → Searched sets problem full low high start three (λ t. Refuted t problem low high lb hb)
        split-without x g o t k i j n =
            let (y, m) = without-pair _ b t k i j n in (without-refuted t problem k.passed low high i p u low₃ high₃ f d x lb hb y g o, m)

        module _ (l r : List ℕ) (m : Merged la ha lb hb (p / 64) (p % 64) l r) where
          pub split-both : Searched sets problem full low high start three (λ t. Refuted t problem low high l r)
          split-both t k i j n =
              let (v, _) = with_pair _ a t k i j n in
              let (w, z) = without-pair _ b t k i j n in
              (merged-refutes t problem k.passed low high i p u low₂ high₂ e c low₃ high₃ f d la ha lb hb v w l r m, z)

          pub split-kept : (four : List ℕ) → Added l r three four
              → Searched sets problem full low high start four (λ t. Refuted t problem low high l r)
          split-kept four g t k i j n = let (v, z) = split-both t k i j n in (v, nogoods-added t problem l r three four z v.none g)
