-- Marks of ids: what each pass over them adds.
use Prim.Native.Nat.{ℕ, zero, suc, ◌+◌, ◌-◌, ◌<◌, ◌≤◌}
use mathlib.Core.Path.{◌≡◌, refl, sym, ap, ap₂, ◌∙◌, subst}
use mathlib.Core.List.{List}
use mathlib.Core.Bool.{Bool, true, false, not, false≢true}
use mathlib.Core.Logic.{◌⊎◌, ⊎_elim}
use native.Mathlib.Omega.{arith}
use native.Mathlib.Numerals.{add-one}
use native.Mathlib.Nat.{eq-or-lt_of_le}
use lib.Dec.{eqb}
use lib.ListN.{length, get_or, set, length-set}
use lib.Seq.{get_or-set_same, get_or-set_other}
use borrow.Author.Tests.{eq-eqb, ne_eqb, eqb-true}
use Rattle.subsumption.specs.declared.tables.Pair.{Pair}
use Rattle.subsumption.specs.Inner.Tables.{pair_of, Rising}
use Rattle.subsumption.specs.Tables.{or, any_below, Node, top_at, name_at, exists_at, and_at, var_at, node, decode, count_of, pairs_of, left_of, right_of, tree, variables_of, has_variable}
use Rattle.subsumption.specs.Atoms.{inside, occurs}
use Rattle.subsumption.specs.Inner.Atoms.{Layered, Known, mark_at, held, set_by, Narrow, VariableSets, in_pair, held_by, MarkedBy, VariableMarks, Spread, in_ground_right}
use Rattle.subsumption.proofs.Bools.{or_cases, or-first, or-second, or-skip, both-none, both-skip, eq-or-ne, last-cases}
use Rattle.subsumption.proofs.Trees.{set-tree, variable-top, variable-name, variable-exists, variable-and, variable-var}
use Rattle.subsumption.proofs.Inward.{Inward}
use Rattle.subsumption.proofs.Occurs.{occurs-self, occurs-exists, occurs-first, occurs-second, occurs-inward}

-- ---- a row's inner ids, by its kind
module _ (n k a b : ℕ) where
  pub exists_below : k ≡ 2 → Rising n (decode k a b) → b < n
  unfolding decode
  exists_below e h = subst (λ (z : ℕ). Rising n (decode z a b)) e h

  both_below : k ≡ 3 → Rising n (decode k a b) → (a < n) × (b < n)
  unfolding decode
  both_below e h = subst (λ (z : ℕ). Rising n (decode z a b)) e h

  pub first_below : k ≡ 3 → Rising n (decode k a b) → a < n
  first_below e h = (both_below e h).0

  pub second_below : k ≡ 3 → Rising n (decode k a b) → b < n
  second_below e h = (both_below e h).1

-- ---- which rows hold a variable
module _ (f : ℕ → Bool) (k a b : ℕ) where
  pub held_first : k ≡ 3 → f a ≡ true → true ≡ held_by f (decode k a b)
  unfolding held_by decode
  held_first e h = rw e (sym (or-first (f a) (f b) h))

module _ (concepts : List ℕ) (rising : (i : ℕ) → Rising i (node concepts i)) where
  pub held-tree : (f : ℕ → Bool) (i : ℕ) → ((j : ℕ) → j < i → f j ≡ has_variable (tree concepts j)) → held_by f (node concepts i) ≡ has_variable (tree concepts i)
  unfolding held_by
  held-tree f i h = go (node concepts i) refl (rising i)
    where
      go : (m : Node) → node concepts i ≡ m → Rising i m → held_by f (node concepts i) ≡ has_variable (tree concepts i)
      go top_at e up = ap (held_by f) e ∙ sym (variable-top concepts rising i e)
      go (name_at n) e up = ap (held_by f) e ∙ sym (variable-name concepts rising i n e)
      go (exists_at r j) e up = ap (held_by f) e ∙ h j up ∙ sym (variable-exists concepts rising i r j e)
      go (and_at j k) e up = ap (held_by f) e ∙ ap₂ or (h j up.0) (h k up.1) ∙ sym (variable-and concepts rising i j k e)
      go (var_at k) e up = ap (held_by f) e ∙ sym (variable-var concepts rising i k e)

-- ---- ids marked besides those marked before
or_assoc : (a b c : Bool) → or a (or b c) ≡ or (or a b) c
unfolding or
or_assoc true b c = refl
or_assoc false b c = refl

set-mark : (marks : List Bool) (l q : ℕ) → l < length marks → mark_at (set marks l true) q ≡ or (eqb q l) (mark_at marks q)
set-mark marks l q h =
    ⊎_elim
    (λ (e : q ≡ l). ap (mark_at (set marks l true)) e ∙ get_or-set_same marks l true false h ∙ sym (or-first (eqb q l) _ (eq-eqb q l e)))
    (λ n. get_or-set_other marks l q true false n ∙ sym (or-skip (eqb q l) _ (ne_eqb q l n)))
    (eq-or-ne q l)

pub marked-none : (marks : List Bool) → length marks ≡ 192 → MarkedBy (λ q. false) marks marks
unfolding or
marked-none marks l = record { long = l; marks = λ q. refl }

pub marked-one : (marks : List Bool) (l : ℕ) → length marks ≡ 192 → l < 192 → MarkedBy (λ q. eqb q l) marks (set marks l true)
marked-one marks l long h = record { long = length-set marks l true ∙ long; marks = λ q. set-mark marks l q (omega arith) }

pub marked-then : (f g : ℕ → Bool) (a b c : List Bool) → MarkedBy f a b → MarkedBy g b c → MarkedBy (λ q. or (g q) (f q)) a c
marked-then f g a b c s r = record { long = r.long; marks = λ q. r.marks q ∙ ap (or (g q)) (s.marks q) ∙ or_assoc (g q) (f q) (mark_at a q) }

pub marked-as : (f g : ℕ → Bool) (a b : List Bool) → ((q : ℕ) → f q ≡ g q) → MarkedBy f a b → MarkedBy g a b
marked-as f g a b e s = record { long = s.long; marks = λ q. s.marks q ∙ ap (λ (z : Bool). or z (mark_at a q)) (e q) }

or_swap : (a b : Bool) → or a b ≡ or b a
unfolding or
or_swap true true = refl
or_swap true false = refl
or_swap false true = refl
or_swap false false = refl

pub marked-two :
    (marks : List Bool) (l r : ℕ) → length marks ≡ 192 → l < 192 → r < 192
    → MarkedBy (λ q. or (eqb q l) (eqb q r)) marks (set (set marks l true) r true)
marked-two marks l r long hl hr =
    marked-as _ _ _ _ (λ q. or_swap (eqb q r) (eqb q l))
    (marked-then _ _ _ _ _ (marked-one marks l long hl) (marked-one (set marks l true) r (length-set marks l true ∙ long) hr))

-- one more place of a scan
pub marked_more :
    (test : ℕ → ℕ → Bool) (m : ℕ) (a b c : List Bool) → MarkedBy (λ q. any_below m (test q)) a b → MarkedBy (λ q. test q m) b c
    → MarkedBy (λ q. any_below (m + 1) (test q)) a c
unfolding any_below
marked_more test m a b c s r = marked-as _ _ a c (λ q. rw add-one refl) (marked-then _ _ a b c s r)

pub marked_start : (test : ℕ → ℕ → Bool) (marks : List Bool) → length marks ≡ 192 → MarkedBy (λ q. any_below 0 (test q)) marks marks
unfolding any_below
marked_start test marks l = marked-none marks l

module _ (questions sets : List ℕ) (marks : List Bool) (m : ℕ) (long : length marks ≡ 192) where
  pub marked-right :
      right_of questions m < 192 → held sets (right_of questions m) ≡ false
      → MarkedBy (λ q. in_ground_right questions sets q m) marks (set marks (right_of questions m) true)
  marked-right h e = marked-as _ _ _ _ (λ q. sym (both-skip _ _ (ap not e))) (marked-one marks (right_of questions m) long h)

  pub skipped-right : held sets (right_of questions m) ≡ true → MarkedBy (λ q. in_ground_right questions sets q m) marks marks
  skipped-right e = marked-as _ _ _ _ (λ q. sym (both-none _ _ (ap not e))) (marked-none marks long)

-- ---- the pass for variables
pub record VariablesTo (concepts : List ℕ) (marks : List Bool) (i : ℕ) : Type 0 where
  pub long : length marks ≡ 192
  pub within : i ≤ count_of concepts
  pub holds : (j : ℕ) → j < i → mark_at marks j ≡ has_variable (tree concepts j)

pub variables-none : (concepts : List ℕ) (marks : List Bool) → length marks ≡ 192 → VariablesTo concepts marks 0
variables-none concepts marks l = record { long = l; within = omega arith; holds = λ j h. absurd (omega arith) }

pub variables-more :
    (concepts : List ℕ) (marks : List Bool) (i : ℕ) (held : Bool) → ((j : ℕ) → Rising j (node concepts j)) → VariablesTo concepts marks i
    → i < count_of concepts → i < 192 → held ≡ held_by (mark_at marks) (node concepts i) → VariablesTo concepts (set marks i held) (i + 1)
variables-more concepts marks i held rising s h few e =
    record {
      long = length-set marks i held ∙ s.long;
      within = omega arith;
      holds =
          λ j l.
          ⊎_elim
          (λ (q : j ≡ i). ap (mark_at (set marks i held)) q ∙ get_or-set_same marks i held false (omega (arith, s.long)) ∙ e ∙ held-tree concepts rising (mark_at marks) i s.holds ∙ ap (λ (z : ℕ). has_variable (tree concepts z)) (sym q))
          (λ n. get_or-set_other marks i j held false (λ q. omega arith) ∙ s.holds j n)
          (last-cases j i (omega arith));
    }

pub variables-done : (concepts : List ℕ) (marks : List Bool) (i : ℕ) → VariablesTo concepts marks i → count_of concepts ≤ i → VariableMarks concepts marks
variables-done concepts marks i s h = record { long = s.long; holds = λ j l. s.holds j (omega arith) }

-- ---- a scan of pairs that marks ids
pub record MarkedTo (test : ℕ → ℕ → Bool) (rows : ℕ) (before after : List Bool) (m : ℕ) : Type 0 where
  pub within : m ≤ rows
  pub marked : MarkedBy (λ q. any_below m (test q)) before after

pub marked-to-none : (test : ℕ → ℕ → Bool) (rows : ℕ) (marks : List Bool) → length marks ≡ 192 → MarkedTo test rows marks marks 0
marked-to-none test rows marks l = record { within = omega arith; marked = marked_start test marks l }

pub marked-to-more :
    (test : ℕ → ℕ → Bool) (rows : ℕ) (a b c : List Bool) (m : ℕ) → m < rows → MarkedTo test rows a b m → MarkedBy (λ q. test q m) b c
    → MarkedTo test rows a c (m + 1)
marked-to-more test rows a b c m h s r = record { within = omega arith; marked = marked_more test m a b c s.marked r }

pub marked-to-done : (test : ℕ → ℕ → Bool) (rows : ℕ) (a b : List Bool) (m : ℕ) → MarkedTo test rows a b m → rows ≤ m → MarkedBy (λ q. any_below rows (test q)) a b
marked-to-done test rows a b m s h =
    let e : m ≡ rows = omega arith in
    marked-as _ _ a b (λ q. ap (λ (z : ℕ). any_below z (test q)) e) s.marked

module _ (count : ℕ) (pairs : List ℕ) (m : ℕ) (pair : Pair) (known : Known count pairs) (few : count ≤ 192) (h : m < pairs_of pairs) (e : pair ≡ pair_of pairs m) where
  pub left_below : pair.left < 192
  left_below = let q : pair.left ≡ left_of pairs m = cc in omega (arith, known.left-known m h)

  pub right-below : pair.right < 192
  right-below = let q : pair.right ≡ right_of pairs m = cc in omega (arith, known.right-known m h)

  pub sides-more :
      (a b : List Bool) → MarkedTo (in_pair pairs) (pairs_of pairs) a b m
      → MarkedTo (in_pair pairs) (pairs_of pairs) a (set (set b pair.left true) pair.right true) (m + 1)
  sides-more a b s =
      marked-to-more (in_pair pairs) (pairs_of pairs) a b _ m h s
      (marked-as _ _ _ _ (λ q. cc e) (marked-two b pair.left pair.right s.marked.long left_below right-below))

  pub rights-more :
      (sets : List ℕ) (a b : List Bool) → MarkedTo (in_ground_right pairs sets) (pairs_of pairs) a b m → held sets pair.right ≡ false
      → MarkedTo (in_ground_right pairs sets) (pairs_of pairs) a (set b pair.right true) (m + 1)
  rights-more sets a b s v =
      let q : pair.right ≡ right_of pairs m = cc in
      marked-to-more (in_ground_right pairs sets) (pairs_of pairs) a b _ m h s
      (rw q
      (marked-right pairs sets b m s.marked.long (rw q at right-below) (rw q at v)))

  pub rights-skip :
      (sets : List ℕ) (a b : List Bool) → MarkedTo (in_ground_right pairs sets) (pairs_of pairs) a b m → held sets pair.right ≡ true
      → MarkedTo (in_ground_right pairs sets) (pairs_of pairs) a b (m + 1)
  rights-skip sets a b s v =
      let q : pair.right ≡ right_of pairs m = cc in
      marked-to-more (in_ground_right pairs sets) (pairs_of pairs) a b b m h s (skipped-right pairs sets b m s.marked.long (rw q at v))

-- ---- a row that was read
rising-up : (i n : ℕ) (m : Node) → i ≤ n → Rising i m → Rising n m
rising-up i n top_at h up = tt
rising-up i n (name_at a) h up = tt
rising-up i n (exists_at r j) h up = omega arith
rising-up i n (and_at j k) h up = (omega arith, omega arith)
rising-up i n (var_at k) h up = tt

pub node-rising : (concepts : List ℕ) (i n : ℕ) (m : Node) → Layered concepts → i ≤ n → m ≡ node concepts i → Rising n m
node-rising concepts i n m layered h e = subst (Rising n) (sym e) (rising-up i n (node concepts i) h (layered.rising i))

-- ---- the pass that spreads marks to inner ids
pub record Spreading (concepts : List ℕ) (before marks : List Bool) (i : ℕ) : Type 0 where
  pub long : length marks ≡ 192
  pub within : i ≤ count_of concepts
  pub kept : (q : ℕ) → mark_at before q ≡ true → mark_at marks q ≡ true
  pub sound :
      (p : ℕ) → p < count_of concepts → mark_at marks p ≡ true
      → (q : ℕ) × (q < count_of concepts) × (mark_at before q ≡ true) × (occurs concepts p q ≡ true)
  pub closed :
      (j : ℕ) → i ≤ j → j < count_of concepts → mark_at marks j ≡ true → (q : ℕ) → inside (λ k. eqb q k) (node concepts j) ≡ true → mark_at marks q ≡ true

module _ (concepts : List ℕ) (layered : Layered concepts) where
  -- an inner id of j is smaller than j
  inner-less : (q j : ℕ) → inside (λ k. eqb q k) (node concepts j) ≡ true → q < j
  unfolding inside
  inner-less q j h = go (node concepts j) (layered.rising j) h
    where
      go : (m : Node) → Rising j m → inside (λ k. eqb q k) m ≡ true → q < j
      go top_at up e = absurd (false≢true e)
      go (name_at n) up e = absurd (false≢true e)
      go (exists_at r k) up e = omega (arith, eqb-true q k e)
      go (and_at k l) up e = ⊎_elim (λ x. omega (arith, eqb-true q k x, up.0)) (λ x. omega (arith, eqb-true q l x, up.1)) (or_cases _ _ e)
      go (var_at k) up e = absurd (false≢true e)

  -- an inner id of j stands in j
  inner-occurs : (q j : ℕ) → inside (λ k. eqb q k) (node concepts j) ≡ true → occurs concepts q j ≡ true
  unfolding inside
  inner-occurs q j h = go (node concepts j) refl h
    where
      here : (k : ℕ) → eqb q k ≡ true → occurs concepts q k ≡ true
      here k x = subst (λ (z : ℕ). occurs concepts q z ≡ true) (eqb-true q k x) (occurs-self concepts layered.rising q)

      go : (m : Node) → node concepts j ≡ m → inside (λ k. eqb q k) m ≡ true → occurs concepts q j ≡ true
      go top_at e x = absurd (false≢true x)
      go (name_at n) e x = absurd (false≢true x)
      go (exists_at r k) e x = occurs-exists concepts layered.rising q j r k e (here k x)
      go (and_at k l) e x =
          ⊎_elim (λ y. occurs-first concepts layered.rising q j k l e (here k y)) (λ y. occurs-second concepts layered.rising q j k l e (here l y))
          (or_cases _ _ x)
      go (var_at k) e x = absurd (false≢true x)

  pub occurs-trans : (p j q : ℕ) → occurs concepts p j ≡ true → occurs concepts j q ≡ true → occurs concepts p q ≡ true
  occurs-trans p j q h k =
      occurs-inward concepts layered.rising j (λ x. occurs concepts p x ≡ true → occurs concepts p q ≡ true)
      (record {
        inner = λ i r y e f x. f (occurs-exists concepts layered.rising p i r y e x);
        first = λ i y z e f x. f (occurs-first concepts layered.rising p i y z e x);
        second = λ i y z e f x. f (occurs-second concepts layered.rising p i y z e x);
      })
      q k (λ x. x) h

  pub spreading-none : (marks : List Bool) → length marks ≡ 192 → Spreading concepts marks marks (count_of concepts)
  spreading-none marks l =
      record {
        long = l;
        within = omega arith;
        kept = λ q h. h;
        sound = λ p h k. (p, h, k, occurs-self concepts layered.rising p);
        closed = λ j h k. absurd (omega arith);
      }

  module _ (before marks : List Bool) (i : ℕ) (s : Spreading concepts before marks i) (h : 0 < i) where
    pub spreading-skip : mark_at marks (i - 1) ≡ false → Spreading concepts before marks (i - 1)
    spreading-skip e =
        record {
          long = s.long;
          within = omega (arith, s.within);
          kept = s.kept;
          sound = s.sound;
          closed =
              λ j l k m q x.
              ⊎_elim (λ (y : i - 1 ≡ j). absurd (false≢true (sym e ∙ ap (mark_at marks) y ∙ m))) (λ y. s.closed j (omega arith) k m q x) (eq-or-lt_of_le l);
        }

    pub spreading-more :
        (w : Node) (after : List Bool) → w ≡ node concepts (i - 1) → mark_at marks (i - 1) ≡ true → MarkedBy (λ q. inside (λ k. eqb q k) w) marks after
        → Spreading concepts before after (i - 1)
    spreading-more w after e m r =
        record {
          long = r.long;
          within = omega (arith, s.within);
          kept = λ q b. old q (s.kept q b);
          sound = λ p l k. ⊎_elim (λ x. through p l x) (λ x. s.sound p l x) (cases p k);
          closed =
              λ j l k a q x.
              ⊎_elim
              (λ (y : i - 1 ≡ j). new q (subst (λ (z : ℕ). inside (λ k. eqb q k) (node concepts z) ≡ true) (sym y) x))
              (λ y. old q (s.closed j (omega arith) k (was j (omega arith) a) q x))
              (eq-or-lt_of_le l);
        }
      where
        at : (q : ℕ) → mark_at after q ≡ or (inside (λ k. eqb q k) (node concepts (i - 1))) (mark_at marks q)
        at q = r.marks q ∙ ap (λ (z : Node). or (inside (λ k. eqb q k) z) (mark_at marks q)) e

        old : (q : ℕ) → mark_at marks q ≡ true → mark_at after q ≡ true
        old q x = at q ∙ or-second _ _ x

        new : (q : ℕ) → inside (λ k. eqb q k) (node concepts (i - 1)) ≡ true → mark_at after q ≡ true
        new q x = at q ∙ or-first _ _ x

        cases : (q : ℕ) → mark_at after q ≡ true → (inside (λ k. eqb q k) (node concepts (i - 1)) ≡ true) ⊎ (mark_at marks q ≡ true)
        cases q x = or_cases _ _ (sym (at q) ∙ x)

        was : (j : ℕ) → i ≤ j → mark_at after j ≡ true → mark_at marks j ≡ true
        was j l x = ⊎_elim (λ y. absurd (omega (arith, inner-less j (i - 1) y))) (λ y. y) (cases j x)

        through :
            (p : ℕ) → p < count_of concepts → inside (λ k. eqb p k) (node concepts (i - 1)) ≡ true
            → (q : ℕ) × (q < count_of concepts) × (mark_at before q ≡ true) × (occurs concepts p q ≡ true)
        through p l x =
            let (q, a, b, o) = s.sound (i - 1) (omega (arith, s.within)) m in
            (q, a, b, occurs-trans p (i - 1) q (inner-occurs p (i - 1) x) o)

  pub spreading-done : (before marks : List Bool) (i : ℕ) → Spreading concepts before marks i → i ≤ 0 → Spread concepts before marks
  unfolding inside
  spreading-done before marks i s h =
      record {
        long = s.long;
        sound = s.sound;
        complete = λ p q l b o. (occurs-inward concepts layered.rising p (λ x. (x < count_of concepts) × (mark_at marks x ≡ true)) inward q o (l, s.kept q b)).1;
      }
    where
      step : (x y : ℕ) → inside (λ k. eqb y k) (node concepts x) ≡ true → (x < count_of concepts) × (mark_at marks x ≡ true) → (y < count_of concepts) × (mark_at marks y ≡ true)
      step x y z w = let (a, b) = w in (omega (arith, inner-less y x z), s.closed x (omega arith) a b y z)

      self : (y : ℕ) → eqb y y ≡ true
      self y = eq-eqb y y refl

      inward : Inward concepts (λ x. (x < count_of concepts) × (mark_at marks x ≡ true))
      inward =
          record {
            inner = λ x r y e. step x y (ap (inside (λ k. eqb y k)) e ∙ self y);
            first = λ x y z e. step x y (ap (inside (λ k. eqb y k)) e ∙ or-first _ _ (self y));
            second = λ x y z e. step x z (ap (inside (λ k. eqb z k)) e ∙ or-second _ _ (self z));
          }

-- ---- the sets of the variables, row by row
pub set_rest : (f : ℕ → ℕ) (k a b : ℕ) → (k ≡ 2 → ⊥) → (k ≡ 3 → ⊥) → (k ≡ 4 → ⊥) → 0 ≡ set_by f (decode k a b)
unfolding set_by decode
set_rest f zero a b h2 h3 h4 = refl
set_rest f (suc zero) a b h2 h3 h4 = refl
set_rest f (suc (suc zero)) a b h2 h3 h4 = absurd (h2 refl)
set_rest f (suc (suc (suc zero))) a b h2 h3 h4 = absurd (h3 refl)
set_rest f (suc (suc (suc (suc zero)))) a b h2 h3 h4 = absurd (h4 refl)
set_rest f (suc (suc (suc (suc (suc k))))) a b h2 h3 h4 = refl

pub record SetsTo (concepts sets : List ℕ) (i : ℕ) : Type 0 where
  pub long : length sets ≡ 192
  pub within : i ≤ count_of concepts
  pub each : (j : ℕ) → j < i → get_or sets j 0 ≡ variables_of (tree concepts j)

pub sets-none : (concepts sets : List ℕ) → length sets ≡ 192 → SetsTo concepts sets 0
sets-none concepts sets l = record { long = l; within = omega arith; each = λ j h. absurd (omega arith) }

pub sets-row :
    (concepts sets : List ℕ) (i x : ℕ) → Layered concepts → SetsTo concepts sets i → i < count_of concepts
    → x ≡ set_by (λ j. get_or sets j 0) (node concepts i) → SetsTo concepts (set sets i x) (i + 1)
sets-row concepts sets i x layered s h k =
    record {
      long = length-set sets i x ∙ s.long;
      within = omega arith;
      each =
          λ j l.
          ⊎_elim
          (λ (q : j ≡ i).
          ap (λ (z : ℕ). get_or (set sets i x) z 0) q ∙ get_or-set_same sets i x 0 (omega (arith, s.long, layered.few)) ∙ k
          ∙ set-tree concepts layered.rising (λ j. get_or sets j 0) i s.each
          ∙ ap (λ (z : ℕ). variables_of (tree concepts z)) (sym q))
          (λ n. get_or-set_other sets i j x 0 (λ q. omega arith) ∙ s.each j n)
          (last-cases j i (omega arith));
    }

pub sets-done : (concepts sets : List ℕ) (i : ℕ) → SetsTo concepts sets i → count_of concepts ≤ i → VariableSets concepts sets
sets-done concepts sets i s h = record { long = s.long; each = λ j l. s.each j (omega arith) }

pub node-narrow :
    (concepts : List ℕ) (i : ℕ) (m : Node) → ((j k : ℕ) → node concepts j ≡ var_at k → k < 8) → m ≡ node concepts i → Narrow m
node-narrow concepts i m few e = subst Narrow (sym e) (go (node concepts i) refl)
  where
    go : (m : Node) → node concepts i ≡ m → Narrow m
    go top_at h = tt
    go (name_at n) h = tt
    go (exists_at r j) h = tt
    go (and_at j k) h = tt
    go (var_at k) h = few i k h

-- by its set, the id holds a variable exactly when its concept does
pub held-set : (concepts sets : List ℕ) → VariableSets concepts sets → (i : ℕ) → i < count_of concepts → held sets i ≡ has_variable (tree concepts i)
unfolding has_variable
held-set concepts sets s i l = ap (λ (z : ℕ). not (eqb z 0)) (s.each i l)
