-- The walk: which partial choices are open, by the tests, and how far the order is gone through.
use Rattle.subsumption.specs.Refusal.{Done}
use Prim.Native.Nat.{ℕ, zero, suc, ◌+◌, ◌*◌, ◌-◌, ◌/◌, ◌%◌, ◌<◌, ◌≤◌}
use mathlib.Core.Path.{◌≡◌, refl, sym, ap, ◌∙◌, subst}
use mathlib.Core.List.{List, [], ◌∷◌, ◌++◌}
use mathlib.Core.Bool.{Bool, true, false, true≢false}
use mathlib.Core.Logic.{⊎_elim}
use native.Mathlib.Omega.{arith}
use native.Mathlib.Nat.{mul-le-mul_right}
use lib.ListN.{length, get_or, take, drop, replicate, length-take, get_or-replicate, get_or-eq_default}
use lib.Seq.{get_or-take, length-take-le}
use Rattle.subsumption.specs.Tables.{Tables}
use Rattle.subsumption.specs.Atoms.{bit}
use Rattle.subsumption.specs.Check.{table_fault, assignment_fault}
use Rattle.subsumption.proofs.Bools.{le-or-lt}
use Rattle.subsumption.proofs.Bits.{bit-of-zero}
use Rattle.subsumption.proofs.Accepted.{well_formed}
use Rattle.settings.specs.Settings.{Settings, Heeds, size}
use Rattle.settings.specs.Inner.Counts.{Over, Counted}
use Rattle.settings.proofs.SettingsLaws.{settings-long, settings-below}
use Rattle.settings.proofs.SizeLaws.{size_none, size-zero}
use Rattle.matching.specs.Solving.{takes}
use Rattle.matching.specs.Inner.Search.{Decided, Within}
use Rattle.matching.specs.Inner.Search.Interval.{IntervalOf}
use Rattle.matching.specs.Inner.Search.Pairs.{Changed}
use Rattle.matching.proofs.SearchLaws.Counts.{counts_same, few-front}
use Rattle.matching.proofs.SearchLaws.Interval.{decided-true, decided-false, low-accepted}
use Rattle.matching.proofs.SearchLaws.Fronts.{below-bits, front-known, front-takes, accepted-bits, accept}
use Rattle.allowance.specs.Partial.{settled, pairs, Completed, Asked, Open, partials, all_partials}
use Rattle.allowance.specs.Count.{Stretch, none, Answered, Exceeds}
use Rattle.allowance.specs.declared.walk.Ending.TheVariants.{Found, Spent, Absent}
use Rattle.allowance.specs.Inner.Place.{At, Words, has_next, next_of, NextAt}
use Rattle.allowance.specs.Inner.Kept.{Kept, Tried}
use Rattle.allowance.specs.Inner.Walk.{Lent, OpenedBy, Walked}
use Rattle.allowance.proofs.PartialLaws.{settled-rest, settled-known, completed-same, up_to, up_to-length, taken_at, read_back}
use Rattle.allowance.proofs.OrderLaws.{stretch-join, stretch-open, shut-all, ahead, ahead-extend, ahead-next, Reached, reached-start, reached-extend, reached-next, reached-last, reached-here}
use Rattle.allowance.proofs.PlaceLaws.{words-none, words-leave}

-- ---- what is permitted
not-that : (b : Bool) → (b ≡ true → ⊥) → b ≡ false
not-that true h = absurd (h refl)
not-that false h = refl

module _ (t : Tables) (settings : Settings) (sets problem permitted : List ℕ) (count : ℕ) (lent : Lent t settings sets problem permitted count) where
  few-variables : t.variables ≤ 8
  few-variables = (well_formed t lent.problem-of.passed).few-variables

  permitted-same : (k q : ℕ) → takes permitted k q ≡ takes settings.permitted k q
  permitted-same k q = ap (λ (z : ℕ). bit z q) (lent.loaded.same k)

  permitted-known : (k q : ℕ) → takes permitted k q ≡ true → (k < t.variables) × (q < count)
  permitted-known k q e =
      let (l, m) =
      accepted-bits t settings.permitted (accept t _ (settings-long t settings lent.set).0 (settings-below t settings lent.set)) k q
      (sym (permitted-same k q) ∙ e) in
      (l, omega (arith, lent.many))

  -- the words of a partial choice of the pairs of these tables
  module _ (low high : List ℕ) (s : List Bool) (few : length s ≤ t.variables * count) (w : Words count permitted low high s) where
    settled-variable : (k q : ℕ) → k * count + q < length s → k < t.variables
    settled-variable k q l =
        ⊎_elim (λ (m : t.variables ≤ k). absurd (omega (arith, mul-le-mul_right {m = t.variables} {n = k} count m))) (λ m. m) (le-or-lt t.variables k)

    low-known : (k q : ℕ) → takes low k q ≡ true → (k < t.variables) × (q < count)
    low-known k q e =
        ⊎_elim (λ (l : count ≤ q). absurd (true≢false (sym e ∙ w.low-side.past k q l)))
        (λ (l : q < count).
        ⊎_elim (λ (m : length s ≤ k * count + q). absurd (true≢false (sym e ∙ w.low-side.taken k q l ∙ settled-rest s false _ m)))
        (λ m. (settled-variable k q m, l)) (le-or-lt (length s) (k * count + q)))
        (le-or-lt count q)

    high-known : (k q : ℕ) → takes high k q ≡ true → (k < t.variables) × (q < count)
    high-known k q e =
        ⊎_elim (λ (l : count ≤ q). permitted-known k q (sym (w.high-side.past k q l) ∙ e))
        (λ (l : q < count).
        ⊎_elim (λ (m : length s ≤ k * count + q). permitted-known k q (sym (w.high-side.taken k q l ∙ settled-rest s _ _ m) ∙ e))
        (λ m. (settled-variable k q m, l)) (le-or-lt (length s) (k * count + q)))
        (le-or-lt count q)

    words-at : At t.variables count permitted low high s
    words-at =
        record {
          low-long = w.low-side.long;
          high-long = w.high-side.long;
          within = few;
          low-taken = λ k q l m. w.low-side.taken k q m;
          high_taken = λ k q l m. w.high-side.taken k q m;
          low-known = low-known;
          high-known = high-known;
        }

  -- ---- the tests
  completed-front :
      (a : List ℕ) (rest : ℕ → ℕ → Bool) (s : List Bool) → length a ≡ 8 → ((k q : ℕ) → takes a k q ≡ true → (k < t.variables) × (q < count))
      → ((k q : ℕ) → k < t.variables → q < count → takes a k q ≡ settled s (rest k q) (k * count + q)) → Completed t s rest (take t.variables a)
  completed-front a rest s e known taken =
      record {
        accepted =
            accept t _ (length-take-le _ a (omega (arith, few-variables)))
            (λ k l. below-bits _ _ (λ q x. omega (arith, (known k q (front-known t.variables a k q x).1).1, lent.many)));
        taken =
            λ k q l m.
            ap (λ (z : ℕ). bit z q) (get_or-take t.variables a k 0 l)
            ∙ subst (λ (z : ℕ). takes a k q ≡ settled s (rest k q) (k * z + q)) (sym lent.many) (taken k q l (omega (arith, lent.many)));
      }

  module _ (low high : List ℕ) (s : List Bool) (a : At t.variables count permitted low high s) where
    left_out : Completed t s (λ k q. false) (take t.variables low)
    left_out = completed-front low _ s a.low-long a.low-known a.low-taken

    taken : Completed t s (takes settings.permitted) (take t.variables high)
    taken =
        completed-front high _ s a.high-long a.high-known
        (λ k q l m. a.high_taken k q l m ∙ ap (λ (z : Bool). settled s z (k * count + q)) (permitted-same k q))

    open-heeds : Open t settings s → Heeds settings (take t.variables low)
    open-heeds o = subst (Heeds settings) (completed-same t s _ _ _ o.left_out left_out) o.heeds

    open-fewer : Open t settings s → Asked t true (take t.variables low)
    open-fewer o = subst (Asked t true) (completed-same t s _ _ _ o.left_out left_out) o.fewer

    open_more : Open t settings s → Asked t false (take t.variables high)
    open_more o = subst (Asked t false) (completed-same t s _ _ _ o.taken taken) o.more

    open-within : Open t settings s → Within low permitted
    open-within o k q e =
        permitted-same k q ∙ (open-heeds o).permitted k q (front-takes t.variables low k q (a.low-known k q e).0 e)

    module _ (most : List ℕ) (lent-counts : most ≡ take 8 (drop 931 problem)) where
      over-most : Over most low → Open t settings s → ⊥
      over-most x o =
          ⊎_elim
          (λ (l : t.variables ≤ x.variable).
          omega (arith, x.over, size_none (get_or low x.variable 0) (λ q m. not-that _ (λ e. omega (arith, (a.low-known x.variable q e).0)))))
          (λ l.
          omega (
            arith,
            x.over,
            ap size (get_or-take t.variables low x.variable 0 l),
            (open-heeds o).few x.variable,
            lent.counts x.variable l,
            counts_same problem most lent-counts x.variable x.low,
          ))
          (le-or-lt t.variables x.variable)

      few-heeds : Within low permitted → Counted most low true → Heeds settings (take t.variables low)
      few-heeds w f =
          record {
            permitted = λ k q e. sym (permitted-same k q) ∙ w k q (front-known t.variables low k q e).1;
            few =
                λ k.
                ⊎_elim
                (λ (l : t.variables ≤ k).
                omega
                (arith, ap size (get_or-eq_default (take t.variables low) 0 {n = k} (omega (arith, length-take t.variables low))), size-zero))
                (λ l. omega (arith, few-front problem most low (counts_same problem most lent-counts) t.variables few-variables f k, lent.counts k l))
                (le-or-lt t.variables k);
          }

      passed-open :
          Within low permitted → Counted most low true → Asked t true (take t.variables low) → Asked t false (take t.variables high) → Open t settings s
      passed-open w f x y =
          record {
            low = take t.variables low;
            high = take t.variables high;
            left_out = left_out;
            taken = taken;
            heeds = few-heeds w f;
            fewer = x;
            more = y;
          }

    interval : (b : List ℕ) → length b ≡ 8 → Within b permitted → IntervalOf t b permitted
    interval b e w =
        record {
          low-long = e;
          high-long = lent.loaded.long;
          accepted =
              accept t _ (length-take-le _ permitted (omega (arith, few-variables, lent.loaded.long)))
              (λ k l. below-bits _ _ (λ q x. omega (arith, (permitted-known k q (front-known t.variables permitted k q x).1).1, lent.many)));
          ordered = w;
          idle = λ k q l x. omega (arith, (permitted-known k q x).0);
        }

    low-passes : Within low permitted → assignment_fault t (take t.variables low) ≡ Done
    low-passes w = low-accepted t lent.problem-of.passed low permitted (interval low a.low-long w)

    high-passes : Within low permitted → assignment_fault t (take t.variables high) ≡ Done
    high-passes w = low-accepted t lent.problem-of.passed high permitted (interval high a.high-long within)
      where
        within : Within high permitted
        within k q e =
            let (l, m) = a.high-known k q e in
            let f : settled s (takes permitted k q) (k * count + q) ≡ true = sym (a.high_taken k q l m) ∙ e in
            ⊎_elim (λ (i : length s ≤ k * count + q). sym (settled-rest s _ _ i) ∙ f)
            (λ i. w k q (a.low-taken k q l m ∙ settled-known s _ _ _ i ∙ f)) (le-or-lt (length s) (k * count + q))

-- what the tests tell, in the order of the code
module _ (sets problem permitted low high before : List ℕ) where
  pub outside-shut : (w : Bool) → Decided (Within low permitted) w → w ≡ false → OpenedBy sets problem permitted low high before before false
  outside-shut w d e count t settings s lent a k =
      (λ o. decided-false _ w d e (open-within t settings sets problem permitted count lent low high s a o), k)

  pub over-shut :
      (most : List ℕ) → most ≡ take 8 (drop 931 problem) → (f : Bool) → Counted most low f → f ≡ false
      → OpenedBy sets problem permitted low high before before false
  over-shut most m f c e count t settings s lent a k =
      (over-most t settings sets problem permitted count lent low high s a most m (subst (Counted most low) e c), k)

  module _ (after : List ℕ) (w : Bool) (d : Decided (Within low permitted) w) (e : w ≡ true) where
    pub fewer-shut :
        (x : Bool) → Tried sets problem low true before after x → x ≡ false → OpenedBy sets problem permitted low high before after false
    fewer-shut x h f count t settings s lent a k =
        let (y, k₁) = h t lent.problem-of lent.all_asked (low-passes t settings sets problem permitted count lent low high s a (decided-true _ w d e)) k in
        (λ o. decided-false _ x y f (open-fewer t settings sets problem permitted count lent low high s a o), k₁)

    pub more-decides :
        (most : List ℕ) → most ≡ take 8 (drop 931 problem) → (f : Bool) → Counted most low f → f ≡ true → (middle : List ℕ) (x : Bool)
        → Tried sets problem low true before middle x → x ≡ true → (y : Bool) → Tried sets problem high false middle after y
        → OpenedBy sets problem permitted low high before after y
    more-decides most m f c g middle x h i y j count t settings s lent a k =
        let within : Within low permitted = decided-true _ w d e in
        let (p, k₁) = h t lent.problem-of lent.all_asked (low-passes t settings sets problem permitted count lent low high s a within) k in
        let (q, k₂) = j t lent.problem-of lent.all_asked (high-passes t settings sets problem permitted count lent low high s a within) k₁ in
        (go y q (decided-true _ x p i) (subst (Counted most low) g c) within, k₂)
      where
        go :
            (y : Bool) → Decided (Asked t false (take t.variables high)) y → Asked t true (take t.variables low) → Counted most low true
            → Within low permitted → Decided (Open t settings s) y
        go true q p c w = passed-open t settings sets problem permitted count lent low high s a most m w c p q
        go false q p c w = λ o. q (open_more t settings sets problem permitted count lent low high s a o)

-- ---- how far the walk is
-- the partial choice, read off the words
abbrev pub read_off : ℕ → List ℕ → ℕ → List Bool
read_off count low many = up_to (taken_at low count) many

read_same : (count : ℕ) (permitted low high : List ℕ) (s : List Bool) (n : ℕ) → Words count permitted low high s → length s ≡ n → read_off count low n ≡ s
read_same count permitted low high s n w e =
    subst (λ (z : ℕ). read_off count low z ≡ s) e (read_back 8 count low s w.few (λ k q l m. w.low-side.taken k q m))

-- the words are those of a partial choice of no more than all pairs
pub record Standing (count all : ℕ) (permitted low high : List ℕ) (many : ℕ) : Type 0 where
  pub words : Words count permitted low high (read_off count low many)
  pub few : many ≤ all

standing_by :
    (count all : ℕ) (permitted low high : List ℕ) (s : List Bool) (n : ℕ) → Words count permitted low high s → length s ≡ n → n ≤ all
    → Standing count all permitted low high n
standing_by count all permitted low high s n w e l =
    record { words = subst (Words count permitted low high) (sym (read_same count permitted low high s n w e)) w; few = l }

next-short : (s : List Bool) → length (next_of s) ≤ length s
unfolding next_of
next-short [] = omega arith
next-short (false ∷ s) = omega arith
next-short (true ∷ s) = omega (arith, next-short s)

nothing-taken : (k q : ℕ) → takes (replicate 8 0) k q ≡ false
nothing-taken k q =
    not-that _
    (λ e.
    bit-of-zero q
    (subst (λ (z : ℕ). bit z q ≡ true)
    (⊎_elim (λ (l : 8 ≤ k). get_or-eq_default (replicate 8 0) 0 {n = k} l) (λ l. get_or-replicate 8 k 0 0 l) (le-or-lt 8 k)) e))

pub standing-none : (count all : ℕ) (permitted : List ℕ) → length permitted ≡ 8 → Standing count all permitted (replicate 8 0) permitted 0
standing-none count all permitted e =
    standing_by count all permitted (replicate 8 0) permitted [] 0 (words-none count permitted (replicate 8 0) permitted refl e nothing-taken) refl
    (omega arith)

-- where it comes to with one more pair left out, and with the next one that does not extend it; each time fewer are ahead
module _ (count all : ℕ) (permitted low high : List ℕ) (many : ℕ) (x : Standing count all permitted low high many) (low₁ high₁ : List ℕ) (many₁ : ℕ) where
  long : length (read_off count low many) ≡ many
  long = up_to-length _ many

  module _ (l : many < all) (m : all ≤ 8 * count) (e : low₁ ≡ low) (f : many₁ ≡ many + 1) (c : Changed high high₁ (many / count) (many % count) false) where
    leave-words : Words count permitted low₁ high₁ (false ∷ read_off count low many)
    leave-words = words-leave count permitted low high (read_off count low many) many long (omega arith) low₁ high₁ x.words e c

    pub leave-standing : Standing count all permitted low₁ high₁ many₁
    leave-standing = standing_by count all permitted low₁ high₁ (false ∷ read_off count low many) many₁ leave-words (omega (arith, long)) (omega arith)

    pub leave-read : read_off count low₁ many₁ ≡ false ∷ read_off count low many
    leave-read = read_same count permitted low₁ high₁ (false ∷ read_off count low many) many₁ leave-words (omega (arith, long))

    pub leave-less : ahead (all - many₁) (read_off count low₁ many₁) < ahead (all - many) (read_off count low many)
    leave-less =
        let g : suc (all - many₁) ≡ all - many = omega arith in
        subst (λ (z : List Bool). ahead (all - many₁) z < ahead (all - many) (read_off count low many)) (sym leave-read)
        (subst (λ (z : ℕ). ahead (all - many₁) (false ∷ read_off count low many) < ahead z (read_off count low many)) g
        (ahead-extend (all - many₁) (read_off count low many)))

  module _
      (n : (s : List Bool) → Words count permitted low high s → length s ≡ many
      → (has_next s ≡ true) × NextAt count permitted low₁ high₁ many₁ s) where
    pub next-has : has_next (read_off count low many) ≡ true
    next-has = (n (read_off count low many) x.words long).0

    next-at : NextAt count permitted low₁ high₁ many₁ (read_off count low many)
    next-at = (n (read_off count low many) x.words long).1

    pub next-standing : Standing count all permitted low₁ high₁ many₁
    next-standing =
        standing_by count all permitted low₁ high₁ (next_of (read_off count low many)) many₁ next-at.words next-at.many
        (omega (arith, next-at.many, next-short (read_off count low many), long, x.few))

    pub next-read : read_off count low₁ many₁ ≡ next_of (read_off count low many)
    next-read = read_same count permitted low₁ high₁ (next_of (read_off count low many)) many₁ next-at.words next-at.many

    pub next-less : ahead (all - many₁) (read_off count low₁ many₁) < ahead (all - many) (read_off count low many)
    next-less =
        subst (λ (z : List Bool). ahead (all - many₁) z < ahead (all - many) (read_off count low many)) (sym next-read)
        (ahead-next (all - many) (all - many₁) (read_off count low many) next-has
        (omega (arith, next-at.many, next-short (read_off count low many), long, x.few)))

pub next_none :
    (count all : ℕ) (permitted low high : List ℕ) (many : ℕ) → Standing count all permitted low high many
    → ((s : List Bool) → Words count permitted low high s → length s ≡ many → has_next s ≡ false)
    → has_next (read_off count low many) ≡ false
next_none count all permitted low high many x n = n (read_off count low many) x.words (up_to-length _ many)

-- the order up to where the walk is, of it so many open, without an answer
pub record Progress (t : Tables) (settings : Settings) (s : List Bool) (met : ℕ) : Type 0 where
  pub before : List (List Bool)
  pub unsettled : ℕ
  pub reached : Reached (pairs t) before unsettled s
  pub stretch : Stretch t settings before met

module _ (t : Tables) (settings : Settings) where
  progress-none : Progress t settings [] 0
  progress-none = record { before = []; unsettled = pairs t; reached = reached-start (pairs t); stretch = none }

  module _ (s : List Bool) (met : ℕ) (p : Progress t settings s met) where
    progress-open : length s < pairs t → Open t settings s → Progress t settings (false ∷ s) (met + 1)
    progress-open l o = go p.unsettled p.reached
      where
        go : (r : ℕ) → Reached (pairs t) p.before r s → Progress t settings (false ∷ s) (met + 1)
        go zero x = absurd (omega (arith, x.many))
        go (suc r) x =
            record {
              before = p.before ++ (s ∷ []);
              unsettled = r;
              reached = reached-extend (pairs t) p.before r s x;
              stretch = stretch-join t settings _ _ met 1 p.stretch (stretch-open t settings s l o);
            }

    progress-spent : Open t settings s → Exceeds t settings met
    unfolding all_partials
    progress-spent o =
        let (after, e) = reached-here (pairs t) p.before p.unsettled s p.reached in
        record { before = p.before; here = s; after = after; order = e; stretch = p.stretch; is_open = o }

    progress-found : length s ≡ pairs t → Open t settings s → Answered t settings met s
    unfolding all_partials
    progress-found l o =
        let (after, e) = reached-here (pairs t) p.before p.unsettled s p.reached in
        record { before = p.before; after = after; order = e; stretch = p.stretch; whole = l; is_open = o }

    module _ (h : table_fault t ≡ Done) (n : Open t settings s → ⊥) where
      more : Stretch t settings (p.before ++ partials p.unsettled s) met
      more =
          subst (Stretch t settings (p.before ++ partials p.unsettled s)) (omega arith)
          (stretch-join t settings _ _ met 0 p.stretch (shut-all t settings h p.unsettled s n))

      progress-next : has_next s ≡ true → Progress t settings (next_of s) met
      progress-next e =
          let (r, x) = reached-next (pairs t) p.before p.unsettled s p.reached e in
          record { before = p.before ++ partials p.unsettled s; unsettled = r; reached = x; stretch = more }

      progress-last : has_next s ≡ false → Stretch t settings (all_partials t) met
      unfolding all_partials
      progress-last e =
          subst (λ (z : List (List Bool)). Stretch t settings z met) (sym (reached-last (pairs t) p.before p.unsettled s p.reached e)) more

-- ---- one turn of the walk
-- whatever the tables and settings are
abbrev pub Goes : List ℕ → List ℕ → List ℕ → ℕ → ℕ → List ℕ → List ℕ → ℕ → ℕ → Type 0
Goes sets problem permitted count all kept low many met =
    (t : Tables) (settings : Settings) → Lent t settings sets problem permitted count → t.variables * count ≡ all
    → Progress t settings (read_off count low many) met × Kept t kept

pub goes_none :
    (sets problem permitted : List ℕ) (count all : ℕ) (kept low : List ℕ) → ((t : Tables) → Kept t kept) → Goes sets problem permitted count all kept low 0 0
unfolding up_to
goes_none sets problem permitted count all kept low k t settings lent e = (progress-none t settings, k t)

module _ (sets problem permitted : List ℕ) (count all : ℕ) (low high : List ℕ) (many met : ℕ) (x : Standing count all permitted low high many)
    (kept kept₁ : List ℕ) (g : Goes sets problem permitted count all kept low many met) (answer : Bool)
    (by : OpenedBy sets problem permitted low high kept kept₁ answer) where
  module _ (t : Tables) (settings : Settings) (lent : Lent t settings sets problem permitted count) (e : t.variables * count ≡ all) where
    all-pairs : pairs t ≡ all
    all-pairs = ap (λ (z : ℕ). t.variables * z) lent.many ∙ e

    words : At t.variables count permitted low high (read_off count low many)
    words =
        words-at t settings sets problem permitted count lent low high (read_off count low many) (omega (arith, x.few, up_to-length (taken_at low count) many)) x.words

    tested : Decided (Open t settings (read_off count low many)) answer × Kept t kept₁
    tested = by count t settings _ lent words (g t settings lent e).1

  pub goes-leave :
      answer ≡ true → many < all → (low₁ : List ℕ) (many₁ : ℕ) → read_off count low₁ many₁ ≡ false ∷ read_off count low many
      → Goes sets problem permitted count all kept₁ low₁ many₁ (met + 1)
  goes-leave a l low₁ many₁ f t settings lent e = (
    subst (λ (z : List Bool). Progress t settings z (met + 1)) (sym f)
        (progress-open t settings _ met (g t settings lent e).0
        (omega (arith, up_to-length (taken_at low count) many, all-pairs t settings lent e))
        (decided-true _ answer (tested t settings lent e).0 a)),
    (tested t settings lent e).1,
  )

  pub goes-next :
      answer ≡ false → (low₁ : List ℕ) (many₁ : ℕ) → has_next (read_off count low many) ≡ true → read_off count low₁ many₁ ≡ next_of (read_off count low many)
      → Goes sets problem permitted count all kept₁ low₁ many₁ met
  goes-next a low₁ many₁ h f t settings lent e = (
    subst (λ (z : List Bool). Progress t settings z met) (sym f)
        (progress-next t settings _ met (g t settings lent e).0 lent.problem-of.passed (decided-false _ answer (tested t settings lent e).0 a) h),
    (tested t settings lent e).1,
  )

  module _ (allowance : ℕ) where
    pub walked-spent : answer ≡ true → met ≡ allowance → Walked sets problem permitted count all allowance Spent met
    walked-spent a m t settings lent e = (
      subst (Exceeds t settings) m (progress-spent t settings _ met (g t settings lent e).0 (decided-true _ answer (tested t settings lent e).0 a)),
      m,
    )

    pub walked_none :
        answer ≡ false → met ≤ allowance → has_next (read_off count low many) ≡ false
        → Walked sets problem permitted count all allowance Absent met
    walked_none a l h t settings lent e = (
      progress-last t settings _ met (g t settings lent e).0 lent.problem-of.passed (decided-false _ answer (tested t settings lent e).0 a) h,
      l,
    )

    pub walked-found : answer ≡ true → met + 1 ≤ allowance → many ≡ all
        → Walked sets problem permitted count all allowance (Found low) (met + 1)
    walked-found a l m t settings lent e = (
      record {
        high = high;
        s = read_off count low many;
        before = met;
        counted = omega arith;
        words = words t settings lent e;
        first =
            progress-found t settings _ met (g t settings lent e).0 (up_to-length (taken_at low count) many ∙ m ∙ sym (all-pairs t settings lent e))
            (decided-true _ answer (tested t settings lent e).0 a);
      },
      l,
    )
