-- From the search to the answer within settings: where it starts, what is written, and what settings ask of assignments.
use Rattle.std.specs.Prelude.{Option, Some, None, Err, Ok}
use Prim.Native.Nat.{ℕ, ◌+◌, ◌-◌, ◌/◌, ◌%◌, ◌^◌, ◌<◌, ◌≤◌}
use mathlib.Core.Path.{◌≡◌, refl, sym, ap, ◌∙◌, subst}
use mathlib.Core.List.{List}
use mathlib.Core.Bool.{true}
use mathlib.Core.Logic.{◌⊎◌, ◌↔◌, inl, inr, ⊎_elim}
use native.Mathlib.Omega.{arith}
use lib.Dec.{eqb}
use lib.ListN.{length, get_or, take, drop, set, length-set, length-drop, get_or-eq_default}
use lib.Seq.{get_or-set_same, get_or-set_other, get_or-take, get_or-drop, length-take-le, ext_get_or}
use Rattle.subsumption.specs.declared.refusal.Refusal.{Refusal}
use Rattle.subsumption.specs.declared.refusal.Refusal.TheVariants.{BufferTooShort, NoAssignment}
use Rattle.subsumption.specs.Tables.{Tables, pairs_of}
use Rattle.subsumption.specs.Atoms.{atoms, bit}
use Rattle.subsumption.specs.Check.{table_fault, assignment_fault, buffer_fault}
use Rattle.subsumption.specs.Refusal.{Reply, reply_refused, reply_of, Outcome, Done}
use Rattle.subsumption.specs.Inner.Listing.{Accepted}
use Rattle.subsumption.proofs.Bools.{le-or-lt, last-cases}
use Rattle.subsumption.proofs.Bits.{bit-of-zero}
use Rattle.subsumption.proofs.Refusals.{stops, goes_on, done-le, refused-lt}
use Rattle.subsumption.proofs.Accepted.{well_formed}
use Rattle.settings.specs.Settings.{Settings, size, Heeds, Unrestricted, settings_fault, settings_fault_at}
use Rattle.settings.specs.Inner.Check.{Loaded}
use Rattle.settings.proofs.SizeLaws.{size-most, size-zero}
use Rattle.settings.proofs.SettingsLaws.{settings-long, settings-below}
use Rattle.matching.specs.Solving.{takes}
use Rattle.matching.specs.Within.{within_fault, FindsWithinAfter, FindsWithin}
use Rattle.matching.specs.Among.{SolvesAmong, FirstAmong, NoneAmong}
use Rattle.matching.specs.Inner.Search.{Within, Between, Meets, SolutionIn, NoSolution}
use Rattle.matching.specs.Inner.Search.Problem.{most_at, AskedAt, Problem}
use Rattle.matching.specs.Inner.Search.Nogoods.{used, Room, Nogoods}
use Rattle.matching.specs.Inner.Search.Narrow.{Narrower, Narrowed}
use Rattle.matching.specs.Inner.Search.Solve.{Refuted, Searched}
use Rattle.matching.specs.Inner.Search.Interval.{IntervalOf}
use Rattle.matching.specs.Inner.Search.Order.{FirstIn, FirstOf}
use Rattle.matching.specs.Inner.Within.{Counting, Asking, Found, FoundBy, FoundIn, FirstFound, FoundAmong, FindsAmongAfter, FindsAmong, Copied}
use Rattle.matching.proofs.SubstitutionLaws.Locality.{none-among}
use Rattle.matching.proofs.SearchLaws.Nogoods.{nogoods-none}
use Rattle.matching.proofs.SearchLaws.Solve.{full-interval, refuted-none}
use Rattle.matching.proofs.SearchLaws.Fronts.{front-known, front-takes, front-within, accepted-long, accepted-bits, accept, within-accepted}

-- ---- copying
pub copied_none : (choice before : List ℕ) → Copied 0 choice before before
copied_none choice before = record { size = refl; front = λ k h. absurd (omega arith); rest = λ k h. refl }

pub copied_more : (choice before after : List ℕ) (k : ℕ) → k < length after → Copied k choice before after → Copied (k + 1) choice before (set after k (get_or choice k 0))
copied_more choice before after k h s =
    record {
      size = length-set after k _ ∙ s.size;
      front =
          λ j l.
          ⊎_elim (λ (e : j ≡ k). ap (λ (z : ℕ). get_or (set after k (get_or choice k 0)) z 0) e ∙ get_or-set_same after k _ 0 h ∙ ap (λ (z : ℕ). get_or choice z 0) (sym e))
          (λ m. get_or-set_other after k j _ 0 (λ e. omega arith) ∙ s.front j m) (last-cases j k (omega arith));
      rest = λ j l. get_or-set_other after k j _ 0 (λ e. omega arith) ∙ s.rest j (omega arith);
    }

pub copied_all : (count k : ℕ) (choice before after : List ℕ) → k ≤ count → count ≤ k → Copied k choice before after → Copied count choice before after
copied_all count k choice before after h l s = let e : k ≡ count = omega arith in subst (λ (z : ℕ). Copied z choice before after) e s

-- ---- which questions are asked, written into a problem
module _ (wanted : ℕ) (before : List ℕ) where
  pub record AskedTo (after : List ℕ) (n : ℕ) : Type 0 where
    pub within : n ≤ 32
    pub long : length after ≡ length before
    pub here : (m : ℕ) → m < n → get_or after (939 + m) 0 ≡ wanted / 2 ^ m % 2
    pub there : (p : ℕ) → (p < 939) ⊎ (939 + n ≤ p) → get_or after p 0 ≡ get_or before p 0

  -- the asked ones are those whose bit is set
  pub asked-bit : (after : List ℕ) → Asking wanted before after → (m : ℕ) → m < 32 → AskedAt after m ↔ (bit wanted m ≡ true)
  unfolding bit
  asked-bit after asking m l =
      let e : eqb (get_or after (939 + m) 0) 1 ≡ bit wanted m = ap (λ (z : ℕ). eqb z 1) (asking.here m l) in
      (λ x. sym e ∙ x, λ x. e ∙ x)

-- the counts, and then which questions are asked
module _ (largest before counted problem : List ℕ) (wanted : ℕ) (counting : Counting largest before counted) (asking : Asking wanted counted problem) where
  pub written-long : length problem ≡ length before
  written-long = asking.long ∙ counting.long

  pub written-front : (p : ℕ) → p < 931 → get_or problem p 0 ≡ get_or before p 0
  written-front p l = asking.there p (inl (omega arith)) ∙ counting.there p (inl l)

  pub written-most : (k : ℕ) → k < length largest → k < 8 → most_at problem k ≡ get_or largest k 0
  written-most k l m = asking.there (931 + k) (inl (omega arith)) ∙ counting.here k l

-- ---- the interval of all permitted assignments: every solution that takes permitted atoms only is between nothing and the narrowed high side
module _ (t : Tables) (h : table_fault t ≡ Done) (problem low permitted high : List ℕ) (zeros : (k : ℕ) → get_or low k 0 ≡ 0) (long : length low ≡ 8)
    (accepted : assignment_fault t (take t.variables permitted) ≡ Done) (idle : (k q : ℕ) → t.variables ≤ k → takes permitted k q ≡ true → ⊥)
    (size : length high ≡ 8) (n : Narrower t problem permitted high) where
  none-low : (k q : ℕ) → takes low k q ≡ true → ⊥
  none-low k q e = bit-of-zero q (subst (λ (z : ℕ). bit z q ≡ true) (zeros k) e)

  whole : IntervalOf t low high
  whole =
      record {
        low-long = long;
        high-long = size;
        accepted =
            within-accepted t _ _ accepted (length-take-le _ high (omega (arith, (well_formed t h).few-variables)))
            (front-within t.variables high permitted n.fewer);
        ordered = λ k q e. absurd (none-low k q e);
        idle = λ k q l e. idle k q l (n.fewer k q e);
      }

  all-between :
      (other : List ℕ) → assignment_fault t other ≡ Done → Within other (take t.variables permitted) → SolvesAmong (AskedAt problem) t other
      → Between (take t.variables low) (take t.variables high) other
  all-between other a w s =
      record { above = λ k q e. absurd (none-low k q (front-known t.variables low k q e).1); below = n.all other a s w }

  nothing-found : NoSolution t problem low high → FoundBy t problem permitted None
  nothing-found x other a w m = x other a (all-between other a w m.solves) m

  first_found : (choice : List ℕ) → FirstIn t problem low high choice → Found t problem permitted choice
  first_found choice f =
      record {
        long = f.solution.long;
        accepted =
            within-accepted t _ _ accepted (length-take-le _ choice (omega (arith, f.solution.long, (well_formed t h).few-variables))) inside;
        inside = inside;
        meets = f.solution.meets;
        first = λ other a w m. f.first other a (all-between other a w m.solves) m;
      }
    where
      inside : Within (take t.variables choice) (take t.variables permitted)
      inside = front-within t.variables choice permitted (λ k q e. n.fewer k q (f.solution.between.below k q e))

-- ---- the search, whatever the tables
pub room-none : (store : List ℕ) → length store ≡ 16385 → used store ≡ 0 → Room store
room-none store e f = record { long = e; few = omega arith }

module _ (sets problem low permitted high : List ℕ) (zeros : (k : ℕ) → get_or low k 0 ≡ 0) (long : length low ≡ 8)
    (size : length high ≡ 8) (n : Narrowed sets problem permitted high)
    (before after : List ℕ) (fits : length before ≡ 16385) (none : used before ≡ 0) where
  module _ (t : Tables) (c : Problem t sets problem) (a : assignment_fault t (take t.variables permitted) ≡ Done)
      (i : (k q : ℕ) → t.variables ≤ k → takes permitted k q ≡ true → ⊥) where
    start : IntervalOf t low high
    start = whole t c.passed problem low permitted high zeros long a i size (n t c a)

    searched : (Given : Tables → Type 0) → Searched sets problem high low high before after Given → Given t × Nogoods t problem after
    searched Given s = s t c start (full-interval t low high start) (nogoods-none t problem before fits none)

  pub found_first :
      (known : List ℕ) → Searched sets problem high low high before after (λ t. SolutionIn t problem low high known)
      → (choice : List ℕ) → FirstOf sets problem low high after known choice → FoundIn sets problem permitted (Some choice)
  found_first known s choice f t c a i =
      let (x, m) = searched t c a i _ s in
      first_found t c.passed problem low permitted high zeros long a i size (n t c a) choice (f t c (start t c a i) m x)

  pub found_none :
      (below above : List ℕ) → Searched sets problem high low high before after (λ t. Refuted t problem low high below above)
      → FoundIn sets problem permitted None
  found_none below above s t c a i =
      nothing-found t c.passed problem low permitted high zeros long a i size (n t c a)
      (refuted-none t problem low high below above (searched t c a i _ s).0)

-- ---- what settings ask of an assignment
-- past the variables an accepted assignment takes nothing
few-each :
    (t : Tables) (other : List ℕ) → assignment_fault t other ≡ Done → (most : ℕ → ℕ) → ((k : ℕ) → k < t.variables → size (get_or other k 0) ≤ most k)
    → (k : ℕ) → size (get_or other k 0) ≤ most k
few-each t other a most h k =
    ⊎_elim
    (λ (l : t.variables ≤ k). omega (arith, ap size (get_or-eq_default other 0 {n = k} (omega (arith, accepted-long t other a))), size-zero))
    (h k) (le-or-lt t.variables k)

module _ (t : Tables) (s : Settings) (u : Unrestricted t s) (other : List ℕ) (a : assignment_fault t other ≡ Done) where
  pub heeds-all : Heeds s other
  heeds-all =
      record {
        permitted = λ k q e. let (l, m) = accepted-bits t other a k q e in u.all k q l m;
        few = few-each t other a (λ k. get_or s.largest k 0) (λ k l. omega (arith, size-most (get_or other k 0), u.most k l));
      }

module _ (t : Tables) (s : Settings) (ok : settings_fault t s ≡ Done) (permitted : List ℕ) (loaded : Loaded s.permitted permitted) where
  pub loaded-accepted : table_fault t ≡ Done → assignment_fault t (take t.variables permitted) ≡ Done
  loaded-accepted h =
      accept t _ (length-take-le _ permitted (omega (arith, loaded.long, (well_formed t h).few-variables)))
      (λ k l. subst (λ (z : ℕ). z < 2 ^ length (atoms t)) (sym (get_or-take _ permitted k 0 l ∙ loaded.same k)) (settings-below t s ok k l))

  pub loaded-idle : (k q : ℕ) → t.variables ≤ k → takes permitted k q ≡ true → ⊥
  loaded-idle k q l e =
      bit-of-zero q
      (subst (λ (z : ℕ). bit z q ≡ true)
      (loaded.same k ∙ get_or-eq_default s.permitted 0 {n = k} (omega (arith, (settings-long t s ok).0))) e)

  module _ (h : table_fault t ≡ Done) (before counted problem : List ℕ) (wanted : ℕ)
      (counting : Counting s.largest before counted) (asking : Asking wanted counted problem) where
    most-of : (k : ℕ) → k < t.variables → most_at problem k ≡ get_or s.largest k 0
    most-of k l =
        written-most s.largest before counted problem wanted counting asking k (omega (arith, (settings-long t s ok).1))
        (omega (arith, (well_formed t h).few-variables))

    asked_of : (m : ℕ) → m < pairs_of t.questions → AskedAt problem m ↔ (bit wanted m ≡ true)
    asked_of m l = asked-bit wanted counted problem asking m (omega (arith, (well_formed t h).few-questions))

    module _ (other : List ℕ) (a : assignment_fault t other ≡ Done) where
      heeds-inside : Heeds s other → Within other (take t.variables permitted)
      heeds-inside h k q e =
          front-takes t.variables permitted k q (accepted-bits t other a k q e).0
          (subst (λ (z : ℕ). bit z q ≡ true) (sym (loaded.same k)) (h.permitted k q e))

      heeds-meets : Heeds s other → SolvesAmong (λ m. bit wanted m ≡ true) t other → Meets t problem other
      heeds-meets h x =
          record {
            solves = λ m l y. x m l ((asked_of m l).0 y);
            few = few-each t other a (most_at problem) (λ k l. omega (arith, h.few k, most-of k l));
          }

      inside-heeds : Within other (take t.variables permitted) → Meets t problem other → Heeds s other
      inside-heeds w m =
          record {
            permitted =
                λ k q e. subst (λ (z : ℕ). bit z q ≡ true) (loaded.same k) (front-known t.variables permitted k q (w k q e)).1;
            few = few-each t other a (λ k. get_or s.largest k 0) (λ k l. omega (arith, m.few k, most-of k l));
          }

    pub found_among : (found : Option (List ℕ)) → FoundBy t problem permitted found → FoundAmong (λ m. bit wanted m ≡ true) t s found
    found_among (Some choice) f =
        record {
          long = f.long;
          first =
              record {
                accepted = f.accepted;
                heeds = inside-heeds _ f.accepted f.inside f.meets;
                solves = λ m l y. f.meets.solves m l ((asked_of m l).1 y);
                first = λ other a h x. f.first other a (heeds-inside other a h) (heeds-meets other a h x);
              };
        }
    found_among None f = λ other a h x. f other a (heeds-inside other a h) (heeds-meets other a h x)

-- the check by the number of atoms that are listed
pub settings-known : (t : Tables) (ids : List ℕ) (s : Settings) (r : Outcome) → Accepted t ids → r ≡ settings_fault_at (length ids) t.variables s → r ≡ settings_fault t s
unfolding settings_fault
settings-known t ids s r A e = subst (λ (z : List ℕ). r ≡ settings_fault_at (length z) t.variables s) A.listed e

-- ---- the answer
pub tables-refuse : (t : Tables) (s : Settings) (before : List ℕ) (r : Refusal) → Err r ≡ table_fault t → FindsWithin t s before before (reply_refused r)
unfolding within_fault
tables-refuse t s before r e =
    subst (λ (f : Outcome). FindsWithinAfter f t s before before (reply_refused r)) (stops (Err r) _ _ r e refl) (refl, refl)

module _ (asked : ℕ → Type 0) (t : Tables) (s : Settings) (before : List ℕ) where
  finds-refused : (r : Refusal) → Err r ≡ within_fault t s (length before) → FindsAmong asked t s before before (reply_refused r)
  finds-refused r e = subst (λ (f : Outcome). FindsAmongAfter f asked t s before before (reply_refused r)) e (refl, refl)

  pub settings-refuse : table_fault t ≡ Done → (r : Refusal) → Err r ≡ settings_fault t s → FindsAmong asked t s before before (reply_refused r)
  unfolding within_fault
  settings-refuse h r e = finds-refused r (goes_on Done _ _ _ (sym h) refl (stops (Err r) _ _ r e refl))

  pub buffer-refuses :
      table_fault t ≡ Done → settings_fault t s ≡ Done → length before < t.variables
      → FindsAmong asked t s before before (reply_refused (BufferTooShort t.variables))
  unfolding within_fault buffer_fault
  buffer-refuses h g l =
      finds-refused _ (goes_on Done _ _ _ (sym h) refl (goes_on Done _ _ _ (sym g) refl (refused-lt (length before) t.variables _ l)))

-- what is copied, and what is not
module _ (t : Tables) (choice before after : List ℕ) (c : Copied t.variables choice before after) where
  pub front-copied : length choice ≡ 8 → t.variables ≤ 8 → t.variables ≤ length before → take t.variables after ≡ take t.variables choice
  front-copied l v room =
      let a : t.variables ≤ length after = omega (arith, c.size) in
      let d : t.variables ≤ length choice = omega arith in
      let g : length (take t.variables after) ≡ t.variables = length-take-le t.variables after a in
      ext_get_or 0 _ _ (g ∙ sym (length-take-le t.variables choice d))
      (λ k m.
      let n : k < t.variables = omega arith in
      get_or-take _ after k 0 n ∙ c.front k n ∙ sym (get_or-take _ choice k 0 n))

  pub rest-kept : drop t.variables after ≡ drop t.variables before
  rest-kept =
      ext_get_or 0 _ _ (length-drop _ after ∙ ap (λ (z : ℕ). z - t.variables) c.size ∙ sym (length-drop _ before))
      (λ k m. get_or-drop _ after k 0 ∙ c.rest (t.variables + k) (omega arith) ∙ sym (get_or-drop _ before k 0))

module _ (asked : ℕ → Type 0) (t : Tables) (s : Settings) (before after : List ℕ) (ok : table_fault t ≡ Done) (set : settings_fault t s ≡ Done)
    (room : t.variables ≤ length before) where
  passed : Done ≡ within_fault t s (length before)
  unfolding within_fault buffer_fault
  passed = goes_on Done _ _ Done (sym ok) refl (goes_on Done _ _ Done (sym set) refl (done-le (length before) t.variables _ room))

  pub finds-filled :
      (choice : List ℕ) → FirstFound asked t s choice → Copied t.variables choice before after
      → FindsAmong asked t s before after (reply_of Done)
  finds-filled choice found c =
      subst (λ (z : Outcome). FindsAmongAfter z asked t s before after (reply_of Done)) passed
      (inl (
        refl,
        record {
          size = c.size;
          first = subst (FirstAmong asked t s) (sym (front-copied t choice before after c found.long (well_formed t ok).few-variables room)) found.first;
          rest = rest-kept t choice before after c;
        },
      ))

  pub finds-nothing : NoneAmong asked t s → after ≡ before → FindsAmong asked t s before after (reply_refused NoAssignment)
  finds-nothing none k =
      subst (λ (z : Outcome). FindsAmongAfter z asked t s before after (reply_refused NoAssignment)) passed
      (inr (
        refl,
        record {
          none = none;
          by-substitution = λ u. none-among asked t ok (λ other a x. none other a (heeds-all t s u other a) x);
          kept = k;
        },
      ))

-- where all questions are asked
module _ (asked : ℕ → Type 0) (t : Tables) (s : Settings) (before after : List ℕ) (reply : Reply) (all : (m : ℕ) → m < pairs_of t.questions → asked m) where
  after-all : (f : Outcome) → FindsAmongAfter f asked t s before after reply → FindsWithinAfter f t s before after reply
  after-all (Ok tt) (inl (e, f)) =
      inl (
        e,
        record {
          size = f.size;
          first =
              record {
                accepted = f.first.accepted;
                heeds = f.first.heeds;
                solves = λ m l. f.first.solves m l (all m l);
                first = λ other a h x. f.first.first other a h (λ m l y. x m l);
              };
          rest = f.rest;
        },
      )
  after-all (Ok tt) (inr (e, f)) =
      inr (
        e,
        record {
          none = λ other a h x. f.none other a h (λ m l y. x m l);
          by-substitution = λ u σ x. f.by-substitution u σ (λ m l y. x m l);
          kept = f.kept;
        },
      )
  after-all (Err r) x = x

  pub finds-within : FindsAmong asked t s before after reply → FindsWithin t s before after reply
  finds-within = after-all (within_fault t s (length before))
