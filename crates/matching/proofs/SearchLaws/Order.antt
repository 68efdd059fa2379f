-- The walk over the pairs in their order: all before a place are decided, and every solution is still between or comes later.
use Rattle.subsumption.specs.Refusal.{Done}
use Prim.Native.Nat.{ℕ, ◌+◌, ◌*◌, ◌/◌, ◌%◌, ◌<◌, ◌≤◌}
use mathlib.Core.Path.{◌≡◌, refl, sym, ap, ◌∙◌, subst}
use mathlib.Core.List.{List}
use mathlib.Core.Bool.{Bool, true, false, true≢false}
use mathlib.Core.Logic.{◌⊎◌, inl, inr, ⊎_elim}
use native.Mathlib.Omega.{arith}
use lib.ListN.{length, take}
use lib.Seq.{length-take-le}
use Rattle.subsumption.specs.Tables.{Tables}
use Rattle.subsumption.specs.Check.{table_fault, assignment_fault}
use Rattle.subsumption.proofs.Bools.{same_bool, last-cases}
use Rattle.subsumption.proofs.Accepted.{well_formed}
use Rattle.matching.specs.Solving.{takes, Earlier}
use Rattle.matching.specs.Inner.Search.{Within, Between, Meets, SolutionIn, NoSolution}
use Rattle.matching.specs.Inner.Search.Pairs.{Changed}
use Rattle.matching.specs.Inner.Search.Interval.{IntervalOf, undecided}
use Rattle.matching.specs.Inner.Search.Problem.{Problem}
use Rattle.matching.specs.Inner.Search.Nogoods.{Room, Nogoods}
use Rattle.matching.specs.Inner.Search.Solve.{Refuted, Searched}
use Rattle.matching.specs.Inner.Search.Order.{FirstIn, FirstOf}
use Rattle.matching.proofs.SearchLaws.Fronts.{front-known, front-takes, front-within, accepted-bits, within-accepted, same_taken}
use Rattle.matching.proofs.SearchLaws.Interval.{open-high, open-low, open-intro, at_pair, grown, grown-cases, shrunk, shrunk-cases, take-keeps, leave-keeps}
use Rattle.matching.proofs.SearchLaws.Solve.{refuted-none}

abbrev at : List ℕ → ℕ → Bool
at a p = takes a (p / 64) (p % 64)

not-that : (b : Bool) → (b ≡ true → ⊥) → b ≡ false
not-that true h = absurd (h refl)
not-that false h = refl

-- The other takes a pair before p that is left out, and agrees before it.
pub record Ahead (high other : List ℕ) (p : ℕ) : Type 0 where
  pub place : ℕ
  pub before : place < p
  pub left_out : at high place ≡ false
  pub taken : at other place ≡ true
  pub same : (i : ℕ) → i < place → at high i ≡ at other i

pub record Walk (t : Tables) (problem low₀ high₀ low high witness : List ℕ) (p : ℕ) : Type 0 where
  pub interval : IntervalOf t low high
  pub solution : SolutionIn t problem low high witness
  pub above : Within low₀ low
  pub below : Within high high₀
  pub within : p ≤ 512
  pub settled : (j : ℕ) → j < p → undecided low high j ≡ false
  pub rest :
      (other : List ℕ) → assignment_fault t other ≡ Done → Between (take t.variables low₀) (take t.variables high₀) other → Meets t problem other
      → Between (take t.variables low) (take t.variables high) other ⊎ Ahead (take t.variables high) other p

module _ (t : Tables) (problem : List ℕ) (h : table_fault t ≡ Done) (low₀ high₀ : List ℕ) where
  pub walk_start : (witness : List ℕ) → IntervalOf t low₀ high₀ → SolutionIn t problem low₀ high₀ witness → Walk t problem low₀ high₀ low₀ high₀ witness 0
  walk_start witness i s =
      record {
        interval = i;
        solution = s;
        above = λ k q e. e;
        below = λ k q e. e;
        within = omega arith;
        settled = λ j l. absurd (omega arith);
        rest = λ other a b x. inl b;
      }

  further : (high other : List ℕ) (p : ℕ) → Ahead high other p → Ahead high other (p + 1)
  further high other p a =
      record { place = a.place; before = omega (arith, a.before); left_out = a.left_out; taken = a.taken; same = a.same }

  module _ (low high witness : List ℕ) (p : ℕ) (w : Walk t problem low₀ high₀ low high witness p) where
    -- a settled pair: between means the same
    agree : (other : List ℕ) → Between (take t.variables low) (take t.variables high) other → (i : ℕ) → i < p → at (take t.variables high) i ≡ at other i
    agree other b i l = same_bool _ _ there (λ e. b.below _ _ e)
      where
        there : at (take t.variables high) i ≡ true → at other i ≡ true
        there e = let (v, x) = front-known t.variables high _ _ e in b.above _ _ (front-takes t.variables low _ _ v (go (at low i) refl x))
          where
            go : (c : Bool) → at low i ≡ c → at high i ≡ true → at low i ≡ true
            go true f x = f
            go false f x = absurd (true≢false (sym (open-intro low high i x f) ∙ w.settled i l))

    module _ (l : p < 512) where
      settled-more : (low₂ high₂ : List ℕ) → Within low low₂ → Within high₂ high → undecided low₂ high₂ p ≡ false → (j : ℕ) → j < p + 1 → undecided low₂ high₂ j ≡ false
      settled-more low₂ high₂ a b d j m = ⊎_elim (λ (e : j ≡ p). subst (λ (z : ℕ). undecided low₂ high₂ z ≡ false) (sym e) d) old (last-cases j p (omega arith))
        where
          old : j < p → undecided low₂ high₂ j ≡ false
          old n =
              not-that _
              (λ x.
              true≢false
              (sym (open-intro low high j (b _ _ (open-high low₂ high₂ j x)) (not-that _ (λ y. true≢false (sym (a _ _ y) ∙ open-low low₂ high₂ j x))))
              ∙ w.settled j n))

      pub walk-skip : undecided low high p ≡ false → Walk t problem low₀ high₀ low high witness (p + 1)
      walk-skip d =
          record {
            interval = w.interval;
            solution = w.solution;
            above = w.above;
            below = w.below;
            within = omega arith;
            settled = settled-more low high (λ k q e. e) (λ k q e. e) d;
            rest = λ other a b s. ⊎_elim (λ x. inl x) (λ x. inr (further _ other p x)) (w.rest other a b s);
          }

      module _ (u : undecided low high p ≡ true) where
        -- the pair is left out
        module _ (high₁ : List ℕ) (c : Changed high high₁ (p / 64) (p % 64) false) where
          unchanged : (i : ℕ) → i < p → at (take t.variables high₁) i ≡ at (take t.variables high) i
          unchanged i m =
              same_bool _ _ (front-within t.variables high₁ high (shrunk high high₁ _ _ c) _ _)
              (λ e.
              let (v, x) = front-known t.variables high _ _ e in
              ⊎_elim (λ (y : (i / 64 ≡ p / 64) × (i % 64 ≡ p % 64)). absurd (omega (arith, y.0, y.1))) (λ y. front-takes t.variables high₁ _ _ v y) (shrunk-cases high high₁ _ _ c _ _ x))

          out : at (take t.variables high₁) p ≡ false
          out = not-that _ (λ e. true≢false (sym (front-known t.variables high₁ _ _ e).1 ∙ c.here))

          left-rest :
              (other : List ℕ) → Between (take t.variables low) (take t.variables high) other
              → Between (take t.variables low) (take t.variables high₁) other ⊎ Ahead (take t.variables high₁) other (p + 1)
          left-rest other b = go (at other p) refl
            where
              go : (x : Bool) → at other p ≡ x → Between (take t.variables low) (take t.variables high₁) other ⊎ Ahead (take t.variables high₁) other (p + 1)
              go true x =
                  inr (record { place = p; before = omega arith; left_out = out; taken = x; same = λ i m. unchanged i m ∙ agree other b i m })
              go false x =
                  inl
                  (record {
                    above = b.above;
                    below =
                        λ k q y.
                        let (v, z) = front-known t.variables high k q (b.below k q y) in
                        ⊎_elim (λ e. absurd (true≢false (sym y ∙ at_pair other k q _ _ false e x))) (λ e. front-takes t.variables high₁ k q v e) (shrunk-cases high high₁ _ _ c k q z);
                  })

          kept-ahead : (other : List ℕ) → Ahead (take t.variables high) other p → Ahead (take t.variables high₁) other (p + 1)
          kept-ahead other a =
              record {
                place = a.place;
                before = omega (arith, a.before);
                left_out = unchanged a.place a.before ∙ a.left_out;
                taken = a.taken;
                same = λ i m. unchanged i (omega (arith, a.before)) ∙ a.same i m;
              }

          left-walk : (choice : List ℕ) → SolutionIn t problem low high₁ choice → Walk t problem low₀ high₀ low high₁ choice (p + 1)
          left-walk choice s =
              record {
                interval = leave-keeps t h low high w.interval p u low high₁ refl c;
                solution = s;
                above = w.above;
                below = λ k q e. w.below k q (shrunk high high₁ _ _ c k q e);
                within = omega arith;
                settled = settled-more low high₁ (λ k q e. e) (shrunk high high₁ _ _ c) (not-that _ (λ e. true≢false (sym (open-high low high₁ p e) ∙ c.here)));
                rest = λ other a b x. ⊎_elim (λ y. left-rest other y) (λ y. inr (kept-ahead other y)) (w.rest other a b x);
              }

          pub walk-leave : (low₁ choice : List ℕ) → low₁ ≡ low → SolutionIn t problem low₁ high₁ choice → Walk t problem low₀ high₀ low₁ high₁ choice (p + 1)
          walk-leave low₁ choice e =
              subst (λ (z : List ℕ). SolutionIn t problem z high₁ choice → Walk t problem low₀ high₀ z high₁ choice (p + 1)) (sym e) (left-walk choice)

          -- the witness leaves it out itself
          pub walk-witness : (low₁ : List ℕ) → low₁ ≡ low → at witness p ≡ false → Walk t problem low₀ high₀ low₁ high₁ witness (p + 1)
          walk-witness low₁ e x =
              walk-leave low₁ witness e
              (subst (λ (z : List ℕ). SolutionIn t problem z high₁ witness) (sym e)
              (record {
                long = w.solution.long;
                between =
                    record {
                      above = w.solution.between.above;
                      below =
                          λ k q y.
                          ⊎_elim (λ f. absurd (true≢false (sym y ∙ at_pair witness k q _ _ false f x))) (λ f. f)
                          (shrunk-cases high high₁ _ _ c k q (w.solution.between.below k q y));
                    };
                meets = w.solution.meets;
              }))

          -- no solution leaves it out
          module _ (low₂ : List ℕ) (d : Changed low low₂ (p / 64) (p % 64) true) (x : at witness p ≡ true) (none : NoSolution t problem low high₁) where
            taken-rest :
                (other : List ℕ) → assignment_fault t other ≡ Done → Meets t problem other → Between (take t.variables low) (take t.variables high) other
                → Between (take t.variables low₂) (take t.variables high) other
            taken-rest other a s b = ⊎_elim (λ y. absurd (none other a y s)) (λ y. with y) (left-rest other b)
              where
                with : Ahead (take t.variables high₁) other (p + 1) → Between (take t.variables low₂) (take t.variables high) other
                with y = go (at other p) refl
                  where
                    go : (z : Bool) → at other p ≡ z → Between (take t.variables low₂) (take t.variables high) other
                    go true z =
                        record {
                          above =
                              λ k q e.
                              let (v, f) = front-known t.variables low₂ k q e in
                              ⊎_elim (λ g. at_pair other k q _ _ true g z) (λ g. b.above k q (front-takes t.variables low k q v g)) (grown-cases low low₂ _ _ d k q f);
                          below = b.below;
                        }
                    go false z = absurd (behind (last-cases y.place p (omega (arith, y.before))))
                      where
                        behind : (y.place ≡ p) ⊎ (y.place < p) → ⊥
                        behind o =
                            ⊎_elim (λ (e : y.place ≡ p). true≢false (sym (subst (λ (m : ℕ). at other m ≡ true) e y.taken) ∙ z))
                            (λ e. true≢false (sym y.taken ∙ sym (agree other b y.place e) ∙ sym (unchanged y.place e) ∙ y.left_out)) o

            taken-walk : Walk t problem low₀ high₀ low₂ high witness (p + 1)
            taken-walk =
                record {
                  interval = take-keeps t h low high w.interval p u low₂ high refl d;
                  solution =
                      record {
                        long = w.solution.long;
                        between =
                            record {
                              above = λ k q y. ⊎_elim (λ f. at_pair witness k q _ _ true f x) (λ f. w.solution.between.above k q f) (grown-cases low low₂ _ _ d k q y);
                              below = w.solution.between.below;
                            };
                        meets = w.solution.meets;
                      };
                  above = λ k q e. grown low low₂ _ _ d k q (w.above k q e);
                  below = w.below;
                  within = omega arith;
                  settled = settled-more low₂ high (grown low low₂ _ _ d) (λ k q e. e) (not-that _ (λ e. true≢false (sym d.here ∙ open-low low₂ high p e)));
                  rest = λ other a b s. ⊎_elim (λ y. inl (taken-rest other a s y)) (λ y. inr (further _ other p y)) (w.rest other a b s);
                }

        pub walk-take :
            (high₁ : List ℕ) → Changed high high₁ (p / 64) (p % 64) false → (low₁ low₂ high₂ : List ℕ) → low₁ ≡ low → high₂ ≡ high → Changed low low₂ (p / 64) (p % 64) true
            → at witness p ≡ true → NoSolution t problem low₁ high₁ → Walk t problem low₀ high₀ low₂ high₂ witness (p + 1)
        walk-take high₁ c low₁ low₂ high₂ e f d x n =
            subst (λ (z : List ℕ). Walk t problem low₀ high₀ low₂ z witness (p + 1)) (sym f)
            (taken-walk high₁ c low₂ d x (subst (λ (z : List ℕ). NoSolution t problem z high₁) e n))

    module _ (l : 512 ≤ p) where
      accepted : assignment_fault t (take t.variables witness) ≡ Done
      accepted =
          within-accepted t _ _ w.interval.accepted (length-take-le _ witness (omega (arith, w.solution.long, (well_formed t h).few-variables)))
          (front-within t.variables witness high w.solution.between.below)

      -- all is settled, so that the witness is the high side
      is-high : (i : ℕ) → i < 512 → at (take t.variables high) i ≡ at (take t.variables witness) i
      is-high i m =
          agree (take t.variables witness)
          (record {
            above = front-within t.variables low witness w.solution.between.above;
            below = front-within t.variables witness high w.solution.between.below;
          })
          i (omega arith)

      -- pairs of accepted assignments, by place
      module _ (other : List ℕ) (a : assignment_fault t other ≡ Done) where
        by_place : (n : ℕ) → n ≤ 512 → ((i : ℕ) → i < n → at (take t.variables witness) i ≡ at other i) → (k q : ℕ) → (q < 64 → k * 64 + q < n) → takes (take t.variables witness) k q ≡ takes other k q
        by_place n b f k q g = same_bool _ _ (λ e. one e) (λ e. two e)
          where
            same : q < 64 → takes (take t.variables witness) k q ≡ takes other k q
            same z =
                let u : (k * 64 + q) / 64 ≡ k = omega arith in
                let v : (k * 64 + q) % 64 ≡ q = omega arith in
                sym (at_pair (take t.variables witness) _ _ k q _ (u, v) refl) ∙ f (k * 64 + q) (g z) ∙ at_pair other _ _ k q _ (u, v) refl

            one : takes (take t.variables witness) k q ≡ true → takes other k q ≡ true
            one e = sym (same (omega (arith, (accepted-bits t _ accepted k q e).1, (well_formed t h).few-atoms))) ∙ e

            two : takes other k q ≡ true → takes (take t.variables witness) k q ≡ true
            two e = same (omega (arith, (accepted-bits t other a k q e).1, (well_formed t h).few-atoms)) ∙ e

        earlier : Ahead (take t.variables high) other p → Earlier (take t.variables witness) other
        earlier y =
            record {
              variable = y.place / 64;
              position = y.place % 64;
              left_out = sym (is-high y.place small) ∙ y.left_out;
              taken = y.taken;
              same-variables = λ k q m. by_place y.place (omega (arith, small)) agreed k q (λ z. omega arith);
              same-positions = λ q m. by_place y.place (omega (arith, small)) agreed (y.place / 64) q (λ z. omega arith);
            }
          where
            small : y.place < 512
            small = omega (arith, y.before, w.within)

            agreed : (i : ℕ) → i < y.place → at (take t.variables witness) i ≡ at other i
            agreed i m = sym (is-high i (omega (arith, small))) ∙ y.same i m

        equal : Between (take t.variables low) (take t.variables high) other → other ≡ take t.variables witness
        equal b =
            same_taken t other (take t.variables witness) a accepted
            (λ k q. go k q)
          where
            go : (k q : ℕ) → takes other k q ≡ takes (take t.variables witness) k q
            go k q =
                same_bool _ _
                (λ e. pair k q (omega (arith, (accepted-bits t other a k q e).0, (well_formed t h).few-variables)) ∙ e)
                (λ e. sym (pair k q (omega (arith, (accepted-bits t _ accepted k q e).0, (well_formed t h).few-variables))) ∙ e)
              where
                pair : (k q : ℕ) → k < 8 → takes (take t.variables witness) k q ≡ takes other k q
                pair k q m = by_place 512 (omega arith) (λ i z. sym (is-high i z) ∙ agree other b i (omega arith)) k q (λ z. omega arith)

      pub walk-done : FirstIn t problem low₀ high₀ witness
      walk-done =
          record {
            solution =
                record {
                  long = w.solution.long;
                  between =
                      record {
                        above = λ k q e. w.solution.between.above k q (w.above k q e);
                        below = λ k q e. w.below k q (w.solution.between.below k q e);
                      };
                  meets = w.solution.meets;
                };
            first = λ other a b s. ⊎_elim (λ y. inl (equal other a y)) (λ y. inr (earlier other a y)) (w.rest other a b s);
          }

-- ---- whatever the tables
module _ (sets problem low₀ high₀ store₀ known : List ℕ) where
  pub record Walking (low high witness store : List ℕ) (p : ℕ) : Type 0 where
    pub low-long : length low ≡ 8
    pub high-long : length high ≡ 8
    pub witness-long : length witness ≡ 8
    pub room : Room store
    pub walk :
        (t : Tables) → Problem t sets problem → IntervalOf t low₀ high₀ → Nogoods t problem store₀ → SolutionIn t problem low₀ high₀ known
        → Walk t problem low₀ high₀ low high witness p × Nogoods t problem store

  pub walking_start : (length low₀ ≡ 8) × (length high₀ ≡ 8) × (length known ≡ 8) → Room store₀ → Walking low₀ high₀ known store₀ 0
  walking_start (a, b, d) r =
      record {
        low-long = a;
        high-long = b;
        witness-long = d;
        room = r;
        walk = λ t c i n s. (walk_start t problem c.passed low₀ high₀ known i s, n);
      }

  module _ (low high witness store : List ℕ) (p : ℕ) (w : Walking low high witness store p) where
    pub walking-done : 512 ≤ p → FirstOf sets problem low₀ high₀ store₀ known witness
    walking-done l t c i n s = walk-done t problem c.passed low₀ high₀ low high witness p (w.walk t c i n s).0 l

    module _ (l : p < 512) where
      pub walking_skip : undecided low high p ≡ false → Walking low high witness store (p + 1)
      walking_skip d =
          record {
            low-long = w.low-long;
            high-long = w.high-long;
            witness-long = w.witness-long;
            room = w.room;
            walk =
                λ t c i n s. let (v, m) = w.walk t c i n s in (walk-skip t problem c.passed low₀ high₀ low high witness p v l d, m);
          }

      module _ (u : undecided low high p ≡ true) (low₁ high₁ : List ℕ) (e : low₁ ≡ low) (d : Changed high high₁ (p / 64) (p % 64) false) where
        pub walking-witness : at witness p ≡ false → Walking low₁ high₁ witness store (p + 1)
        walking-witness x =
            record {
              low-long = ap length e ∙ w.low-long;
              high-long = d.long;
              witness-long = w.witness-long;
              room = w.room;
              walk =
                  λ t c i n s.
                  let (v, m) = w.walk t c i n s in (walk-witness t problem c.passed low₀ high₀ low high witness p v l u high₁ d low₁ e x, m);
            }

        module _ (after : List ℕ) (room : Room after) where
          searched :
              (Given : Tables → Type 0) → Searched sets problem high₀ low₁ high₁ store after Given
              → (t : Tables) → Problem t sets problem → IntervalOf t low₀ high₀ → Walk t problem low₀ high₀ low high witness p
              → Nogoods t problem store
              → Given t × Nogoods t problem after
          searched Given s t c i v m =
              s t c (leave-keeps t c.passed low high v.interval p u low₁ high₁ e d)
              (record {
                low-long = d.long;
                high-long = i.high-long;
                accepted = i.accepted;
                ordered = λ k q x. v.below k q (shrunk high high₁ _ _ d k q x);
                idle = i.idle;
              })
              m

          pub walking-leave :
              (choice : List ℕ) → Searched sets problem high₀ low₁ high₁ store after (λ t. SolutionIn t problem low₁ high₁ choice)
              → length choice ≡ 8
              → Walking low₁ high₁ choice after (p + 1)
          walking-leave choice s g =
              record {
                low-long = ap length e ∙ w.low-long;
                high-long = d.long;
                witness-long = g;
                room = room;
                walk =
                    λ t c i n x.
                    let (v, m) = w.walk t c i n x in
                    let (a, o) = searched _ s t c i v m in
                    (walk-leave t problem c.passed low₀ high₀ low high witness p v l u high₁ d low₁ choice e a, o);
              }

          pub walking-take :
              (below above : List ℕ) → Searched sets problem high₀ low₁ high₁ store after (λ t. Refuted t problem low₁ high₁ below above)
              → (low₂ high₂ : List ℕ) → high₂ ≡ high → Changed low low₂ (p / 64) (p % 64) true → at witness p ≡ true
              → Walking low₂ high₂ witness after (p + 1)
          walking-take below above s low₂ high₂ g y x =
              record {
                low-long = y.long;
                high-long = ap length g ∙ w.high-long;
                witness-long = w.witness-long;
                room = room;
                walk =
                    λ t c i n z.
                    let (v, m) = w.walk t c i n z in
                    let (a, o) = searched _ s t c i v m in (
                      walk-take t problem c.passed low₀ high₀ low high witness p v l u high₁ d low₁ low₂ high₂ e g y x
                          (refuted-none t problem low₁ high₁ below above a),
                      o,
                    );
              }
