-- Partial choices as words: one pair more or less settled, and the way up to the next one.
use Prim.Native.Nat.{ℕ, ◌+◌, ◌*◌, ◌/◌, ◌%◌, ◌-◌, ◌<◌, ◌≤◌}
use mathlib.Core.Path.{◌≡◌, refl, sym, ap, ◌∙◌, subst}
use mathlib.Core.List.{List, [], ◌∷◌}
use mathlib.Core.Bool.{Bool, true, false, true≢false}
use mathlib.Core.Logic.{⊎_elim}
use native.Mathlib.Omega.{arith}
use native.Mathlib.Nat.{mod-lt, div-add-mod'}
use lib.ListN.{length}
use Rattle.subsumption.proofs.Bools.{eq-or-ne}
use Rattle.matching.specs.Solving.{takes}
use Rattle.matching.specs.Inner.Search.Pairs.{Changed}
use Rattle.matching.proofs.SearchLaws.Interval.{at_pair}
use Rattle.matching.proofs.DerivationLaws.Cells.{cell_row, cell-column}
use Rattle.allowance.specs.Partial.{settled}
use Rattle.allowance.specs.Inner.Place.{Side, Words, has_next, next_of, NextAt}
use Rattle.allowance.proofs.PartialLaws.{settled-last, settled-other, settled-rest, pair-known}

pub pair-low : (count p : ℕ) → count ≤ 64 → p < 8 * count → (p / count < 8) × (p % count < 64)
pair-low count p l m = let (x, y) = pair-known 8 count p m in (x, omega arith)

pub unchanged : (a : List ℕ) (k q : ℕ) (b : Bool) → length a ≡ 8 → takes a k q ≡ b → Changed a a k q b
unchanged a k q b e h = record { long = e; here = h; elsewhere = λ l r n. refl }

-- ---- one side
module _ (count : ℕ) (rest : ℕ → ℕ → Bool) (a a₁ : List ℕ) (b : Bool) (s : List Bool) (n : ℕ) (e : length s ≡ n) (few : n < 8 * count) where
  in_row : n % count < count
  in_row = mod-lt n (omega arith)

  same-pair : (k q : ℕ) → q < count → k * count + q ≡ n → (k ≡ n / count) × (q ≡ n % count)
  same-pair k q l f =
      (sym (cell_row count k q l) ∙ ap (λ (z : ℕ). z / count) f, sym (cell-column count k q l) ∙ ap (λ (z : ℕ). z % count) f)

  other-pair : (k q : ℕ) → (k * count + q ≡ n → ⊥) → (k ≡ n / count) × (q ≡ n % count) → ⊥
  other-pair k q m (x, y) = m (ap (λ (z : ℕ). z * count + q) x ∙ ap (λ (z : ℕ). n / count * count + z) y ∙ div-add-mod' n count)

  side-more : Side count rest a s → Changed a a₁ (n / count) (n % count) b → Side count rest a₁ (b ∷ s)
  side-more w c =
      record {
        long = c.long;
        taken =
            λ k q l.
            ⊎_elim (λ (f : k * count + q ≡ n). at_pair a₁ k q _ _ b (same-pair k q l f) c.here ∙ sym (settled-last b s _ _ (f ∙ sym e)))
            (λ f. c.elsewhere k q (other-pair k q f) ∙ w.taken k q l ∙ sym (settled-other b s _ _ (λ x. f (x ∙ e))))
            (eq-or-ne (k * count + q) n);
        past = λ k q l. c.elsewhere k q (λ x. omega (arith, in_row, x.1)) ∙ w.past k q l;
      }

  side-back : Side count rest a (b ∷ s) → Changed a a₁ (n / count) (n % count) (rest (n / count) (n % count)) → Side count rest a₁ s
  side-back w c =
      record {
        long = c.long;
        taken =
            λ k q l.
            ⊎_elim
            (λ (f : k * count + q ≡ n).
            let (x, y) = same-pair k q l f in
            at_pair a₁ k q _ _ _ (x, y) c.here ∙ sym (ap (λ (z : ℕ). rest z q) x ∙ ap (rest (n / count)) y) ∙ sym (settled-rest s _ _ (omega arith)))
            (λ f. c.elsewhere k q (other-pair k q f) ∙ w.taken k q l ∙ settled-other b s _ _ (λ x. f (x ∙ e)))
            (eq-or-ne (k * count + q) n);
        past = λ k q l. c.elsewhere k q (λ x. omega (arith, in_row, x.1)) ∙ w.past k q l;
      }

-- ---- both
module _ (count : ℕ) (permitted low high : List ℕ) where
  pub words-none : length low ≡ 8 → length permitted ≡ 8 → ((k q : ℕ) → takes low k q ≡ false) → Words count permitted low permitted []
  unfolding settled
  words-none e f h =
      record {
        few = omega arith;
        low-side = record { long = e; taken = λ k q l. h k q; past = λ k q l. h k q };
        high-side = record { long = f; taken = λ k q l. refl; past = λ k q l. refl };
      }

  module _ (s : List Bool) (n : ℕ) (e : length s ≡ n) (few : n < 8 * count) where
    words_take :
        (low₁ high₁ : List ℕ) → Words count permitted low high s → Changed low low₁ (n / count) (n % count) true
        → Changed high high₁ (n / count) (n % count) true → Words count permitted low₁ high₁ (true ∷ s)
    words_take low₁ high₁ w c d =
        record {
          few = omega arith;
          low-side = side-more count _ low low₁ true s n e few w.low-side c;
          high-side = side-more count _ high high₁ true s n e few w.high-side d;
        }

    -- the low side leaves it out already
    pub words-leave :
        (low₁ high₁ : List ℕ) → Words count permitted low high s → low₁ ≡ low → Changed high high₁ (n / count) (n % count) false
        → Words count permitted low₁ high₁ (false ∷ s)
    words-leave low₁ high₁ w f d =
        record {
          few = omega arith;
          low-side =
              subst (λ (z : List ℕ). Side count (λ k q. false) z (false ∷ s)) (sym f)
              (side-more count _ low low false s n e few w.low-side (unchanged low _ _ false w.low-side.long left_out));
          high-side = side-more count _ high high₁ false s n e few w.high-side d;
        }
      where
        left_out : takes low (n / count) (n % count) ≡ false
        left_out = w.low-side.taken _ _ (mod-lt n (omega arith)) ∙ settled-rest s false _ (omega (arith, div-add-mod' n count))

    words_up :
        (b : Bool) (low₁ high₁ : List ℕ) → Words count permitted low high (b ∷ s) → Changed low low₁ (n / count) (n % count) false
        → Changed high high₁ (n / count) (n % count) (takes permitted (n / count) (n % count)) → Words count permitted low₁ high₁ s
    words_up b low₁ high₁ w c d =
        record {
          few = omega arith;
          low-side = side-back count _ low low₁ b s n e few w.low-side c;
          high-side = side-back count _ high high₁ b s n e few w.high-side d;
        }

    words_last : (b : Bool) → Words count permitted low high (b ∷ s) → takes low (n / count) (n % count) ≡ b
    words_last b w =
        w.low-side.taken _ _ (mod-lt n (omega arith)) ∙ settled-last b s false _ (div-add-mod' n count ∙ sym e)

-- ---- the way up: taken pairs are passed, so the next one stays the same
pub record Climbed (count : ℕ) (permitted low high : List ℕ) (many : ℕ) (s : List Bool) : Type 0 where
  pub here : List Bool
  pub words : Words count permitted low high here
  pub long : length here ≡ many
  pub same-has : has_next here ≡ has_next s
  pub same_next : next_of here ≡ next_of s

abbrev pub Climbs : ℕ → List ℕ → List ℕ → List ℕ → ℕ → List ℕ → List ℕ → ℕ → Type 0
Climbs count permitted low high many low₁ high₁ many₁ =
    (s : List Bool) → Words count permitted low high s → length s ≡ many → Climbed count permitted low₁ high₁ many₁ s

pub climbs-none : (count : ℕ) (permitted low high : List ℕ) (many : ℕ) → Climbs count permitted low high many low high many
climbs-none count permitted low high many s w e = record { here = s; words = w; long = e; same-has = refl; same_next = refl }

module _ (count : ℕ) (permitted low high : List ℕ) (many : ℕ) (s : List Bool) (c : Climbed count permitted low high many s) where
  pub climbed-top : many ≤ 0 → has_next s ≡ false
  unfolding has_next
  climbed-top l = go c.here c.long c.same-has
    where
      go : (h : List Bool) → length h ≡ many → has_next h ≡ has_next s → has_next s ≡ false
      go [] e f = sym f
      go (b ∷ h) e f = absurd (omega arith)

  module _ (n : ℕ) (i : n ≡ many - 1) (l : 0 < many) (low₁ high₁ : List ℕ) (d : Changed low low₁ ((many - 1) / count) ((many - 1) % count) false)
      (g : Changed high high₁ ((many - 1) / count) ((many - 1) % count) (takes permitted ((many - 1) / count) ((many - 1) % count))) where
    pub climbed-up : takes low ((many - 1) / count) ((many - 1) % count) ≡ true → Climbed count permitted low₁ high₁ n s
    unfolding has_next next_of
    climbed-up t = go c.here c.words c.long c.same-has c.same_next
      where
        go :
            (h : List Bool) → Words count permitted low high h → length h ≡ many → has_next h ≡ has_next s → next_of h ≡ next_of s
            → Climbed count permitted low₁ high₁ n s
        go [] w e x y = absurd (omega arith)
        go (false ∷ h) w e x y =
            absurd (true≢false (sym t ∙ words_last count permitted low high h (many - 1) (omega arith) (omega (arith, w.few)) false w))
        go (true ∷ h) w e x y =
            record {
              here = h;
              words = words_up count permitted low high h (many - 1) (omega arith) (omega (arith, w.few)) true low₁ high₁ w d g;
              long = omega arith;
              same-has = x;
              same_next = y;
            }

    pub climbed-aside :
        takes low ((many - 1) / count) ((many - 1) % count) ≡ false → (low₂ high₂ : List ℕ) (m : ℕ) → m ≡ n + 1
        → Changed low₁ low₂ (n / count) (n % count) true → Changed high₁ high₂ (n / count) (n % count) true
        → (has_next s ≡ true) × NextAt count permitted low₂ high₂ m s
    unfolding has_next next_of
    climbed-aside t low₂ high₂ m f a b = go c.here c.words c.long c.same-has c.same_next
      where
        go :
            (h : List Bool) → Words count permitted low high h → length h ≡ many → has_next h ≡ has_next s → next_of h ≡ next_of s
            → (has_next s ≡ true) × NextAt count permitted low₂ high₂ m s
        go [] w e x y = absurd (omega arith)
        go (true ∷ h) w e x y =
            absurd (true≢false (sym (words_last count permitted low high h (many - 1) (omega arith) (omega (arith, w.few)) true w) ∙ t))
        go (false ∷ h) w e x y =
            let up : Words count permitted low₁ high₁ h =
            words_up count permitted low high h (many - 1) (omega arith) (omega (arith, w.few)) false low₁ high₁ w d g in (
              sym x,
              record {
                words =
                    subst (Words count permitted low₂ high₂) y
                    (words_take count permitted low₁ high₁ h n (omega arith) (omega (arith, w.few)) low₂ high₂ up a b);
                many = omega (arith, ap length y);
              },
            )
