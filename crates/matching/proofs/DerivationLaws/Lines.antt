-- Checking lines one after the other, the pairs passed marked.
use Rattle.std.specs.Prelude.{Err}
use Prim.Native.Nat.{ℕ, ◌+◌, ◌-◌, ◌*◌, ◌%◌, ◌<◌, ◌≤◌}
use mathlib.Core.Path.{◌≡◌, refl, sym, ap, ◌∙◌, subst}
use mathlib.Core.List.{List}
use mathlib.Core.Bool.{Bool, true, false, not, false≢true}
use mathlib.Core.Logic.{⊎_elim}
use native.Mathlib.Omega.{arith}
use native.Mathlib.Numerals.{add-one}
use lib.Dec.{eqb, ltb}
use lib.ListN.{length, set, take, replicate, length-replicate, get_or-replicate}
use lib.Seq.{get_or-take, length-take-le}
use borrow.Author.Tests.{eq-eqb, ne_eqb, lt-ltb, le-ltb, eqb-true, eqb-false, not-false}
use Rattle.subsumption.specs.declared.refusal.Refusal.{Refusal}
use Rattle.subsumption.specs.declared.refusal.Refusal.TheVariants.{BadDerivation}
use Rattle.subsumption.specs.Tables.{Tables, or, both, any_below, count_of}
use Rattle.subsumption.specs.Inner.Closure.{Ready}
use Rattle.subsumption.specs.Refusal.{refuse_if, Outcome, Done}
use Rattle.subsumption.specs.Inner.Roles.{RoleSets}
use Rattle.subsumption.specs.Check.{pair_fault}
use Rattle.subsumption.specs.Inner.Listing.{Accepted}
use Rattle.subsumption.specs.Rules.{by_rule, follows}
use Rattle.subsumption.specs.Decide.{deciding_fault}
use Rattle.subsumption.proofs.Bools.{both-intro, both-none, both-skip, or-first, or-second, or-skip, or-false, eq-or-ne}
use Rattle.subsumption.proofs.Refusals.{stops, goes_on, refused-if, done-if, passed-if}
use Rattle.subsumption.proofs.Scans.{Scan, scan-none, scan-more, scan-found, scan-done}
use Rattle.matching.specs.Derivation.{lines_of, rule_at, left_at, right_at, extra_at, pair_at, proved_by, line_follows, no_lines, rule_fault, last_fault, derivation_fault, checking_fault}
use Rattle.matching.specs.Inner.Derivation.{Square, seen, Of, ByRule, MarksOf, LineTest, RulesTest}
use Rattle.matching.proofs.DerivationLaws.Cells.{seen-set-same, seen-set-row, seen-set-column, square-set, cell_below, square-small}
use Rattle.matching.proofs.DerivationLaws.Monotone.{of-reads, follows_same}

-- ---- one line
pair_same : (lines : List ℕ) (i j k : ℕ) → i ≡ left_at lines k → j ≡ right_at lines k → pair_at lines i j k ≡ true
unfolding pair_at
pair_same lines i j k e f = both-intro _ _ (eq-eqb _ _ e) (eq-eqb _ _ f)

pair_left : (lines : List ℕ) (i j k : ℕ) → (i ≡ left_at lines k → ⊥) → pair_at lines i j k ≡ false
unfolding pair_at
pair_left lines i j k ne = both-none _ _ (ne_eqb _ _ ne)

pair-right : (lines : List ℕ) (i j k : ℕ) → i ≡ left_at lines k → (j ≡ right_at lines k → ⊥) → pair_at lines i j k ≡ false
unfolding pair_at
pair-right lines i j k e ne = both-skip _ _ (eq-eqb _ _ e) ∙ ne_eqb _ _ ne

pub proved-more : (lines : List ℕ) (k i j : ℕ) → proved_by lines (k + 1) i j ≡ or (pair_at lines i j k) (proved_by lines k i j)
unfolding proved_by any_below
proved-more lines k i j = rw add-one refl

pub proved-none : (lines : List ℕ) (i j : ℕ) → proved_by lines 0 i j ≡ false
unfolding proved_by any_below
proved-none lines i j = refl

module _ (count : ℕ) (marks : List Bool) (lines : List ℕ) (k : ℕ) (m : MarksOf count marks lines k) where
  pub marks-more :
      (left right : ℕ) (after : List Bool) → left ≡ left_at lines k → right ≡ right_at lines k → left < count → right < count
      → after ≡ set marks (left * count + right) true → MarksOf count after lines (k + 1)
  unfolding or
  marks-more left right after e f h l a =
      record {
        square = subst (Square count) (sym a) (square-set count (left * count + right) marks m.square);
        same = λ i j u v. ap (λ z. seen count z i j) a ∙ at i j u v ∙ sym (proved-more lines k i j);
      }
    where
      at : (i j : ℕ) → i < count → j < count → seen count (set marks (left * count + right) true) i j ≡ or (pair_at lines i j k) (proved_by lines k i j)
      at i j u v =
          ⊎_elim
          (λ (p : i ≡ left). ⊎_elim
          (λ (q : j ≡ right). seen-set-same count marks left right i j m.square h l v (sym p) (sym q) ∙ sym (rw (pair_same lines i j k (p ∙ e) (q ∙ f)) refl))
          (λ (q : j ≡ right → ⊥). seen-set-column count marks left right i j m.square h l v (λ z. q (sym z)) ∙ m.same i j u v
          ∙ sym (rw (pair-right lines i j k (p ∙ e) (λ z. q (z ∙ sym f))) refl)) (eq-or-ne j right))
          (λ (p : i ≡ left → ⊥). seen-set-row count marks left right i j m.square h l v (λ z. p (sym z)) ∙ m.same i j u v
          ∙ sym (rw (pair_left lines i j k (λ z. p (z ∙ sym e))) refl)) (eq-or-ne i left)

-- the marks at the start
pub marks-none : (count : ℕ) (marks : List Bool) (lines : List ℕ) → Square count marks → ((i j : ℕ) → i < count → j < count → seen count marks i j ≡ false) → MarksOf count marks lines 0
marks-none count marks lines s h = record { square = s; same = λ i j u v. h i j u v ∙ sym (proved-none lines i j) }

pub empty-square : (count : ℕ) → count ≤ 192 → Square count (take (count * count) (replicate 36864 false))
empty-square count h = record { few = h; long = length-take-le _ _ (rw length-replicate (square-small count h)) }

pub empty-seen : (count i j : ℕ) → count ≤ 192 → i < count → j < count → seen count (take (count * count) (replicate 36864 false)) i j ≡ false
unfolding seen
empty-seen count i j h u v =
    get_or-take _ _ _ _ (cell_below count i j u v) ∙ get_or-replicate 36864 (i * count + j) false false (omega (arith, cell_below count i j u v, square-small count h))

module _ (concepts inclusions into ids assignment : List ℕ) (marks : List Bool) (lines : List ℕ) (k : ℕ)
    (r : Ready concepts inclusions ids assignment) (m : MarksOf (count_of concepts) marks lines k) where
  pub line-left : (left : ℕ) → left ≡ left_at lines k → count_of concepts ≤ left → LineTest concepts inclusions into ids assignment lines k false
  unfolding line_follows follows
  line-left left e h =
      record {
        left-known = λ z. absurd (false≢true z);
        right-known = λ z. absurd (false≢true z);
        tells = λ t of. sym (both-none _ _ (le-ltb _ _ (subst (λ (z : List ℕ). count_of z ≤ left_at lines k) (sym of.concepts-are) (subst (λ (z : ℕ). count_of concepts ≤ z) e h))));
      }

  pub line-right : (right : ℕ) → right ≡ right_at lines k → count_of concepts ≤ right → LineTest concepts inclusions into ids assignment lines k false
  unfolding line_follows follows
  line-right right e h =
      record {
        left-known = λ z. absurd (false≢true z);
        right-known = λ z. absurd (false≢true z);
        tells = λ t of. sym (last _ _ (both-none _ _ (le-ltb _ _ (subst (λ (z : List ℕ). count_of z ≤ right_at lines k) (sym of.concepts-are) (subst (λ (z : ℕ). count_of concepts ≤ z) e h)))));
      }
    where
      last : (u v : Bool) → v ≡ false → both u v ≡ false
      last true v e = both-skip true v refl ∙ e
      last false v e = both-none false v refl

  pub line-rule :
      (rule left right extra : ℕ) (answer : Bool) → rule ≡ rule_at lines k → left ≡ left_at lines k → right ≡ right_at lines k → extra ≡ extra_at lines k
      → left < count_of concepts → right < count_of concepts → ByRule concepts inclusions into ids assignment marks rule left right extra answer
      → LineTest concepts inclusions into ids assignment lines k answer
  unfolding line_follows follows
  line-rule rule left right extra answer a b c d u v h =
      record {
        left-known = λ z. omega arith;
        right-known = λ z. omega arith;
        tells = λ t of.
            let lu : ltb (left_at lines k) (count_of t.concepts) ≡ true
            = lt-ltb _ _ (subst (λ (z : List ℕ). left_at lines k < count_of z) (sym of.concepts-are) (omega arith)) in
            let lv : ltb (right_at lines k) (count_of t.concepts) ≡ true
            = lt-ltb _ _ (subst (λ (z : List ℕ). right_at lines k < count_of z) (sym of.concepts-are) (omega arith)) in
            let q : by_rule t assignment (seen (count_of concepts) marks) rule left right extra ≡ by_rule t assignment (seen (count_of concepts) marks) (rule_at lines k) (left_at lines k) (right_at lines k) (extra_at lines k)
            = cc in
            h t of ∙ q ∙ sym (both-skip _ _ lu ∙ both-skip _ _ lv)
            ∙ follows_same t assignment (of-reads t concepts inclusions into ids assignment of r) (seen (count_of concepts) marks) (proved_by lines k)
            (λ i j l n. m.same i j (subst (λ (z : List ℕ). i < count_of z) of.concepts-are l) (subst (λ (z : List ℕ). j < count_of z) of.concepts-are n))
            (rule_at lines k) (left_at lines k) (right_at lines k) (extra_at lines k);
      }

-- ---- all lines
module _ (concepts inclusions into ids assignment lines : List ℕ) where
  -- the lines below k follow
  pub record Passed (k : ℕ) : Type 0 where
    pub scan : (t : Tables) → Of t concepts inclusions into ids → Scan BadDerivation (λ k. not (line_follows t assignment lines k)) (lines_of lines) k

  pub passed_none : Passed 0
  passed_none = record { scan = λ t of. scan-none _ _ _ }

  pub passed-more : (k : ℕ) (answer : Bool) → Passed k → k < lines_of lines → LineTest concepts inclusions into ids assignment lines k answer → answer ≡ true → Passed (k + 1)
  passed-more k answer p h test e = record { scan = λ t of. scan-more _ _ _ k (p.scan t of) h (ap not (sym (test.tells t of) ∙ e)) }

  pub rules-broken :
      (k : ℕ) (answer : Bool) → Passed k → k < lines_of lines → LineTest concepts inclusions into ids assignment lines k answer → answer ≡ false
      → RulesTest concepts inclusions into ids assignment lines (Err (BadDerivation k))
  unfolding rule_fault
  rules-broken k answer p h test e = record { tells = λ t of. scan-found _ _ _ k (p.scan t of) h (ap not (sym (test.tells t of) ∙ e)) }

  pub rules-kept : (k : ℕ) → Passed k → lines_of lines ≤ k → RulesTest concepts inclusions into ids assignment lines Done
  unfolding rule_fault
  rules-kept k p h = record { tells = λ t of. scan-done _ _ _ k (p.scan t of) h }

-- ---- the accepted tables behind them
pub accepted-of : (t : Tables) (into ids : List ℕ) → Accepted t ids → RoleSets t.roles into → Of t t.concepts t.inclusions into ids
accepted-of t into ids a s = record { concepts-are = refl; inclusions-are = refl; roles-are = s; atoms_are = sym a.listed }

-- ---- the list as a whole
pub shape-empty : (lines : List ℕ) → length lines ≡ 0 → Err (BadDerivation 0) ≡ refuse_if (no_lines lines) (BadDerivation 0)
unfolding no_lines
shape-empty lines e = refused-if _ _ (or-first _ _ (eq-eqb _ _ e))

pub shape-ragged : (lines : List ℕ) → (length lines % 4 ≡ 0 → ⊥) → Err (BadDerivation 0) ≡ refuse_if (no_lines lines) (BadDerivation 0)
unfolding no_lines
shape-ragged lines h = refused-if _ _ (or-second _ _ (ap not (ne_eqb _ _ h)))

pub shape-whole : (lines : List ℕ) → (length lines ≡ 0 → ⊥) → length lines % 4 ≡ 0 → Done ≡ refuse_if (no_lines lines) (BadDerivation 0)
unfolding no_lines
shape-whole lines h e = done-if _ _ (or-skip _ _ (ne_eqb _ _ h) ∙ ap not (eq-eqb _ _ e))

pub some-lines : (lines : List ℕ) → refuse_if (no_lines lines) (BadDerivation 0) ≡ Done → 4 ≤ length lines
unfolding no_lines
some-lines lines h = go (or-false (eqb (length lines) 0) (not (eqb (length lines % 4) 0)) (passed-if _ _ h))
  where
    go : (eqb (length lines) 0 ≡ false) × (not (eqb (length lines % 4) 0) ≡ false) → 4 ≤ length lines
    go w = omega (arith, eqb-true (length lines % 4) 0 (not-false _ w.1), eqb-false (length lines) 0 w.0)

module _ (left right : ℕ) (lines : List ℕ) where
  pub last-left : (left_at lines (lines_of lines - 1) ≡ left → ⊥) → Err (BadDerivation (lines_of lines)) ≡ last_fault left right lines
  unfolding last_fault
  last-left h = refused-if _ _ (ap not (pair_left lines left right (lines_of lines - 1) (λ e. h (sym e))))

  pub last-right : left_at lines (lines_of lines - 1) ≡ left → (right_at lines (lines_of lines - 1) ≡ right → ⊥) → Err (BadDerivation (lines_of lines)) ≡ last_fault left right lines
  unfolding last_fault
  last-right e h = refused-if _ _ (ap not (pair-right lines left right (lines_of lines - 1) (sym e) (λ e. h (sym e))))

  pub last-both : left_at lines (lines_of lines - 1) ≡ left → right_at lines (lines_of lines - 1) ≡ right → Done ≡ last_fault left right lines
  unfolding last_fault
  last-both e f = done-if _ _ (ap not (pair_same lines left right (lines_of lines - 1) (sym e) (sym f)))

-- the whole check, in its order
pub pair-stops :
    (t : Tables) (assignment : List ℕ) (left right : ℕ) (lines : List ℕ) (r : Refusal) → Err r ≡ pair_fault t left right
    → Err r ≡ checking_fault t assignment left right lines
unfolding checking_fault deciding_fault
pair-stops t assignment left right lines r e = stops (Err r) _ _ r (stops (Err r) _ _ r e refl) refl

module _ (t : Tables) (assignment : List ℕ) (left right : ℕ) (lines : List ℕ) (w x y z : Outcome) (a : w ≡ deciding_fault t assignment left right) where
  pub asked-stops : (r : Refusal) → w ≡ Err r → Err r ≡ checking_fault t assignment left right lines
  unfolding checking_fault
  asked-stops r e = stops _ _ _ r a e

  module _ (f : w ≡ Done) (b : x ≡ refuse_if (no_lines lines) (BadDerivation 0)) where
    pub shape-stops : (r : Refusal) → x ≡ Err r → Err r ≡ checking_fault t assignment left right lines
    unfolding checking_fault derivation_fault
    shape-stops r e = goes_on _ _ _ _ a f (stops _ _ _ r b e)

    module _ (g : x ≡ Done) (c : y ≡ rule_fault t assignment lines) where
      pub rules-stops : (r : Refusal) → y ≡ Err r → Err r ≡ checking_fault t assignment left right lines
      unfolding checking_fault derivation_fault
      rules-stops r e = goes_on _ _ _ _ a f (goes_on _ _ _ _ b g (stops _ _ _ r c e))

      pub last-decides : y ≡ Done → z ≡ last_fault left right lines → z ≡ checking_fault t assignment left right lines
      unfolding checking_fault derivation_fault
      last-decides h d = goes_on _ _ _ _ a f (goes_on _ _ _ _ b g (goes_on _ _ _ _ c h d))
