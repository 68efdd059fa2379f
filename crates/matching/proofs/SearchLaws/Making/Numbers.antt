-- The numbers of a problem: copies, which ids hold a variable, and what accepted tables make of them.
use Prim.Native.Nat.{ℕ, zero, suc, ◌+◌, ◌*◌, ◌/◌, ◌<◌, ◌≤◌}
use mathlib.Core.Path.{◌≡◌, refl, sym, ap, ◌∙◌, subst}
use mathlib.Core.List.{List, Memᴰ}
use mathlib.Core.Bool.{Bool, false, true≢false}
use mathlib.Core.Logic.{◌⊎◌, inl, inr, ⊎_elim}
use native.Mathlib.Omega.{arith}
use lib.Dec.{eqb}
use lib.ListN.{length, get_or, set, length-set, replicate, get_or-replicate}
use lib.Seq.{get_or-set_same, get_or-set_other}
use borrow.Author.Tests.{eqb-true, not-false}
use Rattle.subsumption.specs.Tables.{Tables, node, decode, count_of, pairs_of, left_of, right_of}
use Rattle.subsumption.specs.Check.{malformed_row, malformed, malformed_fault, concept_fault}
use Rattle.subsumption.specs.Inner.Tables.{Rising}
use Rattle.subsumption.specs.Inner.Atoms.{Layered, mark_at}
use Rattle.subsumption.specs.Inner.Listing.{Accepted}
use Rattle.subsumption.proofs.Bools.{or-false, le-or-lt, eq-or-ne}
use Rattle.subsumption.proofs.Refusals.{passed_first, passed-second, passed-at}
use Rattle.subsumption.proofs.Nodes.{node-exists, node-and, node-var}
use Rattle.subsumption.proofs.WellFormed.{WellFormed}
use Rattle.subsumption.proofs.Accepted.{well_formed, table-concepts, concepts-layered}
use Rattle.subsumption.proofs.AtomLaws.{atom-known}
use Rattle.subsumption.proofs.Chosen.{get_or-member}
use Rattle.matching.specs.Inner.Search.Problem.{held_at, atom_at, left_at, right_at, inner_at, Numbers}
use Rattle.matching.specs.Inner.Search.Making.{CopiedAt, HeldNoted, HintsNoted, NumbersOf, kind_at, first_at, Readable}

-- ---- a copy
module _ (from : List ℕ) (at : ℕ) (before : List ℕ) where
  pub record CopiedTo (n : ℕ) (after : List ℕ) : Type 0 where
    pub within : n ≤ length from
    pub long : length after ≡ length before
    pub here : (p : ℕ) → p < n → get_or after (at + p) 0 ≡ get_or from p 0
    pub there : (p : ℕ) → (p < at) ⊎ (at + n ≤ p) → get_or after p 0 ≡ get_or before p 0

  pub copied_none : CopiedTo 0 before
  copied_none = record { within = omega arith; long = refl; here = λ p l. absurd (omega arith); there = λ p o. refl }

  pub copied_more :
      (n : ℕ) (after : List ℕ) → at + length from ≤ length before → n < length from → CopiedTo n after
      → CopiedTo (n + 1) (set after (at + n) (get_or from n 0))
  copied_more n after h l C =
      record {
        within = omega arith;
        long = length-set after (at + n) _ ∙ C.long;
        here =
            λ p m.
            ⊎_elim
            (λ (u : p ≡ n).
            ap (λ (z : ℕ). get_or (set after (at + n) (get_or from n 0)) (at + z) 0) u
            ∙ get_or-set_same after (at + n) _ 0 (omega (arith, C.long)) ∙ ap (λ (z : ℕ). get_or from z 0) (sym u))
            (λ (u : p ≡ n → ⊥). get_or-set_other after (at + n) (at + p) _ 0 (λ y. u (omega arith)) ∙ C.here p (omega arith)) (eq-or-ne p n);
        there =
            λ p o.
            ⊎_elim (λ (u : p < at). get_or-set_other after (at + n) p _ 0 (λ y. omega arith) ∙ C.there p (inl u))
            (λ (u : at + (n + 1) ≤ p). get_or-set_other after (at + n) p _ 0 (λ y. omega arith) ∙ C.there p (inr (omega arith))) o;
      }

  pub copied-done : (n : ℕ) (after : List ℕ) → length from ≤ n → CopiedTo n after → CopiedAt from at before after
  copied-done n after h C =
      record {
        long = C.long;
        here = λ p l. C.here p (omega arith);
        there = λ p o. C.there p (⊎_elim (λ u. inl u) (λ (u : at + length from ≤ p). inr (omega (arith, C.within))) o);
      }

-- ---- which ids hold a variable
module _ (marks : List Bool) (before : List ℕ) where
  pub record HeldTo (n : ℕ) (after : List ℕ) : Type 0 where
    pub within : n ≤ 192
    pub long : length after ≡ length before
    pub here : (i : ℕ) → i < n → held_at after i ≡ mark_at marks i
    pub there : (p : ℕ) → (p < 576) ⊎ (576 + n ≤ p) → get_or after p 0 ≡ get_or before p 0

  pub held_none : HeldTo 0 before
  held_none = record { within = omega arith; long = refl; here = λ i l. absurd (omega arith); there = λ p o. refl }

-- ---- all numbers
module _ (concepts questions ids c0 c1 c2 c3 c4 c6 : List ℕ) (few : count_of concepts ≤ 192) (short : length concepts ≤ 576) (few-questions : length questions ≤ 64)
    (few-ids : length ids ≤ 64) (zeros : c0 ≡ replicate 971 0) (copied : CopiedAt concepts 0 c0 c1) (noted : HeldNoted concepts c1 c2)
    (listed : CopiedAt ids 768 c2 c3) (asked : CopiedAt questions 832 c3 c4) (hinted : HintsNoted (set c4 897 (length questions / 2)) c6) where
  empty : (p : ℕ) → p < 971 → get_or c0 p 0 ≡ 0
  empty p l = ap (λ (z : List ℕ). get_or z p 0) zeros ∙ get_or-replicate 971 p 0 0 l

  asked-long : length c4 ≡ 971
  asked-long =
      asked.long ∙ listed.long ∙ noted.long ∙ copied.long ∙ ap length zeros

  to-asked : (p : ℕ) → p < 897 → get_or c6 p 0 ≡ get_or c4 p 0
  to-asked p l = hinted.front p (omega arith) ∙ get_or-set_other c4 897 p _ 0 (λ y. omega arith)

  to-listed : (p : ℕ) → p < 832 → get_or c6 p 0 ≡ get_or c3 p 0
  to-listed p l = to-asked p (omega arith) ∙ asked.there p (inl l)

  to-noted : (p : ℕ) → p < 768 → get_or c6 p 0 ≡ get_or c2 p 0
  to-noted p l = to-listed p (omega arith) ∙ listed.there p (inl l)

  to-copied : (p : ℕ) → p < 576 → get_or c6 p 0 ≡ get_or c1 p 0
  to-copied p l = to-noted p (omega arith) ∙ noted.there p (inl l)

  past : (p : ℕ) → 768 ≤ p → p < 971 → get_or c2 p 0 ≡ 0
  past p h l = noted.there p (inr h) ∙ copied.there p (inr (omega arith)) ∙ empty p l

  pub numbers_of : NumbersOf concepts questions ids c6
  numbers_of =
      record {
        long = hinted.long ∙ length-set c4 897 _ ∙ asked-long;
        rows = λ p l. to-copied p (omega arith) ∙ ap (λ (z : ℕ). get_or c1 z 0) (omega arith) ∙ copied.here p l;
        no_rows = λ p l h. to-copied p h ∙ copied.there p (inr (omega arith)) ∙ empty p (omega arith);
        held = λ i l. ap (λ (z : ℕ). eqb z 1) (to-noted (576 + i) (omega arith)) ∙ noted.here i l;
        atoms = λ q l. to-listed (768 + q) (omega arith) ∙ listed.here q l;
        no-atoms = λ q l h. to-listed (768 + q) (omega arith) ∙ listed.there (768 + q) (inr (omega arith)) ∙ past (768 + q) (omega arith) (omega arith);
        sides = λ p l. to-asked (832 + p) (omega arith) ∙ asked.here p l;
        no_sides =
            λ p l h.
            to-asked (832 + p) (omega arith) ∙ asked.there (832 + p) (inr (omega arith)) ∙ listed.there (832 + p) (inr (omega arith))
            ∙ past (832 + p) (omega arith) (omega arith);
        count = hinted.front 897 (omega arith) ∙ get_or-set_same c4 897 _ 0 (omega (arith, asked-long));
      }

-- ---- what making them asks
pub accepted-layered : (t : Tables) (ids : List ℕ) → Accepted t ids → Layered t.concepts
accepted-layered t ids A = concepts-layered t (table-concepts t A.passed)

pub few-asked : (t : Tables) (ids : List ℕ) → Accepted t ids → length t.questions ≤ 64
few-asked t ids A = omega (arith, (well_formed t A.passed).even-questions, (well_formed t A.passed).few-questions)

pub few-listed : (t : Tables) (ids : List ℕ) → Accepted t ids → length ids ≤ 64
few-listed t ids A = subst (λ (z : List ℕ). length z ≤ 64) (sym A.listed) (well_formed t A.passed).few-atoms

pub problem-long : (problem : List ℕ) → problem ≡ replicate 971 0 → length problem ≡ 971
problem-long problem e = ap length e

-- ---- rows of accepted tables
kind-bound : (v k a b : ℕ) → malformed_row v k a b ≡ false → k < 5
unfolding malformed_row
kind-bound v zero a b h = omega arith
kind-bound v (suc zero) a b h = omega arith
kind-bound v (suc (suc zero)) a b h = omega arith
kind-bound v (suc (suc (suc zero))) a b h = omega arith
kind-bound v (suc (suc (suc (suc zero)))) a b h = omega arith
kind-bound v (suc (suc (suc (suc (suc k))))) a b h = absurd (true≢false h)

second-bound : (v i k a b : ℕ) → malformed_row v k a b ≡ false → Rising i (decode k a b) → i < 192 → b < 192
unfolding malformed_row decode
second-bound v i zero a b h r l = omega (arith, eqb-true b 0 (not-false _ (or-false _ _ h).1))
second-bound v i (suc zero) a b h r l = omega (arith, eqb-true b 0 (not-false _ (or-false _ _ h).1))
second-bound v i (suc (suc zero)) a b h r l = omega arith
second-bound v i (suc (suc (suc zero))) a b h r l = omega (arith, r.1)
second-bound v i (suc (suc (suc (suc zero)))) a b h r l = omega (arith, eqb-true b 0 (not-false _ (or-false _ _ h).1))
second-bound v i (suc (suc (suc (suc (suc k))))) a b h r l = absurd (true≢false h)

module _ (t : Tables) (ids problem : List ℕ) (A : Accepted t ids) (N : NumbersOf t.concepts t.questions ids problem) where
  abbrev count : ℕ
  count = count_of t.concepts

  pub formed : WellFormed t
  formed = well_formed t A.passed

  row-passed : (i : ℕ) → i < count → malformed_row t.variables (get_or t.concepts (i * 3) 0) (get_or t.concepts (i * 3 + 1) 0) (get_or t.concepts (i * 3 + 2) 0) ≡ false
  unfolding concept_fault malformed_fault malformed
  row-passed i l =
      passed-at _ (malformed t.concepts t.variables) 0 _ (passed_first _ _ (passed-second _ _ (table-concepts t A.passed))) i (omega arith) (omega arith)

  number : (i k : ℕ) → i < count → k < 3 → get_or problem (i * 3 + k) 0 ≡ get_or t.concepts (i * 3 + k) 0
  number i k l h = N.rows (i * 3 + k) (omega (arith, formed.whole))

  kind-same : (i : ℕ) → i < count → kind_at problem i ≡ get_or t.concepts (i * 3) 0
  kind-same i l = N.rows (i * 3) (omega (arith, formed.whole))

  pub same-node : (i : ℕ) → i < count → node problem i ≡ node t.concepts i
  unfolding node
  same-node i l =
      ap (λ (z : ℕ). decode z (get_or problem (i * 3 + 1) 0) (get_or problem (i * 3 + 2) 0)) (kind-same i l)
      ∙ ap (λ (z : ℕ). decode (get_or t.concepts (i * 3) 0) z (get_or problem (i * 3 + 2) 0)) (number i 1 l (omega arith))
      ∙ ap (λ (z : ℕ). decode (get_or t.concepts (i * 3) 0) (get_or t.concepts (i * 3 + 1) 0) z) (number i 2 l (omega arith))

  past-kind : (i : ℕ) → count ≤ i → i < 192 → kind_at problem i ≡ 0
  past-kind i h l = N.no_rows (i * 3) (omega (arith, formed.whole)) (omega arith)

  past-inner : (i : ℕ) → count ≤ i → i < 192 → inner_at problem i ≡ 0
  past-inner i h l = N.no_rows (i * 3 + 2) (omega (arith, formed.whole)) (omega arith)

  rising : (i : ℕ) → i < count → Rising i (node problem i)
  rising i l = subst (Rising i) (sym (same-node i l)) (formed.rising i)

  kind-low : (i : ℕ) → i < 192 → kind_at problem i < 5
  kind-low i l =
      ⊎_elim (λ h. omega (arith, past-kind i h l)) (λ h. omega (arith, kind-same i h, kind-bound _ _ _ _ (row-passed i h))) (le-or-lt count i)

  inner-low : (i : ℕ) → i < 192 → inner_at problem i < 192
  unfolding node
  inner-low i l =
      ⊎_elim (λ h. omega (arith, past-inner i h l))
      (λ h. omega (arith, number i 2 h (omega arith), second-bound _ i _ _ _ (row-passed i h) (formed.rising i) l)) (le-or-lt count i)

  first-low : (i : ℕ) → i < 192 → kind_at problem i ≡ 3 → first_at problem i < 192
  first-low i l e =
      ⊎_elim (λ h. absurd (omega (arith, past-kind i h l)))
      (λ h. let u : (first_at problem i < i) × (inner_at problem i < i) = subst (Rising i) (node-and problem i e) (rising i h) in omega (arith, u.0)) (le-or-lt count i)

  variable-low : (i : ℕ) → i < 192 → kind_at problem i ≡ 4 → first_at problem i < 8
  variable-low i l e =
      ⊎_elim (λ h. absurd (omega (arith, past-kind i h l)))
      (λ h. omega (arith, formed.numbered i (first_at problem i) (sym (same-node i h) ∙ node-var problem i e), formed.few-variables)) (le-or-lt count i)

  atoms-low : (q : ℕ) → q < 64 → atom_at problem q < 192
  atoms-low q l =
      ⊎_elim (λ h. omega (arith, N.no-atoms q h l))
      (λ h.
      let u = atom-known t (get_or ids q 0) (subst (λ (z : List ℕ). Memᴰ (get_or ids q 0) z) A.listed (get_or-member ids q h)) in
      omega (arith, N.atoms q h, formed.few))
      (le-or-lt (length ids) q)

  pub left-same : (m : ℕ) → m < pairs_of t.questions → left_at problem m ≡ left_of t.questions m
  left-same m l = N.sides (m * 2) (omega (arith, formed.even-questions))

  pub right-same : (m : ℕ) → m < pairs_of t.questions → right_at problem m ≡ right_of t.questions m
  right-same m l = ap (λ (z : ℕ). get_or problem z 0) (omega arith) ∙ N.sides (m * 2 + 1) (omega (arith, formed.even-questions))

  left-low : (m : ℕ) → m < 32 → left_at problem m < 192
  left-low m l =
      ⊎_elim (λ h. omega (arith, N.no_sides (m * 2) (omega (arith, formed.even-questions)) (omega arith)))
      (λ h. omega (arith, left-same m h, formed.question-left m h, formed.few)) (le-or-lt (pairs_of t.questions) m)

  right-low : (m : ℕ) → m < 32 → right_at problem m < 192
  right-low m l =
      ⊎_elim
      (λ h.
      let u : right_at problem m ≡ 0 = ap (λ (z : ℕ). get_or problem z 0) (omega arith) ∙ N.no_sides (m * 2 + 1) (omega (arith, formed.even-questions)) (omega arith) in
      omega arith)
      (λ h. omega (arith, right-same m h, formed.question-right m h, formed.few)) (le-or-lt (pairs_of t.questions) m)

  pub numbers : Numbers problem
  numbers =
      record {
        long = N.long;
        kind-low = kind-low;
        inner-low = inner-low;
        first-low = first-low;
        variable-low = variable-low;
        atoms-low = atoms-low;
        left-low = left-low;
        right-low = right-low;
        few = omega (arith, N.count, formed.few-questions);
      }

  pub readable : Readable problem count
  readable =
      record {
        long = N.long;
        few = formed.few;
        rising = rising;
        low-roles = λ i l e. formed.low-roles i (first_at problem i) (inner_at problem i) (sym (same-node i l) ∙ node-exists problem i e);
        few-questions = omega (arith, N.count, formed.few-questions);
        left-known = λ m l. omega (arith, left-same m (omega (arith, N.count)), formed.question-left m (omega (arith, N.count)));
        right-known = λ m l. omega (arith, right-same m (omega (arith, N.count)), formed.question-right m (omega (arith, N.count)));
      }
