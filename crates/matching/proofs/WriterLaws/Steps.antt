-- Writing lines until the asked pair is found.
use Prim.Native.Nat.{ℕ, zero, suc, ◌+◌, ◌-◌, ◌*◌, ◌<◌, ◌≤◌}
use mathlib.Core.Path.{◌≡◌, refl, sym, ap, ◌∙◌, subst}
use mathlib.Core.List.{List, [], ◌∷◌}
use mathlib.Core.Bool.{Bool, true, false, true≢false}
use mathlib.Core.Logic.{⊎_elim}
use native.Mathlib.Omega.{arith}
use lib.Dec.{eqb}
use lib.ListN.{length, get_or, set, take, replicate}
use borrow.Author.Tests.{ltb-true}
use Rattle.subsumption.specs.Tables.{both, count_of}
use Rattle.subsumption.specs.Inner.Closure.{Ready}
use Rattle.subsumption.specs.Rules.{follows}
use Rattle.subsumption.proofs.Bools.{both_true, last-cases, or-skip}
use Rattle.subsumption.proofs.Accepted.{well_formed}
use Rattle.subsumption.proofs.RuleCompleteness.{follows-complete}
use Rattle.matching.specs.Derivation.{left_at, right_at, pair_at, proved_by, line_follows}
use Rattle.matching.specs.Inner.Derivation.{seen, MarksOf, LineTest}
use Rattle.matching.specs.Inner.Writer.Explain.{QuietFrom, New}
use Rattle.matching.specs.Inner.Writer.{LineWritten, RestKept, unset, Blank, Asked, Written, WrittenTo, Begun}
use Rattle.matching.proofs.DerivationLaws.Cells.{cell_room, cell_below, square-small}
use Rattle.matching.proofs.DerivationLaws.Lines.{marks-none, marks-more, line-rule, proved-more, empty-square, empty-seen}
use Rattle.matching.proofs.DerivationLaws.Monotone.{of-reads}
use Rattle.matching.proofs.WriterLaws.Lines.{Agree, proved-agree, line-agree}

-- ---- how many marks are not set
pub unset_set : (marks : List Bool) (p : ℕ) → p < length marks → get_or marks p false ≡ false → unset (set marks p true) + 1 ≡ unset marks
unfolding unset
unset_set [] p l e = absurd (omega arith)
unset_set (true ∷ marks) zero l e = absurd (true≢false e)
unset_set (false ∷ marks) zero l e = refl
unset_set (true ∷ marks) (suc p) l e = unset_set marks p (omega arith) e
unset_set (false ∷ marks) (suc p) l e = omega (arith, unset_set marks p (omega arith) e)

unset-blank : (n m : ℕ) → n ≤ m → unset (take n (replicate m false)) ≡ n
unfolding unset
unset-blank zero m h = refl
unset-blank (suc n) zero h = absurd (omega arith)
unset-blank (suc n) (suc m) h = omega (arith, unset-blank n m (omega arith))

pub blank-marks : (count : ℕ) → count ≤ 192 → Blank count (take (count * count) (replicate 36864 false))
blank-marks count h =
    record { square = empty-square count h; none = λ i j. empty-seen count i j h; all = unset-blank (count * count) 36864 (square-small count h) }

-- ---- past the lines nothing changes
pub kept-none : (out : List ℕ) (n : ℕ) → RestKept out out n n
kept-none out n = record { more = omega arith; size = refl; rest = λ p h. refl }

pub kept_more :
    (before out out' : List ℕ) (first n rule left right extra : ℕ) → RestKept before out first n → LineWritten out out' n rule left right extra
    → RestKept before out' first (n + 1)
kept_more before out out' first n rule left right extra w s =
    record { more = omega (arith, w.more); size = s.size ∙ w.size; rest = λ p h. s.over p h ∙ w.rest p (omega arith) }

pub kept-both : (before out after : List ℕ) (first m n : ℕ) → RestKept before out first m → RestKept out after m n → RestKept before after first n
kept-both before out after first m n w u =
    record { more = omega (arith, w.more, u.more); size = u.size ∙ w.size; rest = λ p h. u.rest p h ∙ w.rest p (omega (arith, u.more)) }

-- the scan begins anew, or goes on
unfoldable pub started : ℕ → ℕ
started zero = 0
started (suc from) = 1

pub started-low : (from : ℕ) → started from ≤ 1
unfolding started
started-low zero = omega arith
started-low (suc from) = omega arith

pub started-some : (from : ℕ) → (from ≡ 0 → ⊥) → started 0 < started from
unfolding started
started-some zero h = absurd (h refl)
started-some (suc from) h = omega arith

pub measure-less : (a b from to : ℕ) → a + 1 ≡ b → a * 2 + started to < b * 2 + started from
measure-less a b from to e = omega (arith, started-low to)

module _ (concepts inclusions into ids assignment : List ℕ) where
  pub written_none : (marks : List Bool) (out : List ℕ) → Blank (count_of concepts) marks → Written concepts inclusions into ids assignment marks out 0
  written_none marks out b =
      record {
        marked = marks-none (count_of concepts) marks out b.square b.none;
        room = omega (arith, b.all);
        left-known = λ k h. absurd (omega arith);
        right-known = λ k h. absurd (omega arith);
        fresh = λ k h. absurd (omega arith);
        follow = λ k h. absurd (omega arith);
      }

  -- ---- one more line
  module _ (marks : List Bool) (out : List ℕ) (n : ℕ) (d : Written concepts inclusions into ids assignment marks out n) (rule left right extra : ℕ)
      (w : New concepts inclusions into ids assignment marks rule left right extra) where
    pub unset-less : unset (set marks (left * count_of concepts + right) true) + 1 ≡ unset marks
    unfolding seen
    unset-less = unset_set marks (left * count_of concepts + right) (cell_room (count_of concepts) marks left right d.marked.square w.left-known w.right-known) w.fresh

    pub written-room : n < count_of concepts * count_of concepts
    written-room = omega (arith, d.room, unset-less)

    module _ (r : Ready concepts inclusions ids assignment) (marks' : List Bool) (out' : List ℕ) (s : LineWritten out out' n rule left right extra)
        (e : marks' ≡ set marks (left * count_of concepts + right) true) where
      agree : Agree out' out n
      agree = record { each = s.under }

      marked-same : MarksOf (count_of concepts) marks out' n
      marked-same =
          record { square = d.marked.square; same = λ i j h l. d.marked.same i j h l ∙ sym (proved-agree out' out n agree i j n (omega arith)) }

      new-fresh : proved_by out' n (left_at out' n) (right_at out' n) ≡ false
      new-fresh =
          subst (λ (z : ℕ). proved_by out' n z (right_at out' n) ≡ false) (sym s.left_is)
          (subst (λ (z : ℕ). proved_by out' n left z ≡ false) (sym s.right_is)
          (sym (marked-same.same left right w.left-known w.right-known) ∙ w.fresh))

      new_line : LineTest concepts inclusions into ids assignment out' n true
      new_line =
          line-rule concepts inclusions into ids assignment marks out' n r marked-same rule left right extra true (sym s.rule-is) (sym s.left_is) (sym s.right_is) (sym s.extra-is)
          w.left-known w.right-known w.gives.by

      old-left : (k : ℕ) → k < n → left_at out' k ≡ left_at out k
      old-left k h = s.under (k * 4 + 1) (omega arith)

      old-right : (k : ℕ) → k < n → right_at out' k ≡ right_at out k
      old-right k h = s.under (k * 4 + 2) (omega arith)

      old-fresh : (k : ℕ) → k < n → proved_by out' k (left_at out' k) (right_at out' k) ≡ false
      old-fresh k h =
          subst (λ (z : ℕ). proved_by out' k z (right_at out' k) ≡ false) (sym (old-left k h))
          (subst (λ (z : ℕ). proved_by out' k (left_at out k) z ≡ false) (sym (old-right k h))
          (proved-agree out' out n agree _ _ k (omega arith) ∙ d.fresh k h))

      pub written-more : Written concepts inclusions into ids assignment marks' out' (n + 1)
      written-more =
          record {
            marked = marks-more (count_of concepts) marks out' n marked-same left right marks' (sym s.left_is) (sym s.right_is) w.left-known w.right-known e;
            room = omega (arith, d.room, unset-less, ap unset e);
            left-known = λ k h. ⊎_elim (λ (u : k ≡ n). subst (λ (z : ℕ). left_at out' z < count_of concepts) (sym u) (new_line.left-known refl))
                (λ u. subst (λ (z : ℕ). z < count_of concepts) (sym (old-left k u)) (d.left-known k u)) (last-cases k n (omega arith));
            right-known = λ k h. ⊎_elim (λ (u : k ≡ n). subst (λ (z : ℕ). right_at out' z < count_of concepts) (sym u) (new_line.right-known refl))
                (λ u. subst (λ (z : ℕ). z < count_of concepts) (sym (old-right k u)) (d.right-known k u)) (last-cases k n (omega arith));
            fresh = λ k h. ⊎_elim (λ (u : k ≡ n). subst (λ (z : ℕ). proved_by out' z (left_at out' z) (right_at out' z) ≡ false) (sym u) new-fresh)
                (λ u. old-fresh k u) (last-cases k n (omega arith));
            follow = λ k h t of. ⊎_elim (λ (u : k ≡ n). subst (λ (z : ℕ). line_follows t assignment out' z ≡ true) (sym u) (sym (new_line.tells t of)))
                (λ u. line-agree out' out n agree t assignment (of-reads t concepts inclusions into ids assignment of r) k u ∙ d.follow k u t of) (last-cases k n (omega arith));
          }

      asked-pair : (a b : ℕ) (x : Bool) → x ≡ both (eqb a left) (eqb b right) → pair_at out' a b n ≡ x
      unfolding pair_at
      asked-pair a b x f = rw (s.left_is, s.right_is) (sym f)

      -- the asked pair is the new one
      pub written_last : (a b : ℕ) (x : Bool) → x ≡ both (eqb a left) (eqb b right) → x ≡ true → WrittenTo concepts inclusions into ids assignment a b marks' out' (n + 1)
      written_last a b x f g =
          let q : n + 1 - 1 ≡ n = omega arith in
          record { written = written-more; some = omega arith; last = subst (λ (z : ℕ). pair_at out' a b z ≡ true) (sym q) (asked-pair a b x f ∙ g) }

      -- it is another
      pub written-other :
          (a b : ℕ) (x : Bool) → a < count_of concepts → b < count_of concepts → x ≡ both (eqb a left) (eqb b right) → x ≡ false → seen (count_of concepts) marks a b ≡ false
          → seen (count_of concepts) marks' a b ≡ false
      written-other a b x u v f g h =
          written-more.marked.same a b u v ∙ proved-more out' n a b ∙ or-skip _ _ (asked-pair a b x f ∙ g) ∙ sym (marked-same.same a b u v) ∙ h

  -- the proposals are at an end, with the asked pair last or not found
  pub begun-last :
      (left right : ℕ) (marks : List Bool) (out : List ℕ) (n : ℕ) → WrittenTo concepts inclusions into ids assignment left right marks out n
      → Begun concepts inclusions into ids assignment left right marks out n
  begun-last left right marks out n d = record { written = d.written; asked = λ e. d }

  -- a whole scan found nothing: the marks are closed under the rules
  pub scan-closed :
      (left right : ℕ) (marks : List Bool) (asked : Asked concepts inclusions into ids assignment left right) → QuietFrom concepts inclusions into ids assignment marks 0 (count_of concepts * count_of concepts)
      → seen (count_of concepts) marks left right ≡ true
  unfolding follows
  scan-closed left right marks asked q =
      follows-complete asked.t assignment (well_formed asked.t asked.accepted) (seen (count_of concepts) marks) closed left right
      (subst (λ (z : List ℕ). left < count_of z) (sym asked.of.concepts-are) asked.left-known)
      (subst (λ (z : List ℕ). right < count_of z) (sym asked.of.concepts-are) asked.right-known) asked.subsumed
    where
      closed : (rule i j extra : ℕ) → follows asked.t assignment (seen (count_of concepts) marks) rule i j extra ≡ true → seen (count_of concepts) marks i j ≡ true
      closed rule i j extra h = go (seen (count_of concepts) marks i j) refl
        where
          go : (b : Bool) → seen (count_of concepts) marks i j ≡ b → b ≡ true
          go true e = refl
          go false e =
              let (l, u) = both_true _ _ h in
              let (k, s) = both_true _ _ u in
              let li = subst (λ (z : List ℕ). i < count_of z) asked.of.concepts-are (ltb-true i (count_of asked.t.concepts) l) in
              let kj = subst (λ (z : List ℕ). j < count_of z) asked.of.concepts-are (ltb-true j (count_of asked.t.concepts) k) in
              absurd (true≢false (sym s ∙ (q.each i j li kj (omega arith) (cell_below (count_of concepts) i j li kj)).none e asked.t asked.of rule extra))

  -- no scan from the first cell on finds nothing
  pub scan-stops :
      (marks : List Bool) (from : ℕ) → QuietFrom concepts inclusions into ids assignment marks from (count_of concepts * count_of concepts)
      → (left right : ℕ) → Asked concepts inclusions into ids assignment left right → seen (count_of concepts) marks left right ≡ false
      → from ≡ 0 → ⊥
  scan-stops marks from q left right asked g f =
      true≢false
      (sym (scan-closed left right marks asked (subst (λ (z : ℕ). QuietFrom concepts inclusions into ids assignment marks z
      (count_of concepts * count_of concepts)) f q)) ∙ g)
