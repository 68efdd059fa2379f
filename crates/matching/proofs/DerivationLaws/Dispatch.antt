-- From the tests of the rules to the rule of a line, and what the tests ask of the rows.
use Prim.Native.Nat.{ℕ, zero, suc, ◌<◌}
use mathlib.Core.Path.{◌≡◌, refl, sym, ap, ap₂, ◌∙◌, subst}
use mathlib.Core.List.{List}
use mathlib.Core.Bool.{Bool, false}
use native.Mathlib.Omega.{arith}
use lib.Dec.{eqb, ltb}
use lib.ListN.{length, get_or}
use borrow.Author.Tests.{ne_eqb}
use Rattle.subsumption.specs.Tables.{or, both, Node, top_at, name_at, exists_at, and_at, var_at, node, count_of, pairs_of, left_of, right_of}
use Rattle.subsumption.specs.Inner.Tables.{Rising}
use Rattle.subsumption.specs.Atoms.{atoms, chosen, pick}
use Rattle.subsumption.specs.Inner.Closure.{Ready}
use Rattle.subsumption.specs.Inner.Atoms.{Known}
use Rattle.subsumption.specs.Roles.{wider}
use Rattle.subsumption.specs.Inner.Roles.{in_set}
use Rattle.subsumption.specs.Rules.{every, contains, same_name, is_top, on_picked, on_both, on_inner, on_variable, by_rule}
use Rattle.matching.specs.Inner.Derivation.{LowRole, seen, KnownAtoms, Numbered, ByRule}

rising-up : (count i : ℕ) (m : Node) → i < count → Rising i m → Rising count m
rising-up count i top_at h r = tt
rising-up count i (name_at n) h r = tt
rising-up count i (exists_at s j) h r = omega arith
rising-up count i (and_at j k) h r = (omega (arith, r.0), omega (arith, r.1))
rising-up count i (var_at k) h r = tt

numbered_of : (assignment : List ℕ) (m : Node) → ((k : ℕ) → m ≡ var_at k → k < length assignment) → Numbered assignment m
numbered_of assignment top_at h = tt
numbered_of assignment (name_at n) h = tt
numbered_of assignment (exists_at s j) h = tt
numbered_of assignment (and_at j k) h = tt
numbered_of assignment (var_at k) h = h k refl

-- rule 5 by the sets of roles
inner-agree :
    (wide wide' : ℕ → ℕ → Bool) → ((r s : ℕ) → r < 100 → s < 100 → wide r s ≡ wide' r s) → (test : ℕ → ℕ → Bool) (m n : Node) → LowRole m → LowRole n
    → on_inner wide test m n ≡ on_inner wide' test m n
unfolding on_inner
inner-agree wide wide' same test top_at m u w = refl
inner-agree wide wide' same test (name_at n) m u w = refl
inner-agree wide wide' same test (exists_at r i) top_at u w = refl
inner-agree wide wide' same test (exists_at r i) (name_at m) u w = refl
inner-agree wide wide' same test (exists_at r i) (exists_at s y) u w = ap (λ (z : Bool). both z (test i y)) (same r s u w)
inner-agree wide wide' same test (exists_at r i) (and_at x y) u w = refl
inner-agree wide wide' same test (exists_at r i) (var_at z) u w = refl
inner-agree wide wide' same test (and_at i j) m u w = refl
inner-agree wide wide' same test (var_at k) m u w = refl

module _ (concepts inclusions ids assignment : List ℕ) (ready : Ready concepts inclusions ids assignment) where
  pub row-rising : (i : ℕ) (m : Node) → i < count_of concepts → m ≡ node concepts i → Rising (count_of concepts) m
  row-rising i m h e = subst (Rising (count_of concepts)) (sym e) (rising-up (count_of concepts) i (node concepts i) h (ready.rising i h))

  pub row_low : (i : ℕ) (m : Node) → m ≡ node concepts i → LowRole m
  row_low i m e = subst LowRole (sym e) (go (node concepts i) refl)
    where
      go : (m : Node) → node concepts i ≡ m → LowRole m
      go top_at e = tt
      go (name_at n) e = tt
      go (exists_at r j) e = ready.low-roles i r j e
      go (and_at j k) e = tt
      go (var_at k) e = tt

  pub row-numbered : (i : ℕ) (m : Node) → m ≡ node concepts i → Numbered assignment m
  row-numbered i m e = subst (Numbered assignment) (sym e) (numbered_of assignment (node concepts i) (ready.numbered i))

  pub atoms-in : KnownAtoms (count_of concepts) ids
  atoms-in = record { few-atoms = ready.few-atoms; atoms-known = ready.atoms-known }

  pub inclusions-in : Known (count_of concepts) inclusions
  inclusions-in = record { left-known = ready.left-known; right-known = ready.right-known }

module _ (concepts inclusions into ids assignment : List ℕ) (marks : List Bool) (left right extra : ℕ) where
  proved : ℕ → ℕ → Bool
  proved = seen (count_of concepts) marks

  module _ (rule : ℕ) (l r : Node) (x : Bool) (p : l ≡ node concepts left) (q : r ≡ node concepts right) where
    pub rule-member : rule ≡ 3 → x ≡ on_picked extra (λ i. seen (count_of concepts) marks i right) l → ByRule concepts inclusions into ids assignment marks rule left right extra x
    unfolding by_rule
    rule-member e h t of =
        rw (e, of.concepts-are) (h ∙ ap (on_picked extra (λ i. seen (count_of concepts) marks i right)) p)

    pub rule-inclusion :
        rule ≡ 6 → x ≡ both (ltb extra (pairs_of inclusions)) (both (seen (count_of concepts) marks left (left_of inclusions extra)) (seen (count_of concepts) marks (right_of inclusions extra) right))
        → ByRule concepts inclusions into ids assignment marks rule left right extra x
    unfolding by_rule
    rule-inclusion e h t of = rw (e, of.inclusions-are) h

    pub rule-choice :
        rule ≡ 7 → x ≡ on_variable (λ k. both (contains extra (pick ids (get_or assignment k 0))) (seen (count_of concepts) marks extra right)) l
        → ByRule concepts inclusions into ids assignment marks rule left right extra x
    unfolding by_rule chosen
    rule-choice e h t of =
        rw e
        (subst (λ (z : List ℕ). x ≡ on_variable (λ k. both (contains extra (pick (atoms t) (get_or assignment k 0))) (seen (count_of concepts) marks extra right)) (node z left)) (sym of.concepts-are)
        (subst (λ (z : List ℕ). x ≡ on_variable (λ k. both (contains extra (pick z (get_or assignment k 0))) (seen (count_of concepts) marks extra right)) (node concepts left)) (sym of.atoms_are)
        (h ∙ ap (on_variable (λ k. both (contains extra (pick ids (get_or assignment k 0))) (seen (count_of concepts) marks extra right))) p)))

    pub rule-name : rule ≡ 1 → extra ≡ 0 → x ≡ or (eqb left right) (same_name l r) → ByRule concepts inclusions into ids assignment marks rule left right extra x
    unfolding by_rule both
    rule-name e f h t of =
        rw (e, f, of.concepts-are) (h ∙ ap₂ (λ a b. or (eqb left right) (same_name a b)) p q)

    pub rule-top : rule ≡ 2 → extra ≡ 0 → x ≡ is_top r → ByRule concepts inclusions into ids assignment marks rule left right extra x
    unfolding by_rule both
    rule-top e f h t of = rw (e, f, of.concepts-are) (h ∙ ap is_top q)

    pub rule-both : rule ≡ 4 → extra ≡ 0 → x ≡ on_both (λ j. seen (count_of concepts) marks left j) r → ByRule concepts inclusions into ids assignment marks rule left right extra x
    unfolding by_rule both
    rule-both e f h t of = rw (e, f, of.concepts-are) (h ∙ ap (on_both (λ j. seen (count_of concepts) marks left j)) q)

    pub rule-inner :
        LowRole l → LowRole r → rule ≡ 5 → extra ≡ 0 → x ≡ on_inner (in_set into) (seen (count_of concepts) marks) l r
        → ByRule concepts inclusions into ids assignment marks rule left right extra x
    unfolding by_rule both
    rule-inner u w e f h t of =
        rw (e, f, of.concepts-are)
        (h ∙ inner-agree (in_set into) (wider t.roles) of.roles-are.each (seen (count_of concepts) marks) l r u w
        ∙ ap₂ (on_inner (wider t.roles) (seen (count_of concepts) marks)) p q)

    pub rule-all :
        rule ≡ 8 → extra ≡ 0 → x ≡ on_variable (λ k. every (λ p. seen (count_of concepts) marks left p) (pick ids (get_or assignment k 0))) r
        → ByRule concepts inclusions into ids assignment marks rule left right extra x
    unfolding by_rule both chosen
    rule-all e f h t of =
        rw (e, f)
        (subst (λ (z : List ℕ). x ≡ on_variable (λ k. every (λ p. seen (count_of concepts) marks left p) (pick (atoms t) (get_or assignment k 0))) (node z right)) (sym of.concepts-are)
        (subst (λ (z : List ℕ). x ≡ on_variable (λ k. every (λ p. seen (count_of concepts) marks left p) (pick z (get_or assignment k 0))) (node concepts right)) (sym of.atoms_are)
        (h ∙ ap (on_variable (λ k. every (λ p. seen (count_of concepts) marks left p) (pick ids (get_or assignment k 0)))) q)))

  -- the other rules ask that the extra is 0
  pub rule-extra :
      (rule : ℕ) → (rule ≡ 3 → ⊥) → (rule ≡ 6 → ⊥) → (rule ≡ 7 → ⊥) → (extra ≡ 0 → ⊥) → ByRule concepts inclusions into ids assignment marks rule left right extra false
  unfolding by_rule both
  rule-extra zero a b c ne t of = refl
  rule-extra (suc zero) a b c ne t of = rw (ne_eqb extra 0 ne)
  rule-extra (suc (suc zero)) a b c ne t of = rw (ne_eqb extra 0 ne)
  rule-extra (suc (suc (suc zero))) a b c ne t of = absurd (a refl)
  rule-extra (suc (suc (suc (suc zero)))) a b c ne t of = rw (ne_eqb extra 0 ne)
  rule-extra (suc (suc (suc (suc (suc zero))))) a b c ne t of = rw (ne_eqb extra 0 ne)
  rule-extra (suc (suc (suc (suc (suc (suc zero)))))) a b c ne t of = absurd (b refl)
  rule-extra (suc (suc (suc (suc (suc (suc (suc zero))))))) a b c ne t of = absurd (c refl)
  rule-extra (suc (suc (suc (suc (suc (suc (suc (suc zero)))))))) a b c ne t of = rw (ne_eqb extra 0 ne)
  rule-extra (suc (suc (suc (suc (suc (suc (suc (suc (suc rule))))))))) a b c ne t of = refl

  pub rule-unknown :
      (rule : ℕ) → (rule ≡ 3 → ⊥) → (rule ≡ 6 → ⊥) → (rule ≡ 7 → ⊥) → (rule ≡ 1 → ⊥) → (rule ≡ 2 → ⊥) → (rule ≡ 4 → ⊥) → (rule ≡ 5 → ⊥) → (rule ≡ 8 → ⊥)
      → ByRule concepts inclusions into ids assignment marks rule left right extra false
  unfolding by_rule
  rule-unknown zero a b c d e f g h t of = refl
  rule-unknown (suc zero) a b c d e f g h t of = absurd (d refl)
  rule-unknown (suc (suc zero)) a b c d e f g h t of = absurd (e refl)
  rule-unknown (suc (suc (suc zero))) a b c d e f g h t of = absurd (a refl)
  rule-unknown (suc (suc (suc (suc zero)))) a b c d e f g h t of = absurd (f refl)
  rule-unknown (suc (suc (suc (suc (suc zero))))) a b c d e f g h t of = absurd (g refl)
  rule-unknown (suc (suc (suc (suc (suc (suc zero)))))) a b c d e f g h t of = absurd (b refl)
  rule-unknown (suc (suc (suc (suc (suc (suc (suc zero))))))) a b c d e f g h t of = absurd (c refl)
  rule-unknown (suc (suc (suc (suc (suc (suc (suc (suc zero)))))))) a b c d e f g h t of = absurd (h refl)
  rule-unknown (suc (suc (suc (suc (suc (suc (suc (suc (suc rule))))))))) a b c d e f g h t of = refl
