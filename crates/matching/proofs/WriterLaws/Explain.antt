-- The search for a line: what was tried, and that nothing else gives a pair.
use Prim.Native.Nat.{ℕ, zero, suc, ◌+◌, ◌-◌, ◌*◌, ◌/◌, ◌%◌, ◌<◌, ◌≤◌}
use mathlib.Core.Path.{◌≡◌, refl, sym, ap, ◌∙◌, subst}
use mathlib.Core.List.{List}
use mathlib.Core.Bool.{Bool, true, false, true≢false}
use mathlib.Core.Logic.{⊎_elim}
use native.Mathlib.Omega.{arith}
use borrow.Author.Tests.{ne_eqb, le-ltb}
use Rattle.subsumption.specs.Tables.{Tables, Node, top_at, name_at, exists_at, and_at, var_at, node, count_of, pairs_of}
use Rattle.subsumption.specs.Rules.{on_picked, by_rule}
use Rattle.subsumption.proofs.Bools.{both_true, both-none, last-cases, le-or-lt}
use Rattle.subsumption.proofs.Chosen.{chosen-known}
use Rattle.subsumption.proofs.RuleTests.{on_variable-elim, contains-elim}
use Rattle.matching.specs.Inner.Derivation.{seen, Of, ByRule}
use Rattle.matching.specs.Inner.Writer.Explain.{ExtraBound, NoRule, Quiet, QuietFrom, New}
use Rattle.matching.proofs.DerivationLaws.Cells.{cell_row, cell-column}

refuted : (x : Bool) → (x ≡ true → ⊥) → x ≡ false
refuted true h = absurd (h refl)
refuted false h = refl

past-node : (extra : ℕ) (m : Node) (test : ℕ → Bool) → on_picked (suc (suc extra)) test m ≡ false
unfolding on_picked
past-node extra top_at test = refl
past-node extra (name_at n) test = refl
past-node extra (exists_at r j) test = refl
past-node extra (and_at i j) test = refl
past-node extra (var_at k) test = refl

picked-past : (extra : ℕ) (m : Node) (test : ℕ → Bool) → 2 ≤ extra → on_picked extra test m ≡ false
picked-past zero m test h = absurd (omega arith)
picked-past (suc zero) m test h = absurd (omega arith)
picked-past (suc (suc extra)) m test h = past-node extra m test

-- the other rules take the extra 0 only
extra-past :
    (t : Tables) (assignment : List ℕ) (proved : ℕ → ℕ → Bool) (left right extra : ℕ) → 1 ≤ extra → (rule : ℕ) → (rule ≡ 3 → ⊥) → (rule ≡ 6 → ⊥) → (rule ≡ 7 → ⊥)
    → by_rule t assignment proved rule left right extra ≡ false
unfolding by_rule
extra-past t assignment proved left right extra h zero a b c = refl
extra-past t assignment proved left right extra h (suc zero) a b c = both-none _ _ (ne_eqb extra 0 (λ e. omega arith))
extra-past t assignment proved left right extra h (suc (suc zero)) a b c = both-none _ _ (ne_eqb extra 0 (λ e. omega arith))
extra-past t assignment proved left right extra h (suc (suc (suc zero))) a b c = absurd (a refl)
extra-past t assignment proved left right extra h (suc (suc (suc (suc zero)))) a b c = both-none _ _ (ne_eqb extra 0 (λ e. omega arith))
extra-past t assignment proved left right extra h (suc (suc (suc (suc (suc zero))))) a b c = both-none _ _ (ne_eqb extra 0 (λ e. omega arith))
extra-past t assignment proved left right extra h (suc (suc (suc (suc (suc (suc zero)))))) a b c = absurd (b refl)
extra-past t assignment proved left right extra h (suc (suc (suc (suc (suc (suc (suc zero))))))) a b c = absurd (c refl)
extra-past t assignment proved left right extra h (suc (suc (suc (suc (suc (suc (suc (suc zero)))))))) a b c = both-none _ _ (ne_eqb extra 0 (λ e. omega arith))
extra-past t assignment proved left right extra h (suc (suc (suc (suc (suc (suc (suc (suc (suc rule))))))))) a b c = refl

unknown-rule : (t : Tables) (assignment : List ℕ) (proved : ℕ → ℕ → Bool) (left right extra r : ℕ) → by_rule t assignment proved (suc (suc (suc (suc (suc (suc (suc (suc (suc r))))))))) left right extra ≡ false
unfolding by_rule
unknown-rule t assignment proved left right extra r = refl

rule-past : (t : Tables) (assignment : List ℕ) (proved : ℕ → ℕ → Bool) (left right extra rule : ℕ) → 9 ≤ rule → by_rule t assignment proved rule left right extra ≡ false
rule-past t assignment proved left right extra rule h = unknown (rule - 9) (sym (sub9 rule h))
  where
    sub9 : (rule : ℕ) → 9 ≤ rule → rule ≡ suc (suc (suc (suc (suc (suc (suc (suc (suc (rule - 9)))))))))
    sub9 rule h = omega arith

    unknown : (r : ℕ) → suc (suc (suc (suc (suc (suc (suc (suc (suc r)))))))) ≡ rule → by_rule t assignment proved rule left right extra ≡ false
    unknown r e = subst (λ (z : ℕ). by_rule t assignment proved z left right extra ≡ false) e (unknown-rule t assignment proved left right extra r)

-- ---- the extras
module _ (concepts inclusions : List ℕ) (rule left : ℕ) where
  pub member-bound : rule ≡ 3 → ExtraBound concepts inclusions rule left 2
  unfolding by_rule
  member-bound e = record { low = omega arith; past = λ t c i a p right extra h. rw e (picked-past extra (node t.concepts left) (λ z. p z right) h) }

  pub inclusion-bound : rule ≡ 6 → pairs_of inclusions ≤ 192 → ExtraBound concepts inclusions rule left (pairs_of inclusions)
  unfolding by_rule
  inclusion-bound e l =
      record {
        low = l;
        past = λ t c i a p right extra h. rw e (both-none _ _ (le-ltb _ _ (subst (λ (z : List ℕ). pairs_of z ≤ extra) (sym i) h)));
      }

  pub choice-bound : rule ≡ 7 → count_of concepts ≤ 192 → ExtraBound concepts inclusions rule left (count_of concepts)
  unfolding by_rule
  choice-bound e l =
      record {
        low = l;
        past = λ t c i a p right extra h.
            rw e
            (refuted _
            (λ u. let (v, _, s) = on_variable-elim _ _ u in
            let k = chosen-known t a v extra (contains-elim extra _ (both_true _ _ s).0) in
            absurd (omega (arith, subst (λ (z : List ℕ). extra < count_of z) c k))));
      }

  pub variable-bound : rule ≡ 7 → ((k : ℕ) → node concepts left ≡ var_at k → ⊥) → ExtraBound concepts inclusions rule left 0
  unfolding by_rule
  variable-bound e ne =
      record {
        low = omega arith;
        past = λ t c i a p right extra h.
            rw e
            (refuted _
            (λ u. let (v, q, _) = on_variable-elim _ _ u in
            ne v (subst (λ (z : List ℕ). node z left ≡ var_at v) c q)));
      }

  pub zero-bound : (rule ≡ 3 → ⊥) → (rule ≡ 6 → ⊥) → (rule ≡ 7 → ⊥) → ExtraBound concepts inclusions rule left 1
  zero-bound a b d = record { low = omega arith; past = λ t c i z p right extra h. extra-past t z p left right extra (omega arith) rule a b d }

module _ (concepts inclusions into ids assignment : List ℕ) (marks : List Bool) where
  -- ---- one pair
  module _ (left right : ℕ) where
    pub rule-none : NoRule concepts inclusions into ids assignment marks left right 1
    unfolding by_rule
    rule-none = record { none = λ t of rule extra h. let e : rule ≡ 0 = omega arith in rw e refl }

    pub rule-more :
        (rule : ℕ) → NoRule concepts inclusions into ids assignment marks left right rule
        → ((t : Tables) → Of t concepts inclusions into ids → (e : ℕ) → by_rule t assignment (seen (count_of concepts) marks) rule left right e ≡ false)
        → NoRule concepts inclusions into ids assignment marks left right (rule + 1)
    rule-more rule n h =
        record {
          none = λ t of r extra l.
              ⊎_elim (λ (u : r ≡ rule). subst (λ (z : ℕ). by_rule t assignment (seen (count_of concepts) marks) z left right extra ≡ false) (sym u) (h t of extra))
              (λ u. n.none t of r extra u) (last-cases r rule (omega arith));
        }

    pub rule-done :
        (rule : ℕ) → NoRule concepts inclusions into ids assignment marks left right rule → 9 ≤ rule
        → (t : Tables) → Of t concepts inclusions into ids → (r extra : ℕ) → by_rule t assignment (seen (count_of concepts) marks) r left right extra ≡ false
    rule-done rule n h t of r extra =
        ⊎_elim (λ u. rule-past t assignment _ left right extra r u) (λ u. n.none t of r extra (omega arith)) (le-or-lt 9 r)

  -- ---- a proposed line
  pub tested-new :
      (rule left right extra : ℕ) (x y : Bool) → rule < 9 → left < count_of concepts → right < count_of concepts → extra < 192 → x ≡ seen (count_of concepts) marks left right → x ≡ false
      → ByRule concepts inclusions into ids assignment marks rule left right extra y → y ≡ true → New concepts inclusions into ids assignment marks rule left right extra
  tested-new rule left right extra x y r l k e f g b h =
      record {
        left-known = l;
        right-known = k;
        fresh = sym f ∙ g;
        gives = record { rule-low = r; extra-low = e; by = λ t of. sym h ∙ b t of };
      }

  -- ---- all pairs
  pub quiet_none : (from : ℕ) → QuietFrom concepts inclusions into ids assignment marks from from
  quiet_none from = record { each = λ i j h l u v. absurd (omega arith) }

  module _ (from p : ℕ) (q : QuietFrom concepts inclusions into ids assignment marks from p) where
    quiet-more : Quiet concepts inclusions into ids assignment marks (p / count_of concepts) (p % count_of concepts) → QuietFrom concepts inclusions into ids assignment marks from (p + 1)
    quiet-more h =
        record {
          each = λ i j a b u v.
              ⊎_elim
              (λ (e : i * count_of concepts + j ≡ p).
              subst (λ (z : ℕ). Quiet concepts inclusions into ids assignment marks z j) (ap (λ (z : ℕ). z / count_of concepts) (sym e) ∙ cell_row (count_of concepts) i j b)
              (subst (λ (z : ℕ). Quiet concepts inclusions into ids assignment marks (p / count_of concepts) z) (ap (λ (z : ℕ). z % count_of concepts) (sym e) ∙ cell-column (count_of concepts) i j b) h))
              (λ w. q.each i j a b u w) (last-cases (i * count_of concepts + j) p (omega arith));
        }

    pub quiet-marked :
        (x : Bool) → x ≡ seen (count_of concepts) marks (p / count_of concepts) (p % count_of concepts) → x ≡ true → QuietFrom concepts inclusions into ids assignment marks from (p + 1)
    quiet-marked x e f = quiet-more (record { none = λ z. absurd (true≢false (sym f ∙ e ∙ z)) })

    pub quiet-unknown :
        ((t : Tables) → Of t concepts inclusions into ids → (r extra : ℕ) → by_rule t assignment (seen (count_of concepts) marks) r (p / count_of concepts) (p % count_of concepts) extra ≡ false)
        → QuietFrom concepts inclusions into ids assignment marks from (p + 1)
    quiet-unknown h = quiet-more (record { none = λ z t of r extra. h t of r extra })
