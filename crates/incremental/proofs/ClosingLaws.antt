-- Rounds until nothing changes, and what the marks then are.
use Prim.Native.Nat.{ℕ, ◌+◌, ◌<◌, ◌≤◌}
use mathlib.Core.Path.{◌≡◌, refl, ap, sym, ◌∙◌, subst}
use mathlib.Core.List.{List}
use mathlib.Core.Bool.{Bool, true, false, ◌||◌}
use native.Mathlib.Omega.{arith}
use Rattle.subsumption.specs.Tables.{count_of, pairs_of}
use Rattle.subsumption.specs.Roles.{wider}
use Rattle.subsumption.specs.Inner.Columns.{slack}
use Rattle.subsumption.specs.Inner.Roles.{in_set, RoleSets}
use Rattle.subsumption.specs.Inner.Closure.{Ready}
use Rattle.subsumption.proofs.Columns.{not-both}
use Rattle.subsumption.proofs.Closing.{weight}
use Rattle.square.specs.Inner.Square.{in_row, Square}
use Rattle.incremental.specs.Inner.Lines.{StartLines, LinkLines}
use Rattle.incremental.specs.Inner.Including.{Pairs}
use Rattle.incremental.specs.Inner.Rows.{RowsPass}
use Rattle.incremental.specs.Inner.Rising.{AllRisen}
use Rattle.incremental.specs.Inner.Start.{Grown, Begun}
use Rattle.incremental.specs.Inner.Closing.{RoundLines, RoundPass, Rounded, Closed}
use Rattle.incremental.proofs.Passes.{pass-as, pass-then, pass-law}
use Rattle.incremental.proofs.StartLaws.{grown-none, grown-then, grown-law}

pub ready-includable : {concepts inclusions atoms choices : List ℕ} → Ready concepts inclusions atoms choices → pairs_of inclusions ≤ 96 → Pairs (count_of concepts) inclusions
ready-includable R few = record { low = R.few; few = few; left = R.left-known; right = R.right-known }

pub ready-low : {concepts inclusions atoms choices : List ℕ} → Ready concepts inclusions atoms choices → pairs_of inclusions ≤ 96 → Pairs 192 inclusions
ready-low R few =
    record { low = omega arith; few = few; left = λ m h. omega (arith, R.left-known m h, R.few); right = λ m h. omega (arith, R.right-known m h, R.few) }

module _ (concepts inclusions : List ℕ) (wide : ℕ → ℕ → Bool) (choose : ℕ → List ℕ) where
  -- ---- one round
  pub round-pass :
      {before mid after : List ℕ} {a b : Bool} → RowsPass concepts inclusions choose before mid a → AllRisen concepts inclusions wide choose mid after b
      → RoundPass concepts inclusions wide choose before after (a || b)
  round-pass A B =
      pass-as
      (pass-then (pass-law (λ R r. r.rows) A) (pass-law (λ R r. record { meet = r.meet; link = r.link; include = r.rows.1 }) B))
      (λ u. record { meet = λ j h. (u.1 j h).0; rows = u.0; link = λ j h. (u.1 j h).1 })

  -- ---- all rounds
  pub record Rounding (before after : List ℕ) (busy : Bool) : Type 0 where
    pub grown : Grown (count_of concepts) (RoundLines concepts inclusions wide choose) before after
    pub lines : busy ≡ false → RoundLines concepts inclusions wide choose (in_row after)

  pub rounding-first : (s : List ℕ) → Square s → Rounding s s true
  rounding-first s S = record { grown = grown-none S; lines = λ e. not-both true refl e }

  pub rounding-turn :
      (before mid after : List ℕ) (busy changed : Bool) → Rounding before mid busy → RoundPass concepts inclusions wide choose mid after changed → Rounding before after changed
  rounding-turn before mid after busy changed T P =
      record {
        grown = grown-then T.grown (record { square = P.square; kept = P.kept; sound = P.sound });
        lines = λ e. subst (λ (s : List ℕ). RoundLines concepts inclusions wide choose (in_row s)) (sym (P.same e)) (P.quiet e);
      }

  pub rounding-less :
      (before after : List ℕ) (busy changed : Bool) → busy ≡ true → RoundPass concepts inclusions wide choose before after changed
      → slack after + weight changed < slack before + weight busy
  rounding-less before after true true e P = omega (arith, P.less refl)
  rounding-less before after true false e P = omega (arith, ap slack (P.same refl))
  rounding-less before after false changed e P = not-both true refl (sym e)

  pub rounding-done : (before after : List ℕ) (busy : Bool) → busy ≡ false → Rounding before after busy → Rounded concepts inclusions wide choose before after
  rounding-done before after busy e T = record { grown = T.grown; lines = T.lines e }

-- ---- all the rules, and the roles as the tables have them
module _ (concepts inclusions atoms choices roles into : List ℕ) (choose : ℕ → List ℕ) (R : Ready concepts inclusions atoms choices) (S : RoleSets roles into) where
  to-sets : (Q : ℕ → ℕ → Bool) → LinkLines concepts (wider roles) Q → LinkLines concepts (in_set into) Q
  to-sets Q law f l e r s x y k p q w u = law f l e r s x y k p q (sym (S.each r s (R.low-roles e r x p) (R.low-roles f s y q)) ∙ w) u

  from-sets : (Q : ℕ → ℕ → Bool) → LinkLines concepts (in_set into) Q → LinkLines concepts (wider roles) Q
  from-sets Q law f l e r s x y k p q w u = law f l e r s x y k p q (S.each r s (R.low-roles e r x p) (R.low-roles f s y q) ∙ w) u

  start-more :
      (before after : List ℕ) → ((i j : ℕ) → i < 192 → j < 192 → in_row before i j ≡ true → in_row after i j ≡ true) → StartLines concepts (in_row before) → StartLines concepts (in_row after)
  start-more before after kept L =
      record {
        same = λ i l. kept i i (omega (arith, R.few)) (omega (arith, R.few)) (L.same i l);
        named = λ i j n l k p q. kept i j (omega (arith, R.few)) (omega (arith, R.few)) (L.named i j n l k p q);
        top = λ i j l k p. kept i j (omega (arith, R.few)) (omega (arith, R.few)) (L.top i j l k p);
      }

  pub all_closed :
      (before mid after : List ℕ) → Begun concepts before mid → Rounded concepts inclusions (in_set into) choose mid after
      → Closed concepts inclusions (wider roles) choose before after
  all_closed before mid after B P =
      record {
        grown =
            grown-then (grown-law (λ Q r. r.start) B.grown)
            (grown-law (λ Q r. record { meet = r.meet; rows = (r.inner, r.include); link = to-sets Q r.link }) P.grown);
        lines =
            record {
              start = start-more mid after P.grown.kept B.lines;
              inner = P.lines.rows.0;
              meet = P.lines.meet;
              include = P.lines.rows.1;
              link = from-sets (in_row after) P.lines.link;
            };
      }
