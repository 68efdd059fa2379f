-- The plan for an asked pair, for tables and for a text, by cases.
use Rattle.std.specs.Prelude.{Result, Ok, Err}
use Prim.Native.Nat.{ℕ, zero, suc, ◌*◌, ◌≤◌}
use mathlib.Core.Path.{◌≡◌, refl, sym, ap, ◌∙◌, subst}
use mathlib.Core.List.{List, ◌∷◌}
use native.Mathlib.Omega.{arith}
use lib.ListN.{length, take, replicate}
use lib.Seq.{take_all, take-take, length-take-le}
use Rattle.subsumption.specs.declared.refusal.Refusal.{Refusal}
use Rattle.subsumption.specs.Tables.{Tables, tables, count_of}
use Rattle.subsumption.specs.Refusal.{code_of, Outcome, Done}
use Rattle.subsumption.specs.Check.{table_fault}
use Rattle.subsumption.specs.Decide.{deciding_fault}
use Rattle.subsumption.specs.Table.{marked}
use Rattle.subsumption.specs.Inner.Roles.{in_set, LowRoles, RoleSets}
use Rattle.subsumption.proofs.Accepted.{well_formed, roles-low}
use Rattle.subsumption.proofs.Refusals.{passed_first}
use Rattle.subsumption.proofs.Deciding.{asked-tables}
use Rattle.countermodel.specs.Inner.Show.{Judged as PairJudged}
use Rattle.numerals.specs.Inner.Printing.{Wrote}
use Rattle.numerals.specs.Printing.{Output}
use Rattle.numerals.proofs.PieceLaws.{output}
use Rattle.hermitcasket.specs.declared.text.Ask.{Ask}
use Rattle.hermitcasket.specs.declared.text.Ask.TheVariants.{Fill, Show}
use Rattle.hermitcasket.specs.declared.text.Problem.{Problem}
use Rattle.hermitcasket.specs.declared.answer.Plan.{Plan}
use Rattle.hermitcasket.specs.declared.answer.Plan.TheVariants.{Whole, Parts}
use Rattle.hermitcasket.specs.Text.{Judged, accepted, judge}
use Rattle.hermitcasket.specs.Printing.{code_text, shown_text, parts_of}
use Rattle.hermitcasket.specs.Answer.{AnsweredTables, unassigned, shown_fault, shown_or, AnsweredPair, AnsweredJudged, Held, InParts, Planned}
use Rattle.hermitcasket.specs.Inner.Text.{judged_by, ReadFits}

-- ---- an asked pair
zeros : (v n : ℕ) → v ≤ n → take {A = ℕ} v (replicate n 0) ≡ replicate v 0
zeros zero n h = refl
zeros (suc v) zero h = absurd (omega arith)
zeros (suc v) (suc n) h = ap (λ (z : List ℕ). 0 ∷ z) (zeros v n (omega arith))

module _
    (t : Tables) (few : t.variables ≤ 8) (left right : ℕ) (table : List ℕ) (outcome : Outcome)
    (judged : PairJudged t (take t.variables (replicate 8 0)) left right table outcome) where
  none-chosen : PairJudged t (unassigned t) left right table outcome
  none-chosen = subst (λ (z : List ℕ). PairJudged t z left right table outcome) (zeros t.variables 8 few) judged

  asked : outcome ≡ shown_fault t left right (marked table)
  unfolding shown_fault
  asked = none-chosen.judged

  refused-pair : (r : Refusal) → outcome ≡ Err r → AnsweredPair t left right (code_text (code_of r))
  refused-pair r e =
      record {
        marks = marked table;
        exactly = none-chosen.exactly;
        shown = ap (λ (z : Outcome). shown_or z (shown_text t.concepts t.roles (marked table))) (sym e ∙ asked);
      }

  pub pair-refused :
      (r : Refusal) → outcome ≡ Err r → (before : List ℕ) (size : ℕ) (after : List ℕ) → Wrote before 0 (code_text (code_of r)) size after
      → Output (AnsweredJudged (accepted t (Show left right))) before size after
  pair-refused r e before size after w = output _ before _ size after w (refused-pair r e)

  module _ (e : outcome ≡ Done) where
    fails : shown_fault t left right (marked table) ≡ Done
    fails = sym asked ∙ e

    decided : deciding_fault t (unassigned t) left right ≡ Done
    unfolding shown_fault
    decided = passed_first _ _ fails

    checked : table_fault t ≡ Done
    checked = asked-tables t (unassigned t) left right decided

    pub pair-roles : LowRoles t.roles
    pair-roles = roles-low t checked

    pub pair-few : count_of t.concepts ≤ 192
    pair-few = (well_formed t checked).few

    in_parts : (into : List ℕ) → RoleSets t.roles into → InParts (accepted t (Show left right)) t.concepts into table (parts_of t.concepts)
    unfolding in_set
    in_parts into sets =
        record {
          t = t;
          left = left;
          right = right;
          asked = refl;
          fails = fails;
          exactly = none-chosen.exactly decided;
          held = record { checked = checked; same = refl; sets-long = sets.long; sets = sets.each; table-long = none-chosen.long };
          all = refl;
        }

    pub pair_parts :
        (into before : List ℕ) → RoleSets t.roles into
        → Planned (accepted t (Show left right)) (Parts (count_of t.concepts) (parts_of t.concepts)) t.concepts into table before before
    pair_parts into before sets =
        let whole = (well_formed t checked).whole in
        let all = take_all (count_of t.concepts * 3) t.concepts (omega (arith, whole)) in
        (omega (arith, whole), subst (λ (z : List ℕ). InParts (accepted t (Show left right)) z into table (parts_of t.concepts)) (sym all) (in_parts into sets), refl)

-- ---- tables
module _ (t : Tables) (ask : Ask) (concepts into table before after : List ℕ) where
  pub planned-fill : ask ≡ Fill → (size : ℕ) → Output (AnsweredTables t (table_fault t)) before size after → Planned (accepted t ask) (Whole size) concepts into table before after
  planned-fill e size o = subst (λ (z : Ask). Output (AnsweredJudged (accepted t z)) before size after) (sym e) o

  pub planned-show :
      (left right : ℕ) → ask ≡ Show left right → (plan : Plan) → Planned (accepted t (Show left right)) plan concepts into table before after
      → Planned (accepted t ask) plan concepts into table before after
  planned-show left right e plan p = subst (λ (z : Ask). Planned (accepted t z) plan concepts into table before after) (sym e) p

-- ---- a text
pub read_fits :
    (read : Result Problem Refusal) → ReadFits read → (p : Problem) → read ≡ Ok p
    → (p.variables ≤ 8) × (p.concepts ≤ 192) × (p.inclusions ≤ 96) × (p.questions ≤ 32) × (p.roles ≤ 32)
read_fits read h p e = subst ReadFits e h

-- the concepts in front of a longer array
in-front :
    (judged : Judged) (n : ℕ) (concepts into table before after : List ℕ) (plan : Plan) → n ≤ length concepts
    → Planned judged plan (take n concepts) into table before after → Planned judged plan concepts into table before after
in-front judged n concepts into table before after (Whole size) h p = p
in-front judged n concepts into table before after (Parts count parts) h p =
    let l : count * 3 ≤ n = omega (arith, p.0, length-take-le n concepts h) in
    (omega arith, subst (λ (z : List ℕ). InParts judged z into table parts) (take-take (count * 3) n concepts l) p.1, p.2)

module _ (text concepts inclusions questions roles : List ℕ) (read : Result Problem Refusal)
    (judged : judge text ≡ judged_by read concepts inclusions questions roles) where
  pub text-refused :
      (r : Refusal) → read ≡ Err r → (before : List ℕ) (size : ℕ) (after : List ℕ) → Wrote before 0 (code_text (code_of r)) size after
      → Output (AnsweredJudged (judge text)) before size after
  unfolding judged_by
  text-refused r e before size after w =
      output _ before _ size after w
      (subst (λ (z : Judged). AnsweredJudged z (code_text (code_of r)))
      (sym (judged ∙ ap (λ (z : Result Problem Refusal). judged_by z concepts inclusions questions roles) e)) refl)

  pub text-planned :
      (p : Problem) → read ≡ Ok p → p.concepts * 3 ≤ length concepts → (into table before after : List ℕ) (plan : Plan)
      → Planned
      (accepted
      (tables (take (p.concepts * 3) concepts) (take (p.inclusions * 2) inclusions) (take (p.questions * 2) questions)
      (take (p.roles * 2) roles)
      p.variables)
      p.ask)
      plan (take (p.concepts * 3) concepts) into table before after
      → Planned (judge text) plan concepts into table before after
  unfolding judged_by
  text-planned p e h into table before after plan o =
      in-front (judge text) (p.concepts * 3) concepts into table before after plan h
      (subst (λ (z : Judged). Planned z plan (take (p.concepts * 3) concepts) into table before after)
      (sym (judged ∙ ap (λ (z : Result Problem Refusal). judged_by z concepts inclusions questions roles) e)) o)

-- ---- what the program goes by
module _ (judged : Judged) (plan : Plan) (concepts into table before after : List ℕ) (p : Planned judged plan concepts into table before after) where
  by : (q : Plan) → plan ≡ q → Planned judged q concepts into table before after
  by q e = subst (λ (z : Plan). Planned judged z concepts into table before after) e p

  pub whole-within : (size : ℕ) → plan ≡ Whole size → size ≤ length after
  whole-within size e = (by (Whole size) e).within

  module _ (count parts : ℕ) (e : plan ≡ Parts count parts) where
    pub parts_within : count * 3 ≤ length concepts
    parts_within = (by (Parts count parts) e).0

    pub parts_held : (t : Tables) × Held t (take (count * 3) concepts) into table
    parts_held = let q = (by (Parts count parts) e).1 in (q.t, q.held)

    pub parts_all : parts ≤ parts_of (take (count * 3) concepts)
    parts_all = omega (arith, (by (Parts count parts) e).1.all)
