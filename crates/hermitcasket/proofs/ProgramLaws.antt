-- The answer for tables, by cases.
use Rattle.std.specs.Prelude.{Err, Ok}
use Prim.Native.Nat.{ℕ, ◌+◌, ◌≤◌}
use mathlib.Core.Path.{◌≡◌, refl, sym, ap, ◌∙◌, subst}
use mathlib.Core.List.{List}
use mathlib.Core.Logic.{inl, inr, ⊎_elim}
use native.Mathlib.Omega.{arith}
use lib.ListN.{length, take}
use lib.Seq.{length-take-le}
use borrow.Author.Tests.{le-ltb, eq-eqb, ne_eqb}
use Rattle.subsumption.specs.declared.refusal.Refusal.{Refusal}
use Rattle.subsumption.specs.declared.refusal.Refusal.TheVariants.{NoAssignment}
use Rattle.subsumption.specs.declared.refusal.Code.{Code}
use Rattle.subsumption.specs.Tables.{Tables}
use Rattle.subsumption.specs.Atoms.{atoms}
use Rattle.subsumption.specs.Refusal.{code_of, or_else, refuse_if, reply_of, Outcome, Done}
use Rattle.subsumption.specs.Check.{table_fault, assignment_fault, buffer_fault}
use Rattle.subsumption.proofs.Replies.{same-refusal, not_done}
use Rattle.matching.specs.Find.{finding_fault, FilledBy, FindsAfter, Finds}
use Rattle.numerals.specs.Inner.Printing.{Wrote}
use Rattle.numerals.specs.Printing.{refused_text, Output}
use Rattle.numerals.proofs.PieceLaws.{output}
use Rattle.hermitcasket.specs.Printing.{none_line, filled_text, pick_text, code_text}
use Rattle.hermitcasket.specs.Answer.{AnsweredTables}
use Rattle.hermitcasket.proofs.SizeLaws.{filled-room}

-- ---- a refusal
module _ (refusal : Refusal) (code : Code) (e : code ≡ code_of refusal) (out : List ℕ) (end : ℕ) (exit : List ℕ) where
  pub wrote_none : code.number ≡ 10 → Wrote out 0 none_line end exit → Wrote out 0 (code_text (code_of refusal)) end exit
  unfolding code_text pick_text
  wrote_none h w = rw (← e, eq-eqb code.number 10 h) w

  pub wrote-code : (code.number ≡ 10 → ⊥) → Wrote out 0 (refused_text code) end exit → Wrote out 0 (code_text (code_of refusal)) end exit
  unfolding code_text pick_text
  wrote-code h w = rw (← e, ne_eqb code.number 10 h) w

-- ---- tables
module _
    (t : Tables) (few : t.variables ≤ 8) (old new : List ℕ) (eight : length old ≡ 8) (found : Outcome)
    (finds : Finds t old new (reply_of found)) where
  same-fault : finding_fault t (length old) ≡ table_fault t
  unfolding finding_fault buffer_fault refuse_if or_else
  same-fault = rw (le-ltb (length old) t.variables (omega arith)) (go (table_fault t))
    where
      go : (o : Outcome) → or_else o Done ≡ o
      go (Ok tt) = refl
      go (Err r) = refl

  said : (y : Outcome) → found ≡ y → (o : Outcome) → table_fault t ≡ o → FindsAfter o t old new (reply_of y)
  said y e o f =
      subst (λ (z : Outcome). FindsAfter z t old new (reply_of y)) (same-fault ∙ f) (subst (λ (z : Outcome). Finds t old new (reply_of z)) e finds)

  filled : found ≡ Done → (table_fault t ≡ Done) × FilledBy t old new
  filled e = go (table_fault t) refl
    where
      go : (o : Outcome) → table_fault t ≡ o → (table_fault t ≡ Done) × FilledBy t old new
      go (Ok tt) f = ⊎_elim (λ (_, b). (f, b)) (λ (g, _). not_done NoAssignment 0 (sym g)) (said Done e Done f)
      go (Err r) f = not_done r 0 (sym (said Done e (Err r) f).0)

  pub filled-sound : found ≡ Done → table_fault t ≡ Done
  filled-sound e = (filled e).0

  filled-by : found ≡ Done → FilledBy t old new
  filled-by e = (filled e).1

  pub filled-count : found ≡ Done → t.variables ≤ length new
  filled-count e = omega (arith, (filled-by e).size)

  pub filled-exact : found ≡ Done → t.variables ≡ length (take t.variables new)
  filled-exact e = sym (length-take-le t.variables new (filled-count e))

  pub filled-accepted : found ≡ Done → assignment_fault t (take t.variables new) ≡ Done
  filled-accepted e = (filled-by e).first.accepted

  pub filled-fits : found ≡ Done → (out : List ℕ) → 4096 ≤ length out → 0 + length (filled_text (atoms t) (take t.variables new)) ≤ length out
  filled-fits e out h =
      filled-room t (take t.variables new) out (filled-sound e) (omega (arith, length-take-le t.variables new (filled-count e))) h

  module _ (before : List ℕ) (size : ℕ) (after : List ℕ) where
    pub answered-filled : found ≡ Done → Wrote before 0 (filled_text (atoms t) (take t.variables new)) size after → Output (AnsweredTables t (table_fault t)) before size after
    answered-filled e w =
        output _ before _ size after w
        (subst (λ (z : Outcome). AnsweredTables t z (filled_text (atoms t) (take t.variables new))) (sym (filled-sound e)) (inl (take t.variables new, (filled-by e).first, refl)))

    pub answered-refused : (r : Refusal) → found ≡ Err r → Wrote before 0 (code_text (code_of r)) size after → Output (AnsweredTables t (table_fault t)) before size after
    unfolding code_text pick_text
    answered-refused r e w = output _ before _ size after w (go (table_fault t) refl)
      where
        none : code_text (code_of NoAssignment) ≡ none_line
        none = refl

        go : (o : Outcome) → table_fault t ≡ o → AnsweredTables t (table_fault t) (code_text (code_of r))
        go (Ok tt) f =
            subst (λ (z : Outcome). AnsweredTables t z (code_text (code_of r))) (sym f)
            (⊎_elim (λ (g, _). not_done r 0 g)
            (λ (g, n). inr (n.none, ap (λ (z : Refusal). code_text (code_of z)) (same-refusal r NoAssignment g) ∙ none)) (said (Err r) e Done f))
        go (Err x) f =
            subst (λ (z : Outcome). AnsweredTables t z (code_text (code_of r))) (sym f)
            (ap (λ (z : Refusal). code_text (code_of z)) (same-refusal r x (said (Err r) e (Err x) f).0))
