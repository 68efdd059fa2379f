-- Showing: the rows in front of the buffer, and what the operation answers.
use Rattle.std.specs.Prelude.{Err, Ok}
use Prim.Native.Nat.{ℕ, ◌+◌, ◌/◌, ◌<◌, ◌≤◌}
use mathlib.Core.Path.{◌≡◌, refl, sym, ap, ◌∙◌}
use mathlib.Core.List.{List, ◌++◌}
use native.Mathlib.Omega.{arith}
use lib.ListN.{length, drop}
use lib.Seq.{sets-eq}
use Rattle.subsumption.specs.declared.refusal.Refusal.{Refusal}
use Rattle.subsumption.specs.declared.refusal.Refusal.TheVariants.{BufferTooShort}
use Rattle.subsumption.specs.Tables.{Tables}
use Rattle.subsumption.specs.Refusal.{Reply, reply_done, reply_refused, reply_with, or_else, Outcome, Done}
use Rattle.subsumption.specs.Check.{buffer_fault}
use Rattle.subsumption.specs.Decide.{deciding_fault}
use Rattle.subsumption.specs.Table.{marked}
use Rattle.subsumption.proofs.Refusals.{refused-lt, done-le, stops, goes_on}
use Rattle.subsumption.proofs.Replies.{with-refused, with_value}
use Rattle.subsumption.proofs.Deciding.{asked-tables, asked-left, asked-right}
use Rattle.countermodel.specs.Rows.{rows_of}
use Rattle.countermodel.specs.Countermodel.{shown_rows}
use Rattle.countermodel.specs.Show.{holding_fault, showing_fault, shown_in, Shows}
use Rattle.countermodel.specs.Inner.Show.{Judged, Laid, Put}
use Rattle.countermodel.proofs.JudgingLaws.{judged-decided, judged-unmarked}
use Rattle.countermodel.proofs.CountermodelLaws.{shown-refutes}

-- ---- the rows of the marks
module _ (rows before none counted : List ℕ) (wanted : ℕ) (C : Put none 0 rows wanted counted) where
  pub laid-short : length before < wanted → Laid rows before before (reply_refused (BufferTooShort wanted))
  unfolding buffer_fault shown_in
  laid-short h =
      let e : wanted ≡ length rows = omega (arith, C.place) in
      let f = refused-lt (length before) (length rows) (BufferTooShort (length rows)) (omega arith) in
      record {
        replied = ap (λ (z : ℕ). reply_refused (BufferTooShort z)) e ∙ with-refused _ _ _ f;
        shown = ap (λ (z : Outcome). shown_in z rows before) f;
      }

  pub laid_done : (end : ℕ) (after : List ℕ) → wanted ≤ length before → Put before 0 rows end after → Laid rows before after (reply_done (wanted / 4))
  unfolding buffer_fault shown_in
  laid_done end after h P =
      let e : wanted ≡ length rows = omega (arith, C.place) in
      let f = done-le (length before) (length rows) (BufferTooShort (length rows)) (omega arith) in
      record {
        replied = with_value _ _ _ (sym f) (ap (λ (z : ℕ). z / 4) e);
        shown = P.buffer (omega (arith, P.place)) ∙ sets-eq rows before 0 (omega arith) ∙ front ∙ ap (λ (z : Outcome). shown_in z rows before) f;
      }
    where
      front : rows ++ drop (0 + length rows) before ≡ rows ++ drop (length rows) before
      front = let e : 0 + length rows ≡ length rows = omega arith in rw e refl

-- ---- the operation
regroup : (a b c : Outcome) → or_else a (or_else b c) ≡ or_else (or_else a b) c
unfolding or_else
regroup (Ok tt) b c = refl
regroup (Err r) b c = refl

module _ (t : Tables) (assignment : List ℕ) (left right : ℕ) (before table : List ℕ) where
  in_order :
      showing_fault t assignment left right (marked table) (length before)
      ≡ or_else (or_else (deciding_fault t assignment left right) (holding_fault (marked table) left right))
      (buffer_fault (length (shown_rows t.concepts t.roles (marked table))) (length before))
  unfolding showing_fault
  in_order = regroup _ _ _

  pub shows-refused : (x : Outcome) (r : Refusal) → Judged t assignment left right table x → x ≡ Err r → Shows t assignment left right before before (reply_refused r)
  unfolding shown_in
  shows-refused x r J e =
      let f = stops x _ _ r J.judged e ∙ sym in_order in
      record {
        marks = marked table;
        exactly = J.exactly;
        replied = with-refused _ _ _ f;
        shown = ap (λ (z : Outcome). shown_in z (shown_rows t.concepts t.roles (marked table)) before) f;
        refutes = λ h. absurd (let z : ◌≡◌ {A = ℕ} 0 1 = cc (f ∙ h) in omega arith);
      }

  module _ (x : Outcome) (J : Judged t assignment left right table x) (e : x ≡ Done) where
    pub shows-laid :
        (after : List ℕ) (reply : Reply) → Laid (shown_rows t.concepts t.roles (marked table)) before after reply → Shows t assignment left right before after reply
    shows-laid after reply L =
        let d = judged-decided t assignment left right table x J e in
        let f = goes_on x _ _ _ J.judged e refl ∙ sym in_order in
        record {
          marks = marked table;
          exactly = J.exactly;
          replied = L.replied ∙ ap (λ (z : Outcome). reply_with z (rows_of (shown_rows t.concepts t.roles (marked table)))) f;
          shown = L.shown ∙ ap (λ (z : Outcome). shown_in z (shown_rows t.concepts t.roles (marked table)) before) f;
          refutes =
              λ h.
              shown-refutes t assignment (asked-tables t assignment left right d) (marked table) (J.exactly d) left right
              (asked-left t assignment left right d) (asked-right t assignment left right d) (judged-unmarked t assignment left right table x J e);
        }
