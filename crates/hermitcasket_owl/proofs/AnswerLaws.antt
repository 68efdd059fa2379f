-- The answer for a text, by what the reading told.
use Rattle.std.specs.Prelude.{Result, Err, Ok}
use Prim.Native.Nat.{ℕ, ◌+◌, ◌*◌, ◌%◌, ◌≤◌}
use mathlib.Core.Path.{◌≡◌, refl, sym, ap, ap₂, ◌∙◌, subst}
use mathlib.Core.List.{List, []}
use native.Mathlib.Omega.{arith}
use lib.ListN.{length, take}
use lib.Seq.{take_at}
use borrow.Author.Tests.{eqb-true, not-false}
use Rattle.subsumption.specs.declared.refusal.Refusal.{Refusal}
use Rattle.subsumption.specs.declared.refusal.Code.{Code}
use Rattle.subsumption.specs.Tables.{tables, count_of, pairs_of}
use Rattle.subsumption.specs.Refusal.{code_of, Reply, Outcome, Done}
use Rattle.subsumption.specs.Check.{unfit, concept_fault, id_fault}
use Rattle.subsumption.proofs.Bools.{or-false}
use Rattle.subsumption.proofs.Replies.{same-refusal, not_done}
use Rattle.subsumption.proofs.Accepted.{concept-limits, concepts-whole, concepts-few, inclusions-few}
use Rattle.numerals.specs.Printing.{refused_text, Output}
use Rattle.numerals.specs.Inner.Printing.{Wrote}
use Rattle.numerals.proofs.PieceLaws.{output}
use Rattle.owl.specs.declared.read.Catalogue.{Catalogue}
use Rattle.owl.specs.Judgement.{State, Step, go, stop, judge}
use Rattle.owl.specs.Read.{CatalogueReply, catalogue_reply, catalogue_fault, in_front, Put, ReadsBy, reading_of, ReadsCatalogue}
use Rattle.owl.proofs.AcceptedLaws.{catalogue-accepted}
use Rattle.hermitcasket_owl.specs.Card.{card_text, CardedBy, Carded}
use Rattle.hermitcasket_owl.proofs.SizeLaws.{card-fits}

-- number and place of a reply
unfoldable told : CatalogueReply → Reply
told reply = record { number = reply.number; place = reply.place; value = 0 }

-- ---- the tables of a text that is accepted
module _ (text : List ℕ) (s : State) (e : reading_of (catalogue_fault text 576 192) text ≡ go s) where
  judged : judge text ≡ go s
  unfolding reading_of
  judged = by (catalogue_fault text 576 192) e
    where
      by : (fault : Outcome) → reading_of fault text ≡ go s → judge text ≡ go s
      by (Ok tt) h = h
      by (Err r) h = absurd (let z : ◌≡◌ {A = ℕ} 0 1 = cc h in omega arith)

  sound : concept_fault (tables s.rows s.inclusions [] [] 0) ≡ Done
  sound = (catalogue-accepted text s judged).0

  known : id_fault (tables s.rows s.inclusions [] [] 0) ≡ Done
  known = (catalogue-accepted text s judged).1

  rows_whole : length s.rows ≡ count_of s.rows * 3
  rows_whole = concepts-whole _ sound

  inclusions-whole : length s.inclusions ≡ pairs_of s.inclusions * 2
  unfolding unfit
  inclusions-whole =
      let even : length s.inclusions % 2 ≡ 0 = eqb-true _ _ (not-false _ (or-false _ _ (concept-limits _ sound).inclusions-fit).0) in
      omega arith

module _
    (text concepts concepts' inclusions inclusions' : List ℕ) (long-concepts : length concepts ≡ 576) (long-inclusions : length inclusions ≡ 192)
    (read : Result Catalogue Refusal) (reads : ReadsCatalogue text concepts concepts' inclusions inclusions' (catalogue_reply read)) where
  abbrev reading : Step
  reading = reading_of (catalogue_fault text 576 192) text

  reads-by : (answer : Result Catalogue Refusal) → read ≡ answer → ReadsBy reading concepts concepts' inclusions inclusions' (catalogue_reply answer)
  reads-by answer e =
      subst (λ (z : ℕ). ReadsBy (reading_of (catalogue_fault text z 192) text) concepts concepts' inclusions inclusions' (catalogue_reply answer)) long-concepts
      (subst (λ (z : ℕ). ReadsBy (reading_of (catalogue_fault text (length concepts) z) text) concepts concepts' inclusions inclusions' (catalogue_reply answer)) long-inclusions
      (subst (λ (z : Result Catalogue Refusal). ReadsCatalogue text concepts concepts' inclusions inclusions' (catalogue_reply z)) e reads))

  -- ---- tables
  record Accepted (c : Catalogue) : Type 0 where
    state : State
    goes : reading ≡ go state
    put : Put state concepts concepts' inclusions inclusions' (catalogue_reply (Ok c))

  module _ (c : Catalogue) (e : read ≡ Ok c) where
    accepted : Accepted c
    unfolding told
    accepted = by reading refl (reads-by (Ok c) e)
      where
        by : (step : Step) → reading ≡ step → ReadsBy step concepts concepts' inclusions inclusions' (catalogue_reply (Ok c)) → Accepted c
        by (go s) f put = record { state = s; goes = f; put = put }
        by (stop r) f kept = not_done r 0 (sym (ap told kept.told))

    entries-are : c.concepts ≡ count_of accepted.state.rows
    entries-are = ap (λ (z : CatalogueReply). z.concepts) accepted.put.told

    pairs-are : c.inclusions ≡ pairs_of accepted.state.inclusions
    pairs-are = ap (λ (z : CatalogueReply). z.inclusions) accepted.put.told

    pub few-entries : c.concepts ≤ 192
    few-entries = omega (arith, entries-are, concepts-few _ (sound text _ accepted.goes))

    pub few-pairs : c.inclusions ≤ 96
    few-pairs = omega (arith, pairs-are, inclusions-few _ (sound text _ accepted.goes))

    rows-front : take (c.concepts * 3) concepts' ≡ accepted.state.rows
    unfolding in_front
    rows-front =
        ap (λ (z : List ℕ). take (c.concepts * 3) z) accepted.put.put-concepts
        ∙ take_at accepted.state.rows _ (c.concepts * 3) (omega (arith, entries-are, rows_whole text _ accepted.goes))

    pairs-front : take (c.inclusions * 2) inclusions' ≡ accepted.state.inclusions
    unfolding in_front
    pairs-front =
        ap (λ (z : List ℕ). take (c.inclusions * 2) z) accepted.put.put-inclusions
        ∙ take_at accepted.state.inclusions _ (c.inclusions * 2) (omega (arith, pairs-are, inclusions-whole text _ accepted.goes))

    same-card : card_text (take (c.concepts * 3) concepts') (take (c.inclusions * 2) inclusions') ≡ card_text accepted.state.rows accepted.state.inclusions
    same-card = ap₂ (λ (x y : List ℕ). card_text x y) rows-front pairs-front

    pub card-room : (out : List ℕ) → 4096 ≤ length out → 0 + length (card_text (take (c.concepts * 3) concepts') (take (c.inclusions * 2) inclusions')) ≤ length out
    card-room out h = omega (arith, ap length same-card, card-fits _ _ (sound text _ accepted.goes) (known text _ accepted.goes) out h)

    pub carded :
        (before : List ℕ) (size : ℕ) (after : List ℕ) → Wrote before 0 (card_text (take (c.concepts * 3) concepts') (take (c.inclusions * 2) inclusions')) size after
        → Output (Carded text) before size after
    carded before size after w =
        output (Carded text) before _ size after w (subst (λ (z : Step). CardedBy z (card_text (take (c.concepts * 3) concepts') (take (c.inclusions * 2) inclusions'))) (sym accepted.goes) same-card)

  -- ---- a refusal
  module _ (r : Refusal) (e : read ≡ Err r) where
    refused : reading ≡ stop r
    unfolding told
    refused = by reading refl (reads-by (Err r) e)
      where
        by : (step : Step) → reading ≡ step → ReadsBy step concepts concepts' inclusions inclusions' (catalogue_reply (Err r)) → reading ≡ stop r
        by (go s) f put = not_done r 0 (ap told put.told)
        by (stop q) f kept = f ∙ ap stop (sym (same-refusal r q (ap told kept.told)))

    pub carded-refused :
        (code : Code) → code ≡ code_of r → (before : List ℕ) (size : ℕ) (after : List ℕ) → Wrote before 0 (refused_text code) size after
        → Output (Carded text) before size after
    carded-refused code same before size after w =
        output (Carded text) before _ size after w (subst (λ (z : Step). CardedBy z (refused_text code)) (sym refused) (ap refused_text same))
