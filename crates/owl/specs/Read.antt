-- Reading a catalogue in OWL functional syntax (02, A.8): what the operation answers, and what its buffers then hold.
use Rattle.std.specs.Prelude.{ℕ, ◌≡◌, List, ◌++◌, ltb, length, drop, Result, Err, Ok}
use Rattle.subsumption.specs.declared.refusal.Refusal.{Refusal}
use Rattle.subsumption.specs.declared.refusal.Refusal.TheVariants.{BadSyntax}
use Rattle.subsumption.specs.Tables.{count_of, pairs_of}
use Rattle.subsumption.specs.Refusal.{code_of, or_else, refuse_if, Outcome}
use Rattle.subsumption.specs.Check.{buffer_fault}
use Rattle.owl.specs.declared.read.Catalogue.{Catalogue}
use Rattle.owl.specs.Judgement.{State, Step, go, stop, judge}

-- What an answer tells in 01's numbers: how many entries and how many inclusions, or a refusal's number and place.
pub record CatalogueReply : Type 0 where
  pub number : ℕ
  pub place : ℕ
  pub concepts : ℕ
  pub inclusions : ℕ

abbrev pub refused_reply : Refusal → CatalogueReply
refused_reply r = record { number = (code_of r).number; place = (code_of r).place; concepts = 0; inclusions = 0 }

abbrev pub catalogue_reply : Result Catalogue Refusal → CatalogueReply
catalogue_reply (Ok c) = record { number = 0; place = 0; concepts = c.concepts; inclusions = c.inclusions }
catalogue_reply (Err r) = refused_reply r

-- Check 8, entries before inclusions, then the length of the text; the judgement comes behind them.
unfoldable pub catalogue_fault : List ℕ → ℕ → ℕ → Outcome
catalogue_fault text concepts inclusions =
    or_else (buffer_fault 576 concepts) (or_else (buffer_fault 192 inclusions) (refuse_if (ltb 8192 (length text)) (BadSyntax 8192)))

-- The numbers in front of a buffer; past them it keeps its values.
unfoldable pub in_front : List ℕ → List ℕ → List ℕ
in_front numbers before = numbers ++ drop (length numbers) before

pub record Put (s : State) (concepts concepts' inclusions inclusions' : List ℕ) (reply : CatalogueReply) : Type 0 where
  pub told : reply ≡ record { number = 0; place = 0; concepts = count_of s.rows; inclusions = pairs_of s.inclusions }
  pub put-concepts : concepts' ≡ in_front s.rows concepts
  pub put-inclusions : inclusions' ≡ in_front s.inclusions inclusions

-- A refusal writes nothing.
pub record Kept (r : Refusal) (concepts concepts' inclusions inclusions' : List ℕ) (reply : CatalogueReply) : Type 0 where
  pub told : reply ≡ refused_reply r
  pub kept-concepts : concepts' ≡ concepts
  pub kept-inclusions : inclusions' ≡ inclusions

abbrev pub ReadsBy : Step → List ℕ → List ℕ → List ℕ → List ℕ → CatalogueReply → Type 0
ReadsBy (go s) concepts concepts' inclusions inclusions' reply = Put s concepts concepts' inclusions inclusions' reply
ReadsBy (stop r) concepts concepts' inclusions inclusions' reply = Kept r concepts concepts' inclusions inclusions' reply

unfoldable pub reading_of : Outcome → List ℕ → Step
reading_of (Ok tt) text = judge text
reading_of (Err r) text = stop r

abbrev pub ReadsCatalogue : List ℕ → List ℕ → List ℕ → List ℕ → List ℕ → CatalogueReply → Type 0
ReadsCatalogue text concepts concepts' inclusions inclusions' reply =
    ReadsBy (reading_of (catalogue_fault text (length concepts) (length inclusions)) text) concepts concepts' inclusions inclusions' reply
