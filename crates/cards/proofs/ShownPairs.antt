-- Whatever marks a shown interpretation is read off, they have the pair that holds.
use Rattle.std.specs.Prelude.{Err}
use Prim.Native.Nat.{ℕ}
use mathlib.Core.Path.{◌≡◌, refl, ap, ◌∙◌}
use mathlib.Core.List.Memᴰ
use mathlib.Core.List.{List, [], ◌∷◌}
use mathlib.Core.Bool.{true}
use lib.Dec.{lit<}
use lib.ListN.{length}
use Rattle.subsumption.specs.declared.refusal.Refusal.TheVariants.{NoCountermodel}
use Rattle.subsumption.specs.Refusal.{reply_with, or_else, refuse_if, Outcome}
use Rattle.countermodel.specs.Rows.{rows_of}
use Rattle.countermodel.specs.Countermodel.{shown_rows}
use Rattle.countermodel.specs.Show.{holding_fault, showing_fault, shown_in}
use Rattle.cards.specs.Samples.{Holds, card, A, always_below, house, questions, entries, cards}
use Rattle.cards.specs.Shown.{NothingShown}
use Rattle.cards.proofs.SampleCards.{every-card}
use Rattle.cards.proofs.SampleCount.{card-h}
use Rattle.cards.proofs.JudgedCards.{asked-passes}

card-a : Holds (card A (house questions) (always_below 2 3))
unfolding cards
card-a = every-card _ (Memᴰ.head refl)

pub nothing-shown : NothingShown
unfolding showing_fault holding_fault shown_in or_else refuse_if house entries
nothing-shown before after told s = (
  s.replied ∙ ap (λ (z : Outcome). reply_with z (rows_of rows)) stops,
  s.shown ∙ ap (λ (z : Outcome). shown_in z rows before) stops,
)
  where
    rows : List ℕ
    rows = shown_rows (house questions).concepts (house questions).roles s.marks

    holds : s.marks 2 3 ≡ true
    holds = (s.exactly asked-passes).complete 2 3 (lit< tt) (lit< tt) (card-a.1 (4 ∷ []) card-h.1.accepted)

    stops : showing_fault (house questions) (4 ∷ []) 2 3 s.marks (length before) ≡ Err NoCountermodel
    stops = rw (asked-passes, holds) refl
