-- The batch of card H's questions twice: each table is that card, and what the first leaves over reaches the second.
use Prim.Native.Nat.{ℕ, ◌^◌, ◌-◌}
use mathlib.Core.Path.{◌≡◌, ap, ◌∙◌, subst}
use mathlib.Core.List.{List, [], ◌∷◌}
use native.Mathlib.Omega.{arith}
use lib.Dec.{lit<}
use lib.ListN.{length, get_or}
use Rattle.subsumption.specs.Tables.{or}
use Rattle.subsumption.specs.Refusal.{Reply, or_else, refuse_if, first_at}
use Rattle.settings.specs.Settings.{Settings, settings}
use Rattle.allowance.specs.Find.{FindsCounted}
use Rattle.batches.specs.declared.find.Batch.{Batch}
use Rattle.batches.specs.Batch.{total, questions_of, unrestricted, stretch, left_after, amount, misshapen, batch_fault}
use Rattle.batches.specs.Find.{reply_at, Ran}
use Rattle.cards.specs.Samples.{house, questions, free}
use Rattle.cards.specs.Found.{tells, fills, twice, FoundBatch, EveryBatch}
use Rattle.cards.proofs.SampleCount.{card-g}
use Rattle.cards.proofs.FoundCards.{sample-counted}

all-free : unrestricted (house questions) ≡ free
unfolding unrestricted house
all-free = ap (λ (z : List ℕ). settings ((2 ^ length z - 1) ∷ []) (64 ∷ [])) card-g.1

module _ (x y : ℕ) (rest : List ℕ) (u v : ℕ) (more : List ℕ) (b : Batch)
    (R : Ran twice (4 ∷ 4 ∷ []) (5 ∷ 3 ∷ []) (x ∷ y ∷ rest) (u ∷ v ∷ more) b) where
  first : (reply_at b 0 ≡ tells 0 0 4) × (u ∷ [] ≡ fills 4 (x ∷ []))
  unfolding twice house questions questions_of total stretch left_after
  first =
      sample-counted 5 (omega arith) (x ∷ []) (u ∷ []) (reply_at b 0) (omega arith)
      (subst (λ (z : Settings). FindsCounted (house questions) z 5 (x ∷ []) (u ∷ []) (reply_at b 0)) all-free (R.each 0 (lit< tt)))

  spends : get_or b.counts 0 0 ≡ 4
  spends = ap (λ (z : Reply). z.value) first.0

  second : (reply_at b 1 ≡ tells 0 0 4) × (v ∷ [] ≡ fills 4 (y ∷ []))
  unfolding twice house questions questions_of total stretch left_after
  second =
      sample-counted (amount (5 ∷ 3 ∷ []) b.counts 1) (omega (arith, spends)) (y ∷ []) (v ∷ []) (reply_at b 1) (omega arith)
      (subst (λ (z : Settings). FindsCounted (house questions) z (amount (5 ∷ 3 ∷ []) b.counts 1) (y ∷ []) (v ∷ []) (reply_at b 1)) all-free
      (R.each 1 (lit< tt)))

  both_found : FoundBatch (x ∷ y ∷ rest) (u ∷ v ∷ more) b
  unfolding left_after twice house
  both_found =
      record {
        ran = (R.number, R.place);
        first = first.0;
        second = second.0;
        left = R.left ∙ (omega (arith, spends, ap (λ (z : Reply). z.value) second.0));
        written = cc (first.1, second.1, R.rest);
      }

pub every-batch : EveryBatch
unfolding batch_fault misshapen total or or_else refuse_if first_at twice house
every-batch (x ∷ y ∷ rest) (u ∷ v ∷ more) b l R = both_found x y rest u v more b R
every-batch (x ∷ y ∷ rest) (u ∷ []) b l R = absurd (omega (arith, R.size))
every-batch (x ∷ y ∷ rest) [] b l R = absurd (omega (arith, R.size))
every-batch (x ∷ []) after b l R = absurd (omega arith)
every-batch [] after b l R = absurd (omega arith)
