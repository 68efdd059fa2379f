-- What an allowance alters (02, A.4): whether it is spent, and nothing else.
use Rattle.std.specs.Prelude.{Err, Ok}
use Prim.Native.Nat.{ℕ, ◌<◌, ◌≤◌}
use mathlib.Core.Path.{◌≡◌, sym, ap, ap₂, ◌∙◌, subst}
use mathlib.Core.List.{List, ◌++◌}
use mathlib.Core.Logic.{inl, inr, ◌↔◌}
use native.Mathlib.Omega.{arith}
use lib.ListN.{length, take-append-drop}
use Rattle.subsumption.specs.declared.refusal.Refusal.TheVariants.{NoAssignment}
use Rattle.subsumption.specs.Tables.{Tables}
use Rattle.subsumption.specs.Refusal.{Reply, reply_done, Outcome, Done}
use Rattle.settings.specs.Settings.{Settings}
use Rattle.matching.specs.Within.{within_fault, FirstWithin, FilledWithin}
use Rattle.matching.proofs.EarlierLaws.{one-first}
use Rattle.allowance.specs.Count.{CountOf, Counts, Exceeds}
use Rattle.allowance.specs.Find.{reply_counted, FindsCountedAfter, FindsCounted}
use Rattle.allowance.proofs.CountLaws.{count-unique, exceeds-less}

-- ---- there is one first assignment within the settings
module _ (t : Tables) (s : Settings) where
  first-unique : (a b : List ℕ) → FirstWithin t s a → FirstWithin t s b → a ≡ b
  first-unique a b f g = one-first a b (f.first b g.accepted g.heeds g.solves) (g.first a f.accepted f.heeds f.solves)

  filled-unique : (before after after₂ : List ℕ) → FilledWithin t s before after → FilledWithin t s before after₂ → after₂ ≡ after
  filled-unique before after after₂ x y =
      sym (take-append-drop t.variables after₂) ∙ ap₂ ◌++◌ (first-unique _ _ y.first x.first) (y.rest ∙ sym x.rest)
      ∙ take-append-drop t.variables after

  not-over : (a b n : ℕ) {A : Type 0} → Counts t s a n → Exceeds t s b → a ≤ b → A
  not-over a b n c x l = absurd (omega (arith, c.enough, exceeds-less t s b n x c.counted))

  larger-after :
      (f : Outcome) (a b : ℕ) (before after after₂ : List ℕ) (reply reply₂ : Reply) → FindsCountedAfter f t s a before after reply
      → FindsCountedAfter f t s b before after₂ reply₂ → a ≤ b → (reply.number ≡ 14 → ⊥) → (reply₂ ≡ reply) × (after₂ ≡ after)
  larger-after (Err r) a b before after after₂ reply reply₂ (e, k) (e₂, k₂) l n = (e₂ ∙ sym e, k₂ ∙ sym k)
  larger-after (Ok tt) a b before after after₂ reply reply₂ (inl (e, (x, c))) (inl (e₂, (x₂, c₂))) l n =
      (e₂ ∙ ap reply_done (count-unique t s _ _ c₂.counted c.counted) ∙ sym e, filled-unique before after after₂ x x₂)
  larger-after (Ok tt) a b before after after₂ reply reply₂ (inl (e, (x, c))) (inr (inl (e₂, (x₂, c₂)))) l n =
      absurd (x₂.none _ x.first.accepted x.first.heeds x.first.solves)
  larger-after (Ok tt) a b before after after₂ reply reply₂ (inl (e, (x, c))) (inr (inr (e₂, x₂))) l n = not-over a b _ c x₂.over l
  larger-after (Ok tt) a b before after after₂ reply reply₂ (inr (inl (e, (x, c)))) (inl (e₂, (x₂, c₂))) l n =
      absurd (x.none _ x₂.first.accepted x₂.first.heeds x₂.first.solves)
  larger-after (Ok tt) a b before after after₂ reply reply₂ (inr (inl (e, (x, c)))) (inr (inl (e₂, (x₂, c₂)))) l n =
      (e₂ ∙ ap (reply_counted NoAssignment) (count-unique t s _ _ c₂.counted c.counted) ∙ sym e, x₂.kept ∙ sym x.kept)
  larger-after (Ok tt) a b before after after₂ reply reply₂ (inr (inl (e, (x, c)))) (inr (inr (e₂, x₂))) l n = not-over a b _ c x₂.over l
  larger-after (Ok tt) a b before after after₂ reply reply₂ (inr (inr (e, x))) y l n = absurd (n (ap (λ (z : Reply). z.number) e))

  -- A larger allowance never alters a filling or a refusal 10, nor another refusal than 14.
  pub larger-allowance :
      (a b : ℕ) (before after after₂ : List ℕ) (reply reply₂ : Reply) → FindsCounted t s a before after reply → FindsCounted t s b before after₂ reply₂
      → a ≤ b → (reply.number ≡ 14 → ⊥) → (reply₂ ≡ reply) × (after₂ ≡ after)
  larger-allowance a b before = larger-after (within_fault t s (length before)) a b before

  counted-after :
      (f : Outcome) (a : ℕ) (before after after₂ : List ℕ) (reply reply₂ : Reply) → FindsCountedAfter f t s a before after reply
      → FindsCountedAfter f t s a before after₂ reply₂ → (reply₂ ≡ reply) × (after₂ ≡ after)
  counted-after (Err r) a before after after₂ reply reply₂ (e, k) (e₂, k₂) = (e₂ ∙ sym e, k₂ ∙ sym k)
  counted-after (Ok tt) a before after after₂ reply reply₂ (inl (e, x)) y =
      larger-after Done a a before after after₂ reply reply₂ (inl (e, x)) y (omega arith) (λ f. omega (arith, ap (λ (z : Reply). z.number) e))
  counted-after (Ok tt) a before after after₂ reply reply₂ (inr (inl (e, x))) y =
      larger-after Done a a before after after₂ reply reply₂ (inr (inl (e, x))) y (omega arith) (λ f. omega (arith, ap (λ (z : Reply). z.number) e))
  counted-after (Ok tt) a before after after₂ reply reply₂ (inr (inr (e, x))) (inl (e₂, (x₂, c₂))) = not-over a a _ c₂ x.over (omega arith)
  counted-after (Ok tt) a before after after₂ reply reply₂ (inr (inr (e, x))) (inr (inl (e₂, (x₂, c₂)))) = not-over a a _ c₂ x.over (omega arith)
  counted-after (Ok tt) a before after after₂ reply reply₂ (inr (inr (e, x))) (inr (inr (e₂, x₂))) = (e₂ ∙ sym e, x₂.kept ∙ sym x.kept)

  -- The answer is decided, also where the allowance is spent.
  pub counted-unique :
      (a : ℕ) (before after after₂ : List ℕ) (reply reply₂ : Reply) → FindsCounted t s a before after reply → FindsCounted t s a before after₂ reply₂
      → (reply₂ ≡ reply) × (after₂ ≡ after)
  counted-unique a before = counted-after (within_fault t s (length before)) a before

  spent-after :
      (a : ℕ) (before after : List ℕ) (reply : Reply) → FindsCountedAfter Done t s a before after reply → (n : ℕ) → CountOf t s n
      → (reply.number ≡ 14) ↔ (a < n)
  spent-after a before after reply (inl (e, (x, c))) n m = (
    λ f. absurd (omega (arith, ap (λ (z : Reply). z.number) e)),
    λ l. absurd (omega (arith, c.enough, count-unique t s _ _ c.counted m)),
  )
  spent-after a before after reply (inr (inl (e, (x, c)))) n m = (
    λ f. absurd (omega (arith, ap (λ (z : Reply). z.number) e)),
    λ l. absurd (omega (arith, c.enough, count-unique t s _ _ c.counted m)),
  )
  spent-after a before after reply (inr (inr (e, x))) n m = (λ f. exceeds-less t s a n x.over m, λ l. ap (λ (z : Reply). z.number) e)

  -- The allowance is spent exactly where the count is over it.
  pub spent-exactly :
      (a : ℕ) (before after : List ℕ) (reply : Reply) → within_fault t s (length before) ≡ Done → FindsCounted t s a before after reply → (n : ℕ)
      → CountOf t s n → (reply.number ≡ 14) ↔ (a < n)
  spent-exactly a before after reply h x =
      spent-after a before after reply (subst (λ (z : Outcome). FindsCountedAfter z t s a before after reply) h x)
