-- What the finders' answers tell: one that has found something, and one whose checks have passed.
use Rattle.std.specs.Prelude.{Err, Ok}
use Prim.Native.Nat.{ℕ, ◌≤◌}
use mathlib.Core.Path.{◌≡◌, refl, sym, ap, ◌∙◌, subst}
use mathlib.Core.List.{List}
use mathlib.Core.Logic.{◌⊎◌, inl, inr}
use native.Mathlib.Omega.{arith}
use lib.ListN.{length, take}
use Rattle.subsumption.specs.declared.refusal.Refusal.TheVariants.{NoAssignment}
use Rattle.subsumption.specs.Tables.{Tables}
use Rattle.subsumption.specs.Refusal.{Reply, reply_done, or_else, Outcome, Done}
use Rattle.subsumption.specs.Check.{table_fault, buffer_fault}
use Rattle.subsumption.proofs.Refusals.{both-done, done-le}
use Rattle.subsumption.proofs.Replies.{is_refused, not_done}
use Rattle.settings.specs.Settings.{Settings, settings_fault}
use Rattle.matching.specs.Find.{SomeSolves, finding_fault, FindsAfter, Finds}
use Rattle.matching.specs.Within.{FirstWithin, FilledWithin, NoneWithin, within_fault, FindsWithinAfter, FindsWithin}
use Rattle.allowance.specs.Find.{FindsCountedAfter, FindsCounted}

-- ---- something was found
module _ (t : Tables) (before after : List ℕ) (reply : Reply) where
  pub found_some : Finds t before after reply → reply ≡ reply_done 0 → SomeSolves t
  found_some = go (finding_fault t (length before))
    where
      go : (o : Outcome) → FindsAfter o t before after reply → reply ≡ reply_done 0 → SomeSolves t
      go (Ok tt) (inl (e, f)) d = f.some
      go (Ok tt) (inr (e, f)) d = not_done NoAssignment 0 (sym e ∙ d)
      go (Err r) (e, _) d = not_done r 0 (sym e ∙ d)

  module _ (s : Settings) where
    pub filled-first : FindsWithin t s before after reply → reply ≡ reply_done 0 → FirstWithin t s (take t.variables after)
    filled-first = go (within_fault t s (length before))
      where
        go : (o : Outcome) → FindsWithinAfter o t s before after reply → reply ≡ reply_done 0 → FirstWithin t s (take t.variables after)
        go (Ok tt) (inl (e, f)) d = f.first
        go (Ok tt) (inr (e, f)) d = not_done NoAssignment 0 (sym e ∙ d)
        go (Err r) (e, _) d = not_done r 0 (sym e ∙ d)

    pub counted-first : (allowance : ℕ) → FindsCounted t s allowance before after reply → reply.number ≡ 0 → FirstWithin t s (take t.variables after)
    counted-first allowance = go (within_fault t s (length before))
      where
        go : (o : Outcome) → FindsCountedAfter o t s allowance before after reply → reply.number ≡ 0 → FirstWithin t s (take t.variables after)
        go (Ok tt) (inl (e, (f, _))) d = f.first
        go (Ok tt) (inr (inl (e, f))) d = absurd (omega (arith, d, ap (λ (z : Reply). z.number) e))
        go (Ok tt) (inr (inr (e, f))) d = absurd (omega (arith, d, ap (λ (z : Reply). z.number) e))
        go (Err r) (e, _) d = absurd (is_refused r (sym (ap (λ (z : Reply). z.number) e) ∙ d))

-- ---- the checks pass
pub passes : (a b : Outcome) → a ≡ Done → b ≡ Done → or_else a b ≡ Done
passes a b e f = sym (both-done a a b b refl e refl f)

module _ (t : Tables) (before after : List ℕ) (reply : Reply) (ok : table_fault t ≡ Done) (room : t.variables ≤ length before) where
  room-passes : buffer_fault t.variables (length before) ≡ Done
  unfolding buffer_fault
  room-passes = sym (done-le (length before) t.variables _ room)

  pub found-cases : Finds t before after reply → FindsAfter Done t before after reply
  unfolding finding_fault
  found-cases = subst (λ (z : Outcome). FindsAfter z t before after reply) (passes _ _ ok room-passes)

  module _ (s : Settings) (set : settings_fault t s ≡ Done) where
    pub checks-pass : within_fault t s (length before) ≡ Done
    unfolding within_fault
    checks-pass = passes _ _ ok (passes _ _ set room-passes)

    pub within-cases : FindsWithin t s before after reply → FindsWithinAfter Done t s before after reply
    within-cases = subst (λ (z : Outcome). FindsWithinAfter z t s before after reply) checks-pass

    -- where the allowance is not spent
    pub counted-cases :
        (allowance : ℕ) → FindsCounted t s allowance before after reply → (reply.number ≡ 14 → ⊥)
        → ((reply.number ≡ 0) × FilledWithin t s before after) ⊎ ((reply.number ≡ 10) × NoneWithin t s before after)
    counted-cases allowance f enough = go (subst (λ (z : Outcome). FindsCountedAfter z t s allowance before after reply) checks-pass f)
      where
        go :
            FindsCountedAfter Done t s allowance before after reply
            → ((reply.number ≡ 0) × FilledWithin t s before after) ⊎ ((reply.number ≡ 10) × NoneWithin t s before after)
        go (inl (e, (f, _))) = inl (ap (λ (z : Reply). z.number) e, f)
        go (inr (inl (e, (f, _)))) = inr (ap (λ (z : Reply). z.number) e, f)
        go (inr (inr (e, _))) = absurd (enough (ap (λ (z : Reply). z.number) e))
