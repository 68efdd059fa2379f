-- Deciding one pair under an assignment (01, "Operations"): yes, no, or a refusal.
use Rattle.subsumption.specs.declared.refusal.Refusal.{Refusal}
use Rattle.std.specs.Prelude.{ℕ, zero, suc, List, Ok, Bool, true, false, Err, Result}
use Rattle.subsumption.specs.Tables.{Tables}
use Rattle.subsumption.specs.Subsumption.{Subsumed}
use Rattle.subsumption.specs.Refusal.{Reply, reply_done, reply_refused, Replies, or_else, Outcome}
use Rattle.subsumption.specs.Check.{pair_fault, assignment_fault}

-- The value is 1 for yes and 0 for no.
abbrev pub decision_reply : (Result Bool Refusal) → Reply
decision_reply (Ok true) = reply_done 1
decision_reply (Ok false) = reply_done 0
decision_reply (Err r) = reply_refused r

-- A value tells whether the pair is subsumed.
abbrev pub Tells : Tables → List ℕ → ℕ → ℕ → ℕ → Type 0
Tells t assignment left right zero = Subsumed t assignment left right → ⊥
Tells t assignment left right (suc zero) = Subsumed t assignment left right
Tells t assignment left right (suc (suc value)) = ⊥

-- The checks of an asked pair and an assignment: 1 to 7, then 9.
unfoldable pub deciding_fault : Tables → List ℕ → ℕ → ℕ → Outcome
deciding_fault t assignment left right = or_else (pair_fault t left right) (assignment_fault t assignment)

abbrev pub Decides : Tables → List ℕ → ℕ → ℕ → Reply → Type 0
Decides t assignment left right reply = Replies (deciding_fault t assignment left right) (Tells t assignment left right) reply
