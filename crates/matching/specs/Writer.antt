-- Writing the derivation of one pair (01, "Operations"): its lines in front of the buffer, or a refusal.
use Rattle.std.specs.Prelude.{ℕ, ◌*◌, ◌<◌, ◌≤◌, ◌≡◌, List, ◌⊎◌, length, take, drop, Err, Ok}
use Rattle.subsumption.specs.declared.refusal.Refusal.TheVariants.{NotSubsumed}
use Rattle.subsumption.specs.Tables.{Tables, count_of}
use Rattle.subsumption.specs.Subsumption.{Subsumed}
use Rattle.subsumption.specs.Refusal.{Reply, reply_done, reply_refused, or_else, Outcome, Done}
use Rattle.subsumption.specs.Check.{buffer_fault}
use Rattle.subsumption.specs.Decide.{deciding_fault}
use Rattle.matching.specs.Derivation.{left_at, right_at, derivation_fault}

-- The checks 1 to 7, then 9, then 8: the buffer wants 4 × entries × entries numbers.
abbrev pub room_for : Tables → ℕ
room_for t = count_of t.concepts * count_of t.concepts * 4

unfoldable pub deriving_fault : Tables → List ℕ → ℕ → ℕ → ℕ → Outcome
deriving_fault t assignment left right size = or_else (deciding_fault t assignment left right) (buffer_fault (room_for t) size)

-- Which lines are written is left open (01); what limits them: the checker accepts them, so that the asked pair is last, and no pair stands
-- twice. Past the lines the buffer keeps its values.
pub record DerivationOf (t : Tables) (assignment : List ℕ) (left right : ℕ) (before after : List ℕ) (n : ℕ) : Type 0 where
  pub size : length after ≡ length before
  pub room : n * 4 ≤ length after
  pub accepted : derivation_fault t assignment left right (take (n * 4) after) ≡ Done
  pub once : (k m : ℕ) → k < m → m < n → left_at after k ≡ left_at after m → right_at after k ≡ right_at after m → ⊥
  pub rest : drop (n * 4) after ≡ drop (n * 4) before

-- The value is how many lines there are.
-- Where nothing else is refused, lines exactly when the pair is subsumed, else refusal 11. A refusal leaves the buffer as it was.
abbrev pub DerivesAfter : Outcome → Tables → List ℕ → ℕ → ℕ → List ℕ → List ℕ → Reply → Type 0
DerivesAfter (Ok tt) t assignment left right before after reply =
    ((reply ≡ reply_done reply.value) × Subsumed t assignment left right
    × DerivationOf t assignment left right before after reply.value)
    ⊎ ((reply ≡ reply_refused NotSubsumed) × (Subsumed t assignment left right → ⊥) × (after ≡ before))
DerivesAfter (Err r) t assignment left right before after reply = (reply ≡ reply_refused r) × (after ≡ before)

abbrev pub Derives : Tables → List ℕ → ℕ → ℕ → List ℕ → List ℕ → Reply → Type 0
Derives t assignment left right before after reply =
    DerivesAfter (deriving_fault t assignment left right (length before)) t assignment left right before after reply
