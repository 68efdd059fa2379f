-- The refusal table (01): each case's number and place, and how checks are put in order.
use Rattle.std.specs.Prelude.{ℕ, zero, suc, ◌≡◌, Bool, true, false, Result, Ok, Err}
use Rattle.subsumption.specs.declared.refusal.Refusal.{Refusal}
use Rattle.subsumption.specs.declared.refusal.Refusal.TheVariants.{Limit, Malformed, ForwardId, NoConcept, VariableInInclusion, VariablesOnBothSides, TooManyAtoms, BufferTooShort, BadAssignment, NoAssignment, NotSubsumed, BadDerivation, BadText, AllowanceSpent, NoCountermodel, BadRole, BadSyntax, TooDeep, BadSettings, BadBatch, BadOrder, ForwardInOrder}
use Rattle.subsumption.specs.declared.refusal.Code.{Code}

-- What an operation answers that has nothing to give but its work: that it is done, or a refusal.
abbrev pub Outcome : Type 0
Outcome = Result (Unit {0}) Refusal

abbrev pub Done : Outcome
Done = Ok tt

abbrev pub code_of : Refusal → Code
code_of (Limit place) = record { number = 1; place = place }
code_of (Malformed place) = record { number = 2; place = place }
code_of (ForwardId place) = record { number = 3; place = place }
code_of (NoConcept place) = record { number = 4; place = place }
code_of (VariableInInclusion place) = record { number = 5; place = place }
code_of (VariablesOnBothSides place) = record { number = 6; place = place }
code_of TooManyAtoms = record { number = 7; place = 64 }
code_of (BufferTooShort place) = record { number = 8; place = place }
code_of (BadAssignment place) = record { number = 9; place = place }
code_of NoAssignment = record { number = 10; place = 0 }
code_of NotSubsumed = record { number = 11; place = 0 }
code_of (BadDerivation place) = record { number = 12; place = place }
code_of (BadText place) = record { number = 13; place = place }
code_of AllowanceSpent = record { number = 14; place = 0 }
code_of NoCountermodel = record { number = 15; place = 0 }
code_of (BadRole place) = record { number = 16; place = place }
code_of (BadSyntax place) = record { number = 17; place = place }
code_of (TooDeep place) = record { number = 18; place = place }
code_of (BadSettings place) = record { number = 19; place = place }
code_of (BadBatch place) = record { number = 20; place = place }
code_of (BadOrder place) = record { number = 21; place = place }
code_of (ForwardInOrder place) = record { number = 22; place = place }

-- What an answer tells in 01's numbers: number 0 (done) and a value, or a refusal's number and place. Each kind of answer has one
-- definition that turns its cases into a reply, and the promises speak of replies.
pub record Reply : Type 0 where
  pub number : ℕ
  pub place : ℕ
  pub value : ℕ

abbrev pub reply_done : ℕ → Reply
reply_done value = record { number = 0; place = 0; value = value }

abbrev pub reply_refused : Refusal → Reply
reply_refused r = record { number = (code_of r).number; place = (code_of r).place; value = 0 }

-- The reply of an operation with these checks and this value.
abbrev pub reply_with : Outcome → ℕ → Reply
reply_with (Ok tt) value = reply_done value
reply_with (Err r) value = reply_refused r

-- An outcome has no value.
abbrev pub reply_of : Outcome → Reply
reply_of outcome = reply_with outcome 0

-- The reply of an operation that answers a number.
abbrev pub value_reply : Result ℕ Refusal → Reply
value_reply (Ok value) = reply_done value
value_reply (Err r) = reply_refused r

-- The reply of an operation with these checks, and a value that is right.
abbrev pub Replies : Outcome → (ℕ → Type 0) → Reply → Type 0
Replies (Ok tt) Right reply = (reply ≡ reply_done reply.value) × Right reply.value
Replies (Err r) Right reply = reply ≡ reply_refused r

-- Checks run in order: the first that refuses decides.
unfoldable pub or_else : Outcome → Outcome → Outcome
or_else (Ok tt) next = next
or_else (Err r) next = Err r

unfoldable pub refuse_if : Bool → Refusal → Outcome
refuse_if true r = Err r
refuse_if false r = Done

-- Within one check the lowest place wins: the places from `from` on, `count` of them.
unfoldable pub first_at : (ℕ → Refusal) → (ℕ → Bool) → ℕ → ℕ → Outcome
first_at refusal faulty from zero = Done
first_at refusal faulty from (suc count) = or_else (refuse_if (faulty from) (refusal from)) (first_at refusal faulty (suc from) count)
