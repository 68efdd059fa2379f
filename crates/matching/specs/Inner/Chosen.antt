-- What the parts of listing a variable's chosen ids promise.
use Rattle.std.specs.Prelude.{ℕ, List, Bool, true, false, eqb, Ok, Err, Result}
use Rattle.subsumption.specs.declared.refusal.Refusal.{Refusal}
use Rattle.subsumption.specs.declared.refusal.Refusal.TheVariants.{Malformed}
use Rattle.subsumption.specs.Refusal.{code_of, or_else, Outcome}
use Rattle.subsumption.specs.Check.{assignment_fault_at, buffer_fault}
use Rattle.matching.specs.declared.chosen.Told.{Told}
use Rattle.matching.specs.Chosen.{variable_fault}

-- What is left to check when the tables are accepted.
unfoldable pub known_fault : ℕ → ℕ → List ℕ → ℕ → ℕ → Outcome
known_fault atomCount variables assignment k size =
    or_else (variable_fault variables k) (or_else (assignment_fault_at atomCount variables assignment) (buffer_fault 64 size))

-- Of a refusal of the tables and an unknown variable, the one that comes first: only check 1 is before the variable's number.
abbrev pub limit_or : Bool → Refusal → Refusal
limit_or true r = r
limit_or false r = Malformed 0

abbrev pub earlier_of : Refusal → Bool → Refusal
earlier_of r true = r
earlier_of r false = limit_or (eqb (code_of r).number 1) r

-- What an answer tells beside the list, given the buffer's size.
abbrev pub told_of : (Result ℕ Refusal) → ℕ → Told
told_of (Ok n) size = record { number = 0; place = 0; count = n }
told_of (Err r) size = record { number = (code_of r).number; place = (code_of r).place; count = size }
