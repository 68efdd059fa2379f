-- Several question tables over one catalogue (02, A.11): where they lie, what each may use, and their check.
use Rattle.std.specs.Prelude.{ℕ, zero, suc, ◌+◌, ◌-◌, ◌*◌, ◌^◌, List, Bool, not, eqb, ltb, length, get_or, take, drop, replicate}
use Rattle.subsumption.specs.declared.refusal.Refusal.TheVariants.{BadBatch}
use Rattle.subsumption.specs.Tables.{Tables, tables, or}
use Rattle.subsumption.specs.Atoms.{atoms}
use Rattle.subsumption.specs.Refusal.{or_else, refuse_if, first_at, Outcome}
use Rattle.settings.specs.Settings.{Settings, settings}

-- The sum of the first n numbers.
unfoldable pub total : List ℕ → ℕ → ℕ
total numbers zero = 0
total numbers (suc n) = total numbers n + get_or numbers n 0

-- The question tables lie one after another; these are the tables with the questions of table k.
unfoldable pub questions_of : List ℕ → List ℕ → ℕ → List ℕ
questions_of questions lengths k = take (get_or lengths k 0) (drop (total lengths k) questions)

abbrev pub tables_of : Tables → List ℕ → ℕ → Tables
tables_of t lengths k = tables t.concepts t.inclusions (questions_of t.questions lengths k) t.roles t.variables

-- All atoms are permitted to every variable, and 64 of them.
unfoldable pub unrestricted : Tables → Settings
unrestricted t = settings (replicate t.variables (2 ^ length (atoms t) - 1)) (replicate t.variables 64)

-- The stretch of the buffer that table k has: from k times the number of variables on, a number a variable, as far as that reaches.
unfoldable pub stretch : ℕ → List ℕ → ℕ → List ℕ
stretch variables buffer k = take variables (drop (k * variables) buffer)

-- What the first k tables leave over of their shares, given how much each used; and what table k may use.
unfoldable pub left_after : List ℕ → List ℕ → ℕ → ℕ
left_after shares counts zero = 0
left_after shares counts (suc k) = left_after shares counts k + get_or shares k 0 - get_or counts k 0

abbrev pub amount : List ℕ → List ℕ → ℕ → ℕ
amount shares counts k = left_after shares counts k + get_or shares k 0

-- Check 20: more than eight tables, another number of shares, or lengths that do not add up; then a share over a million.
unfoldable pub misshapen : List ℕ → List ℕ → ℕ → Bool
misshapen lengths shares size =
    or (ltb 8 (length lengths)) (or (not (eqb (length shares) (length lengths))) (not (eqb (total lengths (length lengths)) size)))

unfoldable pub batch_fault : List ℕ → List ℕ → ℕ → Outcome
batch_fault lengths shares size =
    or_else (refuse_if (misshapen lengths shares size) (BadBatch 8))
    (first_at BadBatch (λ k. ltb 1000000 (get_or shares k 0)) 0 (length lengths))
