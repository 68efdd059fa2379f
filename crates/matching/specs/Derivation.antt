-- Derivations (01, "Below"): lines of four numbers, each by one of the eight rules from earlier lines, and the check of a whole
-- list of them.
use Rattle.std.specs.Prelude.{ℕ, ◌+◌, ◌-◌, ◌*◌, ◌/◌, ◌%◌, List, Bool, not, eqb, length, get_or}
use Rattle.subsumption.specs.declared.refusal.Refusal.TheVariants.{BadDerivation}
use Rattle.subsumption.specs.Tables.{Tables, or, both, any_below}
use Rattle.subsumption.specs.Rules.{follows}
use Rattle.subsumption.specs.Refusal.{or_else, refuse_if, first_at, Outcome}
use Rattle.subsumption.specs.Decide.{deciding_fault}

-- A line is four numbers: rule, left, right, extra.
abbrev pub lines_of : List ℕ → ℕ
lines_of lines = length lines / 4

abbrev pub rule_at : List ℕ → ℕ → ℕ
rule_at lines k = get_or lines (k * 4) 0

abbrev pub left_at : List ℕ → ℕ → ℕ
left_at lines k = get_or lines (k * 4 + 1) 0

abbrev pub right_at : List ℕ → ℕ → ℕ
right_at lines k = get_or lines (k * 4 + 2) 0

abbrev pub extra_at : List ℕ → ℕ → ℕ
extra_at lines k = get_or lines (k * 4 + 3) 0

-- The pair (i, j) stands on line k.
unfoldable pub pair_at : List ℕ → ℕ → ℕ → ℕ → Bool
pair_at lines i j k = both (eqb i (left_at lines k)) (eqb j (right_at lines k))

-- The pair (i, j) stands on one of the first n lines.
unfoldable pub proved_by : List ℕ → ℕ → ℕ → ℕ → Bool
proved_by lines n i j = any_below n (pair_at lines i j)

-- Line k follows by its rule from earlier lines.
unfoldable pub line_follows : Tables → List ℕ → List ℕ → ℕ → Bool
line_follows t assignment lines k =
    follows t assignment (proved_by lines k) (rule_at lines k) (left_at lines k) (right_at lines k) (extra_at lines k)

-- Check 12: no lines or ragged; the lowest line that breaks its rule; the last line is another pair.
unfoldable pub no_lines : List ℕ → Bool
no_lines lines = or (eqb (length lines) 0) (not (eqb (length lines % 4) 0))

unfoldable pub rule_fault : Tables → List ℕ → List ℕ → Outcome
rule_fault t assignment lines = first_at BadDerivation (λ k. not (line_follows t assignment lines k)) 0 (lines_of lines)

unfoldable pub last_fault : ℕ → ℕ → List ℕ → Outcome
last_fault left right lines = refuse_if (not (pair_at lines left right (lines_of lines - 1))) (BadDerivation (lines_of lines))

unfoldable pub derivation_fault : Tables → List ℕ → ℕ → ℕ → List ℕ → Outcome
derivation_fault t assignment left right lines =
    or_else (refuse_if (no_lines lines) (BadDerivation 0)) (or_else (rule_fault t assignment lines) (last_fault left right lines))

-- What the checker of a derivation of one pair answers: 1 to 7, then 9, then 12.
unfoldable pub checking_fault : Tables → List ℕ → ℕ → ℕ → List ℕ → Outcome
checking_fault t assignment left right lines = or_else (deciding_fault t assignment left right) (derivation_fault t assignment left right lines)
