-- The house text (01, "House text and the program"): what a right text is, and the judgement line by line.
use Rattle.std.specs.Prelude.{ℕ, zero, suc, ◌+◌, ◌≤◌, ◌≡◌, List, [], ◌∷◌, ◌++◌, Bool, true, false, ◌⊎◌, ltb, length, get_or, take, drop, Option, Some, None}
use Rattle.subsumption.specs.declared.refusal.Refusal.{Refusal}
use Rattle.subsumption.specs.declared.refusal.Refusal.TheVariants.{Limit, BadText}
use Rattle.subsumption.specs.Tables.{Tables, tables, count_of, pairs_of}
use Rattle.numerals.specs.Bytes.{starts}
use Rattle.numerals.specs.Printing.{number_text, pair_text}
use Rattle.numerals.specs.Lines.{variables_key, roles_key, wider_key, concepts_key, inclusions_key, questions_key, below_key, show_key, lines_text, row_of_numbers, pair_of_numbers}
use Rattle.hermitcasket.specs.declared.lines.Number.{Number}
use Rattle.hermitcasket.specs.declared.lines.PairLine.{PairLine}
use Rattle.hermitcasket.specs.declared.lines.RowLine.{RowLine}
use Rattle.hermitcasket.specs.declared.text.Ask.{Ask}
use Rattle.hermitcasket.specs.declared.text.Ask.TheVariants.{Fill, Show}
use Rattle.hermitcasket.specs.Lines.{number_line, pair_line, row_line}

-- ---- what a right text is

-- The roles above roles, or no section.
unfoldable pub roles_text : Bool → List ℕ → List ℕ
roles_text true roles = number_text roles_key (pairs_of roles) ++ lines_text (pair_of_numbers wider_key) 2 (pairs_of roles) roles
roles_text false roles = []

-- What is asked of the tables (02, A.5): no line to solve them, or the line of a pair whose failing is to be shown.
unfoldable pub ask_text : Ask → List ℕ
ask_text Fill = []
ask_text (Show left right) = pair_text show_key left right

unfoldable pub layout : Bool → Tables → Ask → List ℕ
layout present t ask =
    number_text variables_key t.variables
    ++ (roles_text present t.roles
    ++ (number_text concepts_key (count_of t.concepts) ++ (lines_text row_of_numbers 3 (count_of t.concepts) t.concepts
    ++ (number_text inclusions_key (pairs_of t.inclusions)
    ++ (lines_text (pair_of_numbers below_key) 2 (pairs_of t.inclusions) t.inclusions
    ++ (number_text questions_key (pairs_of t.questions) ++ (lines_text (pair_of_numbers below_key) 2 (pairs_of t.questions) t.questions
    ++ ask_text ask)))))))

-- A text that says the tables and what is asked: it may lack the section of the roles where there are none.
abbrev pub Says : List ℕ → Tables → Ask → Type 0
Says text t ask = (text ≡ layout true t ask) ⊎ ((text ≡ layout false t ask) × (t.roles ≡ []))

-- ---- what a text can say: kinds 0 to 4 with unused fields 0, numbers up to 65535, counts up to their limits

abbrev pub RowFits : ℕ → ℕ → ℕ → Type 0
RowFits zero a b = (a ≡ 0) × (b ≡ 0)
RowFits (suc zero) a b = (a ≤ 65535) × (b ≡ 0)
RowFits (suc (suc zero)) a b = (a ≤ 65535) × (b ≤ 65535)
RowFits (suc (suc (suc zero))) a b = (a ≤ 65535) × (b ≤ 65535)
RowFits (suc (suc (suc (suc zero)))) a b = (a ≤ 65535) × (b ≡ 0)
RowFits (suc (suc (suc (suc (suc kind))))) a b = ⊥

-- So many rows, of `width` numbers each, that fit.
abbrev pub RowsFit : (List ℕ → Type 0) → ℕ → ℕ → List ℕ → Type 0
RowsFit Fits width zero numbers = numbers ≡ []
RowsFit Fits width (suc count) numbers =
    (length (take width numbers) ≡ width) × Fits (take width numbers) × RowsFit Fits width count (drop width numbers)

abbrev pub ConceptFits : List ℕ → Type 0
ConceptFits numbers = RowFits (get_or numbers 0 0) (get_or numbers 1 0) (get_or numbers 2 0)

abbrev pub PairFits : List ℕ → Type 0
PairFits numbers = (get_or numbers 0 0 ≤ 65535) × (get_or numbers 1 0 ≤ 65535)

abbrev pub AskFits : Ask → Type 0
AskFits Fill = Unit
AskFits (Show left right) = (left ≤ 65535) × (right ≤ 65535)

pub record Sayable (t : Tables) (ask : Ask) : Type 0 where
  pub few-variables : t.variables ≤ 8
  pub few-concepts : count_of t.concepts ≤ 192
  pub few-inclusions : pairs_of t.inclusions ≤ 96
  pub few-questions : pairs_of t.questions ≤ 32
  pub few-roles : pairs_of t.roles ≤ 32
  pub concepts-fit : RowsFit ConceptFits 3 (count_of t.concepts) t.concepts
  pub inclusions-fit : RowsFit PairFits 2 (pairs_of t.inclusions) t.inclusions
  pub questions-fit : RowsFit PairFits 2 (pairs_of t.questions) t.questions
  pub roles-fit : RowsFit PairFits 2 (pairs_of t.roles) t.roles
  pub ask-fits : AskFits ask

-- ---- the judgement

-- The numbers of a line and its length.
pub data Line : Type 0 where
  numbers : List ℕ → ℕ → Line
  off : Line

unfoldable pub row_numbers : Option RowLine → Line
row_numbers (Some line) = numbers (line.kind ∷ line.a ∷ line.b ∷ []) line.length
row_numbers None = off

unfoldable pub pair_numbers : Option PairLine → Line
pair_numbers (Some line) = numbers (line.a ∷ line.b ∷ []) line.length
pair_numbers None = off

abbrev pub row_at : List ℕ → Line
row_at rest = row_numbers (row_line rest)

abbrev pub pair_at : List ℕ → List ℕ → Line
pair_at key rest = pair_numbers (pair_line key rest)

-- The numbers of several lines, the place behind them and the text that remains there; or the place where the earliest faulty one starts.
pub data Part : Type 0 where
  part : List ℕ → ℕ → List ℕ → Part
  faulty : ℕ → Part

unfoldable pub prepend : List ℕ → Part → Part
prepend front (part more at rest) = part (front ++ more) at rest
prepend front (faulty at) = faulty at

unfoldable pub line_then : ℕ → Line → (ℕ → Part) → Part
line_then at off go = faulty at
line_then at (numbers front n) go = prepend front (go n)

-- So many lines from the front of the remaining text, which starts at byte `at`.
unfoldable pub read_lines : (List ℕ → Line) → ℕ → ℕ → List ℕ → Part
read_lines line zero at rest = part [] at rest
read_lines line (suc count) at rest = line_then at (line rest) (λ n. read_lines line count (at + n) (drop n rest))

pub data Judged : Type 0 where
  accepted : Tables → Ask → Judged
  refused : Refusal → Judged

unfoldable pub pick_judged : Bool → Judged → Judged → Judged
pick_judged true a b = a
pick_judged false a b = b

-- The judgement goes on from a place, with the text that remains there.
abbrev pub Onward : Type 0
Onward = ℕ → List ℕ → Judged

-- A count over its limit is refused on its line with the table's place.
unfoldable pub count_then : ℕ → ℕ → Option Number → (ℕ → Onward) → Onward
count_then limit table None go at rest = refused (BadText at)
count_then limit table (Some found) go at rest =
    pick_judged (ltb limit found.value) (refused (Limit table)) (go found.value (at + found.length) (drop found.length rest))

unfoldable pub part_then : Part → (List ℕ → Onward) → Judged
part_then (part read at rest) go = go read at rest
part_then (faulty at) go = refused (BadText at)

abbrev pub count_at : List ℕ → ℕ → ℕ → (ℕ → Onward) → Onward
count_at key limit table go at rest = count_then limit table (number_line key rest) go at rest

-- A count line, and that many lines.
unfoldable pub section_at : List ℕ → ℕ → ℕ → (List ℕ → Line) → (List ℕ → Onward) → Onward
section_at key limit table line go at rest =
    count_at key limit table (λ count behind more. part_then (read_lines line count behind more) go) at rest

-- The section of the roles is there where the text goes on with its key.
unfoldable pub roles_at : (List ℕ → Onward) → Onward
roles_at go at rest = pick_judged (starts roles_key rest) (section_at roles_key 32 4 (pair_at wider_key) go at rest) (go [] at rest)

-- One line is left, and nothing behind it.
unfoldable pub show_then : Option PairLine → Tables → Onward
show_then None t at rest = refused (BadText at)
show_then (Some line) t at rest =
    pick_judged (ltb line.length (length rest)) (refused (BadText (at + line.length))) (accepted t (Show line.a line.b))

-- The lines in order, from the last to the first: the end of the text, and what goes before it.
unfoldable pub judge_end : Tables → Onward
judge_end t at [] = accepted t Fill
judge_end t at (byte ∷ rest) = show_then (pair_line show_key (byte ∷ rest)) t at (byte ∷ rest)

unfoldable pub judge_questions : ℕ → List ℕ → List ℕ → List ℕ → Onward
judge_questions variables roles concepts inclusions at rest =
    section_at questions_key 32 2 (pair_at below_key) (λ questions. judge_end (tables concepts inclusions questions roles variables)) at rest

unfoldable pub judge_inclusions : ℕ → List ℕ → List ℕ → Onward
judge_inclusions variables roles concepts at rest =
    section_at inclusions_key 96 1 (pair_at below_key) (λ inclusions. judge_questions variables roles concepts inclusions) at rest

unfoldable pub judge_concepts : ℕ → List ℕ → Onward
judge_concepts variables roles at rest = section_at concepts_key 192 0 row_at (λ concepts. judge_inclusions variables roles concepts) at rest

unfoldable pub judge_roles : ℕ → Onward
judge_roles variables at rest = roles_at (λ roles. judge_concepts variables roles) at rest

unfoldable pub judge_lines : Onward
judge_lines at rest = count_at variables_key 8 3 judge_roles at rest

-- A longer text is refused before any line is judged.
unfoldable pub judge : List ℕ → Judged
judge text = pick_judged (ltb 8192 (length text)) (refused (BadText 8192)) (judge_lines 0 text)
