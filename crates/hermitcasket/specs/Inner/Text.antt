-- What the readers of the tables answer and leave in the lent arrays (src/text.rt).
use Rattle.std.specs.Prelude.{ℕ, ◌+◌, ◌*◌, ◌≤◌, ◌≡◌, List, length, take, drop, Result, Ok, Err}
use Rattle.subsumption.specs.declared.refusal.Refusal.{Refusal}
use Rattle.numerals.specs.Lines.{questions_key, below_key}
use Rattle.hermitcasket.specs.declared.text.Ask.{Ask}
use Rattle.hermitcasket.specs.declared.text.Section.{Section}
use Rattle.hermitcasket.specs.declared.text.Asked.{Asked}
use Rattle.hermitcasket.specs.declared.text.Problem.{Problem}
use Rattle.subsumption.specs.Tables.{Tables, tables}
use Rattle.hermitcasket.specs.Text.{Line, pair_at, read_lines, part_then, Judged, accepted, refused, Onward, count_at, section_at, judge_end, judge_concepts}

-- The numbers read stand in front, and so many bytes are used: the judgement goes on behind them.
unfoldable pub lines_then : Result ℕ Refusal → ℕ → List ℕ → (List ℕ → Onward) → Onward
lines_then (Ok used) size out go at rest = go (take size out) (at + used) (drop used rest)
lines_then (Err r) size out go at rest = refused r

abbrev pub LinesFit : Result ℕ Refusal → ℕ → Type 0
LinesFit (Ok used) size = used ≤ size
LinesFit (Err r) size = Unit

pub record LinesRead (line : List ℕ → Line) (width count at : ℕ) (rest : List ℕ) (r : Result ℕ Refusal) (out : List ℕ) : Type 0 where
  pub judged : (go : List ℕ → Onward) → part_then (read_lines line count at rest) go ≡ lines_then r (count * width) out go at rest
  pub fits : LinesFit r (length rest)

-- A count, or a section's count of lines, and the bytes used: the judgement goes on behind them.
unfoldable pub counted_then : Result Section Refusal → (ℕ → Onward) → Onward
counted_then (Ok s) go at rest = go s.count (at + s.length) (drop s.length rest)
counted_then (Err r) go at rest = refused r

unfoldable pub section_then : Result Section Refusal → ℕ → List ℕ → (List ℕ → Onward) → Onward
section_then (Ok s) width out go at rest = go (take (s.count * width) out) (at + s.length) (drop s.length rest)
section_then (Err r) width out go at rest = refused r

unfoldable pub end_then : Result Ask Refusal → Tables → Judged
end_then (Ok ask) t = accepted t ask
end_then (Err r) t = refused r

abbrev pub Ends : ℕ → List ℕ → Result Ask Refusal → Type 0
Ends at rest r = (t : Tables) → judge_end t at rest ≡ end_then r t

-- The last section, with the end.
unfoldable pub last_then : Result Asked Refusal → List ℕ → (List ℕ → Tables) → Judged
last_then (Ok asked) out t = accepted (t (take (asked.questions * 2) out)) asked.ask
last_then (Err r) out t = refused r

abbrev pub LastFits : Result Asked Refusal → Type 0
LastFits (Ok asked) = asked.questions ≤ 32
LastFits (Err r) = Unit

abbrev pub SectionFits : Result Section Refusal → ℕ → ℕ → Type 0
SectionFits (Ok s) limit size = (s.count ≤ limit) × (s.length ≤ size)
SectionFits (Err r) limit size = Unit

pub record Counts (key : List ℕ) (limit table at : ℕ) (rest : List ℕ) (r : Result Section Refusal) : Type 0 where
  pub judged : (go : ℕ → Onward) → count_at key limit table go at rest ≡ counted_then r go at rest
  pub fits : SectionFits r limit (length rest)

pub record Sectioned (section : (List ℕ → Onward) → Onward) (limit width at : ℕ) (rest : List ℕ) (r : Result Section Refusal)
    (out : List ℕ) : Type 0 where
  pub judged : (go : List ℕ → Onward) → section go at rest ≡ section_then r width out go at rest
  pub fits : SectionFits r limit (length rest)

pub record Last (at : ℕ) (rest : List ℕ) (r : Result Asked Refusal) (out : List ℕ) : Type 0 where
  pub judged :
      (t : List ℕ → Tables) → section_at questions_key 32 2 (pair_at below_key) (λ questions. judge_end (t questions)) at rest ≡ last_then r out t
  pub fits : LastFits r

-- The tables stand in front of the arrays.
unfoldable pub judged_by : Result Problem Refusal → List ℕ → List ℕ → List ℕ → List ℕ → Judged
judged_by (Ok p) concepts inclusions questions roles =
    accepted
    (tables (take (p.concepts * 3) concepts) (take (p.inclusions * 2) inclusions) (take (p.questions * 2) questions)
    (take (p.roles * 2) roles)
    p.variables)
    p.ask
judged_by (Err r) concepts inclusions questions roles = refused r

abbrev pub ReadFits : Result Problem Refusal → Type 0
ReadFits (Ok p) = (p.variables ≤ 8) × (p.concepts ≤ 192) × (p.inclusions ≤ 96) × (p.questions ≤ 32) × (p.roles ≤ 32)
ReadFits (Err r) = Unit

-- The tables behind the section of the roles: so they are judged for any array that has so many pairs in front.
pub record TablesRead (variables pairs at : ℕ) (rest : List ℕ) (r : Result Problem Refusal)
    (concepts inclusions questions : List ℕ) : Type 0 where
  pub judged : (roles : List ℕ) → judge_concepts variables (take (pairs * 2) roles) at rest ≡ judged_by r concepts inclusions questions roles
  pub fits : ReadFits r
