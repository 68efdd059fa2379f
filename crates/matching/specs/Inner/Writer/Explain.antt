-- What the search for a line promises: a pair that follows from marked pairs, with its rule and extra.
use Rattle.std.specs.Prelude.{ℕ, ◌+◌, ◌*◌, ◌<◌, ◌≤◌, ◌≡◌, List, Bool, true, false, Option, Some, None}
use Rattle.subsumption.specs.Tables.{Tables, count_of}
use Rattle.subsumption.specs.Rules.{by_rule}
use Rattle.matching.specs.declared.writer.explain.Line.{Line}
use Rattle.matching.specs.Inner.Derivation.{seen, Of, ByRule}

-- the rule takes no extra from the bound on
pub record ExtraBound (concepts inclusions : List ℕ) (rule left bound : ℕ) : Type 0 where
  pub low : bound ≤ 192
  pub past :
      (t : Tables) → t.concepts ≡ concepts → t.inclusions ≡ inclusions → (assignment : List ℕ) (proved : ℕ → ℕ → Bool) (right extra : ℕ)
      → bound ≤ extra → by_rule t assignment proved rule left right extra ≡ false

module _ (concepts inclusions into ids assignment : List ℕ) (marks : List Bool) where
  -- no extra below the bound serves the rule
  pub record NoExtra (rule left right bound : ℕ) : Type 0 where
    pub none :
        (t : Tables) → Of t concepts inclusions into ids → (extra : ℕ) → extra < bound
        → by_rule t assignment (seen (count_of concepts) marks) rule left right extra ≡ false

  -- no rule below the bound gives the pair
  pub record NoRule (left right bound : ℕ) : Type 0 where
    pub none :
        (t : Tables) → Of t concepts inclusions into ids → (rule extra : ℕ) → rule < bound
        → by_rule t assignment (seen (count_of concepts) marks) rule left right extra ≡ false

  -- the rule gives the pair
  pub record Gives (rule left right extra : ℕ) : Type 0 where
    pub rule-low : rule < 9
    pub extra-low : extra < 192
    pub by : ByRule concepts inclusions into ids assignment marks rule left right extra true

  -- the pair is marked, or nothing gives it
  pub record Quiet (left right : ℕ) : Type 0 where
    pub none :
        seen (count_of concepts) marks left right ≡ false → (t : Tables) → Of t concepts inclusions into ids → (rule extra : ℕ)
        → by_rule t assignment (seen (count_of concepts) marks) rule left right extra ≡ false

  -- the pairs from one cell up to another are quiet
  pub record QuietFrom (from to : ℕ) : Type 0 where
    pub each :
        (i j : ℕ) → i < count_of concepts → j < count_of concepts → from ≤ i * count_of concepts + j → i * count_of concepts + j < to
        → Quiet i j

  -- a pair that is not marked, and is given
  pub record New (rule left right extra : ℕ) : Type 0 where
    pub left-known : left < count_of concepts
    pub right-known : right < count_of concepts
    pub fresh : seen (count_of concepts) marks left right ≡ false
    pub gives : Gives rule left right extra

  abbrev pub Tried : ℕ → ℕ → ℕ → Option ℕ → Type 0
  Tried rule left right (Some extra) = Gives rule left right extra
  Tried rule left right None =
      (t : Tables) → Of t concepts inclusions into ids → (extra : ℕ)
      → by_rule t assignment (seen (count_of concepts) marks) rule left right extra ≡ false

  abbrev pub Explained : ℕ → ℕ → Option (ℕ × ℕ) → Type 0
  Explained left right (Some by) = Gives by.0 left right by.1
  Explained left right None =
      (t : Tables) → Of t concepts inclusions into ids → (rule extra : ℕ)
      → by_rule t assignment (seen (count_of concepts) marks) rule left right extra ≡ false

  abbrev pub Tested : Option Line → Type 0
  Tested (Some line) = New line.rule line.left line.right line.extra
  Tested None = Unit {0}

  abbrev pub Found : ℕ → Option Line → Type 0
  Found from (Some line) = New line.rule line.left line.right line.extra
  Found from None = QuietFrom from (count_of concepts * count_of concepts)
