-- Steps of the judgement on what the code holds (src/judging.rt).
use Rattle.std.specs.Prelude.{ℕ, List, Result, Err}
use Rattle.subsumption.specs.declared.refusal.Refusal.{Refusal}
use Rattle.subsumption.specs.declared.refusal.Refusal.TheVariants.{BadSyntax, TooDeep}
use Rattle.owl.specs.declared.words.Word.{Word}
use Rattle.owl.specs.declared.words.Word.TheVariants.{AxiomKey, TopKey, AndKey, SomeKey, NameOf, RoleOf, Other}
use Rattle.owl.specs.declared.frames.Reader.{Reader}
use Rattle.owl.specs.Tokens.{Token, closing}
use Rattle.owl.specs.Judgement.{item_step, step, ended, judge}
use Rattle.owl.specs.Inner.Frames.{state_of, Fits, NextOf, word_step}

-- a word in the innermost frame where a class would be too deep
unfoldable pub deep_next : Word → ℕ → Result Reader Refusal
deep_next AxiomKey place = Err (BadSyntax place)
deep_next TopKey place = Err (TooDeep place)
deep_next AndKey place = Err (TooDeep place)
deep_next SomeKey place = Err (TooDeep place)
deep_next (NameOf n) place = Err (TooDeep place)
deep_next (RoleOf r) place = Err (BadSyntax place)
deep_next Other place = Err (BadSyntax place)

-- with some inclusions
abbrev pub FitsSomehow : Reader → List ℕ → List ℕ → List ℕ → Type 0
FitsSomehow r frames pending rows = (inclusions : List ℕ) × Fits r frames pending rows inclusions

-- a word; the inclusions are not lent
abbrev pub StepsOnWord : Reader → ℕ → Word → List ℕ → List ℕ → List ℕ → List ℕ → List ℕ → List ℕ → Result Reader Refusal → Type 0
StepsOnWord r place word frames frames' pending pending' rows rows' next =
    (inclusions : List ℕ) → Fits r frames pending rows inclusions
    → NextOf
    (word_step place (state_of r frames pending rows inclusions) (state_of r frames pending rows inclusions).want
    (state_of r frames pending rows inclusions).frames word)
    next frames' pending' rows' inclusions

-- a closing bracket in the innermost frame
abbrev pub ShutsFrame : Reader → ℕ → List ℕ → List ℕ → List ℕ → List ℕ → List ℕ → List ℕ → List ℕ → Result Reader Refusal → Type 0
ShutsFrame r place frames pending pending' rows rows' inclusions inclusions' next =
    NextOf
    (item_step place (state_of r frames pending rows inclusions) (state_of r frames pending rows inclusions).frames closing)
    next frames pending' rows' inclusions'

abbrev pub Steps : Reader → ℕ → Token → List ℕ → List ℕ → List ℕ → List ℕ → List ℕ → List ℕ → List ℕ → List ℕ → Result Reader Refusal → Type 0
Steps r place token frames frames' pending pending' rows rows' inclusions inclusions' next =
    NextOf (step (state_of r frames pending rows inclusions) (record { place = place; token = token })) next frames' pending' rows'
    inclusions'

abbrev pub EndsText : Reader → ℕ → Result Reader Refusal → Type 0
EndsText r end next =
    (frames pending rows inclusions : List ℕ) → Fits r frames pending rows inclusions
    → NextOf
    (ended end (state_of r frames pending rows inclusions) (state_of r frames pending rows inclusions).frames
    (state_of r frames pending rows inclusions).want)
    next frames pending rows inclusions

-- the text is judged: the buffers hold the last state, or it is refused
pub record Judged (text : List ℕ) (next : Result Reader Refusal) (frames pending rows inclusions : List ℕ) : Type 0 where
  pub judged : NextOf (judge text) next frames pending rows inclusions
