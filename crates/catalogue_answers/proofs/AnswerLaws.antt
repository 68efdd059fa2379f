-- What is promised of an operation's answer holds of the numbers.
use Prim.Native.Nat.{ℕ}
use mathlib.Core.Path.{◌≡◌, refl}
use mathlib.Core.List.{List}
use Rattle.subsumption.specs.Tables.{Tables}
use Rattle.subsumption.specs.Refusal.{Outcome, reply_of}
use Rattle.incremental.specs.Update.{Updates}
use Rattle.renumbering.specs.Renumber.{Renumbers}
use Rattle.answers.specs.declared.Answer.{Answer}
use Rattle.answers.specs.Answer.{replied}
use Rattle.answers.proofs.AnswerLaws.{passed_on}

pub updates-as :
    (t : Tables) (told before after : List ℕ) (a : Answer) (x : Outcome) → Updates t told before after (reply_of x) → replied a ≡ reply_of x
    → Updates t told before after (replied a)
updates-as t told before after a x p = passed_on (Updates t told before after) reply_of x x a p refl

pub renumbers-as :
    (t : Tables) (order concepts concepts' inclusions inclusions' questions questions' : List ℕ) (a : Answer) (x : Outcome)
    → Renumbers t order concepts concepts' inclusions inclusions' questions questions' (reply_of x) → replied a ≡ reply_of x
    → Renumbers t order concepts concepts' inclusions inclusions' questions questions' (replied a)
renumbers-as t order concepts concepts' inclusions inclusions' questions questions' a x p =
    passed_on (Renumbers t order concepts concepts' inclusions inclusions' questions questions') reply_of x x a p refl
