-- From an operation's answer to numbers: they are the same reply, so what is promised of one holds of the other.
use Rattle.std.specs.Prelude.{ℕ, Result}
use mathlib.Core.Path.{◌≡◌, sym, ap, ◌∙◌, subst}
use mathlib.Core.List.{List}
use Rattle.subsumption.specs.declared.refusal.Refusal.{Refusal}
use Rattle.subsumption.specs.Tables.{Tables}
use Rattle.subsumption.specs.Refusal.{Reply, value_reply}
use Rattle.subsumption.specs.Table.{Wrote}
use Rattle.answers.specs.declared.Answer.{Answer}
use Rattle.answers.specs.Answer.{replied}

pub same_answer : {E : Type 0} (reply : E → Reply) (right : Reply) (x y : E) (a : Answer) → reply x ≡ right → x ≡ y → replied a ≡ reply y → replied a ≡ right
same_answer reply right x y a p e f = f ∙ ap reply (sym e) ∙ p

pub passed_on : {E : Type 0} (Promise : Reply → Type 0) (reply : E → Reply) (x y : E) (a : Answer) → Promise (reply x) → x ≡ y → replied a ≡ reply y → Promise (replied a)
passed_on Promise reply x y a p e f = subst Promise (ap reply e ∙ sym f) p

module _ (t : Tables) (assignment before after : List ℕ) (a : Answer) where
  pub wrote_as : (x y : Result ℕ Refusal) → Wrote t assignment before after (value_reply x) → x ≡ y → replied a ≡ value_reply y → Wrote t assignment before after (replied a)
  wrote_as x y = passed_on (Wrote t assignment before after) value_reply x y a
