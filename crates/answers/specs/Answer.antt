-- An answer in numbers is a reply: number 0 and a value, or a refusal's number and place.
use Rattle.answers.specs.declared.Answer.{Answer}
use Rattle.subsumption.specs.Refusal.{Reply}

abbrev pub replied : Answer → Reply
replied answer = record { number = answer.number; place = answer.place; value = answer.value }
