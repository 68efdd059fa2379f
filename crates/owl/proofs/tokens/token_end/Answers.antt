use Rattle.owl.proofs.TokenLaws.{bracket-ends}
use mathlib.Core.Path.{sym, ◌∙◌}
use Rattle.owl.proofs.tokens.token_end.Goals as goal

pub returns-then-is_bracket : goal.returns-then-is_bracket
returns-then-is_bracket c = search bracket-ends

pub word_end-requires : goal.word_end-requires
word_end-requires c = record { at_in_bounds = c.requires.at_in_bounds; at_value = c.requires.at_value; at_value_2 = sym c.is_bracket.ensures ∙ c.if-is_bracket.false }
