use native.Mathlib.Omega.{arith}
use mathlib.Core.Path.{◌∙◌}
use lib.ListN.{length-set}
use Rattle.matching.proofs.SearchLaws.Making.Numbers.{problem-long, numbers_of}
use Rattle.matching.proofs.search.problem.note_numbers.Goals as goal

pub copy_at-requires : goal.copy_at-requires
copy_at-requires c = omega (arith, c.requires.layered.whole, c.requires.layered.few, problem-long _ c.requires.problem_value)

pub note_held-requires : goal.note_held-requires
note_held-requires c = record { layered = c.requires.layered; problem_len = c.copy_at.ensures.long ∙ problem-long _ c.requires.problem_value }

pub copy_at-requires-2 : goal.copy_at-requires-2
copy_at-requires-2 c = omega (arith, c.requires.questions_len_bound.1, c.note_held.ensures.long ∙ c.copy_at.ensures.long ∙ problem-long _ c.requires.problem_value)

pub copy_at-requires-3 : goal.copy_at-requires-3
copy_at-requires-3 c = omega (arith, c.requires.questions_len_bound.0, c.copy_at-2.ensures.long ∙ c.note_held.ensures.long ∙ c.copy_at.ensures.long ∙ problem-long _ c.requires.problem_value)

pub overflow_cast-problem : goal.overflow_cast-problem
overflow_cast-problem c = omega (arith, c.requires.questions_len_bound.0)

pub bounds-problem-897 : goal.bounds-problem-897
bounds-problem-897 c = omega (arith, c.copy_at-3.ensures.long ∙ c.copy_at-2.ensures.long ∙ c.note_held.ensures.long ∙ c.copy_at.ensures.long ∙ problem-long _ c.requires.problem_value)

pub note_holds-requires : goal.note_holds-requires
note_holds-requires c = simp length-set (c.copy_at-3.ensures.long ∙ c.copy_at-2.ensures.long ∙ c.note_held.ensures.long ∙ c.copy_at.ensures.long ∙ problem-long _ c.requires.problem_value)

pub shape_of-problem : goal.shape_of-problem
shape_of-problem c = c.note_holds.ensures.long ∙ simp length-set (c.copy_at-3.ensures.long ∙ c.copy_at-2.ensures.long ∙ c.note_held.ensures.long ∙ c.copy_at.ensures.long)

pub returns : goal.returns
returns c = numbers_of _ _ _ _ _ _ _ _ _ c.requires.layered.few (omega (arith, c.requires.layered.whole, c.requires.layered.few)) c.requires.questions_len_bound.0 c.requires.questions_len_bound.1 c.requires.problem_value c.copy_at.ensures c.note_held.ensures c.copy_at-2.ensures c.copy_at-3.ensures c.note_holds.ensures
