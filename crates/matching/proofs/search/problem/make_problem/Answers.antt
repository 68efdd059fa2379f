use native.Mathlib.Omega.{arith}
use mathlib.Core.Path.{◌∙◌, sym, refl}
use lib.Seq.{length-take-le}
use Rattle.subsumption.proofs.Accepted.{roles-low}
use Rattle.matching.proofs.SearchLaws.Making.Numbers.{problem-long, accepted-layered, few-asked, few-listed, readable, numbers}
use Rattle.matching.proofs.SearchLaws.Making.Lines.{few-concepts}
use Rattle.matching.proofs.SearchLaws.Making.Whole.{sets-whole, lined-long, cones-empty, closers-empty, made-shape, made}
use Rattle.matching.proofs.search.problem.make_problem.Goals as goal

pub note_numbers-requires : goal.note_numbers-requires
note_numbers-requires c = record { layered = accepted-layered _ _ c.requires.accepted; questions_len_bound = (few-asked _ _ c.requires.accepted, few-listed _ _ c.requires.accepted); problem_value = c.requires.problem_value }

pub slice_bounds-note_lines-end : goal.slice_bounds-note_lines-end
slice_bounds-note_lines-end c = omega (arith, sets-whole _ c.requires.sets_value)

pub slice_bounds-note_lines-end-2 : goal.slice_bounds-note_lines-end-2
slice_bounds-note_lines-end-2 c = sym (length-take-le 1152 c.args.sets.now (omega (arith, sets-whole _ c.requires.sets_value)))

pub note_lines-requires : goal.note_lines-requires
note_lines-requires c = record { variables_value = c.requires.accepted.passed; square_len = length-take-le 1152 c.args.sets.now (omega (arith, sets-whole _ c.requires.sets_value)) }

pub note_roles-requires : goal.note_roles-requires
note_roles-requires c = record { low_roles = roles-low _ c.requires.accepted.passed; into_value = refl }

pub note_fits-requires : goal.note_fits-requires
note_fits-requires c = record { readable = readable _ _ _ c.requires.accepted c.note_numbers.ensures; sets_len = lined-long _ _ _ c.note_lines.ensures c.requires.sets_value }

pub note_fits-requires-2 : goal.note_fits-requires-2
note_fits-requires-2 c = record { readable = readable _ _ _ c.requires.accepted c.note_numbers.ensures; sets_len = c.note_fits.ensures.long ∙ lined-long _ _ _ c.note_lines.ensures c.requires.sets_value }

pub note_cones-requires : goal.note_cones-requires
note_cones-requires c = record { readable = readable _ _ _ c.requires.accepted c.note_numbers.ensures; sets_len = c.note_fits-2.ensures.long ∙ c.note_fits.ensures.long ∙ lined-long _ _ _ c.note_lines.ensures c.requires.sets_value; no_cones = cones-empty _ _ _ c.note_lines.ensures c.requires.sets_value _ _ _ _ _ c.note_fits.ensures c.note_fits-2.ensures }

pub note_closers-requires : goal.note_closers-requires
note_closers-requires c = record { shaped = record { sets-long = c.note_cones.ensures.long ∙ c.note_fits-2.ensures.long ∙ c.note_fits.ensures.long ∙ lined-long _ _ _ c.note_lines.ensures c.requires.sets_value; numbers = numbers _ _ _ c.requires.accepted c.note_numbers.ensures }; count_bound = few-concepts _ c.requires.accepted.passed; no_closers = closers-empty _ _ _ c.note_lines.ensures c.requires.sets_value _ _ _ _ _ c.note_fits.ensures c.note_fits-2.ensures _ c.note_cones.ensures }

pub shape_of-sets : goal.shape_of-sets
shape_of-sets c = c.note_closers.ensures.long ∙ c.note_cones.ensures.long ∙ c.note_fits-2.ensures.long ∙ c.note_fits.ensures.long ∙ lined-long _ _ _ c.note_lines.ensures c.requires.sets_value ∙ sym (sets-whole _ c.requires.sets_value)

pub shape_of-problem : goal.shape_of-problem
shape_of-problem c = c.note_numbers.ensures.long ∙ sym (problem-long _ c.requires.problem_value)

pub returns : goal.returns
returns c = record { shaped = made-shape _ _ _ _ _ _ _ _ _ _ c.requires.accepted c.note_numbers.ensures c.note_roles.ensures c.requires.sets_value c.note_lines.ensures c.note_fits.ensures c.note_fits-2.ensures c.note_cones.ensures c.note_closers.ensures; problem = made _ _ _ _ _ _ _ _ _ _ c.requires.accepted c.note_numbers.ensures c.note_roles.ensures c.requires.sets_value c.note_lines.ensures c.note_fits.ensures c.note_fits-2.ensures c.note_cones.ensures c.note_closers.ensures }
