use mathlib.Core.Path.{refl, sym}
use Rattle.matching.proofs.SearchLaws.Making.Closers.{closers-noted}
use native.Mathlib.Omega.{arith}
use Rattle.matching.proofs.search.problem.note_closers_of.Goals as goal

pub want_asked-requires : goal.want_asked-requires
want_asked-requires c = record { shaped = c.requires.shaped; m_bound = (c.requires.count_bound.1, refl) }

pub slice_bounds-keep_all-end : goal.slice_bounds-keep_all-end
slice_bounds-keep_all-end c = sym c.want_asked.ensures.long

pub keep_all-requires : goal.keep_all-requires
keep_all-requires c = record { shaped = c.requires.shaped; count_bound = (c.requires.count_bound.0, c.want_asked.ensures.long); at_bound = (omega arith, omega arith); by_index = c.requires.by_index }

pub shape_of-sets : goal.shape_of-sets
shape_of-sets c = c.keep_all.ensures.long

pub returns : goal.returns
returns c = closers-noted _ c.requires.shaped.numbers _ _ c.requires.count_bound.0 c.requires.count_bound.1 _ _ _ _ c.want_asked.ensures c.keep_all.ensures
