use Rattle.owl.proofs.WordLaws.{name-long, reads-name, role-long, reads-role, reads_other}
use Rattle.owl.proofs.words.read_numbered.Goals as goal

pub slice_bounds-read_run-count : goal.slice_bounds-read_run-count
slice_bounds-read_run-count c = search name-long

pub returns-then-is_numbered : goal.returns-then-is_numbered
returns-then-is_numbered c = search reads-name

pub slice_bounds-read_run-count-then-is_numbered-2 : goal.slice_bounds-read_run-count-then-is_numbered-2
slice_bounds-read_run-count-then-is_numbered-2 c = search role-long

pub returns-then-is_numbered-2 : goal.returns-then-is_numbered-2
returns-then-is_numbered-2 c = search reads-role

pub returns : goal.returns
returns c = search reads_other

pub slice_bounds-read_run-start : goal.slice_bounds-read_run-start
slice_bounds-read_run-start c = search name-long

pub slice_bounds-read_run-start-then-is_numbered-2 : goal.slice_bounds-read_run-start-then-is_numbered-2
slice_bounds-read_run-start-then-is_numbered-2 c = search role-long
