use Prim.Native.Nat.{◌+◌, ◌≤◌}
use lib.ListN.{length}
use native.Mathlib.Omega.{arith}
use Rattle.owl.proofs.WordLaws.{numbered-off, key-within, run-within, numbered-empty, numbered-longer, numbered-whole}
use Rattle.owl.proofs.words.is_numbered.Goals as goal

pub returns-then-not-starts_with : goal.returns-then-not-starts_with
returns-then-not-starts_with c = search numbered-off

pub slice_bounds-read_run-count : goal.slice_bounds-read_run-count
slice_bounds-read_run-count c = search key-within

pub slice_bounds-read_run-start : goal.slice_bounds-read_run-start
slice_bounds-read_run-start c = search key-within

pub returns-then-run-eq0 : goal.returns-then-run-eq0
returns-then-run-eq0 c = search numbered-empty

pub overflow_add-key : goal.overflow_add-key
overflow_add-key c = let h : length c.args.key.now + c.read_run-run.result.length ≤ length c.args.word.now = search run-within in omega (arith, c.well_formed)

pub returns-then-key-run : goal.returns-then-key-run
returns-then-key-run c = search numbered-longer

pub returns : goal.returns
returns c = search numbered-whole
