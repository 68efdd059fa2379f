use native.Mathlib.Omega.{arith}
use mathlib.Core.Path.{sym, ◌∙◌}
use Rattle.matching.proofs.WriterLaws.Steps.{kept-both}
use Rattle.matching.proofs.writer.write_lines.Goals as goal

-- src/writer.rt:227:9
pub write_proposed-n-requires : goal.write_proposed-n-requires
write_proposed-n-requires c = record { grounds = c.requires.grounds; left_bound = (c.requires.asked.left-known, c.requires.asked.right-known); blank = c.requires.blank; concepts_in_bounds = c.requires.concepts_in_bounds }

-- src/writer.rt:239:9
pub returns-then-has_mark : goal.returns-then-has_mark
returns-then-has_mark c = record { written_to = c.write_proposed-n.ensures.begun.asked (sym c.has_mark.ensures ∙ c.if-has_mark.true); rest_kept = c.write_proposed-n.ensures.rest_kept }

-- src/writer.rt:241:5
pub write_more-requires : goal.write_more-requires
write_more-requires c = record { grounds = c.requires.grounds; asked = c.requires.asked; written = c.write_proposed-n.ensures.begun.written; right_value = sym c.has_mark.ensures ∙ c.if-has_mark.false; concepts_in_bounds = omega (arith, c.requires.concepts_in_bounds) }

-- src/writer.rt:208:1
pub returns : goal.returns
returns c = record { written_to = c.write_more.ensures.written_to; rest_kept = kept-both _ _ _ _ _ _ c.write_proposed-n.ensures.rest_kept c.write_more.ensures.rest_kept }
