use lib.ListN.{length}
use Rattle.subsumption.specs.Inner.Lent.{given}
use Rattle.subsumption.specs.Atoms.{atoms}
use Rattle.numerals.specs.Printing.{number_text}
use Rattle.numerals.specs.Lines.{variables_key}
use Rattle.numerals.proofs.WriteLaws.{room-1, room-2, room-3, wrote-three}
use Rattle.hermitcasket.specs.Printing.{filled_line, fills_text, filled_text}
use Rattle.hermitcasket.proofs.filled.put_filled.Goals as goal

pub put_bytes-a-requires : goal.put_bytes-a-requires
unfolding filled_text
put_bytes-a-requires c =
    let blanks = number_text variables_key (length c.args.assignment.now) in
    let fills = fills_text (atoms (given c.args.tables)) c.args.assignment.now in
    room-1 c.args.out.now 0 filled_line blanks fills c.requires.assignment_in_bounds

pub put_line-b-requires : goal.put_line-b-requires
unfolding filled_text
put_line-b-requires c =
    let blanks = number_text variables_key (length c.args.assignment.now) in
    let fills = fills_text (atoms (given c.args.tables)) c.args.assignment.now in
    room-2 _ 0 filled_line blanks fills c.requires.assignment_in_bounds _ _ c.put_bytes-a.ensures

pub put_fills-requires : goal.put_fills-requires
unfolding filled_text
put_fills-requires c =
    let blanks = number_text variables_key (length c.args.assignment.now) in
    let fills = fills_text (atoms (given c.args.tables)) c.args.assignment.now in record { variables_value = c.requires.variables_value; assignment_value = c.requires.assignment_value; assignment_in_bounds = room-3 _ 0 filled_line blanks fills c.requires.assignment_in_bounds _ _ c.put_bytes-a.ensures _ _ c.put_line-b.ensures }

pub returns : goal.returns
unfolding filled_text
returns c =
    let blanks = number_text variables_key (length c.args.assignment.now) in
    let fills = fills_text (atoms (given c.args.tables)) c.args.assignment.now in
    wrote-three _ 0 filled_line blanks fills c.requires.assignment_in_bounds _ _ c.put_bytes-a.ensures _ _ c.put_line-b.ensures _ _ c.put_fills.ensures
