use native.Mathlib.Omega.{arith}
use Rattle.subsumption.proofs.Refusals.{handed_up}
use Rattle.hermitcasket.proofs.ReadLaws.{section-fits, section-room, fault-3, fault-4, fault-5, read_all}
use Rattle.hermitcasket.proofs.text.read_tables.Goals as goal

pub returns-in_err-rows : goal.returns-in_err-rows
returns-in_err-rows c = rw (handed_up _ c.from_residual.ensures) (fault-3 _ _ _ _ _ _ c.read_concepts.ensures _ _ _ c.in_err-rows.was)

pub behind-second-requires : goal.behind-second-requires
behind-second-requires c = (section-fits _ _ _ _ _ _ _ c.read_concepts.ensures _ c.in_ok-rows.was).1

pub overflow_add-b : goal.overflow_add-b
overflow_add-b c = omega (arith, section-fits _ _ _ _ _ _ _ c.read_concepts.ensures _ c.in_ok-rows.was, c.requires)

pub read_section-requires : goal.read_section-requires
read_section-requires c =
    record {
      rest_bound =
          section-room _ _ _ _ _ _ _ c.read_concepts.ensures _ c.in_ok-rows.was c.requires.rest_bound _ c.behind-second.ensures;
      key_len_bound = omega arith;
      line_len_bound = omega arith;
      limit_in_bounds = omega (arith, c.requires);
    }

pub returns-in_err-given : goal.returns-in_err-given
returns-in_err-given c =
    rw (handed_up _ c.from_residual-in_err-given.ensures)
    (fault-4 _ _ _ _ _ _ c.read_concepts.ensures _ c.in_ok-rows.was _ c.behind-second.ensures _ _ c.read_section.ensures _ _ c.in_err-given.was)

pub behind-third-requires : goal.behind-third-requires
behind-third-requires c = (section-fits _ _ _ _ _ _ _ c.read_section.ensures _ c.in_ok-given.was).1

pub overflow_add-b-2 : goal.overflow_add-b-2
overflow_add-b-2 c =
    omega (
      arith,
      section-room _ _ _ _ _ _ _ c.read_concepts.ensures _ c.in_ok-rows.was c.requires.rest_bound _ c.behind-second.ensures,
      section-fits _ _ _ _ _ _ _ c.read_section.ensures _ c.in_ok-given.was,
    )

pub read_questions-requires : goal.read_questions-requires
read_questions-requires c =
    let room = section-room _ _ _ _ _ _ _ c.read_concepts.ensures _ c.in_ok-rows.was c.requires.rest_bound _ c.behind-second.ensures in
    record {
      rest_bound = section-room _ _ _ _ _ _ _ c.read_section.ensures _ c.in_ok-given.was room _ c.behind-third.ensures;
      in_bounds = omega (arith, c.requires);
    }

pub returns-in_err-asked : goal.returns-in_err-asked
returns-in_err-asked c =
    rw (handed_up _ c.from_residual-in_err-asked.ensures)
    (fault-5 _ _ _ _ _ _ c.read_concepts.ensures _ c.in_ok-rows.was _ c.behind-second.ensures _ _ c.read_section.ensures _ c.in_ok-given.was _
    c.behind-third.ensures _ _ c.read_questions.ensures _ c.in_err-asked.was)

pub returns : goal.returns
returns c =
    read_all _ _ _ _ _ _ c.read_concepts.ensures _ c.in_ok-rows.was _ c.behind-second.ensures _ _ c.read_section.ensures _ c.in_ok-given.was _
    c.behind-third.ensures _ _ c.read_questions.ensures c.requires.variables_bound c.requires.pairs_bound _ c.in_ok-asked.was
