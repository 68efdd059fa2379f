use native.Mathlib.Omega.{arith}
use Rattle.subsumption.proofs.Linking.{firsts-none, firsts_more, firsts-done, seen_none}
use Rattle.subsumption.proofs.closure.names.note_firsts.Goals as goal

pub loop-j-init : goal.loop-j-init
loop-j-init c = (firsts-none _ _ c.told-firsts, seen_none _)

pub first_named-first-requires : goal.first_named-first-requires
first_named-first-requires c = record { nameable = c.requires.nameable; seen = c.loop-j.invariant.1; j_bound = omega arith }

pub note_seen-requires : goal.note_seen-requires
note_seen-requires c = record { nameable = c.requires.nameable; seen = c.loop-j.invariant.1; j_bound = omega arith; first_named = c.first_named-first.ensures }

pub overflow_cast-firsts : goal.overflow_cast-firsts
overflow_cast-firsts c = omega (arith, c.first_named-first.ensures.low, c.requires.nameable.few)

pub bounds-firsts-j : goal.bounds-firsts-j
bounds-firsts-j c = omega (arith, c.loop-j.invariant.0.long, c.requires.nameable.few)

pub loop-j-preserved : goal.loop-j-preserved
loop-j-preserved c = (firsts_more _ _ _ _ c.requires.nameable.few c.loop-j.invariant.0 (omega arith) c.first_named-first.ensures, c.note_seen.ensures)

pub returns : goal.returns
returns c = firsts-done _ _ _ c.loop-j.invariant.0 (omega arith)
