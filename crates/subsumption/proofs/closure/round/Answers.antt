use Rattle.subsumption.proofs.Settling.{ready-settleable}
use Rattle.subsumption.proofs.Including.{ready-pairs, ready-left}
use Rattle.subsumption.proofs.Linking.{ready-inner}
use Rattle.subsumption.proofs.Closing.{round-pass}
use Rattle.subsumption.proofs.closure.round.Goals as goal

pub fall-a-requires : goal.fall-a-requires
fall-a-requires c = record { settleable = ready-settleable c.requires.ready }

pub rise-b-requires : goal.rise-b-requires
rise-b-requires c = record { settleable = ready-settleable c.requires.ready; firsts = c.requires.firsts; inner = ready-inner c.requires.ready; laid = c.requires.laid }

pub include_until_quiet-c-requires : goal.include_until_quiet-c-requires
include_until_quiet-c-requires c = record { low_pairs = ready-pairs c.requires.ready }

pub returns : goal.returns
returns c = λ wide s. round-pass _ _ _ _ _ (c.fall-a.ensures _ wide) (c.rise-b.ensures _ wide s) (c.include_until_quiet-c.ensures _ wide _ (ready-left c.requires.ready))
