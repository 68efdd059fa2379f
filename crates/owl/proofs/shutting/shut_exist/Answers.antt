use Rattle.owl.proofs.ShuttingLaws.{exist-not, exist-shut}
use Rattle.owl.proofs.shutting.shut_exist.Goals as goal

pub returns-then-used-start-ne1 : goal.returns-then-used-start-ne1
returns-then-used-start-ne1 c = search exist-not

pub returns : goal.returns
returns c = search exist-shut
