use Rattle.owl.proofs.ShuttingLaws.{meet-not, meet-full, meet-shut}
use Rattle.owl.proofs.shutting.shut_meet.Goals as goal

pub returns-then-members-lt2 : goal.returns-then-members-lt2
returns-then-members-lt2 c = search meet-not

pub returns-then-count-gt-CONCEPTS : goal.returns-then-count-gt-CONCEPTS
returns-then-count-gt-CONCEPTS c = search meet-full

pub returns : goal.returns
returns c = search meet-shut
