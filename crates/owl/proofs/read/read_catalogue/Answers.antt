use Rattle.owl.proofs.ReadLaws.{short-concepts, short-inclusions, long-text, reads_on}
use Rattle.owl.proofs.read.read_catalogue.Goals as goal

pub returns-then-concepts-lt-ROWS : goal.returns-then-concepts-lt-ROWS
returns-then-concepts-lt-ROWS c = search short-concepts

pub returns-then-inclusions-lt-SIDES : goal.returns-then-inclusions-lt-SIDES
returns-then-inclusions-lt-SIDES c = search short-inclusions

pub returns-then-text-gt-TEXT : goal.returns-then-text-gt-TEXT
returns-then-text-gt-TEXT c = search long-text

pub returns : goal.returns
returns c = search reads_on
