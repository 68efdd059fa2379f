use Rattle.owl.proofs.JudgingLaws.{role-room, frame-room}
use Rattle.owl.proofs.JudgingLaws.{word-role, word-bracket, word-outside, word-full, word-begins}
use Rattle.owl.proofs.judging.step_word.Goals as goal

pub take_role-requires : goal.take_role-requires
take_role-requires c = let f = c.requires.1 in record { depth_nonzero = role-room _ _ _ _ _ f c.if-reader-gt-ITEM.true; frames_len = f.frames-long }

pub returns-then-reader-gt-ITEM : goal.returns-then-reader-gt-ITEM
returns-then-reader-gt-ITEM c = search word-role

pub returns-then-reader-lt-ITEM : goal.returns-then-reader-lt-ITEM
returns-then-reader-lt-ITEM c = search word-bracket

pub returns-then-reader-eq0 : goal.returns-then-reader-eq0
returns-then-reader-eq0 c = search word-outside

pub has_room-requires : goal.has_room-requires
has_room-requires c = let q = frame-room _ _ _ _ _ c.requires.1 c.if-reader-eq0.false in record { depth_nonzero = q.0; frames_len = q.1; frames_bound = q.2 }

pub returns-then-not-has_room : goal.returns-then-not-has_room
returns-then-not-has_room c = search word-full

pub returns : goal.returns
returns c = search word-begins
