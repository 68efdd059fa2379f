use mathlib.Core.Path.{refl}
use lib.ListN.{replicate}
use Rattle.subsumption.proofs.ListingLaws.{asked-rejected, asked-passed}
use Rattle.countermodel.proofs.JudgingLaws.{judged-pair, judged-choices, judged-holds, judged-fails, marked-asks}
use Rattle.subsumption.proofs.Refusals.{handed_up}
use Rattle.countermodel.proofs.show.judge_pair.Goals as goal

pub returns-in_err-list_asked : goal.returns-in_err-list_asked
returns-in_err-list_asked c = rw (handed_up _ c.from_residual.ensures) (judged-pair _ _ _ _ _ _ c.told-table
    (asked-rejected _ _ _ (replicate 64 0) _ c.list_asked.result refl c.list_asked.ensures.replied c.list_asked.ensures.written _ c.in_err-list_asked.was))

pub returns-in_err-write_table : goal.returns-in_err-write_table
returns-in_err-write_table c = rw (handed_up _ c.from_residual-in_err-write_table.ensures) (judged-choices _ _ _ _
    (asked-passed _ _ _ (replicate 64 0) _ c.list_asked.result refl c.list_asked.ensures.replied c.list_asked.ensures.written _ c.in_ok-list_asked.was)
    _ _ c.told-table c.write_table.result c.write_table.ensures _ c.in_err-write_table.was)

pub is_marked-requires : goal.is_marked-requires
is_marked-requires c =
    let all = marked-asks _ _ _ _
    (asked-passed _ _ _ (replicate 64 0) _ c.list_asked.result refl c.list_asked.ensures.replied c.list_asked.ensures.written _ c.in_ok-list_asked.was)
    _ _ c.told-table c.write_table.result c.write_table.ensures in record { i_bound = all.1 }

pub returns-then-is_marked : goal.returns-then-is_marked
returns-then-is_marked c =
    judged-holds _ _ _ _
    (asked-passed _ _ _ (replicate 64 0) _ c.list_asked.result refl c.list_asked.ensures.replied c.list_asked.ensures.written _ c.in_ok-list_asked.was)
    _ _ c.told-table c.write_table.result c.write_table.ensures _ c.in_ok-write_table.was _ c.is_marked.ensures c.if-is_marked.true

pub returns : goal.returns
returns c =
    judged-fails _ _ _ _
    (asked-passed _ _ _ (replicate 64 0) _ c.list_asked.result refl c.list_asked.ensures.replied c.list_asked.ensures.written _ c.in_ok-list_asked.was)
    _ _ c.told-table c.write_table.result c.write_table.ensures _ c.in_ok-write_table.was _ c.is_marked.ensures c.if-is_marked.false
