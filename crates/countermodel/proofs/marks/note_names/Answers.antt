use Rattle.std.proofs.Common.{rules, arith, sym, ◌∙◌}
use Rattle.countermodel.proofs.NotingLaws.{noted-none, noted-silent, noted-unmarked, noted_more, not_named, named, names-done}
use Rattle.countermodel.proofs.marks.note_names.Goals.{then-is_marked, else-is_marked}
use Rattle.countermodel.proofs.marks.note_names.Goals as goal

pub loop-j-init : goal.loop-j-init
loop-j-init c = noted-none _ _ _ _ _ _ c.requires.names_value

pub loop-j-preserved-in_default : goal.loop-j-preserved-in_default
loop-j-preserved-in_default c = noted-silent _ _ _ _ _ _ _ c.loop-j.invariant (omega arith) (not_named _ _ (λ n e. search rules))

pub loop-j-preserved : goal.loop-j-preserved
loop-j-preserved c =
    let e = sym c.node_at.ensures ∙ c.in-Name.is in
    elim c.if-is_marked.branch [
      | then-is_marked w ↦
          rw w.names-is
          (noted_more _ _ _ _ _ _ _ c.loop-j.invariant (omega arith) _ c.is_marked.ensures w.if-is_marked.true _ (c.requires.checked.low-names _ _ e)
          (named _ _ _ e))
      | else-is_marked w ↦
          rw w.names-is (noted-unmarked _ _ _ _ _ _ _ c.loop-j.invariant (omega arith) _ c.is_marked.ensures w.if-is_marked.false)
    ]

pub returns : goal.returns
returns c = names-done _ _ _ _ _ c.loop-j.invariant (omega arith)
