use Rattle.std.proofs.Common.{rules, arith, sym, ◌∙◌}
use Rattle.countermodel.proofs.NotingLaws.{noted-none, noted-silent, noted-unmarked, noted_more, not-linked, not_wider, linked, inner-low, links-done}
use Rattle.countermodel.proofs.marks.note_links.Goals.{then-is_marked, else-is_marked}
use Rattle.countermodel.proofs.marks.note_links.Goals as goal

pub loop-j-init : goal.loop-j-init
loop-j-init c = λ roles R. noted-none _ _ _ _ _ _ c.requires.links_value

pub loop-j-preserved-in_default : goal.loop-j-preserved-in_default
loop-j-preserved-in_default c =
    λ roles R. noted-silent _ _ _ _ _ _ _ (c.loop-j.invariant roles R) (omega arith) (not-linked _ _ roles _ (λ r x e. search rules))

pub loop-j-preserved-then-not-counts : goal.loop-j-preserved-then-not-counts
loop-j-preserved-then-not-counts c =
    λ roles R.
    noted-silent _ _ _ _ _ _ _ (c.loop-j.invariant roles R) (omega arith)
    (not_wider _ _ c.requires.checked _ _ (sym c.node_at.ensures ∙ c.in-Exists.is) roles _ R _ c.requires.i_bound.1 _ c.counts.ensures
    c.if-not-counts.true)

pub loop-j-preserved : goal.loop-j-preserved
loop-j-preserved c =
    let e = sym c.node_at.ensures ∙ c.in-Exists.is in
    elim c.if-is_marked.branch [
      | then-is_marked w ↦
          rw w.links-is
          (λ roles R.
          noted_more _ _ _ _ _ _ _ (c.loop-j.invariant roles R) (omega arith) _ c.is_marked.ensures w.if-is_marked.true _
          (inner-low _ _ c.requires.checked _ _ e (omega arith))
          (linked _ _ c.requires.checked _ _ e roles _ R _ c.requires.i_bound.1 _ c.counts.ensures c.if-not-counts.false))
      | else-is_marked w ↦
          rw w.links-is
          (λ roles R. noted-unmarked _ _ _ _ _ _ _ (c.loop-j.invariant roles R) (omega arith) _ c.is_marked.ensures w.if-is_marked.false)
    ]

pub returns : goal.returns
returns c = λ roles R. links-done _ _ _ _ _ roles _ c.requires.checked (c.loop-j.invariant roles R) (omega arith)
