use mathlib.Core.Path.{refl, sym, ◌∙◌}
use native.Mathlib.Omega.{arith}
use Rattle.countermodel.proofs.MemberLaws.Scanning.{unmet-none, unmet-more}
use Rattle.countermodel.proofs.MemberLaws.Weights.{atom-falls, link-falls, first-falls, second-falls, variable-falls, link-known, first-known, second-known}
use Rattle.countermodel.proofs.MemberLaws.Memo.{known-yes, known-no}
use Rattle.countermodel.proofs.MemberLaws.Walking.{in_top, in-name, in-exists, in-first, in_both, in-var, noted-walked, leads-met, leads-none, sofar-none, sofar-skip, sofar-more, sofar-not, sofar-done}
use Rattle.countermodel.proofs.membership.walk.+in_all_member_at_some_link.Goals as goal

pub in_all-loop-q-init : goal.in_all-loop-q-init
in_all-loop-q-init t c =
    (sofar-none _ _ _ _ _ _, c.requires.remembers)

pub in_all-loop-q-preserved-then-picked-eq0 : goal.in_all-loop-q-preserved-then-picked-eq0
in_all-loop-q-preserved-then-picked-eq0 t c =
    (sofar-skip _ _ _ _ _ _ _ (omega arith) c.loop-q.invariant.0 c.if-picked-eq0.true, c.loop-q.invariant.1)

pub in_all-member_at-requires : goal.in_all-member_at-requires
in_all-member_at-requires t c =
    (omega (arith, atom-falls _ _ _ _ c.requires.walkable c.loop-q.q (omega arith), c.decreases), (c.requires.walkable, (c.requires.stretches, (c.loop-q.invariant.1, (c.requires.element_bound, c.requires.walkable.atoms-known _ (omega arith))))))

pub in_all-returns-then-not-member_at : goal.in_all-returns-then-not-member_at
in_all-returns-then-not-member_at t c =
    record { answered = sofar-not _ _ c.args.assignment.now _ c.args.element _ c.loop-q.q (omega arith) c.if-picked-eq0.false (c.member_at.ensures.answered.no (c.if-not-member_at.true)); remembered = c.member_at.ensures.remembered }

pub in_all-loop-q-preserved : goal.in_all-loop-q-preserved
in_all-loop-q-preserved t c =
    (sofar-more _ _ _ _ _ _ _ (omega arith) c.loop-q.invariant.0 (c.member_at.ensures.answered.yes (c.if-not-member_at.false)), c.member_at.ensures.remembered)

pub in_all-returns : goal.in_all-returns
in_all-returns t c =
    record { answered = sofar-done _ _ _ _ _ _ _ c.loop-q.invariant.0 (omega arith); remembered = c.loop-q.invariant.1 }

pub member_at-returns-then-known-eq1 : goal.member_at-returns-then-known-eq1
member_at-returns-then-known-eq1 t c =
    known-yes _ _ _ _ _ c.requires.remembers _ _ (omega arith) c.if-known-eq1.true

pub member_at-returns-then-known-eq2 : goal.member_at-returns-then-known-eq2
member_at-returns-then-known-eq2 t c =
    known-no _ _ _ _ _ c.requires.remembers _ _ (omega arith) c.if-known-eq2.true

pub member_at-some_link-linked-requires : goal.member_at-some_link-linked-requires
member_at-some_link-linked-requires t c =
    let e = sym c.node_at.ensures ∙ c.in-Exists.is in
    (omega (arith, link-falls _ _ _ _ c.requires.walkable c.args.id _ _ e, c.decreases), (c.requires.walkable, (c.requires.stretches, (c.requires.remembers, (c.requires.element_bound.0, link-known _ _ _ _ c.requires.walkable _ _ _ e c.requires.element_bound.1)))))

pub member_at-member_at-first-requires : goal.member_at-member_at-first-requires
member_at-member_at-first-requires t c =
    let e = sym c.node_at.ensures ∙ c.in-And.is in
    (omega (arith, first-falls _ _ _ _ c.requires.walkable c.args.id _ _ e, c.decreases), (c.requires.walkable, (c.requires.stretches, (c.requires.remembers, (c.requires.element_bound.0, first-known _ _ _ _ c.requires.walkable _ _ _ e c.requires.element_bound.1)))))

pub member_at-member_at-second-requires : goal.member_at-member_at-second-requires
member_at-member_at-second-requires t c =
    let e = sym c.node_at.ensures ∙ c.in-And.is in
    (omega (arith, second-falls _ _ _ _ c.requires.walkable c.args.id _ _ e, c.decreases), (c.requires.walkable, (c.requires.stretches, (c.member_at-first.ensures.remembered, (c.requires.element_bound.0, second-known _ _ _ _ c.requires.walkable _ _ _ e c.requires.element_bound.1)))))

pub member_at-in_all-chosen-requires : goal.member_at-in_all-chosen-requires
member_at-in_all-chosen-requires t c =
    (omega (arith, variable-falls _ _ _ _ c.requires.walkable c.args.id _ (sym c.node_at.ensures ∙ c.in-Variable.is), c.decreases), (c.requires.walkable, (c.requires.stretches, (c.requires.remembers, c.requires.element_bound.0))))

pub member_at-returns-in-Top : goal.member_at-returns-in-Top
member_at-returns-in-Top t c =
    record { answered = in_top _ _ _ _ c.requires.walkable _ _ (sym c.node_at.ensures ∙ c.in-Top.is); remembered = c.requires.remembers }

pub member_at-returns-in-Name : goal.member_at-returns-in-Name
member_at-returns-in-Name t c =
    noted-walked _ _ _ _ c.requires.walkable _ _ c.requires.element_bound.0 c.requires.element_bound.1 _ _ c.requires.remembers _ _ c.note.ensures (in-name _ _ _ _ c.requires.walkable _ _ _ _ (sym c.node_at.ensures ∙ c.in-Name.is) c.bears-named.ensures)

pub member_at-returns-in-Exists : goal.member_at-returns-in-Exists
member_at-returns-in-Exists t c =
    noted-walked _ _ _ _ c.requires.walkable _ _ c.requires.element_bound.0 c.requires.element_bound.1 _ _ c.some_link-linked.ensures.remembered _ _ c.note-in-Exists.ensures (in-exists _ _ _ _ c.requires.walkable _ _ _ _ _ (sym c.node_at.ensures ∙ c.in-Exists.is) c.some_link-linked.ensures.answered)

pub member_at-returns-then-not-first : goal.member_at-returns-then-not-first
member_at-returns-then-not-first t c =
    noted-walked _ _ _ _ c.requires.walkable _ _ c.requires.element_bound.0 c.requires.element_bound.1 _ _ c.member_at-first.ensures.remembered _ _ c.note-then-not-first.ensures (in-first _ _ _ _ c.requires.walkable _ _ _ _ _ (sym c.node_at.ensures ∙ c.in-And.is) c.member_at-first.ensures.answered (c.if-not-first.true))

pub member_at-returns-else-not-first : goal.member_at-returns-else-not-first
member_at-returns-else-not-first t c =
    noted-walked _ _ _ _ c.requires.walkable _ _ c.requires.element_bound.0 c.requires.element_bound.1 _ _ c.member_at-second.ensures.remembered _ _ c.note-in-And.ensures (in_both _ _ _ _ c.requires.walkable _ _ _ _ _ _ (sym c.node_at.ensures ∙ c.in-And.is) c.member_at-first.ensures.answered (c.if-not-first.false) c.member_at-second.ensures.answered)

pub member_at-returns-in-Variable : goal.member_at-returns-in-Variable
member_at-returns-in-Variable t c =
    noted-walked _ _ _ _ c.requires.walkable _ _ c.requires.element_bound.0 c.requires.element_bound.1 _ _ c.in_all-chosen.ensures.remembered _ _ c.note-in-Variable.ensures (in-var _ _ _ _ c.requires.walkable _ _ _ _ (sym c.node_at.ensures ∙ c.in-Variable.is) c.in_all-chosen.ensures.answered)

pub some_link-loop-p-init : goal.some_link-loop-p-init
some_link-loop-p-init t c =
    (unmet-none _ _ _ _ (c.requires.stretches.low _), c.requires.remembers)

pub some_link-loop-p-preserved-then-rows-at : goal.some_link-loop-p-preserved-then-rows-at
some_link-loop-p-preserved-then-rows-at t c =
    (unmet-more _ _ _ _ _ c.loop-p.invariant.0 (λ w. c.if-rows-at.true w.link.from), c.loop-p.invariant.1)

pub some_link-loop-p-preserved-then-rows-at-ne1 : goal.some_link-loop-p-preserved-then-rows-at-ne1
some_link-loop-p-preserved-then-rows-at-ne1 t c =
    (unmet-more _ _ _ _ _ c.loop-p.invariant.0 (λ w. c.if-rows-at-ne1.true w.link.kind), c.loop-p.invariant.1)

pub some_link-loop-p-preserved-then-rows-at-2 : goal.some_link-loop-p-preserved-then-rows-at-2
some_link-loop-p-preserved-then-rows-at-2 t c =
    (unmet-more _ _ _ _ _ c.loop-p.invariant.0 (λ w. c.if-rows-at-2.true w.link.role), c.loop-p.invariant.1)

pub some_link-returns-then-member_at : goal.some_link-returns-then-member_at
some_link-returns-then-member_at t c =
    record { answered = leads-met _ _ c.args.assignment.now _ _ _ c.args.inner c.requires.walkable.low c.loop-p.p (record { link = record { known = omega arith; kind = c.if-rows-at-ne1.false; from = c.if-rows-at.false; role = c.if-rows-at-2.false; to = refl }; member = c.member_at.ensures.answered.yes c.if-member_at.true }); remembered = c.member_at.ensures.remembered }

pub some_link-loop-p-preserved : goal.some_link-loop-p-preserved
some_link-loop-p-preserved t c =
    (unmet-more _ _ _ _ _ c.loop-p.invariant.0 (λ w. c.member_at.ensures.answered.no c.if-member_at.false w.member), c.member_at.ensures.remembered)

pub some_link-returns : goal.some_link-returns
some_link-returns t c =
    record { answered = leads-none _ _ _ _ _ _ _ _ c.requires.stretches _ c.loop-p.invariant.0 (omega arith); remembered = c.loop-p.invariant.1 }
