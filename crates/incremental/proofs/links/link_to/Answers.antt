use Rattle.std.proofs.Common.{rules, arith, sym, ◌∙◌, refl}
use Rattle.incremental.proofs.LinkLaws.{link-other, link-none, link-some}
use mathlib.Core.Logic.{inr}
use Rattle.incremental.proofs.links.link_to.Goals as goal

pub returns-in_default : goal.returns-in_default
returns-in_default c = link-other _ _ _ _ c.requires.square (λ s y e. search rules)

pub returns-then-holds : goal.returns-then-holds
returns-then-holds c = link-none _ _ _ _ _ c.requires.inner c.requires.existentials _ c.requires.square _ c.requires.f_bound _ _ (sym c.node_at.ensures ∙ c.in-Exists.is) _ _ _ c.of_role-kinds.ensures _ c.holds.ensures c.if-holds.true

pub take-requires : goal.take-requires
take-requires c = record { square = c.requires.square; base = (omega arith, inr refl); x_bound = omega (arith, c.requires.inner.few, c.requires.f_bound) }

pub returns : goal.returns
returns c = link-some _ _ _ _ _ c.requires.inner c.requires.existentials _ c.requires.square _ c.requires.f_bound _ _ (sym c.node_at.ensures ∙ c.in-Exists.is) _ _ _ c.of_role-kinds.ensures _ _ _ _ _ c.over-found.ensures c.take.ensures
