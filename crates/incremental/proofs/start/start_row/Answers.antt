use Rattle.std.proofs.Common.{rules, arith, sym, ◌∙◌, refl}
use Rattle.incremental.proofs.StartLaws.{begun-name, begun-other, begun-top}
use mathlib.Core.Logic.{inl, inr}
use Rattle.incremental.proofs.start.start_row.Goals as goal

pub mark-requires : goal.mark-requires
mark-requires c = record { square = c.requires.square; base = (omega arith, inl refl); x_bound = (omega (arith, c.requires.nameable.few), omega (arith, c.requires.nameable.few)) }

pub take-requires : goal.take-requires
take-requires c = record { square = c.mark.ensures.square; base = (omega arith, inr refl); x_bound = omega (arith, c.requires.nameable.few) }

pub take-requires-in-Name : goal.take-requires-in-Name
take-requires-in-Name c = record { square = c.mark.ensures.square; base = (omega arith, inl refl); x_bound = omega (arith, c.requires.nameable.few) }

pub returns-in-Top : goal.returns-in-Top
returns-in-Top c = begun-top _ c.requires.nameable _ c.requires.i_bound _ _ _ c.mark.ensures _ _ (sym c.node_at.ensures ∙ c.in-Top.is) c.take.ensures

pub returns-in-Name : goal.returns-in-Name
returns-in-Name c = begun-name _ c.requires.nameable _ c.requires.i_bound _ _ _ c.mark.ensures _ _ _ _ c.requires.names_to (sym c.node_at.ensures ∙ c.in-Name.is) c.take-in-Name.ensures

pub returns-in-Exists : goal.returns-in-Exists
returns-in-Exists c = begun-other _ c.requires.nameable _ c.requires.i_bound _ _ _ c.mark.ensures (sym c.node_at.ensures) (λ n e. search rules) (λ e. search rules)
