use native.Mathlib.Omega.{arith}
use Rattle.incremental.proofs.ChainLaws.{chain-none, chain_more}
use Rattle.incremental.specs.Inner.Including.{ChainTo}
use Rattle.subsumption.specs.Tables.{pairs_of}
use mathlib.Core.Path.{subst, sym}
use Rattle.incremental.proofs.including.note_chain.Goals as goal

pub loop-m-init : goal.loop-m-init
loop-m-init c =
    subst (λ z. ChainTo c.args.inclusions.now z (pairs_of c.args.inclusions.now)) (sym c.requires.chain_value)
    (chain-none _ c.requires.pairs.few)

pub loop-m-preserved : goal.loop-m-preserved
loop-m-preserved c = chain_more _ _ _ c.requires.pairs (omega arith) (omega arith) c.loop-m.invariant
