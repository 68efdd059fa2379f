-- The accepted texts are exactly those of the grammar within the limits.
use Prim.Native.Nat.{ℕ}
use mathlib.Core.Path.{◌≡◌}
use mathlib.Core.List.{List}
use mathlib.Core.Logic.{◌↔◌}
use lib.ListN.{length}
use Rattle.owl.specs.Tokens.{tokens}
use Rattle.owl.specs.Judgement.{State, go, start, judge}
use Rattle.owl.specs.Grammar.{Axiom, Says}
use Rattle.owl.proofs.WrittenLaws.{says-judged}
use Rattle.owl.proofs.ParseLaws.{run-accepted}

pub judged-says : (text : List ℕ) (s : State) → judge text ≡ go s → (axioms : List Axiom) × Says text axioms
unfolding judge start
judged-says text s h =
    let a = run-accepted (length text) (tokens text) s h in
    (a.axioms, record { said = a.text; within = a.within; few = a.few })

pub texts-exactly : (text : List ℕ) → ((s : State) × (judge text ≡ go s)) ↔ ((axioms : List Axiom) × Says text axioms)
texts-exactly text = (λ h. judged-says text h.0 h.1, λ a. let (s, h, c) = says-judged text a.0 a.1 in (s, h))
