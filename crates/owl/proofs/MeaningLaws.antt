-- The tables of an accepted text mean what it says.
use Prim.Native.Nat.{ℕ}
use mathlib.Core.Path.{◌≡◌}
use mathlib.Core.List.{List}
use Rattle.owl.specs.Judgement.{State, go, judge}
use Rattle.owl.specs.Grammar.{Axiom, Says, Means}
use Rattle.owl.proofs.WrittenLaws.{judged-catalogued}

pub texts-mean : (text : List ℕ) (s : State) (axioms : List Axiom) → judge text ≡ go s → Says text axioms → Means s.rows s.inclusions axioms
texts-mean text s axioms h says = (judged-catalogued text s axioms h says).means
