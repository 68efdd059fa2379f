-- The grammar (02, A.8) as data, and what a text that it gives means: the laws of proofs/ say that the judgement accepts exactly
-- these texts.
use Rattle.std.specs.Prelude.{ℕ, suc, ◌+◌, ◌-◌, ◌≤◌, ◌<◌, ◌≡◌, List, [], ◌∷◌, ◌++◌}
use Rattle.subsumption.specs.Tables.{Concept, top, name, exists, and, tree}
use Rattle.numerals.specs.Digits.{digits}
use Rattle.owl.specs.Tokens.{Token, opening, closing, word, Placed, tokens}
use Rattle.owl.specs.Words.{axiom_text, top_text, and_text, some_text, name_key, role_key}

pub data Sort : Type 0 where
  class : Sort
  members : Sort

-- Classes, and the members of an intersection: two or more.
pub data Syntax : Sort → Type 0 where
  thing : Syntax class
  named : ℕ → Syntax class
  some : ℕ → Syntax class → Syntax class
  all : Syntax members → Syntax class
  two : Syntax class → Syntax class → Syntax members
  more : Syntax members → Syntax class → Syntax members

unfoldable pub written : {s : Sort} → Syntax s → List Token
written thing = word top_text ∷ []
written (named n) = word (name_key ++ digits n) ∷ []
written (some r c) = word some_text ∷ opening ∷ word (role_key ++ digits r) ∷ (written c ++ (closing ∷ []))
written (all m) = word and_text ∷ opening ∷ (written m ++ (closing ∷ []))
written (two c d) = written c ++ written d
written (more m c) = written m ++ written c

-- What it means: an intersection is paired from the left.
unfoldable pub meaning : {s : Sort} → Syntax s → Concept
meaning thing = top
meaning (named n) = name n
meaning (some r c) = exists r (meaning c)
meaning (all m) = meaning m
meaning (two c d) = and (meaning c) (meaning d)
meaning (more m c) = and (meaning m) (meaning c)

-- No class in it is begun over so many deep; it is 1 deep itself.
abbrev pub NoDeeper : {s : Sort} → ℕ → Syntax s → Type 0
NoDeeper most thing = 0 < most
NoDeeper most (named n) = 0 < most
NoDeeper most (some r c) = (0 < most) × NoDeeper (most - 1) c
NoDeeper most (all m) = (0 < most) × NoDeeper (most - 1) m
NoDeeper most (two c d) = NoDeeper most c × NoDeeper most d
NoDeeper most (more m c) = NoDeeper most m × NoDeeper most c

-- How many entries it becomes.
unfoldable pub entries : {s : Sort} → Syntax s → ℕ
entries thing = 1
entries (named n) = 1
entries (some r c) = suc (entries c)
entries (all m) = entries m
entries (two c d) = suc (entries c + entries d)
entries (more m c) = suc (entries m + entries c)

-- Names are at most 999, roles at most 99.
abbrev pub InRange : {s : Sort} → Syntax s → Type 0
InRange thing = Unit {0}
InRange (named n) = n ≤ 999
InRange (some r c) = (r ≤ 99) × InRange c
InRange (all m) = InRange m
InRange (two c d) = InRange c × InRange d
InRange (more m c) = InRange m × InRange c

pub record Axiom : Type 0 where
  pub left : Syntax class
  pub right : Syntax class

unfoldable pub axiom_written : Axiom → List Token
axiom_written a = word axiom_text ∷ opening ∷ (written a.left ++ (written a.right ++ (closing ∷ [])))

unfoldable pub axioms_written : List Axiom → List Token
axioms_written [] = []
axioms_written (a ∷ axioms) = axiom_written a ++ axioms_written axioms

unfoldable pub axioms_entries : List Axiom → ℕ
axioms_entries [] = 0
axioms_entries (a ∷ axioms) = entries a.left + entries a.right + axioms_entries axioms

pub record WithinLimits (a : Axiom) : Type 0 where
  pub left-range : InRange a.left
  pub right-range : InRange a.right
  pub left-depth : NoDeeper 32 a.left
  pub right-depth : NoDeeper 32 a.right

abbrev pub AllWithin : List Axiom → Type 0
AllWithin [] = Unit {0}
AllWithin (a ∷ axioms) = WithinLimits a × AllWithin axioms

unfoldable pub unplaced : List Placed → List Token
unplaced [] = []
unplaced (t ∷ later) = t.token ∷ unplaced later

-- The text is a run of these axioms, within the limits.
pub record Says (text : List ℕ) (axioms : List Axiom) : Type 0 where
  pub said : unplaced (tokens text) ≡ axioms_written axioms
  pub within : AllWithin axioms
  pub few : axioms_entries axioms ≤ 192

-- The tables mean what the axioms say: pair by pair, the concepts of the ids are the meanings.
abbrev pub Means : List ℕ → List ℕ → List Axiom → Type 0
Means rows [] [] = Unit {0}
Means rows (l ∷ []) axioms = ⊥
Means rows [] (a ∷ axioms) = ⊥
Means rows (l ∷ r ∷ pairs) [] = ⊥
Means rows (l ∷ r ∷ pairs) (a ∷ axioms) = (tree rows l ≡ meaning a.left) × (tree rows r ≡ meaning a.right) × Means rows pairs axioms
