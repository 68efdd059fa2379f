-- The checks of tables, pairs, assignments and buffers (01, "Refusal table"), in their order.
use Rattle.std.specs.Prelude.{ℕ, zero, suc, ◌+◌, ◌*◌, ◌/◌, ◌%◌, ◌^◌, List, Bool, true, false, not, eqb, ltb, length, get_or}
use Rattle.subsumption.specs.declared.refusal.Refusal.TheVariants.{Limit, Malformed, ForwardId, NoConcept, VariableInInclusion, VariablesOnBothSides, TooManyAtoms, BufferTooShort, BadAssignment, BadRole}
use Rattle.subsumption.specs.Tables.{Tables, or, both, Node, top_at, name_at, exists_at, and_at, var_at, node, count_of, pairs_of, left_of, right_of, tree, has_variable}
use Rattle.subsumption.specs.Atoms.{atoms}
use Rattle.subsumption.specs.Refusal.{or_else, refuse_if, first_at, Outcome}

-- Check 1: over a count limit, or ragged.
unfoldable pub unfit : ℕ → ℕ → List ℕ → Bool
unfit width limit numbers = or (not (eqb (length numbers % width) 0)) (ltb limit (length numbers / width))

unfoldable pub limit_fault : Tables → Outcome
limit_fault t =
    or_else (refuse_if (unfit 3 192 t.concepts) (Limit 0))
    (or_else (refuse_if (unfit 2 96 t.inclusions) (Limit 1))
    (or_else (refuse_if (unfit 2 32 t.questions) (Limit 2))
    (or_else (refuse_if (ltb 8 t.variables) (Limit 3))
    (refuse_if (unfit 2 32 t.roles) (Limit 4)))))

-- Check 2: unknown kind, number out of range, unused field not 0. Inner ids are left to check 3.
unfoldable pub malformed_row : ℕ → ℕ → ℕ → ℕ → Bool
malformed_row variables zero a b = or (not (eqb a 0)) (not (eqb b 0))
malformed_row variables (suc zero) a b = or (ltb 999 a) (not (eqb b 0))
malformed_row variables (suc (suc zero)) a b = ltb 99 a
malformed_row variables (suc (suc (suc zero))) a b = false
malformed_row variables (suc (suc (suc (suc zero)))) a b = or (not (ltb a variables)) (not (eqb b 0))
malformed_row variables (suc (suc (suc (suc (suc kind))))) a b = true

unfoldable pub malformed : List ℕ → ℕ → ℕ → Bool
malformed concepts variables i =
    malformed_row variables (get_or concepts (i * 3) 0) (get_or concepts (i * 3 + 1) 0) (get_or concepts (i * 3 + 2) 0)

unfoldable pub malformed_fault : List ℕ → ℕ → Outcome
malformed_fault concepts variables = first_at Malformed (malformed concepts variables) 0 (count_of concepts)

-- Check 3: inner id not smaller.
unfoldable pub forward : ℕ → Node → Bool
forward i top_at = false
forward i (name_at n) = false
forward i (exists_at r j) = not (ltb j i)
forward i (and_at j k) = or (not (ltb j i)) (not (ltb k i))
forward i (var_at k) = false

unfoldable pub forward_fault : List ℕ → Outcome
forward_fault concepts = first_at ForwardId (λ i. forward i (node concepts i)) 0 (count_of concepts)

-- Check 4: a pair's id is no entry; inclusions and then questions are counted through.
unfoldable pub no_concept : ℕ → ℕ → ℕ → Bool
no_concept count left right = or (not (ltb left count)) (not (ltb right count))

unfoldable pub pairs_fault : ℕ → ℕ → List ℕ → Outcome
pairs_fault before count pairs =
    first_at (λ m. NoConcept (before + m)) (λ m. no_concept count (left_of pairs m) (right_of pairs m)) 0 (pairs_of pairs)

-- A pair given alone.
unfoldable pub alone_fault : List ℕ → ℕ → ℕ → Outcome
alone_fault concepts left right = refuse_if (no_concept (count_of concepts) left right) (NoConcept 0)

-- Check 5: a variable in an inclusion.
unfoldable pub inclusion_fault : List ℕ → List ℕ → Outcome
inclusion_fault concepts inclusions =
    first_at VariableInInclusion
    (λ m. or (has_variable (tree concepts (left_of inclusions m))) (has_variable (tree concepts (right_of inclusions m))))
    0 (pairs_of inclusions)

-- Check 6: variables on both sides of a question.
unfoldable pub sides_fault : List ℕ → List ℕ → Outcome
sides_fault concepts questions =
    first_at VariablesOnBothSides
    (λ m. both (has_variable (tree concepts (left_of questions m))) (has_variable (tree concepts (right_of questions m))))
    0 (pairs_of questions)

-- Check 16, between 6 and 7: a role over 99.
unfoldable pub roles_fault : List ℕ → Outcome
roles_fault roles = first_at BadRole (λ m. or (ltb 99 (left_of roles m)) (ltb 99 (right_of roles m))) 0 (pairs_of roles)

-- Check 7: over 64 atoms.
unfoldable pub atoms_fault : Tables → Outcome
atoms_fault t = refuse_if (ltb 64 (length (atoms t))) TooManyAtoms

-- Checks 1 to 3, and what follows check 4.
unfoldable pub concept_fault : Tables → Outcome
concept_fault t = or_else (limit_fault t) (or_else (malformed_fault t.concepts t.variables) (forward_fault t.concepts))

unfoldable pub id_fault : Tables → Outcome
id_fault t =
    or_else (pairs_fault 0 (count_of t.concepts) t.inclusions)
    (pairs_fault (pairs_of t.inclusions) (count_of t.concepts) t.questions)

unfoldable pub use_fault : Tables → Outcome
use_fault t =
    or_else (inclusion_fault t.concepts t.inclusions)
    (or_else (sides_fault t.concepts t.questions) (or_else (roles_fault t.roles) (atoms_fault t)))

-- The checks 1 to 6, 16 and 7 of the tables.
unfoldable pub table_fault : Tables → Outcome
table_fault t = or_else (concept_fault t) (or_else (id_fault t) (use_fault t))

-- The same with a pair given alone, which check 4 judges at place 0.
unfoldable pub pair_fault : Tables → ℕ → ℕ → Outcome
pair_fault t left right = or_else (concept_fault t) (or_else (alone_fault t.concepts left right) (or_else (id_fault t) (use_fault t)))

-- Check 9: a wrong count of numbers, tested first; or a chosen bit past the atoms.
unfoldable pub assignment_fault_at : ℕ → ℕ → List ℕ → Outcome
assignment_fault_at atomCount variables assignment =
    or_else (refuse_if (not (eqb (length assignment) variables)) (BadAssignment variables))
    (first_at BadAssignment (λ k. not (ltb (get_or assignment k 0) (2 ^ atomCount))) 0 variables)

unfoldable pub assignment_fault : Tables → List ℕ → Outcome
assignment_fault t assignment = assignment_fault_at (length (atoms t)) t.variables assignment

-- Check 8: an output buffer of that size is too short.
unfoldable pub buffer_fault : ℕ → ℕ → Outcome
buffer_fault wanted size = refuse_if (ltb size wanted) (BufferTooShort wanted)
