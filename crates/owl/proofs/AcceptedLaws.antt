-- The tables of an accepted text pass every check but the last, that there are at most 64 parts.
use Prim.Native.Nat.{ℕ, zero, suc, ◌+◌, ◌*◌, ◌%◌, ◌/◌, ◌<◌, ◌≤◌}
use mathlib.Core.Path.{◌≡◌, refl, sym, ap, ◌∙◌}
use mathlib.Core.List.{List, [], ◌∷◌}
use mathlib.Core.Bool.{Bool, false, not}
use native.Mathlib.Omega.{arith}
use lib.ListN.{length, get_or}
use borrow.Author.Tests.{lt-ltb, le-ltb, eq-eqb}
use Rattle.subsumption.specs.declared.refusal.Refusal.{Refusal}
use Rattle.subsumption.specs.Tables.{tables, or, Node, top_at, name_at, exists_at, and_at, var_at, node, count_of, pairs_of, left_of, right_of, tree, variables_of, has_variable}
use Rattle.subsumption.specs.Inner.Tables.{Rising}
use Rattle.subsumption.specs.Refusal.{or_else, refuse_if, Outcome, Done}
use Rattle.subsumption.specs.Check.{unfit, limit_fault, malformed_fault, forward, forward_fault, no_concept, pairs_fault, concept_fault, id_fault, inclusion_fault, sides_fault, roles_fault}
use Rattle.subsumption.proofs.VariableLaws.{variable-both}
use Rattle.subsumption.proofs.Refusals.{done-if, both-done, no-fault}
use Rattle.owl.specs.Judgement.{State, go, judge}
use Rattle.owl.specs.Grammar.{Sort, Syntax, thing, named, some, all, two, more, meaning, entries, Axiom, axioms_entries, Means}
use Rattle.owl.proofs.EntryLaws.{Under}
use Rattle.owl.proofs.WrittenLaws.{Catalogued, judged-catalogued}
use Rattle.owl.proofs.GrammarLaws.{judged-says}

both-pass : (a b : Outcome) → a ≡ Done → b ≡ Done → or_else a b ≡ Done
both-pass a b p q = sym (both-done Done a Done b (sym p) refl (sym q) refl)

-- ---- check 1
fit : (width limit : ℕ) (numbers : List ℕ) → length numbers % width ≡ 0 → length numbers / width ≤ limit → unfit width limit numbers ≡ false
unfolding unfit or
fit width limit numbers e l = rw (eq-eqb (length numbers % width) 0 e) (le-ltb limit (length numbers / width) l)

entries-some : {s : Sort} (c : Syntax s) → 0 < entries c
unfolding entries
entries-some thing = omega arith
entries-some (named n) = omega arith
entries-some (some r c) = omega arith
entries-some (all m) = entries-some m
entries-some (two c d) = omega arith
entries-some (more m c) = omega arith

axioms-few : (axioms : List Axiom) → length axioms * 2 ≤ axioms_entries axioms
unfolding axioms_entries
axioms-few [] = omega arith
axioms-few (a ∷ axioms) = omega (arith, axioms-few axioms, entries-some a.left, entries-some a.right)

-- ---- check 3
not-forward : (i : ℕ) (m : Node) → Rising i m → forward i m ≡ false
unfolding forward or
not-forward i top_at up = refl
not-forward i (name_at n) up = refl
not-forward i (exists_at r j) up = ap not (lt-ltb j i up)
not-forward i (and_at j k) up = rw (lt-ltb j i up.0, lt-ltb k i up.1) refl
not-forward i (var_at k) up = refl

-- ---- check 4
under_at : (n : ℕ) (ids : List ℕ) (i : ℕ) → Under n ids → i < length ids → get_or ids i 0 < n
under_at n [] i u l = absurd (omega arith)
under_at n (j ∷ ids) zero u l = u.0
under_at n (j ∷ ids) (suc i) u l = under_at n ids i u.1 (omega arith)

-- ---- check 5
ground : {s : Sort} (c : Syntax s) → has_variable (meaning c) ≡ false
unfolding meaning has_variable variables_of or
ground thing = refl
ground (named n) = refl
ground (some r c) = ground c
ground (all m) = ground m
ground (two c d) = variable-both (meaning c) (meaning d) ∙ rw (ground c) (ground d)
ground (more m c) = variable-both (meaning m) (meaning c) ∙ rw (ground m) (ground c)

means-ground :
    (rows pairs : List ℕ) (axioms : List Axiom) → Means rows pairs axioms → (m : ℕ) → m < pairs_of pairs
    → or (has_variable (tree rows (left_of pairs m))) (has_variable (tree rows (right_of pairs m))) ≡ false
unfolding or
means-ground rows [] [] h m l = absurd (omega arith)
means-ground rows [] (a ∷ axioms) h m l = absurd h
means-ground rows (i ∷ []) axioms h m l = absurd h
means-ground rows (i ∷ j ∷ pairs) [] h m l = absurd h
means-ground rows (i ∷ j ∷ pairs) (a ∷ axioms) h zero l =
    let p : has_variable (tree rows i) ≡ false = ap has_variable h.0 ∙ ground a.left in
    let q : has_variable (tree rows j) ≡ false = ap has_variable h.1 ∙ ground a.right in
    rw p q
means-ground rows (i ∷ j ∷ pairs) (a ∷ axioms) h (suc m) l =
    let p : suc m * 2 ≡ suc (suc (m * 2)) = omega arith in
    let q : suc m * 2 + 1 ≡ suc (suc (m * 2 + 1)) = omega arith in
    rw (q, p) (means-ground rows pairs axioms h.2 m (omega arith))

-- ---- all of them
module _ (axioms : List Axiom) (s : State) (few : axioms_entries axioms ≤ 192) (c : Catalogued axioms s) where
  count : count_of s.rows ≡ axioms_entries axioms
  count = omega (arith, c.tabled.size)

  concepts-pass : concept_fault (tables s.rows s.inclusions [] [] 0) ≡ Done
  unfolding concept_fault limit_fault malformed_fault forward_fault
  concepts-pass =
      both-pass _ _ limits
      (both-pass _ _ (sym (no-fault _ _ 0 (count_of s.rows) (λ i l. c.tabled.right i (omega (arith, count)))))
      (sym (no-fault _ _ 0 (count_of s.rows) (λ i l. not-forward i (node s.rows i) (c.tabled.rising i)))))
    where
      passes : (b : Bool) (r : Refusal) → b ≡ false → refuse_if b r ≡ Done
      passes b r e = sym (done-if b r e)

      limits : limit_fault (tables s.rows s.inclusions [] [] 0) ≡ Done
      limits =
          both-pass _ _ (passes _ _ (fit 3 192 s.rows (omega (arith, c.tabled.size)) (omega (arith, count))))
          (both-pass _ _ (passes _ _ (fit 2 96 s.inclusions (omega (arith, c.size)) (omega (arith, c.size, axioms-few axioms))))
          (both-pass _ _ (passes _ _ (fit 2 32 [] refl (omega arith))) (both-pass _ _ (passes _ _ refl) (passes _ _ (fit 2 32 [] refl (omega arith))))))

  ids-pass : id_fault (tables s.rows s.inclusions [] [] 0) ≡ Done
  unfolding id_fault pairs_fault no_concept or
  ids-pass =
      both-pass _ _
      (sym (no-fault _ _ 0 (pairs_of s.inclusions) (λ m l. rw (lt-ltb (left_of s.inclusions m) _ (left m l), lt-ltb (right_of s.inclusions m) _ (right m l)) refl)))
      (sym (no-fault _ _ 0 0 (λ m l. absurd (omega arith))))
    where
      left : (m : ℕ) → m < 0 + pairs_of s.inclusions → left_of s.inclusions m < count_of s.rows
      left m l = omega (arith, count, under_at _ s.inclusions (m * 2) c.known (omega arith))

      right : (m : ℕ) → m < 0 + pairs_of s.inclusions → right_of s.inclusions m < count_of s.rows
      right m l = omega (arith, count, under_at _ s.inclusions (m * 2 + 1) c.known (omega arith))

  inclusions-pass : inclusion_fault s.rows s.inclusions ≡ Done
  unfolding inclusion_fault
  inclusions-pass = sym (no-fault _ _ 0 (pairs_of s.inclusions) (λ m l. means-ground s.rows s.inclusions axioms c.means m (omega arith)))

sides-pass : (rows : List ℕ) → sides_fault rows [] ≡ Done
unfolding sides_fault
sides-pass rows = sym (no-fault _ _ 0 0 (λ m l. absurd (omega arith)))

roles-pass : roles_fault [] ≡ Done
unfolding roles_fault
roles-pass = sym (no-fault _ _ 0 0 (λ m l. absurd (omega arith)))

pub catalogue-accepted :
    (text : List ℕ) (s : State) → judge text ≡ go s
    → (concept_fault (tables s.rows s.inclusions [] [] 0) ≡ Done) × (id_fault (tables s.rows s.inclusions [] [] 0) ≡ Done)
    × (inclusion_fault s.rows s.inclusions ≡ Done) × (sides_fault s.rows [] ≡ Done) × (roles_fault [] ≡ Done)
catalogue-accepted text s h =
    let (axioms, says) = judged-says text s h in
    let c = judged-catalogued text s axioms h says in
    (concepts-pass axioms s says.few c, ids-pass axioms s says.few c, inclusions-pass axioms s says.few c, sides-pass s.rows, roles-pass)
