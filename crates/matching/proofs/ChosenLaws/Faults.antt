-- The checks of listing a variable's chosen ids, put together from the tables' own.
use Rattle.std.specs.Prelude.{Err, Ok, Result}
use Prim.Native.Nat.{ℕ, zero, suc, ◌<◌, ◌≤◌, ◌^◌}
use mathlib.Core.Path.{◌≡◌, refl, sym, ap, ◌∙◌, subst}
use mathlib.Core.List.{List}
use mathlib.Core.Bool.{Bool, true, false, not}
use native.Mathlib.Omega.{arith}
use lib.Dec.{ltb}
use lib.ListN.{length, get_or, take}
use lib.Seq.{take-append_seam, take-length}
use lib.Count.{ones}
use borrow.Author.Tests.{eqb-true, eq-eqb, ne_eqb, lt-ltb, le-ltb, ltb-true, not-false}
use Rattle.subsumption.specs.declared.refusal.Refusal.{Refusal}
use Rattle.subsumption.specs.declared.refusal.Refusal.TheVariants.{Malformed, BufferTooShort}
use Rattle.subsumption.specs.declared.refusal.Code.{Code}
use Rattle.subsumption.specs.Tables.{Tables}
use Rattle.subsumption.specs.Atoms.{atoms, pick, chosen}
use Rattle.subsumption.specs.Refusal.{code_of, reply_done, reply_refused, reply_with, reply_of, or_else, refuse_if, first_at, value_reply, Outcome, Done}
use Rattle.subsumption.specs.Check.{limit_fault, malformed_fault, forward_fault, pairs_fault, inclusion_fault, sides_fault, roles_fault, atoms_fault, concept_fault, id_fault, use_fault, table_fault, assignment_fault_at, assignment_fault, buffer_fault}
use Rattle.subsumption.specs.Inner.Listing.{Accepted}
use Rattle.subsumption.specs.Inner.Atoms.{in_front}
use Rattle.subsumption.proofs.Refusals.{stops, goes_on, refused-lt, done-le, passed_first, passed-second, passed-if, passed-at}
use Rattle.subsumption.proofs.Replies.{same-value, same-refusal, not_done}
use Rattle.matching.specs.declared.chosen.Told.{Told}
use Rattle.matching.specs.Chosen.{variable_fault, choosing_fault, chosen_in, handed_back, Chooses}
use Rattle.matching.proofs.ChosenLaws.Picked.{pick-length}
use Rattle.matching.specs.Inner.Chosen.{known_fault, earlier_of, told_of}

-- ---- only check 1 refuses with number 1
abbrev Refuses : (Refusal → Type 0) → Outcome → Type 0
Refuses P o = (r : Refusal) → o ≡ Err r → P r

module _ (P : Refusal → Type 0) where
  refuses-or : (a b : Outcome) → Refuses P a → Refuses P b → Refuses P (or_else a b)
  unfolding or_else
  refuses-or (Ok tt) b p q = q
  refuses-or (Err r) b p q = p

  refuses-if : (b : Bool) (r : Refusal) → P r → Refuses P (refuse_if b r)
  unfolding refuse_if
  refuses-if true r p q e = subst P (cc e) p
  refuses-if false r p q e = absurd (let z : ◌≡◌ {A = ℕ} 0 1 = cc e in omega arith)

  refuses-at : (refusal : ℕ → Refusal) (faulty : ℕ → Bool) (from count : ℕ) → ((i : ℕ) → P (refusal i)) → Refuses P (first_at refusal faulty from count)
  unfolding first_at
  refuses-at refusal faulty from zero p = λ r e. absurd (let z : ◌≡◌ {A = ℕ} 0 1 = cc e in omega arith)
  refuses-at refusal faulty from (suc count) p = refuses-or (refuse_if (faulty from) (refusal from)) (first_at refusal faulty (suc from) count) (refuses-if (faulty from) (refusal from) (p from)) (refuses-at refusal faulty (suc from) count p)

abbrev IsFirst : Refusal → Type 0
IsFirst r = (code_of r).number ≡ 1

abbrev IsLater : Refusal → Type 0
IsLater r = (code_of r).number ≡ 1 → ⊥

limit-first : (t : Tables) → Refuses IsFirst (limit_fault t)
unfolding limit_fault
limit-first t =
    refuses-or IsFirst _ _ (refuses-if IsFirst _ _ refl)
    (refuses-or IsFirst _ _ (refuses-if IsFirst _ _ refl)
    (refuses-or IsFirst _ _ (refuses-if IsFirst _ _ refl) (refuses-or IsFirst _ _ (refuses-if IsFirst _ _ refl) (refuses-if IsFirst _ _ refl))))

concepts-later : (t : Tables) → Refuses IsLater (or_else (malformed_fault t.concepts t.variables) (forward_fault t.concepts))
unfolding malformed_fault forward_fault
concepts-later t = refuses-or IsLater _ _ (refuses-at IsLater _ _ _ _ (λ i e. omega arith)) (refuses-at IsLater _ _ _ _ (λ i e. omega arith))

pairs-later : (before count : ℕ) (pairs : List ℕ) → Refuses IsLater (pairs_fault before count pairs)
unfolding pairs_fault
pairs-later before count pairs = refuses-at IsLater _ _ _ _ (λ i e. omega arith)

use-later : (t : Tables) → Refuses IsLater (use_fault t)
unfolding use_fault inclusion_fault sides_fault roles_fault atoms_fault
use-later t =
    refuses-or IsLater _ _ (refuses-at IsLater _ _ _ _ (λ i e. omega arith))
    (refuses-or IsLater _ _ (refuses-at IsLater _ _ _ _ (λ i e. omega arith))
    (refuses-or IsLater _ _ (refuses-at IsLater _ _ _ _ (λ i e. omega arith)) (refuses-if IsLater _ _ (λ e. omega arith))))

rest-later : (t : Tables) → Refuses IsLater (or_else (or_else (malformed_fault t.concepts t.variables) (forward_fault t.concepts)) (or_else (id_fault t) (use_fault t)))
unfolding id_fault
rest-later t =
    refuses-or IsLater _ _ (concepts-later t)
    (refuses-or IsLater _ _ (refuses-or IsLater _ _ (pairs-later _ _ _) (pairs-later _ _ _)) (use-later t))

or_assoc : (a b c : Outcome) → or_else (or_else a b) c ≡ or_else a (or_else b c)
unfolding or_else
or_assoc (Ok tt) b c = refl
or_assoc (Err r) b c = refl

table-split : (t : Tables) → table_fault t ≡ or_else (limit_fault t) (or_else (or_else (malformed_fault t.concepts t.variables) (forward_fault t.concepts)) (or_else (id_fault t) (use_fault t)))
unfolding table_fault concept_fault
table-split t = or_assoc _ _ _

-- ---- the whole
module _ (t : Tables) (assignment : List ℕ) (k size : ℕ) where
  -- the tables are refused
  pub choosing-refused : (r : Refusal) → table_fault t ≡ Err r → Err (earlier_of r (ltb k t.variables)) ≡ choosing_fault t assignment k size
  unfolding choosing_fault variable_fault or_else refuse_if
  choosing-refused r h = go (limit_fault t) refl
    where
      later : (limit_fault t ≡ Done) → IsLater r
      later e = rest-later t r (sym (table-split t ∙ ap (λ (o : Outcome). or_else o (or_else (or_else (malformed_fault t.concepts t.variables) (forward_fault t.concepts)) (or_else (id_fault t) (use_fault t)))) e) ∙ h)

      on : (b : Bool) → limit_fault t ≡ Done → ltb k t.variables ≡ b → Err (earlier_of r (ltb k t.variables)) ≡ choosing_fault t assignment k size
      on true e s = rw (e, s, h) refl
      on false e s = rw (e, s, ne_eqb (code_of r).number 1 (later e)) refl

      stop : (b : Bool) → limit_fault t ≡ Err r → ltb k t.variables ≡ b → Err (earlier_of r (ltb k t.variables)) ≡ choosing_fault t assignment k size
      stop true e s = rw (e, s) refl
      stop false e s = rw (e, s, eq-eqb (code_of r).number 1 (limit-first t r e)) refl

      go : (o : Outcome) → limit_fault t ≡ o → Err (earlier_of r (ltb k t.variables)) ≡ choosing_fault t assignment k size
      go (Ok tt) e = on (ltb k t.variables) e refl
      go (Err q) e =
          let s : table_fault t ≡ Err q = table-split t ∙ ap (λ (o : Outcome). or_else o (or_else (or_else (malformed_fault t.concepts t.variables) (forward_fault t.concepts)) (or_else (id_fault t) (use_fault t)))) e in
          stop (ltb k t.variables) (e ∙ sym s ∙ h) refl

  -- the tables are accepted
  pub choosing-known : table_fault t ≡ Done → known_fault (length (atoms t)) t.variables assignment k size ≡ choosing_fault t assignment k size
  unfolding choosing_fault known_fault assignment_fault or_else
  choosing-known h = rw (passed_first (limit_fault t) _ (sym (table-split t) ∙ h), h) refl

-- ---- when the tables are accepted
module _ (atomCount variables : ℕ) (assignment : List ℕ) where
  pub choices-length : assignment_fault_at atomCount variables assignment ≡ Done → length assignment ≡ variables
  unfolding assignment_fault_at
  choices-length h = eqb-true _ _ (not-false _ (passed-if _ _ (passed_first _ _ h)))

  pub choices-low : (k : ℕ) → assignment_fault_at atomCount variables assignment ≡ Done → k < variables → get_or assignment k 0 < 2 ^ atomCount
  unfolding assignment_fault_at
  choices-low k h l =
      ltb-true _ _
      (not-false _
      (passed-at _ (λ k. not (ltb (get_or assignment k 0) (2 ^ atomCount))) 0 variables (passed-second _ _ h) k (omega arith) (omega arith)))

  module _ (k size : ℕ) where
    pub known-unknown : variables ≤ k → Err (Malformed 0) ≡ known_fault atomCount variables assignment k size
    unfolding known_fault variable_fault or_else refuse_if
    known-unknown l = rw (le-ltb k variables l) refl

    variable-passes : k < variables → Done ≡ variable_fault variables k
    unfolding variable_fault refuse_if
    variable-passes l = rw (lt-ltb k variables l) refl

    pub known-choices : (o : Outcome) (r : Refusal) → k < variables → o ≡ assignment_fault_at atomCount variables assignment → o ≡ Err r → Err r ≡ known_fault atomCount variables assignment k size
    unfolding known_fault
    known-choices o r l e f = goes_on Done _ _ (Err r) (variable-passes l) refl (stops o _ _ r e f)

    pub known-short : k < variables → assignment_fault_at atomCount variables assignment ≡ Done → size < 64 → Err (BufferTooShort 64) ≡ known_fault atomCount variables assignment k size
    unfolding known_fault buffer_fault
    known-short l e h = goes_on Done _ _ _ (variable-passes l) refl (goes_on Done _ _ _ (sym e) refl (refused-lt size 64 (BufferTooShort 64) h))

    pub known-done : k < variables → assignment_fault_at atomCount variables assignment ≡ Done → 64 ≤ size → Done ≡ known_fault atomCount variables assignment k size
    unfolding known_fault buffer_fault
    known-done l e h = goes_on Done _ _ _ (variable-passes l) refl (goes_on Done _ _ _ (sym e) refl (done-le size 64 (BufferTooShort 64) h))

pub choosing-done :
    (t : Tables) (assignment : List ℕ) (k size : ℕ) → table_fault t ≡ Done → assignment_fault t assignment ≡ Done → k < t.variables → 64 ≤ size
    → Done ≡ choosing_fault t assignment k size
unfolding assignment_fault
choosing-done t assignment k size h e l s = known-done (length (atoms t)) t.variables assignment k size l e s ∙ choosing-known t assignment k size h

-- ---- the answer
module _ (ids before : List ℕ) where
  pub chosen-refused : (r : Refusal) (fault : Outcome) → Err r ≡ fault → (reply_refused r ≡ reply_with fault (length ids)) × (before ≡ chosen_in fault ids before)
  unfolding chosen_in
  chosen-refused r fault e = (ap (λ (f : Outcome). reply_with f (length ids)) e, rw (← e) refl)

  pub chosen-done :
      (n : ℕ) (after : List ℕ) (fault : Outcome) → Done ≡ fault → n ≡ length ids → after ≡ in_front ids before
      → (reply_done n ≡ reply_with fault (length ids)) × (after ≡ chosen_in fault ids before)
  unfolding chosen_in
  chosen-done n after fault e p q = (ap reply_done p ∙ ap (λ (f : Outcome). reply_with f (length ids)) e, rw (← e) q)

-- ---- which refusal comes first
pub earlier-known : (r : Refusal) (known : Bool) → known ≡ true → r ≡ earlier_of r known
earlier-known r known h = rw h refl

pub earlier-kept : (r : Refusal) (known : Bool) (code : Code) → known ≡ false → code ≡ code_of r → code.number ≡ 1 → r ≡ earlier_of r known
earlier-kept r known code h e f = rw (h, eq-eqb (code_of r).number 1 (ap (λ (z : Code). z.number) (sym e) ∙ f)) refl

pub earlier-other : (r : Refusal) (known : Bool) (code : Code) → known ≡ false → code ≡ code_of r → (code.number ≡ 1 → ⊥) → Malformed 0 ≡ earlier_of r known
earlier-other r known code h e f = rw (h, ne_eqb (code_of r).number 1 (λ z. f (ap (λ (z : Code). z.number) e ∙ z))) refl

module _ (t : Tables) (assignment before : List ℕ) (k : ℕ) where
  pub choosing-rejected :
      (r q : Refusal) → Err r ≡ table_fault t → q ≡ earlier_of r (ltb k t.variables)
      → Chooses t assignment k before before (reply_refused q)
  choosing-rejected r q e h =
      let (x, y) = chosen-refused (chosen t assignment k) before q _ (ap Err h ∙ choosing-refused t assignment k (length before) r (sym e)) in
      record { replied = x; written = y }

  pub choosing-found :
      (ids after : List ℕ) (answer : (Result ℕ Refusal)) → Accepted t ids
      → value_reply answer ≡ reply_with (known_fault (length ids) t.variables assignment k (length before)) (length (pick ids (get_or assignment k 0)))
      → after ≡ chosen_in (known_fault (length ids) t.variables assignment k (length before)) (pick ids (get_or assignment k 0)) before
      → Chooses t assignment k before after (value_reply answer)
  unfolding chosen
  choosing-found ids after answer a f g =
      let u = choosing-known t assignment k (length before) a.passed in
      record { replied = f ∙ rw (a.listed, u) refl; written = g ∙ rw (a.listed, u) refl }

-- ---- the list that is handed back
pub record Handed (fault : Outcome) (ids before after : List ℕ) (told : Told) : Type 0 where
  pub back : take told.count after ≡ handed_back fault ids before
  pub long : told.count ≡ length (take told.count after)
  pub number : told.number ≡ (reply_of fault).number
  pub place : told.place ≡ (reply_of fault).place

pub handed :
    (fault : Outcome) (ids before after : List ℕ) (answer : (Result ℕ Refusal)) (told : Told) → value_reply answer ≡ reply_with fault (length ids)
    → after ≡ chosen_in fault ids before → told ≡ told_of answer (length before) → Handed fault ids before after told
unfolding chosen_in handed_back
handed (Ok tt) ids before after (Ok m) told e f g =
    let n : told.count ≡ length ids = ap (λ (z : Told). z.count) g ∙ same-value _ _ e in
    let b : take told.count after ≡ ids = rw (n, f) (take-append_seam ids _) in
    record { back = b; long = n ∙ sym (ap length b); number = ap (λ (z : Told). z.number) g; place = ap (λ (z : Told). z.place) g }
handed (Ok tt) ids before after (Err q) told e f g = not_done q _ e
handed (Err r) ids before after (Ok m) told e f g = not_done r m (sym e)
handed (Err r) ids before after (Err q) told e f g =
    let h : told ≡ told_of (Err r) (length before) = g ∙ ap (λ (z : Refusal). told_of (Err z) (length before)) (same-refusal q r e) in
    let n : told.count ≡ length before = ap (λ (z : Told). z.count) h in
    let b : take told.count after ≡ before = rw (n, f) (take-length before) in
    record { back = b; long = n ∙ sym (ap length b); number = ap (λ (z : Told). z.number) h; place = ap (λ (z : Told). z.place) h }

-- The list is as long as the choice has ones.
pub chosen-ones :
    (t : Tables) (assignment : List ℕ) (k : ℕ) → assignment_fault t assignment ≡ Done → k < t.variables
    → length (chosen t assignment k) ≡ ones (get_or assignment k 0)
unfolding chosen assignment_fault
chosen-ones t assignment k h l = sym (pick-length (atoms t) (get_or assignment k 0) (choices-low (length (atoms t)) t.variables assignment k h l))
