-- Partial choices: what they settle, a shorter one of an open one is open, and the open ones that settle every pair are the solutions.
use Rattle.subsumption.specs.Refusal.{Done}
use Prim.Native.Nat.{ℕ, zero, suc, ◌+◌, ◌*◌, ◌/◌, ◌%◌, ◌<◌, ◌≤◌}
use mathlib.Core.Path.{◌≡◌, refl, sym, ap, ap₂, ◌∙◌, subst}
use mathlib.Core.List.{List, [], ◌∷◌}
use mathlib.Core.Bool.{Bool, true, false, false≢true}
use mathlib.Core.Logic.{⊎_elim}
use native.Mathlib.Omega.{arith}
use native.Mathlib.Nat.{mul-le-mul_right, suc-mul, mul-zero, mod-lt, div-lt_iff_lt-mul, div-add-mod'}
use lib.ListN.{length}
use borrow.Author.Tests.{eq-eqb, ne_eqb}
use Rattle.subsumption.specs.Tables.{Tables, left_of, right_of, tree, has_variable}
use Rattle.subsumption.specs.Atoms.{atoms}
use Rattle.subsumption.specs.Subsumption.{Subsumed}
use Rattle.subsumption.specs.Check.{table_fault, assignment_fault}
use Rattle.subsumption.proofs.Bools.{same_bool, eq-or-ne, last-cases}
use Rattle.subsumption.proofs.Accepted.{well_formed}
use Rattle.settings.specs.Settings.{Settings, Heeds}
use Rattle.settings.proofs.SizeLaws.{size-le}
use Rattle.matching.specs.Solving.{Solves, takes}
use Rattle.matching.proofs.SearchLaws.Monotone.{Larger, monotone, antitone, left-free}
use Rattle.matching.proofs.SearchLaws.Fronts.{accepted-bits, same_taken}
use Rattle.matching.proofs.SubstitutionLaws.Assigning.{assignment_of, assignment_of-accepted, assignment_of-bit}
use Rattle.matching.proofs.DerivationLaws.Cells.{cell_row, cell-column}
use Rattle.allowance.specs.Partial.{settled, pairs, Completed, Open}

-- ---- what is settled
pub settled-last : (b : Bool) (s : List Bool) (rest : Bool) (p : ℕ) → p ≡ length s → settled (b ∷ s) rest p ≡ b
unfolding settled
settled-last b s rest p e = rw (eq-eqb p (length s) e) refl

pub settled-other : (b : Bool) (s : List Bool) (rest : Bool) (p : ℕ) → (p ≡ length s → ⊥) → settled (b ∷ s) rest p ≡ settled s rest p
unfolding settled
settled-other b s rest p n = rw (ne_eqb p (length s) n) refl

-- past what is settled
pub settled-rest : (s : List Bool) (rest : Bool) (p : ℕ) → length s ≤ p → settled s rest p ≡ rest
unfolding settled
settled-rest [] rest p l = refl
settled-rest (b ∷ s) rest p l = settled-other b s rest p (λ e. omega arith) ∙ settled-rest s rest p (omega arith)

pub settled-known : (s : List Bool) (a b : Bool) (p : ℕ) → p < length s → settled s a p ≡ settled s b p
unfolding settled
settled-known [] a b p l = absurd (omega arith)
settled-known (x ∷ s) a b p l =
    ⊎_elim (λ (e : p ≡ length s). settled-last x s a p e ∙ sym (settled-last x s b p e))
    (λ m. settled-other x s a p (λ e. omega arith) ∙ settled-known s a b p m ∙ sym (settled-other x s b p (λ e. omega arith)))
    (last-cases p (length s) l)

-- ---- the partial choice that settles the first pairs so
unfoldable pub up_to : (ℕ → Bool) → ℕ → List Bool
up_to f zero = []
up_to f (suc n) = f n ∷ up_to f n

pub up_to-length : (f : ℕ → Bool) (n : ℕ) → length (up_to f n) ≡ n
unfolding up_to
up_to-length f zero = refl
up_to-length f (suc n) = ap suc (up_to-length f n)

pub up_to-settled : (f : ℕ → Bool) (n : ℕ) (rest : Bool) (p : ℕ) → p < n → settled (up_to f n) rest p ≡ f p
unfolding up_to
up_to-settled f zero rest p l = absurd (omega arith)
up_to-settled f (suc n) rest p l =
    ⊎_elim (λ (e : p ≡ n). settled-last _ _ rest p (e ∙ sym (up_to-length f n)) ∙ ap f (sym e))
    (λ m. settled-other _ _ rest p (λ e. omega (arith, up_to-length f n)) ∙ up_to-settled f n rest p m)
    (last-cases p n l)

pub up_to-same : (s : List Bool) (f : ℕ → Bool) → ((p : ℕ) → p < length s → f p ≡ settled s false p) → up_to f (length s) ≡ s
unfolding up_to
up_to-same [] f h = refl
up_to-same (b ∷ s) f h =
    ap₂ ◌∷◌ (h (length s) (omega arith) ∙ settled-last b s false _ refl)
    (up_to-same s f (λ p l. h p (omega arith) ∙ settled-other b s false p (λ e. omega arith)))

-- whether the pair at this place is taken, of so many atoms a variable
abbrev pub taken_at : List ℕ → ℕ → ℕ → Bool
taken_at assignment count p = takes assignment (p / count) (p % count)

pub taken_at-pair : (assignment : List ℕ) (count k q : ℕ) → q < count → taken_at assignment count (k * count + q) ≡ takes assignment k q
taken_at-pair assignment count k q l = ap₂ (takes assignment) (cell_row count k q l) (cell-column count k q l)

-- ---- completing
pub accepted-same :
    (t : Tables) (a b : List ℕ) → assignment_fault t a ≡ Done → assignment_fault t b ≡ Done
    → ((k q : ℕ) → k < t.variables → q < length (atoms t) → takes a k q ≡ takes b k q) → a ≡ b
accepted-same t a b h l f =
    same_taken t a b h l
    (λ k q.
    same_bool _ _ (λ e. let (m, n) = accepted-bits t a h k q e in sym (f k q m n) ∙ e)
    (λ e. let (m, n) = accepted-bits t b l k q e in f k q m n ∙ e))

pub completed-same : (t : Tables) (s : List Bool) (rest : ℕ → ℕ → Bool) (a b : List ℕ) → Completed t s rest a → Completed t s rest b → a ≡ b
completed-same t s rest a b c d = accepted-same t a b c.accepted d.accepted (λ k q l m. c.taken k q l m ∙ sym (d.taken k q l m))

complete : Tables → List Bool → (ℕ → ℕ → Bool) → List ℕ
complete t s rest = assignment_of t (λ k q. settled s (rest k q) (k * length (atoms t) + q))

completed : (t : Tables) (s : List Bool) (rest : ℕ → ℕ → Bool) → Completed t s rest (complete t s rest)
unfolding complete
completed t s rest = record { accepted = assignment_of-accepted t _; taken = λ k q l m. assignment_of-bit t _ k q l m }

-- ---- one pair less
module _ (t : Tables) (settings : Settings) (b : Bool) (s : List Bool) (o : Open t settings (b ∷ s)) where
  low-back : (low : List ℕ) → Completed t s (λ k q. false) low → Larger low o.low
  low-back low c k q e =
      let (l, m) = accepted-bits t low c.accepted k q e in
      let p : ℕ = k * length (atoms t) + q in
      let f : settled s false p ≡ true = sym (c.taken k q l m) ∙ e in
      o.left_out.taken k q l m
      ∙ ⊎_elim (λ (i : p ≡ length s). absurd (false≢true (sym (settled-rest s false p (omega arith)) ∙ f)))
      (λ i. settled-other b s false p i ∙ f) (eq-or-ne p (length s))

  high-back : (high : List ℕ) → Completed t s (takes settings.permitted) high → Larger o.high high
  high-back high c k q e =
      let (l, m) = accepted-bits t o.high o.taken.accepted k q e in
      let p : ℕ = k * length (atoms t) + q in
      let f : settled (b ∷ s) (takes settings.permitted k q) p ≡ true = sym (o.taken.taken k q l m) ∙ e in
      c.taken k q l m
      ∙ ⊎_elim
      (λ (i : p ≡ length s).
      settled-rest s _ p (omega arith)
      ∙ o.heeds.permitted k q (o.left_out.taken k q l m ∙ settled-last b s false p i ∙ sym (settled-last b s _ p i) ∙ f))
      (λ i. sym (settled-other b s _ p i) ∙ f) (eq-or-ne p (length s))

  -- what is open stays open with one pair less settled: its low side takes less, its high side more
  pub open-back : table_fault t ≡ Done → Open t settings s
  open-back h =
      let low = complete t s (λ k q. false) in
      let high = complete t s (takes settings.permitted) in
      let less : Larger low o.low = low-back low (completed t s _) in
      let more : Larger o.high high = high-back high (completed t s _) in
      record {
        low = low;
        high = high;
        left_out = completed t s _;
        taken = completed t s _;
        heeds =
            record { permitted = λ k q e. o.heeds.permitted k q (less k q e); few = λ k. omega (arith, o.heeds.few k, size-le _ _ (less k)) };
        fewer = λ m l e. antitone t (well_formed t h) low o.low less _ _ (left-free t h m l e) (o.fewer m l e);
        more = λ m l e. monotone t (well_formed t h) o.high high more _ _ e (o.more m l e);
      }

-- ---- whole ones, that settle every pair
pub pair-below : (variables count k q : ℕ) → k < variables → q < count → k * count + q < variables * count
pair-below variables count k q l m = omega (arith, mul-le-mul_right {m = suc k} {n = variables} count (omega arith), suc-mul k count)

positive : (variables count p : ℕ) → p < variables * count → 0 < count
positive variables zero p l = absurd (omega (arith, mul-zero variables))
positive variables (suc count) p l = omega arith

pub pair-known : (variables count p : ℕ) → p < variables * count → (p / count < variables) × (p % count < count)
pair-known variables count p l =
    let m : 0 < count = positive variables count p l in ((div-lt_iff_lt-mul {k = count} {x = p} {y = variables} m).1 l, mod-lt p m)

-- what is settled can be read off the assignment
pub read_back :
    (variables count : ℕ) (a : List ℕ) (s : List Bool) → length s ≤ variables * count
    → ((k q : ℕ) → k < variables → q < count → takes a k q ≡ settled s false (k * count + q)) → up_to (taken_at a count) (length s) ≡ s
read_back variables count a s few h =
    up_to-same s _ (λ p l. let (m, n) = pair-known variables count p (omega arith) in h _ _ m n ∙ ap (settled s false) (div-add-mod' p count))

module _ (t : Tables) (settings : Settings) (s : List Bool) (whole : length s ≡ pairs t) where
  -- it leaves nothing unsettled
  whole-completed : (a : List ℕ) (rest rest₁ : ℕ → ℕ → Bool) → Completed t s rest a → Completed t s rest₁ a
  whole-completed a rest rest₁ c =
      record {
        accepted = c.accepted;
        taken =
            λ k q l m. c.taken k q l m ∙ settled-known s _ _ _ (omega (arith, pair-below t.variables (length (atoms t)) k q l m));
      }

  module _ (a : List ℕ) (c : Completed t s (λ k q. false) a) where
    pub whole-heeds : Open t settings s → Heeds settings a
    whole-heeds o = subst (Heeds settings) (completed-same t s _ _ _ o.left_out c) o.heeds

    pub whole-solves : Open t settings s → Solves t a
    whole-solves o m l = go (has_variable (tree t.concepts (right_of t.questions m))) refl
      where
        go :
            (b : Bool) → has_variable (tree t.concepts (right_of t.questions m)) ≡ b
            → Subsumed t a (left_of t.questions m) (right_of t.questions m)
        go true e =
            subst (λ (z : List ℕ). Subsumed t z (left_of t.questions m) (right_of t.questions m)) (completed-same t s _ _ _ o.left_out c)
            (o.fewer m l e)
        go false e =
            subst (λ (z : List ℕ). Subsumed t z (left_of t.questions m) (right_of t.questions m))
            (completed-same t s _ _ _ o.taken (whole-completed a _ _ c)) (o.more m l e)

    pub whole_open : Heeds settings a → Solves t a → Open t settings s
    whole_open h x =
        record {
          low = a;
          high = a;
          left_out = c;
          taken = whole-completed a _ _ c;
          heeds = h;
          fewer = λ m l e. x m l;
          more = λ m l e. x m l;
        }

    pub whole-read : up_to (taken_at a (length (atoms t))) (pairs t) ≡ s
    whole-read = subst (λ (z : ℕ). up_to (taken_at a (length (atoms t))) z ≡ s) whole (read_back t.variables (length (atoms t)) a s (omega arith) c.taken)

-- the whole partial choice of an assignment
pub read-completed :
    (t : Tables) (a : List ℕ) → assignment_fault t a ≡ Done → Completed t (up_to (taken_at a (length (atoms t))) (pairs t)) (λ k q. false) a
read-completed t a h =
    record {
      accepted = h;
      taken =
          λ k q l m.
          sym (up_to-settled _ (pairs t) false _ (pair-below t.variables (length (atoms t)) k q l m) ∙ taken_at-pair a (length (atoms t)) k q m);
    }
