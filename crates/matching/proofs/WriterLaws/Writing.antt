-- Writing a derivation, from the checks to the lines.
use Rattle.std.specs.Prelude.{Err, Ok, true, false, Result}
use Prim.Native.Nat.{ℕ, ◌*◌, ◌<◌, ◌≤◌}
use mathlib.Core.Path.{◌≡◌, refl, sym, ◌∙◌, subst}
use mathlib.Core.List.{List}
use mathlib.Core.Bool.{Bool}
use mathlib.Core.Logic.{inl, inr}
use native.Mathlib.Omega.{arith}
use lib.ListN.{length}
use Rattle.subsumption.specs.declared.refusal.Refusal.{Refusal}
use Rattle.subsumption.specs.declared.refusal.Refusal.TheVariants.{BufferTooShort, NotSubsumed}
use Rattle.subsumption.specs.Tables.{Tables, tables, count_of}
use Rattle.subsumption.specs.Subsumption.{Subsumed}
use Rattle.subsumption.specs.Refusal.{Reply, reply_done, reply_refused, Replies, Outcome, Done}
use Rattle.subsumption.specs.Inner.Roles.{RoleSets}
use Rattle.subsumption.specs.Check.{buffer_fault, pair_fault, assignment_fault_at}
use Rattle.subsumption.specs.Decide.{deciding_fault, decision_reply, Tells, Decides}
use Rattle.subsumption.specs.Inner.Listing.{Accepted, Prepared, ForAccepted}
use Rattle.subsumption.proofs.Refusals.{stops, goes_on, refused-lt, done-le}
use Rattle.subsumption.proofs.Accepted.{well_formed}
use Rattle.subsumption.proofs.Replies.{not_done}
use Rattle.subsumption.proofs.Deciding.{prepared-ready, known-fault}
use Rattle.matching.specs.Writer.{room_for, deriving_fault, DerivationOf, DerivesAfter, Derives}
use Rattle.matching.specs.Inner.Writer.{Grounds, Asked, RestKept, WrittenTo, WrittenFor}
use Rattle.matching.proofs.DerivationLaws.Lines.{accepted-of}
use Rattle.matching.proofs.WriterLaws.Written.{derivation-written}

pub lines-written :
    (concepts inclusions into ids assignment : List ℕ) (left right : ℕ) (marks : List Bool) (before after : List ℕ) (n : ℕ)
    → Grounds concepts inclusions ids assignment → count_of concepts * count_of concepts * 4 ≤ length before
    → WrittenTo concepts inclusions into ids assignment left right marks after n → RestKept before after 0 n
    → WrittenFor concepts inclusions into ids assignment left right before after n
lines-written concepts inclusions into ids assignment left right marks before after n g l d w =
    record {
      each = λ t of. derivation-written t concepts inclusions into ids assignment left right marks before after n of g.ready d w (omega (arith, d.written.room));
    }

-- ---- what is lent to the lines' writer
module _ (cs is rs : List ℕ) (v : ℕ) (ids assignment : List ℕ) (p : Prepared cs is rs v ids) (x : Outcome) (e : x ≡ assignment_fault_at (length ids) v assignment) (h : x ≡ Done) where
  pub known-grounds : Grounds cs is ids assignment
  known-grounds =
      record { ready = prepared-ready cs is rs v ids p assignment x e h; few-pairs = omega (arith, (well_formed _ p.accepted.passed).few-inclusions) }

  pub known-asked :
      (into : List ℕ) → RoleSets rs into → (left right : ℕ) → left < count_of cs → right < count_of cs → Subsumed (tables cs is p.questions rs v) assignment left right → Asked cs is into ids assignment left right
  known-asked into S left right l k s =
      record {
        t = tables cs is p.questions rs v;
        of = accepted-of _ into ids p.accepted S;
        accepted = p.accepted.passed;
        left-known = l;
        right-known = k;
        subsumed = s;
      }

-- ---- the answers
module _ (t : Tables) (assignment : List ℕ) (left right : ℕ) (before : List ℕ) where
  derives-refused : (r : Refusal) → Err r ≡ deriving_fault t assignment left right (length before) → Derives t assignment left right before before (reply_refused r)
  derives-refused r e = subst (λ (z : Outcome). DerivesAfter z t assignment left right before before (reply_refused r)) e (refl, refl)

  pub derive-refused : (r : Refusal) → Err r ≡ pair_fault t left right → Derives t assignment left right before before (reply_refused r)
  unfolding deriving_fault deciding_fault
  derive-refused r e = derives-refused r (stops (Err r) _ _ r (stops (Err r) _ _ r e refl) refl)

  module _ (w : Outcome) (a : w ≡ deciding_fault t assignment left right) where
    derive-stops : (r : Refusal) → w ≡ Err r → Derives t assignment left right before before (reply_refused r)
    unfolding deriving_fault
    derive-stops r e = derives-refused r (stops _ _ _ r a e)

    module _ (f : w ≡ Done) where
      derive-short : length before < room_for t → Derives t assignment left right before before (reply_refused (BufferTooShort (room_for t)))
      unfolding deriving_fault buffer_fault
      derive-short h = derives-refused _ (goes_on _ _ _ _ a f (refused-lt _ _ _ h))

      module _ (h : room_for t ≤ length before) where
        passes : Done ≡ deriving_fault t assignment left right (length before)
        unfolding deriving_fault buffer_fault
        passes = goes_on _ _ _ _ a f (done-le _ _ _ h)

        derive-lines :
            (after : List ℕ) (n : ℕ) → Subsumed t assignment left right → DerivationOf t assignment left right before after n
            → Derives t assignment left right before after (reply_done n)
        derive-lines after n s g = subst (λ (z : Outcome). DerivesAfter z t assignment left right before after (reply_done n)) passes (inl (refl, s, g))

        derive-not : (Subsumed t assignment left right → ⊥) → Derives t assignment left right before before (reply_refused NotSubsumed)
        derive-not s = subst (λ (z : Outcome). DerivesAfter z t assignment left right before before (reply_refused NotSubsumed)) passes (inr (refl, s, refl))

      -- what the decision says
      decided : (reply : Reply) → Decides t assignment left right reply → Replies Done (Tells t assignment left right) reply
      decided reply d = subst (λ (z : Outcome). Replies z (Tells t assignment left right) reply) (sym a ∙ f) d

-- the same for tables accepted with any questions
module _ (cs is rs : List ℕ) (v : ℕ) (ids assignment : List ℕ) (left right : ℕ) (l : left < count_of cs) (k : right < count_of cs) (before : List ℕ)
    (x : Outcome) (e : x ≡ assignment_fault_at (length ids) v assignment) where
  fault-is : (qs : List ℕ) (a : Accepted (tables cs is qs rs v) ids) → x ≡ deciding_fault (tables cs is qs rs v) assignment left right
  fault-is qs a = known-fault cs is rs v ids assignment left right l k x e qs a

  pub known-stops : (r : Refusal) → x ≡ Err r → ForAccepted cs is rs v ids (λ t. Derives t assignment left right before before (reply_refused r))
  known-stops r h qs a = derive-stops _ assignment left right before x (fault-is qs a) r h

  module _ (h : x ≡ Done) where
    pub known-short :
        length before < count_of cs * count_of cs * 4
        → ForAccepted cs is rs v ids (λ t. Derives t assignment left right before before (reply_refused (BufferTooShort (count_of cs * count_of cs * 4))))
    known-short s qs a = derive-short _ assignment left right before x (fault-is qs a) h s

    module _ (room : count_of cs * count_of cs * 4 ≤ length before) (d : (Result Bool Refusal)) (dec : ForAccepted cs is rs v ids (λ t. Decides t assignment left right (decision_reply d))) where
      said : (qs : List ℕ) (a : Accepted (tables cs is qs rs v) ids) (y : (Result Bool Refusal)) → d ≡ y → Replies Done (Tells (tables cs is qs rs v) assignment left right) (decision_reply y)
      said qs a y s = subst (λ (z : (Result Bool Refusal)). Replies Done (Tells (tables cs is qs rs v) assignment left right) (decision_reply z)) s (decided _ assignment left right before x (fault-is qs a) h _ (dec qs a))

      pub known-subsumed : d ≡ (Ok true) → ForAccepted cs is rs v ids (λ t. Subsumed t assignment left right)
      known-subsumed s qs a = (said qs a (Ok true) s).1

      pub known-lines :
          (into : List ℕ) → RoleSets rs into → (after : List ℕ) (n : ℕ) → d ≡ (Ok true) → WrittenFor cs is into ids assignment left right before after n
          → ForAccepted cs is rs v ids (λ t. Derives t assignment left right before after (reply_done n))
      known-lines into S after n s w qs a =
          derive-lines _ assignment left right before x (fault-is qs a) h room after n (known-subsumed s qs a) (w.each _ (accepted-of _ into ids a S))

      pub known-not : d ≡ (Ok false) → ForAccepted cs is rs v ids (λ t. Derives t assignment left right before before (reply_refused NotSubsumed))
      known-not s qs a = derive-not _ assignment left right before x (fault-is qs a) h room (said qs a (Ok false) s).1

      pub known-never : (r : Refusal) → d ≡ Err r → ForAccepted cs is rs v ids (λ t. Derives t assignment left right before before (reply_refused r))
      known-never r s qs a = not_done r _ (said qs a (Err r) s).0
