-- The operation (02, A.12): the renumbered tables in a second set of buffers.
use Rattle.std.specs.Prelude.{ℕ, ◌≡◌, List, ◌++◌, length, drop, Err, Ok}
use Rattle.subsumption.specs.Tables.{Tables, count_of}
use Rattle.subsumption.specs.Refusal.{Reply, reply_of, or_else, Outcome}
use Rattle.subsumption.specs.Check.{table_fault, buffer_fault}
use Rattle.renumbering.specs.Order.{order_fault}
use Rattle.renumbering.specs.Renumbering.{rising_fault, renumbered}

-- The checks 1 to 7, 21, 22, then 8 for concepts, inclusions and questions in turn: each buffer wants as many numbers as its table has.
unfoldable pub renumbering_fault : Tables → List ℕ → ℕ → ℕ → ℕ → Outcome
renumbering_fault t order concepts inclusions questions =
    or_else (table_fault t)
    (or_else (order_fault (count_of t.concepts) order)
    (or_else (rising_fault t.concepts order)
    (or_else (buffer_fault (length t.concepts) concepts)
    (or_else (buffer_fault (length t.inclusions) inclusions) (buffer_fault (length t.questions) questions)))))

-- The numbers stand in front; past them, and after a refusal, the buffer keeps its values.
unfoldable pub put_in : Outcome → List ℕ → List ℕ → List ℕ
put_in (Ok tt) numbers before = numbers ++ drop (length numbers) before
put_in (Err r) numbers before = before

-- The three buffers before and after.
pub record Renumbers (t : Tables) (order concepts concepts' inclusions inclusions' questions questions' : List ℕ)
    (reply : Reply) : Type 0 where
  pub replied : reply ≡ reply_of (renumbering_fault t order (length concepts) (length inclusions) (length questions))
  pub put-concepts :
      concepts' ≡ put_in (renumbering_fault t order (length concepts) (length inclusions) (length questions))
      (renumbered order t).concepts concepts
  pub put-inclusions :
      inclusions' ≡ put_in (renumbering_fault t order (length concepts) (length inclusions) (length questions))
      (renumbered order t).inclusions inclusions
  pub put-questions :
      questions' ≡ put_in (renumbering_fault t order (length concepts) (length inclusions) (length questions))
      (renumbered order t).questions questions
