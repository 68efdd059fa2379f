-- Finding an assignment of one group (02, A.10): the first one within the settings that makes the group's questions hold, or there is none.
use Rattle.std.specs.Prelude.{ℕ, ◌<◌, ◌≡◌, List, not, ◌⊎◌, ltb, length, get_or, Err, Ok}
use Rattle.subsumption.specs.declared.refusal.Refusal.TheVariants.{NoConcept, NoAssignment}
use Rattle.subsumption.specs.Tables.{Tables, pairs_of}
use Rattle.subsumption.specs.Refusal.{Reply, reply_done, reply_refused, or_else, refuse_if, Outcome}
use Rattle.subsumption.specs.Check.{concept_fault, id_fault, use_fault, buffer_fault}
use Rattle.settings.specs.Settings.{Settings, settings_fault}
use Rattle.matching.specs.Among.{FilledAmong, UnfilledAmong}
use Rattle.groups.specs.Group.{InGroup, Outside}

-- Check 4 judges a question's place that is given alone, before the pairs, at place 0.
unfoldable pub place_fault : Tables → ℕ → Outcome
place_fault t m = refuse_if (not (ltb m (pairs_of t.questions))) (NoConcept 0)

-- The checks 1 to 7 with it, then 19 and 8: those of the whole, also for variables outside the group.
unfoldable pub group_fault : Tables → Settings → ℕ → ℕ → Outcome
group_fault t s m size =
    or_else (concept_fault t)
    (or_else (place_fault t m) (or_else (id_fault t) (or_else (use_fault t) (or_else (settings_fault t s) (buffer_fault t.variables size)))))

-- The group's first assignment is written; variables outside the group stay empty.
pub record FilledGroup (t : Tables) (s : Settings) (m : ℕ) (before after : List ℕ) : Type 0 where
  pub filled : FilledAmong (InGroup t m) t s before after
  pub empty : (k : ℕ) → k < t.variables → Outside t m k → get_or after k 0 ≡ 0

-- Where nothing is refused, either the group's first assignment is written, or none exists and the reply is refusal 10.
abbrev pub FindsGroupAfter : Outcome → Tables → Settings → ℕ → List ℕ → List ℕ → Reply → Type 0
FindsGroupAfter (Ok tt) t s m before after reply =
    ((reply ≡ reply_done 0) × FilledGroup t s m before after)
    ⊎ ((reply ≡ reply_refused NoAssignment) × UnfilledAmong (InGroup t m) t s before after)
FindsGroupAfter (Err r) t s m before after reply = (reply ≡ reply_refused r) × (after ≡ before)

abbrev pub FindsGroup : Tables → Settings → ℕ → List ℕ → List ℕ → Reply → Type 0
FindsGroup t s m before after reply = FindsGroupAfter (group_fault t s m (length before)) t s m before after reply
