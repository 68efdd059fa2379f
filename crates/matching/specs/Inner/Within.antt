-- What the parts of finding an assignment within settings promise.
use Rattle.std.specs.Prelude.{ℕ, ◌+◌, ◌/◌, ◌%◌, ◌^◌, ◌<◌, ◌≤◌, ◌≡◌, List, true, ◌⊎◌, length, take, get_or, Option, Some, None, Err, Ok}
use Rattle.subsumption.specs.declared.refusal.Refusal.TheVariants.{NoAssignment}
use Rattle.subsumption.specs.Tables.{Tables}
use Rattle.subsumption.specs.Refusal.{Reply, reply_done, reply_refused, Outcome, Done}
use Rattle.subsumption.specs.Check.{assignment_fault}
use Rattle.settings.specs.Settings.{Settings}
use Rattle.matching.specs.Solving.{takes, Earlier}
use Rattle.matching.specs.Within.{within_fault}
use Rattle.matching.specs.Among.{FirstAmong, NoneAmong, FilledAmong, UnfilledAmong}
use Rattle.matching.specs.Inner.Search.{Within, Meets}
use Rattle.matching.specs.Inner.Search.Problem.{Problem}
use Rattle.matching.specs.Inner.Search.Making.{CopiedAt}

-- The largest counts stand in the problem, and the rest is as before.
abbrev pub Counting : List ℕ → List ℕ → List ℕ → Type 0
Counting largest before after = CopiedAt largest 931 before after

-- The asked questions stand in the problem, a 1 for each whose bit is set and a 0 for each other, and the rest is as before.
pub record Asking (wanted : ℕ) (before after : List ℕ) : Type 0 where
  pub long : length after ≡ length before
  pub here : (m : ℕ) → m < 32 → get_or after (939 + m) 0 ≡ wanted / 2 ^ m % 2
  pub there : (p : ℕ) → (p < 939) ⊎ (971 ≤ p) → get_or after p 0 ≡ get_or before p 0

-- The first solution that takes permitted atoms only, or there is none.
pub record Found (t : Tables) (problem permitted choice : List ℕ) : Type 0 where
  pub long : length choice ≡ 8
  pub accepted : assignment_fault t (take t.variables choice) ≡ Done
  pub inside : Within (take t.variables choice) (take t.variables permitted)
  pub meets : Meets t problem (take t.variables choice)
  pub first :
      (other : List ℕ) → assignment_fault t other ≡ Done → Within other (take t.variables permitted) → Meets t problem other
      → (other ≡ take t.variables choice) ⊎ Earlier (take t.variables choice) other

abbrev pub FoundBy : Tables → List ℕ → List ℕ → Option (List ℕ) → Type 0
FoundBy t problem permitted (Some choice) = Found t problem permitted choice
FoundBy t problem permitted None =
    (other : List ℕ) → assignment_fault t other ≡ Done → Within other (take t.variables permitted) → Meets t problem other → ⊥

-- The same of whatever tables the sets and numbers are.
abbrev pub FoundIn : List ℕ → List ℕ → List ℕ → Option (List ℕ) → Type 0
FoundIn sets problem permitted found =
    (t : Tables) → Problem t sets problem → assignment_fault t (take t.variables permitted) ≡ Done
    → ((k q : ℕ) → t.variables ≤ k → takes permitted k q ≡ true → ⊥) → FoundBy t problem permitted found

-- The first assignment within the settings that makes the asked questions hold, or there is none.
pub record FirstFound (asked : ℕ → Type 0) (t : Tables) (s : Settings) (choice : List ℕ) : Type 0 where
  pub long : length choice ≡ 8
  pub first : FirstAmong asked t s (take t.variables choice)

abbrev pub FoundAmong : (ℕ → Type 0) → Tables → Settings → Option (List ℕ) → Type 0
FoundAmong asked t s (Some choice) = FirstFound asked t s choice
FoundAmong asked t s None = NoneAmong asked t s

-- What a finder of the asked questions answers, where nothing is refused and where something is.
abbrev pub FindsAmongAfter : Outcome → (ℕ → Type 0) → Tables → Settings → List ℕ → List ℕ → Reply → Type 0
FindsAmongAfter (Ok tt) asked t s before after reply =
    ((reply ≡ reply_done 0) × FilledAmong asked t s before after)
    ⊎ ((reply ≡ reply_refused NoAssignment) × UnfilledAmong asked t s before after)
FindsAmongAfter (Err r) asked t s before after reply = (reply ≡ reply_refused r) × (after ≡ before)

abbrev pub FindsAmong : (ℕ → Type 0) → Tables → Settings → List ℕ → List ℕ → Reply → Type 0
FindsAmong asked t s before after reply = FindsAmongAfter (within_fault t s (length before)) asked t s before after reply

-- The front of a choice is copied to the front of a buffer.
pub record Copied (count : ℕ) (choice before after : List ℕ) : Type 0 where
  pub size : length after ≡ length before
  pub front : (k : ℕ) → k < count → get_or after k 0 ≡ get_or choice k 0
  pub rest : (k : ℕ) → count ≤ k → get_or after k 0 ≡ get_or before k 0
