-- Settings of the variables (02, A.9: permitted parts and largest counts of the blanks), and their check.
use Rattle.std.specs.Prelude.{ℕ, ◌<◌, ◌≤◌, ◌^◌, ◌≡◌, List, Bool, true, not, eqb, ltb, length, get_or}
use Rattle.subsumption.specs.declared.refusal.Refusal.TheVariants.{BadSettings}
use denote.Triple.Both.{Both}
use Rattle.settings.specs.declared.check.Settings.{Settings as Lent}
use Rattle.subsumption.specs.Lent.{Slices}
use Rattle.subsumption.specs.Tables.{Tables, or}
use Rattle.subsumption.specs.Atoms.{atoms, bit}
use Rattle.subsumption.specs.Table.{counted}
use Rattle.subsumption.specs.Refusal.{or_else, refuse_if, first_at, Outcome}

-- For each variable the atoms that it may take, in the bits of a choice, and how many of them at most.
pub record Settings : Type 0 where
  pub permitted : List ℕ
  pub largest : List ℕ

abbrev pub settings : List ℕ → List ℕ → Settings
settings permitted largest = record { permitted = permitted; largest = largest }

-- The settings that an operation is lent, as they were at the call.
abbrev pub lent_settings : Both Lent Lent → Settings
lent_settings s = settings s.entry.permitted.now s.entry.largest.now

-- The same where they are lent one by one, as C lends them.
abbrev pub settings_lent_singly : Slices → Slices → Settings
settings_lent_singly permitted largest = settings permitted.entry.now largest.entry.now

-- How many atoms a choice takes.
unfoldable pub size : ℕ → ℕ
size choice = counted (bit choice) 64

-- An assignment within the settings takes permitted atoms only, and for no variable more than its largest count.
pub record Heeds (s : Settings) (assignment : List ℕ) : Type 0 where
  pub permitted : (k q : ℕ) → bit (get_or assignment k 0) q ≡ true → bit (get_or s.permitted k 0) q ≡ true
  pub few : (k : ℕ) → size (get_or assignment k 0) ≤ get_or s.largest k 0

-- Every atom is permitted to every variable, and 64 of them.
pub record Unrestricted (t : Tables) (s : Settings) : Type 0 where
  pub all : (k q : ℕ) → k < t.variables → q < length (atoms t) → bit (get_or s.permitted k 0) q ≡ true
  pub most : (k : ℕ) → k < t.variables → get_or s.largest k 0 ≡ 64

-- Check 19: another number of settings than variables, tested first; or a permitted bit past the atoms, or a count over 64.
unfoldable pub faulty_at : ℕ → Settings → ℕ → Bool
faulty_at atomCount s k = or (not (ltb (get_or s.permitted k 0) (2 ^ atomCount))) (ltb 64 (get_or s.largest k 0))

unfoldable pub settings_fault_at : ℕ → ℕ → Settings → Outcome
settings_fault_at atomCount variables s =
    or_else (refuse_if (or (not (eqb (length s.permitted) variables)) (not (eqb (length s.largest) variables))) (BadSettings variables))
    (first_at BadSettings (faulty_at atomCount s) 0 variables)

unfoldable pub settings_fault : Tables → Settings → Outcome
settings_fault t s = settings_fault_at (length (atoms t)) t.variables s
