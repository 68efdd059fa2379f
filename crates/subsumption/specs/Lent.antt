-- The tables that an operation is lent, as its contract reads them: as one.
use Rattle.std.specs.Prelude.{ℕ, List}
use Rattle.std.specs.Borrow.{Bor}
use denote.Triple.Both.{Both}
use Rattle.subsumption.specs.declared.tables.Tables.{Tables as Lent}
use Rattle.subsumption.specs.Tables.{Tables, tables}

-- The tables that an operation is lent, as they were at the call.
abbrev pub lent : Both Lent Lent → Tables
lent t =
    tables t.entry.concepts.now t.entry.inclusions.now t.entry.questions.now t.entry.roles.now t.entry.variables

-- A slice of numbers, at the call and at the return.
abbrev pub Slices : Type 0
Slices = Both (Bor (List ℕ)) (Bor (List ℕ))

-- The same where they are lent one by one, as C lends them.
abbrev pub lent_singly : Slices → Slices → Slices → Slices → ℕ → Tables
lent_singly concepts inclusions questions roles variables =
    tables concepts.entry.now inclusions.entry.now questions.entry.now roles.entry.now variables
