-- What a function is lent, as a `requires` reads it: before its body.
use Rattle.subsumption.specs.declared.tables.Tables.{Tables as Lent}
use Rattle.subsumption.specs.Tables.{Tables, tables}

abbrev pub given : Lent → Tables
given t = tables t.concepts.now t.inclusions.now t.questions.now t.roles.now t.variables
