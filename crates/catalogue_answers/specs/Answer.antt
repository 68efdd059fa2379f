-- The answer about a catalogue is a reply with two values.
use Rattle.catalogue_answers.specs.declared.CatalogueAnswer.{CatalogueAnswer}
use Rattle.owl.specs.Read.{CatalogueReply}

abbrev pub replied_tables : CatalogueAnswer → CatalogueReply
replied_tables answer =
    record { number = answer.number; place = answer.place; concepts = answer.entries; inclusions = answer.inclusions }
