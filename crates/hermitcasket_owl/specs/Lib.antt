-- What a reader must believe: the card of a catalogue's tables, and the whole output for a text. proofs/ has the laws.
pub mod Card
