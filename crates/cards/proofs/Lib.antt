-- The cards hold, and with them what every table, every finder's answer and every check must be.
pub mod SampleLaws
pub mod SampleCards
pub mod SampleCount
pub mod AmongLaws
pub mod JudgedCards
pub mod FoundLaws
pub mod FoundCards
pub mod FoundBatches
pub mod ShownTables
pub mod ShownPairs
