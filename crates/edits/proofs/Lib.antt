-- The sentences on small edits, shown.
pub mod CarriedLaws
pub mod SizeLaws
pub mod InclusionLaws
pub mod QuestionLaws
