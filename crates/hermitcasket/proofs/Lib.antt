-- Laws and machinery behind the proofs of the functions.
pub mod NumberLaws
pub mod LineLaws
pub mod RowLaws
pub mod RightLines
pub mod PartLaws
pub mod SectionLaws
pub mod ReadLaws
pub mod FillLaws
pub mod MarkLines
pub mod SizeLaws
pub mod LayoutLaws
pub mod ProgramLaws
pub mod PlanLaws
pub mod ShownLaws
pub mod LayoutRead
pub mod Texts
