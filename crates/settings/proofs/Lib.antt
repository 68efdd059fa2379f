-- Laws and machinery behind the proofs of the functions.
pub mod SizeLaws
pub mod SettingsLaws
pub mod CountLaws
