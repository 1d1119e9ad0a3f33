pub mod FieldLists
pub mod HexTexts
pub mod StringParts
pub mod Telling
