pub mod Record
pub mod RecordLayout
pub mod RecordLaws
