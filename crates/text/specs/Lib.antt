pub mod Page
pub mod PageLaws
pub mod Text
pub mod TextLaws
