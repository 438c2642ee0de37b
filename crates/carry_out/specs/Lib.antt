pub mod Enter
pub mod Apply
pub mod Done
pub mod ApplyLaws
pub mod DecisionLaws
pub mod DoneLaws
pub mod Still
