pub mod Ledger
pub mod LedgerLayout
pub mod LedgerLaws
pub mod ContentLaws
pub mod ActivesLaws
pub mod ValueLaws
