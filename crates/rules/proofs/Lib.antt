-- What is proved of the rules. Their laws: Laws, with the page FirstLaws. Demand 3, and that a correct switch leader is believed: Agreement. Document
-- 01's own rows and cases that are easy to get wrong, by computation: Examples. Assumes nothing.
pub mod Laws
pub mod Agreement
pub mod Examples
