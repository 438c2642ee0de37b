-- Kits played by computation: document 01's table P1 to P12 (PaperTable) and the cases that are easy to get wrong (EasyToGetWrong), each a row that
-- `refl` proves once `Computing` has opened the definitions. Assumes nothing.
pub mod Computing
pub mod PaperTable
pub mod EasyToGetWrong
