pub mod Operands
pub mod Automaton
pub mod Parser
pub mod ParserLaws
pub mod Judging
