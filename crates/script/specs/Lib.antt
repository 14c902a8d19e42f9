-- What the text of a script means, and what the reader and the writer do (01, "The program").
pub mod Text
pub mod Reading
pub mod ReadingCases
pub mod LineLaws
pub mod TextLaws
pub mod FewCommands
pub mod Writing
pub mod Blocks
pub mod BlocksCases
pub mod BlocksLaws
pub mod Examples
