-- the words of the program
pub mod CommandLine
-- options, as a parse reads them
pub mod Options
-- the words of its command `serve`
pub mod Serving
