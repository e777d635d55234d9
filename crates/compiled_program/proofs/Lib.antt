-- the excluded sets of a program are what they are
pub mod ExactSets
-- what a program is compiled to
pub mod CompiledLaws
