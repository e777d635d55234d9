-- the faults of a part of a text, in its order
pub mod Faults
-- what a name means inside a function
pub mod Scope
-- what a name means at file scope
pub mod File
-- the names that break a rule
pub mod Names
-- .. and those of a file
pub mod FileNames
-- the types of expressions
pub mod Types
-- what a resolved tree names is there
pub mod Fitting
-- places, assignments and calls
pub mod Places
-- what statements become
pub mod Statements
-- what the parts of a body keep
pub mod Kept
-- directives outside `main`, and calls of `main`
pub mod Directives
-- what the items of a file become
pub mod Bodies
-- what they keep
pub mod BodiesKept
-- the four passes
pub mod Check
