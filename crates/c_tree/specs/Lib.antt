-- the tokens of a text
pub mod Scan
-- which tokens spell an expression
pub mod Expressions
-- spellings with commas between them
pub mod Listed
-- which tokens spell a call
pub mod Calls
-- which tokens spell a statement
pub mod Statements
-- which tokens spell what stands at file scope
pub mod Declarations
-- which tokens, and which texts, spell a program
pub mod Programs
-- how many nodes a statement has
pub mod Nodes
-- the cells of a program
pub mod Layout
-- the types of a resolved tree
pub mod Kinds
-- the numbers of the directives
pub mod Excludes
-- what a checked program keeps
pub mod Checked
-- the names of cells
pub mod CellNames
-- states, values of expressions, single statements
pub mod State
-- what a program does
pub mod Meaning
-- which runs agree up to some ticks
pub mod Agreement
