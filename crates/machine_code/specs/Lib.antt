-- what contracts see of a code: its instructions, functions, objects and checkpoints
pub mod CodeView
-- how many operands an instruction takes and leaves, and where it can go on
pub mod Needs
-- codes that never miss an operand, a local or an instruction
pub mod Valid
-- memories that hold what a code names
pub mod Memory
-- where a machine stands
pub mod State
-- what each instruction does
pub mod Row
-- runs of a code over a plain memory
pub mod Run
-- rows that leave everything
pub mod Still
-- the listing
pub mod Listing
-- the depths that earlier instructions force
pub mod Forced
-- what a run has shown
pub mod Shown
