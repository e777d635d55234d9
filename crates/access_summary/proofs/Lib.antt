pub mod Lay
-- effects that are appended one after the other
pub mod Joined
-- sets that grow, one effect after the other
pub mod Adding
-- the calls of a program are the edges of its graph of calls
pub mod CallLaws
-- the sets that the solver finds are the cells that functions may access
pub mod SummaryLaws
