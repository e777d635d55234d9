pub mod Forced
pub mod ValidDepths
pub mod Listed
pub mod Table
-- laws of runs
pub mod RunLaws
-- what runs show, and which worlds they pass
pub mod PassLaws
-- cells behind those that a code names change nothing
pub mod LongerLaws
