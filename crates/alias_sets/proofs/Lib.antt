-- variables that compare alike are one
pub mod Variables
-- lists of rising numbers
pub mod Lists
-- edges and goals, one flow after the other
pub mod NodeLaws
-- chains of flows are paths
pub mod ChainLaws
