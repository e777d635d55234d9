-- a store that is cleared
mod ClearedLaws
-- a chain that is settled and joined
mod CoalescedLaws
-- a store that stands, whose records are joined
mod StandingLaws
