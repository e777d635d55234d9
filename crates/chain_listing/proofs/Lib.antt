-- the lines of records, one after another
mod LineLaws
-- what is listed of a store
mod StoreLaws
