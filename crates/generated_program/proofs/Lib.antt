-- lists appended one after another
mod Joining
-- how many bytes the lines have
mod Lengths
