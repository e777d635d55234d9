-- lists appended one after another
mod Joining
