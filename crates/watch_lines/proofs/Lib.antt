pub mod EntryLine
