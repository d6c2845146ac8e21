mod JudgedLines
mod WrongRow
mod ReadRows
mod EndedText
mod FirstRow
