mod Walks
mod Rests
mod Spans
mod Totals
mod CutTwice
