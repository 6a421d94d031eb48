pub mod PatternText
