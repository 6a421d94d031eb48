pub mod lexer
