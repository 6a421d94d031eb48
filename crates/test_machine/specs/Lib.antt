pub mod causal
