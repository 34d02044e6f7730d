-- The theorems on ranks and times, which the functions' proofs cite too, and worked examples.
pub mod RankLaws
pub mod TimeLaws
pub mod Examples
