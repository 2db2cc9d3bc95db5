-- `Steps` is about what a trace plays, `Turns` about the promise of one turn; the others serve this crate's proofs, and `Example` is the
-- whole example of document 01.
pub mod Steps
pub mod Turns
mod Fits
mod Outcome
mod Example
