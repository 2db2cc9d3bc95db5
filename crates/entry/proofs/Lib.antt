-- `Join` is the law by which `call` meets its contract; `Theorems` says what follows of the promises.
mod Join
pub mod Theorems
