pub mod Framed
pub mod Decoded
pub mod Walking
pub mod Verdicts
pub mod Written
pub mod Bounds
pub mod Standing
