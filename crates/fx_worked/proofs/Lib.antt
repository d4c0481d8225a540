mod Stated
mod Discards
mod Numbered
mod Runs
