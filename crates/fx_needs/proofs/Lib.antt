mod Answered
mod CutNumbers
mod Covers
mod Gains
