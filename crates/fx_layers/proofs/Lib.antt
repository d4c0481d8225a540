mod Trees
mod Pigeons
mod Sizes
