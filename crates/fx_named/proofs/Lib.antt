pub mod NamesImage
