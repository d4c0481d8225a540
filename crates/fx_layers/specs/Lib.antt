pub mod StandingSizes
