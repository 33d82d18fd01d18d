-- Laws of a work state in words.
pub mod WordsLaws
pub mod SequenceLaws
pub mod EndLaws
pub mod TurnLaws
pub mod StableLaws
pub mod RoundLaws
pub mod PreviewLaws
