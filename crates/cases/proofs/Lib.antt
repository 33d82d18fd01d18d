-- The laws of what stands in the answers' lines.
mod DigitLaws
