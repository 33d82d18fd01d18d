-- Laws of the cut step, and proofs of its functions.
pub mod CallLaws
