-- Laws of previews, and proofs of their functions.
pub mod PreviewLaws
