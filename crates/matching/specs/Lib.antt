-- Matchings of components with stations.
pub mod Matching
pub mod inner
