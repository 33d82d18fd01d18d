-- Laws of the search.
pub mod ChildrenLaws
pub mod WithinLaws
pub mod DecideLaws
pub mod NodeLaws
pub mod SearchLaws
pub mod StepLaws
pub mod CallLaws
