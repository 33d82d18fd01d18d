-- A level whose stations outside it are covered by groups with pivots leaves the table, where the pairs by way of the pivots settle it; and the code of the test is
-- right.
pub mod WayLaws
pub mod GroupLaws
pub mod PlaceLaws
pub mod RisingLaws
pub mod PairLaws
pub mod StrongLaws
pub mod IdleLaws
pub mod FallingLaws
