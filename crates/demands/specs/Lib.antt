-- Sequences of calls, the demands of the paper, how long a run can take, runs in turns, what a stable end means, previews and the search for the first
-- round after a list of calls, and the paper's examples. What must be believed of the whole, in reading order, is in README, "What to read".
pub mod Sequence
pub mod Demands
pub mod Ceiling
pub mod Turns
pub mod Examples
pub mod Stable
pub mod Rounds
pub mod Previews
pub mod Definitions
