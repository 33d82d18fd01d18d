-- The demands, the ceiling, runs in turns, what a stable end means, previews, the search for the first round and the examples hold.
pub mod RefusalLaws
pub mod CountLaws
pub mod DemandLaws
pub mod CeilingLaws
pub mod TurnLaws
pub mod StableLaws
pub mod PetersenLaws
pub mod RoundLaws
pub mod PreviewLaws
pub mod ExampleLaws
