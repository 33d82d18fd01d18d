-- The papers' examples, by computation. Assumes nothing.
use mathlib.Core.Path.{◌≡◌, refl}
use mathlib.Core.Bool.{true}
use Rattle.demands.specs.Definitions.{definitions}
use Rattle.demands.specs.Examples.{listed, begun, removes, holds, every, nine_legs, ring_of_four, ring_of_five, butterfly, full_of_four, chain_of_four, two_rings, two_islands, both_of_two, one_emptied, examples, valley, dead_end, wrong_way, same_station, valleys}

-- the items with ◆, and those of W-201, W-202 and W-204
pub examples_hold : every examples ≡ true
unfolding definitions listed begun removes holds every nine_legs ring_of_four ring_of_five butterfly full_of_four chain_of_four two_rings two_islands both_of_two one_emptied examples
examples_hold = refl

-- those of W-205
pub valleys_hold : every valleys ≡ true
unfolding definitions listed begun removes holds every valley dead_end wrong_way same_station valleys
valleys_hold = refl
