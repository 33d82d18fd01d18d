-- Tests and what they decide.
use Rattle.std.specs.Prelude.{◌≡◌, Bool, true}

-- the test b says whether P holds
pub record Decides (b : Bool) (P : Type 0) : Type 0 where
  pub holds : b ≡ true → P
  pub found : P → b ≡ true
