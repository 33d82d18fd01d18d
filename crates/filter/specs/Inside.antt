-- A state whose table holds that of another: what sweep and chain step by hand keep, where the smaller table is a fixpoint. So where they
-- come to none, no run from there ends stable.
use Rattle.std.specs.Prelude.{◌≡◌, false}
use Rattle.circuit.specs.declared.state.Work.{Work}
use Rattle.circuit.specs.Legs.{Subtable}
use Rattle.circuit.specs.State.{is_none, rows_of}

-- the legs of t stand in x, whose end is not none
pub record Inside (t x : Work) : Type 0 where
  pub stations : x.n ≡ t.n
  pub going : is_none x.end ≡ false
  pub sub : Subtable (rows_of t) (rows_of x)
