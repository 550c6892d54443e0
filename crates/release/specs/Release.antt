-- What a release asks.
use Rattle.std.specs.Prelude.{ℕ, ◌≤◌, ◌<◌}
use Rattle.geometry.specs.Geometry.{start_of}
use Rattle.fields.specs.declared.Fields.{Fields}
use Rattle.fields.specs.Fields.{run_places, run_at, end_of}

-- the runs have their places, and each lies in a memory of so many bytes
pub record RunsIn (f : Fields) (size : ℕ) : Type 0 where
  pub few : f.r ≤ run_places
  pub fits : (i : ℕ) → i < f.r → start_of (end_of (run_at f i)) ≤ size
