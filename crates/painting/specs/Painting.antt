-- Tables of pages, painted: what the code that compares a table with the slots' runs computes.
use Rattle.std.specs.Prelude.{ℕ, zero, suc, ◌+◌, ◌≤◌, ◌<◌, Bool, List, get_or, replicate, eqb}
use Rattle.std.proofs.lemmas.List.Edits.{sets}
use Rattle.lists.specs.Below.{all_below}
use Rattle.geometry.specs.Geometry.{most_pages}
use Rattle.fields.specs.declared.Run.{Run}
use Rattle.fields.specs.declared.Fields.{Fields}
use Rattle.fields.specs.Fields.{no_run, run_places, run_at, end_of}

-- n places from f on, all v
unfoldable pub painted : List ℕ → ℕ → ℕ → ℕ → List ℕ
painted l f n v = sets l f (replicate n v)

-- the pages of the first n runs
unfoldable pub painted_runs : List ℕ → List Run → ℕ → ℕ → List ℕ
painted_runs l rs v zero = l
painted_runs l rs v (suc n) = painted (painted_runs l rs v n) (get_or rs n no_run).first (get_or rs n no_run).count v

-- a table has v at the j-th place from f on
abbrev pub owned_from : List ℕ → ℕ → ℕ → ℕ → Bool
owned_from o f v j = eqb (get_or o (f + j) 0) v

-- and at each page of run i
abbrev pub owned_run : List ℕ → List Run → ℕ → ℕ → Bool
owned_run o rs v i = all_below (get_or rs i no_run).count (owned_from o (get_or rs i no_run).first v)

-- two tables are alike at a place
abbrev pub alike : List ℕ → List ℕ → ℕ → Bool
alike a b p = eqb (get_or a p 0) (get_or b p 0)

-- the runs have their places, and each lies in the table
pub record RunsFit (f : Fields) : Type 0 where
  pub few : f.r ≤ run_places
  pub fits : (i : ℕ) → i < f.r → end_of (run_at f i) ≤ most_pages
