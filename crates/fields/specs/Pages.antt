-- The pages that fields name. What lies above looks at these names and never at runs.
use Rattle.std.specs.Prelude.{ℕ, Bool, List, leb}
use Rattle.lists.specs.Below.{all_below, any_below, first_below, joined}
use Rattle.lists.specs.Bytes.{counted}
use Rattle.fields.specs.declared.Fields.{Fields}
use Rattle.fields.specs.Fields.{run_at, end_of}
use Rattle.fields.specs.Rules.{is_param, holds}

-- all the pages, "in run order"
abbrev pub run_pages : Fields → ℕ → List ℕ
run_pages f k = counted (run_at f k).first (run_at f k).count

unfoldable pub pages_of : Fields → List ℕ
pages_of f = joined f.r (run_pages f)

-- page p is one of them
abbrev pub holds_at : Fields → ℕ → ℕ → Bool
holds_at f p k = holds (run_at f k) p

unfoldable pub has_page : Fields → ℕ → Bool
has_page f p = any_below f.r (holds_at f p)

-- the param page
abbrev pub is_param_at : Fields → ℕ → Bool
is_param_at f k = is_param (run_at f k)

unfoldable pub param_of : Fields → ℕ
param_of f = (run_at f (first_below (is_param_at f) f.r)).first

-- every page lies under page top
abbrev pub under_at : Fields → ℕ → ℕ → Bool
under_at f top k = leb (end_of (run_at f k)) top

unfoldable pub pages_under : Fields → ℕ → Bool
pages_under f top = all_below f.r (under_at f top)
