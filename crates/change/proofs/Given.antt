-- Painting the owner table run by run gives the pages.
use Prim.Native.Nat.{ℕ, ◌≤◌, ◌<◌}
use native.Mathlib.Omega.{arith}
use mathlib.Core.Path.{◌≡◌, sym, ◌∙◌}
use mathlib.Core.List.{List}
use lib.ListN.{length, get_or}
use lib.Seq.{ext_get_or}
use Rattle.lists.specs.Below.{pick, table}
use Rattle.lists.proofs.Logic.{decided, pick_true, pick_false}
use Rattle.lists.proofs.Tables.{table_long, table_at}
use Rattle.geometry.specs.Geometry.{most_pages}
use Rattle.fields.specs.declared.Fields.{Fields}
use Rattle.fields.specs.Fields.{run_at, end_of}
use Rattle.fields.specs.Pages.{has_page}
use Rattle.painting.specs.Painting.{painted_runs}
use Rattle.painting.proofs.Painted.{runs_long, runs_in_lem, runs_out}
use Rattle.rules.specs.Tests.{given_at, given}

pub given_painted : (owner : List ℕ) (x : Fields) (v : ℕ) → length owner ≡ most_pages → ((i : ℕ) → i < x.r → end_of (run_at x i) ≤ most_pages)
    → painted_runs owner x.runs v x.r ≡ given owner x v
unfolding given has_page
given_painted owner x v e fit =
    ext_get_or 0 (painted_runs owner x.runs v x.r) (table (given_at owner x v) most_pages)
    (runs_long owner x.runs v x.r ∙ e ∙ sym (table_long (given_at owner x v) most_pages)) each
  where
    at : (p : ℕ) → p < most_pages → get_or (painted_runs owner x.runs v x.r) p 0 ≡ pick (has_page x p) v (get_or owner p 0)
    at p b =
        decided (has_page x p)
        (λ t. runs_in_lem owner x.runs v x.r p (λ i l. omega (arith, fit i l)) t ∙ sym (pick_true (has_page x p) v (get_or owner p 0) t))
        (λ t. runs_out owner x.runs v x.r p t ∙ sym (pick_false (has_page x p) v (get_or owner p 0) t))

    each : (p : ℕ) → p < length (painted_runs owner x.runs v x.r) → get_or (painted_runs owner x.runs v x.r) p 0 ≡ get_or (table (given_at owner x v) most_pages) p 0
    each p l =
        let b : p < most_pages = omega (arith, runs_long owner x.runs v x.r) in
        at p b ∙ sym (table_at (given_at owner x v) most_pages p 0 b)
