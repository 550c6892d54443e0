use mathlib.Core.Path.{◌≡◌, sym, ◌∙◌}
use mathlib.Core.Bool.{true, false}
use Rattle.wellformed.specs.WellFormed.{sizes_right}
use Rattle.start.specs.Start.{start_of, fresh_state}
use Rattle.start.proofs.start.Goals as goal

pub returns-then-sizes_right : goal.returns-then-sizes_right
unfolding start_of fresh_state
returns-then-sizes_right c =
    let a = c.args in
    let t : sizes_right a.pages a.kept ≡ true = sym c.sizes_right.ensures ∙ c.if-sizes_right.true in
    rw (t, c.bare_state-fresh.ensures, c.fresh_owner-owner.ensures)

pub returns : goal.returns
unfolding start_of
returns c =
    let a = c.args in
    let t : sizes_right a.pages a.kept ≡ false = sym c.sizes_right.ensures ∙ c.if-sizes_right.false in
    rw (t, c.bare_state-none.ensures)
