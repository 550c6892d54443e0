use Prim.Native.Nat.{ℕ, ◌≤◌}
use mathlib.Core.Path.{◌≡◌, sym, ◌∙◌}
use mathlib.Core.Bool.{true}
use Rattle.lists.specs.Below.{all_below}
use Rattle.lists.proofs.Logic.{and_l}
use Rattle.geometry.specs.Geometry.{most_pages}
use Rattle.painting.specs.Painting.{painted_runs, RunsFit}
use Rattle.state.specs.declared.Slot.{Slot}
use Rattle.wellformed.specs.WellFormed.{card_right}
use Rattle.wellformed.specs.Tests.{slot_right}
use Rattle.wellformed.proofs.Facts.{no_runs}
use Rattle.wellformed.proofs.Pages.{runs_fit}
use Rattle.wellformed.proofs.tried.Goals as goal

fits : (x : Slot) (top : ℕ) → top ≤ most_pages → slot_right x top ≡ true → RunsFit x.card.fields
fits x top m right = runs_fit x.card top m (and_l (card_right x.card top) _ right)

-- a free slot has no pages
pub returns-then-not-x : goal.returns-then-not-x
unfolding all_below painted_runs
returns-then-not-x c =
    let a = c.args in
    let x = a.x.now in
    let q : slot_right x a.top ≡ true = sym c.slot_right.ensures ∙ c.if-not-slot_right.false in
    let n = no_runs x.card a.top (and_l (card_right x.card a.top) _ q) c.if-not-x.true in
    (rw (q, n), rw (q, n))

pub runs_owned-requires : goal.runs_owned-requires
runs_owned-requires c = fits c.args.x.now c.args.top c.requires.1 (sym c.slot_right.ensures ∙ c.if-not-slot_right.false)

pub paint_runs-requires : goal.paint_runs-requires
paint_runs-requires c = fits c.args.x.now c.args.top c.requires.1 (sym c.slot_right.ensures ∙ c.if-not-slot_right.false)
