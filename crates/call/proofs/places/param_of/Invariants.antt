use Rattle.std.proofs.Common.{◌≡◌}
use Rattle.lists.specs.Below.{first_below}
use Rattle.fields.specs.Pages.{is_param_at}
use Rattle.call.proofs.places.param_of.Given as goal

abbrev pub invariant-loop-x : goal.invariant-loop-x
invariant-loop-x l = l.x-index ≡ first_below (is_param_at l.f) l.x-index
