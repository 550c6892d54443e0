use Rattle.std.proofs.Common.{◌≡◌}
use Rattle.lists.specs.Below.{joined}
use Rattle.lists.specs.Bytes.{wipe}
use Rattle.geometry.specs.Geometry.{page_size}
use Rattle.fields.specs.Pages.{run_pages}
use Rattle.release.proofs.release.zero_pages.Given as goal

abbrev pub invariant-loop-x : goal.invariant-loop-x
invariant-loop-x l = l.memory ≡ wipe page_size l.initial.memory (joined l.x-index (run_pages l.f))
