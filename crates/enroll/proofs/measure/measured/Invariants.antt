use Rattle.lists.specs.Below.{joined}
use Rattle.lists.specs.Bytes.{gather}
use Rattle.geometry.specs.Geometry.{page_size}
use Rattle.fields.specs.Pages.{run_pages}
use Rattle.sha_1.specs.Parts.{Holds}
use Rattle.enroll.proofs.measure.measured.Given as goal

abbrev pub invariant-loop-x : goal.invariant-loop-x
invariant-loop-x l = Holds l.h (gather page_size l.memory (joined l.x-index (run_pages l.f)))
