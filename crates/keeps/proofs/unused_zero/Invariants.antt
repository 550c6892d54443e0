use Rattle.std.proofs.Common.{◌≡◌, ◌+◌, ◌&&◌, eqb}
use Rattle.lists.specs.Below.{all_below}
use Rattle.fields.specs.Rules.{run_free_at, entry_free_at}
use Rattle.keeps.proofs.unused_zero.Given as goal

abbrev pub invariant-loop-run : goal.invariant-loop-run
invariant-loop-run l = eqb l.kind 0 && (eqb l.count 0 && eqb l.first 0) ≡ all_below (l.f.r + l.run-index) (run_free_at l.f)

abbrev pub invariant-loop-entry : goal.invariant-loop-entry
invariant-loop-entry l = eqb l.address 0 && (eqb l.input 0 && eqb l.output 0) ≡ all_below (l.f.e + l.entry-index) (entry_free_at l.f)
