use Rattle.blocks.specs.Blocks.{word}
use Rattle.std.proofs.Common.{◌≡◌, ◌+◌, ◌*◌, length, take}
use Rattle.lists.specs.Below.{table}
use Rattle.rounds.specs.Rounds.{schedule}
use Rattle.rounds.proofs.schedule.Given as goal

abbrev pub invariant-loop-t : goal.invariant-loop-t
invariant-loop-t l = (length l.w ≡ 80) × (take l.t l.w ≡ table (word l.b) l.t)

abbrev pub invariant-loop-i : goal.invariant-loop-i
invariant-loop-i l = (length l.w ≡ 80) × (take (l.turn * 16 + l.i + 16) l.w ≡ schedule l.b (l.turn * 16 + l.i))

abbrev pub invariant-loop-turn : goal.invariant-loop-turn
invariant-loop-turn l = (length l.w ≡ 80) × (take (l.turn * 16 + 16) l.w ≡ schedule l.b (l.turn * 16))
