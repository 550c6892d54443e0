use Rattle.std.proofs.Common.{◌≡◌, take}
use Rattle.std.specs.List.{flat_map}
use Rattle.std.proofs.lemmas.List.Edits.{sets}
use Rattle.manifest.proofs.items.put_all.Given as goal

abbrev pub invariant-loop-k : goal.invariant-loop-k
invariant-loop-k g l = l.buffer ≡ sets l.initial.buffer l.at (flat_map g.T.Item.bytes_of (take l.k l.items))
