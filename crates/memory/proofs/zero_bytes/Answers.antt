use native.Mathlib.Omega.{arith}
use Prim.Native.Nat.{ℕ}
use mathlib.Core.Path.{ap, ◌∙◌}
use lib.ListN.{replicate, length-take, length-drop}
use Rattle.lists.specs.Bytes.{zeros}
use Rattle.lists.proofs.Parts.{sets_back, zeros_long}
use Rattle.memory.proofs.zero_bytes.Goals as goal

pub returns : goal.returns
unfolding zeros
returns c =
    let s = c.args in
    sets_back s.memory.now s.at s.n _ _ (zeros s.n) (omega arith)
    (c.fill.ensures.after (λ y h. h) ∙ ap (λ (k : ℕ). replicate k 0) (simp (length-take, length-drop) (omega arith))) (zeros_long s.n) (omega arith)
