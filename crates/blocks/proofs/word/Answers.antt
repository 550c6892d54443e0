use native.Mathlib.Nat.{add-zero}
use native.Mathlib.Omega.{arith}
use Rattle.lists.specs.Numbers.{big_at}
use Rattle.blocks.proofs.word.Goals as goal

pub returns : goal.returns
unfolding big_at
returns c = simp add-zero (omega (arith, c.from_be_bytes.ensures))
