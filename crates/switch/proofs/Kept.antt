-- An address that is looked at, and one that is kept as 0.
use Prim.Native.Nat.{ℕ, ◌+◌, ◌≤◌}
use native.Mathlib.Omega.{arith}
use mathlib.Core.Path.{◌≡◌, sym, ◌∙◌}
use mathlib.Core.Logic.{⊎_elim}
use mathlib.Core.Bool.{true}
use mathlib.Core.List.{List}
use lib.Dec.{eqb}
use borrow.Author.Tests.{eqb-true}
use Rattle.lists.specs.Bytes.{part}
use Rattle.lists.proofs.Logic.{or_cases, decided}
use Rattle.lists.proofs.Parts.{part_none}
use Rattle.geometry.specs.Geometry.{is_range, start_of}
use Rattle.rules.specs.Tests.{unlooked, kept_as}
use Rattle.rules.proofs.Ranges.{range_fits}

-- a range that is looked at lies in memory; one that is not has length 0
pub kept_fits : (p a n size : ℕ) → size ≡ start_of p → unlooked n (is_range p a n) ≡ true → kept_as n a + n ≤ size
kept_fits p a n size e h =
    ⊎_elim
    (λ (t : eqb n 0 ≡ true). let q = eqb-true n 0 t in rw t (omega arith))
    (λ (t : is_range p a n ≡ true). decided (eqb n 0)
    (λ u. let q = eqb-true n 0 u in rw u (omega arith))
    (λ u. rw u (omega (arith, range_fits p a n t))))
    (or_cases (eqb n 0) (is_range p a n) h)

-- no bytes come from anywhere
pub kept_part : (m : List ℕ) (a n : ℕ) → part m (kept_as n a) n ≡ part m a n
kept_part m a n =
    decided (eqb n 0)
    (λ u. let q = eqb-true n 0 u in rw (u, q) (part_none m 0 ∙ sym (part_none m a)))
    (λ u. rw u)
