-- What the reader accepts keeps the rules.
use Prim.Native.Nat.{ℕ}
use native.Mathlib.Omega.{arith}
use mathlib.Core.Path.{◌≡◌}
use mathlib.Core.Bool.{true}
use mathlib.Core.List.{List}
use Rattle.lists.specs.Below.{all_below}
use Rattle.lists.proofs.Logic.{and_r, decided}
use Rattle.fields.specs.Rules.{keeps_rules}
use Rattle.manifest.specs.Reader.{trailed, runs_in, blank_at, fields_in, accepts, refused_reading, read_manifest}

accepts_keeps : (l : List ℕ) → accepts l ≡ true → keeps_rules (fields_in l) ≡ true
unfolding accepts
accepts_keeps l h = and_r (all_below (runs_in l) (blank_at l)) _ (and_r (trailed l) _ h)

pub read_keeps : (l : List ℕ) → (read_manifest l).refusal ≡ 0 → keeps_rules (read_manifest l).fields ≡ true
unfolding read_manifest refused_reading
read_keeps l h =
    decided (accepts l)
    (λ e. rw e (accepts_keeps l e))
    (λ e. let z = rw e at h in absurd (omega arith))
