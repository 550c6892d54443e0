-- A place that was looked for, or none.
use Rattle.std.specs.Prelude.{ℕ, cond, ltb, Option, Some, None}

-- a number below n; any other stands for none
abbrev pub if_below : ℕ → ℕ → Option ℕ
if_below n k = cond (ltb k n) (Some k) None
