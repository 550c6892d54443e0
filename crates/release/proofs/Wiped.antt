-- Wiping run by run wipes the pages.
use Prim.Native.Nat.{ℕ, ◌+◌}
use mathlib.Core.Path.{◌≡◌, sym, ap, ◌∙◌}
use mathlib.Core.List.{List}
use Rattle.lists.specs.Below.{joined}
use Rattle.lists.specs.Bytes.{wipe}
use Rattle.lists.proofs.Tables.{joined_more}
use Rattle.lists.proofs.Pages.{wipe_append}

-- a turn of a loop that wipes list after list of pages
pub wipe_turn : {d d' : List ℕ} (z : ℕ) (m : List ℕ) (v : ℕ → List ℕ) (i : ℕ) → d ≡ wipe z m (joined i v) → d' ≡ wipe z d (v i) → d' ≡ wipe z m (joined (i + 1) v)
wipe_turn z m v i e h =
    h ∙ ap (λ (l : List ℕ). wipe z l (v i)) e ∙ sym (wipe_append z (joined i v) (v i) m) ∙ ap (wipe z m) (sym (joined_more v i))
