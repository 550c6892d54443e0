use native.Mathlib.Omega.{arith}
use borrow.Author.Tests.{le-leb, lt-leb}
use Prim.Native.Nat.{ℕ, ◌≤◌}
use mathlib.Core.Path.{◌≡◌, sym, ap, ◌∙◌}
use mathlib.Core.Bool.{true, false}
use mathlib.Core.List.{List}
use lib.ListN.{length, take}
use lib.Seq.{sets, length-take-le}
use Rattle.lists.specs.Below.{table}
use Rattle.geometry.specs.Geometry.{most_pages}
use Rattle.state.specs.declared.State.{State}
use Rattle.state.specs.Face.{face_of}
use Rattle.state.proofs.Shaped.{state_shape}
use Rattle.wellformed.specs.WellFormed.{state_right}
use Rattle.wellformed.proofs.Facts.{right_of}
use Rattle.wellformed.proofs.States.{state_face}
use Rattle.devicemap.specs.Map.{map_length, byte_in, mapped, buffer_after}
use Rattle.devicemap.proofs.Maps.{length_up, filled, map_same}
use Rattle.devicemap.proofs.device_map.Goals as goal

most : (s : State) → state_right s ≡ true → s.pages ≤ most_pages
most s t = (right_of (face_of s) (state_face s t)).sizes.most

pub returns-then-not-state_right : goal.returns-then-not-state_right
unfolding mapped buffer_after
returns-then-not-state_right c =
    let s = c.args.s in
    let t : state_right s ≡ false = sym c.state_right.ensures ∙ c.if-not-state_right.true in
    (rw t, rw t)

pub returns-then-buffer-n : goal.returns-then-buffer-n
unfolding mapped buffer_after
returns-then-buffer-n c =
    let a = c.args in
    let t : state_right a.s ≡ true = sym c.state_right.ensures ∙ c.if-not-state_right.false in
    let n = c.div_ceil-n.ensures ∙ length_up a.s.pages in
    let u = lt-leb (map_length a.s.pages) (length a.buffer.now) (rw n at c.if-buffer-n.true) in
    (rw (t, u), rw (t, u))

pub shared_ref_as_front-fill : goal.shared_ref_as_front-fill
shared_ref_as_front-fill c = most c.args.s (sym c.state_right.ensures ∙ c.if-not-state_right.false)

pub fill-requires : goal.fill-requires
fill-requires c =
    let a = c.args in
    let m = most a.s (sym c.state_right.ensures ∙ c.if-not-state_right.false) in
    omega (arith, m, c.div_ceil-n.ensures, length_up a.s.pages, length-take-le _ a.buffer.now c.if-buffer-n.false)

pub returns : goal.returns
unfolding mapped buffer_after
returns c =
    let a = c.args in
    let t : state_right a.s ≡ true = sym c.state_right.ensures ∙ c.if-not-state_right.false in
    let n = c.div_ceil-n.ensures ∙ length_up a.s.pages in
    let l : a.s.pages ≤ length a.s.owner = omega (arith, most a.s t, (state_shape a.s _ c.well_formed.0).owner_long) in
    let o = take a.s.pages a.s.owner in
    let u = le-leb (map_length a.s.pages) (length a.buffer.now) (rw n at c.if-buffer-n.false) in (
      rw (t, u, n),
      rw (t, u) (filled a.buffer.now _ _ c.if-buffer-n.false _ c.fill.ensures ∙ ap (λ (k : ℕ). sets a.buffer.now 0 (table (byte_in o (length o)) k)) n
          ∙ ap (λ (l : List ℕ). sets a.buffer.now 0 l) (map_same a.s l)),
    )
