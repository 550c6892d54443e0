use Rattle.touch.proofs.Plans.{pcr_10, pcr_9, pcr_on}
use Rattle.touch.proofs.Ready.{pcr_long}
use Rattle.state.proofs.Shaped.{slot_shape}
use Rattle.state.proofs.Faces.{pcrs_at}
use Rattle.state.specs.Face.{face_of}
use native.Mathlib.Omega.{arith}
use mathlib.Core.Path.{refl, sym}
use borrow.Author.Tests.{lt-leb, le-leb, lt-ltb, le-ltb}
use Rattle.touch.proofs.pcr_read.pcr_read.Goals as goal

pub returns-then-index-ge-PCRS : goal.returns-then-index-ge-PCRS
returns-then-index-ge-PCRS c = λ m. let a = c.args in rw (pcr_10 (face_of a.s) a.k _ a.index (le-ltb _ _ c.if-index-ge-PCRS.true)) (refl, refl)

pub returns-then-buffer-lt-DIGEST : goal.returns-then-buffer-lt-DIGEST
returns-then-buffer-lt-DIGEST c = λ m. let a = c.args in rw (pcr_9 (face_of a.s) a.k _ a.index (lt-ltb _ _ c.if-index-ge-PCRS.false) (lt-leb _ _ c.if-buffer-lt-DIGEST.true)) (refl, refl)

pub slice_bounds-put_bytes-end : goal.slice_bounds-put_bytes-end
slice_bounds-put_bytes-end c = sym (pcr_long c.args.slot (slot_shape c.args.slot _ c.well_formed.1.1.0) c.args.index c.if-index-ge-PCRS.false)

pub put_bytes-requires : goal.put_bytes-requires
put_bytes-requires c =
    let l = pcr_long c.args.slot (slot_shape c.args.slot _ c.well_formed.1.1.0) c.args.index c.if-index-ge-PCRS.false in
    omega (arith, c.if-buffer-lt-DIGEST.false)

pub returns : goal.returns
returns c = λ m.
    let a = c.args in
    rw (pcr_on (face_of a.s) a.k _ a.index (lt-ltb _ _ c.if-index-ge-PCRS.false) (le-leb _ _ c.if-buffer-lt-DIGEST.false), pcrs_at a.s.slots a.k, ← c.requires.1)
    (refl, c.put_bytes.ensures)
