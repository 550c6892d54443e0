use Prim.Native.Nat.{◌*◌}
use native.Mathlib.Omega.{arith}
use mathlib.Core.Path.{◌≡◌, sym, ◌∙◌, ap}
use mathlib.Core.Bool.{Bool, true}
use lib.ListN.{length}
use lib.Seq.{sets}
use borrow.Author.Tests.{lt-leb, le-leb}
use Rattle.fields.specs.declared.Fields.{Fields}
use Rattle.fields.specs.Rules.{keeps_rules}
use Rattle.fields.proofs.Facts.{Counts, kept}
use Rattle.manifest.specs.Layout.{size_of}
use Rattle.manifest.specs.Writer.{write_manifest, wrote}
use Rattle.manifest.proofs.Puts.{runs_joined, entries_joined, encode_put}
use Rattle.manifest.proofs.write.Goals as goal

-- past the first test the fields keep the rules, so their counts are small
ok : (f : Fields) (t : Bool) → t ≡ keeps_rules f → t ≡ true → Counts f
ok f t h y = (kept f (sym h ∙ y)).bounds

pub returns-then-not-keeps_rules : goal.returns-then-not-keeps_rules
unfolding write_manifest
returns-then-not-keeps_rules c = simp (sym c.keeps_rules.ensures ∙ c.if-not-keeps_rules.true)

pub overflow_add-n : goal.overflow_add-n
overflow_add-n c = omega (arith, ok c.args.f _ c.keeps_rules.ensures c.if-not-keeps_rules.false)

pub overflow_mul-n : goal.overflow_mul-n
overflow_mul-n c = omega (arith, ok c.args.f _ c.keeps_rules.ensures c.if-not-keeps_rules.false)

pub overflow_add-n-2 : goal.overflow_add-n-2
overflow_add-n-2 c = omega (arith, ok c.args.f _ c.keeps_rules.ensures c.if-not-keeps_rules.false)

pub returns-then-buffer-n : goal.returns-then-buffer-n
unfolding write_manifest
returns-then-buffer-n c =
    let f = c.args.f in
    simp (sym c.keeps_rules.ensures ∙ c.if-not-keeps_rules.false, lt-leb (size_of f.r f.e) (length c.args.buffer.now) c.if-buffer-n.true)

pub shared_ref_as_front-runs : goal.shared_ref_as_front-runs
shared_ref_as_front-runs c = omega (arith, ok c.args.f _ c.keeps_rules.ensures c.if-not-keeps_rules.false)

pub shared_ref_as_front-entries : goal.shared_ref_as_front-entries
shared_ref_as_front-entries c = omega (arith, ok c.args.f _ c.keeps_rules.ensures c.if-not-keeps_rules.false)

pub put_trailer-requires-clause-r_le_run_places : goal.put_trailer-requires-clause-r_le_run_places
put_trailer-requires-clause-r_le_run_places c =
    let n = ok c.args.f _ c.keeps_rules.ensures c.if-not-keeps_rules.false in
    (omega (arith, n), omega (arith, n))

pub returns : goal.returns
unfolding write_manifest
returns c =
    let f = c.args.f in
    let n = ok f _ c.keeps_rules.ensures c.if-not-keeps_rules.false in
    let a = c.put_all.ensures ∙ ap (sets c.args.buffer.now 0) (runs_joined f (omega (arith, n))) in
    let b = c.put_all-2.ensures ∙ ap (sets c.put_all.new.buffer (8 * f.r)) (entries_joined f (omega (arith, n))) in
    let e = encode_put f c.args.buffer.now a b c.put_trailer.ensures in
    simp (sym c.keeps_rules.ensures ∙ c.if-not-keeps_rules.false, le-leb (size_of f.r f.e) (length c.args.buffer.now) c.if-buffer-n.false) (ap (wrote _) e)
