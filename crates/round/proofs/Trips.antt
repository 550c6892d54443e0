-- The theorems, as they are promised.
use mathlib.Core.Path.{◌≡◌, sym, ap, ◌∙◌}
use mathlib.Core.Bool.{true}
use mathlib.Core.List.{List}
use Prim.Native.Nat.{ℕ, ◌≤◌}
use native.Mathlib.Omega.{arith}
use lib.ListN.{length}
use lib.Seq.{sets}
use borrow.Author.Tests.{le-leb}
use Rattle.lists.specs.Bytes.{part}
use Rattle.lists.proofs.Logic.{decided}
use Rattle.lists.proofs.Parts.{part_sets}
use Rattle.fields.specs.declared.Fields.{Fields}
use Rattle.fields.specs.Rules.{keeps_rules}
use Rattle.fields.proofs.Facts.{kept}
use Rattle.std.specs.Prelude.{Ok}
use Rattle.manifest.specs.Layout.{size_of, encode, fields_at}
use Rattle.manifest.specs.Reader.{runs_in, entries_in, fields_in, accepts, refused_reading, read_manifest}
use Rattle.manifest.specs.Writer.{outcome_of, Wrote, wrote, write_manifest}
use Rattle.manifest.proofs.Places.{placed_long}
use Rattle.manifest.proofs.Puts.{encode_long}
use Rattle.round.specs.Round.{Shaped, ReadThenWritten, WrittenThenRead, AcceptsExactly, OneSpelling, Lengths}
use Rattle.round.proofs.Rewritten.{accepted, written_again}
use Rattle.round.proofs.Reread.{accepted_again, read_again}

-- a reading with number 0 is of bytes that are accepted
taken : (l : List ℕ) → (read_manifest l).refusal ≡ 0 → accepts l ≡ true
unfolding read_manifest refused_reading
taken l h = decided (accepts l) (λ e. e) (λ e. let z : 3 ≡ 0 = rw e at h in absurd (omega (arith, z)))

fields_of_lem : (l : List ℕ) → accepts l ≡ true → (read_manifest l).fields ≡ fields_in l
unfolding read_manifest
fields_of_lem l h = rw h

-- the writer on fields that keep the rules
gave : (f : Fields) (b : List ℕ) → keeps_rules f ≡ true → size_of f.r f.e ≤ length b → write_manifest f b ≡ wrote (Ok (size_of f.r f.e)) (sets b 0 (encode f))
unfolding write_manifest
gave f b h k = simp (h, le-leb (size_of f.r f.e) (length b) k)

rewritten : (f : Fields) (l b : List ℕ) → keeps_rules f ≡ true → encode f ≡ l → length l ≤ length b → write_manifest f b ≡ wrote (Ok (length l)) (sets b 0 l)
rewritten f l b h e k =
    let n : size_of f.r f.e ≡ length l = sym (encode_long f) ∙ ap length e in
    gave f b h (omega (arith, n)) ∙ λ i. wrote (Ok (n i)) (sets b 0 (e i))

pub read_then_written : ReadThenWritten
read_then_written l b y h k =
    let a = taken l h in
    let w : write_manifest (read_manifest l).fields b ≡ wrote (Ok (length l)) (sets b 0 l) =
    ap (λ (f : Fields). write_manifest f b) (fields_of_lem l a) ∙ rewritten (fields_in l) l b (accepted l a).rules (written_again l y a) k in
    (ap (λ (x : Wrote). outcome_of x.answer) w, ap (λ (x : Wrote). x.buffer) w)

pub written_then_read : WrittenThenRead
written_then_read f b s h k =
    let w = gave f b h k in
    let n = encode_long f in
    let p : part (sets b 0 (encode f)) 0 (size_of f.r f.e) ≡ encode f =
    ap (part (sets b 0 (encode f)) 0) (sym n) ∙ part_sets b 0 (encode f) (omega (arith, n)) in
    rw w (ap read_manifest p ∙ read_again f (kept f h) h s)

-- the reader's arrays
shape : (l : List ℕ) (r e : ℕ) → Shaped (fields_at l r e)
unfolding fields_at
shape l r e = record { four = placed_long 4 0 r _ _; eight = placed_long 8 0 e _ _ }

pub accepts_exactly : AcceptsExactly
accepts_exactly l b = (
  λ h. record { fields = fields_in l; shaped = shape l (runs_in l) (entries_in l); rules = (accepted l h).rules; bytes = written_again l b h },
  λ x. ap accepts (sym x.bytes) ∙ accepted_again x.fields (kept x.fields x.rules) x.rules x.shaped,
)

pub one_spelling : OneSpelling
one_spelling l m b c h k e = sym (written_again l b h) ∙ ap encode e ∙ written_again m c k

pub lengths : Lengths
lengths l h = let g = (accepted l h).from in (g.size, (omega (arith, g), omega (arith, g)))
