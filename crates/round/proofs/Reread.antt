-- Fields that keep the rules, written and read again, are the same fields.
use mathlib.Core.Path.{◌≡◌, refl, sym, ap, ◌∙◌}
use mathlib.Core.Bool.{true}
use mathlib.Core.List.{List, [], ◌∷◌, ◌++◌, append_assoc}
use Prim.Native.Nat.{ℕ, suc, ◌+◌, ◌*◌, ◌≤◌, ◌<◌}
use native.Mathlib.Nat.{add-zero}
use native.Mathlib.Omega.{arith}
use lib.ListN.{length, take, drop, get_or, length-append}
use lib.Seq.{drop_at, get_or-drop}
use borrow.Author.Tests.{le-leb, eq-eqb}
use Rattle.lists.specs.Below.{all_below, joined}
use Rattle.lists.specs.Bytes.{part}
use Rattle.lists.specs.Numbers.{little, little_at}
use Rattle.lists.proofs.All.{all_of}
use Rattle.lists.proofs.Parts.{part_at, part_after}
use Rattle.lists.proofs.Tables.{joined_at}
use Rattle.lists.proofs.Numbers.{little_long, little_part, little_drop, little_in, little_last}
use Rattle.geometry.specs.Geometry.{page_of}
use Rattle.fields.specs.declared.Run.{Run}
use Rattle.fields.specs.declared.Entry.{Entry}
use Rattle.fields.specs.declared.Fields.{Fields}
use Rattle.fields.specs.Fields.{no_run, no_entry, fields_of, run_at, entry_at}
use Rattle.fields.specs.Rules.{counts_right, keeps_rules}
use Rattle.fields.proofs.Facts.{Kept}
use Rattle.fields.proofs.PageLaws.{code_page, page_small}
use Rattle.manifest.specs.Layout.{item_size, size_of, fixed, run_bytes, entry_bytes, trailer_bytes, run_bytes_at, entry_bytes_at, encode, run_in, entry_in, run_in_at, entry_in_at, placed, fields_at}
use Rattle.manifest.specs.Reader.{equal, trailer_at, runs_in, entries_in, trailer_right, blank_at, fields_in, accepts, read_manifest}
use Rattle.manifest.proofs.Places.{placed_is}
use Rattle.manifest.specs.Items.{run_long, entry_long}
use Rattle.manifest.proofs.Puts.{runs_long, entries_long, encode_long}
use Rattle.round.specs.Round.{Shaped}

-- ---- a run and an entry out of their bytes

part_get : (l : List ℕ) (a n j : ℕ) (bs : List ℕ) → part l a n ≡ bs → j < n → get_or l (a + j) 0 ≡ get_or bs j 0
part_get l a n j bs e h = sym (part_at l a n j h) ∙ ap (λ (b : List ℕ). get_or b j 0) e

part_number : (n : ℕ) (l : List ℕ) (a w i : ℕ) (bs : List ℕ) → part l a w ≡ bs → i + n ≤ w → little_at n l (a + i) ≡ little_at n bs i
part_number n l a w i bs e h = sym (little_part n l a w i h) ∙ ap (λ (b : List ℕ). little_at n b i) e

run_of : (l : List ℕ) (a : ℕ) (x : Run) → x.count < 65536 → x.first < 4294967296 → part l a 8 ≡ run_bytes x → run_in l a ≡ x
unfolding run_bytes
run_of l a x h k e =
    let p : get_or l a 0 ≡ x.kind = ap (λ (n : ℕ). get_or l n 0) (sym (add-zero a)) ∙ part_get l a 8 0 _ e (omega arith) in
    let q : little_at 2 l (a + 2) ≡ x.count = part_number 2 l a 8 2 _ e (omega arith) ∙ little_in 2 x.count (x.kind ∷ 0 ∷ []) (little 4 x.first) 2 refl h in
    let r : little_at 4 l (a + 4) ≡ x.first = part_number 4 l a 8 4 _ e (omega arith) ∙ little_last 4 x.first (x.kind ∷ 0 ∷ little 2 x.count) 4 (ap (λ (n : ℕ). suc (suc n)) (little_long 2 x.count)) k in
    λ i. record { kind = p i; count = q i; first = r i }

entry_of : (l : List ℕ) (a : ℕ) (x : Entry) → x.address < 4294967296 → x.input < 65536 → x.output < 65536 → part l a 8 ≡ entry_bytes x → entry_in l a ≡ x
unfolding entry_bytes
entry_of l a x h k m e =
    let four = little 4 x.address in
    let two = little 2 x.input in
    let f = e ∙ sym (append_assoc four two (little 2 x.output)) in
    let n : length (four ++ two) ≡ 6 = rw (length-append, little_long 4 x.address, little_long 2 x.input) in
    let p : little_at 4 l a ≡ x.address = ap (little_at 4 l) (sym (add-zero a)) ∙ part_number 4 l a 8 0 _ e (omega arith) ∙ little_in 4 x.address [] (two ++ little 2 x.output) 0 refl h in
    let q : little_at 2 l (a + 4) ≡ x.input = part_number 2 l a 8 4 _ e (omega arith) ∙ little_in 2 x.input four (little 2 x.output) 4 (little_long 4 x.address) k in
    let r : little_at 2 l (a + 6) ≡ x.output = part_number 2 l a 8 6 _ f (omega arith) ∙ little_last 2 x.output (four ++ two) 6 n m in
    λ i. record { address = p i; input = q i; output = r i }

-- ---- where they stand in the encoding

module _ (f : Fields) where
  abbrev rs : List ℕ
  rs = joined f.r (run_bytes_at f)

  abbrev es : List ℕ
  es = joined f.e (entry_bytes_at f)

  abbrev tr : List ℕ
  tr = trailer_bytes f.r f.e

  run_part : (k : ℕ) → k < f.r → part (encode f) (8 * k) 8 ≡ run_bytes (run_at f k)
  unfolding encode
  run_part k h = joined_at item_size f.r (run_bytes_at f) (es ++ tr) k (λ j. run_long _) h

  entry_part : (k : ℕ) → k < f.e → part (encode f) (8 * f.r + 8 * k) 8 ≡ entry_bytes (entry_at f k)
  unfolding encode
  entry_part k h = part_after rs (es ++ tr) (8 * f.r) (8 * k) 8 (omega (arith, runs_long f)) ∙ joined_at item_size f.e (entry_bytes_at f) tr k (λ j. entry_long _) h

  tail : drop (8 * f.r + 8 * f.e) (encode f) ≡ tr
  unfolding encode
  tail =
      ap (drop (8 * f.r + 8 * f.e)) (sym (append_assoc rs es tr))
      ∙ drop_at (rs ++ es) tr (8 * f.r + 8 * f.e) (length-append rs es ∙ omega (arith, runs_long f, entries_long f))

  tail_get : (j : ℕ) → get_or (encode f) (8 * f.r + 8 * f.e + j) 0 ≡ get_or tr j 0
  tail_get j = sym (get_or-drop (8 * f.r + 8 * f.e) (encode f) j 0) ∙ ap (λ (x : List ℕ). get_or x j 0) tail

  tail_number : (j : ℕ) → little_at 4 (encode f) (8 * f.r + 8 * f.e + j) ≡ little_at 4 tr j
  tail_number j = sym (little_drop 4 (encode f) (8 * f.r + 8 * f.e) j) ∙ ap (λ (x : List ℕ). little_at 4 x j) tail

  at_end : trailer_at (encode f) ≡ 8 * f.r + 8 * f.e
  at_end = omega (arith, encode_long f)

  r_again : runs_in (encode f) ≡ f.r
  unfolding trailer_bytes
  r_again = ap (λ (t : ℕ). get_or (encode f) (t + 5) 0) at_end ∙ tail_get 5

  e_again : entries_in (encode f) ≡ f.e
  unfolding trailer_bytes
  e_again = ap (λ (t : ℕ). get_or (encode f) (t + 6) 0) at_end ∙ tail_get 6

-- ---- fields that keep the rules

module _ (f : Fields) (v : Kept f) (h : keeps_rules f ≡ true) (s : Shaped f) where
  run_again : (k : ℕ) → k < f.r → run_in_at (encode f) k ≡ run_at f k
  run_again k l =
      let q = v.runs_of.run k l in
      run_of (encode f) (8 * k) (run_at f k) (omega (arith, q)) (omega (arith, q)) (run_part f k l)

  address_small : (k : ℕ) → k < f.e → (entry_at f k).address < 4294967296
  address_small k l =
      let p : page_of (entry_at f k).address < 1024 = page_small f h (page_of (entry_at f k).address) (code_page f (page_of (entry_at f k).address) (v.entries_of.entry k l).inside) in
      omega (arith, p)

  entry_again : (k : ℕ) → k < f.e → entry_in_at (encode f) f.r k ≡ entry_at f k
  entry_again k l =
      let q = v.entries_of.entry k l in
      entry_of (encode f) (8 * f.r + 8 * k) (entry_at f k) (address_small k l) (omega (arith, q.input)) (omega (arith, q.output)) (entry_part f k l)

  blank_again : (k : ℕ) → k < f.r → blank_at (encode f) k ≡ true
  unfolding run_bytes
  blank_again k l = eq-eqb _ 0 (part_get (encode f) (8 * k) 8 1 _ (run_part f k l) (omega arith))

  runs_again : placed 4 0 f.r (run_in_at (encode f)) no_run ≡ f.runs
  runs_again = sym (placed_is f.runs 4 f.r (run_in_at (encode f)) no_run no_run s.four (λ k l _. sym (run_again k l)) (λ k l m. v.unused.run k l m))

  entries_again : placed 8 0 f.e (entry_in_at (encode f) f.r) no_entry ≡ f.entries
  entries_again = sym (placed_is f.entries 8 f.e (entry_in_at (encode f) f.r) no_entry no_entry s.eight (λ k l _. sym (entry_again k l)) (λ k l m. v.unused.entry k l m))

  pub fields_again : fields_in (encode f) ≡ f
  unfolding fields_at
  fields_again =
      ap (λ (r : ℕ). fields_at (encode f) r (entries_in (encode f))) (r_again f)
      ∙ ap (fields_at (encode f) f.r) (e_again f)
      ∙ λ i. record { r = f.r; e = f.e; runs = runs_again i; entries = entries_again i }

  counts_again : counts_right (fields_of f.r f.e [] []) ≡ true
  unfolding counts_right
  counts_again =
      let n = v.bounds in
      simp (le-leb 2 f.r n.some_runs, le-leb f.r 4 n.few_runs, le-leb 1 f.e n.some_entries, le-leb f.e 8 n.few_entries)

  trailer_again : trailer_right (encode f) (8 * f.r + 8 * f.e) f.r f.e ≡ true
  unfolding trailer_right trailer_bytes part
  trailer_again =
      let l = encode f in
      let t = 8 * f.r + 8 * f.e in
      let n = v.bounds in
      let w : equal (part l t 5) fixed ≡ true = ap (λ (x : List ℕ). equal (take 5 x) fixed) (tail f) in
      let back : little_at 4 l (t + 8) ≡ 8 * (f.r + f.e) = tail_number f 8 ∙ little_in 4 (8 * (f.r + f.e)) (fixed ++ (f.r ∷ f.e ∷ 0 ∷ [])) (little 4 (8 * f.e)) 8 refl (omega (arith, n)) in
      let back' : little_at 4 l (t + 12) ≡ 8 * f.e =
      tail_number f 12 ∙ little_last 4 (8 * f.e) (fixed ++ ((f.r ∷ f.e ∷ 0 ∷ []) ++ little 4 (8 * (f.r + f.e)))) 12 (omega (arith, little_long 4 (8 * (f.r + f.e)))) (omega (arith, n)) in
      let d : counts_right (fields_of f.r f.e [] []) ≡ true = counts_again in
      simp (
        w,
        d,
        eq-eqb (get_or l (t + 7) 0) 0 (tail_get f 7),
        eq-eqb (length l) (size_of f.r f.e) (encode_long f),
        eq-eqb (little_at 4 l (t + 8)) (8 * (f.r + f.e)) back,
        eq-eqb (little_at 4 l (t + 12)) (8 * f.e) back',
      )

  pub accepted_again : accepts (encode f) ≡ true
  unfolding accepts
  accepted_again =
      let l = encode f in
      let n = 8 * f.r + 8 * f.e in
      let t : trailer_right l (trailer_at l) (runs_in l) (entries_in l) ≡ true =
      ap (λ (k : ℕ). trailer_right l k (runs_in l) (entries_in l)) (at_end f)
      ∙ ap (λ (k : ℕ). trailer_right l n k (entries_in l)) (r_again f)
      ∙ ap (trailer_right l n f.r) (e_again f)
      ∙ trailer_again in
      let b : all_below (runs_in l) (blank_at l) ≡ true = ap (λ (k : ℕ). all_below k (blank_at l)) (r_again f) ∙ all_of (blank_at l) f.r blank_again in
      simp (le-leb 16 (length l) (omega (arith, encode_long f)), t, b, ap keeps_rules fields_again ∙ h)

  -- accepted, and the same
  pub read_again : read_manifest (encode f) ≡ record { refusal = 0; fields = f }
  unfolding read_manifest
  read_again = rw accepted_again (λ i. record { refusal = 0; fields = fields_again i })
