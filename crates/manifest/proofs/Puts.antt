-- What the steps of the writer leave in the buffer.
use mathlib.Core.Path.{◌≡◌, refl, sym, ap, ◌∙◌}
use mathlib.Core.List.{List, [], ◌∷◌, ◌++◌, append_assoc}
use Prim.Native.Nat.{ℕ, zero, suc, ◌+◌, ◌*◌, ◌/◌, ◌%◌, ◌≤◌, ◌<◌}
use native.Mathlib.Omega.{arith}
use lib.ListN.{length, take, drop, get_or, length-append}
use lib.Seq.{sets, sets-eq, length-sets, drop-drop, take-suc}
use borrow.Rule.Slice.PartMut.{put_mid}
use Rattle.std.specs.List.{flat_map}
use Rattle.std.proofs.lemmas.List.{flat_map_more, take_more}
use Rattle.lists.specs.Below.{joined}
use Rattle.lists.specs.Numbers.{little}
use Rattle.lists.proofs.Tables.{joined_long}
use Rattle.lists.proofs.Parts.{sets_next}
use Rattle.lists.proofs.Numbers.{little_long}
use Rattle.fields.specs.declared.Run.{Run}
use Rattle.fields.specs.declared.Entry.{Entry}
use Rattle.fields.specs.declared.Fields.{Fields}
use Rattle.fields.specs.Fields.{no_run, no_entry}
use Rattle.manifest.specs.Layout.{fixed, run_bytes, entry_bytes, trailer_bytes, run_bytes_at, entry_bytes_at, encode}
use Rattle.manifest.specs.Items.{run_long, entry_long}
use Rattle.std.specs.Int.{w32, to_le_bytes}
use Rattle.manifest.proofs.Widths.{little_2, little_4, le_4}

-- the bytes of a run and of an entry, one by one
pub run_bytes_lem : (x : Run)
    → run_bytes x ≡ x.kind ∷ 0 ∷ x.count % 256 ∷ x.count / 256 % 256 ∷ x.first % 256 ∷ x.first / 256 % 256 ∷ x.first / 65536 % 256 ∷ x.first / 16777216 % 256 ∷ []
unfolding run_bytes
run_bytes_lem x = rw (little_2, little_4)

pub entry_bytes_lem : (x : Entry)
    → entry_bytes x ≡ x.address % 256 ∷ x.address / 256 % 256 ∷ x.address / 65536 % 256 ∷ x.address / 16777216 % 256 ∷ x.input % 256 ∷ x.input / 256 % 256 ∷ x.output % 256 ∷ x.output / 256 % 256 ∷ []
unfolding entry_bytes
entry_bytes_lem x = rw (little_2 x.input, little_2 x.output, little_4)

-- how many they are
pub trailer_long : (r e : ℕ) → length (trailer_bytes r e) ≡ 16
unfolding trailer_bytes
trailer_long r e = simp (length-append, little_long)

-- what is written to a part of a lent slice is put into its list
pub part_put : (m : List ℕ) (at k : ℕ) (ys : List ℕ) → at + k ≤ length m → length ys ≡ k → put_mid at k m ys ≡ sets m at ys
part_put m at k ys h e = rw (sets-eq ys m at (rw e h), e, drop-drop) (sym (append_assoc (take at m) ys (drop (at + k) m)))

-- a loop that puts item after item, of 8 bytes each: a turn
module _ {A : Type 0} (f : A → List ℕ) (long : (x : A) → length (f x) ≡ 8) (m : List ℕ) (at : ℕ) (xs : List A) where
  put_long : (k : ℕ) → k ≤ length xs → length (flat_map f (take k xs)) ≡ 8 * k
  put_long k h = go xs k h
    where
      go : (ys : List A) (k : ℕ) → k ≤ length ys → length (flat_map f (take k ys)) ≡ 8 * k
      go ys zero h = refl
      go [] (suc k) h = absurd (omega arith)
      go (y ∷ ys) (suc k) h = rw (length-append, long y, go ys k (omega arith)) (omega arith)

  pub items_put : {d ys : List ℕ} (k n p : ℕ) (x : A) → d ≡ sets m at (flat_map f (take k xs)) → k < length xs → x ≡ get_or xs k x → ys ≡ f x → p ≡ at + 8 * k → n ≡ 8
      → at + 8 * length xs ≤ length m → put_mid p n d ys ≡ sets m at (flat_map f (take (k + 1) xs))
  items_put {d} {ys} k n p x e h q g a b l =
      let u : length d ≡ length m = ap length e ∙ length-sets m at (flat_map f (take k xs)) in
      let v : length ys ≡ n = ap length g ∙ long x ∙ sym b in
      part_put d p n ys (omega arith) v
      ∙ sets_next m at p (flat_map f (take k xs)) ys e (omega (arith, put_long k (omega arith)))
      ∙ ap (λ (zs : List ℕ). sets m at (flat_map f (take k xs) ++ zs)) (g ∙ ap f q)
      ∙ ap (sets m at) (flat_map_more f [] (take k xs) (get_or xs k x) ∙ ap (flat_map f) (sym (take_more xs k x h)))

-- the bytes of the first n items, one after the other
items_joined : {A : Type 0} (f : A → List ℕ) (xs : List A) (d : A) (n : ℕ) → n ≤ length xs → flat_map f (take n xs) ≡ joined n (λ k. f (get_or xs k d))
unfolding joined
items_joined f xs d zero h = refl
items_joined f xs d (suc n) h =
    ap (flat_map f) (take-suc xs n d h)
    ∙ sym (flat_map_more f [] (take n xs) (get_or xs n d))
    ∙ ap (λ (l : List ℕ). l ++ f (get_or xs n d)) (items_joined f xs d n (omega arith))

-- the trailer's four puts are one
pub trailer_put : {a b c d : List ℕ} (m : List ℕ) (at r e : ℕ) → a ≡ sets m at fixed → b ≡ sets a (at + 5) (r ∷ e ∷ 0 ∷ []) → c ≡ sets b (at + 8) (little 4 (8 * (r + e)))
    → d ≡ sets c (at + 12) (little 4 (8 * e)) → d ≡ sets m at (trailer_bytes r e)
unfolding trailer_bytes
trailer_put m at r e p q x y =
    let b' = q ∙ sets_next m at (at + 5) fixed (r ∷ e ∷ 0 ∷ []) p refl in
    let c' = x ∙ sets_next m at (at + 8) (fixed ++ (r ∷ e ∷ 0 ∷ [])) (little 4 (8 * (r + e))) b' refl in
    let n : length (little 4 (8 * (r + e))) ≡ 4 = little_long 4 (8 * (r + e)) in
    y ∙ sets_next m at (at + 12) (fixed ++ ((r ∷ e ∷ 0 ∷ []) ++ little 4 (8 * (r + e)))) (little 4 (8 * e)) c' (rw n)

-- as they are written, part after part
pub trailer_written : (m : List ℕ) (at r e : ℕ) (i j k n : ℕ) (a b c d : List ℕ) → at + 16 ≤ length m
    → a ≡ fixed → b ≡ r ∷ e ∷ 0 ∷ [] → c ≡ to_le_bytes w32 (8 * (r + e)) → d ≡ to_le_bytes w32 (8 * e)
    → i ≡ 5 → j ≡ 3 → k ≡ 4 → n ≡ 4
    → put_mid (at + 12) n (put_mid (at + 8) k (put_mid (at + 5) j (put_mid at i m a) b) c) d ≡ sets m at (trailer_bytes r e)
trailer_written m at r e i j k n a b c d h p q x y u v w z =
    let la = part_put m at i a (omega arith) (ap length p ∙ sym u) in
    let na : length (put_mid at i m a) ≡ length m = ap length la ∙ length-sets m at a in
    let lb = part_put (put_mid at i m a) (at + 5) j b (omega arith) (ap length q ∙ sym v) in
    let nb : length (put_mid (at + 5) j (put_mid at i m a) b) ≡ length m = ap length lb ∙ length-sets (put_mid at i m a) (at + 5) b ∙ na in
    let lc = part_put (put_mid (at + 5) j (put_mid at i m a) b) (at + 8) k c (omega arith) (ap length x ∙ sym w) in
    let nc : length (put_mid (at + 8) k (put_mid (at + 5) j (put_mid at i m a) b) c) ≡ length m = ap length lc ∙ length-sets (put_mid (at + 5) j (put_mid at i m a) b) (at + 8) c ∙ nb in
    let ld = part_put (put_mid (at + 8) k (put_mid (at + 5) j (put_mid at i m a) b) c) (at + 12) n d (omega arith) (ap length y ∙ sym z) in
    trailer_put m at r e (la ∙ ap (sets m at) p) (lb ∙ ap (sets (put_mid at i m a) (at + 5)) q)
    (lc ∙ ap (sets (put_mid (at + 5) j (put_mid at i m a) b) (at + 8)) (x ∙ le_4 (8 * (r + e))))
    (ld ∙ ap (sets (put_mid (at + 8) k (put_mid (at + 5) j (put_mid at i m a) b) c) (at + 12)) (y ∙ le_4 (8 * e)))

-- runs, entries and trailer: how long, and their puts are one
module _ (f : Fields) where
  pub runs_joined : f.r ≤ length f.runs → flat_map run_bytes (take f.r f.runs) ≡ joined f.r (run_bytes_at f)
  runs_joined h = items_joined run_bytes f.runs no_run f.r h

  pub entries_joined : f.e ≤ length f.entries → flat_map entry_bytes (take f.e f.entries) ≡ joined f.e (entry_bytes_at f)
  entries_joined h = items_joined entry_bytes f.entries no_entry f.e h

  pub runs_long : length (joined f.r (run_bytes_at f)) ≡ f.r * 8
  runs_long = joined_long (run_bytes_at f) f.r 8 (λ i _. run_long _)

  pub entries_long : length (joined f.e (entry_bytes_at f)) ≡ f.e * 8
  entries_long = joined_long (entry_bytes_at f) f.e 8 (λ i _. entry_long _)

  -- "Length is exactly 8(r+e)+16"
  pub encode_long : length (encode f) ≡ 8 * (f.r + f.e) + 16
  unfolding encode
  encode_long = simp (length-append, runs_long, entries_long, trailer_long) (omega arith)

  pub encode_put : {a b c : List ℕ} (m : List ℕ) → a ≡ sets m 0 (joined f.r (run_bytes_at f)) → b ≡ sets a (8 * f.r) (joined f.e (entry_bytes_at f))
      → c ≡ sets b (8 * (f.r + f.e)) (trailer_bytes f.r f.e) → c ≡ sets m 0 (encode f)
  unfolding encode
  encode_put m p q x =
      let rs = joined f.r (run_bytes_at f) in
      let es = joined f.e (entry_bytes_at f) in
      let b' = q ∙ sets_next m 0 (8 * f.r) rs es p (omega (arith, runs_long)) in
      x ∙ sets_next m 0 (8 * (f.r + f.e)) (rs ++ es) (trailer_bytes f.r f.e) b' (omega (arith, runs_long, entries_long, length-append rs es))
      ∙ ap (sets m 0) (append_assoc rs es (trailer_bytes f.r f.e))
