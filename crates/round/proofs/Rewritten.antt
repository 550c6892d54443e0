-- Accepted bytes, read and written again, are the same bytes.
use mathlib.Core.Path.{◌≡◌, sym, ap, ◌∙◌}
use mathlib.Core.Bool.{true, ◌&&◌}
use mathlib.Core.List.{List, [], ◌∷◌, ◌++◌}
use Prim.Native.Nat.{ℕ, ◌+◌, ◌*◌, ◌≤◌, ◌<◌}
use native.Mathlib.Nat.{add_assoc, zero-add}
use native.Mathlib.Omega.{arith}
use lib.Dec.{leb}
use lib.ListN.{length, get_or}
use borrow.Author.Tests.{eqb-true}
use Rattle.lists.specs.Below.{all_below, joined}
use Rattle.lists.specs.Bytes.{part}
use Rattle.lists.specs.Numbers.{little}
use Rattle.lists.proofs.Logic.{and_l, and_r}
use Rattle.lists.proofs.All.{all_at}
use Rattle.lists.proofs.Parts.{part_all, part_none, part_join, part_cons}
use Rattle.lists.proofs.Tables.{joined_part}
use Rattle.lists.proofs.Numbers.{little_again}
use Rattle.fields.specs.Fields.{no_run, no_entry}
use Rattle.fields.specs.Rules.{keeps_rules}
use Rattle.manifest.specs.Layout.{item_size, run_bytes, entry_bytes, trailer_bytes, run_bytes_at, entry_bytes_at, encode, run_in, entry_in, run_in_at, entry_in_at, fields_at}
use Rattle.manifest.specs.Reader.{trailer_at, runs_in, entries_in, trailed, blank, blank_at, fields_in, accepts}
use Rattle.manifest.proofs.Places.{placed_in}
use Rattle.manifest.proofs.Steps.{Trailer, trailer_facts, Got, got}
use Rattle.round.specs.Round.{Bytes}

-- ---- the parts of a run, of an entry and of the trailer

split_run : (l : List ℕ) (a : ℕ) → a + 8 ≤ length l → part l a 8 ≡ get_or l a 0 ∷ get_or l (a + 1) 0 ∷ (part l (a + 2) 2 ++ part l (a + 4) 4)
split_run l a h =
    part_cons l a 7 (omega arith)
    ∙ ap (λ (z : List ℕ). get_or l a 0 ∷ z)
    (part_cons l (a + 1) 6 (omega arith)
    ∙ ap (λ (z : List ℕ). get_or l (a + 1) 0 ∷ z)
    (ap (λ (k : ℕ). part l k 6) (add_assoc a 1 1) ∙ sym (part_join l (a + 2) 2 4) ∙ ap (λ (k : ℕ). part l (a + 2) 2 ++ part l k 4) (add_assoc a 2 2)))

split_entry : (l : List ℕ) (a : ℕ) → part l a 8 ≡ part l a 4 ++ (part l (a + 4) 2 ++ part l (a + 6) 2)
split_entry l a =
    sym (part_join l a 4 4)
    ∙ ap (λ (z : List ℕ). part l a 4 ++ z) (sym (part_join l (a + 4) 2 2) ∙ ap (λ (k : ℕ). part l (a + 4) 2 ++ part l k 2) (add_assoc a 4 2))

split_trailer : (l : List ℕ) (t : ℕ) → part l t 16 ≡ part l t 5 ++ (part l (t + 5) 3 ++ (part l (t + 8) 4 ++ part l (t + 12) 4))
split_trailer l t =
    sym (part_join l t 5 11)
    ∙ ap (λ (z : List ℕ). part l t 5 ++ z)
    (sym (part_join l (t + 5) 3 8)
    ∙ ap (λ (z : List ℕ). part l (t + 5) 3 ++ z)
    (ap (λ (k : ℕ). part l k 8) (add_assoc t 5 3) ∙ sym (part_join l (t + 8) 4 4) ∙ ap (λ (k : ℕ). part l (t + 8) 4 ++ part l k 4) (add_assoc t 8 4)))

part_3 : (l : List ℕ) (a b c : ℕ) → a + 1 ≡ b → b + 1 ≡ c → a + 3 ≤ length l → part l a 3 ≡ get_or l a 0 ∷ get_or l b 0 ∷ get_or l c 0 ∷ []
part_3 l a b c p q h =
    part_cons l a 2 (omega arith)
    ∙ ap (λ (z : List ℕ). get_or l a 0 ∷ z)
    (ap (λ (k : ℕ). part l k 2) p ∙ part_cons l b 1 (omega arith)
    ∙ ap (λ (z : List ℕ). get_or l b 0 ∷ z) (ap (λ (k : ℕ). part l k 1) q ∙ part_cons l c 0 (omega arith) ∙ ap (λ (z : List ℕ). get_or l c 0 ∷ z) (part_none l (c + 1))))

run_same : (l : List ℕ) (a : ℕ) → Bytes l → a + 8 ≤ length l → blank l a ≡ true → run_bytes (run_in l a) ≡ part l a 8
unfolding run_bytes
run_same l a b h z =
    let p = little_again 2 l (a + 2) (omega arith) b in
    let q = little_again 4 l (a + 4) (omega arith) b in
    let y : get_or l (a + 1) 0 ≡ 0 = eqb-true (get_or l (a + 1) 0) 0 z in
    sym (split_run l a h ∙ λ i. get_or l a 0 ∷ y i ∷ (sym p i ++ sym q i))

entry_same : (l : List ℕ) (a : ℕ) → Bytes l → a + 8 ≤ length l → entry_bytes (entry_in l a) ≡ part l a 8
unfolding entry_bytes
entry_same l a b h =
    let p = little_again 4 l a (omega arith) b in
    let q = little_again 2 l (a + 4) (omega arith) b in
    let y = little_again 2 l (a + 6) (omega arith) b in
    sym (split_entry l a ∙ λ i. sym p i ++ (sym q i ++ sym y i))

trailer_same : (l : List ℕ) (t r e : ℕ) → Bytes l → t + 16 ≤ length l → Trailer l t r e → r ≡ get_or l (t + 5) 0 → e ≡ get_or l (t + 6) 0 → trailer_bytes r e ≡ part l t 16
unfolding trailer_bytes
trailer_same l t r e b h y p q =
    let m = part_3 l (t + 5) (t + 6) (t + 7) (add_assoc t 5 1) (add_assoc t 6 1) (omega arith) in
    let m' : part l (t + 5) 3 ≡ r ∷ e ∷ 0 ∷ [] = m ∙ λ i. sym p i ∷ sym q i ∷ y.zero i ∷ [] in
    let u : little 4 (8 * (r + e)) ≡ part l (t + 8) 4 = ap (little 4) (sym y.runs_back) ∙ little_again 4 l (t + 8) (omega arith) b in
    let v : little 4 (8 * e) ≡ part l (t + 12) 4 = ap (little 4) (sym y.entries_back) ∙ little_again 4 l (t + 12) (omega arith) b in
    sym (split_trailer l t ∙ λ i. y.word i ++ (m' i ++ (sym u i ++ sym v i)))

-- ---- the whole

module _ (l : List ℕ) (b : Bytes l) (r e : ℕ) (g : Got l r e) (y : Trailer l (trailer_at l) r e) (z : (k : ℕ) → k < r → blank_at l k ≡ true) where
  runs_same : joined r (run_bytes_at (fields_at l r e)) ≡ part l 0 (8 * r)
  unfolding fields_at
  runs_same =
      joined_part item_size l 0 r _ (λ k m.
      ap run_bytes (placed_in 4 r (run_in_at l) no_run no_run k m g.few_runs)
      ∙ run_same l (8 * k) b (omega (arith, g.size)) (z k m)
      ∙ ap (λ (n : ℕ). part l n 8) (sym (zero-add (8 * k))))

  entries_same : joined e (entry_bytes_at (fields_at l r e)) ≡ part l (8 * r) (8 * e)
  unfolding fields_at
  entries_same =
      joined_part item_size l (8 * r) e _ (λ k m.
      ap entry_bytes (placed_in 8 e (entry_in_at l r) no_entry no_entry k m g.few_entries) ∙ entry_same l (8 * r + 8 * k) b (omega (arith, g.size)))

  end_same : trailer_bytes r e ≡ part l (8 * r + 8 * e) 16
  end_same =
      let t : trailer_at l ≡ 8 * r + 8 * e = omega (arith, g.size) in
      trailer_same l (trailer_at l) r e b (omega (arith, g.size)) y g.r_is g.e_is ∙ ap (λ (k : ℕ). part l k 16) t

  bytes_same : encode (fields_at l r e) ≡ l
  unfolding encode fields_at
  bytes_same =
      (λ i. runs_same i ++ (entries_same i ++ end_same i))
      ∙ ap (λ (x : List ℕ). part l 0 (8 * r) ++ x) (part_join l (8 * r) (8 * e) 16)
      ∙ ap (λ (k : ℕ). part l 0 (8 * r) ++ part l k (8 * e + 16)) (sym (zero-add (8 * r)))
      ∙ part_join l 0 (8 * r) (8 * e + 16)
      ∙ part_all l (8 * r + (8 * e + 16)) (omega (arith, g.size))

-- what is accepted
pub record Accepted (l : List ℕ) : Type 0 where
  pub from : Got l (runs_in l) (entries_in l)
  pub trailer : Trailer l (trailer_at l) (runs_in l) (entries_in l)
  pub blanks : (k : ℕ) → k < runs_in l → blank_at l k ≡ true
  pub rules : keeps_rules (fields_in l) ≡ true

pub accepted : (l : List ℕ) → accepts l ≡ true → Accepted l
unfolding accepts
accepted l h =
    let t : trailed l ≡ true = and_l _ _ h in
    let a = and_r (trailed l) (all_below (runs_in l) (blank_at l) && keeps_rules (fields_in l)) h in
    record {
      from = got l t;
      trailer = trailer_facts l (trailer_at l) (runs_in l) (entries_in l) (and_r (leb 16 (length l)) _ t);
      blanks = all_at (blank_at l) (runs_in l) (and_l _ _ a);
      rules = and_r (all_below (runs_in l) (blank_at l)) _ a;
    }

pub written_again : (l : List ℕ) → Bytes l → accepts l ≡ true → encode (fields_in l) ≡ l
written_again l b h = let a = accepted l h in bytes_same l b (runs_in l) (entries_in l) a.from a.trailer a.blanks
