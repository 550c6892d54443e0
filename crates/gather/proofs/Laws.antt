-- Laws of lines in a text.
use Prim.Native.Nat.{ℕ, zero, suc, ◌+◌, ◌≤◌, ◌<◌}
use native.Mathlib.Omega.{arith}
use mathlib.Core.Path.{◌≡◌, refl, sym, ap, ◌∙◌}
use mathlib.Core.Bool.{true, false}
use mathlib.Core.List.{List, [], ◌∷◌, ◌++◌, append_assoc, append-nil}
use lib.ListN.{length, set, take, drop}
use lib.Dec.{eqb}
use borrow.Author.Tests.{lt-ltb, le-ltb}
use Rattle.lists.proofs.Logic.{decided, pick_true, pick_false}
use Rattle.numerals.specs.Place.{is_at}
use Rattle.numerals.proofs.Places.{place_at, place_before}
use Rattle.gather.specs.Lines.{newline, ended_lines, open_line, last_line, lines_of, line_end, most_kept, clipped, received_of, with_newline}
use Rattle.gather.specs.Cuts.{Cuts, LastLines}

-- one character, a newline or not
pub ended_newline : (l : List ℕ) (c : ℕ) (cs : List ℕ) → eqb c newline ≡ true → ended_lines l (c ∷ cs) ≡ l ∷ ended_lines [] cs
unfolding ended_lines
ended_newline l c cs t = pick_true _ _ _ t

pub ended_other : (l : List ℕ) (c : ℕ) (cs : List ℕ) → eqb c newline ≡ false → ended_lines l (c ∷ cs) ≡ ended_lines (l ++ (c ∷ [])) cs
unfolding ended_lines
ended_other l c cs t = pick_false _ _ _ t

pub open_newline : (l : List ℕ) (c : ℕ) (cs : List ℕ) → eqb c newline ≡ true → open_line l (c ∷ cs) ≡ open_line [] cs
unfolding open_line
open_newline l c cs t = pick_true _ _ _ t

pub open_other : (l : List ℕ) (c : ℕ) (cs : List ℕ) → eqb c newline ≡ false → open_line l (c ∷ cs) ≡ open_line (l ++ (c ∷ [])) cs
unfolding open_line
open_other l c cs t = pick_false _ _ _ t

-- blocks may be cut anywhere
pub ended_cut : (l a b : List ℕ) → ended_lines l (a ++ b) ≡ ended_lines l a ++ ended_lines (open_line l a) b
unfolding ended_lines open_line
ended_cut l [] b = refl
ended_cut l (c ∷ cs) b =
    decided (eqb c newline)
    (λ t. ended_newline l c (cs ++ b) t
    ∙ (ap (λ (x : List (List ℕ)). l ∷ x) (ended_cut [] cs b)
    ∙ sym (ap (λ (x : List (List ℕ)). x ++ ended_lines (open_line l (c ∷ cs)) b) (ended_newline l c cs t) ∙ ap (λ (x : List ℕ). l ∷ (ended_lines [] cs ++ ended_lines x b)) (open_newline l c cs t))))
    (λ t. ended_other l c (cs ++ b) t
    ∙ (ended_cut (l ++ (c ∷ [])) cs b
    ∙ sym (ap (λ (x : List (List ℕ)). x ++ ended_lines (open_line l (c ∷ cs)) b) (ended_other l c cs t) ∙ ap (λ (x : List ℕ). ended_lines (l ++ (c ∷ [])) cs ++ ended_lines x b) (open_other l c cs t))))

pub open_cut : (l a b : List ℕ) → open_line l (a ++ b) ≡ open_line (open_line l a) b
unfolding open_line
open_cut l [] b = refl
open_cut l (c ∷ cs) b =
    decided (eqb c newline)
    (λ t. open_newline l c (cs ++ b) t ∙ (open_cut [] cs b ∙ sym (ap (λ (x : List ℕ). open_line x b) (open_newline l c cs t))))
    (λ t. open_other l c (cs ++ b) t ∙ (open_cut (l ++ (c ∷ [])) cs b ∙ sym (ap (λ (x : List ℕ). open_line x b) (open_other l c cs t))))

pub cuts : Cuts
cuts l a b = (ended_cut l a b, open_cut l a b)

pub last_lines : LastLines
unfolding lines_of ended_lines open_line
last_lines input c cs h =
    ap (λ (x : List ℕ). ended_lines [] input ++ last_line x) h
    ∙ sym (ap (λ (x : List (List ℕ)). x ++ last_line (open_line [] (input ++ (newline ∷ [])))) (ended_cut [] input (newline ∷ []) ∙ ap (λ (x : List ℕ). ended_lines [] input ++ (x ∷ [])) h)
    ∙ (ap (λ (x : List ℕ). (ended_lines [] input ++ ((c ∷ cs) ∷ [])) ++ last_line x) (open_cut [] input (newline ∷ [])) ∙ append-nil _))

-- no newline in a text: no line ends there
pub none_ended : (l t : List ℕ) → ((i : ℕ) → i < length t → is_at t newline i ≡ false) → ended_lines l t ≡ []
unfolding ended_lines
none_ended l [] h = refl
none_ended l (c ∷ cs) h = ended_other l c cs (h 0 (omega arith)) ∙ none_ended (l ++ (c ∷ [])) cs (λ i b. h (suc i) (omega arith))

pub none_open : (l t : List ℕ) → ((i : ℕ) → i < length t → is_at t newline i ≡ false) → open_line l t ≡ l ++ t
unfolding open_line
none_open l [] h = sym (append-nil l)
none_open l (c ∷ cs) h = open_other l c cs (h 0 (omega arith)) ∙ (none_open (l ++ (c ∷ [])) cs (λ i b. h (suc i) (omega arith)) ∙ append_assoc l (c ∷ []) cs)

-- the first newline of a text ends a line
some_ended : (l t : List ℕ) (k : ℕ) → k < length t → ((i : ℕ) → i < k → is_at t newline i ≡ false) → is_at t newline k ≡ true → ended_lines l t ≡ (l ++ take k t) ∷ ended_lines [] (drop (suc k) t)
some_ended l [] k b h t = absurd (omega arith)
some_ended l (c ∷ cs) zero b h t = ended_newline l c cs t ∙ ap (λ (x : List ℕ). x ∷ ended_lines [] cs) (sym (append-nil l))
some_ended l (c ∷ cs) (suc k) b h t =
    ended_other l c cs (h 0 (omega arith))
    ∙ (some_ended (l ++ (c ∷ [])) cs k (omega arith) (λ i q. h (suc i) (omega arith)) t
    ∙ ap (λ (x : List ℕ). x ∷ ended_lines [] (drop (suc k) cs)) (append_assoc l (c ∷ []) (take k cs)))

some_open : (l t : List ℕ) (k : ℕ) → k < length t → ((i : ℕ) → i < k → is_at t newline i ≡ false) → is_at t newline k ≡ true → open_line l t ≡ open_line [] (drop (suc k) t)
some_open l [] k b h t = absurd (omega arith)
some_open l (c ∷ cs) zero b h t = open_newline l c cs t
some_open l (c ∷ cs) (suc k) b h t = open_other l c cs (h 0 (omega arith)) ∙ some_open (l ++ (c ∷ [])) cs k (omega arith) (λ i q. h (suc i) (omega arith)) t

-- a text's first line, or none
pub first_line : (t : List ℕ) (e : ℕ) → e ≡ line_end t → e < length t → ended_lines [] t ≡ take e t ∷ ended_lines [] (drop (suc e) t)
first_line t e h b = some_ended [] t e b (place_before t newline e h) (place_at t newline e h b)

-- the line that has not ended is that of what follows
pub first_open : (t : List ℕ) (e : ℕ) → e ≡ line_end t → e < length t → open_line [] t ≡ open_line [] (drop (suc e) t)
first_open t e h b = some_open [] t e b (place_before t newline e h) (place_at t newline e h b)

pub no_line : (t : List ℕ) (e : ℕ) → e ≡ line_end t → length t ≤ e → ended_lines [] t ≡ []
no_line t e h b = none_ended [] t (λ i q. place_before t newline e h i (omega arith))

-- a count of at most 2,001 is kept
pub clip_few : (n : ℕ) → n ≤ most_kept → clipped n ≡ n
clip_few n h = omega arith

pub clip_many : (n : ℕ) → most_kept < n → clipped n ≡ most_kept
clip_many n h = omega arith

-- what is read behind what is kept
module _ (block : List ℕ) (kept n : ℕ) where
  pub received_some : 0 < n → (record { end = kept + n; more = true } ≡ received_of kept n) × (block ≡ with_newline block kept n)
  unfolding received_of with_newline
  received_some h = (rw (lt-ltb 0 n h), rw (lt-ltb 0 n h))

  pub received_last : n ≤ 0 → 0 < kept → (record { end = kept + 1; more = false } ≡ received_of kept n) × (set block kept newline ≡ with_newline block kept n)
  unfolding received_of with_newline
  received_last h k = (rw (le-ltb 0 n h, lt-ltb 0 kept k), rw (le-ltb 0 n h, lt-ltb 0 kept k))

  pub received_none : n ≤ 0 → kept ≤ 0 → (record { end = 0; more = false } ≡ received_of kept n) × (block ≡ with_newline block kept n)
  unfolding received_of with_newline
  received_none h k = (rw (le-ltb 0 n h, le-ltb 0 kept k), rw (le-ltb 0 n h, le-ltb 0 kept k))
