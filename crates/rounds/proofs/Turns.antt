-- The loops of the schedule and of the rounds, one turn each.
use Rattle.std.proofs.Common.{◌≡◌, ℕ, zero, suc, ◌+◌, ◌*◌, ◌/◌, ◌<◌, ◌≤◌, List, [], ◌∷◌, ◌++◌, length, get_or, take, drop, set, refl, sym, ap, ◌∙◌, ap₂, add-one, arith, get_or-take, take-suc-set, length-drop}
use lib.Bits.{bit_xor}
use Rattle.lists.specs.Below.{table}
use Rattle.blocks.specs.Blocks.{word}
use Rattle.rounds.specs.declared.Words.{Words}
use Rattle.rounds.specs.Word.{rotl}
use Rattle.rounds.specs.Rounds.{next_word, grown, schedule, mix, constant, stepped, round, rounds}
use Rattle.std.specs.List.{fold}
use Rattle.std.proofs.lemmas.List.Sums.{fold_more}
use native.Mathlib.Nat.{add-zero, add-suc}
use lib.Seq.{get_or-drop}

pub more_words : (b w : List ℕ) (t v : ℕ) → t < length w → take t w ≡ table (word b) t → v ≡ word b t → take (t + 1) (set w t v) ≡ table (word b) (t + 1)
unfolding table
more_words b w t v h e f = rw add-one (take-suc-set w t v h ∙ ap₂ (λ (l : List ℕ) (x : ℕ). l ++ (x ∷ [])) e f)

-- the next word, read from the array
next_is : (w : List ℕ) (n : ℕ) →
    next_word (take (n + 16) w) n ≡ rotl 1 (bit_xor (bit_xor (bit_xor (get_or w (n + 13) 0) (get_or w (n + 8) 0)) (get_or w (n + 2) 0)) (get_or w n 0))
unfolding next_word
next_is w n =
    let h13 : n + 13 < n + 16 = omega arith in
    let h8 : n + 8 < n + 16 = omega arith in
    let h2 : n + 2 < n + 16 = omega arith in
    let h0 : n < n + 16 = omega arith in
    simp (get_or-take (n + 16) w (n + 13) 0 h13, get_or-take (n + 16) w (n + 8) 0 h8, get_or-take (n + 16) w (n + 2) 0 h2, get_or-take (n + 16) w n 0 h0)

pub more_schedule : (b w : List ℕ) (n m v : ℕ) → n + 16 < length w → m ≡ n + 1 → take (n + 16) w ≡ schedule b n
    → v ≡ rotl 1 (bit_xor (bit_xor (bit_xor (get_or w (n + 13) 0) (get_or w (n + 8) 0)) (get_or w (n + 2) 0)) (get_or w n 0))
    → take (m + 16) (set w (n + 16) v) ≡ schedule b m
unfolding schedule grown
more_schedule b w n m v h d e f =
    let k : m + 16 ≡ suc (n + 16) = omega arith in
    rw (k, d, add-one n)
    (take-suc-set w (n + 16) v h ∙ ap₂ (λ (l : List ℕ) (x : ℕ). l ++ (x ∷ [])) e (f ∙ sym (next_is w n) ∙ ap (λ (l : List ℕ). next_word l n) e))

-- a round by the value of its quarter's function
pub round_is : (q f k w : ℕ) (s : Words) → f ≡ mix q s.b s.c s.d → k ≡ constant q → stepped f k w s ≡ round q w s
unfolding round
round_is q f k w s e g = rw (e, g) refl

no_rounds : (w : List ℕ) (h : Words) → rounds w 0 h ≡ h
unfolding rounds
no_rounds w h = refl

-- n rounds of quarter q, over the words from its first on
pub rounds_on : (w : List ℕ) (h : Words) (q a n : ℕ) → a ≡ q * 20 → n ≤ 20 → a + n ≤ length w
    → rounds w (a + n) h ≡ fold (λ (s : Words) (x : ℕ). round q x s) (rounds w a h) (take n (drop a w))
unfolding rounds
rounds_on w h q a zero e k l = rw add-zero refl
rounds_on w h q a (suc n) e k l =
    let d : (a + n) / 20 ≡ q = omega arith in
    let g : get_or (drop a w) n 0 ≡ get_or w (a + n) 0 = get_or-drop a w n 0 in
    let m : n < length (drop a w) = omega (arith, length-drop a w) in
    rw (add-suc, d, ← add-one n)
    (ap₂ (λ (x : ℕ) (s : Words). round q x s) (sym g) (rounds_on w h q a n e (omega arith) (omega arith))
    ∙ sym (fold_more (λ (s : Words) (x : ℕ). round q x s) (rounds w a h) (drop a w) n 0 m))

-- the four quarters
pub all_rounds : (w : List ℕ) (h s₁ s₂ s₃ s₄ : Words) → length w ≡ 80 → s₁ ≡ fold (λ (s : Words) (x : ℕ). round 0 x s) h (take 20 w)
    → s₂ ≡ fold (λ (s : Words) (x : ℕ). round 1 x s) s₁ (take 20 (drop 20 w)) → s₃ ≡ fold (λ (s : Words) (x : ℕ). round 2 x s) s₂ (take 20 (drop 40 w))
    → s₄ ≡ fold (λ (s : Words) (x : ℕ). round 3 x s) s₃ (take 20 (drop 60 w)) → s₄ ≡ rounds w 80 h
all_rounds w h s₁ s₂ s₃ s₄ l a b c d =
    let e₁ : s₁ ≡ rounds w 20 h = a ∙ ap (λ (s : Words). fold (λ (r : Words) (x : ℕ). round 0 x r) s (take 20 w)) (sym (no_rounds w h)) ∙ (sym (rounds_on w h 0 0 20 refl (omega arith) (omega arith))) in
    let e₂ : s₂ ≡ rounds w 40 h = b ∙ rw e₁ (sym (rounds_on w h 1 20 20 refl (omega arith) (omega arith))) in
    let e₃ : s₃ ≡ rounds w 60 h = c ∙ rw e₂ (sym (rounds_on w h 2 40 20 refl (omega arith) (omega arith))) in
    d ∙ rw e₃ (sym (rounds_on w h 3 60 20 refl (omega arith) (omega arith)))
