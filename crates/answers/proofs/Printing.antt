-- How an answer's text is put together.
use Prim.Native.Nat.{ℕ, min, zero, suc, ◌+◌, ◌*◌, ◌/◌, ◌%◌, ◌≤◌, ◌<◌}
use native.Mathlib.Omega.{arith}
use mathlib.Core.Path.{◌≡◌, refl, sym, subst, ap, ◌∙◌}
use mathlib.Core.List.{List, [], ◌∷◌, ◌++◌, append_assoc}
use lib.ListN.{length, set, take, length-append, length-take}
use lib.Seq.{sets, length-sets}
use lib.Dec.{ltb}
use borrow.Author.Tests.{lt-ltb, le-ltb}
use Rattle.lists.proofs.Logic.{decided, pick_true, pick_false}
use Rattle.lists.proofs.Parts.{sets_turn, sets_next}
use Rattle.events.specs.declared.Answer.{Answer}
use Rattle.events.specs.declared.Answer.TheVariants.{Done, Slot, Entered, Left, Terminated, Filled, Refused}
use Rattle.events.specs.Refusals.{number_of}
use Rattle.numerals.specs.Decimal.{digits, decimal}
use Rattle.numerals.specs.Hex.{pairs}
use Rattle.answers.specs.Text.{most_shown, longest_text, shown_of, ended, text_of, printed}

-- the newline after what is in place
pub word_turn : {d : List ℕ} (t w : List ℕ) (e : ℕ) → d ≡ sets t 0 w → e ≡ length w → set d e 10 ≡ sets t 0 (ended w)
word_turn {d} t w e h f =
    let z : 0 + length w ≡ e = omega arith in
    subst (λ (k : ℕ). set d k 10 ≡ sets t 0 (ended w)) z (sets_turn t 0 (length w) w 10 h refl)

-- the newline after a word and what follows it
pub end_turn : {a b : List ℕ} (t w d : List ℕ) (e : ℕ) → a ≡ sets t 0 w → b ≡ sets a (length w) d → e ≡ length w + length d → set b e 10 ≡ sets t 0 (w ++ ended d)
end_turn t w d e h g f =
    let z : length w ≡ 0 + length w = omega arith in
    word_turn t (w ++ d) e (g ∙ sets_next t 0 (length w) w d h z) (f ∙ sym (length-append w d))
    ∙ ap (λ (l : List ℕ). sets t 0 l) (append_assoc w d (10 ∷ []))

pub ended_long : (w : List ℕ) → length w + 1 ≡ length (ended w)
ended_long w = sym (length-append w (10 ∷ []))

pub line_long : (w d : List ℕ) (e : ℕ) → e ≡ length w + length d → e + 1 ≡ length (w ++ ended d)
line_long w d e h = omega (arith, length-append w (ended d), length-append d (10 ∷ []))

-- what is put in place leaves the length
pub put_long : {d : List ℕ} (t : List ℕ) (p : ℕ) (w : List ℕ) → d ≡ sets t p w → length d ≡ length t
put_long t p w h = ap length h ∙ length-sets t p w

-- at most twenty digits
digits_long : (n x : ℕ) → length (digits n x) ≤ n + 1
unfolding digits
digits_long zero x = omega arith
digits_long (suc n) x =
    decided (ltb x 10)
    (λ t. let e : digits (suc n) x ≡ (48 + x) ∷ [] = pick_true _ _ _ t in omega (arith, ap length e))
    (λ t.
    let e : digits (suc n) x ≡ digits n (x / 10) ++ ((48 + x % 10) ∷ []) = pick_false _ _ _ t in
    omega (arith, ap length e, length-append (digits n (x / 10)) ((48 + x % 10) ∷ []), digits_long n (x / 10)))

pub decimal_long : (x : ℕ) → length (decimal x) ≤ 20
unfolding decimal
decimal_long x = digits_long 19 x

pub pairs_long : (l : List ℕ) → length (pairs l) ≡ length l * 2
unfolding pairs
pairs_long [] = refl
pairs_long (b ∷ bs) = omega (arith, pairs_long bs)

-- the text as it is printed, from what was put in place
pub told : {d : List ℕ} (t : List ℕ) (a : Answer) (buffer p : List ℕ) (r : ℕ) → longest_text ≤ length t → text_of a buffer ≡ p → d ≡ sets t 0 p → r ≡ length p
    → (d ≡ sets t 0 (printed (length t) a buffer)) × (r ≡ length (printed (length t) a buffer))
unfolding printed
told t a buffer p r h e f g =
    let q : p ≡ printed (length t) a buffer = sym e ∙ sym (pick_false _ _ _ (le-ltb (length t) longest_text h)) in
    (f ∙ ap (λ (l : List ℕ). sets t 0 l) q, g ∙ ap length q)

-- no room
pub told_none : (t : List ℕ) (a : Answer) (buffer : List ℕ) → length t < longest_text → (t ≡ sets t 0 (printed (length t) a buffer)) × (0 ≡ length (printed (length t) a buffer))
unfolding printed
told_none t a buffer h =
    let q : [] ≡ printed (length t) a buffer = sym (pick_true _ _ _ (lt-ltb (length t) longest_text h)) in
    (ap (λ (l : List ℕ). sets t 0 l) q, ap length q)

-- bytes after their word, of an answer of n of them
pub bytes_told : (a : Answer) (buffer : List ℕ) (n c m : ℕ) → a ≡ Filled n → c ≡ min n most_shown → m ≡ min c (length buffer)
    → text_of a buffer ≡ (104 ∷ 101 ∷ 120 ∷ 32 ∷ []) ++ ended (pairs (take m buffer))
bytes_told a buffer n c m e f g =
    ap (λ (x : Answer). text_of x buffer) e
    ∙ ap (λ (k : ℕ). (104 ∷ 101 ∷ 120 ∷ 32 ∷ []) ++ ended (pairs (take k buffer))) (sym (g ∙ ap (λ (k : ℕ). min k (length buffer)) f))

shown_few : (n : ℕ) (buffer : List ℕ) → length (shown_of n buffer) ≤ most_shown
shown_few n buffer = omega (arith, length-take (min (min n most_shown) (length buffer)) buffer)

-- a text has a character at least, its newline, and at most 8,197
number_room : (x : ℕ) → (1 ≤ length (ended (decimal x))) × (length (ended (decimal x)) ≤ 21)
number_room x = (omega (arith, ended_long (decimal x)), omega (arith, ended_long (decimal x), decimal_long x))

bytes_room : (n : ℕ) (buffer : List ℕ) → (1 ≤ length (ended (pairs (shown_of n buffer)))) × (length (ended (pairs (shown_of n buffer))) ≤ most_shown * 2 + 1)
bytes_room n buffer =
    let e = ended_long (pairs (shown_of n buffer)) in
    (omega arith, omega (arith, pairs_long (shown_of n buffer), shown_few n buffer))

pub text_room : (a : Answer) (buffer : List ℕ) → (1 ≤ length (text_of a buffer)) × (length (text_of a buffer) ≤ longest_text)
text_room Done buffer = (omega arith, omega arith)
text_room (Slot s) buffer = let h = number_room s in (omega arith, omega arith)
text_room (Entered s) buffer = let h = number_room s in (omega arith, omega arith)
text_room (Left n) buffer = let h = number_room n in (omega arith, omega arith)
text_room (Terminated s) buffer = let h = number_room s in (omega arith, omega arith)
text_room (Filled n) buffer = let h = bytes_room n buffer in (omega arith, omega arith)
text_room (Refused r) buffer = let h = number_room (number_of r) in (omega arith, omega arith)
