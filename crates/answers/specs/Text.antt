-- Answers as text. "Answers: `ok`, `slot S`, `in S`, `out N`, `dead S`, `hex` and the bytes, `no R`." Each ends in one newline.
use Rattle.std.specs.Prelude.{ℕ, ◌≤◌, ◌<◌, ◌^◌, ◌≡◌, List, [], ◌∷◌, ◌++◌, length, take, get_or, min, ltb}
use Rattle.geometry.specs.Geometry.{page_size}
use Rattle.lists.specs.Below.{pick}
use Rattle.events.specs.declared.Answer.{Answer}
use Rattle.events.specs.declared.Answer.TheVariants.{Done, Slot, Entered, Left, Terminated, Filled, Refused}
use Rattle.events.specs.Refusals.{number_of}
use Rattle.numerals.specs.Decimal.{decimal}
use Rattle.numerals.specs.Hex.{pairs}

-- the most bytes of an answer, a page
abbrev pub most_shown : ℕ
most_shown = page_size

-- the longest text: `hex `, two characters a byte, a newline
abbrev pub longest_text : ℕ
longest_text = 8197

-- the bytes of an answer of n bytes
abbrev pub shown_of : ℕ → List ℕ → List ℕ
shown_of n buffer = take (min (min n most_shown) (length buffer)) buffer

-- with a newline
abbrev pub ended : List ℕ → List ℕ
ended l = l ++ (10 ∷ [])

abbrev pub text_of : Answer → List ℕ → List ℕ
-- ok
text_of Done buffer = ended (111 ∷ 107 ∷ [])
-- slot S
text_of (Slot s) buffer = (115 ∷ 108 ∷ 111 ∷ 116 ∷ 32 ∷ []) ++ ended (decimal s)
-- in S
text_of (Entered s) buffer = (105 ∷ 110 ∷ 32 ∷ []) ++ ended (decimal s)
-- out N
text_of (Left n) buffer = (111 ∷ 117 ∷ 116 ∷ 32 ∷ []) ++ ended (decimal n)
-- dead S
text_of (Terminated s) buffer = (100 ∷ 101 ∷ 97 ∷ 100 ∷ 32 ∷ []) ++ ended (decimal s)
-- hex and the bytes
text_of (Filled n) buffer = (104 ∷ 101 ∷ 120 ∷ 32 ∷ []) ++ ended (pairs (shown_of n buffer))
-- no R
text_of (Refused r) buffer = (110 ∷ 111 ∷ 32 ∷ []) ++ ended (decimal (number_of r))

-- into room for any text, or nothing
unfoldable pub printed : ℕ → Answer → List ℕ → List ℕ
printed room a buffer = pick (ltb room longest_text) [] (text_of a buffer)

-- ---- what is printed for an answer determines it

-- numbers as the machine has them; bytes that are there
abbrev pub Fits : Answer → List ℕ → Type 0
Fits Done buffer = Unit {0}
Fits (Slot s) buffer = s < 2 ^ 64
Fits (Entered s) buffer = s < 2 ^ 64
Fits (Left n) buffer = n < 2 ^ 64
Fits (Terminated s) buffer = s < 2 ^ 64
Fits (Filled n) buffer = (n ≤ most_shown) × (n ≤ length buffer) × ((i : ℕ) → get_or buffer i 0 < 256)
Fits (Refused r) buffer = Unit {0}

-- the bytes of the buffer that an answer speaks of
abbrev pub told_bytes : Answer → List ℕ → List ℕ
told_bytes Done buffer = []
told_bytes (Slot s) buffer = []
told_bytes (Entered s) buffer = []
told_bytes (Left n) buffer = []
told_bytes (Terminated s) buffer = []
told_bytes (Filled n) buffer = take n buffer
told_bytes (Refused r) buffer = []

abbrev pub Determined : Type 0
Determined = (a b : Answer) (x y : List ℕ) → Fits a x → Fits b y → text_of a x ≡ text_of b y → (a ≡ b) × (told_bytes a x ≡ told_bytes b y)
