-- What a line says, from what was found of it.
use Prim.Native.Nat.{ℕ, ◌+◌, ◌/◌, ◌≤◌, ◌<◌}
use mathlib.Core.Path.{◌≡◌, sym, ap, ◌∙◌}
use mathlib.Core.Bool.{true, false}
use mathlib.Core.List.{List, []}
use lib.ListN.{length}
use lib.Seq.{sets}
use borrow.Author.Tests.{lt-leb, le-leb, ne_eqb, eq-eqb}
use Rattle.std.proofs.Common.{Option, Some, None}
use Rattle.std.specs.Option.{option_map, option_and_then}
use Rattle.lists.proofs.Logic.{pick_true, pick_false}
use Rattle.lists.proofs.Tables.{table_long}
use Rattle.events.specs.declared.Event.{Event}
use Rattle.numerals.specs.Hex.{is_hex, hex_bytes, pair_at}
use Rattle.lines.specs.declared.Verb.{Verb}
use Rattle.lines.specs.declared.Shape.{Shape}
use Rattle.lines.specs.declared.Arguments.{Arguments}
use Rattle.lines.specs.declared.Said.{Said}
use Rattle.lines.specs.Fields.{field_count, field}
use Rattle.lines.specs.Grammar.{longest_line, verb_of, shape_of, event_of, arguments_of, Saying, hex_field, said_with, said_by, saying_of, payload_in, payload_of, said_of, line_of}

-- a line that says nothing
pub refused : (l m : List ℕ) (r : Option Said) → r ≡ None → saying_of l ≡ None → (r ≡ line_of l) × (m ≡ sets m 0 (payload_of l))
unfolding line_of payload_of
refused l m r e h = (e ∙ sym (ap (option_map said_of) h), ap (λ (s : Option Saying). sets m 0 (payload_in s)) (sym h))

-- and one that says something
pub told : (l m : List ℕ) (e f : Event) (p : List ℕ) (n : ℕ) → saying_of l ≡ Some (record { event = f; payload = p }) → e ≡ f → n ≡ length p
    → (Some (record { event = e; length = n }) ≡ line_of l) × (sets m 0 p ≡ sets m 0 (payload_of l))
unfolding line_of payload_of
told l m e f p n h g k =
    (rw (g, k) (sym (ap (option_map said_of) h)), ap (λ (s : Option Saying). sets m 0 (payload_in s)) (sym h))

-- a line over 2,000 characters
pub no_long : (l : List ℕ) → longest_line < length l → saying_of l ≡ None
unfolding saying_of
no_long l h = pick_false _ _ _ (lt-leb (length l) longest_line h)

short_said : (l : List ℕ) → length l ≤ longest_line → saying_of l ≡ option_and_then (said_by l) (verb_of (field l 0))
unfolding saying_of
short_said l h = pick_true _ _ _ (le-leb (length l) longest_line h)

-- a line with no verb
pub no_verb : (l w : List ℕ) → length l ≤ longest_line → w ≡ field l 0 → None ≡ verb_of w → saying_of l ≡ None
no_verb l w h f e = short_said l h ∙ ap (option_and_then (said_by l)) (ap verb_of (sym f) ∙ sym e)

-- what is known of a line when its verb is
pub record Known (l w : List ℕ) (v : Verb) (sh : Shape) : Type 0 where
  pub short : length l ≤ longest_line
  pub word : w ≡ field l 0
  pub verb : Some v ≡ verb_of w
  pub shape : sh ≡ shape_of v

module _ {l w : List ℕ} {v : Verb} {sh : Shape} (k : Known l w v sh) where
  verb_said : saying_of l ≡ said_by l v
  verb_said = short_said l k.short ∙ ap (option_and_then (said_by l)) (ap verb_of (sym k.word) ∙ sym k.verb)

  -- another number of fields
  pub no_count : (n : ℕ) → n ≡ field_count l → (n ≡ sh.fields → ⊥) → saying_of l ≡ None
  no_count n e h = verb_said ∙ pick_false _ _ _ (ne_eqb _ _ (λ g. h (e ∙ (g ∙ sym (ap (λ (s : Shape). s.fields) k.shape)))))

  module _ (n : ℕ) (e : n ≡ field_count l) (f : n ≡ sh.fields) where
    counted : saying_of l ≡ option_and_then (said_with l v) (arguments_of l (shape_of v).numbers)
    counted = verb_said ∙ pick_true _ _ _ (eq-eqb _ _ (sym e ∙ (f ∙ ap (λ (s : Shape). s.fields) k.shape)))

    -- a field that is to be a number and is none
    pub no_numbers : None ≡ arguments_of l sh.numbers → saying_of l ≡ None
    no_numbers h = counted ∙ ap (option_and_then (said_with l v)) (sym (h ∙ ap (λ (s : Shape). arguments_of l s.numbers) k.shape))

    module _ (x : Arguments) (h : Some x ≡ arguments_of l sh.numbers) where
      numbered : saying_of l ≡ said_with l v x
      numbered = counted ∙ ap (option_and_then (said_with l v)) (sym (h ∙ ap (λ (s : Shape). arguments_of l s.numbers) k.shape))

      hex_is : (t : List ℕ) → t ≡ field l (sh.numbers + 1) → t ≡ hex_field l v
      hex_is t e = e ∙ ap (λ (s : Shape). field l (s.numbers + 1)) k.shape

      -- a line with no HEX
      pub yes_plain : sh.hex ≡ false → saying_of l ≡ Some (record { event = event_of v x; payload = [] })
      yes_plain a =
          let g : (shape_of v).hex ≡ false = sym (ap (λ (s : Shape). s.hex) k.shape) ∙ a in
          numbered ∙ rw g

      module _ (t : List ℕ) (a : sh.hex ≡ true) (d : t ≡ field l (sh.numbers + 1)) where
        -- a field that is to be HEX and is none
        pub no_hex : is_hex t ≡ false → saying_of l ≡ None
        no_hex b =
            let g : (shape_of v).hex ≡ true = sym (ap (λ (s : Shape). s.hex) k.shape) ∙ a in
            let i : is_hex (hex_field l v) ≡ false = ap is_hex (sym (hex_is t d)) ∙ b in
            numbered ∙ rw (g, i)

        -- a line with one
        pub yes_hex : is_hex t ≡ true → saying_of l ≡ Some (record { event = event_of v x; payload = hex_bytes t })
        yes_hex b =
            let g : (shape_of v).hex ≡ true = sym (ap (λ (s : Shape). s.hex) k.shape) ∙ a in
            let i : is_hex (hex_field l v) ≡ true = ap is_hex (sym (hex_is t d)) ∙ b in
            numbered ∙ (rw (g, i) (ap (λ (y : List ℕ). Some (record { event = event_of v x; payload = hex_bytes y })) (sym (hex_is t d))))

-- a byte for each pair
pub hex_long : (t : List ℕ) → length t / 2 ≡ length (hex_bytes t)
unfolding hex_bytes
hex_long t = sym (table_long (pair_at t) (length t / 2))

-- a verb that was found
pub found : (r s : Option Verb) → option_map (λ v. v) r ≡ s → r ≡ s
found None s e = e
found (Some v) s e = e
