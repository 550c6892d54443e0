-- The payload of a line that was read.
use Prim.Native.Nat.{ℕ, ◌+◌, ◌/◌, ◌≤◌}
use native.Mathlib.Omega.{arith}
use mathlib.Core.Path.{◌≡◌, sym, ap, ◌∙◌}
use mathlib.Core.Bool.{Bool, true, false, ◌||◌, not}
use mathlib.Core.List.{List}
use lib.ListN.{length, take}
use lib.Seq.{sets, length-sets}
use lib.Dec.{leb, eqb}
use borrow.Author.Tests.{leb-true}
use Rattle.std.proofs.Common.{Option, Some, None}
use Rattle.std.specs.Option.{option_map, option_and_then}
use Rattle.lists.specs.Below.{pick}
use Rattle.lists.specs.Bytes.{part}
use Rattle.lists.proofs.Logic.{decided}
use Rattle.lists.proofs.Parts.{part_sets}
use Rattle.lists.proofs.Tables.{table_long}
use Rattle.events.specs.declared.Answer.TheVariants as answer
use Rattle.events.specs.declared.Refusal.TheVariants as refusal
use Rattle.state.specs.declared.State.{State}
use Rattle.rules.specs.Act.{Out, step}
use Rattle.numerals.specs.Hex.{is_hex, hex_bytes, pair_at}
use Rattle.lines.specs.declared.Verb.{Verb}
use Rattle.lines.specs.declared.Arguments.{Arguments}
use Rattle.lines.specs.declared.Said.{Said}
use Rattle.lines.specs.Fields.{field_count, field}
use Rattle.lines.specs.Grammar.{longest_line, payload_room, verb_of, shape_of, arguments_of, Saying, hex_field, said_with, said_by, saying_of, payload_in, payload_of, said_of, line_of}
use Rattle.lines.proofs.Laws.{field_few}
use Rattle.desk.specs.Heard.{heard, heard_as}

abbrev Few : Option Saying → Type 0
Few s = length (payload_in s) ≤ payload_room

few_then : {A : Type 0} (f : A → Option Saying) (o : Option A) → ((x : A) → Few (f x)) → Few (option_and_then f o)
few_then f None h = omega arith
few_then f (Some x) h = h x

few_picked : (t : Bool) (s : Option Saying) → Few s → Few (pick t s None)
few_picked true s h = h
few_picked false s h = omega arith

few_with : (l : List ℕ) (v : Verb) (x : Arguments) → length l ≤ longest_line → Few (said_with l v x)
unfolding hex_bytes
few_with l v x h =
    few_picked (not (shape_of v).hex || is_hex (hex_field l v)) _
    (decided (shape_of v).hex
    (λ t. rw t (omega (arith, table_long (pair_at (hex_field l v)) (length (hex_field l v) / 2), field_few l ((shape_of v).numbers + 1))))
    (λ t. rw t (omega arith)))

-- a line's payload has at most a thousand bytes
pub payload_few : (l : List ℕ) → length (payload_of l) ≤ payload_room
unfolding payload_of saying_of
payload_few l =
    decided (leb (length l) longest_line)
    (λ t. rw t (few_then (said_by l) (verb_of (field l 0)) (λ v.
    few_picked (eqb (field_count l) (shape_of v).fields) _
    (few_then (said_with l v) (arguments_of l (shape_of v).numbers) (λ x. few_with l v x (leb-true (length l) longest_line t))))))
    (λ t. rw t (omega arith))

said_by_all : (s : Option Saying) (x : Said) → Some x ≡ option_map said_of s → x.length ≡ length (payload_in s)
said_by_all None x e = absurd (cc)
said_by_all (Some y) x e = let h : x ≡ said_of y = cc in ap (λ (z : Said). z.length) h

-- a line that says an event says how many bytes go with it
said_length : (r : Option Said) (l : List ℕ) (x : Said) → r ≡ Some x → r ≡ line_of l → x.length ≡ length (payload_of l)
unfolding line_of payload_of
said_length r l x h g = said_by_all (saying_of l) x (sym h ∙ g)

-- they all lie in the room that was lent for them
pub said_fits : (r : Option Said) (l : List ℕ) (x : Said) (d old : List ℕ) → r ≡ Some x → r ≡ line_of l → payload_room ≤ length old → d ≡ sets old 0 (payload_of l) → x.length ≤ length d
said_fits r l x d old h g room f = omega (arith, said_length r l x h g, payload_few l, ap length f, length-sets old 0 (payload_of l))

-- the bytes that were put are the payload
pub put_back : (m p : List ℕ) (n : ℕ) → n ≡ length p → length p ≤ length m → take n (sets m 0 p) ≡ p
unfolding part
put_back m p n e h = rw e (part_sets m 0 p (omega arith))

module _ (s : State) (m l buffer : List ℕ) (r : Option Said) (g : r ≡ line_of l) where
  pub heard_said : (x : Said) (d old : List ℕ) (o : Out) → r ≡ Some x → payload_room ≤ length old → d ≡ sets old 0 (payload_of l) → o ≡ step s m x.event (take x.length d) buffer → o ≡ heard s m l buffer
  unfolding heard
  heard_said x d old o h room f q =
      let k : take x.length d ≡ payload_of l = ap (λ (y : List ℕ). take x.length y) f ∙ put_back old (payload_of l) x.length (said_length r l x h g) (omega (arith, payload_few l)) in
      q ∙ (ap (λ (y : List ℕ). step s m x.event y buffer) k ∙ ap (λ (y : Option Said). heard_as y s m (payload_of l) buffer) (sym h ∙ g))

  pub heard_not : r ≡ None → record { answer = answer.Refused refusal.Unreadable; state = s; memory = m; buffer = buffer } ≡ heard s m l buffer
  unfolding heard
  heard_not h = ap (λ (y : Option Said). heard_as y s m (payload_of l) buffer) (sym h ∙ g)
