-- What the reader, the writer and the device map leave where they refuse.
use Prim.Native.Nat.{ℕ}
use mathlib.Core.Path.{◌≡◌, refl, subst}
use mathlib.Core.Logic.{◌≢◌}
use mathlib.Core.Bool.{Bool, true, false, ◌&&◌}
use mathlib.Core.List.{List}
use lib.ListN.{length}
use lib.Dec.{leb}
use Rattle.lists.specs.Below.{pick}
use Rattle.fields.specs.declared.Fields.{Fields}
use Rattle.fields.specs.Rules.{keeps_rules}
use Rattle.manifest.specs.declared.Reading.{Reading}
use Rattle.std.specs.Prelude.{Result, Ok, Err}
use Rattle.events.specs.declared.Refusal.{Refusal}
use Rattle.events.specs.declared.Refusal.TheVariants.{NotWellFormed, RuleBroken, BufferShort}
use Rattle.manifest.specs.Layout.{size_of}
use Rattle.manifest.specs.Reader.{accepts, fields_in, refused_reading, read_manifest}
use Rattle.manifest.specs.Writer.{outcome_of, Wrote, wrote, write_manifest}
use Rattle.state.specs.declared.State.{State}
use Rattle.wellformed.specs.WellFormed.{state_right}
use Rattle.devicemap.specs.Map.{map_length, mapped, buffer_after}

pub read_refuses : (l : List ℕ) → (read_manifest l).refusal ≢ 0 → read_manifest l ≡ refused_reading
unfolding read_manifest
read_refuses l = go (accepts l) (record { refusal = 0; fields = fields_in l }) refl
  where
    go : (b : Bool) (x : Reading) → x.refusal ≡ 0 → (pick b x refused_reading).refusal ≢ 0 → pick b x refused_reading ≡ refused_reading
    go true x z h = absurd (h z)
    go false x z h = refl

-- what the writer leaves, by its two tests
abbrev left : Bool → Bool → ℕ → List ℕ → List ℕ → Wrote
left k l n x b = pick k (pick l (wrote (Ok n) x) (wrote (Err BufferShort) b)) (wrote (Err RuleBroken) b)

left_refused : (k l : Bool) (n : ℕ) (x b : List ℕ) → (outcome_of (left k l n x b).answer).refusal ≢ 0 → (left k l n x b).buffer ≡ b
left_refused true true n x b h = absurd (h refl)
left_refused true false n x b h = refl
left_refused false l n x b h = refl

pub write_refuses : (f : Fields) (b : List ℕ) → (outcome_of (write_manifest f b).answer).refusal ≢ 0 → (write_manifest f b).buffer ≡ b
unfolding write_manifest
write_refuses f b = left_refused (keeps_rules f) (leb (size_of f.r f.e) (length b)) _ _ b

-- the device map's answer, by its two tests
abbrev told : Bool → Bool → ℕ → Result ℕ Refusal
told k l n = pick k (pick l (Ok n) (Err BufferShort)) (Err NotWellFormed)

abbrev Accepted : Result ℕ Refusal → Type 0
Accepted (Ok n) = Unit {0}
Accepted (Err k) = ⊥

told_refused : (k l : Bool) (n : ℕ) (r : Refusal) (x b : List ℕ) → told k l n ≡ Err r → pick (k && l) x b ≡ b
told_refused true true n r x b e = absurd (subst Accepted e tt)
told_refused true false n r x b e = refl
told_refused false l n r x b e = refl

pub map_refuses : (s : State) (b : List ℕ) (r : Refusal) → mapped s (length b) ≡ Err r → buffer_after s b ≡ b
unfolding mapped buffer_after
map_refuses s b r = told_refused (state_right s) (leb (map_length s.pages) (length b)) (map_length s.pages) r _ b
