-- What the writer answers, and leaves in the answer buffer.
use Rattle.std.specs.Prelude.{ℕ, List, leb, length, Result, Ok, Err}
use Rattle.std.proofs.lemmas.List.Edits.{sets}
use Rattle.lists.specs.Below.{pick}
use Rattle.fields.specs.declared.Fields.{Fields}
use Rattle.fields.specs.Rules.{keeps_rules}
use Rattle.events.specs.declared.Refusal.{Refusal}
use Rattle.events.specs.declared.Refusal.TheVariants.{RuleBroken, BufferShort}
use Rattle.events.specs.Refusals.{number_of}
use Rattle.manifest.specs.Layout.{size_of, encode}

-- document 01's number and value of an answer: 0 and how many bytes, or the refusal and none
pub record Outcome : Type 0 where
  pub refusal : ℕ
  pub bytes : ℕ

abbrev pub outcome_of : Result ℕ Refusal → Outcome
outcome_of (Ok n) = record { refusal = 0; bytes = n }
outcome_of (Err r) = record { refusal = number_of r; bytes = 0 }

-- an answer and the answer buffer after it
pub record Wrote : Type 0 where
  pub answer : Result ℕ Refusal
  pub buffer : List ℕ

abbrev pub wrote : Result ℕ Refusal → List ℕ → Wrote
wrote a b = record { answer = a; buffer = b }

-- "The writer refuses 3, then 9"; an accepted answer of n bytes "fills the first n bytes of the buffer and no others"
unfoldable pub write_manifest : Fields → List ℕ → Wrote
write_manifest f b =
    pick (keeps_rules f)
    (pick (leb (size_of f.r f.e) (length b)) (wrote (Ok (size_of f.r f.e)) (sets b 0 (encode f))) (wrote (Err BufferShort) b))
    (wrote (Err RuleBroken) b)
