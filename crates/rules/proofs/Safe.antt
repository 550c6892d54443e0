-- What makes a plan safe for slot k: for anybody else it fetches, moves and hashes nothing of k's pages, and it leaves k its pages or releases it whole.
use Prim.Native.Nat.{ℕ, ◌+◌, ◌≤◌, ◌<◌}
use mathlib.Core.Path.{◌≡◌}
use mathlib.Core.Logic.{◌≢◌}
use mathlib.Core.Bool.{Bool, true, false}
use mathlib.Core.List.{List}
use lib.ListN.{length}
use Rattle.geometry.specs.Geometry.{most_pages, digest_size, page_of}
use Rattle.memory.specs.declared.Source.{Source}
use Rattle.memory.specs.declared.Source.TheVariants.{Payload, Memory}
use Rattle.fields.proofs.PageLaws.{listed}
use Rattle.state.specs.Face.{Face, card_at, owner_at}
use Rattle.events.specs.declared.Answer.{Answer}
use Rattle.events.specs.declared.Answer.TheVariants as answer
use Rattle.events.specs.Answers.{fills}
use Rattle.rules.specs.Plan.{Fetch, nothing, bytes, pcr, Store, keep, put, move, clean, Seal, same, clear, extend, measure, Plan}
use Rattle.rules.specs.Decide.{out_from}
use Rattle.rules.specs.Isolation.{Keeps}
use Rattle.rules.proofs.Ranges.{Apart}

-- the n places from a on are all outside k's pages, or all in them
abbrev pub Outside : ℕ → Face → ℕ → ℕ → Type 0
Outside k f a n = Apart (λ p. owner_at f p ≡ k + 1) a n

abbrev pub Inside : ℕ → Face → ℕ → ℕ → Type 0
Inside k f a n = (i : ℕ) → a ≤ i → i < a + n → owner_at f (page_of i) ≡ k + 1

abbrev pub size : Fetch → ℕ
size nothing = 0
size (bytes a n) = n
size (pcr j i) = digest_size

abbrev pub SafeFetch : ℕ → Face → Bool → Fetch → Type 0
SafeFetch k f o nothing = Unit {0}
SafeFetch k f o (bytes a n) = o ≡ false → Outside k f a n
SafeFetch k f o (pcr j i) = o ≡ false → j ≢ k

-- of a plan with that answer, and n bytes of payload
abbrev pub SafeStore : ℕ → Face → Bool → ℕ → Answer → Store → Type 0
SafeStore k f o n x keep = Unit {0}
SafeStore k f o n x (put a) = o ≡ true → Inside k f a n
SafeStore k f o n x (move a b c) = (o ≡ false → Outside k f a c) × (o ≡ true → (x ≡ answer.Left c) × (a ≡ out_from f k))
SafeStore k f o n x (clean ps) = Unit {0}

abbrev pub SafeSource : ℕ → Face → Bool → ℕ → Source → ℕ → ℕ → Type 0
SafeSource k f o j Payload a n = o ≡ true → j ≡ k
SafeSource k f o j Memory a n = j ≢ k → Outside k f a n

abbrev pub SafeSeal : ℕ → Face → Bool → Seal → Type 0
SafeSeal k f o same = Unit {0}
SafeSeal k f o (clear j) = Unit {0}
SafeSeal k f o (extend j i source a n) = SafeSource k f o j source a n
SafeSeal k f o (measure j ps) = (p : ℕ) → listed p ps ≡ true → owner_at f p ≢ k + 1

-- k keeps its pages, or is released: the rest of the plan is then known
pub data After (k : ℕ) (f : Face) (p : Plan) : Type 0 where
  keeps : (card_at p.next k).registered ≡ true → Keeps k f p.next → After k f p
  frees : (card_at p.next k).registered ≡ false → (ps : List ℕ) → p.store ≡ clean ps → ((q : ℕ) → owner_at f q ≡ k + 1 → listed q ps ≡ true) → p.seal ≡ clear k → After k f p

pub record Safe (k : ℕ) (f : Face) (o : Bool) (n : ℕ) (p : Plan) : Type 0 where
  pub fetches : SafeFetch k f o p.fetch
  pub counts : size p.fetch ≤ fills p.answer
  pub stores : SafeStore k f o n p.answer p.store
  pub seals : SafeSeal k f o p.seal
  pub short : length p.next.owner ≤ most_pages
  pub after : After k f p
