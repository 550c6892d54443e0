-- The trace of two worlds, step by step, over any memory of eight pages and any µPCRs of slot 0.
use Prim.Native.Nat.{ℕ, zero, suc, ◌≤◌, ◌<◌}
use native.Mathlib.Omega.{arith}
use mathlib.Core.Path.{◌≡◌, refl, sym, ap, subst, ◌∙◌}
use mathlib.Core.Logic.{◌≢◌, ◌⊎◌, inl, inr, ⊎_elim}
use mathlib.Core.Bool.{Bool, true, false, ◌&&◌}
use mathlib.Core.List.{List, [], ◌∷◌}
use lib.ListN.{length, get_or}
use lib.Seq.{sets, length-sets}
use Rattle.lists.specs.Below.{table, any_below, first_below, joined}
use Rattle.lists.specs.Bytes.{part, zeros, counted, wipe}
use Rattle.lists.proofs.Logic.{lt_or_ge}
use Rattle.lists.proofs.Parts.{part_kept, part_sets}
use Rattle.lists.proofs.Pages.{wipe_long}
use Rattle.geometry.specs.Geometry.{page_size, is_range, page_of}
use Rattle.memory.specs.declared.Source.TheVariants.{Payload}
use Rattle.sha_1.specs.declared.Digest.{Digest}
use Rattle.fields.specs.Rules.{in_code}
use Rattle.fields.specs.Pages.{has_page, pages_of, param_of}
use Rattle.manifest.specs.Reader.{read_manifest}
use Rattle.state.specs.declared.State.{State}
use Rattle.state.specs.Face.{face_of, pcrs_of, state_of, owner_at}
use Rattle.wellformed.specs.WellFormed.{well_formed}
use Rattle.start.specs.Start.{fresh_state, start_of}
use Rattle.events.specs.declared.Event.{Event}
use Rattle.events.specs.declared.Event.TheVariants.{Unregister, Call, Return, Read, Write, Extend}
use Rattle.events.specs.declared.Answer.TheVariants.{Done, Entered, Left, Filled}
use Rattle.rules.specs.Plan.{guard}
use Rattle.rules.specs.Tests.{entry_of, slot_for, given, with_card}
use Rattle.rules.specs.Decide.{released, unregister_rule, entered, call_entry, call_rule, return_rule, read_rule, write_rule, extend_rule, rule_in, decide}
use Rattle.rules.specs.Act.{World, Out, extended, act, step}
use Rattle.rules.specs.Isolation.{Related, Feed, first, second, world, Payloads, equal, hidden, mine, stays, Fed, AllFed}
use Rattle.alive.specs.States.{fresh, fields_from, slot_from, held, idle, called}
use Rattle.alive.specs.Trace.{world_of, four, letters, feed, trace, Heard, heard_by, hear, heard, TwoWorlds}
use Rattle.alive.proofs.Wells.{fresh_at, idle_at, called_at}

stepped : (s : State) (m : List ℕ) (e : Event) (payload buffer : List ℕ) (o : Out) → well_formed s (length m) ≡ true
    → act (decide (face_of s) true (length buffer) (length payload) (read_manifest payload) e) payload buffer (pcrs_of s) m ≡ o → step s m e payload buffer ≡ o
unfolding step
stepped s m e payload buffer o w h =
    ap (λ (t : Bool). act (decide (face_of s) t (length buffer) (length payload) (read_manifest payload) e) payload buffer (pcrs_of s) m) w ∙ h

-- ---- the seven steps of one run, with bytes a, b and c of its own

module _ (pcrs : List Digest) (m : List ℕ) (n : length m ≡ 32768) where
  abbrev m₁ : List ℕ
  m₁ = sets m 12288 (part m 100 4)

  long₁ : length m₁ ≡ 32768
  long₁ = length-sets m 12288 (part m 100 4) ∙ n

  called_step : step (idle pcrs) m (Call 7 8192 100 200) [] four ≡ record { answer = Entered 0; state = called pcrs; memory = m₁; buffer = four }
  unfolding held slot_from fields_from decide guard rule_in call_rule call_entry entered slot_for entry_of first_below is_range param_of state_of table
  called_step = stepped (idle pcrs) m _ [] four _ (idle_at pcrs m n) refl

  module _ (a b : ℕ) where
    abbrev m₂ : List ℕ
    m₂ = sets m₁ 12288 (a ∷ b ∷ [])

    long₂ : length m₂ ≡ 32768
    long₂ = length-sets m₁ 12288 (a ∷ b ∷ []) ∙ long₁

    own_step : step (called pcrs) m₁ (Write 12288) (a ∷ b ∷ []) four ≡ record { answer = Done; state = called pcrs; memory = m₂; buffer = four }
    unfolding held slot_from fields_from decide guard rule_in write_rule is_range in_code any_below state_of table
    own_step = stepped (called pcrs) m₁ _ (a ∷ b ∷ []) four _ (called_at pcrs m₁ long₁) refl

    abbrev m₃ : List ℕ
    m₃ = sets m₂ 14336 letters

    long₃ : length m₃ ≡ 32768
    long₃ = length-sets m₂ 14336 letters ∙ long₂

    output_step : step (called pcrs) m₂ (Write 14336) letters four ≡ record { answer = Done; state = called pcrs; memory = m₃; buffer = four }
    unfolding held slot_from fields_from decide guard rule_in write_rule is_range in_code any_below state_of table
    output_step = stepped (called pcrs) m₂ _ letters four _ (called_at pcrs m₂ long₂) refl

    -- what it will hand out
    handed : part m₃ 14336 4 ≡ letters
    handed = part_sets m₂ 14336 letters (omega (arith, long₂))

    module _ (c : ℕ) where
      abbrev pcrs₄ : List Digest
      pcrs₄ = extended pcrs 1 (c ∷ [])

      extend_step : step (called pcrs) m₃ (Extend 1 Payload 0 0) (c ∷ []) four ≡ record { answer = Done; state = called pcrs₄; memory = m₃; buffer = four }
      unfolding held slot_from fields_from decide guard rule_in extend_rule state_of table
      extend_step = stepped (called pcrs) m₃ _ (c ∷ []) four _ (called_at pcrs m₃ long₃) refl

      abbrev m₅ : List ℕ
      m₅ = sets m₃ 200 (part m₃ 14336 4)

      long₅ : length m₅ ≡ 32768
      long₅ = length-sets m₃ 200 (part m₃ 14336 4) ∙ long₃

      left_step : step (called pcrs₄) m₃ Return [] four ≡ record { answer = Left 4; state = idle pcrs₄; memory = m₅; buffer = four }
      unfolding held slot_from fields_from decide guard rule_in return_rule param_of first_below state_of table
      left_step = stepped (called pcrs₄) m₃ _ [] four _ (called_at pcrs₄ m₃ long₃) refl

      abbrev m₆ : List ℕ
      m₆ = wipe page_size m₅ (2 ∷ 3 ∷ [])

      long₆ : length m₆ ≡ 32768
      long₆ = wipe_long page_size (2 ∷ 3 ∷ []) m₅ ∙ long₅

      freed_step : step (idle pcrs₄) m₅ (Unregister 7 0) [] four ≡ record { answer = Done; state = fresh; memory = m₆; buffer = four }
      unfolding held slot_from fields_from decide guard rule_in unregister_rule released with_card given pages_of joined counted has_page any_below state_of table start_of fresh_state
      freed_step = stepped (idle pcrs₄) m₅ _ [] four _ (idle_at pcrs₄ m₅ long₅) refl

      -- its output is still there
      output_there : part m₆ 200 4 ≡ letters
      unfolding wipe
      output_there =
          part_kept (sets m₅ 8192 (zeros page_size)) 12288 (zeros page_size) 200 4 (inl (omega arith))
          ∙ part_kept m₅ 8192 (zeros page_size) 200 4 (inl (omega arith))
          ∙ ap (λ (x : List ℕ). part (sets m₃ 200 x) 200 4) handed
          ∙ part_sets m₃ 200 letters (omega (arith, long₃))

      read_step : step fresh m₆ (Read 200 4) [] four ≡ record { answer = Filled 4; state = fresh; memory = m₆; buffer = letters }
      unfolding decide guard rule_in read_rule is_range state_of table start_of fresh_state
      read_step =
          stepped fresh m₆ (Read 200 4) [] four (record { answer = Filled 4; state = fresh; memory = m₆; buffer = sets four 0 (part m₆ 200 4) }) (fresh_at m₆ long₆) refl
          ∙ ap (λ (x : List ℕ). record { answer = Filled 4; state = fresh; memory = m₆; buffer = sets four 0 x }) output_there

-- ---- what is heard

heard_then : (go : World → Feed → Out) (w : World) (x : Feed) (xs : List Feed) (o : Out) (ys : List Heard) → go w x ≡ o → heard_by go (world o) xs ≡ ys
    → heard_by go w (x ∷ xs) ≡ hear o.answer o.buffer ∷ ys
heard_then go w x xs o ys e h =
    ap (λ (z : Out). hear z.answer z.buffer ∷ heard_by go (world z) xs) e ∙ ap (λ (zs : List Heard). hear o.answer o.buffer ∷ zs) h

-- the trace's events
abbrev f₁ : Feed
f₁ = feed (Call 7 8192 100 200) [] []

abbrev f₂ : Feed
f₂ = feed (Write 12288) (1 ∷ 2 ∷ []) (3 ∷ 4 ∷ [])

abbrev f₃ : Feed
f₃ = feed (Write 14336) letters letters

abbrev f₄ : Feed
f₄ = feed (Extend 1 Payload 0 0) (5 ∷ []) (6 ∷ [])

abbrev f₅ : Feed
f₅ = feed Return [] []

abbrev f₆ : Feed
f₆ = feed (Unregister 7 0) [] []

abbrev f₇ : Feed
f₇ = feed (Read 200 4) [] []

heard_all : (go : World → Feed → Out) (w : World) (o₁ o₂ o₃ o₄ o₅ o₆ o₇ : Out) → go w f₁ ≡ o₁ → go (world o₁) f₂ ≡ o₂ → go (world o₂) f₃ ≡ o₃ → go (world o₃) f₄ ≡ o₄
    → go (world o₄) f₅ ≡ o₅ → go (world o₅) f₆ ≡ o₆ → go (world o₆) f₇ ≡ o₇
    → heard_by go w trace
    ≡ hear o₁.answer o₁.buffer ∷ hear o₂.answer o₂.buffer ∷ hear o₃.answer o₃.buffer ∷ hear o₄.answer o₄.buffer
    ∷ hear o₅.answer o₅.buffer ∷ hear o₆.answer o₆.buffer ∷ hear o₇.answer o₇.buffer ∷ []
heard_all go w o₁ o₂ o₃ o₄ o₅ o₆ o₇ e₁ e₂ e₃ e₄ e₅ e₆ e₇ =
    heard_then go w f₁ (f₂ ∷ f₃ ∷ f₄ ∷ f₅ ∷ f₆ ∷ f₇ ∷ []) o₁ _ e₁
    (heard_then go (world o₁) f₂ (f₃ ∷ f₄ ∷ f₅ ∷ f₆ ∷ f₇ ∷ []) o₂ _ e₂
    (heard_then go (world o₂) f₃ (f₄ ∷ f₅ ∷ f₆ ∷ f₇ ∷ []) o₃ _ e₃
    (heard_then go (world o₃) f₄ (f₅ ∷ f₆ ∷ f₇ ∷ []) o₄ _ e₄
    (heard_then go (world o₄) f₅ (f₆ ∷ f₇ ∷ []) o₅ _ e₅
    (heard_then go (world o₅) f₆ (f₇ ∷ []) o₆ _ e₆
    (heard_then go (world o₆) f₇ [] o₇ [] e₇ refl))))))

heard_one : (pcrs : List Digest) (m : List ℕ) → length m ≡ 32768 → heard_by first (world_of pcrs m) trace ≡ heard
heard_one pcrs m n =
    heard_all first (world_of pcrs m) _ _ _ _ _ _ _ (called_step pcrs m n) (own_step pcrs m n 1 2) (output_step pcrs m n 1 2) (extend_step pcrs m n 1 2 5)
    (left_step pcrs m n 1 2 5) (freed_step pcrs m n 1 2 5) (read_step pcrs m n 1 2 5)

heard_two : (pcrs : List Digest) (m : List ℕ) → length m ≡ 32768 → heard_by second (world_of pcrs m) trace ≡ heard
heard_two pcrs m n =
    heard_all second (world_of pcrs m) _ _ _ _ _ _ _ (called_step pcrs m n) (own_step pcrs m n 3 4) (output_step pcrs m n 3 4) (extend_step pcrs m n 3 4 6)
    (left_step pcrs m n 3 4 6) (freed_step pcrs m n 3 4 6) (read_step pcrs m n 3 4 6)

-- ---- it is fed as isolation asks

fed_then : (k : ℕ) (live : Bool) (w w' : World) (x : Feed) (xs : List Feed) (o o' : Out) → first w x ≡ o → second w' x ≡ o' → Fed k live w w' x
    → AllFed k (live && stays k (world o)) (world o) (world o') xs → AllFed k live w w' (x ∷ xs)
fed_then k live w w' x xs o o' e e' f h = (
  f,
  subst (λ (z : Out). AllFed k (live && stays k (world z)) (world z) (world (second w' x)) xs) (sym e)
      (subst (λ (z : Out). AllFed k (live && stays k (world o)) (world o) (world z) xs) (sym e') h),
)

-- an event that is no return
plain : (k : ℕ) (live : Bool) (w w' : World) (x : Feed) (o : Out) → first w x ≡ o → ((i : ℕ) → o.answer ≡ Left i → ⊥) → Payloads (mine k live w x) x.event x.payload x.payload' → Fed k live w w' x
plain k live w w' x o e f p = record { payloads = p; returns = λ q i h. absurd (f i (ap (λ (z : Out). z.answer) (sym e) ∙ h)) }

not_done : (i : ℕ) → Done ≡ Left i → ⊥
not_done i h = let z : ◌≡◌ {A = ℕ} 0 1 = cc in omega arith

not_entered : (i : ℕ) → Entered 0 ≡ Left i → ⊥
not_entered i h = let z : ◌≡◌ {A = ℕ} 0 1 = cc in omega arith

not_filled : (i : ℕ) → Filled 4 ≡ Left i → ⊥
not_filled i h = let z : ◌≡◌ {A = ℕ} 0 1 = cc in omega arith

module _ (pcrs pcrs' : List Digest) (m m' : List ℕ) (n : length m ≡ 32768) (n' : length m' ≡ 32768) where
  -- the worlds before each event
  abbrev w₁ : World
  w₁ = record { state = called pcrs; memory = m₁ pcrs m n }

  abbrev v₁ : World
  v₁ = record { state = called pcrs'; memory = m₁ pcrs' m' n' }

  abbrev w₂ : World
  w₂ = record { state = called pcrs; memory = m₂ pcrs m n 1 2 }

  abbrev v₂ : World
  v₂ = record { state = called pcrs'; memory = m₂ pcrs' m' n' 3 4 }

  abbrev w₃ : World
  w₃ = record { state = called pcrs; memory = m₃ pcrs m n 1 2 }

  abbrev v₃ : World
  v₃ = record { state = called pcrs'; memory = m₃ pcrs' m' n' 3 4 }

  abbrev w₄ : World
  w₄ = record { state = called (extended pcrs 1 (5 ∷ [])); memory = m₃ pcrs m n 1 2 }

  abbrev v₄ : World
  v₄ = record { state = called (extended pcrs' 1 (6 ∷ [])); memory = m₃ pcrs' m' n' 3 4 }

  abbrev w₅ : World
  w₅ = record { state = idle (extended pcrs 1 (5 ∷ [])); memory = m₅ pcrs m n 1 2 5 }

  abbrev v₅ : World
  v₅ = record { state = idle (extended pcrs' 1 (6 ∷ [])); memory = m₅ pcrs' m' n' 3 4 6 }

  abbrev w₆ : World
  w₆ = record { state = fresh; memory = m₆ pcrs m n 1 2 5 }

  abbrev v₆ : World
  v₆ = record { state = fresh; memory = m₆ pcrs' m' n' 3 4 6 }

  -- both hand out the same bytes
  left_fed : Fed 0 true w₄ v₄ f₅
  unfolding held slot_from fields_from param_of first_below
  left_fed =
      record {
        payloads = equal refl;
        returns = λ q i h.
            let g : Left 4 ≡ Left i = ap (λ (z : Out). z.answer) (sym (left_step pcrs m n 1 2 5)) ∙ h in
            let e : 4 ≡ i = cc in
            subst (λ (k : ℕ). part w₄.memory 14336 k ≡ part v₄.memory 14336 k) e (handed pcrs m n 1 2 ∙ sym (handed pcrs' m' n' 3 4));
      }

  all_fed : AllFed 0 true (world_of pcrs m) (world_of pcrs' m') trace
  unfolding held slot_from fields_from start_of fresh_state
  all_fed =
      fed_then 0 true (world_of pcrs m) (world_of pcrs' m') f₁ (f₂ ∷ f₃ ∷ f₄ ∷ f₅ ∷ f₆ ∷ f₇ ∷ []) _ _ (called_step pcrs m n) (called_step pcrs' m' n')
      (plain 0 true (world_of pcrs m) (world_of pcrs' m') f₁ _ (called_step pcrs m n) not_entered (equal refl))
      (fed_then 0 true w₁ v₁ f₂ (f₃ ∷ f₄ ∷ f₅ ∷ f₆ ∷ f₇ ∷ []) _ _ (own_step pcrs m n 1 2) (own_step pcrs' m' n' 3 4)
      (plain 0 true w₁ v₁ f₂ _ (own_step pcrs m n 1 2) not_done (hidden refl refl refl))
      (fed_then 0 true w₂ v₂ f₃ (f₄ ∷ f₅ ∷ f₆ ∷ f₇ ∷ []) _ _ (output_step pcrs m n 1 2) (output_step pcrs' m' n' 3 4)
      (plain 0 true w₂ v₂ f₃ _ (output_step pcrs m n 1 2) not_done (equal refl))
      (fed_then 0 true w₃ v₃ f₄ (f₅ ∷ f₆ ∷ f₇ ∷ []) _ _ (extend_step pcrs m n 1 2 5) (extend_step pcrs' m' n' 3 4 6)
      (plain 0 true w₃ v₃ f₄ _ (extend_step pcrs m n 1 2 5) not_done (hidden refl refl refl))
      (fed_then 0 true w₄ v₄ f₅ (f₆ ∷ f₇ ∷ []) _ _ (left_step pcrs m n 1 2 5) (left_step pcrs' m' n' 3 4 6)
      left_fed
      (fed_then 0 true w₅ v₅ f₆ (f₇ ∷ []) _ _ (freed_step pcrs m n 1 2 5) (freed_step pcrs' m' n' 3 4 6)
      (plain 0 true w₅ v₅ f₆ _ (freed_step pcrs m n 1 2 5) not_done (equal refl))
      (fed_then 0 false w₆ v₆ f₇ [] _ _ (read_step pcrs m n 1 2 5) (read_step pcrs' m' n' 3 4 6)
      (plain 0 false w₆ v₆ f₇ _ (read_step pcrs m n 1 2 5) not_filled (equal refl))
      tt))))))

  module _ (h : (a : ℕ) → (a < 8192) ⊎ (16384 ≤ a) → get_or m a 0 ≡ get_or m' a 0) where
    other_pcrs : (j : ℕ) → j ≢ 0 → get_or (pcrs_of (idle pcrs)) j [] ≡ get_or (pcrs_of (idle pcrs')) j []
    unfolding held slot_from
    other_pcrs zero q = absurd (q refl)
    other_pcrs (suc j) q = refl

    outside : (a : ℕ) → owner_at (face_of (idle pcrs)) (page_of a) ≢ 1 → get_or m a 0 ≡ get_or m' a 0
    unfolding held
    outside a q =
        ⊎_elim
        (λ (l : a < 8192). h a (inl l))
        (λ (l : 8192 ≤ a). ⊎_elim
        (λ (u : a < 16384). ⊎_elim
        (λ (v : a < 12288). let e : page_of a ≡ 2 = omega arith in absurd (q (ap (λ (p : ℕ). owner_at (face_of (idle pcrs)) p) e)))
        (λ (v : 12288 ≤ a). let e : page_of a ≡ 3 = omega arith in absurd (q (ap (λ (p : ℕ). owner_at (face_of (idle pcrs)) p) e)))
        (lt_or_ge a 12288))
        (λ (u : 16384 ≤ a). h a (inr u))
        (lt_or_ge a 16384))
        (lt_or_ge a 8192)

    are_related : Related 0 (world_of pcrs m) (world_of pcrs' m')
    unfolding held slot_from
    are_related = record { slot = omega arith; registered = refl; faces = refl; others = other_pcrs; long = n ∙ sym n'; outside = outside }

pub two_worlds : TwoWorlds
two_worlds pcrs pcrs' m m' n n' h =
    record { related = are_related pcrs pcrs' m m' n n' h; fed = all_fed pcrs pcrs' m m' n n'; one = heard_one pcrs m n; two = heard_two pcrs' m' n' }
