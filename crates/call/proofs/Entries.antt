-- The entry that the slot's method finds is the rules' entry, and the param page is where the code finds it.
use Prim.Native.Nat.{ℕ, ◌≤◌, ◌<◌}
use native.Mathlib.Omega.{arith}
use mathlib.Core.Path.{◌≡◌, sym, ap, ◌∙◌}
use mathlib.Core.Bool.{Bool, true, false, and-false, false≢true}
use mathlib.Core.Logic.{⊎_elim}
use lib.Dec.{ltb}
use borrow.Author.Tests.{lt-ltb, le-ltb, ltb-true}
use Rattle.lists.specs.Below.{any_below, first_below}
use Rattle.lists.proofs.Logic.{both, lt_or_ge}
use Rattle.lists.proofs.Any.{any_find}
use Rattle.lists.proofs.First.{first_le, first_at, first_before, first_hit, first_end}
use Rattle.fields.specs.declared.Entry.{Entry}
use Rattle.fields.specs.declared.Fields.{Fields}
use Rattle.fields.specs.Fields.{entry_places, entry_at, run_at}
use Rattle.fields.specs.Pages.{is_param_at, param_of}
use Rattle.state.specs.declared.Card.{Card}
use Rattle.std.specs.Prelude.{Some, None}
use Rattle.std.specs.Option.{is_some}
use Rattle.state.specs.Slots.{begins_at, entry_in, entry_found}
use Rattle.rules.specs.Tests.{is_entry_at, entry_of}

-- the first number at which a test holds
pub first_is : (f : ℕ → Bool) (n i : ℕ) → i ≤ n → ((j : ℕ) → j < i → f j ≡ false) → (i < n → f i ≡ true) → first_below f n ≡ i
first_is f n i l before here =
    let j = first_below f n in
    ⊎_elim
    (λ (a : j < i). absurd (false≢true (sym (before j a) ∙ first_at f n (omega arith))))
    (λ (a : i ≤ j). ⊎_elim
    (λ (b : i < j). absurd (false≢true (sym (first_before f n i b) ∙ here (omega (arith, first_le f n)))))
    (λ (b : j ≤ i). omega arith)
    (lt_or_ge i j))
    (lt_or_ge j i)

module _ (x : Card) (a : ℕ) (l : x.fields.e ≤ entry_places) where
  -- found
  pub entry_at_lem : entry_of x.fields a < x.fields.e → entry_found x a ≡ Some (entry_at x.fields (entry_of x.fields a))
  unfolding entry_of entry_found
  entry_at_lem b =
      let f = x.fields in
      let i = first_below (is_entry_at f a) f.e in
      let e : first_below (begins_at f a) entry_places ≡ i =
      first_is (begins_at f a) entry_places i (omega arith)
      (λ j m. rw (first_before (is_entry_at f a) f.e j m) (and-false (ltb j f.e)))
      (λ _. both (ltb i f.e) _ (lt-ltb i f.e b) (first_at (is_entry_at f a) f.e b)) in
      ap (entry_in f) e ∙ rw (lt-ltb i entry_places (omega arith))

  -- not found
  pub entry_none : x.fields.e ≤ entry_of x.fields a → entry_found x a ≡ None
  unfolding entry_of entry_found
  entry_none b =
      let f = x.fields in
      let e : first_below (begins_at f a) entry_places ≡ entry_places =
      first_is (begins_at f a) entry_places entry_places (omega arith)
      (λ j m. ⊎_elim
      (λ (d : j < f.e). rw (first_before (is_entry_at f a) f.e j (omega arith)) (and-false (ltb j f.e)))
      (λ (d : f.e ≤ j). rw (le-ltb j f.e d))
      (lt_or_ge j f.e))
      (λ m. absurd (omega arith)) in
      ap (entry_in f) e

  -- what the method says, back
  pub at_below : (y : Entry) → entry_found x a ≡ Some y → ltb (entry_of x.fields a) x.fields.e ≡ true
  at_below y h =
      ⊎_elim
      (λ (b : entry_of x.fields a < x.fields.e). lt-ltb _ _ b)
      (λ (b : x.fields.e ≤ entry_of x.fields a). let q = sym h ∙ entry_none b in let z : ◌≡◌ {A = ℕ} 0 1 = cc in absurd (omega arith))
      (lt_or_ge (entry_of x.fields a) x.fields.e)

  -- whether it says anything
  pub some_below : is_some (entry_found x a) ≡ ltb (entry_of x.fields a) x.fields.e
  some_below =
      ⊎_elim
      (λ (b : entry_of x.fields a < x.fields.e). rw (entry_at_lem b, lt-ltb (entry_of x.fields a) x.fields.e b))
      (λ (b : x.fields.e ≤ entry_of x.fields a). rw (entry_none b, le-ltb (entry_of x.fields a) x.fields.e b))
      (lt_or_ge (entry_of x.fields a) x.fields.e)

  pub at_entry : (y : Entry) → entry_found x a ≡ Some y → y ≡ entry_at x.fields (entry_of x.fields a)
  at_entry y h = let q = sym h ∙ entry_at_lem (ltb-true _ _ (at_below y h)) in cc

-- the loop for the param page
module _ (fs : Fields) where
  pub param_hit : (i : ℕ) → i < fs.r → i ≡ first_below (is_param_at fs) i → is_param_at fs i ≡ true → (run_at fs i).first ≡ param_of fs
  unfolding param_of
  param_hit i l h t = ap (λ (k : ℕ). (run_at fs k).first) (first_hit (is_param_at fs) fs.r i l h t)

  pub param_none : (i : ℕ) → fs.r ≤ i → i ≤ fs.r → i ≡ first_below (is_param_at fs) i → any_below fs.r (is_param_at fs) ≡ true → ⊥
  param_none i p q h t =
      let w = any_find (is_param_at fs) fs.r t in
      let g : fs.r ≡ first_below (is_param_at fs) fs.r = first_end (is_param_at fs) fs.r i q p h in
      false≢true (sym (first_before (is_param_at fs) fs.r w.at (omega (arith, w.below))) ∙ w.is)
