-- The face with one card set and that card's pages given: what stands at each slot and at each page.
use Prim.Native.Nat.{ℕ, ◌<◌}
use mathlib.Core.Path.{◌≡◌, ◌∙◌}
use mathlib.Core.Logic.{◌≢◌}
use mathlib.Core.Bool.{true, false}
use lib.ListN.{length}
use lib.Seq.{get_or-set_same, get_or-set_other}
use Rattle.lists.proofs.Tables.{table_at}
use Rattle.lists.proofs.Logic.{pick_true, pick_false}
use Rattle.geometry.specs.Geometry.{most_pages}
use Rattle.fields.specs.declared.Fields.{Fields}
use Rattle.fields.specs.Pages.{has_page}
use Rattle.state.specs.declared.Card.{Card}
use Rattle.state.specs.Zero.{no_card}
use Rattle.state.specs.Face.{Face, card_at, owner_at}
use Rattle.rules.specs.Tests.{given_at, given, with_card}

module _ (f : Face) (k : ℕ) (card : Card) (x : Fields) (v : ℕ) where
  pub card_there : k < length f.cards → card_at (with_card f k card x v) k ≡ card
  unfolding with_card
  card_there l = get_or-set_same f.cards k card no_card l

  pub card_else : (j : ℕ) → j ≢ k → card_at (with_card f k card x v) j ≡ card_at f j
  unfolding with_card
  card_else j n = get_or-set_other f.cards k j card no_card n

  pub owner_by_lem : (p : ℕ) → p < most_pages → owner_at (with_card f k card x v) p ≡ given_at f.owner x v p
  unfolding with_card given
  owner_by_lem p l = table_at (given_at f.owner x v) most_pages p 0 l

  pub owner_there : (p : ℕ) → p < most_pages → has_page x p ≡ true → owner_at (with_card f k card x v) p ≡ v
  owner_there p l h = owner_by_lem p l ∙ pick_true (has_page x p) v (owner_at f p) h

  pub owner_else : (p : ℕ) → p < most_pages → has_page x p ≡ false → owner_at (with_card f k card x v) p ≡ owner_at f p
  owner_else p l h = owner_by_lem p l ∙ pick_false (has_page x p) v (owner_at f p) h
