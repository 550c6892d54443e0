-- Isolation of the code, from isolation of the rules along the chain.
use Prim.Native.Nat.{ℕ}
use mathlib.Core.Path.{◌≡◌, sym, subst, subst₂}
use mathlib.Core.Bool.{Bool, true, ◌&&◌}
use mathlib.Core.List.{List, [], ◌∷◌}
use Rattle.rules.specs.Act.{World, Out}
use Rattle.rules.specs.Isolation.{Shaped, face, Related, Feed, first, second, world, mine, Answers, stays, Keeps, AllFed, AllAlike}
use Rattle.rules.proofs.Isolated.{isolated}
use Rattle.promises.specs.Third.{Turn, BothRan, lives, AllFedBy, AllApart}
use Rattle.promises.proofs.Chain.{chain}

abbrev feeds : List Turn → List Feed
feeds [] = []
feeds (t ∷ ts) = t.feed ∷ feeds ts

-- what the code was fed is what the rules are fed
fed : (k : ℕ) (live : Bool) (w w' : World) (ts : List Turn) → BothRan w w' ts → AllFedBy k live w w' ts → AllFed k live w w' (feeds ts)
fed k live w w' [] r f = tt
fed k live w w' (t ∷ ts) r f = (
  f.0,
  subst₂ (λ o o'. AllFed k (live && stays k (world o)) (world o) (world o') (feeds ts)) (chain r.0) (chain r.1)
      (fed k (lives k live t) (world t.one) (world t.two) ts r.2 f.1),
)

-- what the rules leave is what the code left
apart : (k : ℕ) (live : Bool) (w w' : World) (ts : List Turn) → BothRan w w' ts → AllAlike k live w w' (feeds ts) → AllApart k live w w' ts
apart k live w w' [] r a = a
apart k live w w' (t ∷ ts) r a =
    let p : first w t.feed ≡ t.one = sym (chain r.0) in
    let q : second w' t.feed ≡ t.two = sym (chain r.1) in (
      a.0,
      subst₂ (Answers (mine k live w t.feed)) p q a.1,
      subst (λ (o : Out). (live && stays k (world o)) ≡ true → Keeps k (face w) (face (world o))) p a.2,
      apart k (lives k live t) (world t.one) (world t.two) ts r.2
          (subst₂ (λ o o'. AllAlike k (live && stays k (world o)) (world o) (world o') (feeds ts)) p q a.3),
    )

pub isolated_code : (k : ℕ) (w w' : World) (ts : List Turn) → Shaped w.state → Shaped w'.state → Related k w w' → BothRan w w' ts → AllFedBy k true w w' ts → AllApart k true w w' ts
isolated_code k w w' ts s s' related r f = apart k true w w' ts r (isolated k w w' (feeds ts) s s' related (fed k true w w' ts r f))
