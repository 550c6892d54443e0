-- A session prints what its input as a whole is answered.
use Prim.Native.Nat.{ℕ, suc, ◌+◌, ◌≤◌, ◌<◌}
use native.Mathlib.Numerals.{add-one}
use native.Mathlib.Omega.{arith}
use mathlib.Core.Path.{◌≡◌, refl, sym, subst, ap, ◌∙◌}
use mathlib.Core.Bool.{true, false}
use mathlib.Core.Logic.{◌⊎◌, inl, inr, ⊎_elim}
use mathlib.Core.List.{List, [], ◌∷◌, ◌++◌, append_assoc, append-nil}
use lib.ListN.{length, take, drop, length-append, length-take}
use lib.Seq.{length-take-le, drop-drop, take_all, get_or-take}
use lib.Dec.{leb, ltb, eqb}
use borrow.Author.Tests.{leb-true, leb-false, ltb-true, ltb-false}
use Rattle.std.proofs.Common.{Option}
use Rattle.std.specs.Option.{option_map}
use Rattle.lists.proofs.Logic.{decided}
use Rattle.state.specs.declared.State.{State}
use Rattle.rules.specs.Act.{Out}
use Rattle.numerals.specs.Place.{is_at}
use Rattle.numerals.proofs.Places.{place_before}
use Rattle.lines.specs.declared.Said.{Said}
use Rattle.lines.specs.Grammar.{longest_line, payload_of, said_of, line_of}
use Rattle.lines.proofs.Reading.{no_long}
use Rattle.gather.specs.Lines.{newline, ended_lines, open_line, last_line, lines_of, line_end, most_kept, clipped}
use Rattle.gather.proofs.Laws.{ended_newline, ended_other, open_newline, open_other, ended_cut, open_cut, none_ended, none_open, first_line, first_open, no_line, clip_few, clip_many}
use Rattle.answers.specs.Text.{longest_text, text_of}
use Rattle.answers.proofs.Printing.{text_room}
use Rattle.desk.specs.Heard.{unheard, heard_as, heard}
use Rattle.desk.specs.Served.{Standing, unasked, answered, answered_in}
use Rattle.desk.specs.Session.{texts_of, output_of, Held, served_in, Session, opened, served, filled, Faithful, Thorough}
use Rattle.desk.proofs.Served.{full, one_more, none_left}

-- ---- a line that is too long

-- a line over 2,000 characters says nothing
long_unheard : (s : State) (m buffer l : List ℕ) → longest_line < length l → heard s m l buffer ≡ unheard s m buffer
unfolding heard line_of
long_unheard s m buffer l h = ap (λ (x : Option Said). heard_as x s m (payload_of l) buffer) (ap (option_map said_of) (no_long l h))

-- two lines that are the same, or both too long
abbrev Alike : List ℕ → List ℕ → Type 0
Alike l k = (l ≡ k) ⊎ ((longest_line < length l) × (longest_line < length k))

alike_heard : (s : State) (m buffer l k : List ℕ) → Alike l k → heard s m l buffer ≡ heard s m k buffer
alike_heard s m buffer l k h = ⊎_elim (λ e. ap (λ (x : List ℕ). heard s m x buffer) e) (λ b. long_unheard s m buffer l b.0 ∙ sym (long_unheard s m buffer k b.1)) h

alike_more : (l k : List ℕ) (c : ℕ) → Alike l k → Alike (l ++ (c ∷ [])) (k ++ (c ∷ []))
alike_more l k c h =
    ⊎_elim (λ e. inl (ap (λ (x : List ℕ). x ++ (c ∷ [])) e))
    (λ b. inr (omega (arith, b.0, length-append l (c ∷ [])), omega (arith, b.1, length-append k (c ∷ [])))) h

-- one line's answer, and the others'
texts_same : (s : State) (m buffer l k : List ℕ) (ls ks : List (List ℕ)) → heard s m l buffer ≡ heard s m k buffer → ((s : State) (m buffer : List ℕ) → texts_of ls s m buffer ≡ texts_of ks s m buffer)
    → texts_of (l ∷ ls) s m buffer ≡ texts_of (k ∷ ks) s m buffer
unfolding texts_of
texts_same s m buffer l k ls ks e h =
    ap (λ (o : Out). text_of o.answer o.buffer ++ texts_of ls o.state o.memory o.buffer) e
    ∙ ap (λ (x : List ℕ). text_of (heard s m k buffer).answer (heard s m k buffer).buffer ++ x) (h (heard s m k buffer).state (heard s m k buffer).memory (heard s m k buffer).buffer)

-- the lines of a text that follows what has begun of one
abbrev later : List ℕ → List ℕ → List (List ℕ)
later l text = ended_lines l text ++ last_line (open_line l text)

later_newline : (l : List ℕ) (c : ℕ) (cs : List ℕ) → eqb c newline ≡ true → later l (c ∷ cs) ≡ l ∷ later [] cs
later_newline l c cs t = ap (λ (x : List (List ℕ)). x ++ last_line (open_line l (c ∷ cs))) (ended_newline l c cs t) ∙ ap (λ (x : List ℕ). l ∷ (ended_lines [] cs ++ last_line x)) (open_newline l c cs t)

later_other : (l : List ℕ) (c : ℕ) (cs : List ℕ) → eqb c newline ≡ false → later l (c ∷ cs) ≡ later (l ++ (c ∷ [])) cs
later_other l c cs t = ap (λ (x : List (List ℕ)). x ++ last_line (open_line l (c ∷ cs))) (ended_other l c cs t) ∙ ap (λ (x : List ℕ). ended_lines (l ++ (c ∷ [])) cs ++ last_line x) (open_other l c cs t)

alike_last : (s : State) (m buffer l k : List ℕ) → Alike l k → texts_of (last_line l) s m buffer ≡ texts_of (last_line k) s m buffer
alike_last s m buffer [] [] h = refl
alike_last s m buffer [] (c ∷ cs) h = ⊎_elim (λ e. absurd (omega (arith, ap length e))) (λ b. absurd (omega (arith, b.0))) h
alike_last s m buffer (c ∷ cs) [] h = ⊎_elim (λ e. absurd (omega (arith, ap length e))) (λ b. absurd (omega (arith, b.1))) h
alike_last s m buffer (c ∷ cs) (d ∷ ds) h = texts_same s m buffer (c ∷ cs) (d ∷ ds) [] [] (alike_heard s m buffer (c ∷ cs) (d ∷ ds) h) (λ s m buffer. refl)

-- what follows is answered the same
alike_later : (text l k : List ℕ) → Alike l k → (s : State) (m buffer : List ℕ) → texts_of (later l text) s m buffer ≡ texts_of (later k text) s m buffer
unfolding ended_lines open_line
alike_later [] l k h s m buffer = alike_last s m buffer l k h
alike_later (c ∷ cs) l k h s m buffer =
    decided (eqb c newline)
    (λ t. ap (λ (x : List (List ℕ)). texts_of x s m buffer) (later_newline l c cs t)
    ∙ (texts_same s m buffer l k (later [] cs) (later [] cs) (alike_heard s m buffer l k h) (λ s m buffer. refl)
    ∙ sym (ap (λ (x : List (List ℕ)). texts_of x s m buffer) (later_newline k c cs t))))
    (λ t. ap (λ (x : List (List ℕ)). texts_of x s m buffer) (later_other l c cs t)
    ∙ (alike_later cs (l ++ (c ∷ [])) (k ++ (c ∷ [])) (alike_more l k c h) s m buffer
    ∙ sym (ap (λ (x : List (List ℕ)). texts_of x s m buffer) (later_other k c cs t))))

-- ---- lines in two parts of a text

lines_cut : (w b : List ℕ) → lines_of (w ++ b) ≡ ended_lines [] w ++ later (open_line [] w) b
unfolding lines_of
lines_cut w b =
    ap (λ (x : List (List ℕ)). x ++ last_line (open_line [] (w ++ b))) (ended_cut [] w b)
    ∙ (ap (λ (x : List ℕ). (ended_lines [] w ++ ended_lines (open_line [] w) b) ++ last_line x) (open_cut [] w b)
    ∙ append_assoc (ended_lines [] w) (ended_lines (open_line [] w) b) (last_line (open_line (open_line [] w) b)))

-- no line is left: all of the text is what has begun of one
module _ (w : List ℕ) (h : ended_lines [] w ≡ []) where
  no_newline : length w ≤ line_end w
  no_newline =
      decided (ltb (line_end w) (length w))
      (λ t. absurd (let e : take (line_end w) w ∷ ended_lines [] (drop (suc (line_end w)) w) ≡ [] = sym (first_line w (line_end w) refl (ltb-true (line_end w) (length w) t)) ∙ h in omega (arith, ap length e)))
      (λ t. ltb-false (line_end w) (length w) t)

  none_at : (i : ℕ) → i < length w → is_at w newline i ≡ false
  none_at i b = place_before w newline (line_end w) refl i (omega (arith, no_newline))

  all_open_lem : open_line [] w ≡ w
  all_open_lem = none_open [] w none_at

  kept : List ℕ
  kept = take (clipped (length w)) w

  kept_alike : Alike kept w
  unfolding kept
  kept_alike =
      decided (ltb most_kept (length w))
      (λ t.
      let b = ltb-true most_kept (length w) t in
      let e : length (take (clipped (length w)) w) ≡ most_kept = ap (λ (n : ℕ). length (take n w)) (clip_many (length w) b) ∙ length-take-le most_kept w (omega arith) in
      inr (omega arith, omega arith))
      (λ t. let b = ltb-false most_kept (length w) t in inl (ap (λ (n : ℕ). take n w) (clip_few (length w) b) ∙ take_all (length w) w (omega arith)))

  kept_none : (i : ℕ) → i < length kept → is_at kept newline i ≡ false
  unfolding kept
  kept_none i b =
      let f : i < clipped (length w) = omega (arith, length-take (clipped (length w)) w) in
      let g : i < length w = omega (arith, length-take (clipped (length w)) w) in
      ap (λ (x : ℕ). eqb x newline) (get_or-take (clipped (length w)) w i 0 f) ∙ none_at i g

  -- what is kept of it stands for it
  kept_texts : (b : List ℕ) (s : State) (m buffer : List ℕ) → texts_of (lines_of (kept ++ b)) s m buffer ≡ texts_of (lines_of (w ++ b)) s m buffer
  kept_texts b s m buffer =
      ap (λ (x : List (List ℕ)). texts_of x s m buffer) (lines_cut kept b ∙ (ap (λ (x : List (List ℕ)). x ++ later (open_line [] kept) b) (none_ended [] kept kept_none) ∙ ap (λ (x : List ℕ). later x b) (none_open [] kept kept_none)))
      ∙ (alike_later b kept w kept_alike s m buffer
      ∙ sym (ap (λ (x : List (List ℕ)). texts_of x s m buffer) (lines_cut w b ∙ (ap (λ (x : List (List ℕ)). x ++ later (open_line [] w) b) h ∙ ap (λ (x : List ℕ). later x b) all_open_lem))))

-- ---- lines served from a text

-- from one standing to another, over k characters of a text, with text t
record Goes (w : List ℕ) (ls : List (List ℕ)) (x y : Standing) : Type 0 where
  k : ℕ
  t : List ℕ
  at : y.at ≡ x.at + k
  text : y.text ≡ x.text ++ t
  begun : open_line [] (drop k w) ≡ open_line [] w
  texts : (rest : List (List ℕ)) → texts_of (ls ++ rest) x.state x.memory x.buffer ≡ t ++ texts_of (ended_lines [] (drop k w) ++ rest) y.state y.memory y.buffer

stays : (w : List ℕ) (ls : List (List ℕ)) (x y : Standing) → ended_lines [] w ≡ ls → y ≡ x → Goes w ls x y
stays w ls x y h e = subst (λ (z : Standing). Goes w ls x z) (sym e) (record {
  k = 0;
  t = [];
  at = omega arith;
  text = sym (append-nil x.text);
  begun = refl;
  texts = λ rest. ap (λ (z : List (List ℕ)). texts_of (z ++ rest) x.state x.memory x.buffer) (sym h);
})

-- one line, and then the others
steps : (w : List ℕ) (e : ℕ) (x y : Standing) → e ≡ line_end w → e < length w → Goes (drop (suc e) w) (ended_lines [] (drop (suc e) w)) (answered (take e w) x) y → Goes w (take e w ∷ ended_lines [] (drop (suc e) w)) x y
unfolding texts_of answered
steps w e x y f b g =
    let l = take e w in
    let o = heard x.state x.memory l x.buffer in
    let long : length l ≡ e = length-take-le e w (omega arith) in
    let d : drop g.k (drop (suc e) w) ≡ drop (suc e + g.k) w = drop-drop g.k (suc e) w in
    record {
      k = suc e + g.k;
      t = text_of o.answer o.buffer ++ g.t;
      at = omega (arith, g.at, add-one e);
      text = g.text ∙ append_assoc x.text (text_of o.answer o.buffer) g.t;
      begun = ap (λ (z : List ℕ). open_line [] z) (sym d) ∙ (g.begun ∙ sym (first_open w e f b));
      texts = λ rest. ap (λ (z : List ℕ). text_of o.answer o.buffer ++ z) (g.texts rest ∙ ap (λ (z : List ℕ). g.t ++ texts_of (ended_lines [] z ++ rest) y.state y.memory y.buffer) d)
          ∙ sym (append_assoc (text_of o.answer o.buffer) g.t (texts_of (ended_lines [] (drop (suc e + g.k) w) ++ rest) y.state y.memory y.buffer));
    }

goes : (room : ℕ) (ls : List (List ℕ)) (w : List ℕ) (x : Standing) → ended_lines [] w ≡ ls → Goes w (ended_lines [] w) x (answered_in room (ended_lines [] w) x)
goes room [] w x h = stays w (ended_lines [] w) x (answered_in room (ended_lines [] w) x) refl (none_left room (ended_lines [] w) x h)
goes room (l ∷ ls) w x h =
    decided (leb (length x.text + longest_text) room)
    (λ t. decided (ltb (line_end w) (length w))
    (λ q.
    let e = line_end w in
    let b = ltb-true (line_end w) (length w) q in
    let f = first_line w e refl b in
    let r : ended_lines [] (drop (suc e) w) ≡ ls = cc (f, h) in
    let g = goes room ls (drop (suc e) w) (answered (take e w) x) r in
    let u : answered_in room (ended_lines [] w) x ≡ answered_in room (ended_lines [] (drop (suc e) w)) (answered (take e w) x) =
    ap (λ (z : List (List ℕ)). answered_in room z x) f ∙ one_more room (take e w) (ended_lines [] (drop (suc e) w)) x (leb-true (length x.text + longest_text) room t) in
    subst (λ (z : List (List ℕ)). Goes w z x (answered_in room (ended_lines [] w) x)) (sym f) (subst (λ (y : Standing). Goes w (take e w ∷ ended_lines [] (drop (suc e) w)) x y) (sym u) (steps w e x _ refl b g)))
    (λ q. absurd (let z : [] ≡ l ∷ ls = sym (no_line w (line_end w) refl (ltb-false (line_end w) (length w) q)) ∙ h in omega (arith, ap length z))))
    (λ t. stays w (ended_lines [] w) x (answered_in room (ended_lines [] w) x) refl (full room (ended_lines [] w) x (leb-false (length x.text + longest_text) room t)))

-- ---- the promises

-- whatever is still to come
Ahead : List ℕ → List ℕ → Held → Type 0
Ahead input output h = (b : List ℕ) → output ++ texts_of (lines_of (h.waiting ++ b)) h.state h.memory h.buffer ≡ output_of (input ++ b)

ahead : (input output : List ℕ) (h : Held) → Session input output h → Ahead input output h
unfolding Ahead output_of kept
ahead _ _ _ opened b = refl
ahead _ _ _ (served room input output h p) b =
    let w = h.waiting in
    let x = unasked h.state h.memory h.buffer in
    let y = served_in room h in
    let g = goes room (ended_lines [] w) w x refl in
    let at : y.at ≡ g.k = omega (arith, g.at) in
    let cut : lines_of (drop y.at w ++ b) ≡ ended_lines [] (drop g.k w) ++ later (open_line [] w) b =
    ap (λ (n : ℕ). lines_of (drop n w ++ b)) at ∙ (lines_cut (drop g.k w) b ∙ ap (λ (l : List ℕ). ended_lines [] (drop g.k w) ++ later l b) g.begun) in
    append_assoc output y.text (texts_of (lines_of (drop y.at w ++ b)) y.state y.memory y.buffer)
    ∙ (ap (λ (z : List ℕ). output ++ z)
    (ap (λ (z : List ℕ). z ++ texts_of (lines_of (drop y.at w ++ b)) y.state y.memory y.buffer) g.text
    ∙ (ap (λ (z : List (List ℕ)). g.t ++ texts_of z y.state y.memory y.buffer) cut
    ∙ (sym (g.texts (later (open_line [] w) b)) ∙ ap (λ (z : List (List ℕ)). texts_of z h.state h.memory h.buffer) (sym (lines_cut w b)))))
    ∙ ahead input output h p b)
ahead _ _ _ (filled block input output h e p) b =
    let w = h.waiting in
    let k = take (clipped (length w)) w in
    ap (λ (z : List ℕ). output ++ texts_of (lines_of z) h.state h.memory h.buffer) (append_assoc k block b)
    ∙ (ap (λ (z : List ℕ). output ++ z) (kept_texts w e (block ++ b) h.state h.memory h.buffer)
    ∙ (ahead input output h p (block ++ b) ∙ ap (λ (z : List ℕ). output_of z) (sym (append_assoc input block b))))

pub faithful : Faithful
unfolding Ahead
faithful input output h p =
    ap (λ (z : List ℕ). output ++ texts_of (lines_of z) h.state h.memory h.buffer) (sym (append-nil h.waiting))
    ∙ (ahead input output h p [] ∙ ap (λ (z : List ℕ). output_of z) (append-nil input))

-- texts only grow
grows : (room : ℕ) (ls : List (List ℕ)) (x : Standing) → length x.text ≤ length (answered_in room ls x).text
unfolding answered_in answered
grows room [] x = omega arith
grows room (l ∷ ls) x =
    decided (leb (length x.text + longest_text) room)
    (λ t. omega (arith, ap (λ (y : Standing). length y.text) (one_more room l ls x (leb-true (length x.text + longest_text) room t)), grows room ls (answered l x), length-append x.text (text_of (heard x.state x.memory l x.buffer).answer (heard x.state x.memory l x.buffer).buffer)))
    (λ t. omega (arith, ap (λ (y : Standing). length y.text) (full room (l ∷ ls) x (leb-false (length x.text + longest_text) room t))))

some : (room : ℕ) (ls : List (List ℕ)) (x : Standing) → x.text ≡ [] → longest_text ≤ room → (answered_in room ls x).text ≡ [] → ls ≡ []
unfolding answered
some room [] x n r h = refl
some room (l ∷ ls) x n r h =
    absurd (omega (
      arith,
      ap length n,
      ap length h,
      ap (λ (y : Standing). length y.text) (one_more room l ls x (omega (arith, ap length n))),
      grows room ls (answered l x),
      length-append x.text (text_of (heard x.state x.memory l x.buffer).answer (heard x.state x.memory l x.buffer).buffer),
      (text_room (heard x.state x.memory l x.buffer).answer (heard x.state x.memory l x.buffer).buffer).0,
    ))

pub thorough : Thorough
thorough room h r e = some room (ended_lines [] h.waiting) (unasked h.state h.memory h.buffer) refl r e
