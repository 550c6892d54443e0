-- How a loop over the lines of a text serves them.
use Prim.Native.Nat.{ℕ, suc, ◌+◌, ◌-◌, ◌≤◌, ◌<◌}
use native.Mathlib.Numerals.{add-one}
use native.Mathlib.Omega.{arith}
use mathlib.Core.Path.{◌≡◌, refl, sym, ap, ◌∙◌}
use mathlib.Core.Bool.{Bool, true, false, ◌&&◌}
use mathlib.Core.List.{List, [], ◌∷◌, ◌++◌}
use lib.ListN.{length, take, drop, length-drop}
use lib.Seq.{sets, length-sets, length-take-le, drop-drop, take-append-le, take-append-add}
use borrow.Rule.Slice.PartMut.{mid_of, post_of, put_mid, mid_len, same_len_mid}
use lib.Dec.{leb, ltb}
use borrow.Author.Tests.{le-leb, lt-leb, le-ltb, ltb-true, ltb-false, leb-true, leb-false}
use Rattle.lists.proofs.Logic.{decided, pick_true, pick_false, and_l, and_r}
use Rattle.state.specs.declared.State.{State}
use Rattle.events.specs.declared.Answer.{Answer}
use Rattle.rules.specs.Act.{Out}
use Rattle.gather.specs.Lines.{ended_lines, line_end}
use Rattle.gather.proofs.Laws.{first_line, no_line}
use Rattle.numerals.proofs.Places.{place_le}
use Rattle.answers.specs.Text.{longest_text, text_of, printed}
use Rattle.answers.proofs.Printing.{text_room}
use Rattle.desk.specs.Heard.{heard}
use Rattle.desk.specs.Served.{Standing, standing, answered_by, answered, answered_in}
use Rattle.desk.proofs.Laws.{put_back}

-- no room is left: no more lines are answered
pub full : (room : ℕ) (ls : List (List ℕ)) (x : Standing) → room < length x.text + longest_text → answered_in room ls x ≡ x
unfolding answered_in
full room [] x h = refl
full room (l ∷ ls) x h = pick_false _ _ _ (lt-leb (length x.text + longest_text) room h)

pub one_more : (room : ℕ) (l : List ℕ) (ls : List (List ℕ)) (x : Standing) → length x.text + longest_text ≤ room → answered_in room (l ∷ ls) x ≡ answered_in room ls (answered l x)
unfolding answered_in
one_more room l ls x h = pick_true _ _ _ (le-leb (length x.text + longest_text) room h)

pub none_left : (room : ℕ) (ls : List (List ℕ)) (x : Standing) → ls ≡ [] → answered_in room ls x ≡ x
unfolding answered_in
none_left room ls x h = ap (λ (y : List (List ℕ)). answered_in room y x) h

-- where a text's next line ends
pub end_in : (t : List ℕ) (at e : ℕ) → at ≤ length t → e ≡ at + line_end (drop at t) → (at ≤ e) × (e ≤ length t)
end_in t at e h f = (omega arith, omega (arith, place_le (drop at t) 10 (line_end (drop at t)) refl, length-drop at t))

module _ (room : ℕ) (t : List ℕ) (at e : ℕ) (b : at ≤ length t) (f : e ≡ at + line_end (drop at t)) where
  -- the loop stops: there is no line, or no room
  pub stops : (x : Standing) (long used : ℕ) → long ≡ room → length x.text ≡ used → used ≤ long → ltb e (length t) && leb longest_text (long - used) ≡ false → answered_in room (ended_lines [] (drop at t)) x ≡ x
  stops x long used g u k h =
      decided (ltb e (length t))
      (λ p.
      let q : leb longest_text (long - used) ≡ false = sym (ap (λ (y : Bool). y && leb longest_text (long - used)) p) ∙ h in
      full room (ended_lines [] (drop at t)) x (omega (arith, leb-false longest_text (long - used) q)))
      (λ p. none_left room (ended_lines [] (drop at t)) x (no_line (drop at t) (line_end (drop at t)) refl (omega (arith, ltb-false e (length t) p, length-drop at t))))

-- what is printed is at most the longest text, and all of it where there is room for any
printed_few : (room : ℕ) (a : Answer) (buffer : List ℕ) (n : ℕ) → n ≡ length (printed room a buffer) → n ≤ longest_text
unfolding printed
printed_few room a buffer n h =
    decided (ltb room longest_text)
    (λ t. omega (arith, h ∙ ap length (pick_true _ [] (text_of a buffer) t)))
    (λ t. omega (arith, h ∙ ap length (pick_false _ [] (text_of a buffer) t), (text_room a buffer).1))

pub said_few : {a : Answer} {s : State} {m bf : List ℕ} {o : Out} (room n : ℕ) → record { answer = a; state = s; memory = m; buffer = bf } ≡ o → n ≡ length (printed room a bf) → n ≤ longest_text
said_few {a} {s} {m} {bf} room n g h = printed_few room a bf n h

pub said_long : {a : Answer} {s : State} {m bf : List ℕ} {o : Out} (out y : List ℕ) (used : ℕ) → record { answer = a; state = s; memory = m; buffer = bf } ≡ o
    → y ≡ sets (mid_of used (length out - used) out) 0 (printed (length (mid_of used (length out - used) out)) a bf) → length (put_mid used (length out - used) out y) ≡ length out
said_long {a} {s} {m} {bf} out y used g h =
    same_len_mid used (length out - used) out y (ap length h ∙ length-sets (mid_of used (length out - used) out) 0 (printed (length (mid_of used (length out - used) out)) a bf))

printed_whole : (room : ℕ) (a : Answer) (buffer : List ℕ) → longest_text ≤ room → printed room a buffer ≡ text_of a buffer
unfolding printed
printed_whole room a buffer h = pick_false _ [] (text_of a buffer) (le-ltb room longest_text h)

-- the loop goes on: there is a line, and room
pub goes : (e n long used : ℕ) → ltb e n && leb longest_text (long - used) ≡ true → (e < n) × (longest_text ≤ long - used)
goes e n long used h = (ltb-true e n (and_l _ _ h), leb-true longest_text (long - used) (and_r (ltb e n) _ h))

-- a text is put behind what is there
module _ (out y p : List ℕ) (used : ℕ) (u : used ≤ length out) (h : y ≡ sets (mid_of used (length out - used) out) 0 p) where
  put_behind : (n : ℕ) → n ≡ length p → length p ≤ length out - used → take (used + n) (put_mid used (length out - used) out y) ≡ take used out ++ p
  put_behind n e b =
      let long : length (mid_of used (length out - used) out) ≡ length out - used = mid_len used (length out) out (omega arith) in
      let w : length y ≡ length out - used = ap length h ∙ (length-sets (mid_of used (length out - used) out) 0 p ∙ long) in
      let x : length (take used out) ≡ used = length-take-le used out u in
      ap (λ (j : ℕ). take (j + n) (put_mid used (length out - used) out y)) (sym x)
      ∙ (take-append-add (take used out) (y ++ post_of used (length out - used) out) n
      ∙ ap (λ (z : List ℕ). take used out ++ z) (take-append-le n y (post_of used (length out - used) out) (omega arith)
      ∙ (ap (λ (z : List ℕ). take n z) h ∙ put_back (mid_of used (length out - used) out) p n e (omega arith))))

-- what a line leaves
next_standing : (s s' : State) (m m' bf bf' text text' : List ℕ) (at at' : ℕ) (a : Answer) (l : List ℕ) → record { answer = a; state = s'; memory = m'; buffer = bf' } ≡ heard s m l bf
    → text ++ text_of a bf' ≡ text' → at + length l + 1 ≡ at' → answered l (standing s m bf text at) ≡ standing s' m' bf' text' at'
unfolding answered
next_standing s s' m m' bf bf' text text' at at' a l h e f =
    ap (λ (o : Out). answered_by o l (standing s m bf text at)) (sym h)
    ∙ (ap (λ (w : List ℕ). standing s' m' bf' w (at + length l + 1)) e ∙ ap (λ (j : ℕ). standing s' m' bf' text' j) f)

module _ (room : ℕ) (t : List ℕ) (at e : ℕ) (b : at ≤ length t) (f : e ≡ at + line_end (drop at t)) (lt : e < length t) where
  -- a turn: the next line is answered
  pub turns : (s s' : State) (m m' bf bf' out y : List ℕ) (used n : ℕ) (a : Answer) → length out ≡ room → used ≤ length out → longest_text ≤ length out - used
      → record { answer = a; state = s'; memory = m'; buffer = bf' } ≡ heard s m (take (e - at) (drop at t)) bf
      → y ≡ sets (mid_of used (length out - used) out) 0 (printed (length (mid_of used (length out - used) out)) a bf')
      → n ≡ length (printed (length (mid_of used (length out - used) out)) a bf')
      → answered_in room (ended_lines [] (drop (e + 1) t)) (standing s' m' bf' (take (used + n) (put_mid used (length out - used) out y)) (e + 1)) ≡ answered_in room (ended_lines [] (drop at t)) (standing s m bf (take used out) at)
  turns s s' m m' bf bf' out y used n a g u w h hy hn =
      let k = line_end (drop at t) in
      let ke : e - at ≡ k = omega arith in
      let kb : k < length (drop at t) = omega (arith, length-drop at t) in
      let kl : length (take k (drop at t)) ≡ k = length-take-le k (drop at t) (omega arith) in
      let q : at + suc k ≡ e + 1 = omega (arith, add-one k) in
      let dd : drop (suc k) (drop at t) ≡ drop (e + 1) t = drop-drop (suc k) at t ∙ ap (λ (j : ℕ). drop j t) q in
      let long : length (mid_of used (length out - used) out) ≡ length out - used = mid_len used (length out) out (omega arith) in
      let pw : printed (length (mid_of used (length out - used) out)) a bf' ≡ text_of a bf' = printed_whole (length (mid_of used (length out - used) out)) a bf' (omega arith) in
      let pf : length (printed (length (mid_of used (length out - used) out)) a bf') ≤ length out - used = omega (arith, printed_few _ a bf' n hn) in
      let hl : record { answer = a; state = s'; memory = m'; buffer = bf' } ≡ heard s m (take k (drop at t)) bf = h ∙ ap (λ (j : ℕ). heard s m (take j (drop at t)) bf) ke in
      let x = standing s m bf (take used out) at in
      sym (ap (λ (ls : List (List ℕ)). answered_in room ls x) (first_line (drop at t) k refl kb ∙ ap (λ (r : List ℕ). take k (drop at t) ∷ ended_lines [] r) dd)
      ∙ (one_more room (take k (drop at t)) (ended_lines [] (drop (e + 1) t)) x (omega (arith, length-take-le used out u))
      ∙ ap (λ (z : Standing). answered_in room (ended_lines [] (drop (e + 1) t)) z)
      (next_standing s s' m m' bf bf' (take used out) (take (used + n) (put_mid used (length out - used) out y)) at (e + 1) a (take k (drop at t)) hl
      (ap (λ (z : List ℕ). take used out ++ z) (sym pw) ∙ sym (put_behind out y (printed (length (mid_of used (length out - used) out)) a bf') used u hy n hn pf)) (omega arith))))
