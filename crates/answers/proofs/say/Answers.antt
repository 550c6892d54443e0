use Prim.Native.Nat.{ℕ}
use mathlib.Core.Path.{sym, ap, ◌∙◌}
use mathlib.Core.List.{[], ◌∷◌, ◌++◌}
use Rattle.events.specs.declared.Answer.{Answer}
use Rattle.numerals.specs.Decimal.{decimal}
use Rattle.answers.specs.Text.{ended, text_of}
use Rattle.answers.proofs.Printing.{told, told_none, bytes_told}
use Rattle.answers.proofs.say.Goals as goal

pub returns-then-text-lt-LONGEST_TEXT : goal.returns-then-text-lt-LONGEST_TEXT
returns-then-text-lt-LONGEST_TEXT c =
    let s = c.args in
    told_none s.text.now s.answer s.buffer.now c.if-text-lt-LONGEST_TEXT.true

pub returns-in-Done : goal.returns-in-Done
returns-in-Done c =
    let s = c.args in
    told s.text.now s.answer s.buffer.now _ _ c.if-text-lt-LONGEST_TEXT.false (ap (λ (y : Answer). text_of y s.buffer.now) c.in-Done.is) c.say_word.ensures.0 c.say_word.ensures.1

pub returns-in-Slot : goal.returns-in-Slot
returns-in-Slot c =
    let s = c.args in
    told s.text.now s.answer s.buffer.now _ _ c.if-text-lt-LONGEST_TEXT.false
    (ap (λ (y : Answer). text_of y s.buffer.now) c.in-Slot.is)
    c.say_number.ensures.0 c.say_number.ensures.1

pub returns-in-Entered : goal.returns-in-Entered
returns-in-Entered c =
    let s = c.args in
    told s.text.now s.answer s.buffer.now _ _ c.if-text-lt-LONGEST_TEXT.false
    (ap (λ (y : Answer). text_of y s.buffer.now) c.in-Entered.is)
    c.say_number-in-Entered.ensures.0 c.say_number-in-Entered.ensures.1

pub returns-in-Left : goal.returns-in-Left
returns-in-Left c =
    let s = c.args in
    told s.text.now s.answer s.buffer.now _ _ c.if-text-lt-LONGEST_TEXT.false
    (ap (λ (y : Answer). text_of y s.buffer.now) c.in-Left.is)
    c.say_number-in-Left.ensures.0 c.say_number-in-Left.ensures.1

pub returns-in-Terminated : goal.returns-in-Terminated
returns-in-Terminated c =
    let s = c.args in
    told s.text.now s.answer s.buffer.now _ _ c.if-text-lt-LONGEST_TEXT.false
    (ap (λ (y : Answer). text_of y s.buffer.now) c.in-Terminated.is)
    c.say_number-in-Terminated.ensures.0 c.say_number-in-Terminated.ensures.1

pub returns-in-Filled : goal.returns-in-Filled
returns-in-Filled c =
    let s = c.args in
    told s.text.now s.answer s.buffer.now _ _ c.if-text-lt-LONGEST_TEXT.false
    (bytes_told s.answer s.buffer.now c.in-Filled.n _ _ c.in-Filled.is c.min.ensures c.min-m.ensures)
    c.say_bytes.ensures.0 c.say_bytes.ensures.1

pub returns-in-Refused : goal.returns-in-Refused
returns-in-Refused c =
    let s = c.args in
    told s.text.now s.answer s.buffer.now _ _ c.if-text-lt-LONGEST_TEXT.false
    (ap (λ (y : Answer). text_of y s.buffer.now) c.in-Refused.is
    ∙ ap (λ (x : ℕ). (110 ∷ 111 ∷ 32 ∷ []) ++ ended (decimal x)) (sym (c.from-in-Refused.ensures ∙ c.from.ensures)))
    c.say_number-in-Refused.ensures.0 c.say_number-in-Refused.ensures.1
