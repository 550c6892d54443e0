use mathlib.Core.Path.{refl}
use Rattle.answers.proofs.Printing.{word_turn, ended_long}
use Rattle.answers.proofs.say_word.Goals as goal

pub returns : goal.returns
returns c =
    let s = c.args in
    (word_turn s.text.now s.word.now _ c.put_bytes.ensures refl, ended_long s.word.now)
