-- What the twin promises beyond the contracts.
use Rattle.std.specs.Prelude.{◌<◌, ◌^◌, ◌≡◌, Some}
use Rattle.events.specs.declared.Answer.{Answer}
use Rattle.events.specs.Answers.{told_by}
use Rattle.twin.specs.declared.Monitor.{Monitor}
use Rattle.twin.specs.Twin.{opened_of, shut_of}
use Rattle.twin.specs.Asked.{reply_of, answer_of}

-- whatever 64-bit number C hands over as the mode: all fields come back as they were
abbrev pub AsGiven : Type 0
AsGiven = (m : Monitor) → m.mode < 2 ^ 64 → shut_of (opened_of m) ≡ m

-- the reply's number is document 01's
abbrev pub Told : Type 0
Told = (a : Answer) → (reply_of a).number ≡ (told_by a).number

abbrev pub Answered : Type 0
Answered = (a : Answer) → answer_of (reply_of a) ≡ Some a
