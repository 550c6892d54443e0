use Rattle.gather.proofs.Laws.{received_some, received_last, received_none}
use Rattle.gather.proofs.received.Goals as goal

pub returns-then-n-gt0-clause-value : goal.returns-then-n-gt0-clause-value
returns-then-n-gt0-clause-value c =
    received_some c.args.block.now c.args.kept c.args.n c.if-n-gt0.true

pub returns-then-kept-gt0-clause-value : goal.returns-then-kept-gt0-clause-value
returns-then-kept-gt0-clause-value c =
    received_last c.args.block.now c.args.kept c.args.n c.if-n-gt0.false c.if-kept-gt0.true

pub returns-clause-value : goal.returns-clause-value
returns-clause-value c =
    received_none c.args.block.now c.args.kept c.args.n c.if-n-gt0.false c.if-kept-gt0.false
