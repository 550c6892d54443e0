use mathlib.Core.Path.{sym}
use lib.Seq.{length-take-le}
use Rattle.desk.proofs.Laws.{said_fits, heard_said, heard_not}
use Rattle.desk.proofs.hear.Goals as goal

pub returns-in_default : goal.returns-in_default
returns-in_default c =
    heard_not c.args.s c.args.memory.now c.args.line.now c.args.buffer.now c.read_line.result c.read_line.ensures.0 c.in_default.is

pub slice_bounds-step-end : goal.slice_bounds-step-end
slice_bounds-step-end c =
    said_fits c.read_line.result c.args.line.now _ _ c.args.payload.now c.in-Some.is c.read_line.ensures.0 c.requires c.read_line.ensures.1

pub slice_bounds-step-end-2 : goal.slice_bounds-step-end-2
slice_bounds-step-end-2 c =
    sym (length-take-le _ _ (said_fits c.read_line.result c.args.line.now _ _ c.args.payload.now c.in-Some.is c.read_line.ensures.0 c.requires c.read_line.ensures.1))

pub returns : goal.returns
returns c =
    heard_said c.args.s c.args.memory.now c.args.line.now c.args.buffer.now c.read_line.result c.read_line.ensures.0 _ _ c.args.payload.now _ c.in-Some.is c.requires c.read_line.ensures.1 c.step.ensures
