use Rattle.decide.proofs.Outs.{mode_of_lem}
use Rattle.decide.proofs.Ends.{register_end, unregister_end, call_end, return_end, jump_end, read_end, write_end, device_read_end, device_write_end, extend_end, pcr_end}
use Rattle.decide.specs.Allowed.{allowed}
use Rattle.decide.proofs.Sights.{at_page, at_slot, slot_runs}
use Rattle.wellformed.proofs.States.{well_state}
use Rattle.touch.proofs.Ready.{mode_below}
use Rattle.state.proofs.Shaped.{state_shape}
use mathlib.Core.Path.{sym, ap, ◌∙◌}
use Rattle.decide.proofs.dispatch.Goals as goal

pub jump-requires : goal.jump-requires
jump-requires c =
    let a = c.args in
    (c.requires.0, (at_page a.s a.event a.x c.requires.1.1 _ c.in-Jump.is, slot_runs a.s a.x (well_state a.s _ c.requires.0) (at_slot a.s a.event a.x c.requires.1.1 _ c.in-Jump.is)))

pub write-requires : goal.write-requires
write-requires c =
    let a = c.args in
    let h = well_state a.s _ c.requires.0 in
    (c.requires.0, (h, (at_page a.s a.event a.x c.requires.1.1 _ c.in-Write.is, slot_runs a.s a.x h (at_slot a.s a.event a.x c.requires.1.1 _ c.in-Write.is))))

pub read-requires : goal.read-requires
read-requires c =
    let a = c.args in
    (c.requires.0, (well_state a.s _ c.requires.0, at_page a.s a.event a.x c.requires.1.1 _ c.in-Read.is))

pub read-requires-in-DeviceRead : goal.read-requires-in-DeviceRead
read-requires-in-DeviceRead c =
    let a = c.args in
    (c.requires.0, at_page a.s a.event a.x c.requires.1.1 _ c.in-DeviceRead.is)

pub write-requires-in-DeviceWrite : goal.write-requires-in-DeviceWrite
write-requires-in-DeviceWrite c =
    let a = c.args in
    (c.requires.0, at_page a.s a.event a.x c.requires.1.1 _ c.in-DeviceWrite.is)

pub return_-requires : goal.return_-requires
return_-requires c =
    let a = c.args in
    let m = mode_of_lem a.s.mode _ c.slot_in-k.ensures (ap (allowed a.s.mode) (sym c.in-Return.is) ∙ c.requires.1.0) in
    (c.requires.0, (m, slot_runs a.s a.x (well_state a.s _ c.requires.0) (at_slot a.s a.event a.x c.requires.1.1 _ c.in-Return.is) _ m))

pub extend-requires : goal.extend-requires
extend-requires c =
    let a = c.args in
    (c.requires.0, (mode_below a.s (well_state a.s _ c.requires.0) _ (mode_of_lem a.s.mode _ c.slot_in-k.ensures (ap (allowed a.s.mode) (sym c.in-Extend.is) ∙ c.requires.1.0)), at_page a.s a.event a.x c.requires.1.1 _ c.in-Extend.is))

pub pcr_read-requires : goal.pcr_read-requires
pcr_read-requires c =
    let a = c.args in
    let m = mode_of_lem a.s.mode _ c.slot_in-k.ensures (ap (allowed a.s.mode) (sym c.in-PcrRead.is) ∙ c.requires.1.0) in
    (mode_below a.s (well_state a.s _ c.requires.0) _ m, slot_runs a.s a.x (well_state a.s _ c.requires.0) (at_slot a.s a.event a.x c.requires.1.1 _ c.in-PcrRead.is) _ m)

pub returns-in-Register : goal.returns-in-Register
returns-in-Register c =
    let a = c.args in register_end a.s (state_shape a.s _ c.well_formed.1.1.0).slots_long a.payload.now a.buffer.now a.memory.now a.event c.requires.1.0 _ c.in-Register.is c.register.ensures

pub returns-in-Unregister : goal.returns-in-Unregister
returns-in-Unregister c =
    let a = c.args in unregister_end a.s (state_shape a.s _ c.well_formed.1.1.0).slots_long a.payload.now a.buffer.now a.memory.now a.event c.requires.1.0 _ _ c.in-Unregister.is c.unregister.ensures

pub returns-in-Call : goal.returns-in-Call
returns-in-Call c =
    let a = c.args in call_end a.s (state_shape a.s _ c.well_formed.1.1.0).slots_long a.payload.now a.buffer.now a.memory.now a.event c.requires.1.0 _ _ _ _ c.in-Call.is c.call.ensures

pub returns-in-Return : goal.returns-in-Return
returns-in-Return c =
    let a = c.args in return_end a.s (state_shape a.s _ c.well_formed.1.1.0).slots_long a.payload.now a.buffer.now a.memory.now a.event c.requires.1.0 _ c.slot_in-k.ensures c.in-Return.is c.return_.ensures

pub returns-in-Jump : goal.returns-in-Jump
returns-in-Jump c =
    let a = c.args in jump_end a.s (state_shape a.s _ c.well_formed.1.1.0).slots_long a.payload.now a.buffer.now a.memory.now a.event c.requires.1.0 _ c.in-Jump.is c.jump.ensures

pub returns-in-Read : goal.returns-in-Read
returns-in-Read c =
    let a = c.args in read_end a.s (state_shape a.s _ c.well_formed.1.1.0).slots_long a.payload.now a.buffer.now a.memory.now a.event c.requires.1.0 _ c.kept.ensures _ _ c.in-Read.is c.read.ensures

pub returns-in-Write : goal.returns-in-Write
returns-in-Write c =
    let a = c.args in write_end a.s (state_shape a.s _ c.well_formed.1.1.0).slots_long a.payload.now a.buffer.now a.memory.now a.event c.requires.1.0 _ c.kept-in-Write.ensures _ c.in-Write.is c.write.ensures

pub returns-in-DeviceRead : goal.returns-in-DeviceRead
returns-in-DeviceRead c =
    let a = c.args in device_read_end a.s (state_shape a.s _ c.well_formed.1.1.0).slots_long a.payload.now a.buffer.now a.memory.now a.event c.requires.1.0 _ c.kept-in-DeviceRead.ensures _ _ c.in-DeviceRead.is c.read-in-DeviceRead.ensures

pub returns-in-DeviceWrite : goal.returns-in-DeviceWrite
returns-in-DeviceWrite c =
    let a = c.args in device_write_end a.s (state_shape a.s _ c.well_formed.1.1.0).slots_long a.payload.now a.buffer.now a.memory.now a.event c.requires.1.0 _ c.kept-in-DeviceWrite.ensures _ c.in-DeviceWrite.is c.write-in-DeviceWrite.ensures

pub returns-in-Extend : goal.returns-in-Extend
returns-in-Extend c =
    let a = c.args in extend_end a.s (state_shape a.s _ c.well_formed.1.1.0).slots_long a.payload.now a.buffer.now a.memory.now a.event c.requires.1.0 _ c.slot_in-k.ensures _ _ _ _ c.in-Extend.is c.extend.ensures

pub returns-in-PcrRead : goal.returns-in-PcrRead
returns-in-PcrRead c =
    let a = c.args in pcr_end a.s (state_shape a.s _ c.well_formed.1.1.0).slots_long a.payload.now a.buffer.now a.memory.now a.event c.requires.1.0 _ c.kept-in-PcrRead.ensures _ c.slot_in-k.ensures _ c.in-PcrRead.is (c.pcr_read.ensures a.memory.now)
