use Rattle.std.proofs.Common.{◌∙◌, ◌*◌, ap}
use Rattle.machine_spec.specs.Arm.{listed_from}
use Rattle.byte_mem.specs.Views.{endian_of}
use Rattle.arm_lift_alu.proofs.Pushed.{whole}
use Rattle.arm_lift_blocks.specs.Lifted as lifts
use Rattle.arm_lift_blocks.proofs.lifting.storing.Goals as goal

pub returns : goal.returns
returns c =
    let e = endian_of c.args.order in
    let x = c.args.fields in
    let b = x.rn.number in
    let at = c.args.at in
    let rs = listed_from x.list.bits 0 c.args.«end» in
    let bytes = 4 * c.count-bytes.result in
    whole c.write_back.new.list.items ∙ c.in_ok-write_back.ensures
    ∙ c.in_ok-list.ensures (lifts.written_back x.writes_back x.is_up b bytes)
    ∙ ap (λ d. lifts.stored_list e x.writes_back x.is_up b at d bytes rs) c.first_distance-first.ensures
    ∙ ap (λ n. lifts.stored_list e x.writes_back x.is_up b at (lifts.first x.is_up x.is_before (4 * n)) (4 * n) rs) c.count-bytes.ensures.count
