use Rattle.std.proofs.Common.{◌∙◌, ◌*◌, ap}
use Rattle.machine_spec.specs.Arm.{listed_from}
use Rattle.byte_mem.specs.Views.{endian_of}
use Rattle.arm_lift_alu.proofs.Pushed.{whole}
use Rattle.arm_lift_blocks.specs.Lifted as lifts
use Rattle.arm_lift_blocks.proofs.lifting.loading.Goals as goal

pub returns : goal.returns
returns c at =
    let e = endian_of c.args.order in
    let x = c.args.fields in
    let b = x.rn.number in
    let rs = listed_from x.list.bits 0 c.args.«end» in
    let bytes = 4 * c.count-bytes.result in
    let first = c.first_distance-first.result in
    whole c.base_last.new.list.items ∙ c.in_ok-base_last.ensures
    ∙ c.in_ok-list.ensures (lifts.base_last c.place_of-place.result e x.writes_back x.is_up b bytes)
    ∙ ap (λ p. lifts.loads e b first rs (lifts.base_last p e x.writes_back x.is_up b bytes)) c.place_of-place.ensures
    ∙ ap (λ d. lifts.loaded_list e x.writes_back x.is_up b d bytes rs) c.first_distance-first.ensures
    ∙ ap (λ n. lifts.loaded_list e x.writes_back x.is_up b (lifts.first x.is_up x.is_before (4 * n)) (4 * n) rs) c.count-bytes.ensures.count
