use Rattle.std.proofs.Common.{◌∙◌, ap, sym}
use Rattle.std.specs.Prelude.{◌%◌, ◌==◌}
use Rattle.std.proofs.lemmas.Bool.{ne_eqb}
use Rattle.machine_spec.specs.Arm.{holds, is_load, halfword_address}
use Rattle.arm_step.specs.States.{state_of}
use Rattle.arm_step.proofs.WholeRows.{loads_only, odd_only, half_stored}
use Rattle.arm_step.proofs.halfwords.HalfwordStep.stored.Goals as goal

pub returns-then-is_load : goal.returns-then-is_load
returns-then-is_load c = λ e.
    let w = c.args.self.word in
    let s = state_of c.args.state.now in
    let x = c.fields-fields.ensures in
    loads_only (holds w s) (is_load w) (halfword_address w s % 2 == 0) _ (sym (c.is_load.ensures w x.op) ∙ c.if-is_load.true)

pub returns-then-a-ne0 : goal.returns-then-a-ne0
returns-then-a-ne0 c = λ e.
    let w = c.args.self.word in
    let s = state_of c.args.state.now in
    odd_only (holds w s) (is_load w) (halfword_address w s % 2 == 0) _
    (sym (ap (λ a. a % 2 == 0) (c.halfword_address-a.ensures w c.fields-fields.ensures)) ∙ ne_eqb (c.halfword_address-a.result % 2) 0 c.if-a-ne0.true)

pub returns : goal.returns
returns c = λ e.
    let w = c.args.self.word in
    let s = state_of c.args.state.now in
    let x = c.fields-fields.ensures in
    half_stored (holds w s) (is_load w) (halfword_address w s % 2 == 0) _ _ c.requires (sym (c.is_load.ensures w x.op) ∙ c.if-is_load.false)
    (sym (ap (λ a. a % 2 == 0) (c.halfword_address-a.ensures w x)) ∙ ap (λ n. n == 0) c.if-a-ne0.false) (ap (λ a. (a, 2)) (c.halfword_address-a.ensures w x))
