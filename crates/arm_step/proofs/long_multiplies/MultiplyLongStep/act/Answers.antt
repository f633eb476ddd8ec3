use Rattle.std.proofs.Common.{◌∙◌, ap, Bool}
use Rattle.std.specs.Prelude.{if◌then◌else◌}
use Rattle.word_spec.specs.Words.{bit, bit_at}
use Rattle.word_spec.specs.State.{flag_c, flag_v}
use Rattle.arm_step.specs.States.{state_of}
use Rattle.arm_step.proofs.Computations.{multiplies_long, kept_flag}
use Rattle.arm_step.proofs.long_multiplies.MultiplyLongStep.act.Goals as goal

pub returns-clause-step : goal.returns-clause-step
returns-clause-step c = rw c.requires.holds (
    let x = c.fields-fields.ensures in
    let f = c.long_flags-flags in
    multiplies_long c.args.self.keeps c.args.self.word c.args.choice (state_of c.args.state.now) (state_of c.set_flags_if.new.state) (state_of c.set.new.self)
    (state_of c.set-2.new.self)
    (state_of c.go_on.new.self) c.go_on.result
    c.fields-fields.result.sets_flags (bit f.result.n) (bit f.result.z) (bit f.result.c)
    (bit f.result.v) c.fields-fields.result.lower.number c.fields-fields.result.upper.number
    c.wide_product-product.result
    c.set_flags_if.ensures.state c.set.ensures.state c.set-2.ensures.state c.go_on.ensures.state c.go_on.ensures.out x.sets_flags f.ensures.n
    (ap bit f.ensures.z)
    (ap bit f.ensures.c
    ∙ kept_flag c.args.self.keeps (bit c.kept_or-carry.result) (bit c.flags-old.result.c) (bit c.is_set.result) ((state_of c.args.state.now).flags flag_c)
    (bit_at 0 c.args.choice)
    (c.kept_or-carry.ensures ∙ ap (λ (b : Bool). if b then bit c.flags-old.result.c else bit c.is_set.result) c.keeps.ensures)
    (ap (λ g. g flag_c) c.flags-old.ensures) c.is_set.ensures)
    (ap bit f.ensures.v
    ∙ kept_flag c.args.self.keeps (bit c.kept_or-overflow.result) (bit c.flags-old.result.v) (bit c.is_set-2.result) ((state_of c.args.state.now).flags flag_v)
    (bit_at 1 c.args.choice)
    (c.kept_or-overflow.ensures ∙ ap (λ (b : Bool). if b then bit c.flags-old.result.v else bit c.is_set-2.result) c.keeps-2.ensures)
    (ap (λ g. g flag_v) c.flags-old.ensures) c.is_set-2.ensures) x.lower x.upper (c.wide_product-product.ensures c.args.self.word x)
    )
