use Rattle.std.proofs.Common.{◌∙◌, sym}
use Rattle.machine_spec.specs.Arm.{profile_of}
use Rattle.arm_decode.proofs.Lines.{no_condition}
use Rattle.arm_decode.proofs.decoder.decode_by_class.Goals as goal

pub returns-then-field-eq15 : goal.returns-then-field-eq15
returns-then-field-eq15 c = no_condition (profile_of c.args.profile) c.args.word (sym c.field.ensures.field ∙ c.if-field-eq15.true)
