use Rattle.machine_spec.specs.Arm.{profile_of}
use Rattle.arm_decode.proofs.Lines.{row_is, word_is, profile_is, only_is}
use Rattle.arm_decode.proofs.decoder.decode.Goals as goal

pub returns-clause-row : goal.returns-clause-row
returns-clause-row c = row_is (profile_of c.args.profile) c.args.word c.decode_by_class.result c.decode_by_class.ensures

pub returns-clause-word : goal.returns-clause-word
returns-clause-word c = word_is (profile_of c.args.profile) c.args.word c.decode_by_class.result c.decode_by_class.ensures

pub returns-clause-fits : goal.returns-clause-fits
returns-clause-fits c = profile_is (profile_of c.args.profile) c.args.word c.decode_by_class.result c.decode_by_class.ensures

pub returns-clause-only : goal.returns-clause-only
returns-clause-only c = only_is (profile_of c.args.profile) c.args.word c.decode_by_class.result c.decode_by_class.ensures
