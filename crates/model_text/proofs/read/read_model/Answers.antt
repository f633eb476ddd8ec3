use Rattle.std.proofs.Common.{refl, rules}
use Rattle.start_value.specs.Starts.{layout_of}
use Rattle.model_text.specs.Faults.{IsRefusal}
use Rattle.model_text.proofs.Judging.{error_is}
use Rattle.model_text.proofs.SymbolNames.{only_program}
use Rattle.model_text.proofs.read.read_model.Goals as goal

pub returns-clause-read : goal.returns-clause-read
returns-clause-read c = λ declared are.
    c.in_ok-model.ensures.read declared (only_program (layout_of c.args.layout) c.args.drawn.now _ declared refl (search rules) are)

pub returns-in_err-model-clause-refused : goal.returns-in_err-model-clause-refused
returns-in_err-model-clause-refused c = λ declared are.
    error_is c.from_residual.result c.in_err-model.field-0.0 (IsRefusal declared c.args.text.now) c.from_residual.ensures.1
    (c.in_err-model.ensures.refused declared (only_program (layout_of c.args.layout) c.args.drawn.now _ declared refl (search rules) are))
