use Rattle.std.proofs.Common.{◌∙◌, ap, sym, ◌||◌}
use Rattle.notes_spec.specs.FrameNotes.{is_register}
use Rattle.notes_value.specs.FrameViews.{is_in}
use Rattle.notes_lang.specs.Scoping.{changed_of}
use Rattle.notes_lang.proofs.Contracted.{register_bit}
use Rattle.notes_lang.proofs.contracts.with_register.Goals as goal

pub returns-then-register-lt32 : goal.returns-then-register-lt32
returns-then-register-lt32 c n below =
    register_bit c.args.set c.in-Register.register n c.if-register-lt32.true ∙ ap (λ x. is_in c.args.set n || is_register n (changed_of x))
    (sym c.in-Register.is)
