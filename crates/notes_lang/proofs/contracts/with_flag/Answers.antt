use Rattle.std.proofs.Common.{◌∙◌, ap, sym, ◌||◌}
use Rattle.notes_spec.specs.FrameNotes.{is_flag}
use Rattle.notes_value.specs.FrameViews.{is_in}
use Rattle.notes_lang.specs.Scoping.{changed_of}
use Rattle.notes_lang.proofs.Contracted.{flag_bit}
use Rattle.notes_lang.proofs.contracts.with_flag.Goals as goal

pub returns-then-flag-lt4 : goal.returns-then-flag-lt4
returns-then-flag-lt4 c n below =
    flag_bit c.args.set c.in-Flag.flag n c.if-flag-lt4.true ∙ ap (λ x. is_in c.args.set n || is_flag n (changed_of x)) (sym c.in-Flag.is)
