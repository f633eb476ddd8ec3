use Rattle.std.proofs.Common.{◌≡◌, ◌++◌, append_assoc, subst, sym}
use Rattle.note_template.specs.Views.{refusal_of}
use Rattle.suite_notes.specs.Refusals.{refusal_text}
use Rattle.suite_notes.proofs.telling.push_refusal.Goals as goal

pub returns-in_ok-push_nearest-in-UnknownSymbol : goal.returns-in_ok-push_nearest-in-UnknownSymbol
returns-in_ok-push_nearest-in-UnknownSymbol c =
    subst (λ r. c.push_nearest.new.out.items ≡ c.args.out.now.items ++ refusal_text (refusal_of r)) (sym c.in-UnknownSymbol.is)
    (rw (c.in_ok-push_nearest-in-UnknownSymbol.ensures, c.in_ok-push_text-in-UnknownSymbol.ensures) (simp append_assoc))
