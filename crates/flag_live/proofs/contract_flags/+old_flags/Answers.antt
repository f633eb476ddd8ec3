use Rattle.std.proofs.Common.{ap, sym, ◌∙◌}
use Rattle.std.specs.Prelude.{◌||◌}
use Rattle.bilv_spec.specs.LiveFlags.{names_flag}
use Rattle.frame_spec.specs.FrameUnrolling.{names_old}
use Rattle.notes_value.specs.Views.{expr_of}
use Rattle.flow_graph.proofs.FlagSets.{flags_as, flags_or}
use Rattle.flag_live.proofs.OldFlags.{old_written}
use Rattle.flag_live.proofs.contract_flags.+old_flags.Goals as goal

pub returns-in-Old : goal.returns-in-Old
returns-in-Old t c =
    flags_as _ _ _
    (λ f.
    ap (λ x. names_flag f (expr_of x) || names_old f (expr_of c.deref-in-Old.result.now)) c.deref.ensures
    ∙ ap (λ x. names_flag f (expr_of c.in-Old.a.value) || names_old f (expr_of x)) c.deref-in-Old.ensures
    ∙ sym (ap (λ x. names_old f (expr_of x)) c.in-Old.is))
    (flags_or _ _ (λ f. names_flag f (expr_of c.deref.result.now)) (λ f. names_old f (expr_of c.deref-in-Old.result.now)) c.named_flags.ensures
    c.old_flags.ensures)

pub returns-in-All : goal.returns-in-All
returns-in-All t c =
    flags_as _ _ _
    (λ f. ap (λ x. names_old f (expr_of x)) c.deref-in-All.ensures
    ∙ sym (old_written f c.in-All.field-0 c.in-All.field-1 (expr_of c.in-All.a.value))
    ∙ sym (ap (λ x. names_old f (expr_of x)) c.in-All.is))
    c.old_flags-in-All.ensures

pub returns-in-Binary : goal.returns-in-Binary
returns-in-Binary t c =
    flags_as _ _ _
    (λ f.
    ap (λ x. names_old f (expr_of x) || names_old f (expr_of c.deref-in-Binary-2.result.now)) c.deref-in-Binary.ensures
    ∙ ap (λ x. names_old f (expr_of c.in-Binary.a.value) || names_old f (expr_of x)) c.deref-in-Binary-2.ensures
    ∙ sym (ap (λ x. names_old f (expr_of x)) c.in-Binary.is))
    (flags_or _ _ (λ f. names_old f (expr_of c.deref-in-Binary.result.now))
    (λ f. names_old f (expr_of c.deref-in-Binary-2.result.now)) c.old_flags-in-Binary.ensures c.old_flags-in-Binary-2.ensures)
