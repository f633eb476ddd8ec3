use Rattle.std.proofs.Common.{◌∙◌, ℕ, ap, sym}
use Rattle.std.specs.Prelude.{Option, Some}
use Rattle.word_spec.specs.Memory.{span}
use Rattle.machine_spec.specs.Machine.{addresses}
use Rattle.table_run.specs.Spans.{has_other}
use Rattle.frame_spec.specs.Frames.{is_outside}
use Rattle.table_run.specs.CalledFrames.{own_of}
use Rattle.table_run.proofs.ContractSteps.{outside_is}
use Rattle.table_run.proofs.called_rows.stores_outside.Goals as goal

pub returns-in-Some-stored : goal.returns-in-Some-stored
returns-in-Some-stored c e entry at =
    outside_is e c.args.own c.in-Some.own entry (addresses (Some (c.in-Some-stored.first, c.in-Some-stored.count))) c.is_outside.result c.in-Some.is at
    (c.is_outside.ensures ∙ ap (λ n. has_other c.in-Some.own.spans.now (span c.in-Some-stored.first n)) c.from.ensures)
    ∙ sym (ap (λ (s : Option (ℕ × ℕ)). is_outside (own_of c.args.own) e entry (addresses s)) c.in-Some-stored.is)
