use Rattle.std.proofs.Common.{List, map, subst}
use Rattle.std.specs.List.{list_any}
use Rattle.bilv_spec.specs.LiveFlags.{names_flag}
use Rattle.frame_spec.specs.FrameUnrolling.{names_any, names_old}
use Rattle.notes_value.specs.FrameViews.{contract_of, writes_of}
use Rattle.notes_value.specs.NoteViews.{note_line_of}
use Rattle.notes_value.specs.declared.notes.NoteLine.{NoteLine}
use Rattle.notes_value.specs.declared.notes.Writes.{Writes}
use Rattle.graph_nodes.specs.Graphs.{IsFlagSet}
use Rattle.flag_live.proofs.ContractFlags.{reads_is}
use Rattle.flag_live.proofs.contract_flags.reads.Goals as goal

pub returns : goal.returns
returns c =
    let now = c.named_now.result in
    let old = c.named_old.result in
    let to = c.addressed.result in
    let given = c.named_old-2.result in
    reads_is (contract_of c.args.contract.now) c.kept.result now old to given c.kept.ensures
    (subst (λ (xs : List NoteLine). IsFlagSet now (λ f. list_any (λ l. names_flag f l.says) (map note_line_of xs))) c.deref.ensures.value c.named_now.ensures)
    (subst (λ (xs : List NoteLine). IsFlagSet old (λ f. list_any (λ l. names_old f l.says) (map note_line_of xs))) c.deref-2.ensures.value c.named_old.ensures)
    (subst (λ (xs : List Writes). IsFlagSet to (λ f. list_any (λ w. names_any f w.says) (map writes_of xs))) c.deref-3.ensures.value c.addressed.ensures)
    (subst (λ (xs : List NoteLine). IsFlagSet given (λ f. list_any (λ l. names_old f l.says) (map note_line_of xs))) c.deref-4.ensures.value
    c.named_old-2.ensures)
