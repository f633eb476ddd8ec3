use Rattle.std.proofs.Common.{List, length, map, ◌==◌, ap, sym, ◌∙◌}
use Rattle.std.specs.List.{list_any}
use Rattle.std.proofs.lemmas.Bool.{eqb-true}
use Rattle.frame_spec.specs.Frames.{invariants_of}
use Rattle.notes_value.specs.NoteViews.{assert_of}
use Rattle.notes_value.specs.declared.notes.Assert.{Assert}
use Rattle.program_value.specs.Programs.{program_of}
use Rattle.table_run.specs.FrameEnds.{frame_of}
use Rattle.table_run.proofs.FrameSteps.{no_invariants}
use Rattle.table_run.proofs.cuts.is_head.Goals as goal

pub returns-then-is_empty : goal.returns-then-is_empty
returns-then-is_empty g c =
    no_invariants (program_of c.args.p.now) c.args.invariants.now c.args.at (eqb-true (length c.args.invariants.now) 0 (sym c.if-is_empty.ensures))
    c.args.p.now.notes.now.asserts.items

pub returns : goal.returns
returns g c =
    let p = program_of c.args.p.now in
    c.has_invariant.ensures p
    ∙ ap (λ (xs : List Assert). list_any (λ x. x.at == c.args.at) (invariants_of (frame_of p c.args.invariants.now) (map assert_of xs))) c.deref.ensures.value
