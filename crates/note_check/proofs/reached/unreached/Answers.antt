use Rattle.std.proofs.Common.{List, ◌++◌, map, ap, ◌∙◌}
use Rattle.notes_value.specs.NoteViews.{assert_of, targets_of}
use Rattle.notes_value.specs.declared.notes.Assert.{Assert}
use Rattle.notes_value.specs.declared.notes.Targets.{Targets}
use Rattle.program_value.specs.Programs.{program_of}
use Rattle.note_check.specs.Reached.{stands_in, line_warnings, targets_warnings}
use Rattle.note_check.proofs.Listing.{three}
use Rattle.note_check.proofs.Roots.{stands_whole, stands_own}
use Rattle.note_check.proofs.reached.unreached.Goals as goal

pub returns : goal.returns
returns g c =
    let whole = c.in_ok-whole.whole in
    record {
      reached = stands_in whole;
      called = stands_in c.in_ok-own.own;
      reached_is =
          stands_whole (program_of c.args.program.now) c.args.invariants.now c.deref.result.now c.args.contracts.now whole
          (c.deref.ensures.value ∙ c.in_ok-others.ensures) c.in_ok-whole.ensures.graph;
      called_is = stands_own (program_of c.args.program.now) c.in_ok-own.own c.in_ok-own.ensures.graph;
      found_is =
          three _ _ _ _ _ _ _ c.new-found.ensures.items
          (c.in_ok-add_lines.ensures
          ∙ ap (λ (l : List Assert). c.new-found.result.items ++ line_warnings (stands_in whole) c.args.invariants.now (map assert_of l)) c.deref-2.ensures.value)
          (c.in_ok-add_targets.ensures
          ∙ ap (λ (l : List Targets). c.add_lines.new.found.items ++ targets_warnings (stands_in whole) (map targets_of l)) c.deref-3.ensures.value)
          c.in_ok-add_contracts.ensures;
    }
