use Rattle.std.proofs.Common.{sym, ◌∙◌, ◌+◌, inl, inr}
use Rattle.std.proofs.lemmas.Option.{slice_get-get_or}
use Rattle.elf32_reader.specs.Images.{IsRunsTo}
use Rattle.elf32_reader.specs.declared.segments.ProgramHeader.{ProgramHeader}
use Rattle.elf32_reader.proofs.KeptRuns.{runs_skip, runs_push, runs_extend}
use Rattle.elf32_reader.proofs.runs.kept_runs.Goals as goal
use Rattle.elf32_reader.proofs.runs.kept_runs.Goals.{then-is_kept+in_ok-add_run, else-is_kept}

pub loop-h-preserved : goal.loop-h-preserved
loop-h-preserved c =
    let d : ProgramHeader = record { kind = 0; offset = 0; address = 0; in_file = 0; in_memory = 0; flags = 0 } in
    let at = slice_get-get_or c.args.found.now c.loop-h.h-index d c.loop-h-test.true in
    elim c.if-is_kept.branch [
      | then-is_kept+in_ok-add_run w ↦ rw w.runs-is (
          elim w.in_ok-add_run.ensures as (λ _. IsRunsTo c.args.found.now (c.loop-h.h-index + 1) w.add_run.new.runs.items) [
            | inl e ↦ runs_extend c.args.found.now c.loop-h.h-index _ c.loop-h.runs.items _ at
                (sym c.is_kept.ensures ∙ w.if-is_kept.true) c.requires.apart c.requires.solid c.loop-h.invariant e
            | inr p ↦ runs_push c.args.found.now c.loop-h.h-index _ c.loop-h.runs.items _ at
                (sym c.is_kept.ensures ∙ w.if-is_kept.true) c.requires.apart c.requires.solid c.loop-h.invariant p
          ])
      | else-is_kept w ↦ rw w.runs-is (runs_skip c.args.found.now c.loop-h.h-index _ c.loop-h.runs.items at
          (sym c.is_kept.ensures ∙ w.if-is_kept.false) c.loop-h.invariant)
    ]
