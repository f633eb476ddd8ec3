use Rattle.std.proofs.Common.{sym, ◌∙◌, ap, subst, ℕ}
use Rattle.std.specs.Prelude.{reverse, Option}
use Rattle.std.specs.List.{list_any}
use Rattle.machine_spec.specs.Machine.{addresses}
use Rattle.bilv_spec.specs.Elf.{loaded, is_kept}
use Rattle.byte_mem.specs.declared.StepOut.{StepOut}
use Rattle.program_value.specs.Programs.{program_of}
use Rattle.table_run.specs.Traces.{unjudged}
use Rattle.table_run.proofs.Stepped.{Ways, row_goes}
use Rattle.table_run.proofs.steps.row_step.Goals as goal
use Rattle.table_run.proofs.steps.row_step.Goals.{in-Next, in-Jump}

pub returns-clause-end : goal.returns-clause-end
returns-clause-end g c =
    let free = sym (ap (λ (s : Option (ℕ × ℕ)). list_any (λ x. is_kept (loaded c.args.p.now.image.now x))
    (addresses s)) c.stored.ensures) ∙ sym c.writes_kept-writes.ensures ∙ c.if-writes.false in
    let ways : Ways c.in_ok-out.out c.match-out.how =
    elim c.match-out.branch [
      | in-Next w ↦ subst (λ (out : StepOut). Ways out c.match-out.how) (sym w.in-Next.is) w.how-is
      | in-Jump w ↦ subst (λ (out : StepOut). Ways out c.match-out.how) (sym w.in-Jump.is) w.how-is
    ] in
    row_goes (unjudged (program_of c.args.p.now)) (g.M.State.View.view c.args.entry.now) (g.M.Machine.row c.args.insn.now)
    (g.M.State.View.view c.args.state.now)
    (g.M.State.View.view c.advance.new.state) (reverse c.args.stack.now.items) (reverse c.go_on.new.stack.items) c.args.choice
    c.in_ok-out.out c.match-out.how c.in_ok-end.end c.requires.lawful (g.met.M.Machine.states c.args.state.now) c.in_ok-out.ensures ways free
    (c.in_ok-end.ensures (g.M.Machine.row c.args.insn.now) (g.M.State.View.view c.args.state.now) c.look-before.ensures)
