use Rattle.std.proofs.Common.{◌≡◌, ℕ, suc, ◌-◌, ◌<◌, ◌∙◌, length, map, refl, sym, ap, arith}
use Rattle.std.proofs.lemmas.Grind.{get_or_default_zero}
use Rattle.word_spec.specs.Memory.{endian}
use Rattle.bilv_spec.specs.Run.{Program}
use Rattle.frame_spec.specs.FrameReports.{given_by}
use Rattle.notes_value.specs.FrameViews.{contract_of}
use Rattle.notes_value.specs.NoteViews.{note_line_of}
use Rattle.notes_value.specs.Reads.{IsReadable}
use Rattle.state_text.specs.Starts.{written_call_of}
use Rattle.program_value.specs.Programs.{program_of}
use Rattle.table_run.specs.CalledFrames.{changed_by, frame_in, own_of}
use Rattle.table_run.proofs.ContractSteps.{breaks, given_is, goes}
use Rattle.table_run.proofs.Lists.{unmapped}
use Rattle.table_run.proofs.contract_steps.come_back.Goals as goal

pub false_line-requires : goal.false_line-requires
false_line-requires g c =
    unmapped (λ l. IsReadable g.M.State.View.has_register l.says) note_line_of c.args.contract.now.gives.items c.deref.result.now c.deref.ensures.value
    c.requires.contract.gives

pub returns-in-None-clause-end : goal.returns-in-None-clause-end
returns-in-None-clause-end g c to below stacked kept clean =
    let p : Program = program_of c.args.frame.now.program in
    let x = contract_of c.args.contract.now in
    let w = written_call_of c.args.call.now in
    let n : ℕ = c.len-count.result - 1 in
    let len : c.len-count.result ≡ length c.args.stack.now.items = c.len-count.ensures ∙ c.args.stack.now.ok.0 in
    let some = c.requires.returns in
    let last : suc n ≡ length c.args.stack.now.items = omega (arith, len, some) in
    let inside : n < length c.args.stack.now.items = omega (arith, last) in
    let top = c.index-to.ensures ∙ get_or_default_zero c.args.stack.now.items n c.index-to.result.now inside in
    goes p (map contract_of c.args.frame.now.stepped.now) (own_of c.args.frame.now.own) (g.M.State.View.view c.args.state.now)
    (g.M.State.View.view c.give.new.state) (g.M.State.View.view c.in_ok-before.before) c.args.stack.now.items c.truncate.new.self.items c.index-to.result.now
    n to below x (given_by (changed_by x) w) (map note_line_of c.deref.result.now)
    (endian c.args.frame.now.program.big) stacked last top c.truncate.ensures.items
    (c.in_ok-give.ensures (frame_in c.args.frame.now) refl c.requires.spans) c.in_ok-before.ensures c.args.frame.now.program.big_is
    (ap (map note_line_of) c.deref.ensures.value)
    ((λ a cell low e k q. kept a cell low e k), g.met.M.Machine.states c.args.state.now) (given_is g.M.Machine.form (changed_by x) w c.requires.block)
    (g.met.M.Machine.states c.give.new.state) clean (sym c.in-None.is ∙ c.false_line.ensures)

pub returns-clause-end : goal.returns-clause-end
returns-clause-end g c to below stacked kept clean =
    let p : Program = program_of c.args.frame.now.program in
    let x = contract_of c.args.contract.now in
    let w = written_call_of c.args.call.now in
    let n : ℕ = c.len-count.result - 1 in
    let len : c.len-count.result ≡ length c.args.stack.now.items = c.len-count.ensures ∙ c.args.stack.now.ok.0 in
    let some = c.requires.returns in
    let last : suc n ≡ length c.args.stack.now.items = omega (arith, len, some) in
    let inside : n < length c.args.stack.now.items = omega (arith, last) in
    let top = c.index-to.ensures ∙ get_or_default_zero c.args.stack.now.items n c.index-to.result.now inside in (
      breaks p (map contract_of c.args.frame.now.stepped.now) (own_of c.args.frame.now.own) (g.M.State.View.view c.args.state.now)
          (g.M.State.View.view c.give.new.state) (g.M.State.View.view c.in_ok-before.before) c.args.stack.now.items c.truncate.new.self.items
          c.index-to.result.now n to below x (given_by (changed_by x) w) (map note_line_of c.deref.result.now)
          (endian c.args.frame.now.program.big) stacked last top c.truncate.ensures.items
          (c.in_ok-give.ensures (frame_in c.args.frame.now) refl c.requires.spans) c.in_ok-before.ensures c.args.frame.now.program.big_is
          (ap (map note_line_of) c.deref.ensures.value) c.in-Some.line (sym c.in-Some.is ∙ c.false_line.ensures),
      refl,
    )
