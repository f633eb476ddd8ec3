use Rattle.std.proofs.Common.{List, ap, sym, ◌∙◌, map, refl, subst}
use Rattle.std.specs.Prelude.{reverse, Option}
use Rattle.std.specs.Option.{option_map}
use Rattle.word_spec.specs.State.{State}
use Rattle.bilv_spec.specs.PointLaws.{ReadsMemory}
use Rattle.bilv_spec.specs.Run.{Program}
use Rattle.frame_spec.specs.Frames as frames
use Rattle.frame_spec.specs.FrameRuns.{frame_step}
use Rattle.frame_spec.specs.FrameReports.{WrittenCall}
use Rattle.notes_value.specs.FrameViews.{contract_of}
use Rattle.state_text.specs.Starts.{written_call_of}
use Rattle.program_value.specs.Programs.{program_of}
use Rattle.table_run.specs.CalledFrames.{IsStanding, IsTurnEnd, frame_in, own_of, program_in, turned, turned_wrong}
use Rattle.table_run.specs.declared.called_turns.Stand.{Stand}
use Rattle.table_run.proofs.SeenSteps.{contract_stands, contract_turned, kept_now, none_given, row_turned, some_given}
use Rattle.table_run.proofs.called_turns.turn.Goals as goal

pub returns-then-is_some-clause-end : goal.returns-then-is_some-clause-end
returns-then-is_some-clause-end g c there given n at gift =
    let f = frame_in c.args.frame.now in
    let o : Option WrittenCall = option_map (λ c. written_call_of c.now) c.args.block in
    ap (λ (s : Stand). turned_wrong s f (g.M.State.View.view c.args.entry.now) there o given n) c.in-Row.is
    ∙ some_given (λ c. written_call_of c.now) c.args.block n c.if-is_some.ensures

pub returns-in_ok-end-in-Row-clause-end : goal.returns-in_ok-end-in-Row-clause-end
returns-in_ok-end-in-Row-clause-end g c there given n at gift =
    let p : Program = program_of c.args.frame.now.program in
    let stepped : List frames.Contract = map contract_of c.args.frame.now.stepped.now in
    let own = own_of c.args.frame.now.own in
    let f = frame_in c.args.frame.now in
    let entry : State = g.M.State.View.view c.args.entry.now in
    let now : State = g.M.State.View.view c.args.state.now in
    let after : State = g.M.State.View.view c.row_turn.new.state in
    let stack = reverse c.row_turn.new.stack.items in
    let e = c.in_ok-end-in-Row.end in
    let o : Option WrittenCall = option_map (λ c. written_call_of c.now) c.args.block in
    let memory : ReadsMemory (program_in p own) = record { word = λ s a. refl; little = g.met.M.Machine.lawful.little } in
    subst (λ (s : Stand). IsTurnEnd e p after stack n (turned s f entry there c.args.choice given) (turned_wrong s f entry there o given n)) (sym c.in-Row.is)
    (subst (IsTurnEnd e p after stack n (frame_step f entry there c.args.choice))
    (sym (none_given (λ c. written_call_of c.now) c.args.block n c.if-is_some.ensures))
    (row_turned p stepped own c.requires.lawful memory entry there now (reverse c.args.stack.now.items) at
    (g.met.M.Machine.states c.args.state.now) c.args.choice
    e after stack n c.in_ok-end-in-Row.ensures.end))

pub returns-in_ok-end-in-Contract-clause-end : goal.returns-in_ok-end-in-Contract-clause-end
returns-in_ok-end-in-Contract-clause-end g c there given n at gift =
    let p : Program = program_of c.args.frame.now.program in
    let stepped : List frames.Contract = map contract_of c.args.frame.now.stepped.now in
    let own = own_of c.args.frame.now.own in
    let f = frame_in c.args.frame.now in
    let entry : State = g.M.State.View.view c.args.entry.now in
    let now : State = g.M.State.View.view c.args.state.now in
    let after : State = g.M.State.View.view c.contract_turn.new.state in
    let stack = reverse c.contract_turn.new.stack.items in
    let e = c.in_ok-end-in-Contract.end in
    let o : Option WrittenCall = option_map (λ c. written_call_of c.now) c.args.block in
    subst (λ (s : Stand). IsTurnEnd e p after stack n (turned s f entry there c.args.choice given) (turned_wrong s f entry there o given n))
    (sym c.in-Contract.is)
    (contract_turned p stepped own entry there now (reverse c.args.stack.now.items) at given e after stack n o
    (λ kept. c.in_ok-end-in-Contract.ensures.end entry given c.requires.own gift kept))

pub returns-in_ok-end-in-Contract-clause-stands : goal.returns-in_ok-end-in-Contract-clause-stands
returns-in_ok-end-in-Contract-clause-stands g c there given at gift =
    let p : Program = program_of c.args.frame.now.program in
    let stepped : List frames.Contract = map contract_of c.args.frame.now.stepped.now in
    let own = own_of c.args.frame.now.own in
    let entry : State = g.M.State.View.view c.args.entry.now in
    let now : State = g.M.State.View.view c.args.state.now in
    let kept = kept_now p stepped own entry there now (reverse c.args.stack.now.items) at given in
    subst (λ (s : Stand). IsStanding s stepped (g.M.State.View.view c.contract_turn.new.state) c.contract_turn.new.stack.items)
    (sym (contract_stands p stepped own entry there now (reverse c.args.stack.now.items) at given c.in_ok-end-in-Contract.end
    (g.M.State.View.view c.contract_turn.new.state) (reverse c.contract_turn.new.stack.items) _ _
    (c.in_ok-end-in-Contract.ensures.end entry given c.requires.own gift kept))) tt
