use Rattle.std.proofs.Common.{◌≡◌, ℕ, ◌∙◌, ◌++◌, List, [], map, refl, sym, ap, subst, arith}
use Rattle.std.specs.Prelude.{Option, reverse}
use Rattle.std.specs.Option.{option_map}
use Rattle.std.proofs.lemmas.List.Elements.{All-map}
use Rattle.word_spec.specs.State.{State}
use Rattle.bilv_spec.specs.PointLaws.{ReadsMemory}
use Rattle.bilv_spec.specs.Run.{Program}
use Rattle.frame_spec.specs.Frames as frames
use Rattle.frame_spec.specs.FrameReports.{WrittenCall}
use Rattle.frame_texts_spec.specs.CallReplays.{block_at}
use Rattle.notes_value.specs.FrameViews.{contract_of}
use Rattle.state_text.specs.Starts.{written_call_of}
use Rattle.program_value.specs.Programs.{program_of}
use Rattle.table_run.specs.CalledFrames.{IsBlock, IsStanding, frame_in, own_of, program_in}
use Rattle.table_run.specs.CalledRuns.{called_start}
use Rattle.table_run.specs.MadeCalls.{handed, kept_of, shown_in}
use Rattle.table_run.specs.declared.called_turns.Stand.{Stand}
use Rattle.table_run.proofs.CalledRuns.{own_changed, own_registers, stands_next}
use Rattle.table_run.proofs.MadeTurns.{begins_walking, ends, goes_on, lent_is, runs_on, somewhere, turns_out}
use Rattle.table_run.proofs.ShownLists.{rising_calls}
use Rattle.table_run.proofs.ShownRuns.{gift_given, gift_of}
use Rattle.table_run.proofs.made.follow.Goals as goal

pub loop-made-init : goal.loop-made-init
loop-made-init g c = record {
  few = omega arith;
  within = (let some = c.requires.some in omega (arith, some));
  stands = tt;
  somewhere = (let r = begins_walking (program_of c.args.frame.now.program) (map contract_of c.args.frame.now.stepped.now)
      (own_of c.args.frame.now.own) c.args.limits.turns (g.M.State.View.view c.args.entry.now) (g.M.State.View.view c.args.state) c.args.choices.now (λ a. [])
      (map written_call_of c.args.calls.now) c.new-stack.result.items [] c.requires.same c.new-stack.ensures.items refl
      (g.met.M.Machine.states c.args.entry.now) c.requires.kept in (r.place, r.at));
  run = λ registers changed listed.
      begins_walking (program_of c.args.frame.now.program) (map contract_of c.args.frame.now.stepped.now) (own_of c.args.frame.now.own)
      c.args.limits.turns (g.M.State.View.view c.args.entry.now) (g.M.State.View.view c.args.state) c.args.choices.now registers
      (map written_call_of c.args.calls.now) c.new-stack.result.items (map written_call_of c.new-made.result.items) c.requires.same c.new-stack.ensures.items
      (ap (map written_call_of) c.new-made.ensures.items) (g.met.M.Machine.states c.args.entry.now) c.requires.kept;
}

pub returns-in-None : goal.returns-in-None
returns-in-None g c registers changed listed =
    let p : Program = program_of c.args.frame.now.program in
    let stepped : List frames.Contract = map contract_of c.args.frame.now.stepped.now in
    let own = own_of c.args.frame.now.own in
    let f : frames.Frame = frame_in c.args.frame.now in
    let k = c.args.limits.turns in
    let count : ℕ = c.args.limits.steps in
    let entry : State = g.M.State.View.view c.args.entry.now in
    let calls : List WrittenCall = map written_call_of c.args.calls.now in
    let memory : ReadsMemory (program_in p own) = record { word = λ s a. refl; little = g.met.M.Machine.lawful.little } in
    let n = c.loop-made.n in
    let now : State = g.M.State.View.view c.loop-made.state in
    let stack = reverse c.loop-made.stack.items in
    let new : State = g.M.State.View.view c.turn.new.state in
    let after = reverse c.turn.new.stack.items in
    let made : List WrittenCall = map written_call_of c.loop-made.made.items in
    let r = c.loop-made.invariant.run registers changed listed in
    let o : Option WrittenCall = option_map written_call_of c.in_ok-block.block in
    let handed_is : o ≡ handed c.loop-made.stand f (record { state = now; stack = [] }) (block_at calls n) =
    c.in_ok-block.ensures.handed c.loop-made.stack.items c.loop-made.invariant.stands in
    let lent : option_map (λ z. written_call_of z.now) c.as_ref.result ≡ o = lent_is c.as_ref.result c.in_ok-block.block c.as_ref.ensures.value in
    let turn_end = c.in_ok-end.ensures.end r.place (gift_of registers (option_map (λ z. written_call_of z.now) c.as_ref.result)) n r.at
    (gift_given registers stepped (option_map (λ z. written_call_of z.now) c.as_ref.result) changed) in
    let blocks = All-map (IsBlock g.M.Machine.form) written_call_of c.args.calls.now c.requires.blocks in
    ends p stepped own k entry c.args.choices.now registers g.M.Machine.form c.requires.lawful memory (g.met.M.Machine.states c.args.entry.now)
    c.requires.kept calls blocks (rising_calls c.args.calls.now c.requires.calls) count listed c.loop-made.stand c.loop-made.turns n now stack made r
    c.loop-made.invariant.within c.choice_at-choice.result c.pc-at.result c.choice_at-choice.ensures c.pc-at.ensures
    (option_map (λ z. written_call_of z.now) c.as_ref.result) (lent ∙ handed_is) c.in_ok-end.end new after turn_end
    (map written_call_of c.keep.new.made.items) (c.in_ok-keep.ensures ∙ ap (λ z. made ++ kept_of c.in_ok-end.end z) (sym lent)) (sym c.next_stand.ensures ∙ c.in-None.is)

pub returns-in-None-next_turns : goal.returns-in-None-next_turns
returns-in-None-next_turns g c registers changed listed =
    let p : Program = program_of c.args.frame.now.program in
    let stepped : List frames.Contract = map contract_of c.args.frame.now.stepped.now in
    let own = own_of c.args.frame.now.own in
    let f : frames.Frame = frame_in c.args.frame.now in
    let k = c.args.limits.turns in
    let count : ℕ = c.args.limits.steps in
    let entry : State = g.M.State.View.view c.args.entry.now in
    let calls : List WrittenCall = map written_call_of c.args.calls.now in
    let memory : ReadsMemory (program_in p own) = record { word = λ s a. refl; little = g.met.M.Machine.lawful.little } in
    let n = c.loop-made.n in
    let now : State = g.M.State.View.view c.loop-made.state in
    let stack = reverse c.loop-made.stack.items in
    let new : State = g.M.State.View.view c.turn.new.state in
    let after = reverse c.turn.new.stack.items in
    let made : List WrittenCall = map written_call_of c.loop-made.made.items in
    let r = c.loop-made.invariant.run registers changed listed in
    let o : Option WrittenCall = option_map written_call_of c.in_ok-block.block in
    let handed_is : o ≡ handed c.loop-made.stand f (record { state = now; stack = [] }) (block_at calls n) =
    c.in_ok-block.ensures.handed c.loop-made.stack.items c.loop-made.invariant.stands in
    let lent : option_map (λ z. written_call_of z.now) c.as_ref.result ≡ o = lent_is c.as_ref.result c.in_ok-block.block c.as_ref.ensures.value in
    let turn_end = c.in_ok-end.ensures.end r.place (gift_of registers (option_map (λ z. written_call_of z.now) c.as_ref.result)) n r.at
    (gift_given registers stepped (option_map (λ z. written_call_of z.now) c.as_ref.result) changed) in
    let blocks = All-map (IsBlock g.M.Machine.form) written_call_of c.args.calls.now c.requires.blocks in
    let on = goes_on p stepped own k entry c.args.choices.now registers g.M.Machine.form c.requires.lawful memory (g.met.M.Machine.states c.args.entry.now)
    c.requires.kept calls blocks (rising_calls c.args.calls.now c.requires.calls) count listed c.loop-made.stand c.loop-made.turns n now stack made r
    c.loop-made.invariant.within c.choice_at-choice.result c.pc-at.result c.choice_at-choice.ensures c.pc-at.ensures
    (option_map (λ z. written_call_of z.now) c.as_ref.result) (lent ∙ handed_is) c.in_ok-end.end new after turn_end
    (map written_call_of c.keep.new.made.items) (c.in_ok-keep.ensures ∙ ap (λ z. made ++ kept_of c.in_ok-end.end z) (sym lent)) c.in-Some.next (sym c.next_stand.ensures ∙ c.in-Some.is) in
    turns_out p stepped own k entry c.args.choices.now registers g.M.Machine.form c.requires.lawful memory (g.met.M.Machine.states c.args.entry.now)
    c.requires.kept calls blocks (rising_calls c.args.calls.now c.requires.calls) count listed c.loop-made.stand c.loop-made.turns n now stack made r
    c.loop-made.invariant.within c.choice_at-choice.result c.pc-at.result c.choice_at-choice.ensures c.pc-at.ensures
    (option_map (λ z. written_call_of z.now) c.as_ref.result) (lent ∙ handed_is) c.in_ok-end.end new after turn_end
    (map written_call_of c.keep.new.made.items) (c.in_ok-keep.ensures ∙ ap (λ z. made ++ kept_of c.in_ok-end.end z) (sym lent)) c.in-Some.next on c.pc.result c.pc.ensures (c.in-None-next_turns.ensures.turned n on.d)

pub returns-then-n-limits : goal.returns-then-n-limits
returns-then-n-limits g c registers changed listed =
    let p : Program = program_of c.args.frame.now.program in
    let stepped : List frames.Contract = map contract_of c.args.frame.now.stepped.now in
    let own = own_of c.args.frame.now.own in
    let f : frames.Frame = frame_in c.args.frame.now in
    let k = c.args.limits.turns in
    let count : ℕ = c.args.limits.steps in
    let entry : State = g.M.State.View.view c.args.entry.now in
    let calls : List WrittenCall = map written_call_of c.args.calls.now in
    let memory : ReadsMemory (program_in p own) = record { word = λ s a. refl; little = g.met.M.Machine.lawful.little } in
    let n = c.loop-made.n in
    let now : State = g.M.State.View.view c.loop-made.state in
    let stack = reverse c.loop-made.stack.items in
    let new : State = g.M.State.View.view c.turn.new.state in
    let after = reverse c.turn.new.stack.items in
    let made : List WrittenCall = map written_call_of c.loop-made.made.items in
    let r = c.loop-made.invariant.run registers changed listed in
    let o : Option WrittenCall = option_map written_call_of c.in_ok-block.block in
    let handed_is : o ≡ handed c.loop-made.stand f (record { state = now; stack = [] }) (block_at calls n) =
    c.in_ok-block.ensures.handed c.loop-made.stack.items c.loop-made.invariant.stands in
    let lent : option_map (λ z. written_call_of z.now) c.as_ref.result ≡ o = lent_is c.as_ref.result c.in_ok-block.block c.as_ref.ensures.value in
    let turn_end = c.in_ok-end.ensures.end r.place (gift_of registers (option_map (λ z. written_call_of z.now) c.as_ref.result)) n r.at
    (gift_given registers stepped (option_map (λ z. written_call_of z.now) c.as_ref.result) changed) in
    let blocks = All-map (IsBlock g.M.Machine.form) written_call_of c.args.calls.now c.requires.blocks in
    let on = goes_on p stepped own k entry c.args.choices.now registers g.M.Machine.form c.requires.lawful memory (g.met.M.Machine.states c.args.entry.now)
    c.requires.kept calls blocks (rising_calls c.args.calls.now c.requires.calls) count listed c.loop-made.stand c.loop-made.turns n now stack made r
    c.loop-made.invariant.within c.choice_at-choice.result c.pc-at.result c.choice_at-choice.ensures c.pc-at.ensures
    (option_map (λ z. written_call_of z.now) c.as_ref.result) (lent ∙ handed_is) c.in_ok-end.end new after turn_end
    (map written_call_of c.keep.new.made.items) (c.in_ok-keep.ensures ∙ ap (λ z. made ++ kept_of c.in_ok-end.end z) (sym lent)) c.in-Some.next (sym c.next_stand.ensures ∙ c.in-Some.is) in
    let walk = runs_on p stepped own k entry c.args.choices.now registers g.M.Machine.form c.requires.lawful memory (g.met.M.Machine.states c.args.entry.now)
    c.requires.kept calls blocks (rising_calls c.args.calls.now c.requires.calls) count listed c.loop-made.stand c.loop-made.turns n now stack made r
    c.loop-made.invariant.within c.choice_at-choice.result c.pc-at.result c.choice_at-choice.ensures c.pc-at.ensures
    (option_map (λ z. written_call_of z.now) c.as_ref.result) (lent ∙ handed_is) c.in_ok-end.end new after turn_end
    (map written_call_of c.keep.new.made.items) (c.in_ok-keep.ensures ∙ ap (λ z. made ++ kept_of c.in_ok-end.end z) (sym lent)) c.in-Some.next on c.pc.result c.pc.ensures c.in-Some-next_turns.more (c.in-Some-next_turns.ensures.turned n on.d) in
    subst (λ z. map written_call_of c.keep.new.made.items ≡ shown_in f k (called_start entry c.args.choices.now registers calls) calls z) c.if-n-limits.true walk.shown

pub loop-made-preserved : goal.loop-made-preserved
loop-made-preserved g c = record {
  few = (let few = c.loop-made.invariant.few in let more = c.in-Some-next_turns.ensures.few in omega (arith, few, more));
  within = (let within = c.loop-made.invariant.within in let other = c.if-n-limits.false in omega (arith, within, other));
  stands = (let stepped : List frames.Contract = map contract_of c.args.frame.now.stepped.now in
      let registers = own_registers stepped in
      let block : Option WrittenCall = option_map (λ z. written_call_of z.now) c.as_ref.result in
      let there = c.loop-made.invariant.somewhere in
      subst (λ (s : Stand). IsStanding s stepped (g.M.State.View.view c.turn.new.state) c.turn.new.stack.items)
      (stands_next c.in_ok-end.end c.in-Some.next (sym c.next_stand.ensures ∙ c.in-Some.is))
      (c.in_ok-end.ensures.stands there.0 (gift_of registers block) there.1 (gift_given registers stepped block (own_changed stepped))));
  somewhere = (let p : Program = program_of c.args.frame.now.program in
      let stepped : List frames.Contract = map contract_of c.args.frame.now.stepped.now in
      let registers = own_registers stepped in
      let block : Option WrittenCall = option_map (λ z. written_call_of z.now) c.as_ref.result in
      let there = c.loop-made.invariant.somewhere in
      somewhere c.in_ok-end.end c.in-Some.next p (g.M.State.View.view c.turn.new.state) (reverse c.turn.new.stack.items) c.loop-made.n _ _
      (sym c.next_stand.ensures ∙ c.in-Some.is)
      (c.in_ok-end.ensures.end there.0 (gift_of registers block) c.loop-made.n there.1 (gift_given registers stepped block (own_changed stepped))));
  run = λ registers changed listed. (
      let p : Program = program_of c.args.frame.now.program in
      let stepped : List frames.Contract = map contract_of c.args.frame.now.stepped.now in
      let own = own_of c.args.frame.now.own in
      let f : frames.Frame = frame_in c.args.frame.now in
      let k = c.args.limits.turns in
      let count : ℕ = c.args.limits.steps in
      let entry : State = g.M.State.View.view c.args.entry.now in
      let calls : List WrittenCall = map written_call_of c.args.calls.now in
      let memory : ReadsMemory (program_in p own) = record { word = λ s a. refl; little = g.met.M.Machine.lawful.little } in
      let n = c.loop-made.n in
      let now : State = g.M.State.View.view c.loop-made.state in
      let stack = reverse c.loop-made.stack.items in
      let new : State = g.M.State.View.view c.turn.new.state in
      let after = reverse c.turn.new.stack.items in
      let made : List WrittenCall = map written_call_of c.loop-made.made.items in
      let r = c.loop-made.invariant.run registers changed listed in
      let o : Option WrittenCall = option_map written_call_of c.in_ok-block.block in
      let handed_is : o ≡ handed c.loop-made.stand f (record { state = now; stack = [] }) (block_at calls n) =
      c.in_ok-block.ensures.handed c.loop-made.stack.items c.loop-made.invariant.stands in
      let lent : option_map (λ z. written_call_of z.now) c.as_ref.result ≡ o = lent_is c.as_ref.result c.in_ok-block.block c.as_ref.ensures.value in
      let turn_end = c.in_ok-end.ensures.end r.place (gift_of registers (option_map (λ z. written_call_of z.now) c.as_ref.result)) n r.at
      (gift_given registers stepped (option_map (λ z. written_call_of z.now) c.as_ref.result) changed) in
      let blocks = All-map (IsBlock g.M.Machine.form) written_call_of c.args.calls.now c.requires.blocks in
      let on = goes_on p stepped own k entry c.args.choices.now registers g.M.Machine.form c.requires.lawful memory (g.met.M.Machine.states c.args.entry.now)
      c.requires.kept calls blocks (rising_calls c.args.calls.now c.requires.calls) count listed c.loop-made.stand c.loop-made.turns n now stack made r
      c.loop-made.invariant.within c.choice_at-choice.result c.pc-at.result c.choice_at-choice.ensures c.pc-at.ensures
      (option_map (λ z. written_call_of z.now) c.as_ref.result) (lent ∙ handed_is) c.in_ok-end.end new after turn_end
      (map written_call_of c.keep.new.made.items) (c.in_ok-keep.ensures ∙ ap (λ z. made ++ kept_of c.in_ok-end.end z) (sym lent)) c.in-Some.next (sym c.next_stand.ensures ∙ c.in-Some.is) in
      runs_on p stepped own k entry c.args.choices.now registers g.M.Machine.form c.requires.lawful memory (g.met.M.Machine.states c.args.entry.now)
      c.requires.kept calls blocks (rising_calls c.args.calls.now c.requires.calls) count listed c.loop-made.stand c.loop-made.turns n now stack made r
      c.loop-made.invariant.within c.choice_at-choice.result c.pc-at.result c.choice_at-choice.ensures c.pc-at.ensures
      (option_map (λ z. written_call_of z.now) c.as_ref.result) (lent ∙ handed_is) c.in_ok-end.end new after turn_end
      (map written_call_of c.keep.new.made.items) (c.in_ok-keep.ensures ∙ ap (λ z. made ++ kept_of c.in_ok-end.end z) (sym lent)) c.in-Some.next on c.pc.result c.pc.ensures c.in-Some-next_turns.more (c.in-Some-next_turns.ensures.turned n on.d));
}
