use Rattle.std.proofs.Common.{◌≡◌, ◌≤◌, ℕ, suc, ◌+◌, ◌-◌, ◌∙◌, List, None, ap, map, refl, sym, subst, arith}
use Rattle.std.proofs.lemmas.List.{length-reverse}
use Rattle.std.specs.Prelude.{◌||◌, Option, reverse}
use Rattle.std.specs.Option.{option_map}
use Rattle.word_spec.specs.State.{State}
use Rattle.bilv_spec.specs.Run.{Program}
use Rattle.frame_spec.specs.Frames as frames
use Rattle.bilv_spec.specs.PointLaws.{ReadsMemory}
use Rattle.frame_spec.specs.FrameRuns.{Start, Turned}
use Rattle.frame_spec.specs.FrameReports.{WrittenCall, gifts}
use Rattle.frame_texts_spec.specs.CallReplays.{block_at}
use Rattle.notes_value.specs.FrameViews.{contract_of}
use Rattle.state_text.specs.Starts.{written_call_of}
use Rattle.program_value.specs.Programs.{program_of}
use Rattle.table_run.specs.CalledFrames.{IsStanding, IsTurnEnd, frame_in, is_contract, own_of, program_in, turned, turned_wrong}
use Rattle.table_run.specs.CalledRuns.{called_start}
use Rattle.table_run.specs.Watching.{HasSeen, kind_at, later_of, places_at, stored_at}
use Rattle.table_run.specs.WatchedRuns.{step_in}
use Rattle.table_run.specs.declared.ending.CalledEnding.TheVariants as ending
use Rattle.trace_spec.specs.Seen.{seen_steps}
use Rattle.table_run.specs.declared.called_turns.Stand.{Stand}
use Rattle.table_run.proofs.CalledRuns.{IsRunning, begins_running, ends, gift_is, goes_on, leaves_it, next_as, own_changed, own_registers, run_as, runs_on, stands_next, turned_out, turns_out}
use Rattle.table_run.proofs.WatchedRuns.{ended_is, has_next, last_right, seen_over, watched}
use Rattle.table_run.proofs.StepBlocks.{after_next}
use Rattle.table_run.proofs.called.follow.Goals as goal

pub loop-stack-init : goal.loop-stack-init
loop-stack-init g c = record {
  few = omega arith;
  within = (let some = c.requires.some in omega (arith, some));
  stands = tt;
  seen = λ registers changed fresh. fresh;
  run = λ registers changed.
      begins_running (program_of c.args.frame.now.program) (map contract_of c.args.frame.now.stepped.now) (own_of c.args.frame.now.own)
      c.args.limits.turns (g.M.State.View.view c.args.entry.now) (g.M.State.View.view c.args.state) c.args.choices.now registers
      (map written_call_of c.args.calls.now) c.new-stack.result.items c.requires.same c.new-stack.ensures.items (g.met.M.Machine.states c.args.entry.now)
      c.requires.kept;
}

pub returns-in-None-clause-run : goal.returns-in-None-clause-run
returns-in-None-clause-run g c registers changed =
    let p : Program = program_of c.args.frame.now.program in
    let stepped : List frames.Contract = map contract_of c.args.frame.now.stepped.now in
    let f : frames.Frame = frame_in c.args.frame.now in
    let k = c.args.limits.turns in
    let last : ℕ = c.args.limits.steps - 1 in
    let calls : List WrittenCall = map written_call_of c.args.calls.now in
    let start : Start = called_start (g.M.State.View.view c.args.entry.now) c.args.choices.now registers calls in
    let nexts = after_next c.args.calls.now c.requires.calls in
    let n = c.loop-stack.n in
    let stands = c.loop-stack.stand in
    let now : State = g.M.State.View.view c.loop-stack.state in
    let stack = reverse c.loop-stack.stack.items in
    let new : State = g.M.State.View.view c.turn.new.state in
    let after = reverse c.turn.new.stack.items in
    let r = c.loop-stack.invariant.run registers changed in
    let within = c.loop-stack.invariant.within in
    let le : n ≤ last = omega (arith, within) in
    let o : Option WrittenCall = option_map (λ c. written_call_of c.now) c.block_at-block.result in
    let gift = gift_is registers stepped calls n o changed c.block_at-block.ensures.first in
    let comes = c.in_ok-end.ensures.end r.place (gifts registers calls n) n r.at gift in
    let is : IsTurnEnd c.in_ok-end.end p new after n (turned stands f start.state r.place c.choice_at-choice.result (start.given n))
    (turned_wrong stands f start.state r.place (block_at calls n) (start.given n) n) =
    subst (λ z. IsTurnEnd c.in_ok-end.end p new after n (turned stands f start.state r.place c.choice_at-choice.result (start.given n))
    (turned_wrong stands f start.state r.place z (start.given n) n)) c.block_at-block.ensures.first comes in
    run_as f k start calls last (c.loop-stack.called || is_contract stands) c.last.result (c.last.ensures.called ∙ c.calls_here-called.ensures)
    (ends f k start calls nexts p stands c.loop-stack.turns n c.loop-stack.called now stack r c.choice_at-choice.result c.pc-at.result
    c.choice_at-choice.ensures c.pc-at.ensures last le c.last.result.ending c.in_ok-end.end new after is c.last.ensures.ending)

pub returns-in-None-next_turns-clause-run : goal.returns-in-None-next_turns-clause-run
returns-in-None-next_turns-clause-run g c registers changed =
    let p : Program = program_of c.args.frame.now.program in
    let stepped : List frames.Contract = map contract_of c.args.frame.now.stepped.now in
    let f : frames.Frame = frame_in c.args.frame.now in
    let k = c.args.limits.turns in
    let last : ℕ = c.args.limits.steps - 1 in
    let calls : List WrittenCall = map written_call_of c.args.calls.now in
    let start : Start = called_start (g.M.State.View.view c.args.entry.now) c.args.choices.now registers calls in
    let nexts = after_next c.args.calls.now c.requires.calls in
    let n = c.loop-stack.n in
    let stands = c.loop-stack.stand in
    let now : State = g.M.State.View.view c.loop-stack.state in
    let stack = reverse c.loop-stack.stack.items in
    let new : State = g.M.State.View.view c.turn.new.state in
    let after = reverse c.turn.new.stack.items in
    let r = c.loop-stack.invariant.run registers changed in
    let within = c.loop-stack.invariant.within in
    let le : n ≤ last = omega (arith, within) in
    let o : Option WrittenCall = option_map (λ c. written_call_of c.now) c.block_at-block.result in
    let gift = gift_is registers stepped calls n o changed c.block_at-block.ensures.first in
    let comes = c.in_ok-end.ensures.end r.place (gifts registers calls n) n r.at gift in
    let is : IsTurnEnd c.in_ok-end.end p new after n (turned stands f start.state r.place c.choice_at-choice.result (start.given n))
    (turned_wrong stands f start.state r.place (block_at calls n) (start.given n) n) =
    subst (λ z. IsTurnEnd c.in_ok-end.end p new after n (turned stands f start.state r.place c.choice_at-choice.result (start.given n))
    (turned_wrong stands f start.state r.place z (start.given n) n)) c.block_at-block.ensures.first comes in
    let on = goes_on f k start calls nexts p stands c.loop-stack.turns n c.loop-stack.called now stack r c.choice_at-choice.result c.pc-at.result
    c.choice_at-choice.ensures c.pc-at.ensures c.in_ok-end.end c.in-Some.next new after (sym c.next_stand.ensures ∙ c.in-Some.is) is in
    run_as f k start calls last (c.loop-stack.called || is_contract stands) c.ended.result (c.ended.ensures.called ∙ c.calls_here-called.ensures)
    (turns_out f k start calls nexts p stands c.loop-stack.turns n c.loop-stack.called now stack r c.choice_at-choice.result c.pc-at.result
    c.choice_at-choice.ensures c.pc-at.ensures c.in-Some.next new after on c.pc.result c.pc.ensures last le c.ended.result.ending
    (c.in-None-next_turns.ensures.turned n on.d) c.ended.ensures.ending)

pub returns-then-n-limits-clause-run : goal.returns-then-n-limits-clause-run
returns-then-n-limits-clause-run g c registers changed =
    let p : Program = program_of c.args.frame.now.program in
    let stepped : List frames.Contract = map contract_of c.args.frame.now.stepped.now in
    let f : frames.Frame = frame_in c.args.frame.now in
    let k = c.args.limits.turns in
    let last : ℕ = c.args.limits.steps - 1 in
    let calls : List WrittenCall = map written_call_of c.args.calls.now in
    let start : Start = called_start (g.M.State.View.view c.args.entry.now) c.args.choices.now registers calls in
    let nexts = after_next c.args.calls.now c.requires.calls in
    let n = c.loop-stack.n in
    let stands = c.loop-stack.stand in
    let now : State = g.M.State.View.view c.loop-stack.state in
    let stack = reverse c.loop-stack.stack.items in
    let new : State = g.M.State.View.view c.turn.new.state in
    let after = reverse c.turn.new.stack.items in
    let r = c.loop-stack.invariant.run registers changed in
    let within = c.loop-stack.invariant.within in
    let le : n ≤ last = omega (arith, within) in
    let o : Option WrittenCall = option_map (λ c. written_call_of c.now) c.block_at-block.result in
    let gift = gift_is registers stepped calls n o changed c.block_at-block.ensures.first in
    let comes = c.in_ok-end.ensures.end r.place (gifts registers calls n) n r.at gift in
    let is : IsTurnEnd c.in_ok-end.end p new after n (turned stands f start.state r.place c.choice_at-choice.result (start.given n))
    (turned_wrong stands f start.state r.place (block_at calls n) (start.given n) n) =
    subst (λ z. IsTurnEnd c.in_ok-end.end p new after n (turned stands f start.state r.place c.choice_at-choice.result (start.given n))
    (turned_wrong stands f start.state r.place z (start.given n) n)) c.block_at-block.ensures.first comes in
    let on = goes_on f k start calls nexts p stands c.loop-stack.turns n c.loop-stack.called now stack r c.choice_at-choice.result c.pc-at.result
    c.choice_at-choice.ensures c.pc-at.ensures c.in_ok-end.end c.in-Some.next new after (sym c.next_stand.ensures ∙ c.in-Some.is) is in
    let full = c.if-n-limits.true in
    let same : n ≡ last = omega (arith, full) in
    run_as f k start calls last (c.loop-stack.called || is_contract stands) c.ended-then-n-limits.result
    (c.ended-then-n-limits.ensures.called ∙ c.calls_here-called.ensures)
    (leaves_it f k start calls nexts p stands c.loop-stack.turns n c.loop-stack.called now stack r c.choice_at-choice.result c.pc-at.result
    c.choice_at-choice.ensures c.pc-at.ensures c.in-Some.next new after on c.pc.result c.pc.ensures c.in-Some-next_turns.more
    (c.in-Some-next_turns.ensures.turned n on.d) last same c.ended-then-n-limits.result.ending c.ended-then-n-limits.ensures.ending)

pub loop-stack-preserved : goal.loop-stack-preserved
loop-stack-preserved g c = record {
  few = (let few = c.loop-stack.invariant.few in let more = c.in-Some-next_turns.ensures.few in omega (arith, few, more));
  within = (let within = c.loop-stack.invariant.within in let other = c.if-n-limits.false in omega (arith, within, other));
  stands = (let stepped : List frames.Contract = map contract_of c.args.frame.now.stepped.now in
      let registers = own_registers stepped in
      let changed = own_changed stepped in
      let r = c.loop-stack.invariant.run registers changed in
      let calls : List WrittenCall = map written_call_of c.args.calls.now in
      let o : Option WrittenCall = option_map (λ c. written_call_of c.now) c.block_at-block.result in
      subst (λ (s : Stand). IsStanding s stepped (g.M.State.View.view c.turn.new.state) c.turn.new.stack.items)
      (stands_next c.in_ok-end.end c.in-Some.next (sym c.next_stand.ensures ∙ c.in-Some.is))
      (c.in_ok-end.ensures.stands r.place (gifts registers calls c.loop-stack.n) r.at
      (gift_is registers stepped calls c.loop-stack.n o changed c.block_at-block.ensures.first)));
  seen = λ registers changed fresh. (
      let p : Program = program_of c.args.frame.now.program in
      let stepped : List frames.Contract = map contract_of c.args.frame.now.stepped.now in
      let f : frames.Frame = frame_in c.args.frame.now in
      let k = c.args.limits.turns in
      let last : ℕ = c.args.limits.steps - 1 in
      let calls : List WrittenCall = map written_call_of c.args.calls.now in
      let start : Start = called_start (g.M.State.View.view c.args.entry.now) c.args.choices.now registers calls in
      let nexts = after_next c.args.calls.now c.requires.calls in
      let n = c.loop-stack.n in
      let stands = c.loop-stack.stand in
      let now : State = g.M.State.View.view c.loop-stack.state in
      let stack = reverse c.loop-stack.stack.items in
      let new : State = g.M.State.View.view c.turn.new.state in
      let after = reverse c.turn.new.stack.items in
      let r = c.loop-stack.invariant.run registers changed in
      let within = c.loop-stack.invariant.within in
      let le : n ≤ last = omega (arith, within) in
      let o : Option WrittenCall = option_map (λ c. written_call_of c.now) c.block_at-block.result in
      let gift = gift_is registers stepped calls n o changed c.block_at-block.ensures.first in
      let comes = c.in_ok-end.ensures.end r.place (gifts registers calls n) n r.at gift in
      let is : IsTurnEnd c.in_ok-end.end p new after n (turned stands f start.state r.place c.choice_at-choice.result (start.given n))
      (turned_wrong stands f start.state r.place (block_at calls n) (start.given n) n) =
      subst (λ z. IsTurnEnd c.in_ok-end.end p new after n (turned stands f start.state r.place c.choice_at-choice.result (start.given n))
      (turned_wrong stands f start.state r.place z (start.given n) n)) c.block_at-block.ensures.first comes in
      let own = own_of c.args.frame.now.own in
      let memory : ReadsMemory (program_in p own) = record { word = λ s a. refl; little = g.met.M.Machine.lawful.little } in
      let form = g.M.Machine.form in
      let states = g.met.M.Machine.states c.loop-stack.state in
      let choice = c.choice_at-choice.result in
      let drawn = c.choice_at-choice.ensures in
      let y = c.in_ok-end.end in
      let left = c.in_ok-end.ensures.left in
      let has = c.loop-stack.invariant.seen registers changed fresh in
      let deep = c.len-depth.ensures ∙ c.loop-stack.stack.ok.0 ∙ sym (length-reverse c.loop-stack.stack.items) in
      let deeper = c.later.ensures ∙ ap (later_of y c.len-depth.result) (c.len.ensures ∙ c.turn.new.stack.ok.0 ∙ sym (length-reverse c.turn.new.stack.items)) in
      let grown = c.in_ok-note.ensures (seen_steps f form k start n) n (kind_at stands) now c.len-depth.result (stored_at stands f now)
      (places_at stands f now) c.in_ok-look.ensures.glance has in
      let next = λ (right : turned_wrong stands f start.state r.place (block_at calls n) (start.given n) n ≡ None).
      has_next p stepped own c.requires.lawful memory form k start calls stands c.loop-stack.turns n c.loop-stack.called now stack r states choice drawn y new
      after is left right c.loop-stack.seen c.note.new.observer c.in_ok-look.look c.len-depth.result c.later.result deep deeper has
      c.in_ok-look.ensures.low grown in
      let on = goes_on f k start calls nexts p stands c.loop-stack.turns n c.loop-stack.called now stack r c.choice_at-choice.result c.pc-at.result
      c.choice_at-choice.ensures c.pc-at.ensures c.in_ok-end.end c.in-Some.next new after (sym c.next_stand.ensures ∙ c.in-Some.is) is in
      let up : suc n ≡ n + 1 = omega arith in
      subst (λ j. HasSeen c.note.new.observer (seen_steps f form k start j)) up (next on.right));
  run = λ registers changed. (
      let p : Program = program_of c.args.frame.now.program in
      let stepped : List frames.Contract = map contract_of c.args.frame.now.stepped.now in
      let f : frames.Frame = frame_in c.args.frame.now in
      let k = c.args.limits.turns in
      let last : ℕ = c.args.limits.steps - 1 in
      let calls : List WrittenCall = map written_call_of c.args.calls.now in
      let start : Start = called_start (g.M.State.View.view c.args.entry.now) c.args.choices.now registers calls in
      let nexts = after_next c.args.calls.now c.requires.calls in
      let n = c.loop-stack.n in
      let stands = c.loop-stack.stand in
      let now : State = g.M.State.View.view c.loop-stack.state in
      let stack = reverse c.loop-stack.stack.items in
      let new : State = g.M.State.View.view c.turn.new.state in
      let after = reverse c.turn.new.stack.items in
      let r = c.loop-stack.invariant.run registers changed in
      let within = c.loop-stack.invariant.within in
      let le : n ≤ last = omega (arith, within) in
      let o : Option WrittenCall = option_map (λ c. written_call_of c.now) c.block_at-block.result in
      let gift = gift_is registers stepped calls n o changed c.block_at-block.ensures.first in
      let comes = c.in_ok-end.ensures.end r.place (gifts registers calls n) n r.at gift in
      let is : IsTurnEnd c.in_ok-end.end p new after n (turned stands f start.state r.place c.choice_at-choice.result (start.given n))
      (turned_wrong stands f start.state r.place (block_at calls n) (start.given n) n) =
      subst (λ z. IsTurnEnd c.in_ok-end.end p new after n (turned stands f start.state r.place c.choice_at-choice.result (start.given n))
      (turned_wrong stands f start.state r.place z (start.given n) n)) c.block_at-block.ensures.first comes in
      let on = goes_on f k start calls nexts p stands c.loop-stack.turns n c.loop-stack.called now stack r c.choice_at-choice.result c.pc-at.result
      c.choice_at-choice.ensures c.pc-at.ensures c.in_ok-end.end c.in-Some.next new after (sym c.next_stand.ensures ∙ c.in-Some.is) is in
      subst (λ b. IsRunning f k start calls p c.in-Some.next c.in-Some-next_turns.more (n + 1) b new after) (sym c.calls_here-called.ensures)
      (runs_on f k start calls nexts p stands c.loop-stack.turns n c.loop-stack.called now stack r c.choice_at-choice.result c.pc-at.result
      c.choice_at-choice.ensures c.pc-at.ensures c.in-Some.next new after on c.pc.result c.pc.ensures c.in-Some-next_turns.more
      (c.in-Some-next_turns.ensures.turned n on.d)));
}

pub loop-stack-preserved-else-n-limits : goal.loop-stack-preserved-else-n-limits
loop-stack-preserved-else-n-limits g c = record {
  few = (let few = c.loop-stack.invariant.few in let more = c.in-Some-next_turns.ensures.few in omega (arith, few, more));
  within = (let within = c.loop-stack.invariant.within in let other = c.if-n-limits.false in omega (arith, within, other));
  stands = (let stepped : List frames.Contract = map contract_of c.args.frame.now.stepped.now in
      let registers = own_registers stepped in
      let changed = own_changed stepped in
      let r = c.loop-stack.invariant.run registers changed in
      let calls : List WrittenCall = map written_call_of c.args.calls.now in
      let o : Option WrittenCall = option_map (λ c. written_call_of c.now) c.block_at-block.result in
      subst (λ (s : Stand). IsStanding s stepped (g.M.State.View.view c.turn.new.state) c.turn.new.stack.items)
      (stands_next c.in_ok-end.end c.in-Some.next (sym c.next_stand.ensures ∙ c.in-Some.is))
      (c.in_ok-end.ensures.stands r.place (gifts registers calls c.loop-stack.n) r.at
      (gift_is registers stepped calls c.loop-stack.n o changed c.block_at-block.ensures.first)));
  seen = λ registers changed fresh. (
      let p : Program = program_of c.args.frame.now.program in
      let stepped : List frames.Contract = map contract_of c.args.frame.now.stepped.now in
      let f : frames.Frame = frame_in c.args.frame.now in
      let k = c.args.limits.turns in
      let last : ℕ = c.args.limits.steps - 1 in
      let calls : List WrittenCall = map written_call_of c.args.calls.now in
      let start : Start = called_start (g.M.State.View.view c.args.entry.now) c.args.choices.now registers calls in
      let nexts = after_next c.args.calls.now c.requires.calls in
      let n = c.loop-stack.n in
      let stands = c.loop-stack.stand in
      let now : State = g.M.State.View.view c.loop-stack.state in
      let stack = reverse c.loop-stack.stack.items in
      let new : State = g.M.State.View.view c.turn.new.state in
      let after = reverse c.turn.new.stack.items in
      let r = c.loop-stack.invariant.run registers changed in
      let within = c.loop-stack.invariant.within in
      let le : n ≤ last = omega (arith, within) in
      let o : Option WrittenCall = option_map (λ c. written_call_of c.now) c.block_at-block.result in
      let gift = gift_is registers stepped calls n o changed c.block_at-block.ensures.first in
      let comes = c.in_ok-end.ensures.end r.place (gifts registers calls n) n r.at gift in
      let is : IsTurnEnd c.in_ok-end.end p new after n (turned stands f start.state r.place c.choice_at-choice.result (start.given n))
      (turned_wrong stands f start.state r.place (block_at calls n) (start.given n) n) =
      subst (λ z. IsTurnEnd c.in_ok-end.end p new after n (turned stands f start.state r.place c.choice_at-choice.result (start.given n))
      (turned_wrong stands f start.state r.place z (start.given n) n)) c.block_at-block.ensures.first comes in
      let own = own_of c.args.frame.now.own in
      let memory : ReadsMemory (program_in p own) = record { word = λ s a. refl; little = g.met.M.Machine.lawful.little } in
      let form = g.M.Machine.form in
      let states = g.met.M.Machine.states c.loop-stack.state in
      let choice = c.choice_at-choice.result in
      let drawn = c.choice_at-choice.ensures in
      let y = c.in_ok-end.end in
      let left = c.in_ok-end.ensures.left in
      let has = c.loop-stack.invariant.seen registers changed fresh in
      let deep = c.len-depth.ensures ∙ c.loop-stack.stack.ok.0 ∙ sym (length-reverse c.loop-stack.stack.items) in
      let deeper = c.later.ensures ∙ ap (later_of y c.len-depth.result) (c.len.ensures ∙ c.turn.new.stack.ok.0 ∙ sym (length-reverse c.turn.new.stack.items)) in
      let grown = c.in_ok-note.ensures (seen_steps f form k start n) n (kind_at stands) now c.len-depth.result (stored_at stands f now)
      (places_at stands f now) c.in_ok-look.ensures.glance has in
      let next = λ (right : turned_wrong stands f start.state r.place (block_at calls n) (start.given n) n ≡ None).
      has_next p stepped own c.requires.lawful memory form k start calls stands c.loop-stack.turns n c.loop-stack.called now stack r states choice drawn y new
      after is left right c.loop-stack.seen c.note.new.observer c.in_ok-look.look c.len-depth.result c.later.result deep deeper has
      c.in_ok-look.ensures.low grown in
      let on = goes_on f k start calls nexts p stands c.loop-stack.turns n c.loop-stack.called now stack r c.choice_at-choice.result c.pc-at.result
      c.choice_at-choice.ensures c.pc-at.ensures c.in_ok-end.end c.in-Some.next new after (sym c.next_stand.ensures ∙ c.in-Some.is) is in
      let up : suc n ≡ n + 1 = omega arith in
      subst (λ j. HasSeen c.note.new.observer (seen_steps f form k start j)) up (next on.right));
  run = λ registers changed. (
      let p : Program = program_of c.args.frame.now.program in
      let stepped : List frames.Contract = map contract_of c.args.frame.now.stepped.now in
      let f : frames.Frame = frame_in c.args.frame.now in
      let k = c.args.limits.turns in
      let last : ℕ = c.args.limits.steps - 1 in
      let calls : List WrittenCall = map written_call_of c.args.calls.now in
      let start : Start = called_start (g.M.State.View.view c.args.entry.now) c.args.choices.now registers calls in
      let nexts = after_next c.args.calls.now c.requires.calls in
      let n = c.loop-stack.n in
      let stands = c.loop-stack.stand in
      let now : State = g.M.State.View.view c.loop-stack.state in
      let stack = reverse c.loop-stack.stack.items in
      let new : State = g.M.State.View.view c.turn.new.state in
      let after = reverse c.turn.new.stack.items in
      let r = c.loop-stack.invariant.run registers changed in
      let within = c.loop-stack.invariant.within in
      let le : n ≤ last = omega (arith, within) in
      let o : Option WrittenCall = option_map (λ c. written_call_of c.now) c.block_at-block.result in
      let gift = gift_is registers stepped calls n o changed c.block_at-block.ensures.first in
      let comes = c.in_ok-end.ensures.end r.place (gifts registers calls n) n r.at gift in
      let is : IsTurnEnd c.in_ok-end.end p new after n (turned stands f start.state r.place c.choice_at-choice.result (start.given n))
      (turned_wrong stands f start.state r.place (block_at calls n) (start.given n) n) =
      subst (λ z. IsTurnEnd c.in_ok-end.end p new after n (turned stands f start.state r.place c.choice_at-choice.result (start.given n))
      (turned_wrong stands f start.state r.place z (start.given n) n)) c.block_at-block.ensures.first comes in
      let on = goes_on f k start calls nexts p stands c.loop-stack.turns n c.loop-stack.called now stack r c.choice_at-choice.result c.pc-at.result
      c.choice_at-choice.ensures c.pc-at.ensures c.in_ok-end.end c.in-Some.next new after (sym c.next_stand.ensures ∙ c.in-Some.is) is in
      subst (λ b. IsRunning f k start calls p c.in-Some.next c.in-Some-next_turns.more (n + 1) b new after) (sym c.calls_here-called.ensures)
      (runs_on f k start calls nexts p stands c.loop-stack.turns n c.loop-stack.called now stack r c.choice_at-choice.result c.pc-at.result
      c.choice_at-choice.ensures c.pc-at.ensures c.in-Some.next new after on c.pc.result c.pc.ensures c.in-Some-next_turns.more
      (c.in-Some-next_turns.ensures.turned n on.d)));
}

pub returns-in-None-clause-seen : goal.returns-in-None-clause-seen
returns-in-None-clause-seen g c registers changed fresh none =
    let p : Program = program_of c.args.frame.now.program in
    let stepped : List frames.Contract = map contract_of c.args.frame.now.stepped.now in
    let f : frames.Frame = frame_in c.args.frame.now in
    let k = c.args.limits.turns in
    let last : ℕ = c.args.limits.steps - 1 in
    let calls : List WrittenCall = map written_call_of c.args.calls.now in
    let start : Start = called_start (g.M.State.View.view c.args.entry.now) c.args.choices.now registers calls in
    let nexts = after_next c.args.calls.now c.requires.calls in
    let n = c.loop-stack.n in
    let stands = c.loop-stack.stand in
    let now : State = g.M.State.View.view c.loop-stack.state in
    let stack = reverse c.loop-stack.stack.items in
    let new : State = g.M.State.View.view c.turn.new.state in
    let after = reverse c.turn.new.stack.items in
    let r = c.loop-stack.invariant.run registers changed in
    let within = c.loop-stack.invariant.within in
    let le : n ≤ last = omega (arith, within) in
    let o : Option WrittenCall = option_map (λ c. written_call_of c.now) c.block_at-block.result in
    let gift = gift_is registers stepped calls n o changed c.block_at-block.ensures.first in
    let comes = c.in_ok-end.ensures.end r.place (gifts registers calls n) n r.at gift in
    let is : IsTurnEnd c.in_ok-end.end p new after n (turned stands f start.state r.place c.choice_at-choice.result (start.given n))
    (turned_wrong stands f start.state r.place (block_at calls n) (start.given n) n) =
    subst (λ z. IsTurnEnd c.in_ok-end.end p new after n (turned stands f start.state r.place c.choice_at-choice.result (start.given n))
    (turned_wrong stands f start.state r.place z (start.given n) n)) c.block_at-block.ensures.first comes in
    let own = own_of c.args.frame.now.own in
    let memory : ReadsMemory (program_in p own) = record { word = λ s a. refl; little = g.met.M.Machine.lawful.little } in
    let form = g.M.Machine.form in
    let states = g.met.M.Machine.states c.loop-stack.state in
    let choice = c.choice_at-choice.result in
    let drawn = c.choice_at-choice.ensures in
    let y = c.in_ok-end.end in
    let left = c.in_ok-end.ensures.left in
    let has = c.loop-stack.invariant.seen registers changed fresh in
    let deep = c.len-depth.ensures ∙ c.loop-stack.stack.ok.0 ∙ sym (length-reverse c.loop-stack.stack.items) in
    let deeper = c.later.ensures ∙ ap (later_of y c.len-depth.result) (c.len.ensures ∙ c.turn.new.stack.ok.0 ∙ sym (length-reverse c.turn.new.stack.items)) in
    let grown = c.in_ok-note.ensures (seen_steps f form k start n) n (kind_at stands) now c.len-depth.result (stored_at stands f now)
    (places_at stands f now) c.in_ok-look.ensures.glance has in
    let next = λ (right : turned_wrong stands f start.state r.place (block_at calls n) (start.given n) n ≡ None).
    has_next p stepped own c.requires.lawful memory form k start calls stands c.loop-stack.turns n c.loop-stack.called now stack r states choice drawn y new
    after is left right c.loop-stack.seen c.note.new.observer c.in_ok-look.look c.len-depth.result c.later.result deep deeper has
    c.in_ok-look.ensures.low grown in
    let e = c.last.result.ending in
    let right = last_right p stepped own c.requires.lawful memory form k start calls stands c.loop-stack.turns n c.loop-stack.called now stack r states
    choice drawn y new after c.pc-at.result _ e
    (next_as f k start calls nexts p stands c.loop-stack.turns n c.loop-stack.called now stack r choice c.pc-at.result drawn c.pc-at.ensures) y is
    c.last.ensures.ending none in
    let enough : suc n ≤ c.args.limits.steps = omega (arith, within) in
    watched p stepped own c.requires.lawful memory form k start calls stands c.loop-stack.turns n c.loop-stack.called now stack r states choice drawn y new
    after is left right.right c.note.new.observer c.args.limits.steps e (next right.right)
    (seen_over f form k start n right.behind right.over right.is c.args.limits.steps enough) right.last

pub returns-in-None-next_turns-clause-seen : goal.returns-in-None-next_turns-clause-seen
returns-in-None-next_turns-clause-seen g c registers changed fresh none =
    let p : Program = program_of c.args.frame.now.program in
    let stepped : List frames.Contract = map contract_of c.args.frame.now.stepped.now in
    let f : frames.Frame = frame_in c.args.frame.now in
    let k = c.args.limits.turns in
    let last : ℕ = c.args.limits.steps - 1 in
    let calls : List WrittenCall = map written_call_of c.args.calls.now in
    let start : Start = called_start (g.M.State.View.view c.args.entry.now) c.args.choices.now registers calls in
    let nexts = after_next c.args.calls.now c.requires.calls in
    let n = c.loop-stack.n in
    let stands = c.loop-stack.stand in
    let now : State = g.M.State.View.view c.loop-stack.state in
    let stack = reverse c.loop-stack.stack.items in
    let new : State = g.M.State.View.view c.turn.new.state in
    let after = reverse c.turn.new.stack.items in
    let r = c.loop-stack.invariant.run registers changed in
    let within = c.loop-stack.invariant.within in
    let le : n ≤ last = omega (arith, within) in
    let o : Option WrittenCall = option_map (λ c. written_call_of c.now) c.block_at-block.result in
    let gift = gift_is registers stepped calls n o changed c.block_at-block.ensures.first in
    let comes = c.in_ok-end.ensures.end r.place (gifts registers calls n) n r.at gift in
    let is : IsTurnEnd c.in_ok-end.end p new after n (turned stands f start.state r.place c.choice_at-choice.result (start.given n))
    (turned_wrong stands f start.state r.place (block_at calls n) (start.given n) n) =
    subst (λ z. IsTurnEnd c.in_ok-end.end p new after n (turned stands f start.state r.place c.choice_at-choice.result (start.given n))
    (turned_wrong stands f start.state r.place z (start.given n) n)) c.block_at-block.ensures.first comes in
    let own = own_of c.args.frame.now.own in
    let memory : ReadsMemory (program_in p own) = record { word = λ s a. refl; little = g.met.M.Machine.lawful.little } in
    let form = g.M.Machine.form in
    let states = g.met.M.Machine.states c.loop-stack.state in
    let choice = c.choice_at-choice.result in
    let drawn = c.choice_at-choice.ensures in
    let y = c.in_ok-end.end in
    let left = c.in_ok-end.ensures.left in
    let has = c.loop-stack.invariant.seen registers changed fresh in
    let deep = c.len-depth.ensures ∙ c.loop-stack.stack.ok.0 ∙ sym (length-reverse c.loop-stack.stack.items) in
    let deeper = c.later.ensures ∙ ap (later_of y c.len-depth.result) (c.len.ensures ∙ c.turn.new.stack.ok.0 ∙ sym (length-reverse c.turn.new.stack.items)) in
    let grown = c.in_ok-note.ensures (seen_steps f form k start n) n (kind_at stands) now c.len-depth.result (stored_at stands f now)
    (places_at stands f now) c.in_ok-look.ensures.glance has in
    let next = λ (right : turned_wrong stands f start.state r.place (block_at calls n) (start.given n) n ≡ None).
    has_next p stepped own c.requires.lawful memory form k start calls stands c.loop-stack.turns n c.loop-stack.called now stack r states choice drawn y new
    after is left right c.loop-stack.seen c.note.new.observer c.in_ok-look.look c.len-depth.result c.later.result deep deeper has
    c.in_ok-look.ensures.low grown in
    let on = goes_on f k start calls nexts p stands c.loop-stack.turns n c.loop-stack.called now stack r c.choice_at-choice.result c.pc-at.result
    c.choice_at-choice.ensures c.pc-at.ensures c.in_ok-end.end c.in-Some.next new after (sym c.next_stand.ensures ∙ c.in-Some.is) is in
    let e = c.ended.result.ending in
    let enough : suc n ≤ c.args.limits.steps = omega (arith, within) in
    watched p stepped own c.requires.lawful memory form k start calls stands c.loop-stack.turns n c.loop-stack.called now stack r states choice drawn y new
    after is left on.right c.note.new.observer c.args.limits.steps e (next on.right)
    (seen_over f form k start n (Turned c.pc-at.result n) tt
    (turned_out f k start calls nexts p stands c.loop-stack.turns n c.loop-stack.called now stack r choice c.pc-at.result drawn c.pc-at.ensures c.in-Some.next
    new after on c.pc.result c.pc.ensures (c.in-None-next_turns.ensures.turned n on.d)) c.args.limits.steps enough)
    (ap step_in (ended_is _ (ending.Turned c.pc-at.result n) e c.ended.ensures.ending none))

pub returns-then-n-limits-clause-seen : goal.returns-then-n-limits-clause-seen
returns-then-n-limits-clause-seen g c registers changed fresh none =
    let p : Program = program_of c.args.frame.now.program in
    let stepped : List frames.Contract = map contract_of c.args.frame.now.stepped.now in
    let f : frames.Frame = frame_in c.args.frame.now in
    let k = c.args.limits.turns in
    let last : ℕ = c.args.limits.steps - 1 in
    let calls : List WrittenCall = map written_call_of c.args.calls.now in
    let start : Start = called_start (g.M.State.View.view c.args.entry.now) c.args.choices.now registers calls in
    let nexts = after_next c.args.calls.now c.requires.calls in
    let n = c.loop-stack.n in
    let stands = c.loop-stack.stand in
    let now : State = g.M.State.View.view c.loop-stack.state in
    let stack = reverse c.loop-stack.stack.items in
    let new : State = g.M.State.View.view c.turn.new.state in
    let after = reverse c.turn.new.stack.items in
    let r = c.loop-stack.invariant.run registers changed in
    let within = c.loop-stack.invariant.within in
    let le : n ≤ last = omega (arith, within) in
    let o : Option WrittenCall = option_map (λ c. written_call_of c.now) c.block_at-block.result in
    let gift = gift_is registers stepped calls n o changed c.block_at-block.ensures.first in
    let comes = c.in_ok-end.ensures.end r.place (gifts registers calls n) n r.at gift in
    let is : IsTurnEnd c.in_ok-end.end p new after n (turned stands f start.state r.place c.choice_at-choice.result (start.given n))
    (turned_wrong stands f start.state r.place (block_at calls n) (start.given n) n) =
    subst (λ z. IsTurnEnd c.in_ok-end.end p new after n (turned stands f start.state r.place c.choice_at-choice.result (start.given n))
    (turned_wrong stands f start.state r.place z (start.given n) n)) c.block_at-block.ensures.first comes in
    let own = own_of c.args.frame.now.own in
    let memory : ReadsMemory (program_in p own) = record { word = λ s a. refl; little = g.met.M.Machine.lawful.little } in
    let form = g.M.Machine.form in
    let states = g.met.M.Machine.states c.loop-stack.state in
    let choice = c.choice_at-choice.result in
    let drawn = c.choice_at-choice.ensures in
    let y = c.in_ok-end.end in
    let left = c.in_ok-end.ensures.left in
    let has = c.loop-stack.invariant.seen registers changed fresh in
    let deep = c.len-depth.ensures ∙ c.loop-stack.stack.ok.0 ∙ sym (length-reverse c.loop-stack.stack.items) in
    let deeper = c.later.ensures ∙ ap (later_of y c.len-depth.result) (c.len.ensures ∙ c.turn.new.stack.ok.0 ∙ sym (length-reverse c.turn.new.stack.items)) in
    let grown = c.in_ok-note.ensures (seen_steps f form k start n) n (kind_at stands) now c.len-depth.result (stored_at stands f now)
    (places_at stands f now) c.in_ok-look.ensures.glance has in
    let next = λ (right : turned_wrong stands f start.state r.place (block_at calls n) (start.given n) n ≡ None).
    has_next p stepped own c.requires.lawful memory form k start calls stands c.loop-stack.turns n c.loop-stack.called now stack r states choice drawn y new
    after is left right c.loop-stack.seen c.note.new.observer c.in_ok-look.look c.len-depth.result c.later.result deep deeper has
    c.in_ok-look.ensures.low grown in
    let on = goes_on f k start calls nexts p stands c.loop-stack.turns n c.loop-stack.called now stack r c.choice_at-choice.result c.pc-at.result
    c.choice_at-choice.ensures c.pc-at.ensures c.in_ok-end.end c.in-Some.next new after (sym c.next_stand.ensures ∙ c.in-Some.is) is in
    let e = c.ended-then-n-limits.result.ending in
    let full = c.if-n-limits.true in
    let same : c.args.limits.steps ≡ suc n = omega (arith, full) in
    watched p stepped own c.requires.lawful memory form k start calls stands c.loop-stack.turns n c.loop-stack.called now stack r states choice drawn y new
    after is left on.right c.note.new.observer c.args.limits.steps e (next on.right) (ap (seen_steps f form k start) same)
    (ap step_in (ended_is _ (ending.Left c.pc-at.result n) e c.ended-then-n-limits.ensures.ending none))
