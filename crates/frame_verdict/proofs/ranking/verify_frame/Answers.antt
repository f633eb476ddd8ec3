use Rattle.std.proofs.Common.{List, length, subst, sym}
use Rattle.notes_value.specs.declared.notes.Notes.{Notes as Held}
use Rattle.frame_verdict.specs.FrameFunctions.{AreNotesTo, whole_of_framed}
use Rattle.frame_verdict.specs.declared.framed.Framed.{Framed}
use Rattle.frame_verdict.proofs.Ready.{all_unrolled, all_within, exceeded, exceeded_verdict}
use Rattle.frame_verdict.proofs.ranking.verify_frame.Goals as goal

pub measure-requires-clause-runs : goal.measure-requires-clause-runs
measure-requires-clause-runs g c = record {
  place = c.requires.place;
  callable = c.requires.callable;
}

pub measure-requires-clause-notes : goal.measure-requires-clause-notes
measure-requires-clause-notes g c =
    let x : Framed g.row.M.Denot g.row.M-Insn.Denot g.row.M-State.Denot g.M.Machine g.M.State.View = record {
      program = c.args.program.now;
      invariants = c.args.invariants;
      contracts = c.args.contracts;
    } in
    subst (λ (l : List Held). AreNotesTo x (length x.contracts.now) l) (sym c.deref.ensures.value) c.in_ok-notes.ensures

pub returns-in-Exceeded : goal.returns-in-Exceeded
returns-in-Exceeded g c =
    let x : Framed g.row.M.Denot g.row.M-Insn.Denot g.row.M-State.Denot g.M.Machine g.M.State.View = record {
      program = c.args.program.now;
      invariants = c.args.invariants;
      contracts = c.args.contracts;
    } in
    let w = whole_of_framed x in
    exceeded_verdict w g.M.Machine.form c.args.budget.now c.in-Exceeded.past
    (exceeded w g.M.Machine.form c.args.budget.now c.in-Exceeded.past c.in_ok-weighed.weighed c.in_ok-weighed.ensures c.in-Exceeded.is)

pub verdict_within-requires-clause-runs : goal.verdict_within-requires-clause-runs
verdict_within-requires-clause-runs g c = record {
  unroll = record {
    place = c.requires.place;
    callable = c.requires.callable;
  };
  rising = c.requires.rising;
  alone = c.requires.alone;
}

pub verdict_within-requires-clause-notes : goal.verdict_within-requires-clause-notes
verdict_within-requires-clause-notes g c =
    let x : Framed g.row.M.Denot g.row.M-Insn.Denot g.row.M-State.Denot g.M.Machine g.M.State.View = record {
      program = c.args.program.now;
      invariants = c.args.invariants;
      contracts = c.args.contracts;
    } in
    subst (λ (l : List Held). AreNotesTo x (length x.contracts.now) l) (sym c.deref-in-Within.ensures.value) c.in_ok-notes.ensures

pub verdict_within-requires-clause-within : goal.verdict_within-requires-clause-within
verdict_within-requires-clause-within g c =
    let x : Framed g.row.M.Denot g.row.M-Insn.Denot g.row.M-State.Denot g.M.Machine g.M.State.View = record {
      program = c.args.program.now;
      invariants = c.args.invariants;
      contracts = c.args.contracts;
    } in
    all_within g.M.Machine.form x c.args.budget.now c.in_ok-weighed.weighed c.in_ok-weighed.ensures c.in-Within.frames c.in-Within.is

pub verdict_within-requires-clause-frames : goal.verdict_within-requires-clause-frames
verdict_within-requires-clause-frames g c =
    let x : Framed g.row.M.Denot g.row.M-Insn.Denot g.row.M-State.Denot g.M.Machine g.M.State.View = record {
      program = c.args.program.now;
      invariants = c.args.invariants;
      contracts = c.args.contracts;
    } in
    all_unrolled g.M.Machine.form x c.args.budget.now c.in_ok-weighed.weighed c.in_ok-weighed.ensures c.in-Within.frames c.in-Within.is
