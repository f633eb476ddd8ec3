use Rattle.std.proofs.Common.{List, length, subst, sym}
use Rattle.notes_value.specs.declared.notes.Notes.{Notes as Held}
use Rattle.frame_verdict.specs.FrameFunctions.{AreNotesTo, whole_of_framed}
use Rattle.frame_verdict.specs.declared.framed.Framed.{Framed}
use Rattle.frame_verdict.proofs.Ready.{all_unrolled, all_within, exceeded}
use Rattle.frame_verdict.proofs.RankedVerdicts.{at_most}
use Rattle.frame_verdict.proofs.scripting.script_frame.Goals as goal

pub measure-requires-clause-runs : goal.measure-requires-clause-runs
measure-requires-clause-runs g c = record {
  place = c.requires.place;
  callable = c.requires.callable;
}

pub measure-requires-clause-notes : goal.measure-requires-clause-notes
measure-requires-clause-notes g c =
    let x : Framed g.row.M.Denot g.row.M-Insn.Denot g.row.M-State.Denot g.M.Machine g.M.State.View = record {
      program = c.args.program.now;
      invariants = c.args.invariants;
      contracts = c.args.contracts;
    } in
    subst (λ (l : List Held). AreNotesTo x (length x.contracts.now) l) (sym c.deref.ensures.value) c.in_ok-notes.ensures

pub returns-in-Exceeded : goal.returns-in-Exceeded
returns-in-Exceeded g c =
    let x : Framed g.row.M.Denot g.row.M-Insn.Denot g.row.M-State.Denot g.M.Machine g.M.State.View = record {
      program = c.args.program.now;
      invariants = c.args.invariants;
      contracts = c.args.contracts;
    } in
    exceeded (whole_of_framed x) g.M.Machine.form c.args.budget.now c.in-Exceeded.past c.in_ok-weighed.weighed c.in_ok-weighed.ensures c.in-Exceeded.is

pub script_unrolled-requires-clause-measurable : goal.script_unrolled-requires-clause-measurable
script_unrolled-requires-clause-measurable g c =
    let x : Framed g.row.M.Denot g.row.M-Insn.Denot g.row.M-State.Denot g.M.Machine g.M.State.View = record {
      program = c.args.program.now;
      invariants = c.args.invariants;
      contracts = c.args.contracts;
    } in
    (c.of_rank.ensures (whole_of_framed x) c.args.budget.now.unroll g.M.Machine.form
    (all_unrolled g.M.Machine.form x c.args.budget.now c.in_ok-weighed.weighed c.in_ok-weighed.ensures c.in-Within.frames c.in-Within.is)
    (at_most x c.args.rank c.requires.rank)).measurable

pub script_unrolled-requires-clause-once : goal.script_unrolled-requires-clause-once
script_unrolled-requires-clause-once g c =
    let x : Framed g.row.M.Denot g.row.M-Insn.Denot g.row.M-State.Denot g.M.Machine g.M.State.View = record {
      program = c.args.program.now;
      invariants = c.args.invariants;
      contracts = c.args.contracts;
    } in
    (c.of_rank.ensures (whole_of_framed x) c.args.budget.now.unroll g.M.Machine.form
    (all_unrolled g.M.Machine.form x c.args.budget.now c.in_ok-weighed.weighed c.in_ok-weighed.ensures c.in-Within.frames c.in-Within.is)
    (at_most x c.args.rank c.requires.rank)).ground.unrolling.points.once

pub returns : goal.returns
returns g c =
    let x : Framed g.row.M.Denot g.row.M-Insn.Denot g.row.M-State.Denot g.M.Machine g.M.State.View = record {
      program = c.args.program.now;
      invariants = c.args.invariants;
      contracts = c.args.contracts;
    } in
    c.in_ok-scripted-in-Within.ensures (whole_of_framed x) c.args.rank g.M.Machine.form
    (all_within g.M.Machine.form x c.args.budget.now c.in_ok-weighed.weighed c.in_ok-weighed.ensures c.in-Within.frames c.in-Within.is)
    (c.of_rank.ensures (whole_of_framed x) c.args.budget.now.unroll g.M.Machine.form
    (all_unrolled g.M.Machine.form x c.args.budget.now c.in_ok-weighed.weighed c.in_ok-weighed.ensures c.in-Within.frames c.in-Within.is)
    (at_most x c.args.rank c.requires.rank))
