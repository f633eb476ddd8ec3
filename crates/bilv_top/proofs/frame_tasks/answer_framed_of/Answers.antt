use Rattle.std.proofs.Common.{◌≡◌, ◌∙◌, ℕ, ap, subst, sym}
use Rattle.std.proofs.lemmas.Result.{IfOk-weaker}
use Rattle.bilv_spec.specs.Files.{layout_of, machine_of}
use Rattle.bilv_spec.specs.Run.{Program}
use Rattle.command_line.specs.Commands.{options_of}
use Rattle.frame_spec.specs.FrameVerdict.{Whole}
use Rattle.io_edges.specs.Met.{seen}
use Rattle.machine_spec.specs.Machine.{IsAtPlace, Machine}
use Rattle.machine_spec.specs.StateText.{Layout}
use Rattle.program_value.specs.Programs.{program_of}
use Rattle.bilv_top.specs.Answers.{answer_of}
use Rattle.bilv_top.specs.Frames.{AreFitted, IsSegmented, whole_by, whole_with}
use Rattle.bilv_top.proofs.Founds.{contracts_on}
use Rattle.bilv_top.proofs.frame_tasks.answer_framed_of.Goals as goal

pub program_on-program-requires-clause-machine : goal.program_on-program-requires-clause-machine
program_on-program-requires-clause-machine g c = (options_of c.args.options, c.requires.machine)

pub answer_framed_by-requires-clause-place : goal.answer_framed_by-requires-clause-place
answer_framed_by-requires-clause-place g c =
    let o = options_of c.args.options in
    subst (λ (m : Machine). IsAtPlace m.narrow c.program_on-program.result.entry) c.requires.machine
    (subst (λ (a : ℕ). IsAtPlace (machine_of o c.args.image.now).narrow a) (sym (ap (λ (p : Program). p.entry) c.program_on-program.ensures)) c.requires.place)

pub answer_framed_by-requires-clause-contracts : goal.answer_framed_by-requires-clause-contracts
answer_framed_by-requires-clause-contracts g c =
    contracts_on c.args.image.now c.args.framed.now.contracts.items g.M.Machine.machine (options_of c.args.options, c.requires.machine) c.requires.contracts

pub answer_framed_by-requires-clause-fitted : goal.answer_framed_by-requires-clause-fitted
answer_framed_by-requires-clause-fitted g c =
    let f = c.args.framed.now in
    let whole : whole_with (program_of c.program_on-program.result) f ≡ whole_by (machine_of (options_of c.args.options) c.args.image.now) c.args.image.now f =
    ap (λ (p : Program). whole_with p f) c.program_on-program.ensures ∙ ap (λ (m : Machine). whole_by m c.args.image.now f) (sym c.requires.machine) in
    subst AreFitted (sym whole) c.requires.fitted

pub returns-clause-done : goal.returns-clause-done
returns-clause-done g c =
    let f = c.args.framed.now in
    let o = options_of c.args.options in
    let file = c.args.image.now in
    let s = seen (g.H.Shelf.holds c.args.shelf.now) (g.H.Shelf.faults c.args.shelf.now) (g.H.Shelf.faults c.answer_framed_by.new.shelf) in
    let whole : whole_with (program_of c.program_on-program.result) f ≡ whole_by (machine_of o file) file f =
    ap (λ (p : Program). whole_with p f) c.program_on-program.ensures ∙ ap (λ (m : Machine). whole_by m file f) (sym c.requires.machine) in
    IfOk-weaker c.answer_framed_by.result _ _
    (λ a done. subst (λ (w : Whole). IsSegmented s c.args.task c.args.rank (layout_of o file) w (answer_of a)) whole
    (subst (λ (l : Layout). IsSegmented s c.args.task c.args.rank l (whole_with (program_of c.program_on-program.result) f) (answer_of a)) (sym c.requires.form) done))
    c.answer_framed_by.ensures.done
