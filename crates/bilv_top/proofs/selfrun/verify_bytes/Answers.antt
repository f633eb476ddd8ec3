use Rattle.std.proofs.Common.{◌≡◌, arith, subst}
use Rattle.std.proofs.lemmas.Result.{IfOk-weaker}
use Rattle.call_spec.specs.Calls.{Answer, Options}
use Rattle.bilv_spec.specs.Answers.{IsReported}
use Rattle.bilv_spec.specs.Files.{layout_of, machine_of, program_of}
use Rattle.notes_spec.specs.Verified.{elf_refused}
use Rattle.command_line.specs.Commands.{budget_of, options_of}
use Rattle.notes_value.specs.NoteViews.{notes_of}
use Rattle.bilv_top.specs.Answers.{answer_of, elf_text_of}
use Rattle.bilv_top.specs.Due.{AreNotesAnswered, IsFoundBy}
use Rattle.bilv_top.proofs.Founds.{found_contracts, found_fitted, found_over_file, found_place, found_reported, found_rising}
use Rattle.bilv_top.proofs.Made.{large_verified, answered_verified, found_verified}
use Rattle.bilv_top.proofs.Refused.{elf_is_refused}
use Rattle.bilv_top.proofs.selfrun.verify_bytes.Goals as goal

pub returns-in-Err-clause-verified : goal.returns-in-Err-clause-verified
returns-in-Err-clause-verified g c =
    IfOk-weaker c.refuse_elf.result _ _
    (λ a is. elf_refused (elf_text_of c.in-Err.fault) (elf_is_refused c.args.file.now c.in-Err.fault is.0 c.requires.short c.in-Err.ensures.refused) is.1)
    c.refuse_elf.ensures

pub returns-then-len-gt-NOTES_LIMIT-clause-verified : goal.returns-then-len-gt-NOTES_LIMIT-clause-verified
returns-then-len-gt-NOTES_LIMIT-clause-verified g c =
    IfOk-weaker c.answer.result _ _
    (λ a is. large_verified c.args.file.now c.args.notes.items _ (budget_of c.args.budget) (answer_of a) c.in-Ok.ensures.image
    (c.requires.short, c.in-Ok.ensures.accepted) (omega (arith, c.if-len-gt-NOTES_LIMIT.true, c.len.ensures)) is) c.answer.ensures

pub answer_framed_on-requires-clause-found : goal.answer_framed_on-requires-clause-found
answer_framed_on-requires-clause-found g c =
    let none = c.plain-framed.ensures.none in
    found_over_file (options_of c.standard-options.result) c.in-Ok.image c.in-Go.found (rw c.in-Go.is at c.in_ok-found.ensures).1 c.plain-framed.result
    c.plain-framed.ensures.found none.0 none.1

pub answer_framed_on-requires-clause-place : goal.answer_framed_on-requires-clause-place
answer_framed_on-requires-clause-place g c =
    let none = c.plain-framed.ensures.none in
    found_place (options_of c.standard-options.result) c.in-Ok.image c.in-Go.found (rw c.in-Go.is at c.in_ok-found.ensures).1 c.plain-framed.result
    c.plain-framed.ensures.found none.0 none.1

pub answer_framed_on-requires-clause-rising : goal.answer_framed_on-requires-clause-rising
answer_framed_on-requires-clause-rising g c =
    let none = c.plain-framed.ensures.none in
    found_rising (options_of c.standard-options.result) c.in-Ok.image c.in-Go.found (rw c.in-Go.is at c.in_ok-found.ensures).1 c.plain-framed.result
    c.plain-framed.ensures.found none.0 none.1

pub answer_framed_on-requires-clause-contracts : goal.answer_framed_on-requires-clause-contracts
answer_framed_on-requires-clause-contracts g c =
    let none = c.plain-framed.ensures.none in
    found_contracts (options_of c.standard-options.result) c.in-Ok.image c.in-Go.found (rw c.in-Go.is at c.in_ok-found.ensures).1 c.plain-framed.result
    c.plain-framed.ensures.found none.0 none.1

pub answer_framed_on-requires-clause-fitted : goal.answer_framed_on-requires-clause-fitted
answer_framed_on-requires-clause-fitted g c =
    let none = c.plain-framed.ensures.none in
    found_fitted (options_of c.standard-options.result) c.in-Ok.image c.in-Go.found (rw c.in-Go.is at c.in_ok-found.ensures).1 c.plain-framed.result
    c.plain-framed.ensures.found none.0 none.1

pub returns-in-Go-clause-verified : goal.returns-in-Go-clause-verified
returns-in-Go-clause-verified g c =
    let f = c.in-Go.found in
    let b = budget_of c.args.budget in
    let none = c.plain-framed.ensures.none in
    let o = options_of c.standard-options.result in
    let by = rw c.in-Go.is at c.in_ok-found.ensures in
    let said : Options → Answer → Type 0 = λ o a. IsReported (program_of (machine_of o c.in-Ok.image) c.in-Ok.image (notes_of f.notes) f.entry)
    (layout_of o c.in-Ok.image) b a in
    IfOk-weaker c.answer_framed_on.result _ _
    (λ a is. found_verified c.args.file.now c.args.notes.items _ b (answer_of a) c.in-Ok.ensures.image
    (c.requires.short, c.in-Ok.ensures.accepted) f (omega (arith, c.if-len-gt-NOTES_LIMIT.false, c.len.ensures))
    (subst (λ o. (f.text.items ≡ c.args.notes.items) × IsFoundBy o c.in-Ok.image f) c.standard-options.ensures by)
    (subst (λ o. said o (answer_of a)) c.standard-options.ensures
    (found_reported o c.in-Ok.image f by.1 c.plain-framed.result c.plain-framed.ensures.found none.0 none.1 (layout_of o c.in-Ok.image) b (answer_of a) is)))
    c.answer_framed_on.ensures.done

pub returns-clause-verified : goal.returns-clause-verified
returns-clause-verified g c =
    answered_verified c.args.file.now c.args.notes.items _ (budget_of c.args.budget) (answer_of c.in-Answered.answer) c.in-Ok.ensures.image
    (c.requires.short, c.in-Ok.ensures.accepted) (subst (λ o. AreNotesAnswered o c.in-Ok.image c.args.notes.items (answer_of c.in-Answered.answer)) c.standard-options.ensures
    (rw c.in-Answered.is at c.in_ok-found.ensures))
