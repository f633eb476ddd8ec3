use Rattle.question_form.specs.Views.{kind_of, unrolled_of}
use Rattle.program_value.specs.Programs.{program_of}
use Rattle.model_verdict.proofs.Findings.{judged_by, refused_by, some_reading, sound_by}
use Rattle.model_verdict.proofs.Numbers.{within}
use Rattle.model_verdict.proofs.judging.judge.Goals as goal

pub drawn_by_number-requires-clause-within : goal.drawn_by_number-requires-clause-within
drawn_by_number-requires-clause-within g c =
    let u = unrolled_of c.args.passive.now.unrolled.now in
    let of = c.in_ok-numbers.ensures.numbers c.requires.ground.unrolling.points.once in
    rw c.deref.ensures.value (within (program_of c.args.program.now) c.args.budget.now.unroll u c.requires.ground.unrolling
    c.in_ok-numbers.numbers.items of.0 of.1 of.2)

pub drawn_by_number-requires-clause-distinct : goal.drawn_by_number-requires-clause-distinct
drawn_by_number-requires-clause-distinct g c =
    let of = c.in_ok-numbers.ensures.numbers c.requires.ground.unrolling.points.once in rw c.deref.ensures.value of.2.distinct

pub judge_model-requires-clause-within : goal.judge_model-requires-clause-within
judge_model-requires-clause-within g c =
    let u = unrolled_of c.args.passive.now.unrolled.now in
    let of = c.in_ok-numbers.ensures.numbers c.requires.ground.unrolling.points.once in
    rw c.deref-in-Ok-2.ensures.value (within (program_of c.args.program.now) c.args.budget.now.unroll u
    c.requires.ground.unrolling c.in_ok-numbers.numbers.items of.0 of.1 of.2)

pub judge_model-requires-clause-sound : goal.judge_model-requires-clause-sound
judge_model-requires-clause-sound g c =
    let p = program_of c.args.program.now in
    let k = c.args.budget.now.unroll in
    let u = unrolled_of c.args.passive.now.unrolled.now in
    let form = c.args.passive.now.unrolled.now.form in
    let numbers = c.in_ok-numbers.numbers.items in
    let of = c.in_ok-numbers.ensures.numbers c.requires.ground.unrolling.points.once in
    let drawn = c.in_ok-drawn.drawn.items in
    let are = rw c.deref.ensures.value at c.in_ok-drawn.ensures in
    let read = rw c.deref-2.ensures.value at c.in-Ok.ensures.read in
    let words = rw c.deref-in-Ok.ensures.value at c.are_in_range.ensures.words in
    let fill = rw c.fill_of.ensures at c.are_in_range.ensures.byte in
    rw c.deref-in-Ok-2.ensures.value (sound_by p k (kind_of c.args.kind) c.args.text.now u numbers of drawn are form g.M.Machine.form c.requires.form
    c.in-Ok.model read words fill)

pub judge_model-requires-clause-some : goal.judge_model-requires-clause-some
judge_model-requires-clause-some g c =
    let p = program_of c.args.program.now in
    let k = c.args.budget.now.unroll in
    let u = unrolled_of c.args.passive.now.unrolled.now in
    let form = c.args.passive.now.unrolled.now.form in
    let numbers = c.in_ok-numbers.numbers.items in
    let of = c.in_ok-numbers.ensures.numbers c.requires.ground.unrolling.points.once in
    let drawn = c.in_ok-drawn.drawn.items in
    let are = rw c.deref.ensures.value at c.in_ok-drawn.ensures in
    let read = rw c.deref-2.ensures.value at c.in-Ok.ensures.read in
    let words = rw c.deref-in-Ok.ensures.value at c.are_in_range.ensures.words in
    let fill = rw c.fill_of.ensures at c.are_in_range.ensures.byte in
    rw c.deref-in-Ok-2.ensures.value (some_reading p k g.M.Machine.form u c.requires.ground numbers c.in-Ok.model
    (sound_by p k (kind_of c.args.kind) c.args.text.now u numbers of drawn are form g.M.Machine.form c.requires.form c.in-Ok.model read words fill))

pub returns-in-Ok : goal.returns-in-Ok
returns-in-Ok g c =
    let p = program_of c.args.program.now in
    let k = c.args.budget.now.unroll in
    let u = unrolled_of c.args.passive.now.unrolled.now in
    let form = c.args.passive.now.unrolled.now.form in
    let numbers = c.in_ok-numbers.numbers.items in
    let of = c.in_ok-numbers.ensures.numbers c.requires.ground.unrolling.points.once in
    let drawn = c.in_ok-drawn.drawn.items in
    let are = rw c.deref.ensures.value at c.in_ok-drawn.ensures in
    let read = rw c.deref-2.ensures.value at c.in-Ok.ensures.read in
    let words = rw c.deref-in-Ok.ensures.value at c.are_in_range.ensures.words in
    let fill = rw c.fill_of.ensures at c.are_in_range.ensures.byte in
    judged_by p k (kind_of c.args.kind) c.args.text.now u numbers of drawn are form g.M.Machine.form c.requires.form c.in-Ok.model read words fill
    c.requires.ground c.in_ok-judged-in-Ok.judged
    (rw c.deref-in-Ok-2.ensures.value at c.in_ok-judged-in-Ok.ensures)

pub returns-in-Err-Text : goal.returns-in-Err-Text
returns-in-Err-Text g c =
    let p = program_of c.args.program.now in
    let k = c.args.budget.now.unroll in
    let u = unrolled_of c.args.passive.now.unrolled.now in
    let form = c.args.passive.now.unrolled.now.form in
    let numbers = c.in_ok-numbers.numbers.items in
    let of = c.in_ok-numbers.ensures.numbers c.requires.ground.unrolling.points.once in
    let drawn = c.in_ok-drawn.drawn.items in
    let are = rw c.deref.ensures.value at c.in_ok-drawn.ensures in
    rw c.in-Err-Text.field-0-is (refused_by p k (kind_of c.args.kind) c.args.text.now u numbers of drawn are form g.M.Machine.form c.requires.form
    c.requires.ground c.in-Err-Text.line c.in-Err-Text.kind (rw (c.deref-2.ensures.value, c.in-Err-Text.field-0-is) at c.in-Err-Text.ensures.refused))
