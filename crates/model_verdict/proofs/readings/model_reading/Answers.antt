use Rattle.std.proofs.Common.{◌∙◌, ◌%◌, ap}
use Rattle.std.specs.Prelude.{bit_xor}
use Rattle.question_form.specs.Views.{unrolled_of}
use Rattle.start_value.specs.Starts.{layout_of}
use Rattle.term_dag.specs.declared.values.Reading.{Reading}
use Rattle.word_spec.specs.Memory.{memory_of}
use Rattle.model_verdict.proofs.Made.{is_of_model, placed_few}
use Rattle.model_verdict.proofs.readings.model_reading.Goals as goal

pub returns-clause-few : goal.returns-clause-few
returns-clause-few c =
    placed_few c.in_ok-choices.choices.items c.args.numbers.now c.args.model.now.choices.items c.args.drawn.now c.in_ok-choices.ensures.count
    (rw c.deref-3.ensures.value at c.in_ok-choices.ensures.each) c.requires.sound.few

pub returns-clause-choices : goal.returns-clause-choices
returns-clause-choices c = c.in_ok-choices.ensures.count ∙ c.requires.count

pub returns-clause-of : goal.returns-clause-of
returns-clause-of c =
    let y : Reading = record {
      registers = c.in_ok-registers.registers;
      flags = c.in_ok-flags.flags;
      memory = c.in_ok-memory.memory;
      fill = c.fill_of.result;
      choices = c.in_ok-choices.choices;
      base = c.new.result;
    } in
    is_of_model (unrolled_of c.args.unrolled.now) (layout_of c.args.unrolled.now.form) c.args.numbers.now c.args.drawn.now c.args.model.now y c.requires.sound
    c.requires.drawn c.requires.count (rw (c.registers-first.ensures.first, c.deref.ensures.value) at c.in_ok-registers.ensures) c.in_ok-flags.ensures
    (λ x. ap (λ n. bit_xor (n % 256) (memory_of c.in_ok-memory.memory.entries x % 256)) c.fill_of.ensures
    ∙ (rw c.deref-2.ensures.value at c.in_ok-memory.ensures) x)
    (rw c.deref-3.ensures.value at c.in_ok-choices.ensures.each)
