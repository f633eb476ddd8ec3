use Rattle.std.proofs.Common.{◌≡◌, ◌<◌, ◌^◌, ℕ, List, Option, length, map, take, drop, sym, ap, subst, ◌∙◌, arith}
use Rattle.std.specs.Prelude.{codes, ◌%◌}
use Rattle.machine_spec.specs.StateText.{value_names}
use Rattle.start_value.specs.Starts.{layout_of}
use Rattle.model_spec.specs.Models.{given}
use Rattle.model_text.specs.declared.model.ModelMemory.{ModelMemory}
use Rattle.model_text.specs.Answers.{IsMemoryIf}
use Rattle.model_text.specs.Drafts.{AreFlags, or_zero}
use Rattle.model_text.specs.Faults.{IsRefusal}
use Rattle.model_text.proofs.GivenModel.{is_model}
use Rattle.model_text.proofs.Judging.{error_is, refused_is_fault, whole_is_answer, whole_is_sorted}
use Rattle.model_text.proofs.SymbolNames.{own_names}
use Rattle.model_text.proofs.read.read_frame_model.Goals as goal

pub returns-in_err-words-clause-refused : goal.returns-in_err-words-clause-refused
returns-in_err-words-clause-refused c = λ declared are.
    error_is c.from_residual.result c.in_err-words.field-0.0 (IsRefusal declared c.args.text.now) c.from_residual.ensures.1
    (refused_is_fault c.args.layout c.args.drawn.now c.args.others.now (omega arith) (omega (arith, c.args.others.now.given.ok.0)) declared are c.args.text.now c.in_err-words.field-0.0 c.in_err-words.ensures.refused)

pub returns-clause-read : goal.returns-clause-read
returns-clause-read c = λ declared are.
    let layout = layout_of c.args.layout in
    let registers = length layout.registers in
    let few : length c.args.drawn.now < 2 ^ 64 = omega arith in
    let short : length c.args.others.now.given.items < 2 ^ 64 = omega (arith, c.args.others.now.given.ok.0) in
    let r = c.in_ok-words.ensures.read in
    let findings = c.in_ok-words.field-0 in
    let words : c.deref.result.now ≡ findings.words.items = cc in
    let memory = c.in_ok-memory.ensures (given r.0 (codes "mem")) r.2.memory in (
      r.0,
      whole_is_answer c.args.layout c.args.drawn.now c.args.others.now few short declared are c.args.text.now r.0 r.1,
      is_model layout c.args.drawn.now c.args.others.now (own_names c.args.layout) few short r.0 findings r.2
          (whole_is_sorted c.args.layout c.args.drawn.now c.args.others.now few short declared are c.args.text.now r.0 r.1) c.in_ok-model.model
          (c.in_ok-model.ensures.registers ∙ ap (λ (v : List (Option ℕ)). map or_zero (take registers v)) words)
          (subst (λ (v : List (Option ℕ)). AreFlags (take (length layout.flags) (drop registers v)) c.in_ok-model.model.flags) words
          c.in_ok-model.ensures.flags)
          (c.in_ok-model.ensures.choices ∙ ap (λ (v : List (Option ℕ)). map (λ o. or_zero o % 4) (drop (length (value_names layout)) v)) words)
          (subst (λ (o : Option ModelMemory). IsMemoryIf (given r.0 (codes "mem")) o) (sym c.in_ok-model.ensures.memory) memory),
    )
