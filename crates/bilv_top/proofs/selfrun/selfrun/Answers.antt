use Rattle.std.proofs.Common.{sym, subst, ◌∙◌}
use Rattle.std.specs.Prelude.{Contains}
use Rattle.word_spec.specs.Texts.{line_feed}
use Rattle.command_line.specs.Commands.{budget_of}
use Rattle.bilv_top.specs.Answers.{answer_of}
use Rattle.bilv_top.proofs.Made.{file_short, verified_has, selfrun_is}
use Rattle.bilv_top.proofs.selfrun.selfrun.Goals as goal

pub verify_bytes-requires : goal.verify_bytes-requires
verify_bytes-requires g c = record {
  short = file_short c.deref.result.now c.args.seed c.args.count (c.deref.ensures.value ∙ c.in_ok-made.ensures.file) c.requires.lawful.2;
}

pub first_line-requires : goal.first_line-requires
first_line-requires g c =
    subst (λ t. Contains t line_feed) (sym c.deref-2.ensures.value)
    (verified_has c.deref.result.now c.in_ok-made.made.notes.items (budget_of c.standard.result) (answer_of c.in_ok-inner.inner) c.in_ok-inner.ensures.verified)

pub returns-clause-right : goal.returns-clause-right
returns-clause-right g c =
    selfrun_is c.args.seed c.args.count c.deref.result.now c.in_ok-made.made.notes.items (budget_of c.standard.result) (answer_of c.in_ok-inner.inner)
    (c.deref.ensures.value ∙ c.in_ok-made.ensures.file) c.in_ok-made.ensures.notes c.standard.ensures c.in_ok-inner.ensures.verified
    c.deref-2.result.now c.first_line.result.now c.in_ok-text.text.items c.extend_from_slice.new.self.items c.extend_from_slice-2.new.self.items
    c.deref-2.ensures.value c.first_line.ensures c.in_ok-text.ensures c.in_ok-extend_from_slice.ensures.items c.in_ok-extend_from_slice-2.ensures.items
