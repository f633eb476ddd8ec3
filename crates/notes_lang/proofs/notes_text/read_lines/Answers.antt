use Rattle.std.proofs.Common.{subst, drop, take, map, length, arith, ap, refl, ◌-◌, ◌∙◌, List}
use Rattle.notes_spec.specs.NotesGrammar.{Says}
use Rattle.notes_lang.specs.Named.{vocabulary_of}
use Rattle.notes_lang.specs.Drafting.{IsDraft}
use Rattle.notes_lang.specs.Judging.{IsNext}
use Rattle.notes_lang.specs.Saying.{says_of}
use Rattle.notes_lang.specs.Scoping.{constant_of}
use Rattle.notes_lang.proofs.FirstLines.{rest_is, left_of_text}
use Rattle.notes_lang.proofs.SoFar.{faulty, goes_on, scope_now, scope_then, so_far_at, none_so_far}
use Rattle.notes_lang.proofs.notes_text.read_lines.Goals as goal

pub loop-at-init : goal.loop-at-init
loop-at-init c = record {
  within = omega arith;
  so_far = none_so_far (vocabulary_of c.args.words) c.args.text.now c.new-draft.result (map constant_of c.new-consts.result.items) c.in_ok-is_second.is_second
      (ap (map constant_of) c.new-consts.ensures.items) c.in_ok-is_second.ensures c.new-draft.ensures;
}

pub next-requires : goal.next-requires
next-requires c = refl

pub returns-in-Err : goal.returns-in-Err
returns-in-Err c =
    let s = scope_now (vocabulary_of c.args.words) c.deref.result.now c.deref-in-loop-at.result.now c.in_ok-is_second.is_second c.loop-at.is_first in
    faulty (vocabulary_of c.args.words) c.args.text.now (take (length c.args.text.now - c.loop-at.at) (drop c.loop-at.at c.args.text.now))
    c.first_line.result.0.now
    c.first_line.result.1.now c.loop-at.line c.loop-at.draft s
    (so_far_at (vocabulary_of c.args.words) c.args.text.now c.loop-at.at c.loop-at.line c.loop-at.draft c.deref.result.now c.loop-at.consts.items
    c.deref-in-loop-at.result.now c.in_ok-is_second.is_second c.loop-at.is_first c.deref.ensures.value
    (c.deref-in-loop-at.ensures.value ∙ c.new-outside.ensures.items) c.loop-at.invariant.so_far)
    c.first_line.ensures.lines c.in-Err.kind
    (subst (λ r. (earlier : List Says) → IsDraft earlier c.loop-at.draft → IsNext s c.loop-at.line c.first_line.result.0.now earlier r) c.in-Err.is
    c.in_ok-says.ensures)

pub loop-at-preserved : goal.loop-at-preserved
loop-at-preserved c = record {
  within = omega arith;
  so_far =
      let s = scope_now (vocabulary_of c.args.words) c.deref.result.now c.deref-in-loop-at.result.now c.in_ok-is_second.is_second c.loop-at.is_first in
      goes_on (vocabulary_of c.args.words) c.args.text.now (take (length c.args.text.now - c.loop-at.at) (drop c.loop-at.at c.args.text.now))
      c.first_line.result.0.now c.first_line.result.1.now c.loop-at.line c.loop-at.draft s
      (so_far_at (vocabulary_of c.args.words) c.args.text.now c.loop-at.at c.loop-at.line c.loop-at.draft c.deref.result.now c.loop-at.consts.items
      c.deref-in-loop-at.result.now c.in_ok-is_second.is_second c.loop-at.is_first c.deref.ensures.value
      (c.deref-in-loop-at.ensures.value ∙ c.new-outside.ensures.items) c.loop-at.invariant.so_far)
      c.first_line.ensures.lines c.in-Ok.says _ _ _
      (subst (λ r. (earlier : List Says) → IsDraft earlier c.loop-at.draft → IsNext s c.loop-at.line c.first_line.result.0.now earlier r) c.in-Ok.is
      c.in_ok-says.ensures)
      (scope_then (vocabulary_of c.args.words) c.deref.result.now c.loop-at.consts.items c.deref-in-loop-at.result.now _ c.in_ok-is_second.is_second
      c.loop-at.is_first c.still_first-is_first.result (says_of c.in-Ok.says) c.deref.ensures.value
      (c.deref-in-loop-at.ensures.value ∙ c.new-outside.ensures.items) c.in_ok-declare.ensures c.still_first-is_first.ensures)
      c.in_ok-add.ensures
      (left_of_text c.args.text.now (take (length c.args.text.now - c.loop-at.at) (drop c.loop-at.at c.args.text.now)) c.first_line.result.1.now c.loop-at.at
      (rest_is c.args.text.now c.loop-at.at) c.loop-at.invariant.within c.first_line.ensures.shorter c.first_line.ensures.suffix);
}
