use Rattle.std.proofs.Common.{◌≡◌, ℕ, Option, Some, None, arith, sym, ap, ◌∙◌, subst}
use Rattle.std.specs.Option.{option_map}
use Rattle.start_value.specs.Starts.{layout_of}
use Rattle.model_spec.specs.ModelText.{Between, line_after, tokens_from}
use Rattle.model_text.specs.declared.place.Place.TheVariants.{Done}
use Rattle.model_text.specs.Drafts.{AreFindings, Keeps}
use Rattle.model_text.specs.Faults.{Found, kept_of}
use Rattle.model_text.specs.Judgements.{answer_to}
use Rattle.model_text.specs.Symbols.{count_of, symbol_in}
use Rattle.model_text.specs.Tokens.{placed_of}
use Rattle.model_text.specs.Traces.{At, start, refused}
use Rattle.model_text.proofs.Judging.{judged_start, on_true, on_false, refused_by, token_taken, token_refused, end_refused, end_whole}
use Rattle.model_text.proofs.read.read_findings.Goals as goal

pub loop-placed-init : goal.loop-placed-init
loop-placed-init c = record {
  at = start;
  keeps = c.in_ok-reading.ensures.keeps;
  judged_is = judged_start (layout_of c.args.layout) c.args.drawn.now c.args.others.now c.args.text.now;
  depth = omega (arith, c.in_ok-reading.ensures.depth);
  room = omega arith;
}

pub loop-placed-preserved : goal.loop-placed-preserved
loop-placed-preserved c =
    let layout = layout_of c.args.layout in
    let drawn = c.args.drawn.now in
    let text = c.args.text.now in
    let known = symbol_in layout drawn c.args.others.now in
    let count = count_of layout drawn in
    let answer = answer_to layout drawn c.args.others.now text in
    let inv = c.loop-placed.invariant in
    let here = tokens_from c.loop-placed.line Between c.loop-placed.rest.now in
    let token = placed_of c.in-Some.placed in
    let first = c.in-Some.ensures in
    let behind = tokens_from c.in-Some.tail.line Between c.in-Some.tail.text.now in
    let moves = c.in_ok-take.ensures.keeps inv.at inv.keeps in
    let n = token_taken known (line_after text) answer inv.at here behind token (λ (m : At). Keeps layout count c.take.new.self m) inv.judged_is first.tokens
    (on_true _ _ c.in_ok-take.field-0 c.if-not-branch.false moves) in record {
      at = n.0;
      keeps = n.1;
      judged_is = n.2;
      depth = omega (arith, c.in_ok-take.ensures.depth, first.shorter, inv.depth);
      room = omega (arith, first.room, inv.room);
    }

pub returns-then-not-branch-clause-refused : goal.returns-then-not-branch-clause-refused
returns-then-not-branch-clause-refused c =
    let layout = layout_of c.args.layout in
    let drawn = c.args.drawn.now in
    let text = c.args.text.now in
    let known = symbol_in layout drawn c.args.others.now in
    let count = count_of layout drawn in
    let answer = answer_to layout drawn c.args.others.now text in
    let inv = c.loop-placed.invariant in
    let here = tokens_from c.loop-placed.line Between c.loop-placed.rest.now in
    let token = placed_of c.in-Some.placed in
    let first = c.in-Some.ensures in
    let behind = tokens_from c.in-Some.tail.line Between c.in-Some.tail.text.now in
    let stays = on_false _ _ c.in_ok-take.field-0 c.if-not-branch.true (c.in_ok-take.ensures.keeps inv.at inv.keeps) in
    c.refused.ensures answer (refused_by answer inv.at c.in-Some.placed.line (kept_of c.refusal.result)
    (token_refused known (line_after text) answer inv.at here behind token inv.judged_is first.tokens stays.0) (c.refusal.ensures layout count inv.at stays.1))

pub returns-in_default-place : goal.returns-in_default-place
returns-in_default-place c =
    let layout = layout_of c.args.layout in
    let drawn = c.args.drawn.now in
    let text = c.args.text.now in
    let known = symbol_in layout drawn c.args.others.now in
    let count = count_of layout drawn in
    let answer = answer_to layout drawn c.args.others.now text in
    let inv = c.loop-placed.invariant in
    let here = tokens_from c.loop-placed.line Between c.loop-placed.rest.now in
    let other = λ (e : inv.at.place ≡ Done). c.in_default-place.not-Done (inv.keeps.place ∙ e) in record {
      read = tt;
      refused = c.refused-in_default-place.ensures answer (refused_by answer inv.at c.line_after.result (kept_of c.refusal-in_default-place.result)
          (ap (λ (n : ℕ). refused inv.at n) c.line_after.ensures
          ∙ end_refused known (line_after text) answer inv.at here inv.judged_is c.in_default.ensures other)
          (c.refusal-in_default-place.ensures layout count inv.at inv.keeps));
    }

pub returns-in-None-clause-read : goal.returns-in-None-clause-read
returns-in-None-clause-read c =
    let layout = layout_of c.args.layout in
    let drawn = c.args.drawn.now in
    let text = c.args.text.now in
    let known = symbol_in layout drawn c.args.others.now in
    let count = count_of layout drawn in
    let answer = answer_to layout drawn c.args.others.now text in
    let inv = c.loop-placed.invariant in
    let here = tokens_from c.loop-placed.line Between c.loop-placed.rest.now in
    let none : None ≡ inv.at.kept = ap (option_map kept_of) (sym c.in-None.is) ∙ inv.keeps.kept in (
      inv.at.trace.definitions,
      end_whole known (line_after text) answer inv.at here None inv.judged_is c.in_default.ensures (sym inv.keeps.place ∙ c.in-Done.is) none,
      subst (λ (k : Option Found). AreFindings layout count k c.loop-placed.reading.findings inv.at.trace.definitions) (sym none) inv.keeps.learnt.findings,
    )

pub returns-in-Some-kept-clause-refused : goal.returns-in-Some-kept-clause-refused
returns-in-Some-kept-clause-refused c =
    let layout = layout_of c.args.layout in
    let drawn = c.args.drawn.now in
    let text = c.args.text.now in
    let known = symbol_in layout drawn c.args.others.now in
    let count = count_of layout drawn in
    let answer = answer_to layout drawn c.args.others.now text in
    let inv = c.loop-placed.invariant in
    let here = tokens_from c.loop-placed.line Between c.loop-placed.rest.now in
    let some : Some (kept_of c.in-Some-kept.fault) ≡ inv.at.kept = ap (option_map kept_of) (sym c.in-Some-kept.is) ∙ inv.keeps.kept in
    c.refused-in-Some-kept.ensures answer (end_whole known (line_after text) answer inv.at here (Some (kept_of c.in-Some-kept.fault)) inv.judged_is
    c.in_default.ensures
    (sym inv.keeps.place ∙ c.in-Done.is) some)
