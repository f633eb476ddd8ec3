use Rattle.std.proofs.Common.{◌≡◌, ◌≤◌, ◌∙◌, ap, sym, subst, arith, IfOk, length}
use Rattle.std.specs.Option.{option_map}
use Rattle.word_spec.specs.Texts.{split_lines}
use Rattle.clause_spec.specs.Checks.{text_limit}
use Rattle.call_spec.specs.Calls.{Answer, plain_answer}
use Rattle.start_value.specs.Starts.{layout_of}
use Rattle.state_text.proofs.Keeping.{is_nothing}
use Rattle.links_lang.specs.Views.{links_of}
use Rattle.pair_sides.specs.Sides.{side_of, program_of_side}
use Rattle.difference_replay.specs.Named.{named_of}
use Rattle.difference_replay.proofs.Judged.{large_is, empty_is, unnamed_is, named_is}
use Rattle.difference_replay.proofs.replays.replay_two.Goals as goal

pub returns-then-text-gt-REPORT_LIMIT : goal.returns-then-text-gt-REPORT_LIMIT
returns-then-text-gt-REPORT_LIMIT c =
    let text = c.args.text.now in
    subst (λ (a : Answer). IfOk c.too_large.result (λ r. plain_answer r.status r.text.items ≡ a))
    (large_is (side_of c.args.first.now) (side_of c.args.second.now) (links_of c.args.links.now) text c.if-text-gt-REPORT_LIMIT.true)
    (c.too_large.ensures (program_of_side c.args.first.now) (layout_of c.args.first.now.layout) text)

pub returns-then-is_empty : goal.returns-then-is_empty
returns-then-is_empty c =
    let text = c.args.text.now in
    let few : length text ≤ text_limit = omega arith in
    subst (λ (a : Answer). IfOk c.refused.result (λ r. plain_answer r.status r.text.items ≡ a))
    (empty_is (side_of c.args.first.now) (side_of c.args.second.now) (links_of c.args.links.now) text few
    (is_nothing c.is_empty.result (length text) c.is_empty.ensures c.if-is_empty.true))
    (c.refused.ensures (program_of_side c.args.first.now) (layout_of c.args.first.now.layout))

pub returns-in_default : goal.returns-in_default
returns-in_default c =
    let text = c.args.text.now in
    let few : length text ≤ text_limit = omega arith in
    subst (λ (a : Answer). IfOk c.refused-in_default.result (λ r. plain_answer r.status r.text.items ≡ a))
    (unnamed_is (side_of c.args.first.now) (side_of c.args.second.now) (links_of c.args.links.now) text few c.first_line.result.0.now
    (split_lines c.first_line.result.1.now) c.first_line.ensures.line
    (sym c.in_ok-named.ensures.said ∙ ap (option_map named_of) c.in_default.is))
    (c.refused-in_default.ensures (program_of_side c.args.first.now) (layout_of c.args.first.now.layout))

pub returns : goal.returns
returns c =
    let text = c.args.text.now in
    let few : length text ≤ text_limit = omega arith in
    subst (λ (a : Answer). IfOk c.replay_blocks.result (λ r. plain_answer r.status r.text.items ≡ a))
    (named_is (side_of c.args.first.now) (side_of c.args.second.now) (links_of c.args.links.now) text few c.first_line.result.0.now
    (split_lines c.first_line.result.1.now) (named_of c.in-Some.named) c.first_line.ensures.line
    (sym c.in_ok-named.ensures.said ∙ ap (option_map named_of) c.in-Some.is))
    c.replay_blocks.ensures
