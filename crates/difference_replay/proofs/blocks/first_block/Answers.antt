use Rattle.std.proofs.Common.{◌∙◌, sym, subst, ap, ℕ, ◌+◌, List, arith, take, drop}
use Rattle.word_spec.specs.Texts.{split_lines}
use Rattle.difference_replay.proofs.BlockLines.{Holds, holds_more, held, taken_next, dropped_next, goes_on, ends_here}
use Rattle.difference_replay.proofs.blocks.first_block.Goals as goal

pub returns-then-is_word-clause-text : goal.returns-then-is_word-clause-text
returns-then-is_word-clause-text c =
    let i = c.loop-rest.invariant in
    let texts = split_lines c.args.text.now in
    let n = c.loop-rest.lines in
    let line = c.first_line.result.0.now in
    let rest = c.loop-rest.rest.now in
    let after = c.first_line.result.1.now in
    let is = c.first_line.ensures.line in
    held c.push.new.self.items _ texts (n + 1) _ (sym (taken_next texts n line rest after i.rest is))
    (ends_here texts n line rest after i.rest is (sym c.is_word.ensures ∙ c.if-is_word.true) i.end)
    (holds_more c.loop-rest.block.items c.extend_from_slice-in-loop-rest.new.self.items c.push.new.self.items (take n texts) rest line after
    i.block is c.in_ok-extend_from_slice-2.ensures.items c.in_ok-push.ensures.items)

pub returns-then-is_word-clause-rest : goal.returns-then-is_word-clause-rest
returns-then-is_word-clause-rest c =
    let i = c.loop-rest.invariant in
    let texts = split_lines c.args.text.now in
    let n = c.loop-rest.lines in
    let line = c.first_line.result.0.now in
    let rest = c.loop-rest.rest.now in
    let after = c.first_line.result.1.now in
    let is = c.first_line.ensures.line in
    dropped_next texts n line rest after i.rest is
    ∙ ap (λ k. drop k texts) (sym (ends_here texts n line rest after i.rest is (sym c.is_word.ensures ∙ c.if-is_word.true) i.end))

pub loop-rest-preserved : goal.loop-rest-preserved
loop-rest-preserved c =
    let i = c.loop-rest.invariant in
    let texts = split_lines c.args.text.now in
    let n = c.loop-rest.lines in
    let line = c.first_line.result.0.now in
    let rest = c.loop-rest.rest.now in
    let after = c.first_line.result.1.now in
    let is = c.first_line.ensures.line in
    let taken = taken_next texts n line rest after i.rest is in
    let more = holds_more c.loop-rest.block.items c.extend_from_slice-in-loop-rest.new.self.items c.push.new.self.items (take n texts) rest line after
    i.block is c.in_ok-extend_from_slice-2.ensures.items c.in_ok-push.ensures.items in
    record {
      block = subst (λ (ls : List (List ℕ)). Holds c.push.new.self.items ls) (sym taken) more;
      rest = dropped_next texts n line rest after i.rest is;
      end = goes_on texts n line rest after i.rest is (sym c.is_word.ensures ∙ c.if-is_word.false) i.end;
      few = omega (arith, i.few, c.first_line.ensures.shorter);
    }
