use Rattle.std.proofs.Common.{◌≡◌, ℕ, ◌+◌, ◌∷◌, Bool, Some, ap, ◌∙◌, map, length}
use Rattle.word_spec.specs.Texts.{split_lines}
use Rattle.machine_spec.specs.StateText.{StateRegisterFault, StateLineFault, StateRefused, StateIs, NamedLine, line_of, lines_of_head, told_of, state_of}
use Rattle.start_value.specs.Starts.{layout_of}
use Rattle.state_text.specs.Starts.{named_of, text_of}
use Rattle.state_text.specs.declared.start.NamedEnding.{NamedEnding}
use Rattle.state_text.proofs.Judging.{none}
use Rattle.state_text.proofs.Keeping.{none_known, is_nothing, of_none, of_some}
use Rattle.state_text.proofs.Telling.{empty_told, told_first, told_named, few_flags, told_text, refused_plain, refused_same, bytes_same, no_bytes}
use Rattle.state_text.proofs.parser.parse_state.Goals as goal
use Rattle.state_text.proofs.parser.parse_state.Goals.{In-Some}

pub returns-then-is_empty-clause-refused_known : goal.returns-then-is_empty-clause-refused_known
returns-then-is_empty-clause-refused_known c known =
    c.refused.ensures.told known (layout_of c.args.layout) (state_of (layout_of c.args.layout) known c.args.text.now)
    (empty_told (layout_of c.args.layout) known c.args.text.now (is_nothing c.is_empty.result (length c.args.text.now) c.is_empty.ensures c.if-is_empty.true)
    ∙ no_bytes known (lines_of_head (layout_of c.args.layout) + 1) c.new.result.bytes.items (StateRefused 1 StateRegisterFault) c.new.ensures.bytes)

pub returns-then-is_empty-clause-refused : goal.returns-then-is_empty-clause-refused
returns-then-is_empty-clause-refused c =
    refused_plain (layout_of c.args.layout) c.args.text.now c.refused.result (returns-then-is_empty-clause-refused_known c none)

pub returns-in_default-clause-refused_known : goal.returns-in_default-clause-refused_known
returns-in_default-clause-refused_known c known =
    c.refused-in_default.ensures.told known (layout_of c.args.layout) (state_of (layout_of c.args.layout) known c.args.text.now)
    (told_first (layout_of c.args.layout) known c.args.text.now c.first_line.result.0.now c.first_line.result.1.now c.first_line.ensures.line
    ∙ of_none
    (told_of (layout_of c.args.layout) known
    (line_of (layout_of c.args.layout) c.first_line.result.0.now ∷ map (line_of (layout_of c.args.layout)) (split_lines c.first_line.result.1.now))
    ≡ StateRefused 1 StateLineFault)
    c.in_ok-named.field-0 c.in_default.is (c.in_ok-named.ensures.other known (map (line_of (layout_of c.args.layout)) (split_lines c.first_line.result.1.now)))
    ∙ no_bytes known (lines_of_head (layout_of c.args.layout) + 1) c.new-in_default.result.bytes.items
    (StateRefused 1 StateLineFault) c.new-in_default.ensures.bytes)

pub returns-in_default-clause-refused : goal.returns-in_default-clause-refused
returns-in_default-clause-refused c =
    refused_plain (layout_of c.args.layout) c.args.text.now c.refused-in_default.result (returns-in_default-clause-refused_known c none)

-- the first line is the ending's
first_said : (c : In-Some) → line_of (layout_of c.args.layout) c.first_line.result.0.now ≡ Some (NamedLine (named_of c.in-Some.named))
first_said c =
    of_some (λ (n : NamedEnding). line_of (layout_of c.args.layout) c.first_line.result.0.now
    ≡ Some (NamedLine (named_of n))) c.in_ok-named.field-0 c.in-Some.named
    c.in-Some.is c.in_ok-named.ensures.named

first_told : (c : In-Some) (known : ℕ → Bool) →
    state_of (layout_of c.args.layout) known c.args.text.now
    ≡ told_of (layout_of c.args.layout) known (Some (NamedLine (named_of c.in-Some.named))
    ∷ map (line_of (layout_of c.args.layout)) (split_lines c.first_line.result.1.now))
first_told c known =
    told_named (layout_of c.args.layout) known c.args.text.now c.first_line.result.0.now c.first_line.result.1.now
    (named_of c.in-Some.named) c.first_line.ensures.line
    (first_said c)

pub returns-in-Err-clause-refused_known : goal.returns-in-Err-clause-refused_known
returns-in-Err-clause-refused_known c known =
    refused_same known (layout_of c.args.layout) (state_of (layout_of c.args.layout) known c.args.text.now)
    (told_of (layout_of c.args.layout) known (Some (NamedLine (named_of c.in-Some.named))
    ∷ map (line_of (layout_of c.args.layout)) (split_lines c.first_line.result.1.now)))
    c.in-Err.fault (first_told (goal.at.returns-in-Err-clause-refused_known c).In-Some known) (c.in-Err.ensures.refused known)

pub returns-in-Err-clause-refused : goal.returns-in-Err-clause-refused
returns-in-Err-clause-refused c =
    refused_plain (layout_of c.args.layout) c.args.text.now c.in-Err.fault (returns-in-Err-clause-refused_known c none)

pub returns-then-is_empty-clause-bytes : goal.returns-then-is_empty-clause-bytes
returns-then-is_empty-clause-bytes c = c.refused.ensures.bytes (map (line_of (layout_of c.args.layout)) (split_lines c.args.text.now)) c.new.ensures.bytes

pub returns-in_default-clause-bytes : goal.returns-in_default-clause-bytes
returns-in_default-clause-bytes c =
    c.refused-in_default.ensures.bytes (map (line_of (layout_of c.args.layout)) (split_lines c.args.text.now)) c.new-in_default.ensures.bytes

pub returns-in-Err-clause-bytes : goal.returns-in-Err-clause-bytes
returns-in-Err-clause-bytes c =
    bytes_same
    (map (line_of (layout_of c.args.layout)) (split_lines c.args.text.now))
    (Some (NamedLine (named_of c.in-Some.named)) ∷ map (line_of (layout_of c.args.layout)) (split_lines c.first_line.result.1.now)) c.in-Err.fault
    (ap (map (line_of (layout_of c.args.layout))) c.first_line.ensures.line
    ∙ ap (λ o. o ∷ map (line_of (layout_of c.args.layout)) (split_lines c.first_line.result.1.now))
    (first_said (goal.at.returns-in-Err-clause-bytes c).In-Some))
    c.in-Err.ensures.bytes

pub returns-in-Ok-clause-told_known : goal.returns-in-Ok-clause-told_known
returns-in-Ok-clause-told_known c known =
    told_text (layout_of c.args.layout) (few_flags c.args.layout) c.args.text.now (named_of c.in-Some.named) c.in-Ok.draft
    (λ test. first_told (goal.at.returns-in-Ok-clause-told_known c).In-Some test ∙ c.in-Ok.ensures.told test) known (named_of c.into_text.result.named)
    c.into_text.result.start.regs.items c.into_text.result.start.flags c.into_text.result.start.bytes.items c.into_text.result.start.choices.items
    c.into_text.ensures.named c.into_text.ensures.regs c.into_text.ensures.flags c.into_text.ensures.bytes c.into_text.ensures.choices

pub returns-in-Ok-clause-told : goal.returns-in-Ok-clause-told
returns-in-Ok-clause-told c =
    returns-in-Ok-clause-told_known c none
    ∙ none_known (lines_of_head (layout_of c.args.layout) + 1) c.into_text.result.start.bytes.items (StateIs (text_of c.into_text.result))
