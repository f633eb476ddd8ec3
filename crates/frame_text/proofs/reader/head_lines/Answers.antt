use Rattle.std.proofs.Common.{ℕ, ◌++◌, List, ap, sym, ◌∙◌, arith, codes, length}
use Rattle.std.specs.Option.{option_map}
use Rattle.word_spec.specs.Texts.{lines, split_lines}
use Rattle.machine_spec.specs.StateText.{Layout, state_of}
use Rattle.frame_texts_spec.specs.FrameTexts.{part_of, stack_of}
use Rattle.start_value.specs.Starts.{layout_of}
use Rattle.frame_text.specs.Parts.{behind_said}
use Rattle.frame_text.proofs.Behind.{head_closed_told, head_open_told}
use Rattle.frame_text.proofs.PartTexts.{head_closed, head_closed_count, head_open, head_open_count}
use Rattle.frame_text.proofs.reader.head_lines.Goals as goal

pub returns-in-None-clause-told : goal.returns-in-None-clause-told
returns-in-None-clause-told c tests n w at place =
    let layout : Layout = layout_of c.args.layout in
    let text : List ℕ = c.args.text.now in
    let rest : List ℕ = c.in_ok-rest.rest.now in
    head_open_told layout tests n w at place (stack_of layout (split_lines text)) c.read_stack.new.stack.items (split_lines rest)
    (state_of layout tests.kept c.copy_part.new.out.items)
    (c.in_ok-rest.ensures.stack ∙ ap (λ l. l ++ (stack_of layout (split_lines text)).addresses) c.new-stack.ensures.items) c.in_ok-rest.ensures.behind
    (sym c.in_ok-first.ensures.behind ∙ ap (option_map behind_said) c.in-None.is)
    (head_open c.args.layout rest tests.kept c.copy_part.new.out.items
    (c.in_ok-first.ensures.text ∙ ap (λ l. l ++ lines (part_of layout (split_lines rest)).lines) c.in_ok-part.ensures))

pub returns-in-None-clause-room : goal.returns-in-None-clause-room
returns-in-None-clause-room c =
    let rest : List ℕ = c.in_ok-rest.rest.now in
    let count = head_open_count c.args.layout rest c.copy_part.new.out.items
    (c.in_ok-first.ensures.text ∙ ap (λ l. l ++ lines (part_of (layout_of c.args.layout) (split_lines rest)).lines) c.in_ok-part.ensures) in
    omega (arith, count, c.in_ok-first.ensures.count, c.in_ok-first.ensures.room, c.in_ok-rest.ensures.room, ap length c.new-stack.ensures.items)

pub returns-in_ok-push_text-in-Some-clause-told : goal.returns-in_ok-push_text-in-Some-clause-told
returns-in_ok-push_text-in-Some-clause-told c tests n w at place =
    let layout : Layout = layout_of c.args.layout in
    let text : List ℕ = c.args.text.now in
    let rest : List ℕ = c.in_ok-rest.rest.now in
    head_closed_told layout tests n w at place (stack_of layout (split_lines text)) c.read_stack.new.stack.items (split_lines rest)
    (state_of layout tests.kept c.push_text.new.out.items)
    (c.in_ok-rest.ensures.stack ∙ ap (λ l. l ++ (stack_of layout (split_lines text)).addresses) c.new-stack.ensures.items) c.in_ok-rest.ensures.behind
    (behind_said c.in-Some.field-0) c.in_ok-first.first.count
    (sym c.in_ok-first.ensures.behind ∙ ap (option_map behind_said) c.in-Some.is) c.in_ok-first.ensures.count
    (head_closed c.args.layout rest tests.kept c.push_text.new.out.items
    (c.in_ok-push_text-in-Some.ensures ∙ ap (λ l. l ++ codes "end\n")
    (c.in_ok-first.ensures.text ∙ ap (λ l. l ++ lines (part_of layout (split_lines rest)).lines) c.in_ok-part.ensures)))

pub returns-in_ok-push_text-in-Some-clause-room : goal.returns-in_ok-push_text-in-Some-clause-room
returns-in_ok-push_text-in-Some-clause-room c =
    let rest : List ℕ = c.in_ok-rest.rest.now in
    let count = head_closed_count c.args.layout rest c.push_text.new.out.items
    (c.in_ok-push_text-in-Some.ensures ∙ ap (λ l. l ++ codes "end\n")
    (c.in_ok-first.ensures.text ∙ ap (λ l. l ++ lines (part_of (layout_of c.args.layout) (split_lines rest)).lines) c.in_ok-part.ensures)) in
    omega (arith, count, c.in_ok-first.ensures.count, c.in_ok-first.ensures.room, c.in_ok-rest.ensures.room, ap length c.new-stack.ensures.items)
