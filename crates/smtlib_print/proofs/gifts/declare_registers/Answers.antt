use Rattle.std.proofs.Common.{string_bytes, arith, ap, ◌+◌, ◌-◌, ◌++◌, ◌≡◌, ◌<◌, ◌∙◌, get_or, [], length}
use Rattle.std.specs.Prelude.{codes, filter, nat_eq}
use Rattle.std.specs.List.{list_any}
use Rattle.bilv_spec.specs.SmtLib.{Atom}
use Rattle.notes_value.specs.FrameViews.{is_in}
use Rattle.word_spec.specs.RowFiles.{from_to}
use Rattle.start_value.specs.Starts.{layout_of}
use Rattle.smtlib_print.specs.Commands.{word_sort}
use Rattle.smtlib_print.proofs.GiftTexts.{few_registers, in_set, register_more, registers_done, registers_first}
use Rattle.smtlib_print.proofs.gifts.declare_registers.Goals as goal

pub loop-place-preserved : goal.loop-place-preserved
loop-place-preserved c =
    let layout = layout_of c.args.form in
    let changed = filter (is_in c.args.set) (from_to 0 32) in
    let first = c.registers-first.result.0 in
    let i = c.loop-place.place in
    let z : (first + i) - layout.first ≡ i = omega (arith, c.registers-first.ensures.first) in
    let e : first + i ≡ layout.first + i = omega (arith, c.registers-first.ensures.first) in
    let l : i < length layout.registers = omega (arith, c.loop-place-test.true, c.register_count-count.ensures) in
    let few = few_registers c.args.form in
    register_more (word_sort (Atom (codes "32"))) c.args.number changed layout.first layout.registers i c.is_in.result _ (string_bytes c.loop-place.out)
    (string_bytes c.declare_register.new.out) _ l (ap (λ j. get_or layout.registers j []) z)
    (c.is_in.ensures ∙ in_set c.args.set (first + i) 32 (omega (arith, l, few, e)) ∙ ap (λ r. list_any (nat_eq r) changed) e)
    c.in_ok-declare_register.ensures c.loop-place.invariant

pub returns : goal.returns
returns c =
    let layout = layout_of c.args.form in
    let changed = filter (is_in c.args.set) (from_to 0 32) in
    registers_done (word_sort (Atom (codes "32"))) c.args.number changed layout.first layout.registers c.loop-place.place (string_bytes c.loop-place.out) _
    (omega (arith, c.loop-place.auto.place-end, c.loop-place-test.false, c.register_count-count.ensures))
    (c.loop-place.invariant
    ∙ ap (λ t. string_bytes c.args.out.now ++ t) (registers_first (word_sort (Atom (codes "32"))) c.args.number changed layout.first layout.registers))
