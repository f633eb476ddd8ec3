use Rattle.std.proofs.Common.{string_bytes, arith, ap, ◌-◌, ◌≡◌, ◌<◌, ◌∙◌, get_or, [], length}
use Rattle.std.specs.Prelude.{codes, filter, nat_eq}
use Rattle.std.specs.List.{list_any}
use Rattle.bilv_spec.specs.SmtLib.{Atom}
use Rattle.notes_value.specs.FrameViews.{is_in}
use Rattle.word_spec.specs.RowFiles.{from_to}
use Rattle.start_value.specs.Starts.{layout_of}
use Rattle.smtlib_print.specs.Commands.{word_sort}
use Rattle.smtlib_print.proofs.GiftTexts.{few_flags, flag_more, in_set}
use Rattle.smtlib_print.proofs.gifts.declare_flags.Goals as goal

pub loop-place-preserved : goal.loop-place-preserved
loop-place-preserved c =
    let names = (layout_of c.args.form).flags in
    let changed = filter (is_in c.args.set) (from_to 0 4) in
    let i = c.loop-place.place in
    let flag = c.flag_count-count.result - 1 - i in
    let z : length names - 1 - flag ≡ i = omega (arith, c.loop-place-test.true, c.flag_count-count.ensures) in
    let e : flag ≡ length names - 1 - i = omega (arith, c.flag_count-count.ensures) in
    let l : i < length names = omega (arith, c.loop-place-test.true, c.flag_count-count.ensures) in
    let few = few_flags c.args.form in
    flag_more (word_sort (Atom (codes "1"))) c.args.number changed names i c.is_in.result _ (string_bytes c.loop-place.out)
    (string_bytes c.declare_flag.new.out) _ l (ap (λ j. get_or names j []) z)
    (c.is_in.ensures ∙ ap (λ s. is_in s flag) c.from.ensures ∙ in_set c.args.set flag 4 (omega (arith, l, few, e)) ∙ ap (λ f. list_any (nat_eq f) changed) e)
    c.in_ok-declare_flag.ensures c.loop-place.invariant
