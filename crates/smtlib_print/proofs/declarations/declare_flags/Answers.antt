use Rattle.std.proofs.Common.{string_bytes, arith, ap, sym, ◌-◌, ◌≡◌, ◌<◌, ◌∙◌, get_or, [], length}
use Rattle.std.specs.Prelude.{codes}
use Rattle.bilv_spec.specs.SmtLib.{Atom}
use Rattle.start_value.specs.Starts.{layout_of}
use Rattle.smtlib_print.specs.Commands.{part_name, part_names, word_sort}
use Rattle.smtlib_print.proofs.Appended.{name_more}
use Rattle.smtlib_print.proofs.Layouts.{part_at, part_count}
use Rattle.smtlib_print.proofs.declarations.declare_flags.Goals as goal

pub loop-place-preserved : goal.loop-place-preserved
loop-place-preserved c =
    let p = c.args.part in
    let names = (layout_of c.args.form).flags in
    let z : length names - 1 - (c.flag_count-count.result - 1 - c.loop-place.place) ≡ c.loop-place.place =
    omega (arith, c.loop-place-test.true, c.flag_count-count.ensures) in
    let l : c.loop-place.place < length names = omega (arith, c.loop-place-test.true, c.flag_count-count.ensures) in
    name_more (word_sort (Atom (codes "1"))) (part_names p names) c.loop-place.place _ (string_bytes c.loop-place.out)
    (string_bytes c.declare_flag.new.out) _ (let n = part_count p names in omega (arith, l, n))
    (ap (λ i. part_name p (get_or names i [])) z ∙ sym (part_at p names c.loop-place.place l)) c.in_ok-declare_flag.ensures
    c.loop-place.invariant
