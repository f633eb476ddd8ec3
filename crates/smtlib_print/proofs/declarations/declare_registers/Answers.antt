use Rattle.std.proofs.Common.{string_bytes, arith, ap, sym, ◌+◌, ◌-◌, ◌≡◌, ◌<◌, ◌∙◌, get_or, [], length}
use Rattle.std.specs.Prelude.{codes}
use Rattle.bilv_spec.specs.SmtLib.{Atom}
use Rattle.start_value.specs.Starts.{layout_of}
use Rattle.smtlib_print.specs.Commands.{part_name, part_names, word_sort}
use Rattle.smtlib_print.proofs.Appended.{name_more}
use Rattle.smtlib_print.proofs.Layouts.{part_at, part_count}
use Rattle.smtlib_print.proofs.declarations.declare_registers.Goals as goal

pub loop-place-preserved : goal.loop-place-preserved
loop-place-preserved c =
    let p = c.args.part in
    let names = (layout_of c.args.form).registers in
    let z : (c.registers-first.result.0 + c.loop-place.place) - (layout_of c.args.form).first ≡ c.loop-place.place =
    omega (arith, c.registers-first.ensures.first) in
    let l : c.loop-place.place < length names = omega (arith, c.loop-place-test.true, c.register_count-count.ensures) in
    name_more (word_sort (Atom (codes "32"))) (part_names p names) c.loop-place.place _ (string_bytes c.loop-place.out)
    (string_bytes c.declare_register.new.out) _ (let n = part_count p names in omega (arith, l, n))
    (ap (λ i. part_name p (get_or names i [])) z ∙ sym (part_at p names c.loop-place.place l))
    c.in_ok-declare_register.ensures c.loop-place.invariant
