use Rattle.std.proofs.Common.{◌-◌, arith, ap, ◌∙◌, drop, length, take}
use Rattle.std.proofs.lemmas.List.{take_rest}
use Rattle.frame_texts_spec.specs.CallTexts.{flags_by}
use Rattle.call_text.proofs.BlockLines.{sum_fits}
use Rattle.call_text.proofs.calls.+flags_of.Goals as goal

pub overflow_add-result : goal.overflow_add-result
overflow_add-result t c =
    let fits =
    sum_fits c.args.flags.now c.args.values.now c.flags_of-below.result c.requires.few c.requires.fall c.requires.bits c.in-len1-up.len_at_least
    c.in-len1-up-values.len_at_least c.if-value-eq0.false
    (c.flags_of-below.ensures.value
    ∙ ap (λ l. flags_by l (take (length c.args.values.now - 1) (drop 1 c.args.values.now))) (take_rest c.args.flags.now 1)
    ∙ ap (flags_by (drop 1 c.args.flags.now)) (take_rest c.args.values.now 1)) in
    omega (arith, fits)
