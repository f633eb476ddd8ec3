use Rattle.std.proofs.Common.{ℕ, ap, sym, ◌∙◌, ◌++◌, ◌∷◌, ◌<◌, [], take, length, arith}
use Rattle.std.proofs.lemmas.List.{take_more}
use Rattle.byte_mem.specs.Gaps.{entries_of}
use Rattle.byte_mem.proofs.gapped.listed.Goals as goal

pub loop-i-preserved : goal.loop-i-preserved
loop-i-preserved c =
    let es = entries_of c.args.g.now in
    let within : c.loop-i.i < length es = omega arith in
    c.in_ok-push.ensures.items ∙ ap (λ l. l ++ c.entry.result ∷ []) c.loop-i.invariant ∙ ap (λ (e : ℕ ×
    ℕ). take c.loop-i.i es ++ e ∷ []) (sym (c.entry.ensures (0, 0)))
    ∙ sym (take_more es c.loop-i.i (0, 0) within)
