use Rattle.std.proofs.Common.{◌≡◌, ◌+◌, ◌++◌, length, replicate, take, drop, subst, sym, ap, ◌∙◌, arith}
use Rattle.std.proofs.lemmas.List.{take_all, take-append-le}
use Rattle.question_form.specs.Views.{unrolled_of}
use Rattle.weakest_pre.specs.Entry.{said}
use Rattle.weakest_pre.specs.Known.{AreFactsOf}
use Rattle.weakest_pre.proofs.Entries.{said_is}
use Rattle.weakest_pre.proofs.Said.{facts_met}
use Rattle.weakest_pre.proofs.facts.Facts.of_entry.Goals as goal

pub returns : goal.returns
returns c =
    let new = c.note_all.new.registers in
    let n = c.in_ok-registers.registers.len in
    let rest = drop (length new) c.in_ok-registers.registers.items in
    let whole : take n (new ++ rest) ≡ new =
    take-append-le n new rest (omega (arith, c.note_all.auto.registers, c.deref_mut.ensures.len))
    ∙ take_all n new (omega (arith, c.note_all.auto.registers, c.deref_mut.ensures.len)) in
    subst (AreFactsOf (unrolled_of c.args.unrolled.now)) (sym whole)
    (facts_met (unrolled_of c.args.unrolled.now) _ (said c.deref.result.now) c.deref_mut.result.now new
    (ap said c.deref.ensures.value ∙ said_is c.args.unrolled.now.notes.now.required.items)
    (c.deref_mut.ensures.value ∙ c.in_ok-registers.ensures.items_if_clones_equal (λ y e. e)
    ∙ ap (replicate (c.registers-first.result.0 + c.registers-first.result.1)) c.nothing.ensures) c.note_all.ensures)
