use Rattle.std.proofs.Common.{◌+◌, ap, sym, ◌∙◌, arith}
use Rattle.bilv_spec.specs.Elf.{field}
use Rattle.note_check.proofs.Accepted.{ends_within}
use Rattle.note_check.proofs.ranges.writable_at.Goals as goal

pub overflow_add-result : goal.overflow_add-result
overflow_add-result c =
    let at = ap (λ a. field c.args.file.now 4 a) c.header_place-at.ensures.place in
    let kind = sym at ∙ sym c.word.ensures ∙ c.if-word-ne-LOAD.false in
    let ends = ends_within c.args.file.now c.args.i c.requires.accepted c.requires.within kind in
    let first = ap (λ a. field c.args.file.now 4 (a + 8)) c.header_place-at.ensures.place in
    let size = ap (λ a. field c.args.file.now 4 (a + 20)) c.header_place-at.ensures.place in
    omega arith
