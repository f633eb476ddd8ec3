use Rattle.std.proofs.Common.{◌-◌, arith, get_or, ◌<◌, length}
use Rattle.std.proofs.lemmas.List.{get_or_default}
use Rattle.elf32_reader.specs.Loads.{segment}
use Rattle.elf32_reader.specs.declared.segments.ProgramHeader.{ProgramHeader}
use Rattle.elf32_reader.proofs.Apart.{none_before, none_across, covers_in, has-kind}
use Rattle.elf32_reader.proofs.segments.covering.Goals as goal

pub returns-then-place-eq0 : goal.returns-then-place-eq0
returns-then-place-eq0 c = none_before c.args.found.now c.args.a (λ k d w. c.begun-place.ensures.behind k d (omega arith) w)

pub overflow_sub-a : goal.overflow_sub-a
overflow_sub-a c = c.begun-place.ensures.before (c.begun-place.result - 1) record { kind = 0; offset = 0; address = 0; in_file = 0; in_memory = 0; flags = 0 }
    (omega arith) (omega arith)

pub returns : goal.returns
returns c =
    let d : ProgramHeader = record { kind = 0; offset = 0; address = 0; in_file = 0; in_memory = 0; flags = 0 } in
    none_across c.args.found.now c.args.a (c.begun-place.result - 1) d c.requires.apart (omega (arith, c.begun-place.ensures.within))
    (c.begun-place.ensures.before (c.begun-place.result - 1) d (omega arith) (omega arith)) c.if-a-h.false
    (λ k e w m. c.begun-place.ensures.behind k e (omega arith) m)

pub returns-then-a-h : goal.returns-then-a-h
returns-then-a-h c =
    let d : ProgramHeader = record { kind = 0; offset = 0; address = 0; in_file = 0; in_memory = 0; flags = 0 } in
    let i = c.begun-place.result - 1 in
    let within : i < length c.args.found.now = omega (arith, c.begun-place.ensures.within) in
    let h : ProgramHeader = get_or c.args.found.now i d in
    let low = c.begun-place.ensures.before i d (omega arith) (omega arith) in
    let solid = c.requires.solid i d within in
    ((i, within, get_or_default c.args.found.now i h d within), covers_in c.args.a (segment h) (has-kind (segment h) solid) low (omega arith))
