use Rattle.std.proofs.Common.{◌≤◌, ◌<◌, ◌-◌, length, get_or, ap, arith}
use Rattle.std.proofs.lemmas.List.{get_or_default}
use Rattle.elf32_reader.specs.declared.segments.ProgramHeader.{ProgramHeader}
use Rattle.elf32_reader.specs.Loads.{segment}
use Rattle.elf32_reader.proofs.Apart.{has-bytes}
use Rattle.elf32_reader.proofs.Tied.{loaded_none}
use Rattle.elf32_reader.proofs.Portions.{uncovered, short_at, first_part}
use Rattle.elf32_reader.proofs.parts.first_part.Goals as goal
use Rattle.elf32_reader.proofs.parts.first_part.Goals.{then-place-gt0+else-a-h, else-place-gt0}

pub returns-then-a-h : goal.returns-then-a-h
returns-then-a-h c =
    let d : ProgramHeader = record { kind = 0; offset = 0; address = 0; in_file = 0; in_memory = 0; flags = 0 } in
    let i = c.begun-place.result - 1 in
    let h : ProgramHeader = get_or c.args.found.now i d in
    let within : i < length c.args.found.now = omega (arith, c.begun-place.ensures.within) in
    let low = c.begun-place.ensures.before i d (omega arith) (omega arith) in
    first_part c.args.file.now c.args.found.now c.args.a c.args.a i h c.part_of.result c.requires within (get_or_default c.args.found.now i h d within)
    (omega arith) low (omega arith) c.part_of.ensures (λ x l m. absurd (omega arith))

pub returns-then-place-found : goal.returns-then-place-found
returns-then-place-found c x l =
    let d : ProgramHeader = record { kind = 0; offset = 0; address = 0; in_file = 0; in_memory = 0; flags = 0 } in
    loaded_none c.args.file.now c.args.found.now x c.requires
    (uncovered c.args.found.now c.args.a x c.begun-place.result c.requires.apart c.begun-place.ensures.within l c.begun-place.ensures.before
    (λ i e is. elim c.if-place-gt0.branch [
      | then-place-gt0+else-a-h w ↦ short_at c.args.found.now c.args.a c.begun-place.result i d e is c.begun-place.ensures.within w.if-a-h.false
      | else-place-gt0 w ↦ absurd (omega arith)
    ])
    (λ k e m w. absurd (omega arith)))

pub returns : goal.returns
returns c =
    let d : ProgramHeader = record { kind = 0; offset = 0; address = 0; in_file = 0; in_memory = 0; flags = 0 } in
    let i = c.begun-place.result in
    let h : ProgramHeader = get_or c.args.found.now i d in
    let most : i ≤ length c.args.found.now = c.begun-place.ensures.within in
    let other = c.if-place-found.false in
    let within : i < length c.args.found.now = omega arith in
    let behind = c.begun-place.ensures.behind i d (omega arith) within in
    let solid = c.requires.listed.solid i d within in
    let bytes = has-bytes (segment h) solid in
    first_part c.args.file.now c.args.found.now c.args.a h.address i h c.part_of-2.result c.requires within (get_or_default c.args.found.now i h d within)
    (omega arith) (omega arith) (omega arith) c.part_of-2.ensures
    (λ x l m. uncovered c.args.found.now c.args.a x i c.requires.apart most l c.begun-place.ensures.before
    (λ j e is. elim c.if-place-gt0.branch [
      | then-place-gt0+else-a-h w ↦ short_at c.args.found.now c.args.a i j d e is most w.if-a-h.false
      | else-place-gt0 w ↦ absurd (omega arith)
    ])
    (λ k e n w. let r = c.requires.listed.rising i k e n w in let same = ap (λ (y : ProgramHeader). y.address) (get_or_default c.args.found.now i e d within)
    in omega arith))
