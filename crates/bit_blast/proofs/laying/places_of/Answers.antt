use Rattle.std.proofs.Common.{◌+◌, ◌*◌, ◌≤◌, ◌^◌, length, ◌∙◌, arith}
use Rattle.std.proofs.Math.Facts.{Fits-of_lt}
use Rattle.mem_cells.specs.Views.{program_of_cells}
use Rattle.bit_blast.proofs.Drawn.{drawn_few, few_flags, few_registers, few_states, points_length}
use Rattle.bit_blast.proofs.FrameDrawn.{frame_laid, flat_laid, laid}
use Rattle.bit_blast.proofs.laying.places_of.Goals as goal

pub overflow_mul-first_gift : goal.overflow_mul-first_gift
overflow_mul-first_gift c =
    let u = program_of_cells c.args.c.now in
    let w = c.args.c.now.question.now.passive.now.unrolled.now in
    let drawn = drawn_few u (length u.points) in
    let points = points_length w w.points.items in
    let k : c.in_ok-choices.choices.count ≤ 2 ^ 28 = omega (arith, c.in_ok-choices.ensures.all, drawn, points, c.len.ensures, c.if-len-gt-MOST.false) in
    Fits-of_lt (omega arith)

pub overflow_add-first_gift : goal.overflow_add-first_gift
overflow_add-first_gift c =
    let u = program_of_cells c.args.c.now in
    let w = c.args.c.now.question.now.passive.now.unrolled.now in
    let drawn = drawn_few u (length u.points) in
    let points = points_length w w.points.items in
    let k : c.in_ok-choices.choices.count ≤ 2 ^ 28 = omega (arith, c.in_ok-choices.ensures.all, drawn, points, c.len.ensures, c.if-len-gt-MOST.false) in
    let states = few_states w.heads (32 * c.register_count-registers.result + c.flag_count-flags.result) in
    Fits-of_lt (omega (
      arith,
      states,
      c.behind_states-first_choice.ensures,
      few_registers w.form,
      few_flags w.form,
      c.register_count-registers.ensures,
      c.flag_count-flags.ensures,
    ))

pub gifts_of-requires : goal.gifts_of-requires
gifts_of-requires c =
    let u = program_of_cells c.args.c.now in
    let w = c.args.c.now.question.now.passive.now.unrolled.now in
    let drawn = drawn_few u (length u.points) in
    let points = points_length w w.points.items in
    let k : c.in_ok-choices.choices.count ≤ 2 ^ 28 = omega (arith, c.in_ok-choices.ensures.all, drawn, points, c.len.ensures, c.if-len-gt-MOST.false) in
    let states = few_states w.heads (32 * c.register_count-registers.result + c.flag_count-flags.result) in
    omega (
      arith,
      states,
      c.behind_states-first_choice.ensures,
      few_registers w.form,
      few_flags w.form,
      c.register_count-registers.ensures,
      c.flag_count-flags.ensures,
    )

pub returns-clause-frame : goal.returns-clause-frame
returns-clause-frame c =
    let k = c.args.c.now in
    frame_laid k _ (laid k c.registers-first_register.result.0 c.register_count-registers.result c.flag_count-flags.result c.in_ok-choices.choices.count c.len-reads.result
    c.behind_states-first_choice.result c.in_ok-gifts.gifts.behind c.len-2.result c.in_ok-choices.choices.drawn c.in_ok-gifts.gifts.registers
    c.in_ok-gifts.gifts.flags c.in_ok-part_reads.part_reads c.registers-first_register.ensures.first c.register_count-registers.ensures c.flag_count-flags.ensures
    c.behind_states-first_choice.ensures c.in_ok-choices.ensures c.in_ok-gifts.ensures.are c.in_ok-gifts.ensures.behind
    (c.len-reads.ensures ∙ k.reads.ok.0) (c.len-2.ensures ∙ k.addresses.ok.0) (rw c.deref.ensures.value at c.in_ok-part_reads.ensures))

pub returns-clause-flat : goal.returns-clause-flat
returns-clause-flat c =
    let k = c.args.c.now in
    flat_laid k _ (laid k c.registers-first_register.result.0 c.register_count-registers.result c.flag_count-flags.result c.in_ok-choices.choices.count c.len-reads.result
    c.behind_states-first_choice.result c.in_ok-gifts.gifts.behind c.len-2.result c.in_ok-choices.choices.drawn c.in_ok-gifts.gifts.registers
    c.in_ok-gifts.gifts.flags c.in_ok-part_reads.part_reads c.registers-first_register.ensures.first c.register_count-registers.ensures c.flag_count-flags.ensures
    c.behind_states-first_choice.ensures c.in_ok-choices.ensures c.in_ok-gifts.ensures.are c.in_ok-gifts.ensures.behind
    (c.len-reads.ensures ∙ k.reads.ok.0) (c.len-2.ensures ∙ k.addresses.ok.0) (rw c.deref.ensures.value at c.in_ok-part_reads.ensures))
