use Rattle.std.proofs.Common.{◌-◌, refl, true, false, drop, length, take, arith}
use Rattle.links_lang.specs.Views.{links_of}
use Rattle.pair_form.specs.Views.{pair_question_of}
use Rattle.pair_verdict.proofs.RoundOf.{clauses_over, count_within, inputs_within, later_same, round_judged, round_of, round_refuted, round_spent, values_first, values_satisfy, values_second}
use Rattle.pair_verdict.proofs.RoundsTold.{cell_entries, cell_exits, cells_formed, side_bytes}
use Rattle.pair_verdict.proofs.rounds.pair_round.Goals as goal

pub side_cells-requires-clause-bytes : goal.side_cells-requires-clause-bytes
side_cells-requires-clause-bytes c =
    side_bytes false (links_of c.args.links.now) (pair_question_of c.args.kind) c.args.sides.now.first.now c.args.sides.now.first_passive.now
    c.requires.sides.first

pub side_cells-requires-2-clause-bytes : goal.side_cells-requires-2-clause-bytes
side_cells-requires-2-clause-bytes c =
    side_bytes true (links_of c.args.links.now) (pair_question_of c.args.kind) c.args.sides.now.second.now c.args.sides.now.second_passive.now
    c.requires.sides.second

pub blast_two-requires-clause-first_formed : goal.blast_two-requires-clause-first_formed
blast_two-requires-clause-first_formed c =
    cells_formed false (links_of c.args.links.now) (pair_question_of c.args.kind) c.args.sides.now.first.now c.args.sides.now.first_passive.now
    c.requires.sides.first c.deref.result.now c.in_ok-one.one c.in_ok-one.ensures.of c.in_ok-one.ensures.tells

pub blast_two-requires-clause-second_formed : goal.blast_two-requires-clause-second_formed
blast_two-requires-clause-second_formed c =
    cells_formed true (links_of c.args.links.now) (pair_question_of c.args.kind) c.args.sides.now.second.now c.args.sides.now.second_passive.now
    c.requires.sides.second c.deref-2.result.now c.in_ok-two.two c.in_ok-two.ensures.of c.in_ok-two.ensures.tells

pub blast_two-requires-clause-entries : goal.blast_two-requires-clause-entries
blast_two-requires-clause-entries c = (
  _,
  cell_entries false (links_of c.args.links.now) (pair_question_of c.args.kind) c.args.sides.now.first.now c.args.sides.now.first_passive.now
      c.requires.sides.first c.deref.result.now c.in_ok-one.one c.in_ok-one.ensures.of c.in_ok-one.ensures.tells,
  cell_entries true (links_of c.args.links.now) (pair_question_of c.args.kind) c.args.sides.now.second.now c.args.sides.now.second_passive.now
      c.requires.sides.second c.deref-2.result.now c.in_ok-two.two c.in_ok-two.ensures.of c.in_ok-two.ensures.tells,
)

pub blast_two-requires-clause-exits : goal.blast_two-requires-clause-exits
blast_two-requires-clause-exits c differ = (
  _,
  cell_exits false (links_of c.args.links.now) (pair_question_of c.args.kind) c.args.sides.now.first.now c.args.sides.now.first_passive.now
      c.requires.sides.first c.deref.result.now c.in_ok-one.one c.in_ok-one.ensures.of c.in_ok-one.ensures.tells differ,
  cell_exits true (links_of c.args.links.now) (pair_question_of c.args.kind) c.args.sides.now.second.now c.args.sides.now.second_passive.now
      c.requires.sides.second c.deref-2.result.now c.in_ok-two.two c.in_ok-two.ensures.of c.in_ok-two.ensures.tells differ,
)

pub solve-requires-clause-over : goal.solve-requires-clause-over
solve-requires-clause-over c =
    clauses_over _ _ _ _ _ _ _ (round_of c.requires.links.0 c.requires.links.1 c.args.links.now (pair_question_of c.args.kind) c.args.sides.now
    c.args.asked.now c.deref.result.now c.deref-2.result.now c.in_ok-one.one c.in_ok-two.two c.blast_two.result c.in_ok-clauses.clauses c.requires.links.2
    c.requires.sides c.requires.asked c.deref.ensures.value c.deref-2.ensures.value c.in_ok-one.ensures.of c.in_ok-two.ensures.of c.in_ok-one.ensures.tells
    c.in_ok-two.ensures.tells c.blast_two.ensures c.in_ok-clauses.was)

pub input_count-requires-clause-fit : goal.input_count-requires-clause-fit
input_count-requires-clause-fit c =
    let within = inputs_within _ _ _ _ _ _ _ (round_of c.requires.links.0 c.requires.links.1 c.args.links.now (pair_question_of c.args.kind) c.args.sides.now
    c.args.asked.now c.deref.result.now c.deref-2.result.now c.in_ok-one.one c.in_ok-two.two c.blast_two.result c.in_ok-clauses.clauses c.requires.links.2
    c.requires.sides c.requires.asked c.deref.ensures.value c.deref-2.ensures.value c.in_ok-one.ensures.of c.in_ok-two.ensures.of c.in_ok-one.ensures.tells
    c.in_ok-two.ensures.tells c.blast_two.ensures c.in_ok-clauses.was) in let sat = (values_satisfy c.in_ok-clauses.clauses c.args.conflicts
    c.in_ok-values.field-0 c.in-Sat.values c.in-Sat.values.items c.in_ok-values.ensures c.in-Sat.is refl) in let ok = c.in-Sat.values.ok in let small =
    c.in-Sat.values.small in omega (arith, within, sat.0, ok.0, ok.1, small)

pub slice_bounds-later-count : goal.slice_bounds-later-count
slice_bounds-later-count c =
    count_within _ _ _ _ _ _ _ (round_of c.requires.links.0 c.requires.links.1 c.args.links.now (pair_question_of c.args.kind) c.args.sides.now
    c.args.asked.now c.deref.result.now c.deref-2.result.now c.in_ok-one.one c.in_ok-two.two c.blast_two.result c.in_ok-clauses.clauses c.requires.links.2
    c.requires.sides c.requires.asked c.deref.ensures.value c.deref-2.ensures.value c.in_ok-one.ensures.of c.in_ok-two.ensures.of c.in_ok-one.ensures.tells
    c.in_ok-two.ensures.tells c.blast_two.ensures c.in_ok-clauses.was) c.input_count.result c.deref-in-Sat.result.now c.input_count.ensures (values_satisfy
    c.in_ok-clauses.clauses c.args.conflicts c.in_ok-values.field-0 c.in-Sat.values c.deref-in-Sat.result.now c.in_ok-values.ensures c.in-Sat.is
    c.deref-in-Sat.ensures.value).0

pub slice_bounds-later-start : goal.slice_bounds-later-start
slice_bounds-later-start c =
    count_within _ _ _ _ _ _ _ (round_of c.requires.links.0 c.requires.links.1 c.args.links.now (pair_question_of c.args.kind) c.args.sides.now
    c.args.asked.now c.deref.result.now c.deref-2.result.now c.in_ok-one.one c.in_ok-two.two c.blast_two.result c.in_ok-clauses.clauses c.requires.links.2
    c.requires.sides c.requires.asked c.deref.ensures.value c.deref-2.ensures.value c.in_ok-one.ensures.of c.in_ok-two.ensures.of c.in_ok-one.ensures.tells
    c.in_ok-two.ensures.tells c.blast_two.ensures c.in_ok-clauses.was) c.input_count.result c.deref-in-Sat.result.now c.input_count.ensures (values_satisfy
    c.in_ok-clauses.clauses c.args.conflicts c.in_ok-values.field-0 c.in-Sat.values c.deref-in-Sat.result.now c.in_ok-values.ensures c.in-Sat.is
    c.deref-in-Sat.ensures.value).0

pub judge_values-requires-clause-first : goal.judge_values-requires-clause-first
judge_values-requires-clause-first c =
    let h = round_of c.requires.links.0 c.requires.links.1 c.args.links.now (pair_question_of c.args.kind) c.args.sides.now c.args.asked.now
    c.deref.result.now c.deref-2.result.now c.in_ok-one.one c.in_ok-two.two c.blast_two.result c.in_ok-clauses.clauses c.requires.links.2 c.requires.sides
    c.requires.asked c.deref.ensures.value c.deref-2.ensures.value c.in_ok-one.ensures.of c.in_ok-two.ensures.of c.in_ok-one.ensures.tells
    c.in_ok-two.ensures.tells c.blast_two.ensures c.in_ok-clauses.was in
    values_first _ _ _ _ _ _ _ h c.deref-in-Sat-2.result.now (take (length c.deref-in-Sat.result.now - c.input_count.result) (drop c.input_count.result
    c.deref-in-Sat.result.now)) (later_same _ _ _ _ _ _ _ h c.input_count.result c.deref-in-Sat.result.now c.deref-in-Sat-2.result.now c.in-Sat.values.items
    c.input_count.ensures c.deref-in-Sat.ensures.value c.deref-in-Sat-2.ensures.value) (values_satisfy c.in_ok-clauses.clauses c.args.conflicts
    c.in_ok-values.field-0 c.in-Sat.values c.deref-in-Sat-2.result.now c.in_ok-values.ensures c.in-Sat.is c.deref-in-Sat-2.ensures.value).1

pub judge_values-requires-clause-second : goal.judge_values-requires-clause-second
judge_values-requires-clause-second c =
    let h = round_of c.requires.links.0 c.requires.links.1 c.args.links.now (pair_question_of c.args.kind) c.args.sides.now c.args.asked.now
    c.deref.result.now c.deref-2.result.now c.in_ok-one.one c.in_ok-two.two c.blast_two.result c.in_ok-clauses.clauses c.requires.links.2 c.requires.sides
    c.requires.asked c.deref.ensures.value c.deref-2.ensures.value c.in_ok-one.ensures.of c.in_ok-two.ensures.of c.in_ok-one.ensures.tells
    c.in_ok-two.ensures.tells c.blast_two.ensures c.in_ok-clauses.was in
    values_second _ _ _ _ _ _ _ h c.deref-in-Sat-2.result.now (take (length c.deref-in-Sat.result.now - c.input_count.result) (drop c.input_count.result
    c.deref-in-Sat.result.now)) (later_same _ _ _ _ _ _ _ h c.input_count.result c.deref-in-Sat.result.now c.deref-in-Sat-2.result.now c.in-Sat.values.items
    c.input_count.ensures c.deref-in-Sat.ensures.value c.deref-in-Sat-2.ensures.value) (values_satisfy c.in_ok-clauses.clauses c.args.conflicts
    c.in_ok-values.field-0 c.in-Sat.values c.deref-in-Sat-2.result.now c.in_ok-values.ensures c.in-Sat.is c.deref-in-Sat-2.ensures.value).1

pub returns-in_ok-judged-in-Sat : goal.returns-in_ok-judged-in-Sat
returns-in_ok-judged-in-Sat c =
    let h = round_of c.requires.links.0 c.requires.links.1 c.args.links.now (pair_question_of c.args.kind) c.args.sides.now c.args.asked.now
    c.deref.result.now c.deref-2.result.now c.in_ok-one.one c.in_ok-two.two c.blast_two.result c.in_ok-clauses.clauses c.requires.links.2 c.requires.sides
    c.requires.asked c.deref.ensures.value c.deref-2.ensures.value c.in_ok-one.ensures.of c.in_ok-two.ensures.of c.in_ok-one.ensures.tells
    c.in_ok-two.ensures.tells c.blast_two.ensures c.in_ok-clauses.was in
    round_judged _ _ _ _ _ _ _ h c.deref-in-Sat-2.result.now (take (length c.deref-in-Sat.result.now - c.input_count.result) (drop c.input_count.result
    c.deref-in-Sat.result.now)) (later_same _ _ _ _ _ _ _ h c.input_count.result c.deref-in-Sat.result.now c.deref-in-Sat-2.result.now c.in-Sat.values.items
    c.input_count.ensures c.deref-in-Sat.ensures.value c.deref-in-Sat-2.ensures.value) (values_satisfy c.in_ok-clauses.clauses c.args.conflicts
    c.in_ok-values.field-0 c.in-Sat.values c.deref-in-Sat-2.result.now c.in_ok-values.ensures c.in-Sat.is c.deref-in-Sat-2.ensures.value).1 c.args.conflicts
    c.in_ok-judged-in-Sat.judged c.in_ok-judged-in-Sat.ensures

pub returns-in-Unsat : goal.returns-in-Unsat
returns-in-Unsat c =
    round_refuted _ _ _ _ _ _ _ (round_of c.requires.links.0 c.requires.links.1 c.args.links.now (pair_question_of c.args.kind) c.args.sides.now
    c.args.asked.now c.deref.result.now c.deref-2.result.now c.in_ok-one.one c.in_ok-two.two c.blast_two.result c.in_ok-clauses.clauses c.requires.links.2
    c.requires.sides c.requires.asked c.deref.ensures.value c.deref-2.ensures.value c.in_ok-one.ensures.of c.in_ok-two.ensures.of c.in_ok-one.ensures.tells
    c.in_ok-two.ensures.tells c.blast_two.ensures c.in_ok-clauses.was) c.args.conflicts c.in_ok-values.field-0 c.in-Unsat.log c.in_ok-values.ensures
    c.in-Unsat.is

pub returns-in-Spent : goal.returns-in-Spent
returns-in-Spent c =
    round_spent _ _ _ _ _ _ _ (round_of c.requires.links.0 c.requires.links.1 c.args.links.now (pair_question_of c.args.kind) c.args.sides.now
    c.args.asked.now c.deref.result.now c.deref-2.result.now c.in_ok-one.one c.in_ok-two.two c.blast_two.result c.in_ok-clauses.clauses c.requires.links.2
    c.requires.sides c.requires.asked c.deref.ensures.value c.deref-2.ensures.value c.in_ok-one.ensures.of c.in_ok-two.ensures.of c.in_ok-one.ensures.tells
    c.in_ok-two.ensures.tells c.blast_two.ensures c.in_ok-clauses.was) c.args.conflicts c.in_ok-values.field-0 c.in-Spent.log c.in_ok-values.ensures
    c.in-Spent.is
