use Rattle.std.proofs.Common.{sym, ◌∙◌, ap, refl, ◌≡◌, arith, ◌<◌, ◌-◌, length, map, false, not, option_map}
use Rattle.std.proofs.lemmas.List.{with_items_is}
use Rattle.clause_spec.specs.Refutation.{Add, Delete}
use Rattle.cnf_form.specs.Views.{cnf_of, lines_of, line_of, hint_of}
use Rattle.refutation_checker.specs.Answers.{cause_of}
use Rattle.refutation_checker.specs.Entries.{look_up}
use Rattle.refutation_checker.specs.Known.{known_of}
use Rattle.refutation_checker.proofs.Taken.{taken-next, line-at, line-ready, length-lines, ended-after, not_ended-after, up-more, accepted, none_from}
use Rattle.refutation_checker.proofs.marks.check_line.Goals as goal

pub returns-then-marks-clause-taken : goal.returns-then-marks-clause-taken
returns-then-marks-clause-taken c = λ _.
    let m = c.args.marks.now in
    let log = c.args.log.now in
    let given = c.index-given.result.now in
    let taken = c.requires.taken in
    let lt : c.args.line - 1 < length log.lines.items = omega (arith, length-lines log, c.requires.from, c.requires.to) in
    taken-next m m (cnf_of c.args.cnf.now) (lines_of log) c.args.line (line_of given) c.requires.from c.requires.to
    (line-at log (c.args.line - 1) given lt c.index-given.ensures) taken taken.good refl refl
    (ended-after (known_of m) (line_of given) c.if-marks.true) (up-more (c.args.line - 1) c.args.line m.slots.items (omega arith) taken.slots) (omega arith)
    (omega arith)

pub judge_clause-cause-requires-clause-ready : goal.judge_clause-cause-requires-clause-ready
judge_clause-cause-requires-clause-ready c = λ low.
    let m = c.args.marks.now in
    let log = c.args.log.now in
    let given = c.index-given.result.now in
    let lt : c.args.line - 1 < length log.lines.items = omega (arith, length-lines log, c.requires.from, c.requires.to) in
    rw (c.lits-lits.ensures, c.deref-in-Add-2.ensures.value, c.deref_mut.ensures.value)
    (line-ready c.args.cnf.now.variables (length m.slots.items) m.names.items log (c.args.line - 1) c.in-Add.id c.in-Add.clause
    (map hint_of c.in-Add.hints.items) given
    c.requires.taken.ready lt c.index-given.ensures (ap line_of c.in-Add.is) (rw c.lits-lits.ensures at low))

pub add-requires-clause-within : goal.add-requires-clause-within
add-requires-clause-within c =
    let m = c.args.marks.now in
    let none = none_from c.judge_clause-cause.result (c.is_none.ensures ∙ ap not c.if-is_none.true) in
    let j = sym c.judge_clause-cause.ensures.judged ∙ ap (option_map cause_of) none in
    let log = c.args.log.now in
    let given = c.index-given.result.now in
    let lt : c.args.line - 1 < length log.lines.items = omega (arith, length-lines log, c.requires.from, c.requires.to) in
    let hints = map hint_of c.in-Add.hints.items in
    let low = accepted c.args.cnf.now.variables (record { last = m.last; present = look_up m.entries.items; ended = false }) c.in-Add.id c.in-Add.clause hints
    (rw (c.lits-lits.ensures, c.deref-in-Add.ensures.value, c.deref-in-Add-3.ensures.value) at j) in
    let ready = line-ready c.args.cnf.now.variables (length m.slots.items) m.names.items log (c.args.line - 1) c.in-Add.id c.in-Add.clause hints given
    c.requires.taken.ready lt c.index-given.ensures (ap line_of c.in-Add.is) low in
    let same : length c.judge_clause-cause.new.slots ≡ m.slots.len = c.judge_clause-cause.auto.slots ∙ c.deref_mut.ensures.len in
    λ l h. let w = ready l h in rw (with_items_is m.slots c.judge_clause-cause.new.slots same) (omega (arith, w, same, m.slots.ok.0))

pub returns-in-Delete-clause-taken : goal.returns-in-Delete-clause-taken
returns-in-Delete-clause-taken c = λ _.
    let m = c.args.marks.now in
    let log = c.args.log.now in
    let given = c.index-given.result.now in
    let taken = c.requires.taken in
    let e = c.remove.ensures in
    let lt : c.args.line - 1 < length log.lines.items = omega (arith, length-lines log, c.requires.from, c.requires.to) in
    let l = Delete c.in-Delete.id c.in-Delete.ids.items in
    let is : line_of given ≡ l = ap line_of c.in-Delete.is in
    let here = line-at log (c.args.line - 1) given lt c.index-given.ensures in
    taken-next m c.remove.new.marks (cnf_of c.args.cnf.now) (lines_of log) c.args.line l c.requires.from c.requires.to (rw (← is) here) taken e.good (ap
    (λ v. v.items) e.names) (ap (λ v. length v.items) e.slots)
    (rw c.deref.ensures.value at e.known ∙ not_ended-after (known_of m) l c.if-marks.false)
    (rw e.slots (up-more (c.args.line - 1) c.args.line m.slots.items (omega arith) taken.slots)) (omega arith) e.capacity

pub returns-then-is_none-clause-taken : goal.returns-then-is_none-clause-taken
returns-then-is_none-clause-taken c = λ _.
    let m = c.args.marks.now in
    let log = c.args.log.now in
    let given = c.index-given.result.now in
    let taken = c.requires.taken in
    let e = c.add.ensures in
    let lt : c.args.line - 1 < length log.lines.items = omega (arith, length-lines log, c.requires.from, c.requires.to) in
    let hints = map hint_of c.in-Add.hints.items in
    let l = Add c.in-Add.id c.in-Add.clause hints in
    let is : line_of given ≡ l = ap line_of c.in-Add.is in
    let here = line-at log (c.args.line - 1) given lt c.index-given.ensures in
    let seen = c.deref_mut.ensures.value in
    let before = up-more (c.args.line - 1) c.args.line m.slots.items (omega arith) taken.slots in
    let after = c.judge_clause-cause.ensures.lines (rw seen before) in
    let same : length c.judge_clause-cause.new.slots ≡ m.slots.len = c.judge_clause-cause.auto.slots ∙ c.deref_mut.ensures.len in
    taken-next m c.add.new.marks (cnf_of c.args.cnf.now) (lines_of log) c.args.line l c.requires.from c.requires.to (rw (← is) here) taken e.good (ap
    (λ v. v.items) e.names) (ap (λ v. length v.items) e.slots ∙ ap length (with_items_is m.slots c.judge_clause-cause.new.slots same) ∙ same ∙ m.slots.ok.0)
    (e.known hints ∙ not_ended-after (known_of m) l c.if-marks.false)
    (rw (e.slots, with_items_is m.slots c.judge_clause-cause.new.slots same) after) (omega (arith, e.len)) e.capacity
