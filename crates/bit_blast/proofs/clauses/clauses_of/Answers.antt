use Rattle.std.proofs.Common.{◌≡◌, ◌∙◌, ◌&&◌, ap, refl, length, arith}
use Rattle.std.specs.List.{list_all}
use Rattle.cnf_form.proofs.OnVariables.{on-sound}
use Rattle.cnf_form.specs.Views.{cnf_of}
use Rattle.gates.specs.Circuits.{next}
use Rattle.gates.specs.Pushes.{satisfied}
use Rattle.word_gates.proofs.Words.{no_bit, within_more}
use Rattle.mem_cells.specs.FrameViews.{frame_cells_of}
use Rattle.bit_blast.specs.Said.{agrees_at, asked_at}
use Rattle.bit_blast.proofs.Allowed.{can_agree, can_be_asked, one_to}
use Rattle.bit_blast.proofs.InputsAt.{clauses_are}
use Rattle.bit_blast.proofs.Lists.{shapes_length}
use Rattle.bit_blast.proofs.Told.{none_over}
use Rattle.bit_blast.proofs.clauses.clauses_of.Goals as goal

pub tie_said-requires-clause-agrees : goal.tie_said-requires-clause-agrees
tie_said-requires-clause-agrees c =
    let m = c.in_ok-words.ensures in
    let k = c.args.c.now in
    rw c.deref-3.ensures.value
    (can_agree (frame_cells_of k) c.args.places.now c.in_ok-words.words.items (shapes_length c.in_ok-words.words.items ∙ m.count) m.widths k.agrees.items
    c.requires.reads.agrees)

pub tie_said-requires-clause-asked : goal.tie_said-requires-clause-asked
tie_said-requires-clause-asked c =
    let m = c.in_ok-words.ensures in
    let k = c.args.c.now in
    rw c.deref-3.ensures.value
    (can_be_asked (frame_cells_of k) c.args.places.now c.in_ok-words.words.items (shapes_length c.in_ok-words.words.items ∙ m.count) m.widths k.asked.items
    c.requires.reads.asked)

pub cnf-requires-clause-root : goal.cnf-requires-clause-root
cnf-requires-clause-root c =
    let m = c.in_ok-words.ensures in
    let k = rw c.deref-4.ensures.value at c.operand-root.ensures in
    let l : length c.operand-root.result.now ≡ 1 = k.len ∙ m.widths c.args.c.now.root.0 c.requires.root.0 ∙ c.requires.root.1 in
    (k.within _ m.within).each 0 no_bit (omega arith)

pub cnf-requires-clause-ties : goal.cnf-requires-clause-ties
cnf-requires-clause-ties c =
    let m = c.in_ok-words.ensures in
    let n = next c.words_of.new.circuit in
    let o = rw (c.deref-2.ensures.value, c.deref-3.ensures.value) at c.in_ok-tie_said.ensures.over in
    on-sound n c.tie_said.new.ties.items
    (o n (within_more _ c.in_ok-inputs.ensures.made.within m.grows.more) m.within (none_over n _ c.new-ties.ensures.items)).each

pub returns : goal.returns
returns c =
    let m = rw c.deref.ensures.value at c.in_ok-words.ensures in
    let s = rw (c.deref-2.ensures.value, c.deref-3.ensures.value) at c.in_ok-tie_said.ensures.value in
    let k = rw c.deref-4.ensures.value at c.operand-root.ensures in
    let p = c.args.places.now in
    let bits = c.in_ok-inputs.inputs.items in
    let ws = c.in_ok-words.words.items in
    let agrees = c.args.c.now.agrees.items in
    let asked = c.args.c.now.asked.items in
    clauses_are (frame_cells_of c.args.c.now) p c.requires.order c.requires.reads c.requires.root bits c.in_ok-inputs.ensures.made.len
    c.in_ok-inputs.ensures.value c.in_ok-circuit.circuit c.words_of.new.circuit c.in_ok-circuit.ensures ws m c.tie_said.new.ties.items agrees asked refl refl
    (λ v. s v ∙ ap (λ z. (z && list_all (agrees_at p bits ws v) agrees) && list_all (asked_at p bits ws v) asked) (ap (satisfied v) c.new-ties.ensures.items)) _
    (λ v. one_to v c.operand-root.result.now _ (k.len ∙ m.widths c.args.c.now.root.0 c.requires.root.0 ∙ c.requires.root.1) (k.value v))
    (cnf_of c.in_ok-cnf.cnf) c.in_ok-cnf.ensures
