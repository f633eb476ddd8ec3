use Rattle.std.proofs.Common.{◌≡◌, ◌↔◌, ◌+◌, ℕ, true, subst, arith}
use Rattle.gates.specs.Pushes.{satisfied}
use Rattle.gates.proofs.Netlists.{grows_then}
use Rattle.term_spec.specs.Terms.{term_gates}
use Rattle.term_spec.specs.ClauseForm.{reading}
use Rattle.mem_cells.specs.Views.{cells_of, program_of_cells}
use Rattle.pair_spec.specs.PairEvidence.{behind}
use Rattle.pair_spec.specs.PairTerms.{MakesPairTrue}
use Rattle.pair_form.specs.Views.{pair_question_of, side_cells_of}
use Rattle.bit_blast.specs.BitWords.{shapes}
use Rattle.bit_blast.proofs.Lists.{within_up}
use Rattle.bit_blast.proofs.Placed.{inputs_are}
use Rattle.pair_blast.specs.PairWords.{bits_compared}
use Rattle.pair_blast.proofs.Alike.{alike_as, alike_of}
use Rattle.pair_blast.proofs.StandIns.{words_are}
use Rattle.pair_blast.proofs.Parts.{compared_as, pair_told}
use Rattle.pair_blast.proofs.clauses.tie_sides.Goals as goal

pub second_words-requires-clause-words : goal.second_words-requires-clause-words
second_words-requires-clause-words c = rw c.deref.ensures.value c.in_ok-words.ensures.words

pub second_words-requires-clause-alike : goal.second_words-requires-clause-alike
second_words-requires-clause-alike c = alike_of _ _ c.args.first.now.entries.items c.args.second.now.entries.items c.requires.entries

pub tie_exits-requires-clause-alike : goal.tie_exits-requires-clause-alike
tie_exits-requires-clause-alike c = λ e.
    let a = c.in_ok-words.ensures.words in
    let b = c.in_ok-others.ensures.words in
    rw (c.deref-2.ensures.value, c.deref-3.ensures.value, c.deref-4.ensures.value, c.deref-5.ensures.value)
    (alike_as _ _ _ _ _ _ (record { count = a.count; widths = a.widths }) (record { count = b.count; widths = b.widths })
    (alike_of _ _ c.args.first.now.exits.items c.args.second.now.exits.items (c.requires.exits e)))

pub tie_exits-requires-clause-first_within : goal.tie_exits-requires-clause-first_within
tie_exits-requires-clause-first_within c =
    rw c.deref-2.ensures.value (within_up _ _ c.in_ok-words.words.items c.in_ok-words.ensures.words.within c.in_ok-others.ensures.grows.more)

pub tie_exits-requires-clause-second_within : goal.tie_exits-requires-clause-second_within
tie_exits-requires-clause-second_within c = rw c.deref-3.ensures.value c.in_ok-others.ensures.words.within

pub returns-clause-grows : goal.returns-clause-grows
returns-clause-grows c =
    let q = pair_question_of c.args.kind in
    let ms = (cells_of c.args.first.now.celled).nodes in
    let ns = (cells_of c.args.second.now.celled).nodes in
    let ws = c.in_ok-words.words.items in
    let es = c.args.first.now.exits.items in
    let a = c.in_ok-words.ensures.words in
    let g = rw (c.deref-2.ensures.value, c.deref-4.ensures.value) at c.in_ok-tie_exits.ensures.grows in
    let k : bits_compared q (shapes ws) es ≡ bits_compared q ms es =
    compared_as q (shapes ws) ms ns es c.args.second.now.exits.items (record { count = a.count; widths = a.widths })
    (λ e. alike_of ms ns es c.args.second.now.exits.items (c.requires.exits e)) in
    let m : ℕ = term_gates ms in
    let n : ℕ = term_gates ns in
    grows_then {m = m + n} {n = bits_compared q (shapes ws) es} (m + n + bits_compared q ms es)
    (grows_then {m = m} {n = n} (m + n) c.in_ok-words.ensures.grows c.in_ok-others.ensures.grows (omega arith)) g (omega (arith, k))

pub returns-clause-value : goal.returns-clause-value
returns-clause-value c = λ v h.
    let q = pair_question_of c.args.kind in
    let k = cells_of c.args.first.now.celled in
    let m = cells_of c.args.second.now.celled in
    let u = program_of_cells c.args.first.now.celled in
    let w = program_of_cells c.args.second.now.celled in
    let es = c.args.first.now.exits.items in
    let fs = c.args.second.now.exits.items in
    let ws = c.in_ok-words.words.items in
    let vs = c.in_ok-others.others.items in
    let a = c.in_ok-words.ensures.words in
    let b = c.in_ok-others.ensures.words in
    let i = c.in_ok-tie_exits.ensures.grows.keeps v h in
    let j = c.in_ok-others.ensures.grows.keeps v i in
    let three = rw (c.deref-2.ensures.value, c.deref-3.ensures.value, c.deref-4.ensures.value, c.deref-5.ensures.value) at (c.in_ok-tie_exits.ensures.value v h)
    in
    subst (λ (n : ℕ). (satisfied v c.tie_exits.new.ties.items ≡ true) ↔ ((satisfied v c.args.ties.now.items ≡ true) ×
    MakesPairTrue q (side_cells_of c.args.first.now) (side_cells_of c.args.second.now) (reading u k v) (reading w m (behind n v))))
    (inputs_are u k c.args.first_places.now c.requires.first_placed)
    (pair_told q k m c.args.first.now.entries.items es c.args.second.now.entries.items fs (reading u k v)
    (reading w m (behind c.args.first_places.now.inputs v)) v ws vs _ _ _ _ (c.in_ok-words.ensures.value v j) (c.in_ok-others.ensures.value v i) three
    (λ t e.
    let l = alike_of k.nodes m.nodes es fs (c.requires.exits e) in (
      words_are v ws (reading u k v) k.nodes (a.values v j) es l.first,
      words_are v vs (reading w m (behind c.args.first_places.now.inputs v)) m.nodes (b.values v (i, t)) fs l.second,
    )))

pub returns-clause-over : goal.returns-clause-over
returns-clause-over c = λ o. c.in_ok-tie_exits.ensures.over (c.in_ok-others.ensures.over (c.in_ok-words.ensures.over o))
