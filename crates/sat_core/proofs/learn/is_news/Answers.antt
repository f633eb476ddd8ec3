use Rattle.std.proofs.Common.{◌<◌, ◌-◌, ◌∙◌, length, take, ap, sym, arith, rules}
use Rattle.clause_spec.specs.Clauses.{Clause, has}
use Rattle.clause_spec.specs.UnitPropagation.{negations}
use Rattle.clause_spec.specs.Refutation.{is_tautology}
use Rattle.std.proofs.lemmas.Bool.{not-true}
use Rattle.sat_core.specs.Tables.{true_in}
use Rattle.sat_core.proofs.Literals.{has-item, last-front, plain-front, split-last, same-last}
use Rattle.sat_core.proofs.learn.is_news.Goals as goal

pub deny-requires-clause-within : goal.deny-requires-clause-within
deny-requires-clause-within c = λ l h.
    let lits = c.args.lits.now in
    let some : 0 < length lits = (let a = c.if-is_empty.false in search rules) in
    let e = split-last lits c.index-lits-lits.result some c.index-lits-lits.is in
    c.requires.within l (ap (λ (z : Clause). has z l) e ∙ last-front (take (length lits - 1) lits) c.index-lits-lits.result l h)

pub deny-requires-clause-plain : goal.deny-requires-clause-plain
deny-requires-clause-plain c =
    let lits = c.args.lits.now in
    let some : 0 < length lits = (let a = c.if-is_empty.false in search rules) in
    let e = split-last lits c.index-lits-lits.result some c.index-lits-lits.is in
    plain-front (take (length lits - 1) lits) c.index-lits-lits.result (ap is_tautology (sym e) ∙ c.requires.plain)

pub is_true-is_open-requires : goal.is_true-is_open-requires
is_true-is_open-requires c =
    let lits = c.args.lits.now in
    let some : 0 < length lits = (let a = c.if-is_empty.false in search rules) in
    let x = c.index-lits-lits.result in
    let w = c.requires.within x (has-item lits (length lits - 1) x (omega arith) c.index-lits-lits.is) in
    rw (c.deref.ensures.value, c.propagate.ensures.size, c.deny.ensures.size) (let a = w.0 in let b = w.1 in omega arith)

pub returns-in-None-clause-decided : goal.returns-in-None-clause-decided
returns-in-None-clause-decided c = λ q e l s.
    let lits = c.args.lits.now in
    let some : 0 < length lits = (let a = c.if-is_empty.false in search rules) in
    let x = c.index-lits-lits.result in
    let r = same-last (take (length lits - 1) lits) e x l (sym (split-last lits x some c.index-lits-lits.is) ∙ s) in
    let h = true_in c.propagate.new.self.trail.table.items in (
      h,
      c.in-None.ensures.quiet,
      λ m p. c.propagate.ensures.grows m (c.deny.ensures.values m ∙ ap (λ (z : Clause). negations z m) r.0 ∙ p),
      ap h (sym r.1) ∙ ap (λ t. true_in t x) (sym c.deref.ensures.value) ∙ sym c.is_true-is_open.ensures ∙ not-true c.is_true-is_open.result q,
    )
