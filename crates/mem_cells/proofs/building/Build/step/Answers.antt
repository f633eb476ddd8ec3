use Rattle.std.proofs.Common.{ap, sym, ◌∙◌}
use Rattle.term_spec.specs.Terms.{term_word}
use Rattle.mem_cells.specs.Pieces.{part_read}
use Rattle.mem_cells.proofs.TakenBytes.{not_apart}
use Rattle.mem_cells.proofs.Puts.{within_byte, apart_byte}
use Rattle.mem_cells.proofs.building.Build.step.Goals as goal

pub returns-then-is_within-clause-byte : goal.returns-then-is_within-clause-byte
returns-then-is_within-clause-byte c =
    let p = rw c.in-Store.is at c.requires.piece in
    rw c.in-Store.is (within_byte _ _ _ _ _ _ _ _ c.requires.built p.1 c.requires.split (sym c.is_within.ensures ∙ c.if-is_within.true))

pub returns-then-is_apart-clause-byte : goal.returns-then-is_apart-clause-byte
returns-then-is_apart-clause-byte c =
    let p = rw c.in-Store.is at c.requires.piece in
    let l = rw c.in-Store.is at c.requires.links in
    rw c.in-Store.is
    (apart_byte _ _ _ _ _ _ _ _ c.requires.built p.1 c.requires.split (sym c.is_apart.ensures ∙ c.if-is_apart.true)
    (l (sym c.is_within.ensures ∙ c.if-is_within.false)))

pub over_take-requires-clause-taken : goal.over_take-requires-clause-taken
over_take-requires-clause-taken c = let p = rw c.in-Take.is at c.requires.piece in p.1

pub over_take-requires-clause-below : goal.over_take-requires-clause-below
over_take-requires-clause-below c = rw c.in-Take.is at c.requires.links

pub over_take-requires-clause-number : goal.over_take-requires-clause-number
over_take-requires-clause-number c e =
    c.requires.number c.in-Take.taken.part (ap (part_read c.args.at) c.in-Take.is ∙ not_apart c.args.at c.in-Take.memory c.in-Take.taken e)

pub read-requires-clause-number : goal.read-requires-clause-number
read-requires-clause-number c = (c.requires.number c.in-Entry.part (ap (part_read c.args.at) c.in-Entry.is)).0

pub returns-in_ok-byte-in-Entry-clause-byte : goal.returns-in_ok-byte-in-Entry-clause-byte
returns-in_ok-byte-in-Entry-clause-byte c =
    let n = c.requires.number c.in-Entry.part (ap (part_read c.args.at) c.in-Entry.is) in
    let b = c.in_ok-byte-in-Entry.ensures.byte in
    rw c.in-Entry.is (record {
      place = b.place;
      value = λ x i g. b.value x i g ∙ ap (λ z. x.mem c.in-Entry.part (term_word x c.args.self.now.dag z)) n.1;
    })
