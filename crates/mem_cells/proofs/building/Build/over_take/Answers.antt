use Rattle.std.proofs.Common.{◌*◌, refl, sym, ◌∙◌, arith}
use Rattle.term_spec.specs.Terms.{term_word}
use Rattle.mem_cells.proofs.Growing.{grown_more, grown_none, grown_on, grown_width}
use Rattle.mem_cells.proofs.Chains.{taken_kept}
use Rattle.mem_cells.proofs.TakenBytes.{apart_taken, not_within, taken_word, within_taken}
use Rattle.mem_cells.proofs.building.Build.over_take.Goals as goal

pub returns-then-is_apart-clause-grown : goal.returns-then-is_apart-clause-grown
returns-then-is_apart-clause-grown c =
    grown_more c.args.self.now c.args.self.now 0 0 (40 * c.args.taken.bytes) 0 (omega arith) (omega arith) (grown_none c.args.self.now c.requires.built)

pub returns-then-is_apart-clause-byte : goal.returns-then-is_apart-clause-byte
returns-then-is_apart-clause-byte c =
    let e = sym c.is_apart.ensures ∙ c.if-is_apart.true in
    apart_taken c.args.self.now c.args.taken c.args.at c.args.address.0 c.requires.built c.requires.taken c.requires.split c.args.below.0 e
    (c.requires.below (not_within c.args.at c.args.taken.at c.args.taken.bytes e))

pub read-requires-clause-part : goal.read-requires-clause-part
read-requires-clause-part c = c.requires.taken.part

pub read-requires-clause-number : goal.read-requires-clause-number
read-requires-clause-number c = (c.requires.number (sym c.is_apart.ensures ∙ c.if-is_apart.false)).0

pub returns-then-is_within-clause-grown : goal.returns-then-is_within-clause-grown
returns-then-is_within-clause-grown c =
    grown_more c.args.self.now c.read.new.self 0 0 (40 * c.args.taken.bytes) 0 (omega arith) (omega arith) c.in_ok-own.ensures.grown

pub returns-then-is_within-clause-byte : goal.returns-then-is_within-clause-byte
returns-then-is_within-clause-byte c =
    within_taken c.args.self.now c.args.taken c.args.at c.args.address.0 c.requires.built c.requires.taken c.requires.split c.read.new.self c.args.number
    c.in_ok-own.own.0 (λ x. term_word x c.args.self.now.dag c.args.below.0) (sym c.is_within.ensures ∙ c.if-is_within.true)
    (c.requires.number (sym c.is_apart.ensures ∙ c.if-is_apart.false)) c.in_ok-own.ensures.byte

pub is_taken-requires-clause-taken : goal.is_taken-requires-clause-taken
is_taken-requires-clause-taken c = taken_kept c.args.self.now c.read.new.self 0 0 c.args.taken c.in_ok-own.ensures.grown c.requires.taken

pub make-requires-clause-own : goal.make-requires-clause-own
make-requires-clause-own c =
    let a = c.args.self.now in
    let m = c.read.new.self in
    let b = c.is_taken.new.self in
    let o = c.in_ok-own.ensures in
    let e = c.in_ok-condition.ensures in
    record {
      typed = (
        (omega arith, omega arith),
        e.bit.place,
        grown_width m b _ _ 8 c.in_ok-own.own.0 e.grown o.byte.place,
        grown_width a b _ _ 8 c.args.below.0 (grown_on a m b _ _ _ _ o.grown e.grown) (c.requires.below (sym c.is_within.ensures ∙ c.if-is_within.false)),
      );
      word = omega arith;
      loads = refl;
      named = tt;
    }

pub returns-clause-grown : goal.returns-clause-grown
returns-clause-grown c =
    let a = c.args.self.now in
    let m = c.read.new.self in
    let b = c.is_taken.new.self in
    let n = c.make.new.self in
    grown_more a n _ _ (40 * c.args.taken.bytes) 0 (omega (arith, c.requires.taken.some)) (omega arith)
    (grown_on a m n _ _ _ _ c.in_ok-own.ensures.grown (grown_on m b n _ _ _ _ c.in_ok-condition.ensures.grown c.in_ok-over.ensures.grown))

pub returns-clause-byte : goal.returns-clause-byte
returns-clause-byte c =
    taken_word c.args.self.now c.read.new.self c.is_taken.new.self c.make.new.self _ _ _ _ _ _ c.args.taken c.args.number c.args.address.0 c.args.below.0
    c.in_ok-own.own.0 c.in_ok-condition.condition.0 _ c.requires.built c.in_ok-own.ensures.grown c.in_ok-condition.ensures.grown c.in_ok-over.ensures.grown
    c.requires.taken c.requires.address (c.requires.below (sym c.is_within.ensures ∙ c.if-is_within.false))
    (c.requires.number (sym c.is_apart.ensures ∙ c.if-is_apart.false)) c.in_ok-own.ensures.byte c.in_ok-condition.ensures.bit c.in_ok-over.ensures.word
