use Rattle.std.proofs.Common.{◌<◌, inl, inr, length, refl, ap, ◌∙◌, arith}
use Rattle.mem_cells.specs.Parts.{lists_of}
use Rattle.mem_cells.proofs.PartReads.{parts_here}
use Rattle.mem_cells.proofs.Growing.{mapped_length}
use Rattle.mem_cells.proofs.Agreements.{mapped_at, read_width}
use Rattle.mem_cells.proofs.Asks.{asked_one, asked_none_of, asked_unread}
use Rattle.mem_cells.proofs.asking.ask.Goals as goal

pub make-requires-clause-own : goal.make-requires-clause-own
make-requires-clause-own c =
    let a = c.args.build.now in
    let l : c.args.read < length a.addresses.items = omega (arith, c.requires.read, mapped_length a.addresses.items) in
    record {
      typed = (
        (omega arith, omega arith),
        read_width a c.args.read c.index-left.result.now _ c.requires.built l c.index-left.ensures,
        c.requires.address.place,
      );
      word = omega arith;
      loads = refl;
      named = tt;
    }

pub returns-then-is_zero-clause-asked : goal.returns-then-is_zero-clause-asked
returns-then-is_zero-clause-asked c =
    let a = c.args.build.now in
    let l : c.args.read < length a.addresses.items = omega (arith, c.requires.read, mapped_length a.addresses.items) in
    asked_none_of a c.make.new.self 32 (lists_of c.args.parts.now) c.args.file.now c.args.asked.now.items c.index-left.result.now.0 c.args.address.0 c.args.place
    c.args.read
    c.in_ok-condition.condition.0 c.requires.built
    c.in_ok-condition.ensures.grown c.requires.read (ap (λ z. z.0) c.index-left.ensures ∙ mapped_at a.addresses.items c.args.read _ l) c.requires.address
    c.in_ok-condition.ensures.word
    (c.is_zero.ensures c.if-is_zero.true) c.requires.asked

pub returns-clause-asked : goal.returns-clause-asked
returns-clause-asked c =
    let a = c.args.build.now in
    let l : c.args.read < length a.addresses.items = omega (arith, c.requires.read, mapped_length a.addresses.items) in
    asked_one a c.make.new.self 32 (lists_of c.args.parts.now) c.args.file.now c.args.asked.now.items _ _ _ c.index-left.result.now.0
    c.args.address.0 c.args.place c.args.read c.requires.built c.in_ok-condition.ensures.grown c.in_ok-ask_parts.ensures
    (parts_here c.args.parts.now c.args.read _ _ c.deref-2.ensures.value c.index-parts-read-2.is (omega (arith, c.requires.read, c.requires.parts)))
    c.requires.place c.requires.read (ap (λ z. z.0) c.index-left.ensures ∙ mapped_at a.addresses.items c.args.read _ l) c.requires.address
    c.in_ok-condition.ensures.word c.requires.asked

pub returns-clause-kept : goal.returns-clause-kept
returns-clause-kept c p j h = elim (c.in_ok-condition.ensures.parts p j h) [ inl k ↦ k | inr e ↦ absurd (cc) ]

pub returns-then-is_zero-clause-kept : goal.returns-then-is_zero-clause-kept
returns-then-is_zero-clause-kept c p j h = elim (c.in_ok-condition.ensures.parts p j h) [ inl k ↦ k | inr e ↦ absurd (cc) ]

pub returns-then-not-is_asked_of-clause-asked : goal.returns-then-not-is_asked_of-clause-asked
returns-then-not-is_asked_of-clause-asked c =
    asked_unread c.args.build.now (lists_of c.args.parts.now) c.args.file.now c.args.asked.now.items _ c.args.place c.args.read
    (parts_here c.args.parts.now c.args.read _ _ c.deref.ensures.value c.index-parts-read.is (omega (arith, c.requires.read, c.requires.parts)))
    (c.is_asked_of.ensures c.if-not-is_asked_of.true) c.requires.asked
