use Rattle.std.proofs.Common.{map, arith}
use Rattle.notes_value.specs.NoteViews.{fixed_of}
use Rattle.table_run.proofs.Memories.{has_all, given_more, given_all}
use Rattle.table_run.proofs.memory.memory_given.Goals as goal

pub loop-memory-init : goal.loop-memory-init
loop-memory-init c = record {
  before = λ x below less. absurd (omega arith);
  behind = λ x below more. has_all c.args.bytes.now c.in_ok-memory.memory.entries x below c.in_ok-memory.ensures;
}

pub returns-then-part : goal.returns-then-part
returns-then-part c = record {
  bytes =
      given_all c.args.image.now (map fixed_of c.args.ranges.now) c.args.bytes.now c.fill.new.memory.entries
      (λ x below.
      let has = given_more c.args.image.now (map fixed_of c.args.ranges.now) c.args.bytes.now c.loop-memory.at c.in-Some.part
      c.loop-memory.memory.entries c.fill.new.memory.entries
      c.requires.unknown c.in-Some.ensures c.loop-memory.invariant c.in_ok-fill.ensures in
      has.before x below (omega arith));
}

pub loop-memory-preserved : goal.loop-memory-preserved
loop-memory-preserved c =
    given_more c.args.image.now (map fixed_of c.args.ranges.now) c.args.bytes.now c.loop-memory.at c.in-Some.part
    c.loop-memory.memory.entries
    c.fill.new.memory.entries c.requires.unknown c.in-Some.ensures c.loop-memory.invariant c.in_ok-fill.ensures
