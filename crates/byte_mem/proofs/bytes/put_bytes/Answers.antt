use Rattle.std.proofs.Common.{◌≡◌, ℕ, length, refl, subst, arith}
use Rattle.byte_mem.specs.Gaps.{entries_of}
use Rattle.byte_mem.specs.Puts.{PutsTo}
use Rattle.byte_mem.proofs.Gaps.{less_room}
use Rattle.byte_mem.proofs.Numbers.{none_put, more_put}
use Rattle.byte_mem.proofs.bytes.put_bytes.Goals as goal

pub put-requires-clause-room : goal.put-requires-clause-room
put-requires-clause-room c = less_room _ _ 1 (omega arith) (c.loop-i.invariant.room 0 (less_room _ _ _ (omega arith) c.requires.room))

pub loop-i-init : goal.loop-i-init
loop-i-init c = record {
  puts = none_put _ _ _;
  memory = c.requires.memory;
  room = λ n room. less_room _ _ _ (omega arith) room;
}

pub loop-i-preserved : goal.loop-i-preserved
loop-i-preserved c = record {
  puts = more_put _ _ _ _ _ _ _ (omega arith) (omega arith) refl c.loop-i.invariant.puts c.put.ensures.puts;
  memory = c.put.ensures.memory;
  room = λ n room. c.put.ensures.room _ (less_room _ _ _ (omega arith) (c.loop-i.invariant.room n room));
}

pub returns-clause-puts : goal.returns-clause-puts
returns-clause-puts c =
    let all : c.loop-i.i ≡ length c.args.bytes.now = omega arith in
    subst (λ (n : ℕ). PutsTo (entries_of c.args.g.now) c.args.first c.args.bytes.now n (entries_of c.loop-i.g)) all c.loop-i.invariant.puts

pub returns-clause-room : goal.returns-clause-room
returns-clause-room c n room = less_room _ _ _ (omega arith) (c.loop-i.invariant.room n room)
