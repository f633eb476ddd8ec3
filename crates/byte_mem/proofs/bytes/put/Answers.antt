use Rattle.std.proofs.Common.{arith}
use Rattle.byte_mem.proofs.Gaps.{replaced_at, less_room}
use Rattle.byte_mem.proofs.Places.{found_around, missed_around, none_at}
use Rattle.byte_mem.proofs.Spans.{put_in, put_over, taken_out, put_nothing}
use Rattle.byte_mem.proofs.bytes.put.Goals as goal

pub returns-then-byte-eq0-clause-puts : goal.returns-then-byte-eq0-clause-puts
returns-then-byte-eq0-clause-puts c =
    let p = c.place-i.ensures in
    let around = found_around _ _ _ c.requires.memory.kept.rising p.within p.below p.from (c.is_at.ensures.at c.if-is_at.true) in
    (taken_out _ _ _ _ _ c.requires.memory around (omega arith) c.if-byte-eq0.true c.remove.ensures.entries).0

pub returns-then-byte-eq0-clause-memory : goal.returns-then-byte-eq0-clause-memory
returns-then-byte-eq0-clause-memory c =
    let p = c.place-i.ensures in
    let around = found_around _ _ _ c.requires.memory.kept.rising p.within p.below p.from (c.is_at.ensures.at c.if-is_at.true) in
    (taken_out _ _ _ _ _ c.requires.memory around (omega arith) c.if-byte-eq0.true c.remove.ensures.entries).1

pub returns-then-byte-eq0-clause-room : goal.returns-then-byte-eq0-clause-room
returns-then-byte-eq0-clause-room c n room = c.remove.ensures.room n (less_room _ _ n (omega arith) room)

pub returns-then-is_at-clause-puts : goal.returns-then-is_at-clause-puts
returns-then-is_at-clause-puts c =
    let p = c.place-i.ensures in
    let around = found_around _ _ _ c.requires.memory.kept.rising p.within p.below p.from (c.is_at.ensures.at c.if-is_at.true) in
    (put_over _ _ _ _ _ c.requires.memory around (omega arith) (omega arith) c.if-byte-eq0.false (replaced_at _ _ _ _ c.replace.ensures.replaced)).0

pub returns-then-is_at-clause-memory : goal.returns-then-is_at-clause-memory
returns-then-is_at-clause-memory c =
    let p = c.place-i.ensures in
    let around = found_around _ _ _ c.requires.memory.kept.rising p.within p.below p.from (c.is_at.ensures.at c.if-is_at.true) in
    (put_over _ _ _ _ _ c.requires.memory around (omega arith) (omega arith) c.if-byte-eq0.false (replaced_at _ _ _ _ c.replace.ensures.replaced)).1

pub returns-then-is_at-clause-room : goal.returns-then-is_at-clause-room
returns-then-is_at-clause-room c n room = c.replace.ensures.room n (less_room _ _ n (omega arith) room)

pub returns-then-byte-eq0-2-clause-puts : goal.returns-then-byte-eq0-2-clause-puts
returns-then-byte-eq0-2-clause-puts c =
    let p = c.place-i.ensures in
    put_nothing _ _ _ c.if-byte-eq0-2.true (none_at _ c.place-i.result _ c.requires.memory.kept.rising p.within p.below p.from
    (c.is_at.ensures.away c.if-is_at.false))

pub returns-then-byte-eq0-2-clause-room : goal.returns-then-byte-eq0-2-clause-room
returns-then-byte-eq0-2-clause-room c n room = less_room _ _ n (omega arith) room

pub returns-clause-puts : goal.returns-clause-puts
returns-clause-puts c =
    let p = c.place-i.ensures in
    let around = missed_around _ _ _ c.requires.memory.kept.rising p.within p.below p.from (c.is_at.ensures.away c.if-is_at.false) in
    (put_in _ _ _ _ _ c.requires.memory around (omega arith) (omega arith) c.if-byte-eq0-2.false c.insert.ensures.entries).0

pub returns-clause-memory : goal.returns-clause-memory
returns-clause-memory c =
    let p = c.place-i.ensures in
    let around = missed_around _ _ _ c.requires.memory.kept.rising p.within p.below p.from (c.is_at.ensures.away c.if-is_at.false) in
    (put_in _ _ _ _ _ c.requires.memory around (omega arith) (omega arith) c.if-byte-eq0-2.false c.insert.ensures.entries).1
