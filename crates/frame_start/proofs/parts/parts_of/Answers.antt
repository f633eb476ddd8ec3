use Rattle.frame_start.proofs.WrittenParts.{entry_one, head_one, parts_are}
use Rattle.frame_start.proofs.parts.parts_of.Goals as goal

pub written_bytes-requires : goal.written_bytes-requires
written_bytes-requires c =
    let e = c.args.e.now in
    record {
      one = rw (c.deref.ensures.value)
          (entry_one e.celled.now e.values.now c.requires.formed e.places c.requires.evaluated.placed e.reads c.requires.evaluated.reads c.requires.whole);
    }

pub written_bytes-requires-2 : goal.written_bytes-requires-2
written_bytes-requires-2 c =
    let e = c.args.e.now in
    record {
      one = rw (c.deref-2.ensures.value)
          (head_one e.celled.now e.values.now c.requires.formed e.places c.requires.evaluated.placed e.reads c.requires.evaluated.reads c.requires.whole);
    }

pub returns : goal.returns
returns c =
    let e = c.args.e.now in
    let first = rw (c.deref.ensures.value) at c.in_ok-bytes.ensures in
    let second = rw (c.deref-2.ensures.value) at (c.in_ok-bytes-2).ensures in
    parts_are e.celled.now e.values.now c.requires.formed e.places c.requires.evaluated.placed e.reads c.requires.evaluated.reads c.requires.whole
    (record { entry = c.in_ok-entry.entry; head = c.in_ok-head.head; gifts = c.in_ok-gifts.gifts }) c.in_ok-bytes.bytes.items
    (c.in_ok-bytes-2).bytes.items first second c.in_ok-entry.ensures c.in_ok-head.ensures c.in_ok-gifts.ensures
