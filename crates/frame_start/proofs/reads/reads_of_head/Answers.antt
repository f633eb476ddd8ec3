use Rattle.frame_start.proofs.reads.reads_of_head.Goals as goal

pub reads_of_part-requires-clause-places : goal.reads_of_part-requires-clause-places
reads_of_part-requires-clause-places c = rw (c.deref.ensures.value, c.deref-then-speaks_of_heads.ensures.value) c.requires.places
