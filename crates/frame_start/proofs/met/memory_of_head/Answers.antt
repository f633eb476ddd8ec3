use Rattle.std.proofs.Common.{◌≡◌, true, false, sym, ◌∙◌}
use Rattle.frame_start.proofs.met.memory_of_head.Goals as goal

pub head_memory-requires-clause-unknown : goal.head_memory-requires-clause-unknown
head_memory-requires-clause-unknown c =
    rw (c.deref.ensures.value, c.deref-then-speaks_of_heads.ensures.value)
    (c.requires.unknown (sym c.speaks_of_heads.ensures ∙ c.if-speaks_of_heads.true))

pub returns-then-speaks_of_heads-clause-value : goal.returns-then-speaks_of_heads-clause-value
returns-then-speaks_of_heads-clause-value c t a =
    let m = rw (c.deref.ensures.value, c.deref-then-speaks_of_heads.ensures.value) at c.in_ok-memory.ensures.value in m a

pub returns-clause-value : goal.returns-clause-value
returns-clause-value c t a = absurd (let e : true ≡ false = sym t ∙ sym c.speaks_of_heads.ensures ∙ c.if-speaks_of_heads.false in cc)
