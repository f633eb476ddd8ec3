use Rattle.std.proofs.Common.{sym, subst, List, map}
use Rattle.known_bytes.specs.declared.listing.Known.{Known}
use Rattle.known_bytes.specs.Runs.{run_of}
use Rattle.asked_bytes.specs.AskedBytes.{AreAdded, AreFurther, AreMore}
use Rattle.verdict.proofs.deciding.asked_next.Goals as goal

pub asked_next-requires-clause-added : goal.asked_next-requires-clause-added
asked_next-requires-clause-added c =
    subst (λ (z : List Known). AreAdded (map run_of z) c.args.added.now) (sym c.deref.ensures.value) c.requires.added

pub asked_next-requires-clause-broken : goal.asked_next-requires-clause-broken
asked_next-requires-clause-broken c =
    subst (λ (z : List Known). AreFurther (map run_of z) c.args.added.now c.args.broken.now) (sym c.deref.ensures.value) c.requires.broken

pub returns : goal.returns
returns c =
    subst (λ (z : List Known). AreMore (map run_of z) c.args.added.now c.in_ok-more.more.items) c.deref.ensures.value c.in_ok-more.ensures.more
