use Rattle.std.proofs.Common.{arith, map, sym, subst, ℕ, List}
use Rattle.std.specs.Prelude.{Contains}
use Rattle.std.proofs.lemmas.Bool.Decides.{nat_tests}
use Rattle.known_bytes.specs.Runs.{run_of}
use Rattle.asked_bytes.proofs.Beside.{asks_more, beside_further}
use Rattle.asked_bytes.proofs.asking.asked_next.Goals as goal

pub returns-then-is_empty-clause-more : goal.returns-then-is_empty-clause-more
returns-then-is_empty-clause-more c =
    asks_more (map run_of c.args.known.now) c.args.added.now c.args.broken.now c.in_ok-joined.joined.items c.requires.added c.requires.broken
    c.in_ok-joined.ensures

pub returns-then-is_empty-clause-asked : goal.returns-then-is_empty-clause-asked
returns-then-is_empty-clause-asked c runs = c.in_ok-joined.ensures.keep_second

pub with_further-requires-2-clause-apart : goal.with_further-requires-2-clause-apart
with_further-requires-2-clause-apart c =
    (beside_further c.args.known.now c.args.added.now c.in_ok-beside.beside.items c.deref.result.now
    c.in_ok-beside.ensures.beside (let is = c.is_empty.ensures in let not = c.if-is_empty.false in grind (arith, is, not, nat_tests)) c.deref.ensures.value).new

pub returns-clause-more : goal.returns-clause-more
returns-clause-more c =
    asks_more (map run_of c.args.known.now) c.args.added.now c.deref.result.now c.in_ok-joined-2.joined.items c.requires.added
    (beside_further c.args.known.now c.args.added.now c.in_ok-beside.beside.items c.deref.result.now
    c.in_ok-beside.ensures.beside (let is = c.is_empty.ensures in let not = c.if-is_empty.false in grind (arith, is, not, nat_tests)) c.deref.ensures.value)
    c.in_ok-joined-2.ensures

pub returns-clause-asked : goal.returns-clause-asked
returns-clause-asked c runs a has =
    let broken = c.requires.broken in
    c.in_ok-joined-2.ensures.keep_second a (subst (λ (z : List ℕ). Contains z a) (sym c.deref.ensures.value)
    (c.in_ok-beside.ensures.asked runs broken.are.rise a has (broken.are.known a has).1 (broken.new a has)))
