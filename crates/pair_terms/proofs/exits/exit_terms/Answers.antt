use Rattle.std.proofs.Common.{◌-◌, arith}
use Rattle.mem_cells.specs.Words.{places_of}
use Rattle.pair_terms.proofs.ExitOf.{exit_told, last_bit}
use Rattle.pair_terms.proofs.exits.exit_terms.Goals as goal

pub exit_of-requires-clause-reached : goal.exit_of-requires-clause-reached
exit_of-requires-clause-reached c =
    let p = c.in_ok-passive.field-0.passive in
    last_bit c.args.unrolled.now p c.index.result.now (c.len-place.result - 1) (omega (arith, c.requires.more)) c.in_ok-passive.ensures.passive
    (omega (arith, c.len-place.ensures, p.met.ok.0)) c.index.ensures

pub returns-clause-terms : goal.returns-clause-terms
returns-clause-terms c = record {
  within = exit_told c.args.unrolled.now c.in_ok-passive.field-0.passive c.args.second c.args.links.now c.exit_of.new.dag c.in_ok-exit.exit.met.0
      (places_of c.in_ok-exit.exit.words.items) c.in_ok-passive.ensures.passive c.in_ok-exit.ensures;
  tells = c.in_ok-exit.ensures.tells;
}
