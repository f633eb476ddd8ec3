use Rattle.std.proofs.Common.{true, false}
use Rattle.pair_verdict.proofs.PlacedSides.{first_links, second_links, is_ready, still_placed}
use Rattle.pair_verdict.proofs.settling.exits_of.Goals as goal

pub exit_terms-requires-clause-links : goal.exit_terms-requires-clause-links
exit_terms-requires-clause-links c =
    first_links c.args.pair.now.first.now.layout c.args.placed.now.first.form c.args.pair.now.second.now.layout c.requires.placed.first.form
    c.args.pair.now.links.now c.requires.pair.links

pub exit_terms-requires-2-clause-links : goal.exit_terms-requires-2-clause-links
exit_terms-requires-2-clause-links c =
    second_links c.args.pair.now.second.now.layout c.args.placed.now.second.form c.args.pair.now.first.now.layout c.requires.placed.second.form
    c.args.pair.now.links.now c.requires.pair.links

pub returns : goal.returns
returns c =
    let p = c.args.pair.now in
    let v = c.args.placed.now in
    let k = p.budget.now.unroll in
    record {
      ready = record {
        first = is_ready p.first.now false p.links.now k v.first c.requires.placed.first c.in_ok-first.first c.in_ok-first_passive.first_passive
            c.in_ok-first.ensures.of c.in_ok-first.ensures.terms c.in_ok-first_passive.ensures
            (first_links p.first.now.layout v.first.form p.second.now.layout c.requires.placed.first.form p.links.now c.requires.pair.links)
            p.budget.now.in_range.unroll;
        second = is_ready p.second.now true p.links.now k v.second c.requires.placed.second c.in_ok-second.second c.in_ok-second_passive.second_passive
            c.in_ok-second.ensures.of c.in_ok-second.ensures.terms c.in_ok-second_passive.ensures
            (second_links p.second.now.layout v.second.form p.first.now.layout c.requires.placed.second.form p.links.now c.requires.pair.links)
            p.budget.now.in_range.unroll;
      };
      first = still_placed p.first.now false p.links.now k v.first c.requires.placed.first c.in_ok-first.first c.in_ok-first_passive.first_passive
          c.in_ok-first.ensures.of c.in_ok-first.ensures.terms c.in_ok-first_passive.ensures
          (first_links p.first.now.layout v.first.form p.second.now.layout c.requires.placed.first.form p.links.now c.requires.pair.links);
      second = still_placed p.second.now true p.links.now k v.second c.requires.placed.second c.in_ok-second.second c.in_ok-second_passive.second_passive
          c.in_ok-second.ensures.of c.in_ok-second.ensures.terms c.in_ok-second_passive.ensures
          (second_links p.second.now.layout v.second.form p.first.now.layout c.requires.placed.second.form p.links.now c.requires.pair.links);
    }
