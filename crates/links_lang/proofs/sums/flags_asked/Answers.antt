use Rattle.std.proofs.Common.{sym, ◌∙◌}
use Rattle.std.specs.List.{list_any}
use Rattle.pair_spec.specs.Links.{compares_flag}
use Rattle.links_lang.specs.Views.{links_of}
use Rattle.links_lang.proofs.Flags.{all_flags, any_link, flag_set}
use Rattle.links_lang.proofs.sums.flags_asked.Goals as goal

pub returns-clause-set : goal.returns-clause-set
returns-clause-set c =
    let links = c.args.links.now in
    let side = c.args.second in
    let set = c.set_of.ensures in
    flag_set c.set_of.result (λ f. list_any (compares_flag side f) (links_of links)) set.small
    (set.negative ∙ c.some_compares-negative.ensures ∙ sym (any_link side 3 links)) (set.zeroed ∙ c.some_compares-zero.ensures ∙ sym (any_link side 2 links))
    (set.carry ∙ c.some_compares-carry.ensures ∙ sym (any_link side 1 links)) (set.overflow ∙ c.some_compares-overflow.ensures ∙ sym (any_link side 0 links))

pub returns-clause-all : goal.returns-clause-all
returns-clause-all c = λ a b. all_flags a b c.args.second c.set_of.result c.args.links.now (returns-clause-set c)
