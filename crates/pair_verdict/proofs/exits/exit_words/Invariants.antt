use Rattle.std.proofs.Common.{◌≡◌, ◌++◌, drop}
use Rattle.links_lang.specs.Views.{links_of}
use Rattle.pair_verdict.specs.ExitLines.{all_lined_words}
use Rattle.pair_verdict.proofs.exits.exit_words.Given as goal

abbrev pub invariant-loop-link : goal.invariant-loop-link
invariant-loop-link g l =
    l.words.items ++ all_lined_words l.second (g.S.View.view l.state) (links_of (drop l.link-index l.links))
    ≡ all_lined_words l.second (g.S.View.view l.state) (links_of l.links)
