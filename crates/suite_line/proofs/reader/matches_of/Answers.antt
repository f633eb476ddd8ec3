use Rattle.std.proofs.Common.{◌∙◌, List, ap, map, string_bytes, sym}
use Rattle.std.proofs.lemmas.Result.{IfOk-weaker}
use Rattle.clap.specs.Words.{App, Text, fault_of, is_simple, is_simple_and_free, subcommand_of}
use Rattle.clap.specs.Walk.{is_empty}
use Rattle.suite_line.specs.Requests.{takes_line}
use Rattle.suite_line.proofs.Faults.{is_simple_alone, is_simple_suite}
use Rattle.suite_line.proofs.reader.matches_of.Goals as goal

pub matches_in-requires-clause-simple : goal.matches_in-requires-clause-simple
matches_in-requires-clause-simple c = ap is_simple c.in_ok-command.ensures.app ∙ is_simple_alone

pub matches_in-requires-clause-free : goal.matches_in-requires-clause-free
matches_in-requires-clause-free c = ap is_simple_and_free c.in_ok-command.ensures.app ∙ is_simple_suite

pub returns-clause-ok : goal.returns-clause-ok
unfolding takes_line
returns-clause-ok c =
    let is = c.in_ok-command.ensures.app in
    let words : List Text = map string_bytes c.args.words.now in
    IfOk-weaker c.matches_in.result _ _
    (λ m h. (ap (λ (a : App). is_empty (fault_of a words)) (sym is) ∙ h.0, h.2 ∙ ap (λ (a : App). subcommand_of a words) is)) c.matches_in.ensures.ok

pub returns-clause-usage : goal.returns-clause-usage
unfolding takes_line
returns-clause-usage c usage =
    let words : List Text = map string_bytes c.args.words.now in
    ap (λ (a : App). is_empty (fault_of a words)) (sym c.in_ok-command.ensures.app) ∙ c.matches_in.ensures.usage usage
