use Rattle.std.proofs.Common.{◌∙◌, ap, codes, true}
use Rattle.clap.specs.Words.{App, new_app}
use Rattle.clap.specs.Simple.{app_of_fields}
use Rattle.command_line.proofs.Made.{made_sub}
use Rattle.command_line.specs.Lines.{IsMade}
use Rattle.suite_line.specs.Requests.{suite_app}
use Rattle.suite_line.proofs.program.bilv_suite.Goals as goal

abbrev bare_app : App
bare_app = record (new_app (codes "bilv_suite")) { top = record (new_app (codes "bilv_suite")).top { subcommand_required = true } }

pub returns : goal.returns
unfolding suite_app
returns c =
    let bare : IsMade bare_app c.subcommand_required-bare.result = record {
      app = ap app_of_fields c.subcommand_required-bare.ensures ∙ ap (λ (a : App). record a { top = record a.top { subcommand_required = true } }) c.new.ensures.app;
      globals = ap (λ f. f.has_globals) c.subcommand_required-bare.ensures ∙ c.new.ensures.local;
    } in
    let first = made_sub bare c.in_ok-run.ensures c.in_ok-subcommand.ensures in
    let second = made_sub first c.in_ok-notes.ensures c.in_ok-subcommand-2.ensures in
    made_sub second c.in_ok-check.ensures c.in_ok-command.ensures
