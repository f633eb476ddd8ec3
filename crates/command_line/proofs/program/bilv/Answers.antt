use Rattle.command_line.specs.Lines.{IsMade}
use Rattle.command_line.specs.Tables.{bare_app}
use Rattle.clap.specs.Words.{App}
use Rattle.clap.specs.Simple.{app_of_fields}
use Rattle.std.proofs.Common.{◌∙◌, ap, true}
use Rattle.std.proofs.lemmas.Result.{IfOk-weaker}
use Rattle.command_line.proofs.program.bilv.Goals as goal

pub with_rows-requires : goal.with_rows-requires
with_rows-requires c = ap (λ f. f.has_globals) c.subcommand_required-command.ensures ∙ c.new.ensures.local

pub returns : goal.returns
returns c =
    let bare : IsMade bare_app c.subcommand_required-command.result = record {
      app = ap app_of_fields c.subcommand_required-command.ensures ∙ ap (λ (a : App). record a { top = record a.top { subcommand_required = true } }) c.new.ensures.app;
      globals = ap (λ f. f.has_globals) c.subcommand_required-command.ensures ∙ c.new.ensures.local;
    } in
    let is = bare.app in
    IfOk-weaker c.with_rows.result _ _ (λ m made. let h = made.app in record { app = rw is at h ∙ c.subcommands.ensures; globals = made.globals }) c.with_rows.ensures
