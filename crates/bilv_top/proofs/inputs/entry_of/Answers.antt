use Rattle.std.proofs.Common.{subst, sym}
use Rattle.std.specs.Prelude.{MatchResult}
use Rattle.bilv_spec.specs.ElfFaults.{Finds}
use Rattle.bilv_spec.specs.Files.{machine_of, IsFunctionAt}
use Rattle.command_line.specs.Commands.{options_of}
use Rattle.elf32_reader.specs.Symbols.{IsMissed}
use Rattle.notes_value.specs.NoteViews.{function_of}
use Rattle.bilv_top.specs.Names.{IsMissedFunction}
use Rattle.bilv_top.proofs.inputs.entry_of.Goals as goal

pub returns-in-Named : goal.returns-in-Named
returns-in-Named c =
    let file = c.args.image.now in
    let n = (machine_of (options_of c.args.options) file).narrow in
    let by = subst (λ b. MatchResult c.function_named.result (Finds b file c.deref.result.now) (IsMissed b file c.deref.result.now)) c.is_narrow.ensures
    c.function_named.ensures in
    subst (λ f. MatchResult c.function_named.result (IsFunctionAt n file (function_of f)) (IsMissedFunction n file (function_of f))) (sym c.in-Named.is)
    (subst (λ w. MatchResult c.function_named.result (Finds n file w) (IsMissed n file w)) c.deref.ensures.value by)
