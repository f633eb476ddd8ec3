-- Commands of the code with one part more.
use Rattle.std.proofs.Common.{◌≡◌, ◌∙◌, ◌||◌, ◌<◌, ◌+◌, ℕ, List, ap, ap₂, drop, false, fold, get_or, length, refl, sym}
use Rattle.std.proofs.lemmas.List.{at_drop_more}
use Rattle.clap.specs.Words.{AddsArg, AddsSubcommand, App, Rule, app_of, rule_of, with_rule, with_subcommand}
use Rattle.clap.specs.declared.builder.arg.Arg.{Arg}
use Rattle.clap.specs.declared.builder.command.Command.{Command}
use Rattle.command_line.specs.Lines.{IsMade}

-- one argument more
pub made_arg : {a : App} {r : Rule} {old new : Command} {arg : Arg} → IsMade a old → AddsArg old arg new → rule_of arg ≡ r → arg.global ≡ false
    → IsMade (with_rule a r) new
made_arg made adds rule local = record {
  app = adds.shape local ∙ ap₂ with_rule made.app rule;
  globals = adds.globals ∙ ap₂ (λ x y. x || y) made.globals local;
}

-- one subcommand more
pub made_sub : {a b : App} {old sub new : Command} → IsMade a old → IsMade b sub → AddsSubcommand old sub new → IsMade (with_subcommand a b.top) new
made_sub made made_b adds = record {
  app = adds.shape made_b.globals ∙ ap₂ (λ (x y : App). with_subcommand x y.top) made.app made_b.app;
  globals = adds.globals ∙ ap₂ (λ x y. x || y) made.globals made_b.globals;
}

-- a part of a list more, where the rest of the list gives the whole
pub made_more : {A : Type 0} (add : App → A → App) (xs : List A) (i : ℕ) (d : A) (old whole : App) {new : Command} → i < length xs
    → fold add old (drop i xs) ≡ whole → IsMade (add old (get_or xs i d)) new → fold add (app_of new) (drop (i + 1) xs) ≡ whole
made_more add xs i d old whole inside rest made =
    ap (λ a. fold add a (drop (i + 1) xs)) made.app ∙ sym (at_drop_more (fold add old) xs i d inside) ∙ rest
