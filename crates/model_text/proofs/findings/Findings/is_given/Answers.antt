use Rattle.std.proofs.Common.{◌∙◌, ℕ, List, ap, sym, subst}
use Rattle.std.specs.Prelude.{is_some}
use Rattle.model_spec.specs.Models.{given}
use Rattle.model_text.specs.declared.symbol.Symbol.{Symbol}
use Rattle.std.specs.List.{list_any}
use Rattle.std.specs.Str.{bytes_eq}
use Rattle.model_text.specs.Symbols.{IsNamed, is_other}
use Rattle.model_text.proofs.findings.Findings.is_given.Goals as goal

pub returns-in-Register : goal.returns-in-Register
returns-in-Register c = λ layout count kept ds w named same are.
    let n = subst (λ (s : Symbol). IsNamed layout count s w) c.in-Register.is named in
    c.has_word.ensures layout count kept ds n.0 are ∙ ap (λ (x : List ℕ). is_some (given ds x)) (sym n.1)

pub returns-in-Flag : goal.returns-in-Flag
returns-in-Flag c = λ layout count kept ds w named same are.
    let n = subst (λ (s : Symbol). IsNamed layout count s w) c.in-Flag.is named in
    c.has_word-in-Flag.ensures layout count kept ds n.0 are ∙ ap (λ (x : List ℕ). is_some (given ds x)) (sym n.1)

pub returns-in-Choice : goal.returns-in-Choice
returns-in-Choice c = λ layout count kept ds w named same are.
    let n = subst (λ (s : Symbol). IsNamed layout count s w) c.in-Choice.is named in
    c.has_word-in-Choice.ensures layout count kept ds n.0 are ∙ ap (λ (x : List ℕ). is_some (given ds x)) (sym n.1)

pub returns-in-OtherRegister : goal.returns-in-OtherRegister
returns-in-OtherRegister c = λ layout count kept ds w named same are.
    let n = subst (λ (s : Symbol). IsNamed layout count s w) c.in-OtherRegister.is named in
    c.has_other.ensures ∙ ap (λ (x : List ℕ). list_any (λ m. bytes_eq m.items x) c.args.self.now.others.items) (same (ap is_other c.in-OtherRegister.is)) ∙ are.others w n

pub returns-in-OtherFlag : goal.returns-in-OtherFlag
returns-in-OtherFlag c = λ layout count kept ds w named same are.
    let n = subst (λ (s : Symbol). IsNamed layout count s w) c.in-OtherFlag.is named in
    c.has_other-in-OtherFlag.ensures ∙ ap (λ (x : List ℕ). list_any (λ m. bytes_eq m.items x) c.args.self.now.others.items) (same (ap is_other c.in-OtherFlag.is)) ∙ are.others w n

pub returns-in-OtherMemory : goal.returns-in-OtherMemory
returns-in-OtherMemory c = λ layout count kept ds w named same are.
    let n = subst (λ (s : Symbol). IsNamed layout count s w) c.in-OtherMemory.is named in
    c.has_other-in-OtherMemory.ensures ∙ ap (λ (x : List ℕ). list_any (λ m. bytes_eq m.items x) c.args.self.now.others.items) (same (ap is_other c.in-OtherMemory.is)) ∙ are.others w n
