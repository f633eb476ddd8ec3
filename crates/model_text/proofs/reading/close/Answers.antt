use Rattle.std.proofs.Common.{false, refl, sym, subst}
use Rattle.model_text.specs.declared.symbol.Symbol.TheVariants.{Register, Flag, Choice, OtherRegister, OtherFlag, OtherMemory}
use Rattle.model_text.specs.declared.stores.Stored.{Stored}
use Rattle.model_text.specs.Drafts.{IsStored}
use Rattle.model_text.proofs.DraftSteps.{closed_word, closed_memory, closed_other}
use Rattle.model_text.proofs.reading.close.Goals as goal

pub returns-in-Register : goal.returns-in-Register
returns-in-Register c = λ layout count kept tr token good h. closed_word layout count kept c.args.draft.now (record c.args.draft.now { good = false })
    c.args.findings.now c.take_word.new.self tr c.in-Register.place
    (Register c.in-Register.place) h c.in-Register.is (λ n. n) refl good refl refl (λ l n f. c.take_word.ensures layout count kept tr.definitions tr.sort
    tr.value l n f)

pub returns-in-Flag : goal.returns-in-Flag
returns-in-Flag c = λ layout count kept tr token good h. closed_word layout count kept c.args.draft.now (record c.args.draft.now { good = false })
    c.args.findings.now c.take_word-in-Flag.new.self tr c.in-Flag.place
    (Flag c.in-Flag.place) h c.in-Flag.is (λ n. n) refl good refl refl (λ l n f. c.take_word-in-Flag.ensures layout count kept tr.definitions tr.sort
    tr.value l n f)

pub returns-in-Choice : goal.returns-in-Choice
returns-in-Choice c = λ layout count kept tr token good h. closed_word layout count kept c.args.draft.now (record c.args.draft.now { good = false })
    c.args.findings.now c.take_word-in-Choice.new.self tr c.in-Choice.place
    (Choice c.in-Choice.place) h c.in-Choice.is (λ n. n) refl good refl refl (λ l n f. c.take_word-in-Choice.ensures layout count kept tr.definitions tr.sort
    tr.value l n f)

pub returns-in-Memory : goal.returns-in-Memory
returns-in-Memory c = λ layout count kept tr token good h. closed_memory layout count kept c.args.draft.now c.take_stored.new.self c.args.findings.now
    c.take_memory.new.self tr h
    c.in-Memory.is good c.take_stored.ensures.rest c.take_stored.ensures.none (λ st f. c.take_memory.ensures layout count kept tr.definitions tr.sort tr.value
    (λ k. subst (λ (x : Stored). IsStored x tr.value) (sym c.take_stored.ensures.value) (st k)) f)

pub returns-in_ok-take_other-in-OtherRegister : goal.returns-in_ok-take_other-in-OtherRegister
returns-in_ok-take_other-in-OtherRegister c = λ layout count kept tr token good h. closed_other layout count kept c.args.draft.now (record c.args.draft.now { good = false })
    c.args.findings.now c.take_other.new.self tr OtherRegister h c.in-OtherRegister.is refl (λ n. n) refl refl
    (rw c.deref.ensures.value at (c.in_ok-take_other-in-OtherRegister.ensures layout count kept tr.definitions tr.sort tr.value))

pub returns-in_ok-take_other-in-OtherFlag : goal.returns-in_ok-take_other-in-OtherFlag
returns-in_ok-take_other-in-OtherFlag c = λ layout count kept tr token good h. closed_other layout count kept c.args.draft.now (record c.args.draft.now { good = false })
    c.args.findings.now c.take_other-in-OtherFlag.new.self tr OtherFlag h c.in-OtherFlag.is refl (λ n. n) refl refl
    (rw c.deref-in-OtherFlag.ensures.value at (c.in_ok-take_other-in-OtherFlag.ensures layout count kept tr.definitions tr.sort tr.value))

pub returns-in_ok-take_other-in-OtherMemory : goal.returns-in_ok-take_other-in-OtherMemory
returns-in_ok-take_other-in-OtherMemory c = λ layout count kept tr token good h. closed_other layout count kept c.args.draft.now (record c.args.draft.now { good = false })
    c.args.findings.now c.take_other-in-OtherMemory.new.self tr OtherMemory h c.in-OtherMemory.is refl (λ n. n) refl refl
    (rw c.deref-in-OtherMemory.ensures.value at (c.in_ok-take_other-in-OtherMemory.ensures layout count kept tr.definitions tr.sort tr.value))
