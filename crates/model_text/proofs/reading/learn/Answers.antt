use Rattle.std.proofs.Common.{ap, subst, ℕ, List, Some}
use Rattle.model_text.specs.Places.{is_closing}
use Rattle.model_text.specs.Drafts.{IsDraft}
use Rattle.model_text.specs.Tokens.{token_of}
use Rattle.model_text.specs.Traces.{named as named_by}
use Rattle.model_text.proofs.DraftSteps.{learnt_name, learnt_passing, learnt_closing, learnt_other}
use Rattle.model_text.proofs.reading.learn.Goals as goal

pub returns-in_ok-begin-in-Name : goal.returns-in_ok-begin-in-Name
returns-in_ok-begin-in-Name c = λ layout count kept tr named good h. learnt_name layout count kept c.args.draft.now c.begin.new.self c.args.findings.now tr c.args.place
    c.args.symbol c.in-Some.symbol
    (token_of c.args.token) c.in-Name.is c.in-Some.is named h (λ d. subst (λ (w : List ℕ). IsDraft c.begin.new.self (named_by (Some c.in-Some.symbol) w tr))
    c.name.ensures (c.in_ok-begin-in-Name.ensures tr d))

pub returns-in-Passing : goal.returns-in-Passing
returns-in-Passing c = λ layout count kept tr named good h. learnt_passing layout count kept c.args.draft.now c.args.findings.now tr c.args.place
    c.in-Passing.depth c.args.symbol
    (token_of c.args.token) c.in-Passing.is h

pub returns-in_ok-close-in-Closing : goal.returns-in_ok-close-in-Closing
returns-in_ok-close-in-Closing c = λ layout count kept tr named good h. learnt_closing layout count kept c.args.draft.now c.close.new.draft c.args.findings.now
    c.close.new.findings tr c.args.place
    c.args.symbol (token_of c.args.token) c.in-Closing.is (c.in_ok-close-in-Closing.ensures layout count kept tr (token_of c.args.token) (good (ap is_closing
    c.in-Closing.is)) h)

pub returns-in_ok-take-in_default : goal.returns-in_ok-take-in_default
returns-in_ok-take-in_default c = λ layout count kept tr named good h. learnt_other layout count kept c.args.draft.now c.take.new.self c.args.findings.now tr
    c.args.place c.args.symbol
    (token_of c.args.token) c.in_default.not-Name c.in_default.not-Passing c.in_default.not-Closing h (c.in_ok-take-in_default.ensures tr h.draft)
