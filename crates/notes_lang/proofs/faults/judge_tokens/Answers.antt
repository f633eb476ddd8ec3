use Rattle.std.proofs.Common.{sym}
use Rattle.notes_lang.specs.Scoping.{scope_of}
use Rattle.notes_lang.specs.Saying.{says_of}
use Rattle.notes_lang.proofs.Judged.{all_good, token_faulty, refused, own_faulty, sound, told, told_none}
use Rattle.notes_lang.specs.Reading.{tokens_view}
use Rattle.notes_lang.proofs.faults.judge_tokens.Goals as goal

pub returns-in-Some : goal.returns-in-Some
returns-in-Some c number text small short is earlier =
    token_faulty (scope_of c.args.scope) c.requires number earlier text c.args.tokens.now small short is c.in-Some.fault c.in-Some.ensures

pub said-requires : goal.said-requires
said-requires c = all_good c.args.tokens.now (sym c.in_default.ensures.0) (sym c.in_default.ensures.1) (sym c.in_default.ensures.2)

pub refusal-requires : goal.refusal-requires
refusal-requires c = all_good c.args.tokens.now (sym c.in_default.ensures.0) (sym c.in_default.ensures.1) (sym c.in_default.ensures.2)

pub returns-in_default-2 : goal.returns-in_default-2
returns-in_default-2 c number text small short is earlier =
    refused (scope_of c.args.scope) c.requires number earlier text c.args.tokens.now small short is c.in_default.ensures
    (told_none (scope_of c.args.scope) (tokens_view c.args.tokens.now) c.in_ok-says.field-0 c.in_ok-says.ensures c.in_default-2.is) c.in_ok-fault.fault
    c.in_ok-fault.ensures

pub returns-in-Some-own_fault : goal.returns-in-Some-own_fault
returns-in-Some-own_fault c number text small short is earlier =
    own_faulty (scope_of c.args.scope) c.requires number earlier text c.args.tokens.now small short is c.in_default.ensures (says_of c.in-Some-2.says)
    (told (scope_of c.args.scope) (tokens_view c.args.tokens.now) c.in_ok-says.field-0 c.in-Some-2.says c.in_ok-says.ensures c.in-Some-2.is)
    c.in-Some-own_fault.fault c.in-Some-own_fault.ensures

pub returns : goal.returns
returns c number text small short is =
    sound (scope_of c.args.scope) c.requires number text c.args.tokens.now small short is c.in_default.ensures (says_of c.in-Some-2.says)
    (told (scope_of c.args.scope) (tokens_view c.args.tokens.now) c.in_ok-says.field-0 c.in-Some-2.says c.in_ok-says.ensures c.in-Some-2.is)
    c.in-None.ensures
