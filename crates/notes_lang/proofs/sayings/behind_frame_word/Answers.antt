use Rattle.std.proofs.Common.{refl}
use Rattle.notes_lang.specs.Scoping.{scope_of}
use Rattle.notes_lang.specs.Reading.{tokens_view}
use Rattle.notes_lang.proofs.Forms.{may_frame, no_frame}
use Rattle.notes_lang.proofs.sayings.behind_frame_word.Goals as goal

pub returns-then-not-may_frame : goal.returns-then-not-may_frame
returns-then-not-may_frame c =
    no_frame (scope_of c.args.scope) c.may_frame.result c.args.word (tokens_view c.args.rest.now) c.may_frame.ensures c.if-not-may_frame.true

pub invariant-requires-clause-framed : goal.invariant-requires-clause-framed
invariant-requires-clause-framed c =
    may_frame (scope_of c.args.scope) c.may_frame.result _ _ c.may_frame.ensures c.if-not-may_frame.false refl refl

pub needs-requires-clause-framed : goal.needs-requires-clause-framed
needs-requires-clause-framed c =
    may_frame (scope_of c.args.scope) c.may_frame.result _ _ c.may_frame.ensures c.if-not-may_frame.false refl refl

pub gives-requires-clause-framed : goal.gives-requires-clause-framed
gives-requires-clause-framed c =
    may_frame (scope_of c.args.scope) c.may_frame.result _ _ c.may_frame.ensures c.if-not-may_frame.false refl refl

pub modifies-requires-clause-framed : goal.modifies-requires-clause-framed
modifies-requires-clause-framed c =
    may_frame (scope_of c.args.scope) c.may_frame.result _ _ c.may_frame.ensures c.if-not-may_frame.false refl refl

pub writes-requires-clause-framed : goal.writes-requires-clause-framed
writes-requires-clause-framed c =
    may_frame (scope_of c.args.scope) c.may_frame.result _ _ c.may_frame.ensures c.if-not-may_frame.false refl refl

pub returns-in-Invariant : goal.returns-in-Invariant
returns-in-Invariant c = rw c.in-Invariant.is c.invariant.ensures
