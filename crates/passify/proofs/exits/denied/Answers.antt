use Rattle.std.proofs.Common.{refl}
use Rattle.term_dag.proofs.Growth.{grew_width}
use Rattle.passify.proofs.Joined.{form_back}
use Rattle.passify.proofs.Tried.{lined_well, price_room, denied_steps, denied_bit, denied_tries, denied_narrows}
use Rattle.notes_value.specs.Views.{expr_of}
use Rattle.passify.proofs.exits.denied.Goals as goal

pub line-requires : goal.line-requires
line-requires c = record {
  reads = c.requires.reads;
  same = form_back c.args.sweep.now.entry c.args.now.now.names.now c.requires.now.same;
  now = c.requires.now.names;
  entry = c.requires.well.entry;
  pc = c.requires.pc;
  entry_pc = c.requires.well.pc;
}

pub split-requires : goal.split-requires
split-requires c = record {
  rest = grew_width c.args.dag.now c.line.new.dag _ _ _ _ _ 1 c.args.rest.0 c.in_ok-bit.ensures.grew c.requires.rest;
  bit =
      c.in_ok-bit.ensures.width;
}

pub fail-requires : goal.fail-requires
fail-requires c = record {
  well = lined_well c.args.dag.now c.line.new.dag c.split.new.dag c.args.sweep.now c.args.big
      (expr_of c.args.says.now) c.args.now.now _ c.in_ok-bit.bit.0 c.args.rest.0 c.in_ok-parts.parts.on.0 c.in_ok-parts.parts.off.0
      c.in_ok-bit.ensures c.requires.well c.in_ok-parts.ensures;
  hit = c.in_ok-parts.ensures.off_bit;
}

pub returns-clause-steps : goal.returns-clause-steps
returns-clause-steps c =
    denied_steps c.args.dag.now c.line.new.dag c.split.new.dag c.fail.new.dag c.args.sweep.now c.fail.new.sweep c.args.big
    (expr_of c.args.says.now) c.args.now.now _ c.in_ok-bit.bit.0 c.args.rest.0 c.in_ok-parts.parts.on.0 c.in_ok-parts.parts.off.0
    c.in_ok-bit.ensures c.requires.well refl refl c.requires.rest c.in_ok-parts.ensures c.in_ok-fail.ensures.steps c.in_ok-fail.ensures.hands
    (price_room (expr_of c.args.says.now))

pub returns-clause-bit : goal.returns-clause-bit
returns-clause-bit c =
    denied_bit c.args.dag.now c.line.new.dag c.split.new.dag c.fail.new.dag c.args.sweep.now c.fail.new.sweep c.args.big
    (expr_of c.args.says.now) c.args.now.now _ c.in_ok-bit.bit.0 c.args.rest.0 c.in_ok-parts.parts.on.0 c.in_ok-parts.parts.off.0
    c.in_ok-bit.ensures c.requires.well refl refl c.requires.rest c.in_ok-parts.ensures c.in_ok-fail.ensures.steps c.in_ok-fail.ensures.hands

pub returns-clause-tries : goal.returns-clause-tries
returns-clause-tries c =
    denied_tries c.args.dag.now c.line.new.dag c.split.new.dag c.fail.new.dag c.args.sweep.now c.fail.new.sweep c.args.big
    (expr_of c.args.says.now) c.args.now.now _ c.in_ok-bit.bit.0 c.args.rest.0 c.in_ok-parts.parts.on.0 c.in_ok-parts.parts.off.0
    c.in_ok-bit.ensures c.requires.well refl refl c.requires.rest c.in_ok-parts.ensures c.in_ok-fail.ensures.steps c.in_ok-fail.ensures.hands

pub returns-clause-narrows : goal.returns-clause-narrows
returns-clause-narrows c =
    denied_narrows c.args.dag.now c.line.new.dag c.split.new.dag c.fail.new.dag c.args.sweep.now c.fail.new.sweep c.args.big
    (expr_of c.args.says.now) c.args.now.now _ c.in_ok-bit.bit.0 c.args.rest.0 c.in_ok-parts.parts.on.0 c.in_ok-parts.parts.off.0
    c.in_ok-bit.ensures c.requires.well refl refl c.requires.rest c.in_ok-parts.ensures c.in_ok-fail.ensures.steps c.in_ok-fail.ensures.hands
