use Rattle.std.proofs.Common.{ℕ, Bool, All, refl, subst, sym}
use Rattle.notes_value.specs.FrameViews.{contract_of}
use Rattle.notes_value.specs.Reads.{IsReadableContract}
use Rattle.frame_verdict.proofs.RankedParts.{all_read}
use Rattle.frame_verdict.proofs.CalledWholes.{blocks, came_named, came_otherwise, listed, rising, start_written, told_rising, told_written}
use Rattle.frame_verdict.proofs.shown.called_end.Goals as goal

pub invariant_of-frame : goal.invariant_of-frame
invariant_of-frame g c = record {
  ranked = c.requires.rank;
  readable = subst (λ (has : ℕ → Bool). All (λ x. IsReadableContract has (contract_of x)) c.args.framed.now.contracts.now)
      (sym g.met.M.Machine.same_registers)
      (all_read g.M.Machine.machine g.M.Machine.form g.met.M.Machine.fitted c.args.framed.now.contracts.now c.requires.runs.unroll.callable);
}

pub made_calls-requires-clause-start : goal.made_calls-requires-clause-start
made_calls-requires-clause-start g c =
    start_written g.M.Machine.form c.args.framed.now c.args.budget.now c.args.rank c.args.shown
    (c.requires.runs.alone c.requires.some) c.requires.some c.requires.ends

pub made_calls-requires-clause-blocks : goal.made_calls-requires-clause-blocks
made_calls-requires-clause-blocks g c =
    blocks g.M.Machine.form c.args.framed.now c.args.budget.now c.args.rank c.args.shown
    (c.requires.runs.alone c.requires.some) c.requires.some c.requires.ends c.deref.result.now
    c.deref.ensures.value

pub made_calls-requires-clause-calls : goal.made_calls-requires-clause-calls
made_calls-requires-clause-calls g c =
    rising g.M.Machine.form c.args.framed.now c.args.budget.now c.args.rank c.args.shown
    (c.requires.runs.alone c.requires.some) c.requires.some c.requires.ends c.deref.result.now
    c.deref.ensures.value

pub made_calls-requires-clause-listed : goal.made_calls-requires-clause-listed
made_calls-requires-clause-listed g c =
    listed g.M.Machine.form c.args.framed.now c.args.budget.now c.args.rank c.args.shown
    (c.requires.runs.alone c.requires.some) c.requires.some c.requires.ends c.deref.result.now
    c.deref.ensures.value

pub run_called-requires-clause-start : goal.run_called-requires-clause-start
run_called-requires-clause-start g c =
    start_written g.M.Machine.form c.args.framed.now c.args.budget.now c.args.rank c.args.shown
    (c.requires.runs.alone c.requires.some) c.requires.some c.requires.ends

pub returns-in-None : goal.returns-in-None
returns-in-None g c =
    came_otherwise g.M.Machine.form c.args.framed.now c.args.budget.now c.args.rank c.args.shown
    (c.requires.runs.alone c.requires.some) c.requires.some c.requires.ends c.deref.result.now c.deref.ensures.value c.in_ok-calls.calls.items c.in_ok-calls.ensures.written
    c.in_ok-calls.ensures.rising c.in_ok-calls.ensures.alike c.in_ok-calls.ensures.made c.in_ok-run.run'.ending c.deref-2.result.now
    c.deref-2.ensures.value c.in_ok-run.ensures.cause
    c.in_ok-run.ensures.found c.named_called.result c.named_called.ensures.none c.in-None.is

pub returns-in-Some : goal.returns-in-Some
returns-in-Some g c =
    came_named g.M.Machine.form c.args.framed.now c.args.budget.now c.args.rank c.args.shown
    (c.requires.runs.alone c.requires.some) c.requires.some c.requires.ends c.deref.result.now c.deref.ensures.value c.in_ok-calls.calls.items c.in_ok-calls.ensures.written
    c.in_ok-calls.ensures.rising c.in_ok-calls.ensures.alike c.in_ok-calls.ensures.made c.in_ok-run.run'.ending c.deref-2.result.now
    c.deref-2.ensures.value c.in_ok-run.ensures.cause
    c.in_ok-run.ensures.found c.named_called.result c.named_called.ensures.some c.named_called.ensures.right c.in_ok-run.run'.called
    c.in_ok-run.ensures.called c.in-Some.ending c.in-Some.is _ refl refl refl

pub run_called-requires-clause-blocks : goal.run_called-requires-clause-blocks
run_called-requires-clause-blocks g c =
    told_written c.in_ok-calls.calls.items c.deref-2.result.now c.deref-2.ensures.value _ g.M.Machine.form c.in_ok-calls.ensures.written

pub run_called-requires-clause-calls : goal.run_called-requires-clause-calls
run_called-requires-clause-calls g c =
    told_rising c.in_ok-calls.calls.items c.deref-2.result.now c.deref-2.ensures.value c.in_ok-calls.ensures.rising
