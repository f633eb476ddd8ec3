use Rattle.std.proofs.Common.{refl, sym, ◌∙◌, [], ◌++◌, take, arith}
use Rattle.program_value.specs.Programs.{program_of}
use Rattle.table_run.proofs.Fillings.{read_known, read_new, noted_next, noted_all, noted_none}
use Rattle.table_run.proofs.filling.note_read.Goals as goal

pub loop-a-init : goal.loop-a-init
loop-a-init g c before is = noted_none (program_of c.args.p.now) 0 [] before c.args.places.now c.args.read.now is

pub loop-a-preserved-then-is_known : goal.loop-a-preserved-then-is_known
loop-a-preserved-then-is_known g c before is =
    let p = program_of c.args.p.now in
    noted_next p 0 [] before c.args.places.now c.loop-a.a-index _ c.loop-a.read (omega arith) refl
    (read_known p 0 [] (before ++ take c.loop-a.a-index c.args.places.now) c.loop-a.read _ (sym c.is_known.ensures ∙ c.if-is_known.true)
    (c.loop-a.invariant before is))

pub loop-a-preserved : goal.loop-a-preserved
loop-a-preserved g c before is =
    let p = program_of c.args.p.now in
    noted_next p 0 [] before c.args.places.now c.loop-a.a-index _ c.insert.new.self (omega arith) refl
    (read_new p 0 [] (before ++ take c.loop-a.a-index c.args.places.now) c.loop-a.read c.insert.new.self _ (omega arith)
    (sym c.is_known.ensures ∙ c.if-is_known.false) c.in_ok-insert.ensures.updates.0 (c.loop-a.invariant before is))

pub returns : goal.returns
returns g c before is =
    noted_all (program_of c.args.p.now) 0 [] before c.args.places.now c.loop-a.a-index c.loop-a.read (omega arith) (c.loop-a.invariant before is)
