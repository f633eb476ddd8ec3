use Rattle.std.proofs.Common.{◌≡◌, ◌-◌, ◌∙◌, ap, sym, subst}
use Rattle.program_value.specs.Programs.{program_of}
use Rattle.bilv_spec.specs.Reports as reports
use Rattle.bilv_spec.specs.Answers.{start_in}
use Rattle.start_value.specs.Starts.{written_of}
use Rattle.table_run.specs.FrameEnds.{IsOfTables, as_found, frame_found_of, of_tables}
use Rattle.table_run.proofs.FrameStarts.{found_headless, is_of_tables, tables_as}
use Rattle.table_run.proofs.runs.run.Goals as goal

pub of_tables-requires : goal.of_tables-requires
of_tables-requires g c =
    let p = program_of c.args.program.now in
    let w = written_of c.args.start.now in
    let is : frame_found_of c.in_ok-ending.ending ≡ as_found (reports.found p c.args.k (start_in p g.M.Machine.form w) (c.args.limit - 1)) =
    c.in_ok-ending.ensures ∙ found_headless p c.args.k g.M.Machine.form w (c.args.limit - 1) in
    subst IsOfTables (sym is) (is_of_tables (reports.found p c.args.k (start_in p g.M.Machine.form w) (c.args.limit - 1)))

pub returns : goal.returns
returns g c =
    let p = program_of c.args.program.now in
    let w = written_of c.args.start.now in
    let is : frame_found_of c.in_ok-ending.ending ≡ as_found (reports.found p c.args.k (start_in p g.M.Machine.form w) (c.args.limit - 1)) =
    c.in_ok-ending.ensures ∙ found_headless p c.args.k g.M.Machine.form w (c.args.limit - 1) in
    c.of_tables.ensures ∙ ap of_tables is ∙ tables_as (reports.found p c.args.k (start_in p g.M.Machine.form w) (c.args.limit - 1))
