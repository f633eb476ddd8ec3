use Rattle.std.proofs.Common.{refl}
use Rattle.io_edges.proofs.Named.{takes_last, takes_opened}
use Rattle.io_edges.proofs.system.FileShelf.read_named.Goals as goal

pub returns-in-Some-clause-takes : goal.returns-in-Some-clause-takes
returns-in-Some-clause-takes g c =
    takes_last g.R.File.Read.remaining g.R.File.Seek.stream_position _ _ c.args.name.now c.args.at c.read_at-read.new.into c.in-Some.last.placed
    c.read_at-read.new.self c.read_at-read.result c.in-Some.last (record c.in-Some.last { placed = c.read_at-read.new.self }) c.in-Some.ensures.last
    c.in-Some.ensures.named refl refl c.in-Some.ensures.named refl c.read_at-read.ensures.takes

pub returns-in_ok-placed-in-None-clause-takes : goal.returns-in_ok-placed-in-None-clause-takes
returns-in_ok-placed-in-None-clause-takes g c =
    takes_opened g.R.File.Read.remaining g.R.File.Seek.stream_position _ _ c.args.name.now c.args.at c.read_at-read-in-None.new.into
    c.in_ok-placed-in-None.placed c.read_at-read-in-None.new.self c.read_at-read-in-None.result c.in_ok-placed-in-None.ensures.first
    c.keep.ensures.kept c.read_at-read-in-None.ensures.takes
