use Rattle.std.proofs.Common.{subst, ◌<◌, ◌*◌}
use Rattle.elf32_reader.proofs.Least.{seen_one, seen_other}
use Rattle.elf32_reader.proofs.symbols.with_symbol.Goals as goal

pub returns-in-Some : goal.returns-in-Some
returns-in-Some c =
    seen_one c.args.narrow c.args.file.now c.args.name.now c.args.i c.args.k c.in-Some.a c.args.found c.with_address.result c.requires.table
    (subst (λ n. 16 * c.args.k < n) c.requires.header.size c.requires.within) c.in-Some.ensures c.requires.least c.with_address.ensures

pub returns-in-None : goal.returns-in-None
returns-in-None c = seen_other c.args.narrow c.args.file.now c.args.name.now c.args.i c.args.k c.args.found c.in-None.ensures c.requires.least
