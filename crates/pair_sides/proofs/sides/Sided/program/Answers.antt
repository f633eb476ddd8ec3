use Rattle.std.proofs.Common.{◌≡◌, ◌∙◌, ap, subst, sym}
use Rattle.bilv_spec.specs.Files.{order_of, program_of}
use Rattle.machine_spec.specs.Machine.{Machine}
use Rattle.notes_value.specs.NoteViews.{notes_of}
use Rattle.notes_value.specs.Reads.{AreOver}
use Rattle.pair_sides.proofs.sides.Sided.program.Goals as goal

pub new-requires-clause-order : goal.new-requires-clause-order
new-requires-clause-order g c = subst (λ (m : Machine). order_of c.args.self.now.image.now ≡ m.endian) c.requires.machine c.requires.sided.order

pub new-requires-clause-over : goal.new-requires-clause-over
new-requires-clause-over g c =
    subst (λ (m : Machine). AreOver m.has_register m.has_flag (notes_of c.args.self.now.notes.now)) c.requires.machine c.requires.sided.over

pub returns : goal.returns
returns g c =
    c.new.ensures.program
    ∙ ap (λ (m : Machine). program_of m c.args.self.now.image.now (notes_of c.args.self.now.notes.now) c.args.self.now.entry) (sym c.requires.machine)
