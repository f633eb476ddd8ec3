use Rattle.bil_eval.proofs.Locals.{flag_below, register_below}
use Rattle.bil_eval.proofs.env.read_word.Goals as goal

pub bounds-machine-number : goal.bounds-machine-number
bounds-machine-number c = register_below c.args.locals.now _ c.in-Register.number (rw c.in-Register.is at c.requires)

pub bounds-machine-number-in-Flag : goal.bounds-machine-number-in-Flag
bounds-machine-number-in-Flag c = flag_below c.args.locals.now c.in-Flag.number (rw c.in-Flag.is at c.requires)
