use Rattle.smtlib_print.proofs.Framed.{script_of_frame}
use Rattle.smtlib_print.proofs.laws.scripts_are_of_frames.Goals as goal

pub returns : goal.returns
returns c f lawful low contracts among k u un layout question text told = script_of_frame f lawful low contracts among k u un layout question text told
