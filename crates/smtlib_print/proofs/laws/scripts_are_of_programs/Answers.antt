use Rattle.smtlib_print.proofs.Programs.{script_of_program}
use Rattle.smtlib_print.proofs.laws.scripts_are_of_programs.Goals as goal

pub returns : goal.returns
returns c p lawful k u un layout question text told = script_of_program p lawful k u un layout question text told
