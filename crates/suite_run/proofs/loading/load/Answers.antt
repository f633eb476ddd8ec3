use Rattle.std.proofs.Common.{subst}
use Rattle.suite_run.specs.LoadViews.{loaded_of}
use Rattle.suite_run.specs.Loads.{IsParsed, was_read}
use Rattle.suite_run.proofs.loading.load.Goals as goal

pub returns-in_ok-loaded-in-Ok-clause-loaded : goal.returns-in_ok-loaded-in-Ok-clause-loaded
returns-in_ok-loaded-in-Ok-clause-loaded g c =
    was_read c.in-Ok.bytes.items c.in-Ok.ensures.whole
    (subst (λ b. IsParsed b (loaded_of c.in_ok-loaded-in-Ok.loaded)) c.deref.ensures.value c.in_ok-loaded-in-Ok.ensures)
