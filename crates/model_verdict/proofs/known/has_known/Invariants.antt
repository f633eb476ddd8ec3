use Rattle.std.proofs.Common.{ℕ, ◌<◌, get_or}
use Rattle.known_bytes.specs.declared.listing.Known.{Known}
use Rattle.model_verdict.specs.Readings.{HasRun}
use Rattle.model_verdict.proofs.known.has_known.Given as goal

abbrev pub invariant-loop-i : goal.invariant-loop-i
invariant-loop-i l = (n : ℕ) (d : Known) → n < l.i → HasRun l.fill l.bytes (get_or l.known n d)
