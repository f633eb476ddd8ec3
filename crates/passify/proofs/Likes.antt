-- What is held but for memory that no machine sees, one place after another.
use Rattle.std.proofs.Common.{ℕ, refl, ap, ◌∙◌}
use Rattle.frame_spec.specs.FrameQuestions.{Reading}
use Rattle.frame_spec.specs.FrameWalk.{UnrolledProgram, Held, sweep_on}
use Rattle.low_memory.proofs.Walks.{sweeps_see_low}
use Rattle.passify.specs.Likes.{IsLike}

pub like_itself : (u : UnrolledProgram) (h : Held) → IsLike u h h
like_itself u h = record { low = refl; exact = λ n. refl }

pub like_on : (u : UnrolledProgram) (f g h : Held) → IsLike u f g → IsLike u g h → IsLike u f h
like_on u f g h p q = record { low = p.low ∙ q.low; exact = λ n. p.exact n ∙ q.exact n }

-- a place more
pub like_next : (u : UnrolledProgram) (r : Reading) (t : ℕ) (g h : Held) → IsLike u g h → IsLike u (sweep_on u r t g) (sweep_on u r t h)
like_next u r t g h p = record { low = sweeps_see_low u r t g h p.low; exact = λ n. ap (λ z. sweep_on u r t z) (p.exact n) }
