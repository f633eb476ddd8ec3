-- A list without loops neither spends turns nor wants any.
use Rattle.std.proofs.Common.{◌≡◌, ℕ, zero, suc, Bool, true, false, Option, Some, None, refl, ap, ◌∙◌}
use Rattle.std.specs.Prelude.{if◌then◌else◌, ◌==◌, ◌&&◌}
use Rattle.machine_spec.specs.Bil.{Empty, Assign, JumpTo, Raise, Special, While, If}
use Rattle.machine_spec.specs.BilMeaning.{Value, Word, Bytes, Stuck, Env, Position, Ending, Ends, RaisesException, OutOfTurns, Wrong, evaluate, execute, assign, assigned, jumped, branch_on, then_do}
use Rattle.machine_spec.specs.BilCounts.{has_no_loop}
use Rattle.machine_spec.specs.BilLaws.{with_turns, IsWithinTurns, NoLoopNoTurns}

-- two ends that differ in their turns alone, neither for want of turns
abbrev Same : ℕ → Ending → Ending → Type 0
Same t a b = (a ≡ with_turns t b) × IsWithinTurns b

both : (a b : Bool) → (a && b) ≡ true → (a ≡ true) × (b ≡ true)
both true b h = (refl, h)
both false b h = cc

goes_on : (t : ℕ) (a b : Ending) (f : Position → Ending) → Same t a b →
    ((p : Position) → Same t (f (record p { turns = t })) (f p)) → Same t (then_do a f) (then_do b f)
goes_on t a (Ends p) f (e, h) g = let r = g p in (ap (λ z. then_do z f) e ∙ r.0, r.1)
goes_on t a (RaisesException n p) f (e, h) g = (ap (λ z. then_do z f) e, tt)
goes_on t a (OutOfTurns p) f (e, h) g = absurd h
goes_on t a Wrong f (e, h) g = (ap (λ z. then_do z f) e, tt)

assigns : (t : ℕ) (o : Option Env) (p : Position) → Same t (assigned o (record p { turns = t })) (assigned o p)
assigns t None p = (refl, tt)
assigns t (Some e) p = (refl, tt)

jump_if : (t n v : ℕ) (b : Bool) (p : Position) →
    Same t (if b then Ends (record p { turns = t; jump = Some v }) else Wrong) (if b then Ends (record p { jump = Some v }) else Wrong)
jump_if t n v true p = (refl, tt)
jump_if t n v false p = (refl, tt)

jumps : (t : ℕ) (v : Value) (p : Position) → Same t (jumped v (record p { turns = t })) (jumped v p)
jumps t (Word n v) p = jump_if t n v (n == 32) p
jumps t (Bytes m) p = (refl, tt)
jumps t Stuck p = (refl, tt)

branches : (t : ℕ) (v : Value) (a b c d : Ending) → Same t a b → Same t c d → Same t (branch_on v a c) (branch_on v b d)
branches t (Word (suc zero) zero) a b c d p q = q
branches t (Word (suc zero) (suc v)) a b c d p q = p
branches t v a b c d p q = (refl, tt)

pub no_loop_no_turns : NoLoopNoTurns
no_loop_no_turns Empty c t p h = (refl, tt)
no_loop_no_turns (Assign x e rest) c t p h =
    goes_on t _ _ (execute rest c) (assigns t (assign x (evaluate e c p.env) p.env) p) (λ q. no_loop_no_turns rest c t q h)
no_loop_no_turns (JumpTo e rest) c t p h = goes_on t _ _ (execute rest c) (jumps t (evaluate e c p.env) p) (λ q. no_loop_no_turns rest c t q h)
no_loop_no_turns (Raise n rest) c t p h = (refl, tt)
no_loop_no_turns (Special text rest) c t p h = no_loop_no_turns rest c t p h
no_loop_no_turns (While e body rest) c t p h = cc
no_loop_no_turns (If e a b rest) c t p h =
    let x = both (has_no_loop a && has_no_loop b) (has_no_loop rest) h in
    let y = both (has_no_loop a) (has_no_loop b) x.0 in
    goes_on t _ _ (execute rest c)
    (branches t (evaluate e c p.env) _ _ _ _ (no_loop_no_turns a c t p y.0) (no_loop_no_turns b c t p y.1))
    (λ q. no_loop_no_turns rest c t q x.1)
