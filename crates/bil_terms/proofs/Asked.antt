-- A list of which terms may be made, in the words that its parts are made by.
use Rattle.std.proofs.Common.{◌≡◌, Bool, true, arith}
use Rattle.std.specs.Prelude.{◌&&◌}
use Rattle.machine_spec.proofs.BilSound.{both}
use Rattle.machine_spec.specs.Bil.{BilVariable, Statements, Empty, Assign, JumpTo, Raise, Special, While, If}
use Rattle.machine_spec.specs.BilCounts.{has_no_loop, has_no_special, memory_choices, chosen_stores}
use Rattle.bil_eval.specs.Checked.{IsRunnable}
use Rattle.bil_eval.proofs.Typed.{runnable}
use Rattle.walk_spec.specs.Unrolled.{UnrolledProgram}
use Rattle.walk_spec.specs.Unrolling.{is_variable_of}
use Rattle.bil_terms.specs.Leading.{CanLead}
use Rattle.bil_terms.specs.Left.{CanBeLed}

can_lead : (list : Statements) (known : BilVariable → Bool) → IsRunnable list known → has_no_loop list ≡ true → has_no_special list ≡ true →
    memory_choices list ≡ 0 → chosen_stores list ≡ 0 →
    CanLead list known
can_lead Empty known r l s m c = tt
can_lead (Assign x e rest) known r l s m c = (r.0, r.1, (omega (arith, m), omega (arith, c)), can_lead rest known r.2 l s (omega (arith, m)) (omega (arith, c)))
can_lead (JumpTo e rest) known r l s m c = (r.0, (omega (arith, m), omega (arith, c)), can_lead rest known r.1 l s (omega (arith, m)) (omega (arith, c)))
can_lead (Raise n rest) known r l s m c = can_lead rest known r l s m c
can_lead (Special t rest) known r l s m c = cc
can_lead (While e body rest) known r l s m c = cc
can_lead (If e a b rest) known r l s m c =
    let la = both (has_no_loop a && has_no_loop b) (has_no_loop rest) l in
    let lb = both (has_no_loop a) (has_no_loop b) la.0 in
    let sa = both (has_no_special a && has_no_special b) (has_no_special rest) s in
    let sb = both (has_no_special a) (has_no_special b) sa.0 in (
      r.0,
      (omega (arith, m), omega (arith, c)),
      can_lead a known r.1 lb.0 sb.0 (omega (arith, m)) (omega (arith, c)),
      can_lead b known r.2 lb.1 sb.1 (omega (arith, m)) (omega (arith, c)),
      can_lead rest known r.3 la.1 sa.1 (omega (arith, m)) (omega (arith, c)),
    )

pub leads : (u : UnrolledProgram) (list : Statements) → CanBeLed u list → CanLead list (is_variable_of u)
leads u list h = can_lead list (is_variable_of u) (runnable list (is_variable_of u) h.typed h.names) h.no_loop h.no_special h.picks h.steady
