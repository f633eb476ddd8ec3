use Rattle.std.proofs.Common.{◌∙◌, ◌≡◌, ℕ, ap, Bool}
use Rattle.std.specs.Prelude.{◌||◌}
use Rattle.machine_spec.specs.Arm.{condition_reads, condition_flags, condition_code}
use Rattle.arm_decode.specs.Parts.{condition_number}
use Rattle.arm_step.proofs.FlagNumbers.{read_flag}
use Rattle.arm_step.proofs.used_flags.flags_by.Goals as goal

pub returns : goal.returns
returns c = λ w h.
    let r = c.with_carry.result in
    let e = c.with_carry.ensures in
    let named : ℕ → Bool = λ f. condition_reads condition_flags (condition_code w) f in
    let x = c.condition_flags.ensures in
    let same : (f : ℕ) → condition_reads condition_flags (condition_number c.args.condition) f ≡ named f = λ f. ap (λ k. condition_reads condition_flags k f) h in
    record {
      small = (c.number.ensures.small, c.number-2.ensures.small, c.number-3.ensures.small);
      reads = λ f l. c.number.ensures.bits f l
          ∙ read_flag r.n r.z r.c r.v c.args.reads_carry named f l (e.v ∙ x.0 ∙ same 0) (e.c ∙ ap (λ b. b || c.args.reads_carry) (x.1 ∙ same 1))
          (e.z ∙ x.2 ∙ same 2) (e.n ∙ x.3 ∙ same 3);
      assigns = λ f l. c.number-2.ensures.bits f l ∙ c.flags_in.ensures f l;
      surely = λ f l. c.number-3.ensures.bits f l ∙ c.flags_in-2.ensures f l ∙ c.where_always.ensures w f h;
    }
