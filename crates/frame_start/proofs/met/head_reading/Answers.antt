use Rattle.std.proofs.Common.{◌≡◌, ℕ, refl, subst, arith, length}
use Rattle.frame_start.specs.Inputs.{HasInputs}
use Rattle.frame_start.proofs.MetWords.{with_memory}
use Rattle.frame_start.proofs.PartInputs.{memory_is}
use Rattle.frame_start.proofs.met.head_reading.Goals as goal

pub returns : goal.returns
returns c t =
    let count : c.len-count.result ≡ length c.args.c.now.addresses.items = omega (arith, c.len-count.ensures, c.args.c.now.addresses.ok.0) in
    let inputs = c.in_ok-inputs.inputs in
    let memory = c.in_ok-memory.memory in
    record {
      has = with_memory c.args.places.now c.args.values.now 1 (length c.args.c.now.addresses.items) inputs memory
          (subst (λ (n : ℕ). HasInputs c.args.places.now c.args.values.now 1 n inputs) count c.in_ok-inputs.ensures.inputs);
      memory = λ a. memory_is (record inputs { memory = memory }) memory.entries refl c.in_ok-inputs.ensures.fill a _ (c.in_ok-memory.ensures.below a)
          (c.in_ok-memory.ensures.value t a);
    }
