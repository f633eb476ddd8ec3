-- A step by a look before it and the state that it leaves.
use Rattle.std.proofs.Common.{◌≡◌, ℕ, List, length, map, Option, ap, ◌∙◌}
use Rattle.word_spec.specs.RowFiles.{from_to}
use Rattle.word_spec.specs.State.{State}
use Rattle.machine_spec.specs.StateText.{Layout}
use Rattle.trace_spec.specs.Seen as trace
use Rattle.seen_step.specs.Views.{IsGlance, IsLooked, IsValues, changed}
use Rattle.seen_step.specs.declared.looks.Glance.{Glance}
use Rattle.seen_step.specs.declared.values.Values.{Values}
use Rattle.seen_step.proofs.Lists.{changed_by, length_from, length_mapped}

-- a look holds as many values as there are places
pub looked : (form : Layout) (places : List ℕ) (s : State) (g : Glance) → places ≡ g.places.items → IsValues form places s g.values → IsLooked form g
looked form places s g same is = record {
  regs = ap length is.regs ∙ length_from s.regs form.first (length form.registers);
  flags = ap length is.flags ∙ length_from s.flags 0 (length form.flags);
  bytes = ap length is.bytes ∙ length_mapped s.mem places ∙ ap length same;
}

-- a step by its parts
abbrev step : ℕ → trace.StepKind → (at to depth later : ℕ) → Option (ℕ × ℕ) → (regs flags bytes : List trace.Change) → trace.SeenStep
step n k at to depth later stored regs flags bytes = record {
  number = n;
  kind = k;
  at = at;
  to = to;
  depth = depth;
  later = later;
  stored = stored;
  regs = regs;
  flags = flags;
  bytes = bytes;
}

module _ (form : Layout) (n : ℕ) (k : trace.StepKind) (s : State) (depth : ℕ) (stored : Option (ℕ × ℕ)) (places : List ℕ) (g : Glance)
    (is : IsGlance form n k s depth stored places g) (new : State) (v : Values) (later_is : IsValues form g.places.items new v) (to later : ℕ)
    (there : to ≡ new.pc) (regs flags bytes : List trace.Change) where
  abbrev numbers : List ℕ
  numbers = from_to form.first (length form.registers)

  abbrev bits : List ℕ
  bits = from_to 0 (length form.flags)

  pub step_is : (kind : trace.StepKind) → kind ≡ k → regs ≡ changed numbers g.values.regs.items v.regs.items →
      flags ≡ changed bits g.values.flags.items v.flags.items → bytes ≡ changed g.places.items g.values.bytes.items v.bytes.items →
      step g.number kind g.at to g.depth later g.stored regs flags bytes ≡ trace.seen_between form k n stored places s depth new later
  step_is kind kind_is regs_are flags_are bytes_are =
      ap (λ z. step z kind g.at to g.depth later g.stored regs flags bytes) is.number_is
      ∙ ap (λ z. step n z g.at to g.depth later g.stored regs flags bytes) kind_is
      ∙ ap (λ z. step n k z to g.depth later g.stored regs flags bytes) is.at_is
      ∙ ap (λ z. step n k s.pc z g.depth later g.stored regs flags bytes) there
      ∙ ap (λ z. step n k s.pc new.pc z later g.stored regs flags bytes) is.depth_is
      ∙ ap (λ z. step n k s.pc new.pc depth later z regs flags bytes) is.stored_is
      ∙ ap (λ z. step n k s.pc new.pc depth later stored z flags bytes)
      (regs_are ∙ changed_by s.regs new.regs numbers g.values.regs.items v.regs.items is.values_are.regs later_is.regs)
      ∙ ap (λ z. step n k s.pc new.pc depth later stored (trace.changes s.regs new.regs numbers) z bytes)
      (flags_are ∙ changed_by s.flags new.flags bits g.values.flags.items v.flags.items is.values_are.flags later_is.flags)
      ∙ ap (step n k s.pc new.pc depth later stored (trace.changes s.regs new.regs numbers) (trace.changes s.flags new.flags bits))
      (bytes_are ∙ ap (λ l. changed l g.values.bytes.items v.bytes.items) is.places_are
      ∙ changed_by s.mem new.mem places g.values.bytes.items v.bytes.items is.values_are.bytes
      (later_is.bytes ∙ ap (map new.mem) is.places_are))
