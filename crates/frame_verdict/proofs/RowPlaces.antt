-- Where the rows of a program stand.
use Rattle.std.proofs.Common.{refl, arith, ℕ, ◌<◌, ◌^◌, []}
use Rattle.machine_spec.specs.Machine.{IsAtPlace}
use Rattle.machine_spec.specs.MachineLaws.{IsLawfulMachine, IsFitted}
use Rattle.machine_spec.specs.StateText.{Layout}
use Rattle.bilv_spec.specs.Run.{Program}
use Rattle.bilv_spec.specs.Points.{file_word}
use Rattle.bilv_spec.specs.PointLaws.{ReadsMemory}
use Rattle.frame_spec.specs.FrameLaws.{HasPlaces}
use Rattle.frame_spec.proofs.Machines.{machine_is_contracted}

-- rows of a lawful machine stand at places
pub has_places : (p : Program) (form : Layout) → IsLawfulMachine p.machine → IsFitted p.machine form → ReadsMemory p →
    ((a : ℕ) → file_word p a < 2 ^ 32) → IsAtPlace p.machine.narrow p.entry → HasPlaces p
has_places p form lawful fitted memory small entry =
    let q : Program = record p { notes = record p.notes { asserts = [] } } in
    let is = machine_is_contracted (record { program = q; invariants = []; contracts = [] }) lawful form fitted fitted.low_registers small
    (record { word = memory.word; little = memory.little }) refl (λ a c. absurd (let l = c.1 in omega arith)) entry
    (λ rank x e. absurd (cc)) in
    record { entry = entry; lengths = is.lengths }
