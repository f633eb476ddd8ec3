-- A question that is true of a reading is true over each set of known bytes.
use Rattle.std.proofs.Common.{◌≡◌, ◌⊎◌, inl, inr, ℕ, ◌^◌, ◌<◌, refl, true, false, Bool, Some}
use Rattle.std.specs.Prelude.{◌||◌}
use Rattle.word_spec.specs.State.{State}
use Rattle.bilv_spec.specs.Elf.{Cell, kept}
use Rattle.bilv_spec.specs.Run.{Program}
use Rattle.bilv_spec.specs.Verdict.{IsEntryState, fixed}
use Rattle.bilv_spec.specs.Points.{is_known_at}
use Rattle.bilv_spec.specs.Questions.{Reading, IsTrue, IsTrueOver, IsEntryStateOver}
use Rattle.call_spec.specs.Calls.{Question}

either : (x y : Bool) → (x || y) ≡ true → (x ≡ true) ⊎ (y ≡ true)
either true y e = inl refl
either false y e = inr e

pub known : (p : Program) (s : State) → IsEntryState p s → (a : ℕ) (c : Cell) → a < 2 ^ 32 → p.loaded a ≡ Some c → is_known_at p a ≡ true → s.mem a ≡ c.byte
known p s is a c low e k =
    let k' : (kept c || fixed p.notes.fixed a) ≡ true = rw e at k in
    elim (either (kept c) (fixed p.notes.fixed a) k') [ inl t ↦ is.kept_bytes a c low e t | inr t ↦ is.fixed_bytes a c low e t ]

pub entry_over : (p : Program) (asked : ℕ → Bool) (s : State) → ((a : ℕ) → asked a ≡ true → is_known_at p a ≡ true) → IsEntryState p s →
    IsEntryStateOver p asked s
entry_over p asked s asks is = record {
  state = is.state;
  pc = is.pc;
  link = is.link;
  bytes = λ a c low e t. known p s is a c low e (asks a t);
  requires = is.requires;
}

pub true_over : (p : Program) (asked : ℕ → Bool) (k : ℕ) (r : Reading) (question : Question) → ((a : ℕ) → asked a ≡ true → is_known_at p a ≡ true) →
    IsTrue p k r question → IsTrueOver p asked k r question
true_over p asked k r question asks t = record { choice = t.choice; entry = entry_over p asked r.state asks t.entry; ends = t.ends }
