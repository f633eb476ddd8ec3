-- Kept bytes that are stored one by one.
use Rattle.std.proofs.Common.{◌≡◌, inl, inr, ap, sym, ◌∙◌, ℕ, ◌+◌, ◌-◌, ◌<◌, List, length, drop, map, get_or, None}
use Rattle.std.specs.Prelude.{if◌then◌else◌, min, All}
use Rattle.word_spec.specs.Words.{word}
use Rattle.machine_spec.specs.StateText.{known_or}
use Rattle.bilv_spec.proofs.Pigeons.{truth}
use Rattle.walk_spec.specs.Unrolled.{AddressRun, byte_of_runs, is_in}
use Rattle.known_bytes.specs.declared.listing.Known.{Known}
use Rattle.known_bytes.specs.Runs.{AreRuns, run_of}
use Rattle.bit_blast.specs.Stored.{filled}
use Rattle.bit_blast.proofs.StoredBytes.{run_front_at}
use Rattle.frame_start.specs.Kept.{filled_kept}

-- one more run in front
pub kept_front : (kept : List AddressRun) (runs : List Known) (bytes : List (ℕ × ℕ)) (i m k : ℕ) (d : Known) (x old new : ℕ) → AreRuns runs →
    All (λ (b : ℕ × ℕ). (if is_in kept b.0 then byte_of_runs (map run_of runs) b.0 else None) ≡ None) bytes → i < length runs → m ≡ i + 1 → k ≡ i →
    old ≡ known_or (if is_in kept (word 32 x) then byte_of_runs (map run_of (drop m runs)) (word 32 x) else None) bytes x →
    new ≡ filled_kept kept (get_or runs i d) (min (length (get_or runs i d).bytes.now) ((get_or runs i d).last - (get_or runs i d).first + 1)) (word 32 x) old →
    new ≡ known_or (if is_in kept (word 32 x) then byte_of_runs (map run_of (drop k runs)) (word 32 x) else None) bytes x
kept_front kept runs bytes i m k d x old new are free l p q e f = elim (truth (is_in kept (word 32 x))) [
  | inl t ↦ run_front_at runs bytes i m k d x old new are
      (λ j c n s. (let g = free j c n in
      sym (ap (λ z. if z then byte_of_runs (map run_of runs) (get_or bytes j c).0 else None) (ap (is_in kept) s ∙ t)) ∙ g))
      l p q (e ∙ ap (λ z. known_or (if z then byte_of_runs (map run_of (drop m runs)) (word 32 x) else None) bytes x) t)
      (f ∙ ap (λ z. if z then filled (get_or runs i d)
      (min (length (get_or runs i d).bytes.now) ((get_or runs i d).last - (get_or runs i d).first + 1)) (word 32 x) old else old) t)
      ∙ sym (ap (λ z. known_or (if z then byte_of_runs (map run_of (drop k runs)) (word 32 x) else None) bytes x) t)
  | inr g ↦ f ∙ ap (λ z. if z then filled (get_or runs i d)
      (min (length (get_or runs i d).bytes.now) ((get_or runs i d).last - (get_or runs i d).first + 1)) (word 32 x) old else old) g
      ∙ e ∙ ap (λ z. known_or (if z then byte_of_runs (map run_of (drop m runs)) (word 32 x) else None) bytes x) g
      ∙ sym (ap (λ z. known_or (if z then byte_of_runs (map run_of (drop k runs)) (word 32 x) else None) bytes x) g)
]
