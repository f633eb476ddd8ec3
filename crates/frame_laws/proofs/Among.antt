-- The frames of notes with contracts are frames among those contracts.
use Rattle.std.proofs.Common.{◌≡◌, ℕ, zero, suc, refl, ◌∙◌, List, [], ◌∷◌, Option, Some, None, Bool, true, false}
use Rattle.std.specs.Prelude.{◌==◌, slice_get, take, if◌then◌else◌}
use Rattle.bilv_spec.proofs.Pigeons.{at_in}
use Rattle.frame_spec.specs.Frames.{Contract, contract_at}
use Rattle.frame_spec.specs.FrameVerdict.{Whole, frame_by}
use Rattle.frame_spec.specs.Theorems.{IsContracted}
use Rattle.frame_laws.specs.RunOfFrame.{IsAmong, FramesAreAmong}

-- what is found among the first contracts is found among all
first_by : (y : Contract) (n : ℕ) (rest : List Contract) (a : ℕ) (x : Contract) (b : Bool) →
    (contract_at (take n rest) a ≡ Some x → contract_at rest a ≡ Some x) →
    (if b then Some y else contract_at (take n rest) a) ≡ Some x → (if b then Some y else contract_at rest a) ≡ Some x
first_by y n rest a x true h e = e
first_by y n rest a x false h e = h e

first_found : (n : ℕ) (l : List Contract) (a : ℕ) (x : Contract) → contract_at (take n l) a ≡ Some x → contract_at l a ≡ Some x
first_found zero l a x e = absurd (cc)
first_found (suc n) [] a x e = absurd (cc)
first_found (suc n) (y ∷ rest) a x e = first_by y n rest a x (y.at == a) (first_found n rest a x) e

module _ (w : Whole) (is : IsContracted w) (rank : ℕ) where
  by : (o : Option Contract) → slice_get w.contracts rank ≡ o → IsAmong (frame_by w rank o) w.contracts
  by None e = record {
    stepped = λ a x h. h;
    places = λ h. record { entry = is.entry; lengths = is.lengths };
    own = λ x h. absurd (cc);
  }
  by (Some y) e = record {
    stepped = λ a x h. first_found rank w.contracts a x h;
    places = λ h. record { entry = is.places rank y e; lengths = is.lengths };
    own = λ x h. record { inside = at_in w.contracts rank x (e ∙ h); ensures = refl; registers = is.registers; flags = is.flags };
  }

pub frames_are_among : FramesAreAmong
frames_are_among w is rank = by w is rank (slice_get w.contracts rank) refl
