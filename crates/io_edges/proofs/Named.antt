-- Reads of the file of a name.
use Rattle.std.proofs.Common.{◌≡◌, ◌⊎◌, ℕ, List, Option, Some, None, Ok, Err, inl, inr, sym, subst}
use Rattle.std.specs.Prelude.{Result, IfOk}
use Rattle.io_edges.specs.declared.Failed.{Failed}
use Rattle.io_edges.specs.declared.placed.PlacedFile.{PlacedFile}
use Rattle.io_edges.specs.declared.system.NamedFile.{NamedFile}
use Rattle.io_edges.specs.Takes.{IsLast, name_of, place_of, Takes, TakesNamed}

-- the file that was read last, by what it is
last_by : {F : Type 0} {name : List ℕ} (x : Option (NamedFile F)) (f : NamedFile F) (p : PlacedFile F) → x ≡ Some f → name_of f ≡ name → f.placed ≡ p →
    IsLast x name p
last_by {F} {name} x f p is named same = subst (λ (y : Option (NamedFile F)). IsLast y name p) (sym is) (named, same)

module _ {F : Type 0} (remaining : F → Option (List ℕ)) (position : F → Option ℕ) (old new : Option (NamedFile F)) (name : List ℕ) (at : ℕ) (buffer : List ℕ)
    (before after : PlacedFile F) where
  named_by : (r : Result ℕ Failed) →
      ((IsLast old name before × IsLast new name after) ⊎ ((place_of before ≡ Some 0) × (IsLast new name after ⊎ (new ≡ None)))) →
      IfOk r (Takes remaining position before at buffer after) → IfOk r (TakesNamed remaining position old name at buffer new)
  named_by (Ok n) is takes = record { before = before; after = after; is = is; takes = takes }
  named_by (Err e) is takes = tt

  -- the file that was read last
  pub takes_last : (r : Result ℕ Failed) (last kept : NamedFile F) → old ≡ Some last → name_of last ≡ name → last.placed ≡ before → new ≡ Some kept →
      name_of kept ≡ name → kept.placed ≡ after → IfOk r (Takes remaining position before at buffer after) →
      IfOk r (TakesNamed remaining position old name at buffer new)
  takes_last r last kept is named same is_kept named_kept same_kept takes =
      named_by r (inl (last_by old last before is named same, last_by new kept after is_kept named_kept same_kept)) takes

  -- a file that was opened
  pub takes_opened : (r : Result ℕ Failed) → place_of before ≡ Some 0 → (IsLast new name after ⊎ (new ≡ None)) →
      IfOk r (Takes remaining position before at buffer after) → IfOk r (TakesNamed remaining position old name at buffer new)
  takes_opened r is kept takes = named_by r (inr (is, kept)) takes
