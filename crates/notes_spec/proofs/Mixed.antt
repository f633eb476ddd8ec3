-- Lines that speak of the entry, and lines of contracts: among those before a line, and among parts of lines.
use Rattle.std.proofs.Common.{◌≡◌, refl, ap, sym, ◌∙◌, List, [], ◌∷◌, ◌++◌, Bool, true, false, ◌||◌, ◌&&◌, append_assoc}
use Rattle.std.specs.List.{list_any}
use Rattle.std.proofs.lemmas.List.Folds.{list_any-append}
use Rattle.notes_spec.specs.NotesGrammar.{Says, Nothing, is_of_contract, is_of_entry, is_mixed}

less_mixed : (a b c d : Bool) → ((a || b) && (c || d)) ≡ false → (a && c) ≡ false
less_mixed true b true d h = h
less_mixed true b false d h = refl
less_mixed false b c d h = refl

-- the first ones of lines that are not mixed
pub mixed_part : (xs ys : List Says) → is_mixed (xs ++ ys) ≡ false → is_mixed xs ≡ false
mixed_part xs ys h =
    less_mixed (list_any is_of_contract xs) (list_any is_of_contract ys) (list_any is_of_entry xs) (list_any is_of_entry ys)
    (sym (ap (λ b. b && list_any is_of_entry (xs ++ ys)) (list_any-append is_of_contract xs ys)
    ∙ ap (λ b. (list_any is_of_contract xs || list_any is_of_contract ys) && b) (list_any-append is_of_entry xs ys)) ∙ h)

pub mixed_before : (before : List Says) (x : Says) (rest : List Says) → is_mixed (before ++ x ∷ rest) ≡ false → is_mixed (before ++ x ∷ []) ≡ false
mixed_before before x rest h = mixed_part (before ++ x ∷ []) rest (ap is_mixed (append_assoc before (x ∷ []) rest) ∙ h)

-- one line alone is not mixed
pub one_unmixed : (x : Says) → is_mixed (x ∷ []) ≡ false
one_unmixed Nothing = refl
one_unmixed x = refl
