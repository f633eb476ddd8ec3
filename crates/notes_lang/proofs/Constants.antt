-- Constants one by one, and reserved words.
use Rattle.std.proofs.Common.{◌≡◌, ℕ, zero, suc, ◌<◌, ◌≤◌, ◌+◌, refl, ap, sym, ◌∙◌, arith, List, [], ◌∷◌, ◌++◌, Some, None, Bool, true, false, ◌&&◌, ◌||◌, if◌then◌else◌, map, drop, length, get_or, bytes_eq, add-one, drop-cons, codes}
use Rattle.std.specs.Borrow.{Bor}
use Rattle.std.specs.List.{list_any}
use Rattle.notes_spec.specs.Scopes.{const_of, reserved, reserved_first}
use Rattle.notes_lang.specs.declared.scopes.Constant.{Constant}
use Rattle.notes_lang.specs.Scoping.{constant_of, text_of}

-- the first of the constants that are left
pub const_at : (cs : List Constant) (i : ℕ) (d : Constant) (w : List ℕ) → i < length cs →
    const_of (map constant_of (drop i cs)) w ≡ (if bytes_eq w (get_or cs i d).word.now then Some (get_or cs i d).number
    else const_of (map constant_of (drop (i + 1) cs)) w)
const_at cs i d w below = rw (add-one, drop-cons cs i d)

-- none are left
pub no_const : (cs : List Constant) (i : ℕ) (w : List ℕ) → length cs ≤ i → const_of (map constant_of (drop i cs)) w ≡ None
no_const [] zero w le = refl
no_const [] (suc i) w le = refl
no_const (c ∷ cs) zero w le = absurd (omega (arith, le))
no_const (c ∷ cs) (suc i) w le = no_const cs i w (omega (arith, le))

-- the words that are reserved in both versions, and `all`
pub reserved_is : (b : Bool) (w : List ℕ) → list_any (bytes_eq w) (reserved b) ≡ (list_any (bytes_eq w) reserved_first || (b && bytes_eq w (codes "all")))
reserved_is false w = sym (or_false (list_any (bytes_eq w) reserved_first)) where
  or_false : (c : Bool) → (c || false) ≡ c
  or_false true = refl
  or_false false = refl
reserved_is true w = all_last (bytes_eq w) reserved_first (codes "all") where
  last_or : (a b c : Bool) → (a || (b || c)) ≡ ((a || b) || c)
  last_or true b c = refl
  last_or false b c = refl

  or_false : (c : Bool) → (c || false) ≡ c
  or_false true = refl
  or_false false = refl

  all_last : (p : List ℕ → Bool) (xs : List (List ℕ)) (y : List ℕ) → list_any p (xs ++ y ∷ []) ≡ (list_any p xs || p y)
  all_last p [] y = or_false (p y)
  all_last p (x ∷ xs) y = ap (λ b. p x || b) (all_last p xs y) ∙ last_or (p x) (list_any p xs) (p y)

-- a test of the words behind references
pub any_text : (w : List ℕ) (ws : List (Bor (List ℕ))) → list_any (bytes_eq w) (map text_of ws) ≡ list_any (λ v. bytes_eq w v.now) ws
any_text w [] = refl
any_text w (v ∷ ws) = ap (λ b. bytes_eq w v.now || b) (any_text w ws)
