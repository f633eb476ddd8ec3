-- Places of states, one by one.
use Rattle.std.proofs.Common.{◌≡◌, ℕ, suc, ◌+◌, ◌-◌, ◌<◌, ap, sym, ◌∙◌, arith, List, [], ◌∷◌, ◌++◌, Some, length, get_or, drop, drop-cons, map, append_assoc}
use Rattle.std.specs.Prelude.{◌==◌, if◌then◌else◌}
use Rattle.word_spec.specs.RowFiles.{from_to}
use Rattle.difference_replay.specs.declared.probes.Probe.{Probe}
use Rattle.difference_replay.specs.Probes.{first_unlike, byte_probe}

-- the values at a place are looked at
pub unlike_at : (ps : List Probe) (xs ys : List ℕ) (i : ℕ) (d : Probe) → i < length ps → length xs ≡ length ps → length ys ≡ length ps →
    first_unlike (drop i ps) (drop i xs) (drop i ys)
    ≡ (if get_or xs i 0 == get_or ys i 0 then first_unlike (drop (i + 1) ps) (drop (i + 1) xs) (drop (i + 1) ys) else Some (get_or ps i d).line)
unlike_at ps xs ys i d below p q =
    let more : suc i ≡ i + 1 = omega arith in
    ap (λ l. first_unlike l (drop i xs) (drop i ys)) (drop-cons ps i d below)
    ∙ ap (λ l. first_unlike (get_or ps i d ∷ drop (suc i) ps) l (drop i ys)) (drop-cons xs i 0 (omega arith))
    ∙ ap (λ l. first_unlike (get_or ps i d ∷ drop (suc i) ps) (get_or xs i 0 ∷ drop (suc i) xs) l) (drop-cons ys i 0 (omega arith))
    ∙ ap
    (λ k. if get_or xs i 0 == get_or ys i 0 then first_unlike (drop k ps) (drop k xs) (drop k ys) else Some (get_or ps i d).line)
    more

-- one more of the values of a list
pub map_more : {A B : Type 0} (f : A → B) (xs : List A) (i : ℕ) (x : A) (out new all : List B) (v : B) → i < length xs → x ≡ get_or xs i x → v ≡ f x →
    new ≡ out ++ v ∷ [] → out ++ map f (drop i xs) ≡ all → new ++ map f (drop (i + 1) xs) ≡ all
map_more f xs i x out new all v below is e n h =
    let more : suc i ≡ i + 1 = omega arith in
    ap (λ l. l ++ map f (drop (i + 1) xs)) n
    ∙ append_assoc out (v ∷ []) (map f (drop (i + 1) xs))
    ∙ ap (λ w. out ++ w ∷ map f (drop (i + 1) xs)) (e ∙ ap f is)
    ∙ ap (λ k. out ++ f (get_or xs i x) ∷ map f (drop k xs)) (sym more)
    ∙ ap (λ l. out ++ map f l) (sym (drop-cons xs i x below))
    ∙ h

-- the bytes from an address on
from_more : (a n : ℕ) → a < n → from_to a (n - a) ≡ a ∷ from_to (a + 1) (n - (a + 1))
from_more a n below = let one : n - a ≡ suc (n - (a + 1)) = omega arith in ap (from_to a) one

pub bytes_more : (line a n : ℕ) (out new all : List Probe) → a < n → new ≡ out ++ byte_probe line a ∷ [] →
    out ++ map (byte_probe line) (from_to a (n - a)) ≡ all → new ++ map (byte_probe line) (from_to (a + 1) (n - (a + 1))) ≡ all
bytes_more line a n out new all below is h =
    ap (λ l. l ++ map (byte_probe line) (from_to (a + 1) (n - (a + 1)))) is
    ∙ append_assoc out (byte_probe line a ∷ []) (map (byte_probe line) (from_to (a + 1) (n - (a + 1))))
    ∙ ap (λ l. out ++ map (byte_probe line) l) (sym (from_more a n below))
    ∙ h
