-- Tests on sorts, values and names against their definitions.
use Rattle.std.proofs.Common.{◌≡◌, ℕ, zero, suc, ◌<◌, ◌^◌, Bool, true, false, arith, List, [], ◌∷◌, Some, None, refl, sym, ap, ◌∙◌}
use Rattle.std.specs.Prelude.{◌==◌, ◌&&◌, nat_lt, if◌then◌else◌, codes, is_some, Contains}
use Rattle.std.specs.Str.{bytes_eq}
use Rattle.std.proofs.lemmas.Bool.Decides.{nat_tests}
use Rattle.std.proofs.lemmas.Slice.Eq.{bytes_eq-Decides}
use Rattle.word_spec.specs.Texts.{decimal_word}
use Rattle.model_spec.specs.ModelText.{ModelToken, Open, Close, Word, Quoted, Text, Bad, Value, WordIs, ConstantIs, StoredIs, Definition, Gives, PassedOver, Sort, Words, Memories, word_sort, array_sort, IsSort, IsOfSort}
use Rattle.model_spec.specs.Models.{given}
use Rattle.model_text.specs.declared.symbol.Symbol.{Symbol}
use Rattle.model_text.specs.declared.symbol.Symbol.TheVariants.{Register, Flag, Choice, Memory, OtherRegister, OtherFlag, OtherMemory}
use Rattle.model_text.specs.Symbols.{sort_of, pattern_of}
use Rattle.model_text.specs.Pieces.{token_eq, left_of, is_done}
use Rattle.model_text.specs.Traces.{is_of_sort}
use Rattle.model_text.proofs.SortForms.{opens, closes, the_word, same_word}
use Rattle.model_text.proofs.DecimalNames.{decimal_said}

-- ---- sorts

same_token : (p t : ModelToken) → token_eq p t ≡ true → t ≡ p
same_token Open t h = opens t h
same_token Close t h = closes t h
same_token (Word w) t h = the_word w t h
same_token (Quoted w) t h = absurd (cc)
same_token Text t h = absurd (cc)
same_token Bad t h = absurd (cc)

-- the tokens that are looked for were all found
pub left_done : (ps ts : List ModelToken) → is_done (left_of ps ts) ≡ true → ts ≡ ps
left_done [] [] h = refl
left_done (p ∷ ps) [] h = absurd (cc)
left_done [] (t ∷ ts) h = absurd (cc)
left_done (p ∷ ps) (t ∷ ts) h = by (token_eq p t) refl h (λ g. left_done ps ts g)
  where
    by : (b : Bool) → token_eq p t ≡ b → is_done (if b then left_of ps ts else None) ≡ true → (is_done (left_of ps ts) ≡ true → ts ≡ ps) → t ∷ ts ≡ p ∷ ps
    by true e g ih = ap (λ (z : ModelToken). z ∷ ts) (same_token p t e) ∙ ap (λ (z : List ModelToken). p ∷ z) (ih g)
    by false e g ih = absurd (cc)

done_when : (ps ts : List ModelToken) → is_done (left_of ps ps) ≡ true → ts ≡ ps → is_done (left_of ps ts) ≡ true
done_when ps ts h e = ap (λ (z : List ModelToken). is_done (left_of ps z)) e ∙ h

said_sort : (w v : List ℕ) (n : ℕ) → decimal_word w ≡ Some n → n < 2 ^ 64 → decimal_word v ≡ Some n → w ≡ v
said_sort w v n h l k = decimal_said w n h l ∙ sym (decimal_said v n k l)

pub sort_done : (s : Symbol) (ts : List ModelToken) → IsSort (sort_of s) ts → is_done (left_of (pattern_of s) ts) ≡ true
sort_done (Register i) ts h =
    done_when (word_sort (codes "32")) ts refl (h.2 ∙ ap word_sort (said_sort h.0 (codes "32") 32 h.1 (omega arith) refl))
sort_done (Flag i) ts h = done_when (word_sort (codes "1")) ts refl (h.2 ∙ ap word_sort (said_sort h.0 (codes "1") 1 h.1 (omega arith) refl))
sort_done (Choice i) ts h = done_when (word_sort (codes "2")) ts refl (h.2 ∙ ap word_sort (said_sort h.0 (codes "2") 2 h.1 (omega arith) refl))
sort_done Memory ts h = done_when array_sort ts refl h
sort_done OtherRegister ts h =
    done_when (word_sort (codes "32")) ts refl (h.2 ∙ ap word_sort (said_sort h.0 (codes "32") 32 h.1 (omega arith) refl))
sort_done OtherFlag ts h = done_when (word_sort (codes "1")) ts refl (h.2 ∙ ap word_sort (said_sort h.0 (codes "1") 1 h.1 (omega arith) refl))
sort_done OtherMemory ts h = done_when array_sort ts refl h

pub done_sort : (s : Symbol) (ts : List ModelToken) → is_done (left_of (pattern_of s) ts) ≡ true → IsSort (sort_of s) ts
done_sort (Register i) ts h = (codes "32", refl, left_done (word_sort (codes "32")) ts h)
done_sort (Flag i) ts h = (codes "1", refl, left_done (word_sort (codes "1")) ts h)
done_sort (Choice i) ts h = (codes "2", refl, left_done (word_sort (codes "2")) ts h)
done_sort Memory ts h = left_done array_sort ts h
done_sort OtherRegister ts h = (codes "32", refl, left_done (word_sort (codes "32")) ts h)
done_sort OtherFlag ts h = (codes "1", refl, left_done (word_sort (codes "1")) ts h)
done_sort OtherMemory ts h = left_done array_sort ts h

-- ---- values

and_parts : (a b : Bool) → (a && b) ≡ true → (a ≡ true) × (b ≡ true)
and_parts true b h = (refl, h)
and_parts false b h = absurd (cc)

and_both : (a b : Bool) → a ≡ true → b ≡ true → (a && b) ≡ true
and_both a b h k = rw (h, k) refl

same_number : (m n : ℕ) → (m == n) ≡ true → m ≡ n
same_number m n h = grind (arith, nat_tests)

number_same : (m n : ℕ) → m ≡ n → (m == n) ≡ true
number_same m n h = grind (arith, nat_tests)

less_number : (m n : ℕ) → nat_lt m n ≡ true → m < n
less_number m n h = grind (arith, nat_tests)

number_less : (m n : ℕ) → m < n → nat_lt m n ≡ true
number_less m n h = grind (arith, nat_tests)

pub of_sort : (s : Sort) (v : Value) → is_of_sort s v ≡ true → IsOfSort s v
of_sort (Words n) (WordIs m v) h = let p = and_parts (m == n) (nat_lt v (2 ^ n)) h in (same_number m n p.0, less_number v (2 ^ n) p.1)
of_sort (Words n) (ConstantIs sort m v) h = absurd (cc)
of_sort (Words n) (StoredIs a m i k v) h = absurd (cc)
of_sort Memories (WordIs m v) h = absurd (cc)
of_sort Memories (ConstantIs sort m v) h =
    let p = and_parts (is_done (left_of array_sort sort)) ((m == 8) && nat_lt v 256) h in
    let q = and_parts (m == 8) (nat_lt v 256) p.1 in
    (left_done array_sort sort p.0, same_number m 8 q.0, less_number v 256 q.1)
of_sort Memories (StoredIs a m i k v) h =
    let p = and_parts (is_of_sort Memories a) (((m == 32) && nat_lt i (2 ^ 32)) && ((k == 8) && nat_lt v 256)) h in
    let q = and_parts ((m == 32) && nat_lt i (2 ^ 32)) ((k == 8) && nat_lt v 256) p.1 in
    let x = and_parts (m == 32) (nat_lt i (2 ^ 32)) q.0 in
    let y = and_parts (k == 8) (nat_lt v 256) q.1 in
    (of_sort Memories a p.0, same_number m 32 x.0, less_number i (2 ^ 32) x.1, same_number k 8 y.0, less_number v 256 y.1)

pub sort_of_value : (s : Sort) (v : Value) → IsOfSort s v → is_of_sort s v ≡ true
sort_of_value (Words n) (WordIs m v) h = and_both (m == n) (nat_lt v (2 ^ n)) (number_same m n h.0) (number_less v (2 ^ n) h.1)
sort_of_value (Words n) (ConstantIs sort m v) h = absurd h
sort_of_value (Words n) (StoredIs a m i k v) h = absurd h
sort_of_value Memories (WordIs m v) h = absurd h
sort_of_value Memories (ConstantIs sort m v) h =
    and_both (is_done (left_of array_sort sort)) ((m == 8) && nat_lt v 256) (done_when array_sort sort refl h.0)
    (and_both (m == 8) (nat_lt v 256) (number_same m 8 h.1) (number_less v 256 h.2))
sort_of_value Memories (StoredIs a m i k v) h =
    and_both (is_of_sort Memories a) (((m == 32) && nat_lt i (2 ^ 32)) && ((k == 8) && nat_lt v 256)) (sort_of_value Memories a h.0)
    (and_both ((m == 32) && nat_lt i (2 ^ 32)) ((k == 8) && nat_lt v 256)
    (and_both (m == 32) (nat_lt i (2 ^ 32)) (number_same m 32 h.1) (number_less i (2 ^ 32) h.2))
    (and_both (k == 8) (nat_lt v 256) (number_same k 8 h.3) (number_less v 256 h.4)))

-- ---- what is given

later : {A : Type 0} (x : A) (xs : List A) (y : A) → Contains xs y → Contains (x ∷ xs) y
later x xs y (i, l, e) = (suc i, omega (arith, l), e)

pub given_gives : (ds : List Definition) (w : List ℕ) (v : Value) → given ds w ≡ Some v → (sort : List ModelToken) × Contains ds (Gives w sort v)
given_gives [] w v h = absurd (cc)
given_gives (PassedOver ∷ ds) w v h = let r = given_gives ds w v h in (r.0, later PassedOver ds (Gives w r.0 v) r.1)
given_gives (Gives name sort u ∷ ds) w v h = by (bytes_eq name w) refl h (λ g. given_gives ds w v g)
  where
    by : (b : Bool) → bytes_eq name w ≡ b → (if b then Some u else given ds w) ≡ Some v →
        (given ds w ≡ Some v → (s : List ModelToken) × Contains ds (Gives w s v)) → (s : List ModelToken) × Contains (Gives name sort u ∷ ds) (Gives w s v)
    by true e g ih =
        let same : name ≡ w = (bytes_eq-Decides name w).0 e in
        let value : u ≡ v = cc in
        (sort, (0, omega arith, ap (λ (z : List ℕ). Gives z sort u) same ∙ ap (λ (z : Value). Gives w sort z) value))
    by false e g ih = let r = ih g in (r.0, later (Gives name sort u) ds (Gives w r.0 v) r.1)

pub gives_given : (ds : List Definition) (w : List ℕ) (sort : List ModelToken) (v : Value) → Contains ds (Gives w sort v) → is_some (given ds w) ≡ true
gives_given [] w sort v h = absurd (omega (arith, h.1))
gives_given (PassedOver ∷ ds) w sort v (zero, l, e) = absurd (cc)
gives_given (PassedOver ∷ ds) w sort v (suc i, l, e) = gives_given ds w sort v (i, omega (arith, l), e)
gives_given (Gives name s u ∷ ds) w sort v (zero, l, e) =
    let same : name ≡ w = cc in
    ap (λ (b : Bool). is_some (if b then Some u else given ds w)) (ap (λ (z : List ℕ). bytes_eq z w) same ∙ same_word w)
gives_given (Gives name s u ∷ ds) w sort v (suc i, l, e) = by (bytes_eq name w) (gives_given ds w sort v (i, omega (arith, l), e))
  where
    by : (b : Bool) → is_some (given ds w) ≡ true → is_some (if b then Some u else given ds w) ≡ true
    by true h = refl
    by false h = h
