-- Texts that are appended, as those of the commands.
use Rattle.std.proofs.Common.{◌≡◌, ◌≢◌, ℕ, zero, suc, ◌+◌, ◌-◌, ◌*◌, ◌/◌, ◌%◌, ◌^◌, ◌<◌, ◌≤◌, refl, ap, sym, ◌∙◌, arith, List, [], ◌∷◌, ◌++◌, length, append_assoc, inl, inr, Bool, true, false, Result, Ok, Err, OnOk}
use Rattle.std.specs.Prelude.{codes, slice_index_or, decimal, if◌then◌else◌}
use Rattle.std.specs.Result.{is_ok}
use Rattle.std.proofs.lemmas.Bool.{cases_eq}
use Rattle.std.proofs.lemmas.Fmt.{decimal_digit}
use Rattle.machine_spec.specs.StateText.{register_names}
use Rattle.start_value.specs.declared.layout.Layout.{Layout}
use Rattle.start_value.specs.declared.layout.Layout.TheVariants.{Rv32, Arm}
use Rattle.start_value.specs.Starts.{layout_of}
use Rattle.state_text.proofs.Appends.{two, three, five, seven}
use Rattle.word_spec.specs.Memory.{Endian, Little, Big, endian, place}
use Rattle.bilv_spec.specs.SmtLib.{Sexp, Atom}
use Rattle.word_spec.specs.Texts.{hex_digit, hex_digits, number_text}
use Rattle.smtlib_print.specs.Commands.{binary_digits, term, address, behind, selected, loading, storing, taken, taking, extract, constant_text, operation, apply, word_sort, numeral, sort_of, definition, declaration, array_sort}
use Rattle.machine_spec.specs.Bil.{SignedDivide}
use Rattle.smtlib_print.specs.Written.{three as three_of, written}

-- the name of a register by its number
pub register_name : (letter first count r : ℕ) → first ≤ r → r < first + count →
    slice_index_or (register_names letter first count) (r - first) [] ≡ letter ∷ number_text r
register_name letter first zero r h k = absurd (omega (arith, h, k))
register_name letter first (suc count) r h k = elim (cases_eq r first) [
  | inl e ↦ (let z : r - first ≡ 0 = omega (arith, e) in rw z (ap (λ n. letter ∷ number_text n) (sym e)))
  | inr d ↦ (
      let l : first + 1 ≤ r = omega (arith, h, d) in
      let z : r - first ≡ suc (r - (first + 1)) = omega (arith, l) in
      rw z (register_name letter (first + 1) count r l (omega (arith, k))))
]

-- what holds after a success
pub on_ok : {A E : Type 0} (r : Result A E) (P Q : Type 0) → (P → Q) → OnOk r P → OnOk r Q
on_ok (Ok v) P Q f h = f h
on_ok (Err v) P Q f h = h

one_more : (out front mid new last all : List ℕ) → mid ≡ out ++ front → new ≡ mid ++ last → front ++ last ≡ all → new ≡ out ++ all
one_more out front mid new last all e f g = f ∙ ap (λ t. t ++ last) e ∙ append_assoc out front last ∙ ap (λ t. out ++ t) g

-- one hexadecimal digit more
pub hex_pushed : (out mid new digit : List ℕ) (count v : ℕ) → count ≢ 0 → mid ≡ out ++ hex_digits (count - 1) (v / 16) → digit ≡ hex_digit (v % 16) ∷ [] →
    new ≡ mid ++ digit →
    new ≡ out ++ hex_digits count v
hex_pushed out mid new digit zero v some e d f = absurd (some refl)
hex_pushed out mid new digit (suc n) v some e d f =
    let z : suc n - 1 ≡ n = omega arith in
    one_more out (hex_digits (suc n - 1) (v / 16)) mid new digit (hex_digits (suc n) v) e f (rw (z, d) refl)

-- one binary digit more
pub binary_pushed : (out mid new : List ℕ) (count v : ℕ) → count ≢ 0 → mid ≡ out ++ binary_digits (count - 1) (v / 2) → new ≡ mid ++ decimal (v % 2) →
    new ≡ out ++ binary_digits count v
binary_pushed out mid new zero v some e f = absurd (some refl)
binary_pushed out mid new (suc n) v some e f =
    let z : suc n - 1 ≡ n = omega arith in
    one_more out (binary_digits (suc n - 1) (v / 2)) mid new (decimal (v % 2)) (binary_digits (suc n) v) e f
    (rw (z, decimal_digit (v % 2) (omega arith)) refl)

-- what a push of text leaves
pub pushed : {A E : Type 0} (r : Result A E) (new a b : List ℕ) → new ≡ (if is_ok r then a else b) → OnOk r (new ≡ a)
pushed (Ok v) new a b h = h
pushed (Err e) new a b h = tt

-- a text that is another one
pub on_text : {A E : Type 0} (r : Result A E) (new out a b : List ℕ) → a ≡ b → OnOk r (new ≡ out ++ a) → OnOk r (new ≡ out ++ b)
on_text r new out a b e h = on_ok r (new ≡ out ++ a) (new ≡ out ++ b) (λ f. f ∙ ap (λ t. out ++ t) e) h

-- the names of RV32IM
pub rv_named : (form : Layout) (compressed : Bool) (r : ℕ) → form ≡ Rv32 compressed → (layout_of form).first ≤ r → r < (layout_of form).first + length (layout_of form).registers →
    120 ∷ number_text r ≡ slice_index_or (layout_of form).registers (r - (layout_of form).first) []
rv_named (Rv32 compressed) c r e h k = sym (register_name 120 1 31 r h k)
rv_named (Arm big profile) c r e h k = absurd (cc e)

-- the names of ARM
pub arm_named : (form : Layout) (r : ℕ) → ((compressed : Bool) → form ≡ Rv32 compressed → ⊥) → (layout_of form).first ≤ r →
    r < (layout_of form).first + length (layout_of form).registers → 114 ∷ number_text r ≡ slice_index_or (layout_of form).registers (r - (layout_of form).first) []
arm_named (Rv32 compressed) r e h k = absurd (e compressed refl)
arm_named (Arm big profile) r e h k = sym (register_name 114 0 15 r h k)

-- an address behind another
pub behind_more : (a i : ℕ) → i ≢ 0 → three_of (Atom (codes "bvadd")) (term a) (address i) ≡ behind a i
behind_more a zero some = absurd (some refl)
behind_more a (suc i) some = refl

-- a load of one byte more, the lowest bytes first
pub little_loaded : (start first second third fourth all : List ℕ) (little : _) (m a i : ℕ) → little ≡ false → i ≢ 0 → first ≡ start ++ codes "(concat " →
    second ≡ first ++ written (selected m a i) →
    third ≡ second ++ codes " " → fourth ≡ third ++ written (loading (endian little) m a (i - 1)) → all ≡ fourth ++ codes ")" →
    all ≡ start ++ written (loading (endian little) m a i)
little_loaded start first second third fourth all true m a i z some e f g h k = absurd (cc z)
little_loaded start first second third fourth all false m a zero z some e f g h k = absurd (some refl)
little_loaded start first second third fourth all false m a (suc i) z some e f g h k =
    let n : suc i - 1 ≡ i = omega arith in
    five start first second third fourth all (codes "(concat ") (written (selected m a (suc i))) (codes " ") (written (loading Little m a i)) (codes ")") e f g
    (h ∙ ap (λ j. third ++ written (loading Little m a j)) n) k

-- and the highest bytes first
pub big_loaded : (start first second third fourth all : List ℕ) (little : _) (m a i : ℕ) → little ≡ true → i ≢ 0 → first ≡ start ++ codes "(concat " →
    second ≡ first ++ written (loading (endian little) m a (i - 1)) → third ≡ second ++ codes " " → fourth ≡ third ++ written (selected m a i) →
    all ≡ fourth ++ codes ")" →
    all ≡ start ++ written (loading (endian little) m a i)
big_loaded start first second third fourth all false m a i z some e f g h k = absurd (cc z)
big_loaded start first second third fourth all true m a zero z some e f g h k = absurd (some refl)
big_loaded start first second third fourth all true m a (suc i) z some e f g h k =
    let n : suc i - 1 ≡ i = omega arith in
    five start first second third fourth all (codes "(concat ") (written (loading Big m a i)) (codes " ") (written (selected m a (suc i))) (codes ")") e
    (f ∙ ap (λ j. first ++ written (loading Big m a j)) n) g h k

-- a store of one byte more
pub byte_stored : (start first second third fourth fifth sixth all : List ℕ) (e : Endian) (n m a v i lowest : ℕ) → i ≢ 0 → lowest ≡ 8 * place e n (i - 1) →
    first ≡ start ++ codes "(store " →
    second ≡ first ++ written (storing e n m a v (i - 1)) → third ≡ second ++ codes " " → fourth ≡ third ++ written (behind a (i - 1)) →
    fifth ≡ fourth ++ codes " " →
    sixth ≡ fifth ++ written (extract (lowest + 7) lowest v) → all ≡ sixth ++ codes ")" → all ≡ start ++ written (storing e n m a v i)
byte_stored start first second third fourth fifth sixth all e n m a v zero lowest some l p q r s t u w = absurd (some refl)
byte_stored start first second third fourth fifth sixth all e n m a v (suc i) lowest some l p q r s t u w =
    let z : suc i - 1 ≡ i = omega arith in
    seven start first second third fourth fifth sixth all (codes "(store ") (written (storing e n m a v i)) (codes " ") (written (behind a i)) (codes " ")
    (written (extract (8 * place e n i + 7) (8 * place e n i) v)) (codes ")") p
    (q ∙ ap (λ j. first ++ written (storing e n m a v j)) z) r (s ∙ ap (λ j. third ++ written (behind a j)) z) t
    (u ∙ ap (λ j. fifth ++ written (extract (j + 7) j v)) (l ∙ ap (λ j. 8 * place e n j) z)) w

-- two parts with a bracket between them
pub closed : (front n m back : List ℕ) → front ++ (n ++ (41 ∷ m)) ≡ front ++ ((n ++ 41 ∷ []) ++ m)
closed front n m back = ap (λ t. front ++ t) (sym (append_assoc n (41 ∷ []) m))

-- an address behind another, in its parts
pub further_added : (start first second all : List ℕ) (a i : ℕ) → first ≡ start ++ (codes "(bvadd t" ++ (number_text a ++ codes " ")) →
    second ≡ first ++ written (address i) →
    all ≡ second ++ codes ")" → all ≡ start ++ written (three_of (Atom (codes "bvadd")) (term a) (address i))
further_added start first second all a i e f g =
    three start first second all (codes "(bvadd t" ++ (number_text a ++ codes " ")) (written (address i)) (codes ")") e f g
    ∙ ap (λ t. start ++ (codes "(bvadd t" ++ t)) (append_assoc (number_text a) (codes " ") (written (address i) ++ codes ")"))

divided : (n b r : List ℕ) → (n ++ codes " ") ++ (b ++ (41 ∷ r)) ≡ (n ++ (32 ∷ (b ++ codes ")"))) ++ r
divided n b r =
    append_assoc n (codes " ") (b ++ (41 ∷ r)) ∙ sym (append_assoc n (32 ∷ (b ++ codes ")")) r ∙ ap (λ t. n ++ (32 ∷ t)) (append_assoc b (codes ")") r))

-- signed division in its parts
pub division_added : (start first second third fourth fifth sixth all : List ℕ) (w a b ones : ℕ) → ones ≡ 2 ^ w - 1 →
    first ≡ start ++ (codes "(ite (= t" ++ (number_text b ++ codes " ")) →
    second ≡ first ++ constant_text w 0 → third ≡ second ++ codes ") " → fourth ≡ third ++ constant_text w ones → fifth ≡ fourth ++ codes " " →
    sixth ≡ fifth ++ written (apply (codes "bvsdiv") a b) → all ≡ sixth ++ codes ")" → all ≡ start ++ written (operation SignedDivide w a b)
division_added start first second third fourth fifth sixth all w a b ones o p q r s t u v =
    let k = constant_text w (2 ^ w - 1) in
    let d = written (apply (codes "bvsdiv") a b) in
    seven start first second third fourth fifth sixth all (codes "(ite (= t" ++ (number_text b ++ codes " ")) (constant_text w 0) (codes ") ") k (codes " ") d
    (codes ")") p q r
    (s ∙ ap (λ j. third ++ constant_text w j) o) t u v
    ∙ ap (λ l. start ++ (codes "(ite (= t" ++ l)) (divided (number_text b) (constant_text w 0) (32 ∷ (k ++ (32 ∷ (d ++ codes ")")))))

-- the sort of a word
pub sort_more : (w : ℕ) → w ≢ 0 → word_sort (numeral w) ≡ sort_of w
sort_more zero some = absurd (some refl)
sort_more (suc w) some = refl

-- a definition in its parts
defined : (n b c : List ℕ) → (n ++ codes " () ") ++ (b ++ (32 ∷ (c ++ codes ")\n"))) ≡ (n ++ (codes " () " ++ (b ++ (32 ∷ (c ++ codes ")"))))) ++ codes "\n"
defined n b c =
    append_assoc n (codes " () ") (b ++ (32 ∷ (c ++ codes ")\n")))
    ∙ sym (append_assoc n (codes " () " ++ (b ++ (32 ∷ (c ++ codes ")")))) (codes "\n")
    ∙ ap (λ t. n ++ (codes " () " ++ t)) (append_assoc b (32 ∷ (c ++ codes ")")) (codes "\n")
    ∙ ap (λ t. b ++ (32 ∷ t)) (append_assoc c (codes ")") (codes "\n"))))

pub definition_added : (start first second third fourth all : List ℕ) (at : ℕ) (sort says : Sexp) →
    first ≡ start ++ (codes "(define-fun t" ++ (number_text at ++ codes " () ")) →
    second ≡ first ++ written sort → third ≡ second ++ codes " " → fourth ≡ third ++ written says → all ≡ fourth ++ codes ")\n" →
    all ≡ start ++ (written (definition at sort says) ++ codes "\n")
definition_added start first second third fourth all at sort says e f g h i =
    five start first second third fourth all (codes "(define-fun t" ++ (number_text at ++ codes " () ")) (written sort) (codes " ") (written says) (codes ")\n")
    e f g h i
    ∙ ap (λ t. start ++ (codes "(define-fun t" ++ t)) (defined (number_text at) (written sort) (written says))

-- a definition that a bit is 1
pub rooted : (n r : List ℕ) → codes "(define-fun t" ++ (n ++ (codes " () Bool (= t" ++ (r ++ codes " #b1))\n")))
    ≡ codes "(define-fun t" ++ ((n ++ (codes " () Bool (= t" ++ ((r ++ codes " #b1)") ++ codes ")"))) ++ codes "\n")
rooted n r =
    ap (λ t. codes "(define-fun t" ++ t)
    (sym (append_assoc n (codes " () Bool (= t" ++ ((r ++ codes " #b1)") ++ codes ")")) (codes "\n")
    ∙ ap (λ t. n ++ (codes " () Bool (= t" ++ t)) (append_assoc (r ++ codes " #b1)") (codes ")") (codes "\n") ∙ append_assoc r (codes " #b1)") (codes ")\n"))))

-- a text whose line ends
pub ended : (front w back : List ℕ) → front ++ (w ++ (back ++ codes "\n")) ≡ front ++ ((w ++ back) ++ codes "\n")
ended front w back = ap (λ t. front ++ t) (sym (append_assoc w back (codes "\n")))

-- the declaration of a register in its parts
pub register_added : (start first second all w : List ℕ) → first ≡ start ++ codes "(declare-const " → second ≡ first ++ w →
    all ≡ second ++ codes " (_ BitVec 32))\n" →
    all ≡ start ++ (written (declaration w (word_sort (Atom (codes "32")))) ++ codes "\n")
register_added start first second all w e f g =
    three start first second all (codes "(declare-const ") w (codes " (_ BitVec 32))\n") e f g
    ∙ ap (λ t. start ++ t) (ended (codes "(declare-const ") w (codes " (_ BitVec 32))"))

-- that of a flag
pub flag_added : (start first second all w : List ℕ) → first ≡ start ++ codes "(declare-const " → second ≡ first ++ w →
    all ≡ second ++ codes " (_ BitVec 1))\n" →
    all ≡ start ++ (written (declaration w (word_sort (Atom (codes "1")))) ++ codes "\n")
flag_added start first second all w e f g =
    three start first second all (codes "(declare-const ") w (codes " (_ BitVec 1))\n") e f g
    ∙ ap (λ t. start ++ t) (ended (codes "(declare-const ") w (codes " (_ BitVec 1))"))

-- that of a memory
pub memory_added : (start first second all w : List ℕ) → first ≡ start ++ codes "(declare-const " → second ≡ first ++ w →
    all ≡ second ++ codes " (Array (_ BitVec 32) (_ BitVec 8)))\n" →
    all ≡ start ++ (written (declaration w array_sort) ++ codes "\n")
memory_added start first second all w e f g =
    three start first second all (codes "(declare-const ") w (codes " (Array (_ BitVec 32) (_ BitVec 8)))\n") e f g
    ∙ ap (λ t. start ++ t) (ended (codes "(declare-const ") w (codes " (Array (_ BitVec 32) (_ BitVec 8)))"))

-- a name with what a part has before it
pub part_added : (start first all p w : List ℕ) → first ≡ start ++ p → all ≡ first ++ w → all ≡ start ++ (p ++ w)
part_added start first all p w e f = two start first all p w e f

-- the byte of a memory at a distance behind an address
pub byte_taken : (start first second third fourth all : List ℕ) (from : List ℕ) (a i : ℕ) → first ≡ start ++ codes "(select " → second ≡ first ++ from →
    third ≡ second ++ codes " " → fourth ≡ third ++ written (behind a i) → all ≡ fourth ++ codes ")" → all ≡ start ++ written (taken from a i)
byte_taken start first second third fourth all from a i e f g h k =
    five start first second third fourth all (codes "(select ") from (codes " ") (written (behind a i)) (codes ")") e f g h k

-- one byte more that is taken
pub take_more : (start first second third fourth fifth sixth all : List ℕ) (from : List ℕ) (m a i : ℕ) → i ≢ 0 → first ≡ start ++ codes "(store " →
    second ≡ first ++ written (taking from m a (i - 1)) → third ≡ second ++ codes " " → fourth ≡ third ++ written (behind a (i - 1)) →
    fifth ≡ fourth ++ codes " " → sixth ≡ fifth ++ written (taken from a (i - 1)) → all ≡ sixth ++ codes ")" → all ≡ start ++ written (taking from m a i)
take_more start first second third fourth fifth sixth all from m a zero some p q r s t u w = absurd (some refl)
take_more start first second third fourth fifth sixth all from m a (suc i) some p q r s t u w =
    let z : suc i - 1 ≡ i = omega arith in
    seven start first second third fourth fifth sixth all (codes "(store ") (written (taking from m a i)) (codes " ") (written (behind a i)) (codes " ")
    (written (taken from a i)) (codes ")") p (q ∙ ap (λ j. first ++ written (taking from m a j)) z) r (s ∙ ap (λ j. third ++ written (behind a j)) z) t
    (u ∙ ap (λ j. fifth ++ written (taken from a j)) z) w
