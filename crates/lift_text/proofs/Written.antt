-- What is written for a word is its text.
use Rattle.std.proofs.Common.{◌≡◌, ℕ, ◌+◌, ◌*◌, ◌<◌, ◌==◌, Bool, true, false, refl, length, List, [], ◌∷◌, ◌++◌, get_or, codes, append_assoc, Option, Some, None, ap, sym, ◌∙◌, subst, arith}
use Rattle.std.specs.Global.{Vec}
use Rattle.std.specs.List.{flat_map}
use Rattle.word_spec.specs.Memory.{Endian, Little, Big, number}
use Rattle.std.specs.Prelude.{if◌then◌else◌}
use Rattle.machine_spec.specs.Machine.{Machine, Row, width, first_half, taken, offsets}
use Rattle.machine_spec.specs.MachineLaws.{IsLawfulMachine}
use Rattle.machine_spec.specs.Bil.{Bank}
use Rattle.bilv_spec.specs.Elf.{loaded}
use Rattle.word_spec.specs.Texts.{word_text, hex_digits}
use Rattle.machine_spec.specs.BilText.{list_text}
use Rattle.bilv_spec.specs.LiftText.{byte_at, word_in, word_words, IsWordText}
use Rattle.bil_ast.specs.declared.statements.Stmt.{Stmt}
use Rattle.bil_ast.specs.Views.{statements}
use Rattle.machine_law.specs.Facts.{IsLiftedWord}
use Rattle.lift_text.specs.declared.candidates.RowBytes.{RowBytes}
use Rattle.lift_text.specs.declared.candidates.RowBytes.TheVariants.{Two, Four}
use Rattle.lift_text.specs.Found.{IsWordFound, bytes_of, row_number, bytes_text}
use Rattle.bilv_spec.proofs.FileWords.{half_of_taken}
use Rattle.lift_text.proofs.Givens.{half_of_bytes}
use Rattle.lift_text.specs.Progress.{IsAppended}
use Rattle.lift_text.specs.Rest.{rest_text}

two_texts : (bytes : List ℕ) (f : ℕ → ℕ) → length bytes ≡ 2 → ((i : ℕ) → i < 2 → get_or bytes i 0 ≡ f i) →
    flat_map (hex_digits 2) bytes ≡ flat_map (λ i. hex_digits 2 (f i)) (0 ∷ 1 ∷ [])
two_texts [] f n each = absurd (omega arith)
two_texts (a ∷ []) f n each = absurd (omega arith)
two_texts (a ∷ b ∷ []) f n each = let p = each 0 (omega arith) in let q = each 1 (omega arith) in cc
two_texts (a ∷ b ∷ c ∷ rest) f n each = absurd (omega arith)

four_texts : (bytes : List ℕ) (f : ℕ → ℕ) → length bytes ≡ 4 → ((i : ℕ) → i < 4 → get_or bytes i 0 ≡ f i) →
    flat_map (hex_digits 2) bytes ≡ flat_map (λ i. hex_digits 2 (f i)) (0 ∷ 1 ∷ 2 ∷ 3 ∷ [])
four_texts [] f n each = absurd (omega arith)
four_texts (a ∷ []) f n each = absurd (omega arith)
four_texts (a ∷ b ∷ []) f n each = absurd (omega arith)
four_texts (a ∷ b ∷ c ∷ []) f n each = absurd (omega arith)
four_texts (a ∷ b ∷ c ∷ d ∷ []) f n each =
    let p = each 0 (omega arith) in
    let q = each 1 (omega arith) in
    let r = each 2 (omega arith) in
    let s = each 3 (omega arith) in
    cc
four_texts (a ∷ b ∷ c ∷ d ∷ e ∷ rest) f n each = absurd (omega arith)

-- the bytes of a row are those that are loaded
words_are : (m : Machine) (file : List ℕ) (at : ℕ) (row : RowBytes) → IsWordFound m file at row →
    word_text at ++ 32 ∷ bytes_text (bytes_of row) ≡ word_words m file at
words_are m file at (Two bytes) found =
    ap (λ z. word_text at ++ 32 ∷ z)
    (two_texts bytes (λ i. byte_at (loaded file (at + i))) found.count found.each
    ∙ sym (ap (λ w. flat_map (λ i. hex_digits 2 (byte_at (loaded file (at + i)))) (offsets w)) found.wide))
words_are m file at (Four bytes) found =
    ap (λ z. word_text at ++ 32 ∷ z)
    (four_texts bytes (λ i. byte_at (loaded file (at + i))) found.count found.each
    ∙ sym (ap (λ w. flat_map (λ i. hex_digits 2 (byte_at (loaded file (at + i)))) (offsets w)) found.wide))

four_bytes : (e : Endian) (x y : ℕ → ℕ) → ((i : ℕ) → i < 4 → x i ≡ y i) → number e 4 x ≡ number e 4 y
four_bytes Little x y same = omega (arith, same 0 (omega arith), same 1 (omega arith), same 2 (omega arith), same 3 (omega arith))
four_bytes Big x y same = omega (arith, same 0 (omega arith), same 1 (omega arith), same 2 (omega arith), same 3 (omega arith))

-- a row of 2 bytes is decoded from its halfword
two_decoded : (m : Machine) (laws : IsLawfulMachine m) (file : List ℕ) (at : ℕ) (bytes : List ℕ) → IsWordFound m file at (Two bytes) →
    number Little 2 (λ i. get_or bytes i 0) ≡ word_in m file at
two_decoded m laws file at bytes found = by_narrow m.narrow refl
  where
    f : ℕ → ℕ
    f i = byte_at (loaded file (at + i))

    by_narrow : (n : Bool) → m.narrow ≡ n → number Little 2 (λ i. get_or bytes i 0) ≡ word_in m file at
    by_narrow false e =
        let four : ◌≡◌ {A = ℕ} 4 2 = sym (ap (λ n. width n (first_half (word_in m file at))) e) ∙ found.wide in
        absurd (omega arith)
    by_narrow true e =
        let w : ℕ = number m.endian 4 f in
        let two : width m.narrow (first_half w) ≡ 2 = sym (ap (width m.narrow) (half_of_taken m.narrow w)) ∙ found.wide in
        let low : first_half w ≡ get_or bytes 0 0 + get_or bytes 1 0 * 256 =
        subst (λ (e : Endian). first_half (number e 4 f) ≡ get_or bytes 0 0 + get_or bytes 1 0 * 256) (sym (laws.little e))
        (half_of_bytes f (get_or bytes 0 0) (get_or bytes 1 0) (found.each 0 (omega arith)) (found.each 1 (omega arith)) (found.small 0 (omega arith)) (found.small 1 (omega arith))) in
        let halved : taken m.narrow w ≡ first_half w = ap (λ n. if n == 2 then first_half w else w) two in
        let sum : number Little 2 (λ i. get_or bytes i 0) ≡ get_or bytes 0 0 + get_or bytes 1 0 * 256 = omega arith in
        sum ∙ sym (halved ∙ low)

-- a row of 4 bytes is decoded from the word
four_decoded : (m : Machine) (file : List ℕ) (at : ℕ) (bytes : List ℕ) → IsWordFound m file at (Four bytes) →
    number m.endian 4 (λ i. get_or bytes i 0) ≡ word_in m file at
four_decoded m file at bytes found =
    let f : ℕ → ℕ = λ i. byte_at (loaded file (at + i)) in
    let w : ℕ = number m.endian 4 f in
    let four : width m.narrow (first_half w) ≡ 4 = sym (ap (width m.narrow) (half_of_taken m.narrow w)) ∙ found.wide in
    four_bytes m.endian (λ i. get_or bytes i 0) f found.each ∙ sym (ap (λ n. if n == 2 then first_half w else w) four)

word_is : (m : Machine) (laws : IsLawfulMachine m) (file : List ℕ) (at : ℕ) (row : RowBytes) (e : Endian) → IsWordFound m file at row → e ≡ m.endian →
    row_number e row ≡ word_in m file at
word_is m laws file at (Two bytes) e found same = two_decoded m laws file at bytes found
word_is m laws file at (Four bytes) e found same = ap (λ e. number e 4 (λ i. get_or bytes i 0)) same ∙ four_decoded m file at bytes found

-- the text by what was lifted
text_by : (m : Machine) (bank : Bank) (file : List ℕ) (at : ℕ) (row : Option Row) (lifted : Option (Vec Stmt)) (head : List ℕ)
    → IsLiftedWord m bank row at lifted → head ≡ word_words m file at → IsWordText m bank file at row (head ++ rest_text lifted)
text_by m bank file at None None head is same = ap (λ z. z ++ rest_text None) same ∙ sym (append_assoc (word_words m file at) (codes " none") (10 ∷ []))
text_by m bank file at (Some row) (Some v) head is same = (
  statements v.items,
  is,
  ap (λ z. z ++ rest_text (Some v)) same ∙ sym (append_assoc (word_words m file at) (10 ∷ []) (list_text 1 (statements v.items))),
)
text_by m bank file at None (Some v) head is same = absurd is
text_by m bank file at (Some row) None head is same = absurd is

pub appended : (m : Machine) (laws : IsLawfulMachine m) (bank : Bank) (file : List ℕ) (at : ℕ) (row : RowBytes) (e : Endian) (word : ℕ)
    (lifted : Option (Vec Stmt)) (old mid new bytes : List ℕ) → IsWordFound m file at row → e ≡ m.endian →
    word ≡ row_number e row → IsLiftedWord m bank (m.row word) at lifted →
    bytes ≡ bytes_of row → mid ≡ old ++ (word_text at ++ 32 ∷ bytes_text bytes) → new ≡ mid ++ rest_text lifted → IsAppended m bank file at old new
appended m laws bank file at row e word lifted old mid new bytes found same is lifts same_bytes first second =
    let head = word_text at ++ 32 ∷ bytes_text bytes in
    let head_is : head ≡ word_words m file at = ap (λ bytes. word_text at ++ 32 ∷ bytes_text bytes) same_bytes ∙ words_are m file at row found in
    let here : word ≡ word_in m file at = is ∙ word_is m laws file at row e found same in
    let lifts_here = subst (λ w. IsLiftedWord m bank (m.row w) at lifted) here lifts in
    record {
      text = head ++ rest_text lifted;
      says = text_by m bank file at (m.row (word_in m file at)) lifted head lifts_here head_is;
      is = second ∙ ap (λ z. z ++ rest_text lifted) first ∙ append_assoc old head (rest_text lifted);
    }
