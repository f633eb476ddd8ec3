-- Texts that grow by one element of a list after the other.
use Rattle.std.proofs.Common.{◌≡◌, ℕ, zero, suc, ◌+◌, ◌-◌, ◌<◌, ◌≤◌, ◌≢◌, true, false, nat_lt, if◌then◌else◌, arith, refl, ap, sym, subst, ◌∙◌, List, [], ◌∷◌, ◌++◌, length, get_or, drop, take, map, append_assoc, append-nil, add-one, drop-cons, codes}
use Rattle.std.specs.Prelude.{Option}
use Rattle.std.specs.List.{flat_map}
use Rattle.std.proofs.lemmas.Bool.Decides.{nat_tests}
use Rattle.std.proofs.lemmas.List.{drop_all, drop-map, length-map, take_rest}
use Rattle.word_spec.specs.Texts.{line, number_text}
use Rattle.machine_spec.specs.Machine.{Machine}
use Rattle.machine_spec.specs.Bil.{Bank}
use Rattle.trace_spec.specs.Seen.{SeenStep}
use Rattle.trace_texts_spec.specs.Names.{Names}
use Rattle.trace_texts_spec.specs.StepLines.{AreLastLines, AreStepLines, IsStepLine, depth_text, left_out}
use Rattle.trace_text.specs.Appending.{IsAppended}

-- the text of one more element
pub next_mapped : {X Y : Type 0} (f : Y → List ℕ) (g : X → Y) (xs : List X) (i : ℕ) (d : X) (out first all : List ℕ) → i < length xs →
    first ≡ out ++ f (g (get_or xs i d)) → out ++ flat_map f (map g (drop i xs)) ≡ all → first ++ flat_map f (map g (drop (i + 1) xs)) ≡ all
next_mapped f g xs i d out first all below e inv =
    ap (λ k. first ++ flat_map f (map g (drop k xs))) (add-one i) ∙ ap (λ l. l ++ flat_map f (map g (drop (suc i) xs))) e
    ∙ append_assoc out (f (g (get_or xs i d))) (flat_map f (map g (drop (suc i) xs)))
    ∙ ap (λ l. out ++ flat_map f (map g l)) (sym (drop-cons xs i d below)) ∙ inv

-- no element is left
pub done_mapped : {X Y : Type 0} (f : Y → List ℕ) (g : X → Y) (xs : List X) (i : ℕ) (out all : List ℕ) → length xs ≤ i →
    out ++ flat_map f (map g (drop i xs)) ≡ all → out ≡ all
done_mapped f g xs i out all le inv = sym (append-nil out) ∙ sym (ap (λ l. out ++ flat_map f (map g l)) (drop_all i xs le)) ∙ inv

-- a text that is a front of what is due: with a rest that meets one fact, it meets another
pub record IsGrown (P Q : List ℕ → Type 0) (start out : List ℕ) : Type 0 where
  pub sofar : List ℕ
  pub is : out ≡ start ++ sofar
  pub goes : (rest : List ℕ) → P rest → Q (sofar ++ rest)

pub begun : (P : List ℕ → Type 0) (start : List ℕ) → IsGrown P P start start
begun P start = record { sofar = []; is = sym (append-nil start); goes = λ rest h. h }

-- the first of the others, by its place
split : {X Y : Type 0} (g : X → Y) (xs : List X) (i : ℕ) (x : X) → i < length xs → x ≡ get_or xs i x → map g (drop i xs) ≡ g x ∷ map g (drop (i + 1) xs)
split g xs i x below is =
    ap (map g) (drop-cons xs i x below) ∙ ap (λ z. g z ∷ map g (drop (suc i) xs)) (sym is) ∙ ap (λ k. g x ∷ map g (drop k xs)) (sym (add-one i))

module _ (m : Machine) (bank : Bank) (n : Names) (file : List ℕ) (near : ℕ → Option (List ℕ × ℕ)) where
  -- one more step
  more : (s : SeenStep) (steps : List SeenStep) (Q : List ℕ → Type 0) (start out new : List ℕ) →
      IsGrown (AreStepLines m bank n file near (s ∷ steps)) Q start out → IsAppended (IsStepLine m bank n file near s) out new →
      IsGrown (AreStepLines m bank n file near steps) Q start new
  more s steps Q start out new g a = record {
    sofar = g.sofar ++ a.0;
    is = a.2 ∙ ap (λ z. z ++ a.0) g.is ∙ append_assoc start g.sofar a.0;
    goes = λ rest h. subst Q (sym (append_assoc g.sofar a.0 rest)) (g.goes (a.0 ++ rest) (a.0, rest, a.1, h, refl));
  }

  pub grown_more : {X : Type 0} (g : X → SeenStep) (xs : List X) (i : ℕ) (x : X) (Q : List ℕ → Type 0) (start out new : List ℕ) → i < length xs →
      x ≡ get_or xs i x → IsGrown (AreStepLines m bank n file near (map g (drop i xs))) Q start out →
      IsAppended (IsStepLine m bank n file near (g x)) out new →
      IsGrown (AreStepLines m bank n file near (map g (drop (i + 1) xs))) Q start new
  grown_more g xs i x Q start out new below is grown a =
      more (g x) (map g (drop (i + 1) xs)) Q start out new
      (subst (λ l. IsGrown (AreStepLines m bank n file near l) Q start out) (split g xs i x below is) grown) a

  -- no step is left
  pub grown_done : {X : Type 0} (g : X → SeenStep) (xs : List X) (i : ℕ) (Q : List ℕ → Type 0) (start out : List ℕ) → length xs ≤ i →
      IsGrown (AreStepLines m bank n file near (map g (drop i xs))) Q start out → IsAppended Q start out
  grown_done g xs i Q start out le grown =
      let last : IsGrown (AreStepLines m bank n file near []) Q start out =
      subst (λ l. IsGrown (AreStepLines m bank n file near (map g l)) Q start out) (drop_all i xs le) grown in
      (last.sofar ++ [], last.goes [] refl, last.is ∙ ap (λ z. start ++ z) (sym (append-nil last.sofar)))

  -- the last steps
  pub last_lines : {X : Type 0} (g : X → SeenStep) (xs : List X) (last skipped : ℕ) (old first new : List ℕ) → skipped ≡ length xs - last →
      first ≡ old ++ left_out skipped →
      IsAppended (AreStepLines m bank n file near (map g (take (length xs - skipped) (drop skipped xs)))) first new →
      IsAppended (AreLastLines m bank n file near last (map g xs)) old new
  last_lines g xs last skipped old first new is one a =
      let same : length (map g xs) - last ≡ skipped = ap (λ k. k - last) (length-map xs g) ∙ sym is in
      let rest : map g (take (length xs - skipped) (drop skipped xs)) ≡ drop (length (map g xs) - last) (map g xs) =
      ap (map g) (take_rest xs skipped) ∙ sym (drop-map g skipped xs) ∙ ap (λ k. drop k (map g xs)) (sym same) in (
        left_out (length (map g xs) - last) ++ a.0,
        (a.0, subst (λ l. AreStepLines m bank n file near l a.0) rest a.1, refl),
        a.2 ∙ ap (λ z. z ++ a.0) one ∙ append_assoc old (left_out skipped) a.0 ∙ ap (λ k. old ++ (left_out k ++ a.0)) (sym same),
      )

-- one piece behind another
piece : (out a b first second : List ℕ) → first ≡ out ++ a → second ≡ first ++ b → second ≡ out ++ (a ++ b)
piece out a b first second one two = two ∙ ap (λ z. z ++ b) one ∙ append_assoc out a b

-- the pieces of a line
pub line_pieces : (out a b c first second third fourth : List ℕ) → first ≡ out ++ a → second ≡ first ++ b → third ≡ second ++ c →
    fourth ≡ third ++ codes "\n" → fourth ≡ out ++ line (a ++ b ++ c)
line_pieces out a b c first second third fourth one two three four =
    piece out (a ++ b ++ c) (codes "\n") third fourth (piece out (a ++ b) c second third (piece out a b first second one two) three) four

-- two pieces with a blank before each
pub blank_pieces : (out a b first second third fourth : List ℕ) → first ≡ out ++ 32 ∷ [] → second ≡ first ++ a → third ≡ second ++ 32 ∷ [] →
    fourth ≡ third ++ b → fourth ≡ out ++ 32 ∷ (a ++ 32 ∷ b)
blank_pieces out a b first second third fourth one two three four =
    piece out ((32 ∷ a) ++ 32 ∷ []) b third fourth
    (piece out (32 ∷ a) (32 ∷ []) second third (piece out (32 ∷ []) a first second one two) three) four
    ∙ ap (λ z. out ++ 32 ∷ z) (append_assoc a (32 ∷ []) b)

-- six pieces
pub six_pieces : (out a b c d e f first second third fourth fifth sixth : List ℕ) → first ≡ out ++ a → second ≡ first ++ b → third ≡ second ++ c →
    fourth ≡ third ++ d → fifth ≡ fourth ++ e → sixth ≡ fifth ++ f → sixth ≡ out ++ (a ++ b ++ c ++ d ++ e ++ f)
six_pieces out a b c d e f first second third fourth fifth sixth one two three four five six =
    piece out (a ++ b ++ c ++ d ++ e) f fifth sixth
    (piece out (a ++ b ++ c ++ d) e fourth fifth
    (piece out (a ++ b ++ c) d third fourth (piece out (a ++ b) c second third (piece out a b first second one two) three) four) five) six

-- a blank and another piece
pub two_pieces : (out a first second : List ℕ) → first ≡ out ++ 32 ∷ [] → second ≡ first ++ a → second ≡ out ++ 32 ∷ a
two_pieces out a first second one two = piece out (32 ∷ []) a first second one two

-- the line of steps that are left out
pub left_pieces : (n : ℕ) (out first second third : List ℕ) → n ≢ 0 → first ≡ out ++ codes ".. " → second ≡ first ++ number_text n →
    third ≡ second ++ codes " steps left out\n" → third ≡ out ++ left_out n
left_pieces zero out first second third some one two three = absurd (some refl)
left_pieces (suc n) out first second third some one two three =
    let number : List ℕ = number_text (suc n) in
    piece out (codes ".. " ++ number) (codes " steps left out\n") second third (piece out (codes ".. ") number first second one two) three
    ∙ ap (λ z. out ++ z) (sym (append_assoc (codes ".. " ++ number) (codes " steps left out") (codes "\n")))

-- a call, and a return
pub call_pieces : (before after : ℕ) (out first second : List ℕ) → before < after → first ≡ out ++ codes "  call, depth " →
    second ≡ first ++ number_text after → second ≡ out ++ depth_text before after
call_pieces before after out first second lt one two =
    let test : nat_lt before after ≡ true = grind (arith, nat_tests) in
    piece out (codes "  call, depth ") (number_text after) first second one two
    ∙ sym (ap (λ b. out ++ (if b then codes "  call, depth " ++ number_text after else
    if nat_lt after before then codes "  return, depth " ++ number_text after else [])) test)

pub return_pieces : (before after : ℕ) (out first second : List ℕ) → after < before → first ≡ out ++ codes "  return, depth " →
    second ≡ first ++ number_text after → second ≡ out ++ depth_text before after
return_pieces before after out first second lt one two =
    let no : nat_lt before after ≡ false = grind (arith, nat_tests) in
    let yes : nat_lt after before ≡ true = grind (arith, nat_tests) in
    piece out (codes "  return, depth ") (number_text after) first second one two
    ∙ sym (ap (λ b. out ++ (if b then codes "  call, depth " ++ number_text after else
    if nat_lt after before then codes "  return, depth " ++ number_text after else [])) no
    ∙ ap (λ b. out ++ (if b then codes "  return, depth " ++ number_text after else [])) yes)
