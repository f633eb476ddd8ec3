-- The text grows word by word.
use Rattle.std.proofs.Common.{◌≡◌, ℕ, suc, ◌+◌, ◌≤◌, ◌<◌, ◌%◌, ◌^◌, ◌==◌, true, false, cond, List, [], ◌∷◌, ◌++◌, length, get_or, refl, ap, sym, ◌∙◌, subst, inl, inr, ◌⊎◌, arith, eq-eqb, length-append}
use Rattle.std.specs.Prelude.{Contains}
use Rattle.std.specs.List.{flat_map}
use Rattle.std.proofs.Math.Nat.{eq-or-lt_of_le}
use Rattle.std.proofs.lemmas.Bool.{cases_lt}
use Rattle.std.proofs.lemmas.Bool.Decides.{nat_tests}
use Rattle.std.proofs.lemmas.List.{flat_map_more, get_or_append_left, get_or_at}
use Rattle.std.proofs.lemmas.List.Elements.{Contains-get_or, Contains-append_left, Contains-push, Contains-push_cases}
use Rattle.machine_spec.specs.Machine.{Machine}
use Rattle.machine_spec.specs.Bil.{Bank}
use Rattle.bilv_spec.specs.LiftText.{is_word_at, word_in, IsWordText, IsLiftTextBy}
use Rattle.lift_text.specs.Found.{IsNextPlace}
use Rattle.lift_text.specs.Progress.{IsTextTo, put_text, IsAppended}
use Rattle.lift_text.proofs.Givens.{unaligned}

-- two functions that agree on a list
flat_same : (f g : ℕ → List ℕ) (xs : List ℕ) → ((a : ℕ) → Contains xs a → f a ≡ g a) → flat_map f xs ≡ flat_map g xs
flat_same f g [] same = refl
flat_same f g (x ∷ xs) same =
    let here : f x ≡ g x = same x (0, omega arith, refl) in
    let rest : flat_map f xs ≡ flat_map g xs = flat_same f g xs (λ a h. same a (suc h.0, omega (arith, h.1), h.2)) in
    ap (λ z. z ++ flat_map f xs) here ∙ ap (λ z. g x ++ z) rest

put_same : (f : ℕ → List ℕ) (at : ℕ) (t : List ℕ) → put_text f at t at ≡ t
put_same f at t = ap (λ b. cond b t (f at)) (eq-eqb at at refl)

put_other : (f : ℕ → List ℕ) (at : ℕ) (t : List ℕ) (a : ℕ) → a < at → put_text f at t a ≡ f a
put_other f at t a l = let no : (a == at) ≡ false = grind (arith, nat_tests) in ap (λ b. cond b t (f a)) no

-- before the first address there is no text
pub empty : (m : Machine) (bank : Bank) (file : List ℕ) → IsTextTo m bank file 0 []
empty m bank file = record {
  words = [];
  texts = λ a. [];
  all = λ a. ((λ h. absurd (omega (arith, h.1))), (λ h. absurd (omega (arith, h.0))));
  rising = λ i j l w. absurd (omega arith);
  each = λ a h. absurd (omega (arith, h.1));
  text_is = refl;
}

-- addresses without a word are passed over
pub skip : (m : Machine) (bank : Bank) (file : List ℕ) (at next : ℕ) (text : List ℕ) → at ≤ next
    → ((a : ℕ) → at ≤ a → a < next → is_word_at m file a ≡ false) → IsTextTo m bank file at text → IsTextTo m bank file next text
skip m bank file at next text le none t = record {
  words = t.words;
  texts = t.texts;
  all = λ a. (
    (λ h. let k = (t.all a).0 h in (omega (arith, k.0), k.1)),
    (λ h. elim (cases_lt a at) as (λ _. Contains t.words a) [
      | inl l ↦ (t.all a).1 (l, h.1)
      | inr l ↦ let no = none a l h.0 in absurd (cc (no, h.1))
    ]),
  );
  rising = t.rising;
  each = t.each;
  text_is = t.text_is;
}

-- an address of a longer list of words
here_or_before : (m : Machine) (file : List ℕ) (at next a : ℕ) → IsNextPlace m.narrow (at + 1) next → a < next → is_word_at m file a ≡ true → (a < at) ⊎ (at ≡ a)
here_or_before m file at next a is l h =
    elim (cases_lt a at) as (λ _. (a < at) ⊎ (at ≡ a)) [
      | inl less ↦ inl less
      | inr more ↦
          elim (eq-or-lt_of_le more) as (λ _. (a < at) ⊎ (at ≡ a)) [
            | inl same ↦ inr same
            | inr less ↦ let no = unaligned m file a (is.first a (omega arith) l) in absurd (cc (no, h))
          ]
    ]

rises : (words : List ℕ) (at : ℕ) → ((a : ℕ) → Contains words a → a < at) → ((i j : ℕ) → i < j → j < length words → get_or words i 0 < get_or words j 0)
    → (i j : ℕ) → i < j → j < length (words ++ at ∷ []) → get_or (words ++ at ∷ []) i 0 < get_or (words ++ at ∷ []) j 0
rises words at below rising i j l w =
    let n = length-append words (at ∷ []) in
    let small : i < length words = omega arith in
    let first = get_or_append_left words (at ∷ []) 0 i small in
    elim (cases_lt j (length words)) as (λ _. get_or (words ++ at ∷ []) i 0 < get_or (words ++ at ∷ []) j 0) [
      | inl h ↦
          let second = get_or_append_left words (at ∷ []) 0 j h in
          let less = rising i j l h in
          omega arith
      | inr h ↦
          let second = get_or_at words at [] 0 j (omega arith) in
          let less = below (get_or words i 0) (Contains-get_or words i 0 small) in
          omega arith
    ]

-- a word more
pub more : (m : Machine) (bank : Bank) (file : List ℕ) (at next : ℕ) (old new : List ℕ) → IsNextPlace m.narrow (at + 1) next → is_word_at m file at ≡ true →
    IsAppended m bank file at old new → IsTextTo m bank file at old → IsTextTo m bank file next new
more m bank file at next old new is word added t =
    let behind = is.behind in
    let texts = put_text t.texts at added.text in
    let other = λ (a : ℕ) (h : Contains t.words a). put_other t.texts at added.text a ((t.all a).0 h).0 in
    record {
      words = t.words ++ at ∷ [];
      texts = texts;
      all = λ a. (
        (λ h. elim (Contains-push_cases t.words at a h) as (λ _. (a < next) × (is_word_at m file a ≡ true)) [
          | inl before ↦ let k = (t.all a).0 before in (omega (arith, k.0), k.1)
          | inr same ↦ (omega arith, subst (λ n. is_word_at m file n ≡ true) same word)
        ]),
        (λ h. elim (here_or_before m file at next a is h.0 h.1) as (λ _. Contains (t.words ++ at ∷ []) a) [
          | inl before ↦ Contains-append_left t.words (at ∷ []) a ((t.all a).1 (before, h.1))
          | inr same ↦ subst (λ n. Contains (t.words ++ at ∷ []) n) same (Contains-push t.words at)
        ]),
      );
      rising = rises t.words at (λ a h. ((t.all a).0 h).0) t.rising;
      each = λ a h. elim (Contains-push_cases t.words at a h) as (λ _. IsWordText m bank file a (m.row (word_in m file a)) (texts a)) [
        | inl before ↦ subst (λ z. IsWordText m bank file a (m.row (word_in m file a)) z) (sym (other a before)) (t.each a before)
        | inr same ↦
            subst (λ n. IsWordText m bank file n (m.row (word_in m file n)) (texts n)) same
            (subst (λ z. IsWordText m bank file at (m.row (word_in m file at)) z) (sym (put_same t.texts at added.text)) added.says)
      ];
      text_is =
          added.is ∙ ap (λ z. z ++ added.text) (t.text_is ∙ flat_same t.texts texts t.words (λ a h. sym (other a h)))
          ∙ ap (λ z. flat_map texts t.words ++ z) (sym (put_same t.texts at added.text))
          ∙ flat_map_more texts [] t.words at;
    }

-- the whole text
pub done : (m : Machine) (bank : Bank) (file text : List ℕ) → IsTextTo m bank file (2 ^ 32) text → IsLiftTextBy m bank file text
done m bank file text t = record { words = t.words; texts = t.texts; all = t.all; rising = t.rising; each = t.each; text_is = t.text_is }
