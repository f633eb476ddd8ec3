-- Two states agree on links exactly where the words of the links are the same, place by place.
use Rattle.std.proofs.Common.{◌≡◌, refl, ap, sym, ◌∙◌, subst, arith, ℕ, List, [], ◌∷◌, ◌++◌, Some, None, Bool, true, false, length}
use Rattle.std.specs.Prelude.{◌==◌, ◌&&◌, if◌then◌else◌, map, ◌↔◌}
use Rattle.std.specs.List.{flat_map, list_all}
use Rattle.word_spec.specs.Memory.{Memory, Little}
use Rattle.word_spec.specs.State.{State}
use Rattle.bilv_spec.specs.Notes.{value}
use Rattle.pair_spec.specs.Links.{Link, EqualAtEntry, EqualAtExit, SharedBytes, SameBytes, line_of, addresses, have_bytes, agrees_at_entry, agrees_at_exit, first_line, unlinked_line, differing_line}
use Rattle.pair_spec.specs.PairTerms.{entry_words, exit_words, all_entry_words, all_exit_words, same_words}

-- the words of a state
abbrev pub words_in : State → List (State → ℕ) → List ℕ
words_in s words = map (λ f. f s) words

-- the words of a link on both sides are as many, and are the same where the link passes
pub record Tells (passes : Bool) (xs ys : List ℕ) : Type 0 where
  pub long : length xs ≡ length ys
  pub same : same_words xs ys ≡ passes

no_words : Tells true [] []
no_words = record { long = refl; same = refl }

one_word : (a b : ℕ) → Tells (a == b) (a ∷ []) (b ∷ [])
one_word a b = record { long = refl; same = by (a == b) }
  where
    by : (c : Bool) → (if c then true else false) ≡ c
    by true = refl
    by false = refl

applied : (s : State) (places : List ℕ) → words_in s (map (λ a (t : State). t.mem a) places) ≡ map s.mem places
applied s [] = refl
applied s (a ∷ places) = ap (λ z. s.mem a ∷ z) (applied s places)

if_and : (b : Bool) (x y : Bool) → x ≡ y → (if b then x else false) ≡ (b && y)
if_and true x y e = e
if_and false x y e = refl

bytes_tell : (places : List ℕ) (m n : Memory) → Tells (have_bytes places m n) (map m places) (map n places)
bytes_tell [] m n = no_words
bytes_tell (a ∷ places) m n =
    let t = bytes_tell places m n in
    record { long = (let e = t.long in omega arith); same = if_and (m a == n a) (same_words (map m places) (map n places)) (have_bytes places m n) t.same }

range_tells : (places : List ℕ) (s t : State) → Tells (have_bytes places s.mem t.mem) (words_in s (map (λ a (x : State). x.mem a) places))
    (words_in t (map (λ a (x : State). x.mem a) places))
range_tells places s t =
    subst (λ z. Tells (have_bytes places s.mem t.mem) z (words_in t (map (λ a (x : State). x.mem a) places))) (sym (applied s places))
    (subst (λ z. Tells (have_bytes places s.mem t.mem) (map s.mem places) z) (sym (applied t places)) (bytes_tell places s.mem t.mem))

pub entry_tells : (s t : State) (l : Link) → Tells (agrees_at_entry s t l) (words_in s (entry_words false l)) (words_in t (entry_words true l))
entry_tells s t (EqualAtEntry n x y) = one_word (value Little x s s) (value Little y t t)
entry_tells s t (SharedBytes n low high) = range_tells (addresses low high) s t
entry_tells s t (EqualAtExit n x y) = no_words
entry_tells s t (SameBytes n low high) = no_words

pub exit_tells : (s t : State) (l : Link) → Tells (agrees_at_exit s t l) (words_in s (exit_words false l)) (words_in t (exit_words true l))
exit_tells s t (EqualAtExit n x y) = one_word (value Little x s s) (value Little y t t)
exit_tells s t (SameBytes n low high) = range_tells (addresses low high) s t
exit_tells s t (EqualAtEntry n x y) = no_words
exit_tells s t (SharedBytes n low high) = no_words

-- one after the other
same_append : (xs ys vs ws : List ℕ) → length xs ≡ length ys → same_words (xs ++ vs) (ys ++ ws) ≡ (same_words xs ys && same_words vs ws)
same_append [] [] vs ws e = refl
same_append [] (y ∷ ys) vs ws e = absurd (omega arith)
same_append (x ∷ xs) [] vs ws e = absurd (omega arith)
same_append (x ∷ xs) (y ∷ ys) vs ws e = by (x == y) (same_append xs ys vs ws (omega arith))
  where
    by : (b : Bool) → same_words (xs ++ vs) (ys ++ ws) ≡ (same_words xs ys && same_words vs ws) →
        (if b then same_words (xs ++ vs) (ys ++ ws) else false) ≡ ((if b then same_words xs ys else false) && same_words vs ws)
    by true h = h
    by false h = refl

pub apply_append : (s : State) (fs gs : List (State → ℕ)) → words_in s (fs ++ gs) ≡ words_in s fs ++ words_in s gs
apply_append s [] gs = refl
apply_append s (f ∷ fs) gs = ap (λ z. f s ∷ z) (apply_append s fs gs)

module _ (s t : State) (passes : Link → Bool) (first second : Link → List (State → ℕ))
    (each : (l : Link) → Tells (passes l) (words_in s (first l)) (words_in t (second l))) where
  all_tell : (links : List Link) → same_words (words_in s (flat_map first links)) (words_in t (flat_map second links)) ≡ list_all passes links
  all_tell [] = refl
  all_tell (l ∷ links) =
      ap (λ z. same_words z (words_in t (flat_map second (l ∷ links)))) (apply_append s (first l) (flat_map first links))
      ∙ ap (same_words (words_in s (first l) ++ words_in s (flat_map first links))) (apply_append t (second l) (flat_map second links))
      ∙ same_append (words_in s (first l)) (words_in t (second l)) (words_in s (flat_map first links)) (words_in t (flat_map second links)) (each l).long
      ∙ ap (λ z. z && same_words (words_in s (flat_map first links)) (words_in t (flat_map second links))) (each l).same
      ∙ ap (λ z. passes l && z) (all_tell links)

-- the first line that does not pass is there exactly where not all pass
module _ (passes : Link → Bool) where
  none_from : (links : List Link) → list_all passes links ≡ true → first_line passes links ≡ None
  none_from [] h = refl
  none_from (l ∷ links) h = by (passes l) h (none_from links)
    where
      by : (b : Bool) → (b && list_all passes links) ≡ true → (list_all passes links ≡ true → first_line passes links ≡ None) →
          (if b then first_line passes links else Some (line_of l)) ≡ None
      by true g f = f g
      by false g f = absurd (cc)

  some_from : (links : List Link) → list_all passes links ≡ false → (line : ℕ) × (first_line passes links ≡ Some line)
  some_from [] h = absurd (cc)
  some_from (l ∷ links) h = by (passes l) h (some_from links)
    where
      by : (b : Bool) → (b && list_all passes links) ≡ false → (list_all passes links ≡ false → (line : ℕ) × (first_line passes links ≡ Some line)) →
          (line : ℕ) × ((if b then first_line passes links else Some (line_of l)) ≡ Some line)
      by true g f = f g
      by false g f = (line_of l, refl)

  all_from : (links : List Link) (b : Bool) → list_all passes links ≡ b → first_line passes links ≡ None → list_all passes links ≡ true
  all_from links true e h = e
  all_from links false e h = let s = some_from links e in absurd (let x : Some s.0 ≡ None = sym s.1 ∙ h in cc)

  not_all_from : (links : List Link) (b : Bool) (line : ℕ) → list_all passes links ≡ b → first_line passes links ≡ Some line → list_all passes links ≡ false
  not_all_from links false line e h = e
  not_all_from links true line e h = absurd (let x : Some line ≡ None = sym h ∙ none_from links e in cc)

-- two entry states are linked where the words are the same
pub linked_words : (links : List Link) (s t : State) →
    (same_words (words_in s (all_entry_words false links)) (words_in t (all_entry_words true links)) ≡ true) ↔ (unlinked_line links s t ≡ None)
linked_words links s t =
    let e = all_tell s t (agrees_at_entry s t) (entry_words false) (entry_words true) (entry_tells s t) links in (
      (λ h. none_from (agrees_at_entry s t) links (sym e ∙ h)),
      (λ h. e ∙ all_from (agrees_at_entry s t) links (list_all (agrees_at_entry s t) links) refl h),
    )

-- two exit states differ where the words are not
pub differing_words : (links : List Link) (s t : State) →
    (same_words (words_in s (all_exit_words false links)) (words_in t (all_exit_words true links)) ≡ false)
    ↔ ((line : ℕ) × (differing_line links s t ≡ Some line))
differing_words links s t =
    let e = all_tell s t (agrees_at_exit s t) (exit_words false) (exit_words true) (exit_tells s t) links in (
      (λ h. some_from (agrees_at_exit s t) links (sym e ∙ h)),
      (λ h. e ∙ not_all_from (agrees_at_exit s t) links (list_all (agrees_at_exit s t) links) h.0 refl h.1),
    )
