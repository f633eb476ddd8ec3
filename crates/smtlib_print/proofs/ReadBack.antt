-- S-expressions are read back from their texts.
use Rattle.std.proofs.Common.{◌≡◌, ℕ, refl, ap, sym, ◌∙◌, true, false, Bool, List, [], ◌∷◌, ◌++◌, Some, append_assoc, append-nil}
use Rattle.std.specs.Prelude.{◌==◌, ◌&&◌, ◌||◌, not, if◌then◌else◌}
use Rattle.std.specs.List.{list_all}
use Rattle.std.proofs.lemmas.List.Folds.{list_all-append}
use Rattle.bilv_spec.specs.SmtLib.{Sexp, Atom, Nil, Cons, words_after, in_innermost, close_list, open_lists, only_list, sexps_of}
use Rattle.bilv_spec.specs.Scripts.{is_plain_byte}
use Rattle.smtlib_print.specs.Written.{written, rest_written, commands_text, before}

-- a byte that parts two words
abbrev pub parts : ℕ → Bool
parts b = (b == 32) || (b == 10)

-- a bracket
abbrev pub is_bracket : ℕ → Bool
is_bracket b = (b == 40) || (b == 41)

-- a byte of a word
abbrev pub is_inner : ℕ → Bool
is_inner b = not (parts b) && not (is_bracket b) && is_plain_byte b

-- a word that is written as it stands
abbrev pub is_word : List ℕ → Bool
is_word [] = false
is_word (b ∷ w) = list_all is_inner (b ∷ w)

-- each word of an S-expression is one, and lists end
abbrev mutual
  pub IsWritable : Sexp → Type 0
  IsWritable (Atom w) = is_word w ≡ true
  IsWritable Nil = Unit {0}
  IsWritable (Cons e rest) = IsWritable e × IsRest rest

  pub IsRest : Sexp → Type 0
  IsRest (Atom w) = ⊥
  IsRest Nil = Unit {0}
  IsRest (Cons e rest) = IsWritable e × IsRest rest

-- the open lists in front of a text
abbrev lists : List ℕ → List Sexp
lists text = open_lists (words_after [] text)

-- a text that begins with what ends a word
abbrev Ends : List ℕ → Type 0
Ends [] = Unit {0}
Ends (b ∷ rest) = (parts b || is_bracket b) ≡ true

first_of : (a b : Bool) → (a && b) ≡ true → a ≡ true
first_of true b h = refl
first_of false b h = absurd (cc h)

second_of : (a b : Bool) → (a && b) ≡ true → b ≡ true
second_of true b h = h
second_of false b h = absurd (cc h)

inner_parts : (p q r : Bool) → (not p && not q && r) ≡ true → (p ≡ false) × (q ≡ false)
inner_parts true q r h = absurd (cc h)
inner_parts false true r h = absurd (cc h)
inner_parts false false r h = (refl, refl)

-- a word is read on
word_on : (v w rest : List ℕ) → list_all is_inner w ≡ true → words_after v (w ++ rest) ≡ words_after (v ++ w) rest
word_on v [] rest h = ap (λ z. words_after z rest) (sym (append-nil v))
word_on v (b ∷ w) rest h =
    let i = inner_parts (parts b) (is_bracket b) _ (first_of (is_inner b) (list_all is_inner w) h) in
    rw (i.0, i.1) (word_on (v ++ b ∷ []) w rest (second_of (is_inner b) (list_all is_inner w) h) ∙ ap (λ z. words_after z rest) (append_assoc v (b ∷ []) w))

-- a word ends
by_tests : (p q : Bool) (w : List ℕ) (c other : List (List ℕ)) (another rest : List (List ℕ)) → (p || q) ≡ true →
    (if p then w ∷ rest else if q then w ∷ c ++ rest else other) ≡ w ∷ (if p then rest else if q then c ++ rest else another)
by_tests true q w c other another rest h = refl
by_tests false true w c other another rest h = refl
by_tests false false w c other another rest h = absurd (cc h)

word_ends : (b : ℕ) (w rest : List ℕ) → Ends rest → words_after (b ∷ w) rest ≡ (b ∷ w) ∷ words_after [] rest
word_ends b w [] h = refl
word_ends b w (c ∷ rest) h = by_tests (parts c) (is_bracket c) (b ∷ w) ((c ∷ []) ∷ []) _ _ (words_after [] rest) h

no_brackets : (a b : Bool) → (a || b) ≡ false → (a ≡ false) × (b ≡ false)
no_brackets true b h = absurd (cc h)
no_brackets false b h = (refl, h)

word_read : (w rest : List ℕ) → is_word w ≡ true → Ends rest → lists (w ++ rest) ≡ in_innermost (Atom w) (lists rest)
word_read [] rest h k = absurd (cc h)
word_read (b ∷ w) rest h k =
    let f = first_of (is_inner b) (list_all is_inner w) h in
    let i = no_brackets (b == 40) (b == 41) (inner_parts (parts b) (is_bracket b) _ f).1 in
    ap open_lists (word_on [] (b ∷ w) rest h ∙ word_ends b w rest k) ∙ rw (i.0, i.1) refl

-- the elements that follow begin with what ends a word
rest_ends : (r : Sexp) (rest : List ℕ) → IsRest r → Ends (rest_written r ++ rest)
rest_ends (Atom w) rest h = absurd h
rest_ends Nil rest h = refl
rest_ends (Cons e r) rest h = refl

-- an S-expression is read, and elements that follow
record IsRead (e : Sexp) : Type 0 where
  alone : (rest : List ℕ) → IsWritable e → Ends rest → lists (written e ++ rest) ≡ in_innermost e (lists rest)
  behind : (rest : List ℕ) → IsRest e → lists (rest_written e ++ rest) ≡ e ∷ lists rest

read_list : (e r : Sexp) (rest : List ℕ) → IsRead e → IsRead r → IsWritable e → IsRest r → lists ((written e ++ rest_written r) ++ rest) ≡ Cons e r ∷ lists rest
read_list e r rest i j h k =
    ap lists (append_assoc (written e) (rest_written r) rest) ∙ i.alone (rest_written r ++ rest) h (rest_ends r rest k) ∙ ap (in_innermost e) (j.behind rest k)

read : (e : Sexp) → IsRead e
read (Atom w) = record { alone = λ rest h k. word_read w rest h k; behind = λ rest h. absurd h }
read Nil = record { alone = λ rest h k. refl; behind = λ rest h. refl }
read (Cons e r) = record {
  alone = λ rest h k. ap close_list (read_list e r rest (read e) (read r) h.0 h.1);
  behind = λ rest h. read_list e r rest (read e) (read r) h.0 h.1;
}

abbrev pub AreWritable : List Sexp → Type 0
AreWritable [] = Unit {0}
AreWritable (c ∷ cs) = IsWritable c × AreWritable cs

lists_of : (cs : List Sexp) → AreWritable cs → lists (commands_text cs) ≡ before cs Nil ∷ []
lists_of [] h = refl
lists_of (c ∷ cs) h = (read c).alone (10 ∷ commands_text cs) h.0 refl ∙ ap (in_innermost c) (lists_of cs h.1)

-- the commands of the text of commands
pub read_back : (cs : List Sexp) → AreWritable cs → sexps_of (commands_text cs) ≡ Some (before cs Nil)
read_back cs h = ap only_list (lists_of cs h)

pub AreWritable-append : (cs ds : List Sexp) → AreWritable cs → AreWritable ds → AreWritable (cs ++ ds)
AreWritable-append [] ds h k = k
AreWritable-append (c ∷ cs) ds h k = (h.0, AreWritable-append cs ds h.1 k)

-- the bytes of a text of commands are plain
abbrev pub ArePlain : List ℕ → Type 0
ArePlain text = list_all is_plain_byte text ≡ true

plain_append : (s t : List ℕ) → ArePlain s → ArePlain t → ArePlain (s ++ t)
plain_append s t h k = list_all-append is_plain_byte s t ∙ rw (h, k) refl

third_of : (p q r : Bool) → (not p && not q && r) ≡ true → r ≡ true
third_of true q r h = absurd (cc h)
third_of false true r h = absurd (cc h)
third_of false false r h = h

inner_plain : (w : List ℕ) → list_all is_inner w ≡ true → ArePlain w
inner_plain [] h = refl
inner_plain (b ∷ w) h =
    let i = third_of (parts b) (is_bracket b) (is_plain_byte b) (first_of (is_inner b) (list_all is_inner w) h) in
    rw (i, inner_plain w (second_of (is_inner b) (list_all is_inner w) h)) refl

record IsPlainly (e : Sexp) : Type 0 where
  alone : IsWritable e → ArePlain (written e)
  behind : IsRest e → ArePlain (rest_written e)

word_plain : (w : List ℕ) → is_word w ≡ true → ArePlain w
word_plain [] h = refl
word_plain (b ∷ w) h = inner_plain (b ∷ w) h

plainly : (e : Sexp) → IsPlainly e
plainly (Atom w) = record { alone = word_plain w; behind = λ h. absurd h }
plainly Nil = record { alone = λ h. refl; behind = λ h. refl }
plainly (Cons e r) = record {
  alone = λ h. plain_append (written e) (rest_written r) ((plainly e).alone h.0) ((plainly r).behind h.1);
  behind = λ h. plain_append (written e) (rest_written r) ((plainly e).alone h.0) ((plainly r).behind h.1);
}

pub commands_plain : (cs : List Sexp) → AreWritable cs → ArePlain (commands_text cs)
commands_plain [] h = refl
commands_plain (c ∷ cs) h = plain_append (written c) (10 ∷ commands_text cs) ((plainly c).alone h.0) (commands_plain cs h.1)
