-- The made notes are read as what they say.
use Rattle.std.proofs.Common.{◌≡◌, ℕ, zero, suc, ◌+◌, ◌-◌, ◌*◌, ◌/◌, ◌%◌, ◌^◌, ◌<◌, ◌≤◌, List, [], ◌∷◌, ◌++◌, length, length-append, drop, refl, ap, sym, ◌∙◌, subst, lit<, lit≤, arith, Bool, true, false, Some}
use Rattle.std.specs.Prelude.{nat_lt, nat_eq, ◌==◌, ◌&&◌, if◌then◌else◌, codes}
use Rattle.std.specs.List.{All, AllByRecursion, list_all}
use Rattle.std.specs.Int.{IsInRange}
use Rattle.std.specs.Char.{digit_value}
use Rattle.std.specs.Str.Parse.{digits_value}
use Rattle.std.proofs.Math.Seq.{drop-length}
use Rattle.std.proofs.lemmas.Bool.Decides.{nat_tests}
use Rattle.std.proofs.lemmas.Bool.{and_parts}
use Rattle.std.proofs.lemmas.Fmt.{length-decimal-le}
use Rattle.std.proofs.lemmas.Int.Digits.{digits_value_push}
use Rattle.std.proofs.lemmas.List.{append-nil}
use Rattle.std.proofs.lemmas.List.Elements.{All-cons}
use Rattle.std.proofs.lemmas.List.Folds.{list_all-append}
use Rattle.std.proofs.lemmas.List.Sums.{take_while-cons}
use Rattle.std.proofs.lemmas.Str.Parse.{digit_from_value}
use Rattle.bilv_spec.specs.Notes.{Expr, Register, Number, Binary, Equal, At}
use Rattle.word_spec.specs.Tokens.{Token, NumberToken, NameToken, SignToken, is_digit, is_hexadecimal, number_length, number_value, begins_with_letter, BadText, run_of, tokens_after, tokens_of}
use Rattle.notes_spec.specs.NotesGrammar.{Parses, tighter, binary_of, number_of, name_of, Says, EntryIs, RequireIs, EnsureIs, IsLine, IsGood, AreLines, IsNotesText, is_second, line_limit, lines_of, onto_first}
use Rattle.word_spec.specs.Texts.{are_digits, is_blank, is_digit_of, hex_digit, hex_digits, word_text, number_text, line, lines}
use Rattle.notes_spec.specs.Scopes.{Vocabulary, Scope, Plain, begin, named}
use Rattle.notes_spec.specs.RvNames.{rv_names, rv_table}
use Rattle.command_spec.specs.Work.{work_notes, result}
use Rattle.clause_spec.proofs.PrintedWords.{printed_digits}
use Rattle.machine_spec.proofs.Spelling.{Above, number_above, hex_word_above, hex_length}
use Rattle.answer_laws.proofs.ItemRows.{results_small}
use Rattle.answer_laws.proofs.WorkRuns.{made_notes}

-- bytes above CR
abbrev plain : List ℕ → Bool
plain text = list_all (λ b. nat_lt 13 b) text

above_plain : (w : List ℕ) → Above 32 w → plain w ≡ true
above_plain [] h = refl
above_plain (b ∷ w) h = let t : nat_lt 13 b ≡ true = grind (arith, nat_tests, h.0) in rw t (above_plain w h.1)

step_plain : (b : ℕ) (rest : List ℕ) → nat_lt 13 b ≡ true → lines_of (b ∷ rest) ≡ onto_first b (lines_of rest)
step_plain b rest h =
    let lf : (b == 10) ≡ false = grind (arith, nat_tests) in
    let cr : (b == 13) ≡ false = grind (arith, nat_tests) in
    simp (lf, cr)

plain_line : (text rest : List ℕ) → plain text ≡ true → lines_of ((text ++ 10 ∷ []) ++ rest) ≡ text ∷ lines_of rest
plain_line [] rest h = refl
plain_line (b ∷ text) rest h =
    let p = and_parts (nat_lt 13 b) (plain text) h in step_plain b ((text ++ 10 ∷ []) ++ rest) p.0 ∙ ap (onto_first b) (plain_line text rest p.1)

-- digits
digit_token : (d : ℕ) → is_digit_of 10 d ≡ true → (is_digit d ≡ true) × (is_blank d ≡ false) × ((d == 35) ≡ false) × (nat_eq 120 d ≡ false)
digit_token d h =
    let r : IsInRange 48 57 d = digit_from_value d (grind (arith, nat_tests)) in
    (grind (arith, nat_tests), grind (arith, nat_tests), grind (arith, nat_tests), grind (arith, nat_tests))

run_is : (base : ℕ) (ds : List ℕ) → list_all (is_digit_of base) ds ≡ true → run_of base ds ≡ ds
run_is base [] h = refl
run_is base (d ∷ ds) h =
    let p = and_parts _ _ h in
    take_while-cons (is_digit_of base) d ds ∙ ap (λ t. if t then d ∷ run_of base ds else []) p.0 ∙ ap (λ xs. d ∷ xs) (run_is base ds p.1)

middle_false : (a b c : Bool) → b ≡ false → (a && b && c) ≡ false
middle_false true b c e = ap (λ x. x && c) e
middle_false false b c e = refl

not_hexadecimal : (d : ℕ) (ds : List ℕ) → list_all (is_digit_of 10) (d ∷ ds) ≡ true → is_hexadecimal (d ∷ ds) ≡ false
not_hexadecimal d [] h = middle_false (nat_eq 48 d) false false refl
not_hexadecimal d (e ∷ ds) h =
    let t = digit_token e (and_parts _ _ (and_parts (is_digit_of 10 d) _ h).1).0 in
    middle_false (nat_eq 48 d) (nat_eq 120 e && true) _ (ap (λ b. b && true) t.3)

skipped : (ds : List ℕ) → tokens_after (length ds) ds ≡ []
skipped [] = refl
skipped (d ∷ ds) = skipped ds

decimal_scanned : (d : ℕ) (ds : List ℕ) → list_all (is_digit_of 10) (d ∷ ds) ≡ true → tokens_after 0 (d ∷ ds) ≡ NumberToken (digits_value 10 (d ∷ ds)) ∷ []
decimal_scanned d ds h =
    let t = digit_token d (and_parts _ _ h).0 in
    let run = run_is 10 (d ∷ ds) h in
    let hex = not_hexadecimal d ds h in
    let long : number_length (d ∷ ds) ≡ length (d ∷ ds) = simp (hex, run) in
    let before : length (d ∷ ds) - 1 ≡ length ds = omega arith in
    simp (t.0, t.1, t.2, hex, run, drop-length (d ∷ ds), before, skipped ds)

-- a number that is the whole text
whole : (n v : ℕ) (text rest : List ℕ) → n ≡ length text → length text ≡ suc (length rest) →
    (if begins_with_letter (drop n text) then BadText else NumberToken v) ∷ tokens_after (n - 1) rest ≡ NumberToken v ∷ []
whole n v text rest e l =
    let before : length text - 1 ≡ length rest = omega arith in
    rw e (simp (drop-length text, before, skipped rest))

hex_scanned : (d : ℕ) (ds : List ℕ) → list_all (is_digit_of 16) (d ∷ ds) ≡ true →
    tokens_after 0 (48 ∷ 120 ∷ d ∷ ds) ≡ NumberToken (digits_value 16 (d ∷ ds)) ∷ []
hex_scanned d ds h =
    let text : List ℕ = 48 ∷ 120 ∷ d ∷ ds in
    let run = run_is 16 (d ∷ ds) h in
    let hex : is_hexadecimal text ≡ true = ap (are_digits 16) run ∙ h in
    let long : number_length text ≡ 2 + length (d ∷ ds) =
    ap (λ b. if b then 2 + length (run_of 16 (d ∷ ds)) else length (run_of 10 text)) hex ∙ ap (λ r. 2 + length r) run in
    let value : number_value text ≡ digits_value 16 (d ∷ ds) =
    ap (λ b. if b then digits_value 16 (run_of 16 (d ∷ ds)) else digits_value 10 (run_of 10 text)) hex ∙ ap (digits_value 16) run in
    let all : number_length text ≡ length text = long ∙ (omega arith) in
    whole (number_length text) (number_value text) text (120 ∷ d ∷ ds) all refl ∙ ap (λ v. NumberToken v ∷ []) value

-- hexadecimal digits and their value
hex_value : (d : ℕ) → d < 16 → digit_value (hex_digit d) ≡ d
hex_value d h = grind (arith, nat_tests)

hex_is_digit : (d : ℕ) → d < 16 → is_digit_of 16 (hex_digit d) ≡ true
hex_is_digit d h = rw (hex_value d h) (grind (arith, nat_tests))

hex_all : (n v : ℕ) → list_all (is_digit_of 16) (hex_digits n v) ≡ true
hex_all zero v = refl
hex_all (suc n) v =
    rw (list_all-append (is_digit_of 16) (hex_digits n (v / 16)) (hex_digit (v % 16) ∷ []), hex_all n (v / 16), hex_is_digit (v % 16) (omega arith)) refl

hex_is : (n v : ℕ) → v < 16 ^ n → digits_value 16 (hex_digits n v) ≡ v
hex_is zero v h = omega arith
hex_is (suc n) v h =
    digits_value_push 16 (hex_digits n (v / 16)) (hex_digit (v % 16)) ∙ rw (hex_is n (v / 16) (omega arith), hex_value (v % 16) (omega arith)) (omega arith)

-- lines that are plain are read back, and are short
abbrev AllPlain : List (List ℕ) → Type 0
AllPlain [] = Unit {0}
AllPlain (l ∷ ls) = (plain l ≡ true) × AllPlain ls

lines_read : (ls : List (List ℕ)) → AllPlain ls → lines_of (lines ls) ≡ ls
lines_read [] h = refl
lines_read (l ∷ ls) h = plain_line l (lines ls) h.0 ∙ ap (λ xs. l ∷ xs) (lines_read ls h.1)

abbrev AllShort : List (List ℕ) → Type 0
AllShort [] = Unit {0}
AllShort (l ∷ ls) = (length l ≤ 1024) × AllShort ls

lines_short : (ls : List (List ℕ)) → AllShort ls → length (lines ls) ≤ 1025 * length ls
lines_short [] h = omega arith
lines_short (l ∷ ls) h =
    let a = length-append (line l) (lines ls) in
    let b = length-append l (10 ∷ []) in
    let rest = lines_short ls h.1 in
    let first = h.0 in
    omega arith

-- the tokens of a text, without their computation
read : List ℕ → List Token
read text = tokens_of text

require_scanned : (k : ℕ) (rest : List ℕ) → k < 2 → read (codes "require a" ++ (48 + k) ∷ codes " =" ++ 32 ∷ rest)
    ≡ NameToken (codes "require") ∷ NameToken (97 ∷ (48 + k) ∷ []) ∷ SignToken (codes "=") ∷ read rest
unfolding read
require_scanned zero rest h = refl
require_scanned (suc zero) rest h = refl
require_scanned (suc (suc k)) rest h = absurd (omega arith)

ensure_scanned : (rest : List ℕ) → read (codes "ensure a0 =" ++ 32 ∷ rest)
    ≡ NameToken (codes "ensure") ∷ NameToken (97 ∷ 48 ∷ []) ∷ SignToken (codes "=") ∷ read rest
unfolding read
ensure_scanned rest = refl

digits_read : (ds : List ℕ) → are_digits 10 ds ≡ true → read ds ≡ NumberToken (digits_value 10 ds) ∷ []
unfolding read
digits_read [] h = cc
digits_read (d ∷ ds) h = decimal_scanned d ds h

number_read : (n : ℕ) → n < 2 ^ 32 → read (number_text n ++ []) ≡ NumberToken n ∷ []
number_read n h =
    let wide : n < 10 ^ 64 = omega arith in
    let d = printed_digits n wide in
    ap read (append-nil (number_text n)) ∙ digits_read (number_text n) d.0 ∙ ap (λ v. NumberToken v ∷ []) d.1

hex_read : (ds : List ℕ) → 0 < length ds → list_all (is_digit_of 16) ds ≡ true → read (48 ∷ 120 ∷ ds) ≡ NumberToken (digits_value 16 ds) ∷ []
unfolding read
hex_read [] some h = absurd (omega arith)
hex_read (d ∷ ds) some h = hex_scanned d ds h

word_read : (v : ℕ) → v < 2 ^ 32 → read (word_text v ++ []) ≡ NumberToken v ∷ []
word_read v h =
    let long : 0 < length (hex_digits 8 v) = let l = hex_length 8 v in omega arith in
    ap read (append-nil (word_text v)) ∙ hex_read (hex_digits 8 v) long (hex_all 8 v) ∙ ap (λ n. NumberToken n ∷ []) (hex_is 8 v h)

-- an equation of a register and a number
abbrev said_by : (k n : ℕ) → List Token
said_by k n = NameToken (97 ∷ (48 + k) ∷ []) ∷ SignToken (codes "=") ∷ NumberToken n ∷ []

-- what notes call RISC-V without compressed instructions
abbrev pub rv_words : Vocabulary
rv_words = record { names = rv_names; narrow = false; dialect = Plain }

-- words mean what the machine has, on the first line and on later ones
abbrev scope : (is_first : Bool) → Scope
scope is_first = record (begin rv_words false) { is_first = is_first }

name_is : (k : ℕ) → k < 2 → named (scope false) (97 ∷ (48 + k) ∷ []) ≡ Some (Register (10 + k))
unfolding rv_table
name_is zero h = refl
name_is (suc zero) h = refl
name_is (suc (suc k)) h = absurd (omega arith)

loosen : (e : Expr) (ts : List Token) → Parses (scope false) 11 ts e → Parses (scope false) 5 ts e
loosen e ts p = tighter (lit< tt) (tighter (lit< tt) (tighter (lit< tt) (tighter (lit< tt) (tighter (lit< tt) (tighter (lit< tt) p)))))

parses : (k n : ℕ) → k < 2 → Parses (scope false) 1 (said_by k n) (Binary Equal (Register (10 + k)) (Number n))
parses k n h =
    let a = loosen (Register (10 + k)) (NameToken (97 ∷ (48 + k) ∷ []) ∷ []) (name_of (name_is k h)) in
    let b = loosen (Number n) (NumberToken n ∷ []) number_of in
    tighter (lit< tt) (tighter (lit< tt) (tighter (lit< tt) (binary_of {t = SignToken (codes "=")} (2, lit< tt, refl) a b refl)))

no_tokens : All IsGood []
no_tokens i d h = absurd (omega arith)

all_good : (ts : List Token) → AllByRecursion IsGood ts → All IsGood ts
all_good [] h = no_tokens
all_good (t ∷ ts) h = All-cons IsGood t ts h.0 (all_good ts h.1)

good_said : (word : List ℕ) (k n : ℕ) → n < 2 ^ 32 → All IsGood (NameToken word ∷ said_by k n)
good_said word k n h = all_good (NameToken word ∷ said_by k n) (tt, (tt, (tt, (h, tt))))

entry_line : IsLine (scope true) (codes "entry 0x10000") (EntryIs (At 65536))
entry_line = record {
  short = lit≤ tt;
  good = all_good (NameToken (codes "entry") ∷ NumberToken 65536 ∷ []) (tt, (lit< tt, tt));
  depth = lit≤ tt;
  said = (NumberToken 65536, refl, refl);
  aligned = refl;
  range = tt;
  version = tt;
  new = tt;
  alone = λ e. refl;
}

-- a line of the first words and a number
abbrev require_text : (k n : ℕ) → List ℕ
require_text k n = codes "require a" ++ (48 + k) ∷ codes " =" ++ 32 ∷ (number_text n ++ [])

abbrev ensure_text : ℕ → List ℕ
ensure_text v = codes "ensure a0 =" ++ 32 ∷ (word_text v ++ [])

number_short : (n : ℕ) → n < 2 ^ 32 → length (number_text n ++ []) ≤ 10
number_short n h =
    let l = ap length (append-nil (number_text n)) in
    let d = length-decimal-le 10 n (lit< tt) (omega arith) (omega arith) in
    omega arith

word_short : (v : ℕ) → length (word_text v ++ []) ≡ 10
word_short v = ap length (append-nil (word_text v)) ∙ (let l = hex_length 8 v in omega arith)

require_short : (k n : ℕ) → n < 2 ^ 32 → length (require_text k n) ≤ 1024
require_short k n h = let l = number_short n h in omega arith

ensure_short : (v : ℕ) → length (ensure_text v) ≤ 1024
ensure_short v = let l = word_short v in omega arith

require_tokens : (k n : ℕ) → k < 2 → n < 2 ^ 32 → read (require_text k n) ≡ NameToken (codes "require") ∷ said_by k n
require_tokens k n h l =
    require_scanned k (number_text n ++ []) h
    ∙ ap (λ ts. NameToken (codes "require") ∷ NameToken (97 ∷ (48 + k) ∷ []) ∷ SignToken (codes "=") ∷ ts) (number_read n l)

ensure_tokens : (v : ℕ) → v < 2 ^ 32 → read (ensure_text v) ≡ NameToken (codes "ensure") ∷ said_by 0 v
ensure_tokens v l =
    ensure_scanned (word_text v ++ []) ∙ ap (λ ts. NameToken (codes "ensure") ∷ NameToken (97 ∷ 48 ∷ []) ∷ SignToken (codes "=") ∷ ts) (word_read v l)

require_line : (k n : ℕ) → k < 2 → n < 2 ^ 32 → IsLine (scope false) (require_text k n) (RequireIs (Binary Equal (Register (10 + k)) (Number n)))
unfolding read
require_line k n h l =
    let ts : tokens_of (require_text k n) ≡ NameToken (codes "require") ∷ said_by k n = require_tokens k n h l in
    record {
      short = require_short k n l;
      good = subst (All IsGood) (sym ts) (good_said (codes "require") k n l);
      depth = rw ts (lit≤ tt);
      said = (said_by k n, ts, parses k n h);
      aligned = tt;
      range = tt;
      version = tt;
      new = tt;
      alone = λ e. refl;
    }

ensure_line : (v : ℕ) → v < 2 ^ 32 → IsLine (scope false) (ensure_text v) (EnsureIs (Binary Equal (Register 10) (Number v)))
unfolding read
ensure_line v l =
    let ts : tokens_of (ensure_text v) ≡ NameToken (codes "ensure") ∷ said_by 0 v = ensure_tokens v l in
    record {
      short = ensure_short v;
      good = subst (All IsGood) (sym ts) (good_said (codes "ensure") 0 v l);
      depth = rw ts (lit≤ tt);
      said = (said_by 0 v, ts, parses 0 v (lit< tt));
      aligned = tt;
      range = tt;
      version = tt;
      new = tt;
      alone = λ e. refl;
    }

-- the texts are plain
end_plain : (w : List ℕ) → Above 32 w → plain (w ++ []) ≡ true
end_plain w h = ap plain (append-nil w) ∙ above_plain w h

require_plain : (k n : ℕ) → n < 2 ^ 32 → plain (require_text k n) ≡ true
require_plain k n h =
    let a : nat_lt 13 (48 + k) ≡ true = grind (arith, nat_tests) in
    let b = end_plain (number_text n) (number_above n (omega arith)) in
    rw a b

ensure_plain : (v : ℕ) → plain (ensure_text v) ≡ true
ensure_plain v = end_plain (word_text v) (hex_word_above 8 v)

module _ (seed count : ℕ) (seed_small : seed < 2 ^ 31) (few : count ≤ 16000) where
  small : result seed count < 2 ^ 32
  small = results_small seed seed count count (omega arith)

  abbrev texts : List (List ℕ)
  texts = codes "entry 0x10000" ∷ require_text 0 seed ∷ require_text 1 count ∷ ensure_text (result seed count) ∷ []

  abbrev says : List Says
  says =
      EntryIs (At 65536) ∷ RequireIs (Binary Equal (Register 10) (Number seed)) ∷ RequireIs (Binary Equal (Register 11) (Number count))
      ∷ EnsureIs (Binary Equal (Register 10) (Number (result seed count))) ∷ []

  lines_are : lines_of (work_notes seed count) ≡ texts
  lines_are =
      lines_read texts (refl, (require_plain 0 seed (omega arith), (require_plain 1 count (omega arith), (ensure_plain (result seed count), tt))))

  pub reads_made : IsNotesText rv_words (work_notes seed count) (made_notes seed count)
  reads_made = record {
    short = subst (λ (ls : List (List ℕ)). length ls ≤ line_limit (is_second ls)) (sym lines_are) (lit≤ tt);
    says = says;
    lines = subst (λ (ls : List (List ℕ)). AreLines (begin rv_words (is_second ls)) ls says) (sym lines_are) (
      entry_line,
      (
        require_line 0 seed (lit< tt) (omega arith),
        (require_line 1 count (lit< tt) (omega arith), (ensure_line (result seed count) small, tt)),
      ),
    );
    unmixed = refl;
    notes_are = (refl, refl, refl, refl, refl, refl, λ i q d h l e. absurd (omega arith));
  }

  pub made_short : length (work_notes seed count) ≤ 262144
  made_short =
      let l = lines_short texts
      (lit≤ tt, (require_short 0 seed (omega arith), (require_short 1 count (omega arith), (ensure_short (result seed count), tt)))) in
      omega arith
