-- Readings that follow one another, and the loops over the values of an array.
use Rattle.std.proofs.Common.{◌≡◌, ℕ, ◌+◌, ◌<◌, ◌≤◌, ◌==◌, true, false, Bor, List, [], ◌∷◌, ◌++◌, Option, Some, None, length, get_or, drop, take, map, codes, option_copied, unwrap_or, refl, ap, sym, subst, ◌∙◌, String, Global, append_assoc, append-nil, string_bytes}
use Rattle.std.proofs.lemmas.Bool.{false≢true}
use Rattle.std.proofs.lemmas.List.{at_drop_more, at_drop_all, take_more, map-append}
use Rattle.std.specs.List.{list_any}
use Rattle.std.specs.Option.{option_or}
use Rattle.std.specs.Str.{bytes_eq}
use Rattle.toml.specs.Data.{Data, Items, item, Members, as_str}
use Rattle.toml.specs.View.{view, items_view, members_view}
use Rattle.toml.proofs.Views.{Entry}
use Rattle.toml.specs.declared.value.Value.{Value}
use Rattle.suite_file.specs.Suites.{Read, Got, Refused, Fault, WrongType, Missing, Place, Text, Check, Defaults, ◌>>=◌, needed, texts_in, check_in, check_of, checks_in, some_of, text_at, first_repeated, first_unknown}
use Rattle.suite_file.specs.Views.{IsFaultOf, IsRefusal, check_view, fault_of}
use Rattle.suite_file.specs.declared.check.Check.{Check as CodeCheck}
use Rattle.suite_file.specs.declared.fault.SuiteFault.{SuiteFault}

faulty_after : {A B : Type 0} (m : Read A) (f : A → Read B) (o : Option Fault) → IsFaultOf m o → IsFaultOf (m >>= f) o
faulty_after m f None h = tt
faulty_after m f (Some fault) h = ap (λ r. r >>= f) h

-- a refusal stays one, whatever is read behind it
pub refused_after : {A B : Type 0} (m : Read A) (f : A → Read B) (e : SuiteFault) → IsRefusal m e → IsRefusal (m >>= f) e
refused_after m f e h = faulty_after m f (fault_of e) h

faulty_behind : {A B : Type 0} (m : Read A) (a : A) (f : A → Read B) (o : Option Fault) → m ≡ Got a → IsFaultOf (f a) o → IsFaultOf (m >>= f) o
faulty_behind m a f None e h = tt
faulty_behind m a f (Some fault) e h = ap (λ r. r >>= f) e ∙ h

-- what is read behind what was read
pub refused_behind : {A B : Type 0} (m : Read A) (a : A) (f : A → Read B) (e : SuiteFault) → m ≡ Got a → IsRefusal (f a) e → IsRefusal (m >>= f) e
refused_behind m a f e is h = faulty_behind m a f (fault_of e) is h

-- reading the rest of an array behind what was read of it
abbrev pub behind : {A : Type 0} → List A → Read (List A) → Read (List A)
behind xs (Got ys) = Got (xs ++ ys)
behind xs (Refused f) = Refused f

pub behind-one : {A : Type 0} (xs : List A) (x : A) (r : Read (List A)) → behind xs (r >>= λ ys. Got (x ∷ ys)) ≡ behind (xs ++ x ∷ []) r
behind-one xs x (Got ys) = ap Got (sym (append_assoc xs (x ∷ []) ys))
behind-one xs x (Refused f) = refl

pub behind-none : {A : Type 0} (r : Read (List A)) → behind [] r ≡ r
behind-none (Got ys) = refl
behind-none (Refused f) = refl

faulty_in_behind : {A : Type 0} (xs : List A) (r : Read (List A)) (o : Option Fault) → IsFaultOf r o → IsFaultOf (behind xs r) o
faulty_in_behind xs r None h = tt
faulty_in_behind xs r (Some fault) h = ap (behind xs) h

pub refused_in_behind : {A : Type 0} (xs : List A) (r : Read (List A)) (e : SuiteFault) → IsRefusal r e → IsRefusal (behind xs r) e
refused_in_behind xs r e h = faulty_in_behind xs r (fault_of e) h

pub refusal_at : {A : Type 0} (r s : Read A) (e : SuiteFault) → r ≡ s → IsRefusal r e → IsRefusal s e
refusal_at r s e same h = subst (λ x. IsRefusal x e) same h

-- ---- arrays

-- the texts of what is left of an array, of which one more is a text
pub texts_more : (p : Place) (k : Text) (read : List Text) (vs : List Value) (i : ℕ) (v : Value) (text : Text) → i < length vs → get_or vs i v ≡ v → as_str (view v) ≡ Some text
    → behind read (texts_in p k (items_view (drop i vs))) ≡ behind (read ++ text ∷ []) (texts_in p k (items_view (drop (i + 1) vs)))
texts_more p k read vs i v text h here is =
    at_drop_more (λ t. behind read (texts_in p k (items_view t))) vs i v h
    ∙ rw (here, is) (behind-one read text (texts_in p k (items_view (drop (i + 1) vs))))

pub texts_start : (p : Place) (k : Text) (read : List (String Global)) (vs : List Value) → read ≡ []
    → behind (map string_bytes read) (texts_in p k (items_view vs)) ≡ texts_in p k (items_view vs)
texts_start p k read vs none = rw none (behind-none (texts_in p k (items_view vs)))

-- one that is none
pub texts_none : (p : Place) (k : Text) (read : List Text) (vs : List Value) (i : ℕ) (v : Value) → i < length vs → get_or vs i v ≡ v → as_str (view v) ≡ None
    → behind read (texts_in p k (items_view (drop i vs))) ≡ Refused (WrongType p k)
texts_none p k read vs i v h here is = at_drop_more (λ t. behind read (texts_in p k (items_view t))) vs i v h ∙ rw (here, is) refl

pub texts_end : (p : Place) (k : Text) (read : List Text) (vs : List Value) (i : ℕ) → length vs ≤ i → behind read (texts_in p k (items_view (drop i vs))) ≡ Got read
texts_end p k read vs i h = at_drop_all (λ t. behind read (texts_in p k (items_view t))) vs i h ∙ ap Got (append-nil read)

pub some_of_view : (vs : List Value) → (length vs == 0) ≡ false → some_of (Some (items_view vs)) ≡ Got (items_view vs)
some_of_view [] h = absurd (false≢true (sym h))
some_of_view (v ∷ vs) h = refl

-- ---- checks

pub checks_more : (d : Defaults) (n : ℕ) (read : List Check) (vs : List Value) (i : ℕ) (v : Value) (c : Check) → i < length vs → get_or vs i v ≡ v → check_in d n (view v) ≡ Got c
    → behind read (checks_in d n (items_view (drop i vs))) ≡ behind (read ++ c ∷ []) (checks_in d (n + 1) (items_view (drop (i + 1) vs)))
checks_more d n read vs i v c h here is =
    at_drop_more (λ t. behind read (checks_in d n (items_view t))) vs i v h
    ∙ rw (here, is) (behind-one read c (checks_in d (n + 1) (items_view (drop (i + 1) vs))))

pub checks_start : (d : Defaults) (n : ℕ) (read : List CodeCheck) (vs : List Value) → read ≡ []
    → behind (map check_view read) (checks_in d n (items_view vs)) ≡ checks_in d n (items_view vs)
checks_start d n read vs none = rw none (behind-none (checks_in d n (items_view vs)))

pub checks_end : (d : Defaults) (n : ℕ) (read : List Check) (vs : List Value) (i : ℕ) → length vs ≤ i → behind read (checks_in d n (items_view (drop i vs))) ≡ Got read
checks_end d n read vs i h = at_drop_all (λ t. behind read (checks_in d n (items_view t))) vs i h ∙ ap Got (append-nil read)

faulty_check : (d : Defaults) (n : ℕ) (read : List Check) (here : Data) (rest : Items) (o : Option Fault) → IsFaultOf (check_in d n here) o
    → IsFaultOf (behind read (checks_in d n (item here rest))) o
faulty_check d n read here rest None h = tt
faulty_check d n read here rest (Some fault) h = ap (λ r. behind read (r >>= λ check. checks_in d (n + 1) rest >>= λ checks. Got (check ∷ checks))) h

pub check_refused : (d : Defaults) (n : ℕ) (read : List Check) (vs : List Value) (i : ℕ) (v : Value) (e : SuiteFault) → i < length vs → get_or vs i v ≡ v → IsRefusal (check_in d n (view v)) e
    → IsRefusal (behind read (checks_in d n (items_view (drop i vs)))) e
check_refused d n read vs i v e h here is =
    refusal_at _ _ e (sym (at_drop_more (λ t. behind read (checks_in d n (items_view t))) vs i v h ∙ rw here refl))
    (faulty_check d n read (view v) (items_view (drop (i + 1) vs)) (fault_of e) is)

-- ---- texts of a check

abbrev check_by : Place → (elf : Option Text) → (notes name own expect : Read (Option Text)) → Read (List Text → Check)
check_by place elf notes_read name_read own_read expect_read = do
  notes_found ← notes_read
  notes ← needed (Missing place (codes "notes")) notes_found
  name ← name_read
  own_elf ← own_read
  elf ← needed (Missing place (codes "elf")) (option_or own_elf elf)
  expect ← expect_read
  Got (λ options. record { name = unwrap_or name notes; notes = notes; elf = elf; options = options; expect = unwrap_or expect (codes "holds") })

check_by_got : (p : Place) (elf : Option Text) (a b c d : Read (Option Text)) (notes : Text) (name own expect : Option Text) (e : Text) → a ≡ Got (Some notes) → b ≡ Got name
    → c ≡ Got own → option_or own elf ≡ Some e → d ≡ Got expect
    → check_by p elf a b c d ≡ Got (λ options. record { name = unwrap_or name notes; notes = notes; elf = e; options = options; expect = unwrap_or expect (codes "holds") })
check_by_got p elf a b c d notes name own expect e ea eb ec ee ed = rw (ea, eb, ec, ee, ed) refl

pub check_got : (p : Place) (elf : Option Text) (ms : Members) (notes : Text) (name own expect : Option Text) (e : Text) → text_at p (codes "notes") ms ≡ Got (Some notes)
    → text_at p (codes "name") ms ≡ Got name → text_at p (codes "elf") ms ≡ Got own → option_or own elf ≡ Some e → text_at p (codes "expect") ms ≡ Got expect
    → check_of p elf ms ≡ Got (λ options. record { name = unwrap_or name notes; notes = notes; elf = e; options = options; expect = unwrap_or expect (codes "holds") })
check_got p elf ms notes name own expect e ea eb ec ee ed = check_by_got p elf _ _ _ _ notes name own expect e ea eb ec ee ed

-- the text that stands for one that is not there
pub copied_or : (o : Option (Bor (List ℕ))) (d : Bor (List ℕ)) → unwrap_or (option_copied o) d.now ≡ (unwrap_or o d).now
copied_or None d = refl
copied_or (Some x) d = refl

pub copied_first : (a b : Option (Bor (List ℕ))) → option_or (option_copied a) (option_copied b) ≡ option_copied (option_or a b)
copied_first None b = refl
copied_first (Some x) b = refl

-- ---- names

pub first_more : (cs : List CodeCheck) (i : ℕ) (c : CodeCheck) → i < length cs → get_or cs i c ≡ c → list_any (λ e. bytes_eq e.name (string_bytes c.name)) (map check_view (take i cs)) ≡ false
    → first_repeated (map check_view (take i cs)) (map check_view (drop i cs)) ≡ first_repeated (map check_view (take (i + 1) cs)) (map check_view (drop (i + 1) cs))
first_more cs i c h here new =
    at_drop_more (λ t. first_repeated (map check_view (take i cs)) (map check_view t)) cs i c h
    ∙ rw (here, new) (ap (λ t. first_repeated t (map check_view (drop (i + 1) cs))) (sym (ap (map check_view) (take_more cs i c h ∙ rw here refl) ∙ map-append check_view (take i cs) (c ∷ []))))

pub first_here : (cs : List CodeCheck) (i : ℕ) (c : CodeCheck) → i < length cs → get_or cs i c ≡ c → list_any (λ e. bytes_eq e.name (string_bytes c.name)) (map check_view (take i cs)) ≡ true
    → first_repeated (map check_view (take i cs)) (map check_view (drop i cs)) ≡ Some (string_bytes c.name)
first_here cs i c h here old = at_drop_more (λ t. first_repeated (map check_view (take i cs)) (map check_view t)) cs i c h ∙ rw (here, old) refl

-- ---- keys

pub unknown_more : (known : List Text) (es : List Entry) (e : Entry) (rest : List Entry) → es ≡ e ∷ rest → list_any (λ x. bytes_eq x (string_bytes e.0)) known ≡ true
    → first_unknown known (members_view es) ≡ first_unknown known (members_view rest)
unknown_more known es e rest is old = rw (is, old) refl

pub unknown_here : (known : List Text) (es : List Entry) (e : Entry) (rest : List Entry) → es ≡ e ∷ rest → list_any (λ x. bytes_eq x (string_bytes e.0)) known ≡ false
    → first_unknown known (members_view es) ≡ Some (string_bytes e.0)
unknown_here known es e rest is new = rw (is, new) refl
