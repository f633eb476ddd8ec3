-- What the grammar reads, a machine can evaluate.
use Rattle.std.proofs.Common.{◌≡◌, ℕ, zero, suc, ◌+◌, ◌<◌, ◌≤◌, ◌^◌, refl, ap, sym, ◌∙◌, subst, arith, List, [], ◌∷◌, ◌++◌, map, Option, Some, None, Bool, true, false, if◌then◌else◌, ◌&&◌, nat_le, bytes_eq, All, Contains, IsTrue, codes}
use Rattle.std.specs.List.{list_all, list_any}
use Rattle.std.specs.Prelude.{◌*◌, ◌==◌, ◌||◌, filter, length, nat_eq, sum_by}
use Rattle.std.proofs.lemmas.Bool.Decides.{nat_tests}
use Rattle.std.proofs.lemmas.List.Elements.{All-nil, All-cons, All-head, All-tail, All-append, All-map}
use Rattle.std.proofs.lemmas.List.Sums.{sum_by-cons}
use Rattle.std.proofs.lemmas.Map.Views.{any-filter_same}
use Rattle.word_spec.specs.RowFiles.{from_to}
use Rattle.word_spec.specs.Memory.{Little}
use Rattle.bilv_spec.specs.Notes.{Expr, Number, Register, Flag, Pc, Bound, Memory, Old, Not, Binary, NoteLine, Notes, put_bound, each, values}
use Rattle.frame_spec.specs.Frames.{Contract, Writes}
use Rattle.notes_spec.specs.FrameNotes.{FrameNotes, IsFrameText, changes_at, contract_of, each_once, gives_at, is_flag, is_register, needs_at, places_of, writes_at}
use Rattle.notes_spec.specs.Scopes.{Changed, ChangedFlag, ChangedRegister, Vocabulary, Scope, Mode, Strict, Lenient, Loose, Constant, begin, changed_by, changed_of, const_of, const_or, meaning, name_by, named, is_reserved, binding}
use Rattle.word_spec.specs.Tokens.{Token, NameToken, NumberToken, SignToken, BadByte, BadText, tokens_of}
use Rattle.notes_spec.specs.NotesGrammar.{load_words, IsGood, left_of, Parses, tighter, binary_of, not_of, number_of, name_of, memory_of, old_of, all_of, in_brackets, after, is_second, line_limit, lines_of, Says, Nothing, RequireIs, EnsureIs, AssertIs, ConstIs, InvariantIs, NeedIs, GiveIs, ModifiesAre, WritesAre, AreChanged, IsAtAddress, IsRange, requires_of, ensures_of, asserts_of, IsSaid, AreLines, IsNotesText}
use Rattle.machine_spec.specs.RvMachine.{rv32}
use Rattle.machine_spec.specs.Arm.{arm}
use Rattle.word_spec.specs.Profiles.{V4}
use Rattle.notes_spec.specs.RvNames.{name_in, rv_table}
use Rattle.notes_spec.specs.ArmNames.{arm_table}
use Rattle.notes_spec.specs.NotesLaws.{IsOfWords}
use Rattle.bilv_spec.proofs.Decided.{none_some}
use Rattle.notes_spec.proofs.NotesTables.{of_each}
use Rattle.notes_spec.proofs.NotesNames.{machine_names_of_words}
use Rattle.notes_spec.proofs.NotesWords.{words_said}
use Rattle.start_value.specs.declared.layout.Layout.{Layout}
use Rattle.start_value.specs.declared.layout.Layout.TheVariants.{Rv32, Arm}
use Rattle.notes_value.specs.Reads.{IsReadable, IsReadableContract, AreReadable, IsOver, AreOver}
use Rattle.notes_lang.specs.Framed.{IsContractOver}
use Rattle.notes_lang.specs.declared.notes.Dialect.{Dialect}
use Rattle.notes_lang.specs.Parsing.{layout_names, layout_vocabulary, layout_registers, layout_flags}

-- a register or a flag of the machine, or what is no operator
abbrev reads : (has_register has_flag : ℕ → Bool) → Expr → Bool
reads has_register has_flag (Number n) = true
reads has_register has_flag (Register r) = has_register r
reads has_register has_flag (Flag f) = has_flag f
reads has_register has_flag Pc = true
reads has_register has_flag Bound = true
reads has_register has_flag (Memory n a) = false
reads has_register has_flag (Old a) = false
reads has_register has_flag (Not a) = false
reads has_register has_flag (Binary op a b) = false

by_row : (test : Expr → Bool) (here reads_it others : Bool) (x e : Expr) (later : Option Expr) → test x ≡ reads_it → (reads_it && others) ≡ true →
    (others ≡ true → later ≡ Some e → test e ≡ true) → (if here then Some x else later) ≡ Some e → test e ≡ true
by_row test true true others x e later is all rest some = let x_is : x ≡ e = cc in subst (λ y. test y ≡ true) x_is is
by_row test false true others x e later is all rest some = rest all some
by_row test here false others x e later is all rest some = absurd (let f : ⊥ = cc in f)

by_table : (test : Expr → Bool) (table : List (List ℕ × Expr)) → list_all (λ n. test n.1) table ≡ true → (w : List ℕ) (e : Expr) → name_in table w ≡ Some e →
    test e ≡ true
by_table test [] all w e is = absurd (none_some Expr e is)
by_table test (n ∷ table) all w e is =
    by_row test (bytes_eq w n.0) (test n.1) (list_all (λ n. test n.1) table) n.1 e (name_in table w) refl all
    (λ rest later. by_table test table rest w e later) is

rv_reads : list_all (λ n. reads (rv32 false).has_register (rv32 false).has_flag n.1) rv_table ≡ true
unfolding rv_table
rv_reads = refl

arm_reads : list_all (λ n. reads (arm Little V4).has_register (arm Little V4).has_flag n.1) arm_table ≡ true
unfolding arm_table
arm_reads = refl

-- what every name stands for is read
abbrev NamesRead : (has_register has_flag : ℕ → Bool) → (List ℕ → Option Expr) → Type 0
NamesRead has_register has_flag names = (w : List ℕ) (e : Expr) → names w ≡ Some e → reads has_register has_flag e ≡ true

layout_reads : (layout : Layout) → NamesRead (layout_registers layout) (layout_flags layout) (layout_names layout)
layout_reads (Rv32 compressed) w e is = by_table (reads (rv32 false).has_register (rv32 false).has_flag) rv_table rv_reads w e is
layout_reads (Arm big profile) w e is = by_table (reads (arm Little V4).has_register (arm Little V4).has_flag) arm_table arm_reads w e is

layout_words : (layout : Layout) (w : List ℕ) (e : Expr) → layout_names layout w ≡ Some e → IsOfWords e
layout_words (Rv32 compressed) = machine_names_of_words.0
layout_words (Arm big profile) = machine_names_of_words.1

no_flag : (f : ℕ) → IsTrue false → f ≤ 3
no_flag f is = absurd (let x : ⊥ = cc in x)

layout_few : (layout : Layout) (f : ℕ) → IsTrue (layout_flags layout f) → f ≤ 3
layout_few (Rv32 compressed) f is = no_flag f is
layout_few (Arm big profile) f is = grind (arith, nat_tests)

-- an expression that names registers and flags of the machine alone, and loads bytes
abbrev HasParts : (has_register has_flag : ℕ → Bool) → Expr → Type 0
HasParts has_register has_flag (Number n) = Unit {0}
HasParts has_register has_flag (Register r) = IsTrue (has_register r)
HasParts has_register has_flag (Flag f) = IsTrue (has_flag f)
HasParts has_register has_flag Pc = Unit {0}
HasParts has_register has_flag Bound = Unit {0}
HasParts has_register has_flag (Memory n a) = (1 ≤ n) × HasParts has_register has_flag a
HasParts has_register has_flag (Old a) = HasParts has_register has_flag a
HasParts has_register has_flag (Not a) = HasParts has_register has_flag a
HasParts has_register has_flag (Binary op a b) = HasParts has_register has_flag a × HasParts has_register has_flag b

some_bytes : (n : ℕ) (w : List ℕ) → Contains {X = ℕ × List ℕ} load_words (n, w) → nat_le 1 n ≡ true
some_bytes n w c = of_each {X = ℕ × List ℕ} (λ o. nat_le 1 o.0 ≡ true) load_words (n, w) (refl, (refl, (refl, tt))) c

module _ (has_register has_flag : ℕ → Bool) where
  of_name : (e : Expr) → reads has_register has_flag e ≡ true → HasParts has_register has_flag e
  of_name (Number n) is = tt
  of_name (Register r) is = is
  of_name (Flag f) is = is
  of_name Pc is = tt
  of_name Bound is = tt
  of_name (Memory n a) is = absurd (let f : ⊥ = cc in f)
  of_name (Old a) is = absurd (let f : ⊥ = cc in f)
  of_name (Not a) is = absurd (let f : ⊥ = cc in f)
  of_name (Binary op a b) is = absurd (let f : ⊥ = cc in f)

  -- a number in place of the bound name
  put_parts : (v : ℕ) (e : Expr) → HasParts has_register has_flag e → HasParts has_register has_flag (put_bound v e)
  put_parts v (Number n) h = tt
  put_parts v (Register r) h = h
  put_parts v (Flag f) h = h
  put_parts v Pc h = tt
  put_parts v Bound h = tt
  put_parts v (Memory n a) h = (h.0, put_parts v a h.1)
  put_parts v (Old a) h = put_parts v a h
  put_parts v (Not a) h = put_parts v a h
  put_parts v (Binary op a b) h = (put_parts v a h.0, put_parts v b h.1)

  each_parts : (vs : List ℕ) (e : Expr) → HasParts has_register has_flag e → HasParts has_register has_flag (each (map (λ v. put_bound v e) vs))
  each_parts [] e h = tt
  each_parts (v ∷ vs) e h = (put_parts v e h, each_parts vs e h)

  -- what words mean
  meaning_parts : (s : Scope) → NamesRead has_register has_flag s.names → (w : List ℕ) (e : Expr) → meaning s w ≡ Some e → HasParts has_register has_flag e
  meaning_parts s read w e is = by (list_any (bytes_eq w) s.bound) is where
    of_const : (o : Option ℕ) → const_or o (s.names w) ≡ Some e → HasParts has_register has_flag e
    of_const (Some n) e_is = let same : Number n ≡ e = cc in subst (HasParts has_register has_flag) same tt
    of_const None e_is = of_name e (read w e e_is)

    by : (b : Bool) → (if b then Some Bound else const_or (const_of s.consts w) (s.names w)) ≡ Some e → HasParts has_register has_flag e
    by true e_is = let same : Bound ≡ e = cc in subst (HasParts has_register has_flag) same tt
    by false e_is = of_const (const_of s.consts w) e_is

  mode_parts : (m : Mode) (s : Scope) → NamesRead has_register has_flag s.names → (w : List ℕ) (e : Expr) → name_by m s w ≡ Some e →
      HasParts has_register has_flag e
  mode_parts Strict s read w e is = meaning_parts s read w e is
  mode_parts Lenient s read w e is = meaning_parts s read w e is
  mode_parts Loose s read w e is = let same : Number 0 ≡ e = cc in subst (HasParts has_register has_flag) same tt

  named_parts : (s : Scope) → NamesRead has_register has_flag s.names → (w : List ℕ) (e : Expr) → named s w ≡ Some e → HasParts has_register has_flag e
  named_parts s read w e is = by (is_reserved s w) is where
    by : (b : Bool) → (if b then None else name_by s.mode s w) ≡ Some e → HasParts has_register has_flag e
    by true e_is = absurd (none_some Expr e e_is)
    by false e_is = mode_parts s.mode s read w e e_is

  parts : (s : Scope) → NamesRead has_register has_flag s.names → (l : ℕ) (ts : List Token) (e : Expr) → Parses s l ts e → HasParts has_register has_flag e
  parts s read l ts e (tighter below p) = parts s read (l + 1) ts e p
  parts s read l ts e (binary_of {xs = xs} {ys = ys} {a = a} {b = b} c p q is) = (parts s read (left_of l) xs a p, parts s read (l + 1) ys b q)
  parts s read l ts e (not_of {ts = us} {e = a} p) = parts s read 3 us a p
  parts s read l ts e (number_of) = tt
  parts s read l ts e (name_of {w = w} {e = a} is) = named_parts s read w a is
  parts s read l ts e (memory_of {n = n} {w = w} {us = us} {e = a} c p is) = let some = some_bytes n w c in (grind (arith, some), parts s read 1 us a p)
  parts s read l ts e (old_of {us = us} {e = a} p is) = parts s read 1 us a p
  parts s read l ts e (all_of {w = w} low high {us = us} a two p q may r is) = each_parts (values low high) a (parts (binding s w) read 1 us a r)
  parts s read l ts e (in_brackets {us = us} p is) = parts s read 1 us e p

  over : (e : Expr) → HasParts has_register has_flag e → IsOfWords e → IsOver has_register has_flag e
  over (Number n) h w = w
  over (Register r) h w = h
  over (Flag f) h w = h
  over Pc h w = tt
  over Bound h w = tt
  over (Memory n a) h w = (h.0, w.0, over a h.1 w.1)
  over (Old a) h w = over a h w
  over (Not a) h w = over a h w
  over (Binary op a b) h w = (over a h.0 w.0, over b h.1 w.1)

  readable : ((f : ℕ) → IsTrue (has_flag f) → f ≤ 3) → (e : Expr) → HasParts has_register has_flag e → IsReadable has_register e
  readable few (Number n) h = tt
  readable few (Register r) h = h
  readable few (Flag f) h = few f h
  readable few Pc h = tt
  readable few Bound h = tt
  readable few (Memory n a) h = readable few a h.1
  readable few (Old a) h = readable few a h
  readable few (Not a) h = readable few a h
  readable few (Binary op a b) h = (readable few a h.0, readable few b h.1)

-- a register or a flag of the machine
abbrev HasChanged : (has_register has_flag : ℕ → Bool) → Changed → Type 0
HasChanged has_register has_flag (ChangedRegister r) = has_register r ≡ true
HasChanged has_register has_flag (ChangedFlag f) = has_flag f ≡ true

module _ (has_register has_flag : ℕ → Bool) where
  of_named : (o : Option Expr) (c : Changed) → ((e : Expr) → o ≡ Some e → HasParts has_register has_flag e) → changed_of o ≡ Some c →
      HasChanged has_register has_flag c
  of_named None c parts is = absurd (none_some Changed c is)
  of_named (Some (Register r)) c parts is =
      let same : ChangedRegister r ≡ c = cc in subst (HasChanged has_register has_flag) same (parts (Register r) refl)
  of_named (Some (Flag f)) c parts is =
      let same : ChangedFlag f ≡ c = cc in subst (HasChanged has_register has_flag) same (parts (Flag f) refl)
  of_named (Some (Number n)) c parts is = absurd (none_some Changed c is)
  of_named (Some Pc) c parts is = absurd (none_some Changed c is)
  of_named (Some Bound) c parts is = absurd (none_some Changed c is)
  of_named (Some (Memory n a)) c parts is = absurd (none_some Changed c is)
  of_named (Some (Old a)) c parts is = absurd (none_some Changed c is)
  of_named (Some (Not a)) c parts is = absurd (none_some Changed c is)
  of_named (Some (Binary op a b)) c parts is = absurd (none_some Changed c is)

  changed_parts : (m : Mode) (s : Scope) → m ≡ Strict → NamesRead has_register has_flag s.names → (w : List ℕ) (c : Changed) →
      changed_by m s w ≡ Some c → HasChanged has_register has_flag c
  changed_parts Strict s strict read w c is = of_named (named s w) c (named_parts has_register has_flag s read w) is
  changed_parts Lenient s strict read w c is = of_named (named s w) c (named_parts has_register has_flag s read w) is
  changed_parts Loose s strict read w c is = absurd (let f : ⊥ = cc in f)

  -- what is named among changes the machine has
  register_among : (r : ℕ) (cs : List Changed) → All (HasChanged has_register has_flag) cs → list_any (is_register r) cs ≡ true → has_register r ≡ true
  register_among r [] all is = absurd (let f : ⊥ = cc in f)
  register_among r (ChangedFlag g ∷ cs) all is = register_among r cs (All-tail (HasChanged has_register has_flag) (ChangedFlag g) cs all) is
  register_among r (ChangedRegister q ∷ cs) all is =
      by (nat_eq r q) refl (register_among r cs (All-tail (HasChanged has_register has_flag) (ChangedRegister q) cs all)) is
    where
      by : (b : Bool) → nat_eq r q ≡ b → (list_any (is_register r) cs ≡ true → has_register r ≡ true) → (b || list_any (is_register r) cs) ≡ true →
          has_register r ≡ true
      by true same later e =
          let equal : q ≡ r = grind (arith, nat_tests) in
          subst (λ n. has_register n ≡ true) equal (All-head (HasChanged has_register has_flag) (ChangedRegister q) cs all)
      by false same later e = later e

  flag_among : (f : ℕ) (cs : List Changed) → All (HasChanged has_register has_flag) cs → list_any (is_flag f) cs ≡ true → has_flag f ≡ true
  flag_among f [] all is = absurd (let x : ⊥ = cc in x)
  flag_among f (ChangedRegister q ∷ cs) all is = flag_among f cs (All-tail (HasChanged has_register has_flag) (ChangedRegister q) cs all) is
  flag_among f (ChangedFlag g ∷ cs) all is =
      by (nat_eq f g) refl (flag_among f cs (All-tail (HasChanged has_register has_flag) (ChangedFlag g) cs all)) is
    where
      by : (b : Bool) → nat_eq f g ≡ b → (list_any (is_flag f) cs ≡ true → has_flag f ≡ true) → (b || list_any (is_flag f) cs) ≡ true → has_flag f ≡ true
      by true same later e =
          let equal : g ≡ f = grind (arith, nat_tests) in
          subst (λ n. has_flag n ≡ true) equal (All-head (HasChanged has_register has_flag) (ChangedFlag g) cs all)
      by false same later e = later e

and_first : (a b : Bool) → (a && b) ≡ true → a ≡ true
and_first true b is = refl
and_first false b is = is

-- what passes a filter passes its test
passes : (p : ℕ → Bool) (l : List ℕ) (n : ℕ) → list_any (nat_eq n) (filter p l) ≡ true → p n ≡ true
passes p l n is =
    and_first (p n) (list_any (nat_eq n) l)
    (sym (any-filter_same (nat_eq n) p (p n) (λ k same. let equal : k ≡ n = grind (arith, nat_tests) in ap p equal) l) ∙ is)

-- what holds of an element and of a list holds of the list with the element or without it
if_cons : {X : Type 0} (P : X → Type 0) (t : Bool) (x : X) (xs : List X) → P x → All P xs → All P (if t then x ∷ xs else xs)
if_cons P true x xs here all = All-cons P x xs here all
if_cons P false x xs here all = all

if_append : {X : Type 0} (P : X → Type 0) (t : Bool) (xs ys : List X) → All P xs → All P ys → All P (if t then xs ++ ys else ys)
if_append P true xs ys here all = All-append P xs ys here all
if_append P false xs ys here all = all

-- one line writes at most 256 bytes, so that lines of which some write do so with 256 bytes each
if_few : (t : Bool) (x : Writes) (xs : List Writes) (lines : ℕ) → x.count ≤ 256 → sum_by (λ w. w.count) xs ≤ 256 * lines →
    sum_by (λ w. w.count) (if t then x ∷ xs else xs) ≤ 256 * suc lines
if_few true x xs lines here few = omega (arith, sum_by-cons (λ (w : Writes). w.count) x xs)
if_few false x xs lines here few = omega arith

one_more : (n lines : ℕ) → n ≤ 256 * lines → n ≤ 256 * suc lines
one_more n lines few = omega arith

is_few : (n lines : ℕ) → n ≤ 256 * lines → lines ≤ 4097 → n < 2 ^ 64
is_few n lines few short = omega arith

as_many : (s : Scope) (texts : List (List ℕ)) (says : List Says) → AreLines s texts says → length texts ≡ length says
as_many s [] [] p = refl
as_many s [] (x ∷ says) p = absurd p
as_many s (text ∷ texts) [] p = absurd p
as_many s (text ∷ texts) (x ∷ says) p = ap suc (as_many (after s x) texts says p.1)

within_limit : (second : Bool) (n : ℕ) → n ≤ line_limit second → n ≤ 4097
within_limit true n less = less
within_limit false n less = omega arith

few_said : (v : Vocabulary) (text : List ℕ) (n : Notes) → (p : IsNotesText v text n) → length p.says ≤ 4097
few_said v text n p =
    subst (λ l. l ≤ 4097) (as_many (begin v (is_second (lines_of text))) (lines_of text) p.says p.lines)
    (within_limit (is_second (lines_of text)) (length (lines_of text)) p.short)

of_any : (P : ℕ → Type 0) → ((n : ℕ) → P n) → (l : List ℕ) → All P l
of_any P each [] = All-nil P
of_any P each (n ∷ l) = All-cons P n l (each n) (of_any P each l)

-- what holds of each image holds of each element by it
pub of_images : {X Y : Type 0} (P : Y → Type 0) (f : X → Y) (xs : List X) → All P (map f xs) → All (λ x. P (f x)) xs
of_images P f [] all = All-nil (λ x. P (f x))
of_images P f (x ∷ xs) all = All-cons (λ x. P (f x)) x xs (All-head P (f x) (map f xs) all) (of_images P f xs (All-tail P (f x) (map f xs) all))

-- the numbers of constants are words
abbrev SmallConsts : List Constant → Type 0
SmallConsts cs = (c : Constant) → Contains cs c → c.number < 2 ^ 32

small_and : (cs : List Constant) (w : List ℕ) (v : ℕ) → SmallConsts cs → v < 2 ^ 32 → SmallConsts (cs ++ record { word = w; number = v } ∷ [])
small_and [] w v small less c (zero, below, is) = subst (λ n. n < 2 ^ 32) (ap (λ c. c.number) is) less
small_and [] w v small less c (suc k, below, is) = absurd (omega (arith, below))
small_and (d ∷ cs) w v small less c (zero, below, is) = small c (0, omega arith, is)
small_and (d ∷ cs) w v small less c (suc k, below, is) =
    small_and cs w v (λ e in_rest. small e (suc in_rest.0, omega (arith, in_rest.1), in_rest.2)) less c (k, omega (arith, below), is)

-- what holds of all of a list holds of what it begins with
all_before : (P : Token → Type 0) (us vs : List Token) → All P (us ++ vs) → All P us
all_before P [] vs all = All-nil P
all_before P (u ∷ us) vs all = All-cons P u us (All-head P u (us ++ vs) all) (all_before P us vs (All-tail P u (us ++ vs) all))

-- a number among good tokens
good_number : (w : List ℕ) (v : ℕ) (ts : List Token) → ts ≡ NameToken (codes "const") ∷ NameToken w ∷ NumberToken v ∷ [] → All IsGood ts → v < 2 ^ 32
good_number w v ts is good =
    let g : All IsGood (NameToken (codes "const") ∷ NameToken w ∷ NumberToken v ∷ []) = subst (All IsGood) is good in g 2 (NumberToken v) (omega arith)

-- what holds of each expression that good tokens say holds of each line, and what may be changed the machine has
module _ (Claim : Expr → Type 0) (has_register has_flag : ℕ → Bool) (words : Vocabulary) (each : (s : Scope) → s.names ≡ words.names → SmallConsts s.consts →
    (l : ℕ) (ts : List Token) (e : Expr) → All IsGood ts → Parses s l ts e → Claim e) (change : (s : Scope) → s.names ≡ words.names → s.mode ≡ Strict →
    (w : List ℕ) (c : Changed) → changed_by s.mode s w ≡ Some c → HasChanged has_register has_flag c) where
  abbrev Changes : Changed → Type 0
  Changes = HasChanged has_register has_flag

  abbrev HoldsOfSaid : Says → Type 0
  HoldsOfSaid (RequireIs e) = Claim e
  HoldsOfSaid (EnsureIs e) = Claim e
  HoldsOfSaid (AssertIs a e) = Claim e
  HoldsOfSaid (InvariantIs a e) = Claim e
  HoldsOfSaid (NeedIs a e) = Claim e
  HoldsOfSaid (GiveIs a e) = Claim e
  HoldsOfSaid (ModifiesAre a cs) = All Changes cs
  HoldsOfSaid (WritesAre a e n) = Claim e × (1 ≤ n) × (n ≤ 256)
  HoldsOfSaid _ = Unit {0}

  abbrev HoldsOfAll : List Says → Type 0
  HoldsOfAll [] = Unit {0}
  HoldsOfAll (s ∷ says) = HoldsOfSaid s × HoldsOfAll says

  at_address : (s : Scope) → s.names ≡ words.names → SmallConsts s.consts → (ts : List Token) (w : List ℕ) (a : ℕ) (e : Expr) → All IsGood ts →
      IsAtAddress s w ts a e → Claim e
  at_address s same small ts w a e good (t, rest, is, n, p) =
      each s same small 1 rest e (All-tail IsGood t rest (All-tail IsGood (NameToken w) (t ∷ rest) (subst (All IsGood) is good))) p

  changed : (s : Scope) → s.names ≡ words.names → s.mode ≡ Strict → (ts : List Token) (cs : List Changed) → AreChanged s ts cs → All Changes cs
  changed s same strict [] [] p = All-nil Changes
  changed s same strict [] (c ∷ cs) p = absurd p
  changed s same strict (NameToken w ∷ ts) [] p = absurd p
  changed s same strict (NameToken w ∷ ts) (c ∷ cs) p = All-cons Changes c cs (change s same strict w c p.0) (changed s same strict ts cs p.1)
  changed s same strict (NumberToken n ∷ ts) cs p = absurd p
  changed s same strict (SignToken w ∷ ts) cs p = absurd p
  changed s same strict (BadByte ∷ ts) cs p = absurd p
  changed s same strict (BadText ∷ ts) cs p = absurd p

  said : (s : Scope) → s.names ≡ words.names → s.mode ≡ Strict → SmallConsts s.consts → (ts : List Token) (x : Says) → All IsGood ts → IsSaid s ts x →
      IsRange x → HoldsOfSaid x
  said s same strict small ts (RequireIs e) good p range = each s same small 1 p.0 e (All-tail IsGood _ p.0 (subst (All IsGood) p.1 good)) p.2
  said s same strict small ts (EnsureIs e) good p range = each s same small 1 p.0 e (All-tail IsGood _ p.0 (subst (All IsGood) p.1 good)) p.2
  said s same strict small ts (AssertIs a e) good p range = at_address s same small ts (codes "assert") a e good p
  said s same strict small ts (InvariantIs a e) good p range = at_address s same small ts (codes "invariant") a e good p.0
  said s same strict small ts (NeedIs a e) good p range = at_address s same small ts (codes "needs") a e good p.0
  said s same strict small ts (GiveIs a e) good p range = at_address s same small ts (codes "gives") a e good p.0
  said s same strict small ts (ModifiesAre a cs) good (t, rest, is, at, names, some, may) range = changed s same strict rest cs names
  said s same strict small ts (WritesAre a e n) good (t, u, us, is, m, p, k, may) range = (
    each s same small 1 us e (all_before IsGood us (u ∷ []) (All-tail IsGood t (us ++ u ∷ [])
        (All-tail IsGood (NameToken (codes "writes")) (t ∷ us ++ u ∷ []) (subst (All IsGood) is good)))) p,
    range.0,
    range.1,
  )
  said s same strict small ts x good p range = tt

  still : (s : Scope) (x : Says) → s.names ≡ words.names → (after s x).names ≡ words.names
  still s Nothing same = same
  still s x same = same

  still_strict : (s : Scope) (x : Says) → s.mode ≡ Strict → (after s x).mode ≡ Strict
  still_strict s Nothing strict = strict
  still_strict s x strict = strict

  still_small : (s : Scope) (ts : List Token) (x : Says) → All IsGood ts → IsSaid s ts x → SmallConsts s.consts → SmallConsts (after s x).consts
  still_small s ts (ConstIs w v) good p small = small_and s.consts w v small (good_number w v ts p.0 good)
  still_small s ts Nothing good p small = small
  still_small s ts x good p small = small

  lines : (s : Scope) → s.names ≡ words.names → s.mode ≡ Strict → SmallConsts s.consts → (texts : List (List ℕ)) (says : List Says) →
      AreLines s texts says → HoldsOfAll says
  lines s same strict small [] [] p = tt
  lines s same strict small [] (x ∷ says) p = absurd p
  lines s same strict small (text ∷ texts) [] p = tt
  lines s same strict small (text ∷ texts) (x ∷ says) p = (
    said s same strict small (tokens_of text) x p.0.good p.0.said p.0.range,
    lines (after s x) (still s x same) (still_strict s x strict) (still_small s (tokens_of text) x p.0.good p.0.said small) texts says p.1,
  )

  required : (n : ℕ) (says : List Says) → HoldsOfAll says → All (λ l. Claim l.says) (requires_of n says)
  required n [] p = All-nil (λ l. Claim l.says)
  required n (RequireIs e ∷ says) p = All-cons (λ l. Claim l.says) (record { line = n; says = e }) (requires_of (n + 1) says) p.0 (required (n + 1) says p.1)
  required n (s ∷ says) p = required (n + 1) says p.1

  ensured : (n : ℕ) (says : List Says) → HoldsOfAll says → All (λ l. Claim l.says) (ensures_of n says)
  ensured n [] p = All-nil (λ l. Claim l.says)
  ensured n (EnsureIs e ∷ says) p = All-cons (λ l. Claim l.says) (record { line = n; says = e }) (ensures_of (n + 1) says) p.0 (ensured (n + 1) says p.1)
  ensured n (s ∷ says) p = ensured (n + 1) says p.1

  asserted : (n : ℕ) (says : List Says) → HoldsOfAll says → All (λ l. Claim l.says) (asserts_of n says)
  asserted n [] p = All-nil (λ l. Claim l.says)
  asserted n (AssertIs a e ∷ says) p = All-cons (λ l. Claim l.says) (record { line = n; at = a; says = e }) (asserts_of (n + 1) says) p.0
      (asserted (n + 1) says p.1)
  asserted n (InvariantIs a e ∷ says) p = All-cons (λ l. Claim l.says) (record { line = n; at = a; says = e }) (asserts_of (n + 1) says) p.0
      (asserted (n + 1) says p.1)
  asserted n (s ∷ says) p = asserted (n + 1) says p.1

  needed : (a n : ℕ) (says : List Says) → HoldsOfAll says → All (λ l. Claim l.says) (needs_at a n says)
  needed a n [] p = All-nil (λ l. Claim l.says)
  needed a n (NeedIs b e ∷ says) p =
      if_cons (λ (l : NoteLine). Claim l.says) (b == a) (record { line = n; says = e }) (needs_at a (n + 1) says) p.0 (needed a (n + 1) says p.1)
  needed a n (s ∷ says) p = needed a (n + 1) says p.1

  given : (a n : ℕ) (says : List Says) → HoldsOfAll says → All (λ l. Claim l.says) (gives_at a n says)
  given a n [] p = All-nil (λ l. Claim l.says)
  given a n (GiveIs b e ∷ says) p =
      if_cons (λ (l : NoteLine). Claim l.says) (b == a) (record { line = n; says = e }) (gives_at a (n + 1) says) p.0 (given a (n + 1) says p.1)
  given a n (s ∷ says) p = given a (n + 1) says p.1

  abbrev IsWritten : Writes → Type 0
  IsWritten w = Claim w.says × (1 ≤ w.count) × (w.count ≤ 256)

  written : (a n : ℕ) (says : List Says) → HoldsOfAll says → All IsWritten (writes_at a n says)
  written a n [] p = All-nil IsWritten
  written a n (WritesAre b e k ∷ says) p =
      if_cons IsWritten (b == a) (record { line = n; says = e; count = k }) (writes_at a (n + 1) says) p.0 (written a (n + 1) says p.1)
  written a n (s ∷ says) p = written a (n + 1) says p.1

  few_written : (a n : ℕ) (says : List Says) → HoldsOfAll says → sum_by (λ w. w.count) (writes_at a n says) ≤ 256 * length says
  few_written a n [] p = omega arith
  few_written a n (WritesAre b e k ∷ says) p =
      if_few (b == a) (record { line = n; says = e; count = k }) (writes_at a (n + 1) says) (length says) p.0.2 (few_written a (n + 1) says p.1)
  few_written a n (s ∷ says) p = one_more (sum_by (λ w. w.count) (writes_at a (n + 1) says)) (length says) (few_written a (n + 1) says p.1)

  changes : (a : ℕ) (says : List Says) → HoldsOfAll says → All Changes (changes_at a says)
  changes a [] p = All-nil Changes
  changes a (ModifiesAre b cs ∷ says) p = if_append Changes (b == a) cs (changes_at a says) p.0 (changes a says p.1)
  changes a (s ∷ says) p = changes a says p.1

  record ClaimedContract (c : Contract) : Type 0 where
    needs : All (λ l. Claim l.says) c.needs
    gives : All (λ l. Claim l.says) c.gives
    writes : All IsWritten c.writes
    few : sum_by (λ w. w.count) c.writes < 2 ^ 64
    registers : (r : ℕ) → list_any (nat_eq r) c.registers ≡ true → has_register r ≡ true
    flags : (f : ℕ) → list_any (nat_eq f) c.flags ≡ true → has_flag f ≡ true

  claimed_contract : (says : List Says) → length says ≤ 4097 → HoldsOfAll says → (a : ℕ) → ClaimedContract (contract_of says a)
  claimed_contract says short p a = record {
    needs = needed a 1 says p;
    gives = given a 1 says p;
    writes = written a 1 says p;
    few = is_few (sum_by (λ w. w.count) (writes_at a 1 says)) (length says) (few_written a 1 says p) short;
    registers = λ r is. register_among has_register has_flag r (changes_at a says) (changes a says p)
        (passes (λ q. list_any (is_register q) (changes_at a says)) (from_to 0 32) r is);
    flags = λ f is. flag_among has_register has_flag f (changes_at a says) (changes a says p)
        (passes (λ g. list_any (is_flag g) (changes_at a says)) (from_to 0 4) f is);
  }

  held : (text : List ℕ) (n : Notes) → (p : IsNotesText words text n) → HoldsOfAll p.says
  held text n p =
      lines (begin words (is_second (lines_of text))) refl refl (λ c none. absurd (omega (arith, none.1))) (lines_of text) p.says p.lines

  record Claimed (n : Notes) : Type 0 where
    requires : All (λ l. Claim l.says) n.requires
    ensures : All (λ l. Claim l.says) n.ensures
    asserts : All (λ l. Claim l.says) n.asserts

  claimed : (text : List ℕ) (n : Notes) → IsNotesText words text n → Claimed n
  claimed text n p =
      let r = held text n p in record {
        requires = subst (All (λ l. Claim l.says)) p.notes_are.1 (required 1 p.says r);
        ensures = subst (All (λ l. Claim l.says)) p.notes_are.2 (ensured 1 p.says r);
        asserts = subst (All (λ l. Claim l.says)) p.notes_are.3 (asserted 1 p.says r);
      }

  claimed_contracts : (text : List ℕ) (n : FrameNotes) → IsFrameText words text n → All ClaimedContract n.contracts
  claimed_contracts text n p =
      let says = p.is_notes.says in
      subst (All ClaimedContract) p.contracts_are
      (All-map ClaimedContract (contract_of says) (each_once (places_of says))
      (of_any (λ a. ClaimedContract (contract_of says a)) (claimed_contract says (few_said words text n.notes p.is_notes) (held text n.notes p.is_notes)) (each_once (places_of says))))

-- what the names of a scope stand for, where they are those of a layout
scope_reads : (layout : Layout) (s : Scope) → s.names ≡ layout_names layout → NamesRead (layout_registers layout) (layout_flags layout) s.names
scope_reads layout s same = subst (NamesRead (layout_registers layout) (layout_flags layout)) (sym same) (layout_reads layout)

scope_words : (layout : Layout) (s : Scope) → s.names ≡ layout_names layout → (w : List ℕ) (e : Expr) → s.names w ≡ Some e → IsOfWords e
scope_words layout s same = subst (λ names. (w : List ℕ) (e : Expr) → names w ≡ Some e → IsOfWords e) (sym same) (layout_words layout)

-- each expression of a layout's words
module _ (layout : Layout) (s : Scope) (same : s.names ≡ layout_names layout) where
  readable_one : (l : ℕ) (ts : List Token) (e : Expr) → Parses s l ts e → IsReadable (layout_registers layout) e
  readable_one l ts e p =
      readable (layout_registers layout) (layout_flags layout) (layout_few layout) e
      (parts (layout_registers layout) (layout_flags layout) s (scope_reads layout s same) l ts e p)

  over_one : SmallConsts s.consts → (l : ℕ) (ts : List Token) (e : Expr) → All IsGood ts → Parses s l ts e →
      IsOver (layout_registers layout) (layout_flags layout) e
  over_one small l ts e good p =
      over (layout_registers layout) (layout_flags layout) e
      (parts (layout_registers layout) (layout_flags layout) s (scope_reads layout s same) l ts e p)
      (words_said s (scope_words layout s same) small l ts e good p)

  change_one : s.mode ≡ Strict → (w : List ℕ) (c : Changed) → changed_by s.mode s w ≡ Some c → HasChanged (layout_registers layout) (layout_flags layout) c
  change_one strict w c is =
      changed_parts (layout_registers layout) (layout_flags layout) s.mode s strict (scope_reads layout s same) w c is

-- notes for a layout
module _ (layout : Layout) (dialect : Dialect) (text : List ℕ) where
  pub notes_readable : (n : Notes) → IsNotesText (layout_vocabulary layout dialect) text n → AreReadable (layout_registers layout) n
  notes_readable n p =
      let c = claimed (IsReadable (layout_registers layout)) (layout_registers layout) (layout_flags layout) (layout_vocabulary layout dialect)
      (λ s same small l ts e good q. readable_one layout s same l ts e q) (change_one layout) text n p in
      record { requires = c.requires; ensures = c.ensures; asserts = c.asserts }

  pub notes_over : (n : Notes) → IsNotesText (layout_vocabulary layout dialect) text n → AreOver (layout_registers layout) (layout_flags layout) n
  notes_over n p =
      let c = claimed (IsOver (layout_registers layout) (layout_flags layout)) (layout_registers layout) (layout_flags layout)
      (layout_vocabulary layout dialect) (over_one layout) (change_one layout) text n p in
      record { requires = c.requires; ensures = c.ensures; asserts = c.asserts }

  -- and their contracts
  pub contracts_readable : (n : FrameNotes) → IsFrameText (layout_vocabulary layout dialect) text n →
      All (IsReadableContract (layout_registers layout)) n.contracts
  contracts_readable n p i d less =
      let c = claimed_contracts (IsReadable (layout_registers layout)) (layout_registers layout) (layout_flags layout) (layout_vocabulary layout dialect)
      (λ s same small l ts e good q. readable_one layout s same l ts e q) (change_one layout) text n p i d less in
      record { needs = c.needs; gives = c.gives; writes = λ j w within. (c.writes j w within).0; registers = c.registers }

  pub contracts_over : (n : FrameNotes) → IsFrameText (layout_vocabulary layout dialect) text n →
      All (IsContractOver (layout_registers layout) (layout_flags layout)) n.contracts
  contracts_over n p i d less =
      let c = claimed_contracts (IsOver (layout_registers layout) (layout_flags layout)) (layout_registers layout) (layout_flags layout)
      (layout_vocabulary layout dialect) (over_one layout) (change_one layout) text n p i d less in
      record { needs = c.needs; gives = c.gives; writes = c.writes; few = c.few; registers = c.registers; flags = c.flags }
