-- What a TOML text says as a suite of checks, or the first reason why it is none.
use Rattle.std.specs.Prelude.{ℕ, ◌+◌, List, [], ◌∷◌, ◌++◌, Option, Some, None, codes, if◌then◌else◌, unwrap_or}
use Rattle.std.specs.List.{list_any}
use Rattle.std.specs.Option.{option_or}
use Rattle.std.specs.Str.{bytes_eq}
use Rattle.toml.specs.Data.{Data, Items, no_items, item, Members, no_members, member, as_array, as_str, as_table, get_member}
use Rattle.toml.specs.Parse.{parse_document}

abbrev pub Text : Type 0
Text = List ℕ

-- a check: its name, its files by their paths, the further words of its command line, and the words with which its report is to begin
pub record Check : Type 0 where
  pub name : Text
  pub notes : Text
  pub elf : Text
  pub options : List Text
  pub expect : Text

-- where in a suite: above the checks, or in a check, counted from 1
pub data Place : Type 0 where
  InDefaults : Place
  InCheck : ℕ → Place

-- why a text is no suite
pub data Fault : Type 0 where
  NotToml : Fault
  UnknownKey : Place → (key : Text) → Fault
  WrongType : Place → (key : Text) → Fault
  Missing : Place → (key : Text) → Fault
  NoCheck : Fault
  RepeatedName : (name : Text) → Fault

-- what is read, or the first fault
pub data Read (A : Type 0) : Type 0 where
  Got : A → Read A
  Refused : Fault → Read A

-- one reading after another
infixl 10 ◌>>=◌
abbrev pub ◌>>=◌ : {A B : Type 0} → Read A → (A → Read B) → Read B
Got a >>= next = next a
Refused f >>= next = Refused f

-- what must be there
abbrev pub needed : {A : Type 0} → Fault → Option A → Read A
needed f None = Refused f
needed f (Some a) = Got a

-- what may be there, of a value of the right type
abbrev pub typed : {A : Type 0} → Place → (key : Text) → (Data → Option A) → Option Data → Read (Option A)
typed place key is None = Got None
typed place key is (Some d) = needed (WrongType place key) (is d) >>= λ a. Got (Some a)

-- the text under a key, and the array
abbrev pub text_at : Place → (key : Text) → Members → Read (Option Text)
text_at place key ms = typed place key as_str (get_member key ms)

abbrev pub items_at : Place → (key : Text) → Members → Read (Option Items)
items_at place key ms = typed place key as_array (get_member key ms)

-- the first of the keys, in the order of their bytes, that is none of these
abbrev pub first_unknown : (known : List Text) → Members → Option Text
first_unknown known no_members = None
first_unknown known (member k d ms) = if list_any (λ x. bytes_eq x k) known then first_unknown known ms else Some k

abbrev pub none_unknown : Place → Option Text → Read Unit
none_unknown place None = Got tt
none_unknown place (Some key) = Refused (UnknownKey place key)

abbrev pub only_keys : Place → (known : List Text) → Members → Read Unit
only_keys place known ms = none_unknown place (first_unknown known ms)

-- the texts of an array of texts
abbrev pub texts_in : Place → (key : Text) → Items → Read (List Text)
texts_in place key no_items = Got []
texts_in place key (item d ds) = do
  text ← needed (WrongType place key) (as_str d)
  texts ← texts_in place key ds
  Got (text ∷ texts)

abbrev pub texts_of : Place → (key : Text) → Option Items → Read (Option (List Text))
texts_of place key None = Got None
texts_of place key (Some ds) = texts_in place key ds >>= λ texts. Got (Some texts)

abbrev pub texts_at : Place → (key : Text) → Members → Read (Option (List Text))
texts_at place key ms = items_at place key ms >>= texts_of place key

-- what a value stands for where a check lacks it
pub record Defaults : Type 0 where
  pub elf : Option Text
  pub options : List Text

abbrev pub suite_keys : List Text
suite_keys = codes "check" ∷ codes "elf" ∷ codes "options" ∷ []

abbrev pub check_keys : List Text
check_keys = codes "elf" ∷ codes "expect" ∷ codes "name" ∷ codes "notes" ∷ codes "options" ∷ []

-- The texts of a check. Its name is that of its notes where it has none, its ELF file that of the suite, and it is expected to hold.
abbrev pub check_of : Place → (elf : Option Text) → Members → Read (List Text → Check)
check_of place elf ms = do
  notes_found ← text_at place (codes "notes") ms
  notes ← needed (Missing place (codes "notes")) notes_found
  name ← text_at place (codes "name") ms
  own_elf ← text_at place (codes "elf") ms
  elf ← needed (Missing place (codes "elf")) (option_or own_elf elf)
  expect ← text_at place (codes "expect") ms
  Got (λ options. record { name = unwrap_or name notes; notes = notes; elf = elf; options = options; expect = unwrap_or expect (codes "holds") })

-- a check, which is a table of an array's; its options stand in the place of the suite's
abbrev pub check_in : Defaults → (n : ℕ) → Data → Read Check
check_in defaults n d = do
  ms ← needed (WrongType (InCheck n) (codes "check")) (as_table d)
  none ← only_keys (InCheck n) check_keys ms
  check ← check_of (InCheck n) defaults.elf ms
  options ← texts_at (InCheck n) (codes "options") ms
  Got (check (unwrap_or options defaults.options))

-- the checks of an array, which are counted from n on
abbrev pub checks_in : Defaults → (n : ℕ) → Items → Read (List Check)
checks_in defaults n no_items = Got []
checks_in defaults n (item d ds) = do
  check ← check_in defaults n d
  checks ← checks_in defaults (n + 1) ds
  Got (check ∷ checks)

-- the first name that an earlier check has
abbrev pub first_repeated : (earlier : List Check) → List Check → Option Text
first_repeated earlier [] = None
first_repeated earlier (c ∷ cs) =
    if list_any (λ e. bytes_eq e.name c.name) earlier then Some c.name else first_repeated (earlier ++ c ∷ []) cs

abbrev pub distinct : List Check → Option Text → Read (List Check)
distinct checks None = Got checks
distinct checks (Some name) = Refused (RepeatedName name)

-- there is a check
abbrev pub some_of : Option Items → Read Items
some_of None = Refused NoCheck
some_of (Some no_items) = Refused NoCheck
some_of (Some (item d ds)) = Got (item d ds)

abbrev pub asked_in : Members → Read Items
asked_in ms = items_at InDefaults (codes "check") ms >>= some_of

-- the defaults of a table that has no other keys than these
abbrev pub defaults_in : Members → Read Defaults
defaults_in ms = do
  none ← only_keys InDefaults suite_keys ms
  elf ← text_at InDefaults (codes "elf") ms
  options ← texts_at InDefaults (codes "options") ms
  Got (record { elf = elf; options = unwrap_or options [] })

-- the checks of a table: its keys, the defaults, the checks in their order, their names
abbrev pub suite_in : Members → Read (List Check)
suite_in ms = do
  defaults ← defaults_in ms
  items ← asked_in ms
  checks ← checks_in defaults 1 items
  distinct checks (first_repeated [] checks)

abbrev pub suite_of_document : Option Members → Read (List Check)
suite_of_document None = Refused NotToml
suite_of_document (Some ms) = suite_in ms

-- the checks of a text
abbrev pub suite_of : Text → Read (List Check)
suite_of text = suite_of_document (parse_document text)
