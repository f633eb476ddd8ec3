-- What is needed of what a script is made of, and of the values of its symbols; and the symbols that it declares.
use Rattle.std.proofs.Common.{◌≡◌, ◌≢◌, ℕ, zero, suc, ◌+◌, ◌-◌, ◌^◌, ◌<◌, ◌≤◌, refl, ap, sym, ◌∙◌, arith, true, false, Bool, List, [], ◌∷◌, ◌++◌, Option, Some, length, Contains}
use Rattle.std.specs.Prelude.{◌==◌, ◌||◌, not, codes, nat_eq, slice_index, slice_index_or}
use Rattle.std.specs.List.{list_all, list_any}
use Rattle.bilv_spec.specs.Scripts.{choice_name}
use Rattle.bilv_spec.specs.SmtLib.{SmtValue, WordValue, ArrayValue}
use Rattle.machine_spec.specs.StateText.{Layout}
use Rattle.term_spec.specs.Terms as terms
use Rattle.term_spec.specs.Terms.{TermReading, TermNode, HasWidth, AreTyped}
use Rattle.smtlib_print.specs.Commands.{Given, Source, choices_of, drawn, memory_in, memory_name, name_in, part_name, part_names}
use Rattle.frame_spec.specs.FrameScripts.{changed_flags, changed_registers, of_given, writes_some, written_memory}
use Rattle.smtlib_print.specs.Scripted.{AreBehind, FitMemory}
use Rattle.smtlib_print.proofs.Changed.{flag_among, register_among}
use Rattle.smtlib_print.proofs.GivenSymbols.{all_distinct, all_symbols, given_at, names_of, new_from, of_place, place_among, symbols_are}
use Rattle.smtlib_print.proofs.GivenNames.{among_given, given_word}
use Rattle.smtlib_print.proofs.Declared.{are_new, both_true, is_false, onto, onto_done, onto_new, onto_none}
use Rattle.smtlib_print.proofs.Defined.{among}
use Rattle.smtlib_print.proofs.Layouts.{IsUsable, all_both, among_first, among_left, among_right, each_own, head_parts, is_fixed, is_gifted, is_lettered, name_at, no_gift, part_among, part_at, part_count, part_symbols}
use Rattle.smtlib_print.proofs.Names.{is_symbol}
use Rattle.smtlib_print.proofs.ReadBack.{is_inner, is_word}
use Rattle.smtlib_print.proofs.Valued.{not_lettered}

-- the part has symbols: the entry's has, and the head's where there is one
abbrev pub IsOfScript : (heads : Bool) → (part : ℕ) → Type 0
IsOfScript heads zero = Unit {0}
IsOfScript heads (suc zero) = heads ≡ true
IsOfScript heads (suc (suc p)) = ⊥

-- what contract steps give of registers and flags by their numbers, and of the memory
abbrev pub gives_register : ℕ → Given → Bool
gives_register n g = list_any (nat_eq n) g.registers

abbrev pub gives_flag : ℕ → Given → Bool
gives_flag f g = list_any (nat_eq f) g.flags

abbrev pub gives_memory : Given → Bool
gives_memory g = writes_some g.writes

-- the part has such a symbol: the entry's has each, the head's where there is one, and what is given at a place what it gives
abbrev pub IsOfPart : (heads : Bool) → List Given → (gives : Given → Bool) → (part : ℕ) → Type 0
IsOfPart heads given gives zero = Unit {0}
IsOfPart heads given gives (suc zero) = heads ≡ true
IsOfPart heads given gives (suc (suc i)) = (i < length given) × (gives (given_at given i) ≡ true)

-- what a node names has a symbol; it makes no base read
abbrev pub IsNamedIn : (layout : Layout) → (heads : Bool) → (draws : List Bool) → List Given → TermNode → Type 0
IsNamedIn layout heads draws given (terms.RegisterNode p n) =
    IsOfPart heads given (gives_register n) p × (layout.first ≤ n) × (n - layout.first < length layout.registers)
IsNamedIn layout heads draws given (terms.FlagNode p f) = IsOfPart heads given (gives_flag f) p × (f < length layout.flags)
IsNamedIn layout heads draws given (terms.ChoiceNode i) = (i < length draws) × (slice_index_or draws i false ≡ true)
IsNamedIn layout heads draws given (terms.BaseNode p j) = ⊥
IsNamedIn layout heads draws given (terms.MemoryNode p) = IsOfPart heads given gives_memory p
IsNamedIn layout heads draws given (terms.TakeNode n m a p) = IsOfPart heads given gives_memory p
IsNamedIn layout heads draws given n = Unit {0}

-- what a script is made of
pub record IsFormed (s : Source) : Type 0 where
  pub usable : IsUsable s.layout
  pub count : length s.numbers ≡ length s.draws
  pub few : (i : ℕ) → i < length s.numbers → slice_index s.numbers i < 2 ^ 64
  pub distinct : (i j : ℕ) → i < j → j < length s.numbers → slice_index s.numbers i ≢ slice_index s.numbers j
  pub typed : AreTyped s.nodes
  pub small : length s.nodes < 2 ^ 32
  pub root : HasWidth s.nodes 1 s.root
  pub named : (n : TermNode) → Contains s.nodes n → IsNamedIn s.layout s.heads s.draws s.given n
  pub numbered : length s.given ≤ length s.numbers
  pub fit : FitMemory s.known
  pub behind : AreBehind 0 s.known
  pub asks : s.asks_head ≡ true → s.heads ≡ true

-- its symbols have the values of a reading of terms
pub record HasValues (s : Source) (x : TermReading) (model : List ℕ → Option SmtValue) : Type 0 where
  pub registers : (p i : ℕ) → IsOfPart s.heads s.given (gives_register (s.layout.first + i)) p → i < length s.layout.registers →
      model (name_in s.numbers p (name_at s.layout.registers i)) ≡ Some (WordValue 32 (x.regs p (s.layout.first + i)))
  pub flags : (p f : ℕ) → IsOfPart s.heads s.given (gives_flag f) p → f < length s.layout.flags →
      model (name_in s.numbers p (name_at s.layout.flags (length s.layout.flags - 1 - f))) ≡ Some (WordValue 1 (x.flags p f))
  pub memory : (p : ℕ) → IsOfPart s.heads s.given gives_memory p → model (memory_in s.numbers p) ≡ Some (ArrayValue (x.mem p))
  pub choices : (i : ℕ) → i < length s.numbers → model (choice_name (slice_index s.numbers i)) ≡ Some (WordValue 2 (x.choice i))

-- the names that are declared before the choices, the last first
abbrev pub names_before : Source → List (List ℕ)
names_before s = onto (onto [] (part_symbols s.layout 0)) (head_parts s.layout s.heads)

-- those that are declared before what contract steps are given
abbrev pub names_until : Source → List (List ℕ)
names_until s = onto (names_before s) (choices_of s)

-- what is given
abbrev pub given_of : Source → List (List ℕ)
given_of s = all_symbols s.layout s.numbers s.given

-- all declared names
abbrev pub declared_names : Source → List (List ℕ)
declared_names s = onto (names_until s) (given_of s)

-- no choice is one of what is given
undrawn : (numbers : List ℕ) (draws : List Bool) (v : List ℕ) → among (drawn numbers draws) (103 ∷ v) ≡ false
undrawn numbers [] v = refl
undrawn [] (d ∷ ds) v = refl
undrawn (n ∷ ns) (true ∷ ds) v = undrawn ns ds v
undrawn (n ∷ ns) (false ∷ ds) v = undrawn ns ds v

-- what a fixed name is
pub record IsFixed (w : List ℕ) : Type 0 where
  pub symbol : is_symbol w ≡ true
  pub word : is_word w ≡ true
  pub plain : is_lettered w ≡ false

pub fixed_of : (w : List ℕ) → is_fixed w ≡ true → IsFixed w
fixed_of w h =
    let a = both_true (is_symbol w) _ h in
    let b = both_true (is_word w) _ a.1 in
    record { symbol = a.0; word = b.0; plain = is_false _ b.1 }

-- the bytes of a word
pub inner_of : (w : List ℕ) → is_word w ≡ true → list_all is_inner w ≡ true
inner_of [] h = refl
inner_of (b ∷ w) h = h

given_fixed : (n : ℕ) (w : List ℕ) → n < 2 ^ 64 → is_word w ≡ true → IsFixed (of_given n w)
given_fixed n w few h = record { symbol = refl; word = given_word n w few (inner_of w h); plain = refl }

module _ (s : Source) (formed : IsFormed s) where
  -- the symbols of both parts are fixed names
  entry_fixed : list_all is_fixed (part_symbols s.layout 0) ≡ true
  entry_fixed = (all_both is_fixed (part_symbols s.layout 0) [] (formed.usable.fixed false)).0

  pub part_fixed : (p : ℕ) → IsOfScript s.heads p → list_all is_fixed (part_symbols s.layout p) ≡ true
  part_fixed zero of = entry_fixed
  part_fixed (suc zero) of = (all_both is_fixed (part_symbols s.layout 0) (part_symbols s.layout 1) (formed.usable.fixed true)).1
  part_fixed (suc (suc p)) of = absurd of

  head_fixed : list_all is_fixed (head_parts s.layout s.heads) ≡ true
  head_fixed = (all_both is_fixed (part_symbols s.layout 0) (head_parts s.layout s.heads) (formed.usable.fixed s.heads)).1

  pub registers_fixed : (p : ℕ) → IsOfScript s.heads p → list_all is_fixed (part_names p s.layout.registers) ≡ true
  registers_fixed p of = (all_both is_fixed (part_names p s.layout.registers) _ (part_fixed p of)).0

  pub flags_fixed : (p : ℕ) → IsOfScript s.heads p → list_all is_fixed (part_names p s.layout.flags) ≡ true
  flags_fixed p of =
      (all_both is_fixed (part_names p s.layout.flags) (memory_name p ∷ [])
      (all_both is_fixed (part_names p s.layout.registers) _ (part_fixed p of)).1).0

  low_register_fixed : (p i : ℕ) → IsOfScript s.heads p → i < length s.layout.registers → IsFixed (part_name p (name_at s.layout.registers i))
  low_register_fixed p i of l =
      fixed_of (part_name p (name_at s.layout.registers i))
      (ap is_fixed (sym (part_at p s.layout.registers i l))
      ∙ each_own is_fixed (part_names p s.layout.registers) i (registers_fixed p of) (let c = part_count p s.layout.registers in omega (arith, l, c)))

  low_flag_fixed : (p i : ℕ) → IsOfScript s.heads p → i < length s.layout.flags → IsFixed (part_name p (name_at s.layout.flags i))
  low_flag_fixed p i of l =
      fixed_of (part_name p (name_at s.layout.flags i))
      (ap is_fixed (sym (part_at p s.layout.flags i l))
      ∙ each_own is_fixed (part_names p s.layout.flags) i (flags_fixed p of) (let c = part_count p s.layout.flags in omega (arith, l, c)))

  -- what is given at a place has a number
  number_few : (j : ℕ) → j < length s.given → slice_index s.numbers j < 2 ^ 64
  number_few j l = formed.few j (omega (arith, l, formed.numbered))

  -- the symbols of registers and flags of all parts
  pub register_fixed : (p i : ℕ) → IsOfPart s.heads s.given (gives_register (s.layout.first + i)) p → i < length s.layout.registers →
      IsFixed (name_in s.numbers p (name_at s.layout.registers i))
  register_fixed zero i of l = low_register_fixed zero i tt l
  register_fixed (suc zero) i of l = low_register_fixed (suc zero) i of l
  register_fixed (suc (suc j)) i of l =
      given_fixed (slice_index s.numbers j) (name_at s.layout.registers i) (number_few j of.0) (low_register_fixed zero i tt l).word

  pub flag_fixed : (p i f : ℕ) → IsOfPart s.heads s.given (gives_flag f) p → i < length s.layout.flags →
      IsFixed (name_in s.numbers p (name_at s.layout.flags i))
  flag_fixed zero i f of l = low_flag_fixed zero i tt l
  flag_fixed (suc zero) i f of l = low_flag_fixed (suc zero) i of l
  flag_fixed (suc (suc j)) i f of l =
      given_fixed (slice_index s.numbers j) (name_at s.layout.flags i) (number_few j of.0) (low_flag_fixed zero i tt l).word

  -- what is declared before the choices has none of their names, and none of a term
  pub lettered_none : (b : ℕ) (v : List ℕ) → ((b == 116) || (b == 99)) ≡ true → among (names_before s) (b ∷ v) ≡ false
  lettered_none b v h =
      onto_none (onto [] (part_symbols s.layout 0)) (head_parts s.layout s.heads) (b ∷ v)
      (onto_none [] (part_symbols s.layout 0) (b ∷ v) refl
      (not_lettered is_fixed (λ w e. (fixed_of w e).plain) b v (part_symbols s.layout 0) h entry_fixed))
      (not_lettered is_fixed (λ w e. (fixed_of w e).plain) b v (head_parts s.layout s.heads) h head_fixed)

  -- none of it is a symbol of what is given
  fixed_none : (v : List ℕ) → among (names_before s) (103 ∷ v) ≡ false
  fixed_none v =
      let t = all_both (λ w. not (is_gifted w)) (part_symbols s.layout 0) (head_parts s.layout s.heads) (formed.usable.ungiven s.heads) in
      onto_none (onto [] (part_symbols s.layout 0)) (head_parts s.layout s.heads) (103 ∷ v)
      (onto_none [] (part_symbols s.layout 0) (103 ∷ v) refl (no_gift (part_symbols s.layout 0) v t.0)) (no_gift (head_parts s.layout s.heads) v t.1)

  -- so what is given is new
  pub given_new : are_new (names_until s) (given_of s) ≡ true
  given_new =
      new_from (names_until s) (given_of s) (all_distinct s.layout formed.usable s.numbers s.given formed.few formed.distinct)
      (λ w h. (let q = of_place s.layout s.numbers s.given w h in
      ap (among (names_until s)) q.is.is
      ∙ onto_none (names_before s) (choices_of s) (of_given (slice_index s.numbers q.place) q.is.name) (fixed_none _) (undrawn s.numbers s.draws _)))

  -- the symbols of a part are declared
  until_named : (w : List ℕ) → among (names_until s) w ≡ true → among (declared_names s) w ≡ true
  until_named w h = onto_done (names_until s) (given_of s) w h

  part_named : (p : ℕ) → IsOfScript s.heads p → (w : List ℕ) → among (part_symbols s.layout p) w ≡ true → among (declared_names s) w ≡ true
  part_named zero of w h =
      until_named w (onto_done (names_before s) (choices_of s) w
      (onto_done (onto [] (part_symbols s.layout 0)) (head_parts s.layout s.heads) w (onto_new [] (part_symbols s.layout 0) w h)))
  part_named (suc zero) of w h =
      until_named w (onto_done (names_before s) (choices_of s) w
      (onto_new (onto [] (part_symbols s.layout 0)) (head_parts s.layout s.heads) w (ap (λ b. among (head_parts s.layout b) w) of ∙ h)))
  part_named (suc (suc p)) of w h = absurd of

  low_register_named : (p i : ℕ) → IsOfScript s.heads p → i < length s.layout.registers →
      among (declared_names s) (part_name p (name_at s.layout.registers i)) ≡ true
  low_register_named p i of l =
      part_named p of (part_name p (name_at s.layout.registers i))
      (among_left (part_names p s.layout.registers) _ (part_name p (name_at s.layout.registers i)) (part_among p s.layout.registers i l))

  low_flag_named : (p i : ℕ) → IsOfScript s.heads p → i < length s.layout.flags →
      among (declared_names s) (part_name p (name_at s.layout.flags i)) ≡ true
  low_flag_named p i of l =
      part_named p of (part_name p (name_at s.layout.flags i))
      (among_right (part_names p s.layout.registers) _ (part_name p (name_at s.layout.flags i))
      (among_left (part_names p s.layout.flags) (memory_name p ∷ []) (part_name p (name_at s.layout.flags i)) (part_among p s.layout.flags i l)))

  low_memory_named : (p : ℕ) → IsOfScript s.heads p → among (declared_names s) (memory_name p) ≡ true
  low_memory_named p of =
      part_named p of (memory_name p)
      (among_right (part_names p s.layout.registers) _ (memory_name p)
      (among_right (part_names p s.layout.flags) (memory_name p ∷ []) (memory_name p) (among_first (memory_name p))))

  -- so are those of what is given
  given_named : (j : ℕ) → j < length s.given → (w : List ℕ) → among (names_of s.layout (given_at s.given j)) w ≡ true →
      among (declared_names s) (of_given (slice_index s.numbers j) w) ≡ true
  given_named j l w h =
      let n = slice_index s.numbers j in
      let g = given_at s.given j in
      onto_new (names_until s) (given_of s) (of_given n w)
      (place_among s.layout s.numbers s.given j (of_given n w) (omega (arith, l, formed.numbered)) l
      (ap (λ names. among names (of_given n w)) (symbols_are s.layout n g) ∙ among_given n (names_of s.layout g) w ∙ h))

  pub register_named : (p i : ℕ) → IsOfPart s.heads s.given (gives_register (s.layout.first + i)) p → i < length s.layout.registers →
      among (declared_names s) (name_in s.numbers p (name_at s.layout.registers i)) ≡ true
  register_named zero i of l = low_register_named zero i tt l
  register_named (suc zero) i of l = low_register_named (suc zero) i of l
  register_named (suc (suc j)) i of l =
      let g = given_at s.given j in
      let rs = changed_registers g.registers s.layout.first s.layout.registers in
      given_named j of.0 (name_at s.layout.registers i)
      (among_left rs (changed_flags g.flags s.layout.flags ++ written_memory (writes_some g.writes)) (name_at s.layout.registers i)
      (register_among g.registers s.layout.first s.layout.registers i l of.1))

  pub flag_named : (p i f : ℕ) → f ≡ length s.layout.flags - 1 - i → IsOfPart s.heads s.given (gives_flag f) p → i < length s.layout.flags →
      among (declared_names s) (name_in s.numbers p (name_at s.layout.flags i)) ≡ true
  flag_named zero i f e of l = low_flag_named zero i tt l
  flag_named (suc zero) i f e of l = low_flag_named (suc zero) i of l
  flag_named (suc (suc j)) i f e of l =
      let g = given_at s.given j in
      let rs = changed_registers g.registers s.layout.first s.layout.registers in
      let fs = changed_flags g.flags s.layout.flags in
      let ms = written_memory (writes_some g.writes) in
      let w = name_at s.layout.flags i in
      given_named j of.0 w
      (among_right rs (fs ++ ms) w
      (among_left fs ms w (flag_among g.flags s.layout.flags i l (ap (λ q. list_any (nat_eq q) g.flags) (sym e) ∙ of.1))))

  pub memory_named : (p : ℕ) → IsOfPart s.heads s.given gives_memory p → among (declared_names s) (memory_in s.numbers p) ≡ true
  memory_named zero of = low_memory_named zero tt
  memory_named (suc zero) of = low_memory_named (suc zero) of
  memory_named (suc (suc j)) of =
      let g = given_at s.given j in
      let rs = changed_registers g.registers s.layout.first s.layout.registers in
      let fs = changed_flags g.flags s.layout.flags in
      given_named j of.0 (codes "mem")
      (among_right rs (fs ++ written_memory (writes_some g.writes)) (codes "mem")
      (among_right fs (written_memory (writes_some g.writes)) (codes "mem") (ap (λ b. among (written_memory b) (codes "mem")) of.1)))
