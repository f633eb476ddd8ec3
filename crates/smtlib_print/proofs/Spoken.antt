-- What the text of a script says of values of its symbols, whatever it is of.
use Rattle.std.proofs.Common.{◌≡◌, ℕ, zero, suc, ◌^◌, ◌<◌, ◌⊎◌, refl, ap, sym, ◌∙◌, subst, arith, true, false, Bool, List, [], ◌∷◌, ◌++◌, Option, Some, None, length, map, Contains, inl, inr, append_assoc}
use Rattle.std.specs.Prelude.{◌==◌, ◌&&◌, codes, is_some, slice_index, slice_index_or}
use Rattle.std.specs.List.{list_all}
use Rattle.std.proofs.lemmas.Bool.Decides.{nat_tests}
use Rattle.std.proofs.lemmas.List.Elements.{Contains-append_left, Contains-append_right, Contains-append_cases}
use Rattle.bilv_spec.specs.Scripts.{AreWholeLines, IsTermName, choice_name, is_plain_byte}
use Rattle.bilv_spec.specs.SmtLib.{Sexp, Atom, Nil, SmtValue, commands_truth, declared_symbols, defined_symbols, sexps_of, truth_of}
use Rattle.frame_spec.specs.FrameScripts.{head_symbols, of_head}
use Rattle.machine_spec.specs.StateText.{Layout, value_names}
use Rattle.term_spec.specs.Terms as terms
use Rattle.term_spec.specs.Terms.{TermReading, InRange}
use Rattle.word_spec.specs.Texts.{line}
use Rattle.smtlib_print.specs.Commands.{Source, all_commands, all_declarations, all_given, choices_of, declarations, drawn, file_assertions, head_declarations, last_commands, memory_name, middle_commands, node_definitions, part_declarations, part_names, held_runs, held_head, word_sort}
use Rattle.smtlib_print.specs.Scripted.{source_text}
use Rattle.smtlib_print.specs.Written.{written, commands_text, before}
use Rattle.smtlib_print.proofs.Appended.{text-append}
use Rattle.smtlib_print.proofs.Declared.{both_true}
use Rattle.smtlib_print.proofs.HeldBytes.{HasKnown, from_held, head_from, head_to, to_held}
use Rattle.smtlib_print.proofs.Inputs.{have_words}
use Rattle.smtlib_print.proofs.Layouts.{fixed_names, head_parts, is_fixed, part_symbols}
use Rattle.smtlib_print.proofs.Names.{choice_word, term_word}
use Rattle.smtlib_print.proofs.ReadBack.{IsWritable, AreWritable, AreWritable-append, read_back, ArePlain, commands_plain}
use Rattle.smtlib_print.proofs.Sources.{HasValues, IsFormed, fixed_of, flags_fixed, given_of, registers_fixed}
use Rattle.smtlib_print.proofs.WritableGifts.{gifts_writable}
use Rattle.smtlib_print.proofs.Symbols.{one_later, one_of, script_declares, script_defines}
use Rattle.smtlib_print.proofs.Whole.{whole_truth}
use Rattle.smtlib_print.proofs.Writable.{AreWords, declarations_writable, file_writable, nodes_writable, part_writable}

whole_by : (front : List ℕ) (rest : List ℕ) → AreWholeLines rest → AreWholeLines (front ++ 10 ∷ rest)
whole_by front rest (inl e) = inr (front, ap (λ t. front ++ 10 ∷ t) e)
whole_by front rest (inr f) = inr (front ++ 10 ∷ f.0, ap (λ t. front ++ 10 ∷ t) f.1 ∙ sym (append_assoc front (10 ∷ f.0) (10 ∷ [])))

pub whole_lines : (cs : List Sexp) → AreWholeLines (commands_text cs)
whole_lines [] = inl refl
whole_lines (c ∷ cs) = whole_by (written c) (commands_text cs) (whole_lines cs)

plain_in : (text : List ℕ) (b : ℕ) → ArePlain text → Contains text b → is_plain_byte b ≡ true
plain_in [] b h c = absurd (omega (arith, c.1))
plain_in (a ∷ text) b h (zero, l, e) = ap is_plain_byte (sym e) ∙ (both_true (is_plain_byte a) (list_all is_plain_byte text) h).0
plain_in (a ∷ text) b h (suc k, l, e) = plain_in text b (both_true (is_plain_byte a) (list_all is_plain_byte text) h).1 (k, omega (arith, l), e)

truth_is : (model : List ℕ → Option SmtValue) (c : Sexp) → commands_truth model c ≡ truth_of model (λ x. None) c
unfolding commands_truth
truth_is model c = refl

fixed_words : (names : List (List ℕ)) → list_all is_fixed names ≡ true → AreWords names
fixed_words [] h = tt
fixed_words (w ∷ ws) h = let t = both_true (is_fixed w) (list_all is_fixed ws) h in ((fixed_of w t.0).word, fixed_words ws t.1)

drawn_words : (numbers : List ℕ) (draws : List Bool) → ((i : ℕ) → i < length numbers → slice_index numbers i < 2 ^ 64) → AreWords (drawn numbers draws)
drawn_words numbers [] h = tt
drawn_words [] (d ∷ ds) h = tt
drawn_words (n ∷ ns) (true ∷ ds) h = (choice_word n (h 0 (omega arith)), drawn_words ns ds (λ i l. h (suc i) (omega (arith, l))))
drawn_words (n ∷ ns) (false ∷ ds) h = drawn_words ns ds (λ i l. h (suc i) (omega (arith, l)))

-- a drawn name is that of a place
pub drawn_is : (numbers : List ℕ) (draws : List Bool) (w : List ℕ) → Contains (drawn numbers draws) w →
    (i : ℕ) × (i < length numbers) × (i < length draws) × (slice_index_or draws i false ≡ true) × (w ≡ choice_name (slice_index numbers i))
drawn_is numbers [] w c = absurd (omega (arith, c.1))
drawn_is [] (d ∷ ds) w c = absurd (omega (arith, c.1))
drawn_is (n ∷ ns) (true ∷ ds) w (zero, l, e) = (0, omega arith, omega arith, refl, sym e)
drawn_is (n ∷ ns) (true ∷ ds) w (suc k, l, e) =
    let f = drawn_is ns ds w (k, omega (arith, l), e) in (suc f.0, omega (arith, f.1), omega (arith, f.2), f.3, f.4)
drawn_is (n ∷ ns) (false ∷ ds) w c = let f = drawn_is ns ds w c in (suc f.0, omega (arith, f.1), omega (arith, f.2), f.3, f.4)

and_true : (b : Bool) → (b && true) ≡ b
and_true true = refl
and_true false = refl

map_both : (v w : List (List ℕ)) → map of_head (v ++ w) ≡ map of_head v ++ map of_head w
map_both [] w = refl
map_both (n ∷ v) w = ap (λ l. of_head n ∷ l) (map_both v w)

-- the symbols of the head
head_are : (layout : Layout) (heads : Bool) → head_parts layout heads ≡ head_symbols layout heads
head_are layout false = refl
head_are layout true =
    sym (ap (λ l. l ++ memory_name 1 ∷ []) (map_both layout.registers layout.flags)
    ∙ append_assoc (map of_head layout.registers) (map of_head layout.flags) (memory_name 1 ∷ []))

-- all declared symbols
symbols_are : (layout : Layout) (heads : Bool) (choices : List (List ℕ)) →
    fixed_names layout heads ++ choices ≡ value_names layout ++ (codes "mem" ∷ (head_symbols layout heads ++ choices))
symbols_are layout heads choices =
    append_assoc (part_symbols layout 0) (head_parts layout heads) choices
    ∙ append_assoc layout.registers (layout.flags ++ (codes "mem" ∷ [])) (head_parts layout heads ++ choices)
    ∙ ap (λ l. layout.registers ++ l) (append_assoc layout.flags (codes "mem" ∷ []) (head_parts layout heads ++ choices))
    ∙ sym (append_assoc layout.registers layout.flags (codes "mem" ∷ (head_parts layout heads ++ choices)))
    ∙ ap (λ l. value_names layout ++ (codes "mem" ∷ (l ++ choices))) (head_are layout heads)

-- what is declared besides: a choice, or what is given
abbrev others : Source → List (List ℕ)
others s = choices_of s ++ given_of s

-- a declared symbol is that of a value, of the memory, of the head, of a choice, or of what is given
abbrev pub IsDeclared : Source → List ℕ → Type 0
IsDeclared s w =
    Contains (value_names s.layout) w
    ⊎ ((w ≡ codes "mem") ⊎ (Contains (head_symbols s.layout s.heads) w ⊎ (Contains (choices_of s) w ⊎ Contains (given_of s) w)))

after_head : (s : Source) (w : List ℕ) → Contains (head_symbols s.layout s.heads ++ others s) w →
    Contains (head_symbols s.layout s.heads) w ⊎ (Contains (choices_of s) w ⊎ Contains (given_of s) w)
after_head s w c = elim (Contains-append_cases (head_symbols s.layout s.heads) (others s) w c) [
  | inl t ↦ inl t
  | inr t ↦ inr (Contains-append_cases (choices_of s) (given_of s) w t)
]

after_memory : (s : Source) (w : List ℕ) → Contains (codes "mem" ∷ (head_symbols s.layout s.heads ++ others s)) w →
    (w ≡ codes "mem") ⊎ (Contains (head_symbols s.layout s.heads) w ⊎ (Contains (choices_of s) w ⊎ Contains (given_of s) w))
after_memory s w (zero, l, e) = inl (sym e)
after_memory s w (suc k, l, e) = inr (after_head s w (k, omega (arith, l), e))

pub symbol_to : (s : Source) (w : List ℕ) → Contains (declared_symbols (before (all_commands (middle_commands s)) Nil)) w → IsDeclared s w
symbol_to s w c =
    let all = value_names s.layout ++ (codes "mem" ∷ (head_symbols s.layout s.heads ++ others s)) in
    let here : Contains all w = subst (λ (ws : List (List ℕ)). Contains ws w) (script_declares s ∙ symbols_are s.layout s.heads (others s)) c in
    elim (Contains-append_cases (value_names s.layout) (codes "mem" ∷ (head_symbols s.layout s.heads ++ others s)) w here) [
      | inl t ↦ inl t
      | inr t ↦ inr (after_memory s w t)
    ]

in_all : (s : Source) (w : List ℕ) → IsDeclared s w → Contains (value_names s.layout ++ (codes "mem" ∷ (head_symbols s.layout s.heads ++ others s))) w
in_all s w (inl v) = Contains-append_left (value_names s.layout) _ w v
in_all s w (inr (inl e)) = Contains-append_right (value_names s.layout) _ w (0, omega arith, sym e)
in_all s w (inr (inr (inl h))) =
    Contains-append_right (value_names s.layout) _ w (one_later (codes "mem") w _ (Contains-append_left (head_symbols s.layout s.heads) (others s) w h))
in_all s w (inr (inr (inr (inl c)))) =
    Contains-append_right (value_names s.layout) _ w
    (one_later (codes "mem") w _ (Contains-append_right (head_symbols s.layout s.heads) (others s) w
    (Contains-append_left (choices_of s) (given_of s) w c)))
in_all s w (inr (inr (inr (inr g)))) =
    Contains-append_right (value_names s.layout) _ w
    (one_later (codes "mem") w _ (Contains-append_right (head_symbols s.layout s.heads) (others s) w
    (Contains-append_right (choices_of s) (given_of s) w g)))

pub symbol_from : (s : Source) (w : List ℕ) → IsDeclared s w → Contains (declared_symbols (before (all_commands (middle_commands s)) Nil)) w
symbol_from s w d =
    subst (λ (ws : List (List ℕ)). Contains ws w) (sym (script_declares s ∙ symbols_are s.layout s.heads (others s))) (in_all s w d)

-- what it says: the bit is 1, and the memories have the bytes of the file
pub record Says (s : Source) (x : TermReading) : Type 0 where
  pub root : terms.term_word x s.nodes s.root ≡ 1
  pub entry : HasKnown 0 s.kept s.known (x.mem 0)
  pub head : s.asks_head ≡ true → HasKnown 1 s.kept s.known (x.mem 1)

one_by : (n : ℕ) → (n == 1) ≡ true → n ≡ 1
one_by n h = grind (arith, nat_tests)

by_one : (n : ℕ) → n ≡ 1 → (n == 1) ≡ true
by_one n h = grind (arith, nat_tests)

module _ (s : Source) (formed : IsFormed s) where
  -- its commands
  abbrev pub commands : Sexp
  commands = before (all_commands (middle_commands s)) Nil

  head_writable : (heads : Bool) → (heads ≡ true → s.heads ≡ true) → AreWritable (head_declarations s.layout heads)
  head_writable false of = tt
  head_writable true of =
      part_writable s.layout 1 (fixed_words (part_names 1 s.layout.registers) (registers_fixed s formed 1 (of refl)))
      (fixed_words (part_names 1 s.layout.flags) (flags_fixed s formed 1 (of refl)))

  declared_writable : AreWritable (all_declarations s.layout s.heads (choices_of s) (all_given s.layout s.numbers s.given))
  declared_writable =
      let choice_is : IsWritable (word_sort (Atom (codes "2"))) = (refl, (refl, (refl, tt))) in
      AreWritable-append (part_declarations s.layout 0) _
      (part_writable s.layout 0 (fixed_words s.layout.registers (registers_fixed s formed 0 tt)) (fixed_words s.layout.flags (flags_fixed s formed 0 tt)))
      (AreWritable-append (head_declarations s.layout s.heads) _ (head_writable s.heads (λ e. e))
      (AreWritable-append (declarations (word_sort (Atom (codes "2"))) (choices_of s)) _
      (declarations_writable _ (choices_of s) choice_is (drawn_words s.numbers s.draws formed.few))
      (gifts_writable s.layout s.numbers s.given formed.few (fixed_words s.layout.registers (registers_fixed s formed 0 tt))
      (fixed_words s.layout.flags (flags_fixed s formed 0 tt)))))

  writable : AreWritable (all_commands (middle_commands s))
  writable = (
    (refl, (refl, tt)),
    AreWritable-append (middle_commands s) _
        (AreWritable-append (all_declarations s.layout s.heads (choices_of s) (all_given s.layout s.numbers s.given)) _ declared_writable
        (AreWritable-append (node_definitions s.layout s.numbers 0 s.nodes) (last_commands s)
        (nodes_writable s.layout s.numbers [] s.nodes 0 refl (omega (arith, formed.small)) tt formed.typed (have_words s formed)) (
          (
            refl,
            (
              term_word (length s.nodes) (omega (arith, formed.small)),
              (tt, (refl, ((refl, (term_word s.root (omega (arith, formed.small, formed.root.0)), (refl, tt))), tt))),
            ),
          ),
          AreWritable-append (file_assertions s.asks_head s.kept s.known) _ (file_writable s.asks_head s.kept s.known)
              ((refl, (term_word (length s.nodes) (omega (arith, formed.small)), tt)), tt),
        )))
        ((refl, tt), tt),
  )

  pub text_is : source_text s ≡ line (codes "(set-logic QF_ABV)") ++ (commands_text (middle_commands s) ++ line (codes "(check-sat)"))
  text_is = ap (λ t. codes "(set-logic QF_ABV)\n" ++ t) (text-append (middle_commands s) _)

  pub plain : (b : ℕ) → Contains (source_text s) b → is_plain_byte b ≡ true
  plain b c = plain_in (source_text s) b (commands_plain (all_commands (middle_commands s)) writable) c

  pub commands_are : sexps_of (source_text s) ≡ Some commands
  commands_are = read_back (all_commands (middle_commands s)) writable

  pub defines : (w : List ℕ) → Contains (defined_symbols commands) w → IsTermName w
  defines w c = one_of (defined_symbols commands) w (script_defines s) c

  module _ (x : TermReading) (range : InRange x) (model : List ℕ → Option SmtValue) (values : HasValues s x model) where
    abbrev bit : Bool
    bit = terms.term_word x s.nodes s.root == 1

    truth : commands_truth model commands ≡ Some (held_runs 0 s.kept (x.mem 0) s.known (held_head s.asks_head s.kept (x.mem 1) s.known bit))
    truth =
        truth_is model commands ∙ whole_truth s formed x range model values
        ∙ ap (λ b. Some (held_runs 0 s.kept (x.mem 0) s.known (held_head s.asks_head s.kept (x.mem 1) s.known b))) (and_true bit)

    pub well_formed : is_some (commands_truth model commands) ≡ true
    well_formed = ap is_some truth

    pub says_to : commands_truth model commands ≡ Some true → Says s x
    says_to e =
        let h : held_runs 0 s.kept (x.mem 0) s.known (held_head s.asks_head s.kept (x.mem 1) s.known bit) ≡ true = cc (sym truth ∙ e) in
        let entry = from_held 0 s.kept (x.mem 0) s.known (held_head s.asks_head s.kept (x.mem 1) s.known bit) h in
        let head = head_from s.asks_head s.kept (x.mem 1) s.known bit entry.0 in
        record { root = one_by (terms.term_word x s.nodes s.root) head.0; entry = entry.1; head = head.1 }

    pub says_from : Says s x → commands_truth model commands ≡ Some true
    says_from t =
        let head = head_to s.asks_head s.kept (x.mem 1) s.known bit formed.fit formed.behind (by_one (terms.term_word x s.nodes s.root) t.root) t.head in
        truth
        ∙ ap Some (to_held 0 s.kept (x.mem 0) s.known 0 (held_head s.asks_head s.kept (x.mem 1) s.known bit) formed.fit formed.behind head t.entry)
