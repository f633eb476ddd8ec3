-- What a whole script says of values of its symbols.
use Rattle.std.proofs.Common.{◌≡◌, ℕ, zero, suc, ◌+◌, ◌-◌, ◌^◌, ◌<◌, refl, ap, sym, ◌∙◌, subst, arith, true, false, Bool, List, [], ◌∷◌, ◌++◌, Option, Some, None, length}
use Rattle.std.specs.Prelude.{◌==◌, ◌&&◌, nat_lt, codes, slice_index}
use Rattle.std.proofs.lemmas.Bool.Decides.{nat_tests}
use Rattle.bilv_spec.specs.SmtLib.{Sexp, Atom, Nil, SmtValue, TruthValue, WordValue, ArrayValue, atom_value, binds, truth_of}
use Rattle.word_spec.specs.Texts.{number_text}
use Rattle.term_spec.specs.Terms as terms
use Rattle.term_spec.specs.Terms.{TermReading, InRange}
use Rattle.smtlib_print.specs.Commands.{Given, Source, all_given, name_in, term_name, term, word_sort, array_sort, declaration, declarations, part_declarations, head_declarations, all_declarations, choices_of, node_definitions, run_assertions, head_assertions, assertion, held_runs, held_head, last_commands, memory_name, middle_commands, part_name, part_names, all_commands}
use Rattle.frame_spec.specs.FrameScripts.{writes_some}
use Rattle.smtlib_print.specs.Written.{one, two, before}
use Rattle.smtlib_print.proofs.Asserted.{assert_head, assert_runs, assertion_truth, root_step}
use Rattle.smtlib_print.proofs.Declared.{AreDeclared, AreSorted, IsDeclaring, IsSorted, are_new, before-append, declare_all, declare_both, declared_as, new_both, onto, onto-append, onto_none}
use Rattle.smtlib_print.proofs.Defined.{among, Apart, Stands, define_nodes, bound_here, stands_on}
use Rattle.smtlib_print.proofs.Drawn.{drawn_sorted, drawn_new, drawn_apart}
use Rattle.smtlib_print.proofs.GivenSymbols.{IsSortedAt, given_at, letter_nowhere, memory_sorted}
use Rattle.smtlib_print.proofs.GivenSymbols.{all_declared as gifts_declared, flags_sorted as given_flags_sorted, registers_sorted as given_registers_sorted}
use Rattle.smtlib_print.proofs.Inputs.{are_inputs, memory_input}
use Rattle.smtlib_print.proofs.Layouts.{head_parts, name_at, part_at, part_count, part_symbols}
use Rattle.smtlib_print.proofs.Names.{term_symbol, symbol_value, other_text}
use Rattle.smtlib_print.proofs.Sources.{HasValues, IsFormed, IsOfPart, IsOfScript, declared_names, given_new, given_of, gives_flag, gives_memory, gives_register, lettered_none, names_before, names_until}

sorted_by : (model : List ℕ → Option SmtValue) (sort : Sexp) (names : List (List ℕ)) → ((i : ℕ) → i < length names → IsSorted model sort (name_at names i)) →
    AreSorted model sort names
sorted_by model sort [] h = tt
sorted_by model sort (n ∷ ns) h = (h 0 (omega arith), sorted_by model sort ns (λ i l. h (suc i) (omega (arith, l))))

word_sorted : (model : List ℕ → Option SmtValue) (w : List ℕ) (v : ℕ) → v < 2 ^ 32 → model w ≡ Some (WordValue 32 v) →
    IsSorted model (word_sort (Atom (codes "32"))) w
word_sorted model w v h e = let l : nat_lt v (2 ^ 32) ≡ true = grind (arith, nat_tests) in record { value = WordValue 32 v; is = e; sort_is = l }

bit_sorted : (model : List ℕ → Option SmtValue) (w : List ℕ) (v : ℕ) → v < 2 → model w ≡ Some (WordValue 1 v) → IsSorted model (word_sort (Atom (codes "1"))) w
bit_sorted model w v h e = let l : nat_lt v (2 ^ 1) ≡ true = grind (arith, nat_tests) in record { value = WordValue 1 v; is = e; sort_is = l }

choice_sorted : (model : List ℕ → Option SmtValue) (w : List ℕ) (v : ℕ) → v < 4 → model w ≡ Some (WordValue 2 v) →
    IsSorted model (word_sort (Atom (codes "2"))) w
choice_sorted model w v h e = let l : nat_lt v (2 ^ 2) ≡ true = grind (arith, nat_tests) in record { value = WordValue 2 v; is = e; sort_is = l }

module _ (s : Source) (formed : IsFormed s) (x : TermReading) (range : InRange x) (model : List ℕ → Option SmtValue) (values : HasValues s x model) where
  -- the entry's part and the head's
  low_part : (gives : Given → Bool) (p : ℕ) → IsOfScript s.heads p → IsOfPart s.heads s.given gives p
  low_part gives zero of = tt
  low_part gives (suc zero) of = of
  low_part gives (suc (suc p)) of = absurd of

  low_name : (p : ℕ) (w : List ℕ) → IsOfScript s.heads p → part_name p w ≡ name_in s.numbers p w
  low_name zero w of = refl
  low_name (suc zero) w of = refl
  low_name (suc (suc p)) w of = absurd of

  registers_sorted : (p : ℕ) → IsOfScript s.heads p → AreSorted model (word_sort (Atom (codes "32"))) (part_names p s.layout.registers)
  registers_sorted p of = sorted_by model (word_sort (Atom (codes "32"))) (part_names p s.layout.registers)
      (λ i l. let k : i < length s.layout.registers = omega (arith, l, part_count p s.layout.registers) in
      word_sorted model (name_at (part_names p s.layout.registers) i) (x.regs p (s.layout.first + i)) (range.regs p (s.layout.first + i))
      (ap model (part_at p s.layout.registers i k ∙ low_name p _ of) ∙ values.registers p i (low_part (gives_register (s.layout.first + i)) p of) k))

  flags_sorted : (p : ℕ) → IsOfScript s.heads p → AreSorted model (word_sort (Atom (codes "1"))) (part_names p s.layout.flags)
  flags_sorted p of = sorted_by model (word_sort (Atom (codes "1"))) (part_names p s.layout.flags)
      (λ i l. let k : i < length s.layout.flags = omega (arith, l, part_count p s.layout.flags) in
      let f = length s.layout.flags - 1 - i in
      let e : length s.layout.flags - 1 - f ≡ i = omega (arith, k) in
      bit_sorted model (name_at (part_names p s.layout.flags) i) (x.flags p f) (range.flags p f)
      (ap model (part_at p s.layout.flags i k ∙ low_name p _ of) ∙ ap (λ j. model (name_in s.numbers p (name_at s.layout.flags j))) (sym e)
      ∙ values.flags p f (low_part (gives_flag f) p of) (omega (arith, k))))

  choices_sorted : AreSorted model (word_sort (Atom (codes "2"))) (choices_of s)
  choices_sorted = drawn_sorted model (word_sort (Atom (codes "2"))) s.numbers s.draws
      (λ i l. choice_sorted model _ (x.choice i) (range.choice i) (values.choices i l))

  choices_new : are_new (names_before s) (choices_of s) ≡ true
  choices_new =
      drawn_new (names_before s) s.numbers s.draws formed.few (λ i l. lettered_none s formed 99 (number_text (slice_index s.numbers i)) refl) formed.distinct

  -- the declarations of a part
  part_declared : (p : ℕ) → IsOfScript s.heads p → (done : List (List ℕ)) (symbols : List ℕ → Option SmtValue) → AreDeclared model symbols done →
      are_new done (part_symbols s.layout p) ≡ true → IsDeclaring model symbols (onto done (part_symbols s.layout p)) (part_declarations s.layout p)
  part_declared p of done symbols d new =
      let rs = part_names p s.layout.registers in
      let fs = part_names p s.layout.flags in
      let ms = memory_name p ∷ [] in
      let n = new_both done rs (fs ++ ms) new in
      let m = new_both (onto done rs) fs ms n.1 in
      let a = declare_all model (word_sort (Atom (codes "32"))) rs done symbols (registers_sorted p of) n.0 d in
      let b = declare_all model (word_sort (Atom (codes "1"))) fs (onto done rs) a.after (flags_sorted p of) m.0 a.declared in
      let c = declare_all model array_sort ms (onto (onto done rs) fs) b.after
      (record { value = ArrayValue (x.mem p); is = ap model (low_name p (codes "mem") of) ∙ values.memory p (low_part gives_memory p of); sort_is = refl }, tt)
      m.1 b.declared in
      declared_as model symbols (onto (onto (onto done rs) fs) ms) (onto done (rs ++ (fs ++ ms))) (part_declarations s.layout p)
      (sym (onto-append done rs (fs ++ ms) ∙ onto-append (onto done rs) fs ms))
      (declare_both model symbols (onto done rs) (onto (onto (onto done rs) fs) ms) (declarations (word_sort (Atom (codes "32"))) rs)
      (declarations (word_sort (Atom (codes "1"))) fs ++ (declaration (memory_name p) array_sort ∷ [])) a
      (declare_both model a.after (onto (onto done rs) fs) (onto (onto (onto done rs) fs) ms) (declarations (word_sort (Atom (codes "1"))) fs)
      (declaration (memory_name p) array_sort ∷ []) b c))

  -- those of the head
  head_declared : (heads : Bool) → (heads ≡ true → s.heads ≡ true) → (done : List (List ℕ)) (symbols : List ℕ → Option SmtValue) →
      AreDeclared model symbols done → are_new done (head_parts s.layout heads) ≡ true →
      IsDeclaring model symbols (onto done (head_parts s.layout heads)) (head_declarations s.layout heads)
  head_declared false of done symbols d new = record { after = symbols; declared = d; runs = λ rest. refl }
  head_declared true of done symbols d new = part_declared 1 (of refl) done symbols d new

  -- what is given at a place
  given_sorted : (j : ℕ) → j < length s.numbers → j < length s.given → IsSortedAt model s.layout (slice_index s.numbers j) (given_at s.given j)
  given_sorted j l k =
      let n = slice_index s.numbers j in
      let g = given_at s.given j in
      let p = suc (suc j) in
      record {
        registers = given_registers_sorted model (word_sort (Atom (codes "32"))) n g.registers s.layout.first s.layout.registers
            (λ i m e. word_sorted model _ (x.regs p (s.layout.first + i)) (range.regs p (s.layout.first + i)) (values.registers p i (k, e) m));
        flags = given_flags_sorted model (word_sort (Atom (codes "1"))) n g.flags s.layout.flags
            (λ i m e. (let f = length s.layout.flags - 1 - i in
            let z : length s.layout.flags - 1 - f ≡ i = omega (arith, m) in
            bit_sorted model _ (x.flags p f) (range.flags p f)
            (ap (λ q. model (name_in s.numbers p (name_at s.layout.flags q))) (sym z) ∙ values.flags p f (k, e) (omega (arith, m)))));
        memory = memory_sorted model array_sort n (writes_some g.writes)
            (λ e. record { value = ArrayValue (x.mem p); is = values.memory p (k, e); sort_is = refl });
      }

  all_declared : IsDeclaring model (λ w. None) (declared_names s) (all_declarations s.layout s.heads (choices_of s) (all_given s.layout s.numbers s.given))
  all_declared =
      let n = new_both [] (part_symbols s.layout 0) (head_parts s.layout s.heads) (formed.usable.new s.heads) in
      let a = part_declared 0 tt [] (λ w. None) (λ w. refl) n.0 in
      let b = head_declared s.heads (λ e. e) (onto [] (part_symbols s.layout 0)) a.after a.declared n.1 in
      let c = declare_all model (word_sort (Atom (codes "2"))) (choices_of s) (names_before s) b.after choices_sorted choices_new b.declared in
      let d = gifts_declared model s.layout s.numbers s.given given_sorted (names_until s) c.after c.declared (given_new s formed) in
      let cs = declarations (word_sort (Atom (codes "2"))) (choices_of s) in
      let gs = all_given s.layout s.numbers s.given in
      declare_both model (λ w. None) (onto [] (part_symbols s.layout 0)) (declared_names s) (part_declarations s.layout 0)
      (head_declarations s.layout s.heads ++ (cs ++ gs)) a
      (declare_both model a.after (names_before s) (declared_names s) (head_declarations s.layout s.heads) (cs ++ gs) b
      (declare_both model b.after (names_until s) (declared_names s) cs gs c d))

  term_none : (t : ℕ) → among (declared_names s) (term_name t) ≡ false
  term_none t =
      onto_none (names_until s) (given_of s) (term_name t)
      (onto_none (names_before s) (choices_of s) (term_name t) (lettered_none s formed 116 (number_text t) refl) (drawn_apart s.numbers s.draws t))
      (letter_nowhere s.layout 116 (number_text t) s.numbers s.given refl)

  stands : Stands model all_declared.after (declared_names s) 0
  stands = record {
    inputs = λ w m. all_declared.declared w ∙ rw m refl;
    fresh = λ t l k. all_declared.declared (term_name t) ∙ rw (term_none t) refl;
  }

  apart : Apart (declared_names s)
  apart w t m = other_text w (term_name t) (λ e. absurd (cc (sym (sym (ap (among (declared_names s)) e) ∙ m) ∙ term_none t)))

  -- the value of the bit that is meant
  abbrev pub meant : Bool
  meant = terms.term_word x s.nodes s.root == 1

  -- what the script says: the bit is 1, and the bytes are those of the file
  pub whole_truth : truth_of model (λ w. None) (before (all_commands (middle_commands s)) Nil)
      ≡ Some (held_runs 0 s.kept (x.mem 0) s.known (held_head s.asks_head s.kept (x.mem 1) s.known (meant && true)))
  whole_truth =
      let names = declared_names s in
      let reached = define_nodes model names s.layout s.numbers x range apart [] s.nodes 0 all_declared.after refl (omega (arith, formed.small)) tt
      formed.typed (are_inputs s formed x model values) stands
      (record { terms = λ t l. absurd (omega (arith, l)) }) in
      let n = length s.nodes in
      let there : Stands model reached.after names n = subst (Stands model reached.after names) (omega arith) reached.stands in
      let word = terms.term_word x s.nodes s.root in
      let bit : atom_value reached.after (term_name s.root) ≡ Some (WordValue 1 word) =
      symbol_value reached.after (term_name s.root) (term_symbol s.root (omega (arith, formed.root.0, formed.small)))
      ∙ subst (λ (k : ℕ). reached.after (term_name s.root) ≡ Some (WordValue k word)) formed.root.1
      ((reached.knows.terms s.root formed.root.0).word (omega (arith, formed.root.1))) in
      let after_root = binds reached.after (term_name n) (TruthValue (word == 1)) in
      let stays = stands_on model reached.after names n (TruthValue (word == 1)) apart (omega (arith, formed.small)) there in
      let check = one (Atom (codes "check-sat")) in
      let last = assertion (term n) in
      let entry = run_assertions 0 s.kept s.known in
      let head = head_assertions s.asks_head s.kept s.known in
      let says = last_commands s in
      let defined = node_definitions s.layout s.numbers 0 s.nodes in
      let declared = all_declarations s.layout s.heads (choices_of s) (all_given s.layout s.numbers s.given) in
      let none : List ℕ → Option SmtValue = λ w. None in
      ap (truth_of model none) (before-append (declared ++ (defined ++ says)) (check ∷ []) Nil)
      ∙ ap (truth_of model none) (before-append declared (defined ++ says) (one check))
      ∙ all_declared.runs (before (defined ++ says) (one check))
      ∙ ap (truth_of model all_declared.after) (before-append defined says (one check))
      ∙ reached.runs (before says (one check))
      ∙ root_step model reached.after n s.root word (before ((entry ++ head) ++ (last ∷ [])) (one check))
      (there.fresh n (omega arith) (omega (arith, formed.small))) bit
      ∙ ap (truth_of model after_root) (before-append (entry ++ head) (last ∷ []) (one check))
      ∙ ap (truth_of model after_root) (before-append entry head (two last check))
      ∙ assert_runs model after_root names 0 s.kept (x.mem 0) (memory_input s formed x model values 0 tt) (suc n) stays s.known formed.fit
      (before head (two last check)) (held_head s.asks_head s.kept (x.mem 1) s.known ((word == 1) && true))
      (assert_head model after_root names s.kept (x.mem 1) (suc n) stays s.asks_head (λ e. memory_input s formed x model values 1 (formed.asks e)) s.known
      formed.fit (two last check) ((word == 1) && true)
      (assertion_truth model after_root n (word == 1) (omega (arith, formed.small)) (bound_here reached.after n (TruthValue (word == 1)))))
