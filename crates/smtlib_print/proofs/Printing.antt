-- The parts of a script one after another.
use Rattle.std.proofs.Common.{◌≡◌, ℕ, ◌∷◌, [], Bool, List, ◌++◌, length, ap, sym, ◌∙◌, append_assoc}
use Rattle.std.specs.Prelude.{codes}
use Rattle.bilv_spec.specs.SmtLib.{Sexp, Atom}
use Rattle.machine_spec.specs.StateText as texts
use Rattle.state_text.proofs.Appends.{three, five}
use Rattle.walk_spec.specs.Unrolled.{AddressRun, ByteRun}
use Rattle.smtlib_print.specs.Commands.{Source, all_declarations, all_given, array_sort, assertion, choices_of, declaration, declarations, definition, file_assertions, head_assertions, head_declarations, is_one, last_commands, memory_name, middle_commands, node_definitions, part_declarations, part_names, run_assertions, term, word_sort}
use Rattle.smtlib_print.specs.Scripted.{source_text}
use Rattle.smtlib_print.specs.Written.{commands_text, written}
use Rattle.smtlib_print.proofs.Appended.{text-append}

-- the declarations of a part
pub part_text : (layout : texts.Layout) (p : ℕ) (start first second all : List ℕ) →
    first ≡ start ++ commands_text (declarations (word_sort (Atom (codes "32"))) (part_names p layout.registers)) →
    second ≡ first ++ commands_text (declarations (word_sort (Atom (codes "1"))) (part_names p layout.flags)) →
    all ≡ second ++ (written (declaration (memory_name p) array_sort) ++ codes "\n") → all ≡ start ++ commands_text (part_declarations layout p)
part_text layout p start first second all e f g =
    let rs = declarations (word_sort (Atom (codes "32"))) (part_names p layout.registers) in
    let fs = declarations (word_sort (Atom (codes "1"))) (part_names p layout.flags) in
    let ms = declaration (memory_name p) array_sort ∷ [] in
    three start first second all (commands_text rs) (commands_text fs) (commands_text ms) e f g
    ∙ ap (λ t. start ++ t) (sym (text-append rs (fs ++ ms) ∙ ap (λ t. commands_text rs ++ t) (text-append fs ms)))

-- the logic and the declarations
pub head_text : (layout : texts.Layout) (heads : Bool) (choices : List (List ℕ)) (gs : List Sexp) (start first second third fourth all : List ℕ) →
    first ≡ start ++ codes "(set-logic QF_ABV)\n" → second ≡ first ++ commands_text (part_declarations layout 0) →
    third ≡ second ++ commands_text (head_declarations layout heads) →
    fourth ≡ third ++ commands_text (declarations (word_sort (Atom (codes "2"))) choices) → all ≡ fourth ++ commands_text gs →
    all ≡ start ++ (codes "(set-logic QF_ABV)\n" ++ commands_text (all_declarations layout heads choices gs))
head_text layout heads choices gs start first second third fourth all e f g h i =
    let ps = part_declarations layout 0 in
    let hs = head_declarations layout heads in
    let cs = declarations (word_sort (Atom (codes "2"))) choices in
    five start first second third fourth all (codes "(set-logic QF_ABV)\n") (commands_text ps) (commands_text hs) (commands_text cs) (commands_text gs) e f g h
    i
    ∙ ap (λ t. start ++ (codes "(set-logic QF_ABV)\n" ++ t)) (sym (text-append ps (hs ++ (cs ++ gs))
    ∙ ap (λ t. commands_text ps ++ t) (text-append hs (cs ++ gs) ∙ ap (λ t. commands_text hs ++ t) (text-append cs gs))))

-- the bytes of the file
pub file_text : (asked : Bool) (kept : List AddressRun) (known : List ByteRun) (start first all : List ℕ) →
    first ≡ start ++ commands_text (run_assertions 0 kept known) → all ≡ first ++ commands_text (head_assertions asked kept known) →
    all ≡ start ++ commands_text (file_assertions asked kept known)
file_text asked kept known start first all e f =
    f ∙ ap (λ t. t ++ commands_text (head_assertions asked kept known)) e
    ∙ append_assoc start (commands_text (run_assertions 0 kept known)) (commands_text (head_assertions asked kept known))
    ∙ ap (λ t. start ++ t) (sym (text-append (run_assertions 0 kept known) (head_assertions asked kept known)))

-- the assertion and the check
pub check_text : (n : List ℕ) → codes "(assert t" ++ (n ++ codes ")\n(check-sat)\n") ≡ (codes "(assert t" ++ (n ++ codes ")")) ++ codes "\n(check-sat)\n"
check_text n = ap (λ t. codes "(assert t" ++ t) (sym (append_assoc n (codes ")") (codes "\n(check-sat)\n")))

-- the text of the commands between the logic and the check
middle_text : (s : Source) →
    commands_text (middle_commands s)
    ≡ commands_text (all_declarations s.layout s.heads (choices_of s) (all_given s.layout s.numbers s.given))
    ++ (commands_text (node_definitions s.layout s.numbers 0 s.nodes)
    ++ (written (definition (length s.nodes) (Atom (codes "Bool")) (is_one s.root))
    ++ 10 ∷ (commands_text (file_assertions s.asks_head s.kept s.known) ++ (written (assertion (term (length s.nodes))) ++ 10 ∷ []))))
middle_text s =
    let last = assertion (term (length s.nodes)) ∷ [] in
    let declared = all_declarations s.layout s.heads (choices_of s) (all_given s.layout s.numbers s.given) in
    let defined = node_definitions s.layout s.numbers 0 s.nodes in
    text-append declared (defined ++ last_commands s)
    ∙ ap (λ t. commands_text declared ++ t)
    (text-append defined (last_commands s)
    ∙ ap (λ t. commands_text defined ++ (written (definition (length s.nodes) (Atom (codes "Bool")) (is_one s.root)) ++ 10 ∷ t))
    (text-append (file_assertions s.asks_head s.kept s.known) last))

-- five parts, of which the first has the logic in front
parts : (h d n r b a c : List ℕ) → (h ++ d) ++ (n ++ ((r ++ 10 ∷ []) ++ (b ++ (a ++ 10 ∷ c)))) ≡ h ++ ((d ++ (n ++ (r ++ 10 ∷ (b ++ (a ++ 10 ∷ []))))) ++ c)
parts h d n r b a c =
    append_assoc h d (n ++ ((r ++ 10 ∷ []) ++ (b ++ (a ++ 10 ∷ c))))
    ∙ ap (λ t. h ++ t)
    (ap (λ t. d ++ (n ++ t)) (append_assoc r (10 ∷ []) (b ++ (a ++ 10 ∷ c)))
    ∙ sym (append_assoc d (n ++ (r ++ 10 ∷ (b ++ (a ++ 10 ∷ [])))) c
    ∙ ap (λ t. d ++ t) (append_assoc n (r ++ 10 ∷ (b ++ (a ++ 10 ∷ []))) c
    ∙ ap (λ t. n ++ t) (append_assoc r (10 ∷ (b ++ (a ++ 10 ∷ []))) c
    ∙ ap (λ t. r ++ 10 ∷ t) (append_assoc b (a ++ 10 ∷ []) c ∙ ap (λ t. b ++ t) (append_assoc a (10 ∷ []) c))))))

-- the text of a script in its parts
pub script_parts : (s : Source) (count : ℕ) (none first second third fourth all : List ℕ) → none ≡ [] → count ≡ length s.nodes →
    first ≡ none ++ (codes "(set-logic QF_ABV)\n" ++ commands_text (all_declarations s.layout s.heads (choices_of s) (all_given s.layout s.numbers s.given))) →
    second ≡ first ++ commands_text (node_definitions s.layout s.numbers 0 s.nodes) →
    third ≡ second ++ (written (definition count (Atom (codes "Bool")) (is_one s.root)) ++ codes "\n") →
    fourth ≡ third ++ commands_text (file_assertions s.asks_head s.kept s.known) →
    all ≡ fourth ++ (written (assertion (term count)) ++ codes "\n(check-sat)\n") →
    all ≡ source_text s
script_parts s count none first second third fourth all z k e f g h i =
    let declared = commands_text (all_declarations s.layout s.heads (choices_of s) (all_given s.layout s.numbers s.given)) in
    let defined = commands_text (node_definitions s.layout s.numbers 0 s.nodes) in
    let file = commands_text (file_assertions s.asks_head s.kept s.known) in
    five [] first second third fourth all (codes "(set-logic QF_ABV)\n" ++ declared) defined
    (written (definition (length s.nodes) (Atom (codes "Bool")) (is_one s.root)) ++ codes "\n") file
    (written (assertion (term (length s.nodes))) ++ codes "\n(check-sat)\n")
    (e ∙ ap (λ t. t ++ (codes "(set-logic QF_ABV)\n" ++ declared)) z) f
    (g ∙ ap (λ c. second ++ (written (definition c (Atom (codes "Bool")) (is_one s.root)) ++ codes "\n")) k) h
    (i ∙ ap (λ c. fourth ++ (written (assertion (term c)) ++ codes "\n(check-sat)\n")) k)
    ∙ parts (codes "(set-logic QF_ABV)\n") declared defined (written (definition (length s.nodes) (Atom (codes "Bool")) (is_one s.root))) file
    (written (assertion (term (length s.nodes)))) (codes "(check-sat)\n")
    ∙ ap (λ t. codes "(set-logic QF_ABV)\n" ++ (t ++ codes "(check-sat)\n")) (sym (middle_text s))
    ∙ ap (λ t. codes "(set-logic QF_ABV)\n" ++ t) (sym (text-append (middle_commands s) _))
