-- What a script declares and defines.
use Rattle.std.proofs.Common.{◌≡◌, ℕ, zero, suc, ◌+◌, refl, ap, sym, ◌∙◌, subst, arith, true, false, Bool, List, [], ◌∷◌, ◌++◌, length, Contains, append_assoc, append-nil}
use Rattle.std.specs.Prelude.{codes, if◌then◌else◌, slice_index}
use Rattle.bilv_spec.specs.Scripts.{IsTermName}
use Rattle.bilv_spec.specs.SmtLib.{Sexp, Atom, Nil, declared_symbols, defined_symbols}
use Rattle.machine_spec.specs.StateText.{Layout}
use Rattle.term_spec.specs.Terms.{TermNode}
use Rattle.walk_spec.specs.Unrolled.{AddressRun, ByteRun}
use Rattle.smtlib_print.specs.Commands.{Given, Source, all_given, flag_symbols, given_declarations, memory_symbols, register_symbols, term, declaration, declarations, part_declarations, head_declarations, node_definitions, assertion, has_byte, is_of_part, byte_assertions, run_assertions, head_assertions, file_assertions, choices_of, last_commands, middle_commands, all_commands, memory_name, part_names, word_sort, array_sort}
use Rattle.smtlib_print.specs.Written.{one, two, before}
use Rattle.smtlib_print.proofs.Declared.{before-append}
use Rattle.smtlib_print.proofs.GivenSymbols.{all_symbols, symbols_at}
use Rattle.smtlib_print.proofs.Sources.{given_of}
use Rattle.smtlib_print.proofs.Layouts.{fixed_names, head_parts, part_symbols}

declares_names : (sort : Sexp) (names : List (List ℕ)) (rest : Sexp) → declared_symbols (before (declarations sort names) rest) ≡ names ++ declared_symbols rest
declares_names sort [] rest = refl
declares_names sort (w ∷ ws) rest = ap (λ l. w ∷ l) (declares_names sort ws rest)

nodes_declare : (layout : Layout) (numbers : List ℕ) (at : ℕ) (ns : List TermNode) (rest : Sexp) →
    declared_symbols (before (node_definitions layout numbers at ns) rest) ≡ declared_symbols rest
nodes_declare layout numbers at [] rest = refl
nodes_declare layout numbers at (n ∷ ns) rest = nodes_declare layout numbers (suc at) ns rest

if_declares : (asked : Bool) (c : Sexp) (cs : List Sexp) (rest : Sexp) → declared_symbols (before (c ∷ cs) rest) ≡ declared_symbols (before cs rest) →
    declared_symbols (before (if asked then c ∷ cs else cs) rest) ≡ declared_symbols (before cs rest)
if_declares true c cs rest h = h
if_declares false c cs rest h = refl

bytes_declare : (p : ℕ) (kept : List AddressRun) (r : ByteRun) (i n : ℕ) (rest : Sexp) →
    declared_symbols (before (byte_assertions p kept r i n) rest) ≡ declared_symbols rest
bytes_declare p kept r i zero rest = refl
bytes_declare p kept r i (suc n) rest =
    if_declares (is_of_part p kept (r.at + i)) (assertion (has_byte p (r.at + i) (slice_index r.bytes i))) (byte_assertions p kept r (suc i) n) rest refl
    ∙ bytes_declare p kept r (suc i) n rest

runs_declare : (p : ℕ) (kept : List AddressRun) (rs : List ByteRun) (rest : Sexp) →
    declared_symbols (before (run_assertions p kept rs) rest) ≡ declared_symbols rest
runs_declare p kept [] rest = refl
runs_declare p kept (r ∷ rs) rest =
    ap declared_symbols (before-append (byte_assertions p kept r 0 r.count) (run_assertions p kept rs) rest)
    ∙ bytes_declare p kept r 0 r.count (before (run_assertions p kept rs) rest) ∙ runs_declare p kept rs rest

head_declares : (asked : Bool) (kept : List AddressRun) (rs : List ByteRun) (rest : Sexp) →
    declared_symbols (before (head_assertions asked kept rs) rest) ≡ declared_symbols rest
head_declares false kept rs rest = refl
head_declares true kept rs rest = runs_declare 1 kept rs rest

file_declares : (asked : Bool) (kept : List AddressRun) (rs : List ByteRun) (rest : Sexp) →
    declared_symbols (before (file_assertions asked kept rs) rest) ≡ declared_symbols rest
file_declares asked kept rs rest =
    ap declared_symbols (before-append (run_assertions 0 kept rs) (head_assertions asked kept rs) rest)
    ∙ runs_declare 0 kept rs (before (head_assertions asked kept rs) rest) ∙ head_declares asked kept rs rest

-- the declared symbols of a part
part_declares : (layout : Layout) (p : ℕ) (rest : Sexp) →
    declared_symbols (before (part_declarations layout p) rest) ≡ part_symbols layout p ++ declared_symbols rest
part_declares layout p rest =
    let rs = declarations (word_sort (Atom (codes "32"))) (part_names p layout.registers) in
    let fs = declarations (word_sort (Atom (codes "1"))) (part_names p layout.flags) in
    let ms = declaration (memory_name p) array_sort ∷ [] in
    ap declared_symbols (before-append rs (fs ++ ms) rest)
    ∙ declares_names (word_sort (Atom (codes "32"))) (part_names p layout.registers) (before (fs ++ ms) rest)
    ∙ ap (λ l. part_names p layout.registers ++ l) (ap declared_symbols (before-append fs ms rest)
    ∙ declares_names (word_sort (Atom (codes "1"))) (part_names p layout.flags) (before ms rest)
    ∙ sym (append_assoc (part_names p layout.flags) (memory_name p ∷ []) (declared_symbols rest)))
    ∙ sym (append_assoc (part_names p layout.registers) (part_names p layout.flags ++ (memory_name p ∷ [])) (declared_symbols rest))

-- those of the head
heads_declare : (layout : Layout) (heads : Bool) (rest : Sexp) →
    declared_symbols (before (head_declarations layout heads) rest) ≡ head_parts layout heads ++ declared_symbols rest
heads_declare layout false rest = refl
heads_declare layout true rest = part_declares layout 1 rest

-- those of what is given at the point of a number, and at all places
given_declare : (layout : Layout) (n : ℕ) (g : Given) (rest : Sexp) →
    declared_symbols (before (given_declarations layout n g) rest) ≡ symbols_at layout n g ++ declared_symbols rest
given_declare layout n g rest =
    let rs = register_symbols layout n g in
    let fs = flag_symbols layout n g in
    let ms = memory_symbols n g in
    let words = declarations (word_sort (Atom (codes "32"))) rs in
    let bits = declarations (word_sort (Atom (codes "1"))) fs in
    let arrays = declarations array_sort ms in
    ap declared_symbols (before-append words (bits ++ arrays) rest)
    ∙ declares_names (word_sort (Atom (codes "32"))) rs (before (bits ++ arrays) rest)
    ∙ ap (λ l. rs ++ l) (ap declared_symbols (before-append bits arrays rest)
    ∙ declares_names (word_sort (Atom (codes "1"))) fs (before arrays rest) ∙ ap (λ l. fs ++ l) (declares_names array_sort ms rest)
    ∙ sym (append_assoc fs ms (declared_symbols rest)))
    ∙ sym (append_assoc rs (fs ++ ms) (declared_symbols rest))

gifts_declare : (layout : Layout) (numbers : List ℕ) (gs : List Given) (rest : Sexp) →
    declared_symbols (before (all_given layout numbers gs) rest) ≡ all_symbols layout numbers gs ++ declared_symbols rest
gifts_declare layout numbers [] rest = refl
gifts_declare layout [] (g ∷ gs) rest = refl
gifts_declare layout (n ∷ ns) (g ∷ gs) rest =
    ap declared_symbols (before-append (given_declarations layout n g) (all_given layout ns gs) rest)
    ∙ given_declare layout n g (before (all_given layout ns gs) rest)
    ∙ ap (λ l. symbols_at layout n g ++ l) (gifts_declare layout ns gs rest)
    ∙ sym (append_assoc (symbols_at layout n g) (all_symbols layout ns gs) (declared_symbols rest))

-- the declared symbols of a script: those of the entry, those of the head, choices, and what is given
pub script_declares : (s : Source) →
    declared_symbols (before (all_commands (middle_commands s)) Nil) ≡ fixed_names s.layout s.heads ++ (choices_of s ++ given_of s)
script_declares s =
    let check = one (Atom (codes "check-sat")) in
    let n = length s.nodes in
    let file = file_assertions s.asks_head s.kept s.known in
    let last = assertion (term n) in
    let says = last_commands s in
    let defined = node_definitions s.layout s.numbers 0 s.nodes in
    let ps = part_declarations s.layout 0 in
    let hs = head_declarations s.layout s.heads in
    let cs = declarations (word_sort (Atom (codes "2"))) (choices_of s) in
    let gs = all_given s.layout s.numbers s.given in
    let rest = before (defined ++ says) (one check) in
    let nothing : declared_symbols rest ≡ [] =
    ap declared_symbols (before-append defined says (one check)) ∙ nodes_declare s.layout s.numbers 0 s.nodes (before says (one check))
    ∙ ap declared_symbols (before-append file (last ∷ []) (one check)) ∙ file_declares s.asks_head s.kept s.known (two last check) in
    ap declared_symbols (before-append ((ps ++ (hs ++ (cs ++ gs))) ++ (defined ++ says)) (check ∷ []) Nil)
    ∙ ap declared_symbols (before-append (ps ++ (hs ++ (cs ++ gs))) (defined ++ says) (one check))
    ∙ ap declared_symbols (before-append ps (hs ++ (cs ++ gs)) rest) ∙ part_declares s.layout 0 (before (hs ++ (cs ++ gs)) rest)
    ∙ ap (λ l. part_symbols s.layout 0 ++ l)
    (ap declared_symbols (before-append hs (cs ++ gs) rest) ∙ heads_declare s.layout s.heads (before (cs ++ gs) rest)
    ∙ ap (λ l. head_parts s.layout s.heads ++ l)
    (ap declared_symbols (before-append cs gs rest) ∙ declares_names (word_sort (Atom (codes "2"))) (choices_of s) (before gs rest)
    ∙ ap (λ l. choices_of s ++ l)
    (gifts_declare s.layout s.numbers s.given rest ∙ ap (λ l. given_of s ++ l) nothing ∙ append-nil (given_of s))))
    ∙ sym (append_assoc (part_symbols s.layout 0) (head_parts s.layout s.heads) (choices_of s ++ given_of s))

-- what a list has, one with an element before it has
pub one_later : (v w : List ℕ) (ws : List (List ℕ)) → Contains ws w → Contains (v ∷ ws) w
one_later v w ws (k, l, e) = (suc k, omega (arith, l), e)

-- names of terms
abbrev pub AreTermNames : List (List ℕ) → Type 0
AreTermNames [] = Unit {0}
AreTermNames (w ∷ ws) = IsTermName w × AreTermNames ws

pub one_of : (ws : List (List ℕ)) (w : List ℕ) → AreTermNames ws → Contains ws w → IsTermName w
one_of [] w h c = absurd (omega (arith, c.1))
one_of (v ∷ ws) w h (zero, l, e) = subst IsTermName e h.0
one_of (v ∷ ws) w h (suc k, l, e) = one_of ws w h.1 (k, omega (arith, l), e)

declarations_define : (sort : Sexp) (names : List (List ℕ)) (rest : Sexp) → AreTermNames (defined_symbols rest) →
    AreTermNames (defined_symbols (before (declarations sort names) rest))
declarations_define sort [] rest h = h
declarations_define sort (w ∷ ws) rest h = declarations_define sort ws rest h

nodes_define : (layout : Layout) (numbers : List ℕ) (at : ℕ) (ns : List TermNode) (rest : Sexp) → AreTermNames (defined_symbols rest) →
    AreTermNames (defined_symbols (before (node_definitions layout numbers at ns) rest))
nodes_define layout numbers at [] rest h = h
nodes_define layout numbers at (n ∷ ns) rest h = ((at, refl), nodes_define layout numbers (suc at) ns rest h)

if_defines : (asked : Bool) (c : Sexp) (cs : List Sexp) (rest : Sexp) → AreTermNames (defined_symbols (before (c ∷ cs) rest)) →
    AreTermNames (defined_symbols (before cs rest)) → AreTermNames (defined_symbols (before (if asked then c ∷ cs else cs) rest))
if_defines true c cs rest h k = h
if_defines false c cs rest h k = k

bytes_define : (p : ℕ) (kept : List AddressRun) (r : ByteRun) (i n : ℕ) (rest : Sexp) → AreTermNames (defined_symbols rest) →
    AreTermNames (defined_symbols (before (byte_assertions p kept r i n) rest))
bytes_define p kept r i zero rest h = h
bytes_define p kept r i (suc n) rest h =
    let more = bytes_define p kept r (suc i) n rest h in
    if_defines (is_of_part p kept (r.at + i)) (assertion (has_byte p (r.at + i) (slice_index r.bytes i))) (byte_assertions p kept r (suc i) n) rest more more

moved : (a b : Sexp) → a ≡ b → AreTermNames (defined_symbols b) → AreTermNames (defined_symbols a)
moved a b e h = subst (λ (c : Sexp). AreTermNames (defined_symbols c)) (sym e) h

runs_define : (p : ℕ) (kept : List AddressRun) (rs : List ByteRun) (rest : Sexp) → AreTermNames (defined_symbols rest) →
    AreTermNames (defined_symbols (before (run_assertions p kept rs) rest))
runs_define p kept [] rest h = h
runs_define p kept (r ∷ rs) rest h =
    moved _ _ (before-append (byte_assertions p kept r 0 r.count) (run_assertions p kept rs) rest)
    (bytes_define p kept r 0 r.count (before (run_assertions p kept rs) rest) (runs_define p kept rs rest h))

head_defines : (asked : Bool) (kept : List AddressRun) (rs : List ByteRun) (rest : Sexp) → AreTermNames (defined_symbols rest) →
    AreTermNames (defined_symbols (before (head_assertions asked kept rs) rest))
head_defines false kept rs rest h = h
head_defines true kept rs rest h = runs_define 1 kept rs rest h

part_defines : (layout : Layout) (p : ℕ) (rest : Sexp) → AreTermNames (defined_symbols rest) →
    AreTermNames (defined_symbols (before (part_declarations layout p) rest))
part_defines layout p rest h =
    let rs = declarations (word_sort (Atom (codes "32"))) (part_names p layout.registers) in
    let fs = declarations (word_sort (Atom (codes "1"))) (part_names p layout.flags) in
    let ms = declaration (memory_name p) array_sort ∷ [] in
    moved (before (rs ++ (fs ++ ms)) rest) (before rs (before (fs ++ ms) rest)) (before-append rs (fs ++ ms) rest)
    (declarations_define (word_sort (Atom (codes "32"))) (part_names p layout.registers) (before (fs ++ ms) rest)
    (moved (before (fs ++ ms) rest) (before fs (before ms rest)) (before-append fs ms rest)
    (declarations_define (word_sort (Atom (codes "1"))) (part_names p layout.flags) (before ms rest) h)))

heads_define : (layout : Layout) (heads : Bool) (rest : Sexp) → AreTermNames (defined_symbols rest) →
    AreTermNames (defined_symbols (before (head_declarations layout heads) rest))
heads_define layout false rest h = h
heads_define layout true rest h = part_defines layout 1 rest h

given_define : (layout : Layout) (n : ℕ) (g : Given) (rest : Sexp) → AreTermNames (defined_symbols rest) →
    AreTermNames (defined_symbols (before (given_declarations layout n g) rest))
given_define layout n g rest h =
    let words = declarations (word_sort (Atom (codes "32"))) (register_symbols layout n g) in
    let bits = declarations (word_sort (Atom (codes "1"))) (flag_symbols layout n g) in
    let arrays = declarations array_sort (memory_symbols n g) in
    moved (before (words ++ (bits ++ arrays)) rest) (before words (before (bits ++ arrays) rest)) (before-append words (bits ++ arrays) rest)
    (declarations_define (word_sort (Atom (codes "32"))) (register_symbols layout n g) (before (bits ++ arrays) rest)
    (moved (before (bits ++ arrays) rest) (before bits (before arrays rest)) (before-append bits arrays rest)
    (declarations_define (word_sort (Atom (codes "1"))) (flag_symbols layout n g) (before arrays rest)
    (declarations_define array_sort (memory_symbols n g) rest h))))

gifts_define : (layout : Layout) (numbers : List ℕ) (gs : List Given) (rest : Sexp) → AreTermNames (defined_symbols rest) →
    AreTermNames (defined_symbols (before (all_given layout numbers gs) rest))
gifts_define layout numbers [] rest h = h
gifts_define layout [] (g ∷ gs) rest h = h
gifts_define layout (n ∷ ns) (g ∷ gs) rest h =
    moved (before (given_declarations layout n g ++ all_given layout ns gs) rest) (before (given_declarations layout n g) (before (all_given layout ns gs) rest))
    (before-append (given_declarations layout n g) (all_given layout ns gs) rest)
    (given_define layout n g (before (all_given layout ns gs) rest) (gifts_define layout ns gs rest h))

-- what a script defines
pub script_defines : (s : Source) → AreTermNames (defined_symbols (before (all_commands (middle_commands s)) Nil))
script_defines s =
    let check = one (Atom (codes "check-sat")) in
    let n = length s.nodes in
    let entry = run_assertions 0 s.kept s.known in
    let head = head_assertions s.asks_head s.kept s.known in
    let last = assertion (term n) in
    let says = last_commands s in
    let defined = node_definitions s.layout s.numbers 0 s.nodes in
    let ps = part_declarations s.layout 0 in
    let hs = head_declarations s.layout s.heads in
    let cs = declarations (word_sort (Atom (codes "2"))) (choices_of s) in
    let gs = all_given s.layout s.numbers s.given in
    let first = ps ++ (hs ++ (cs ++ gs)) in
    let rest = before (defined ++ says) (one check) in
    moved (before ((first ++ (defined ++ says)) ++ (check ∷ [])) Nil) (before first rest)
    (before-append (first ++ (defined ++ says)) (check ∷ []) Nil ∙ before-append first (defined ++ says) (one check))
    (moved (before first rest) (before ps (before (hs ++ (cs ++ gs)) rest)) (before-append ps (hs ++ (cs ++ gs)) rest)
    (part_defines s.layout 0 (before (hs ++ (cs ++ gs)) rest)
    (moved (before (hs ++ (cs ++ gs)) rest) (before hs (before (cs ++ gs) rest)) (before-append hs (cs ++ gs) rest)
    (heads_define s.layout s.heads (before (cs ++ gs) rest)
    (moved (before (cs ++ gs) rest) (before cs (before gs rest)) (before-append cs gs rest)
    (declarations_define (word_sort (Atom (codes "2"))) (choices_of s) (before gs rest)
    (gifts_define s.layout s.numbers s.given rest
    (moved rest (before defined (before says (one check))) (before-append defined says (one check))
    (nodes_define s.layout s.numbers 0 s.nodes (before says (one check)) (
      (n, refl),
      moved (before ((entry ++ head) ++ (last ∷ [])) (one check)) (before entry (before head (two last check)))
          (before-append (entry ++ head) (last ∷ []) (one check) ∙ before-append entry head (two last check))
          (runs_define 0 s.kept s.known (before head (two last check)) (head_defines s.asks_head s.kept s.known (two last check) tt)),
    ))))))))))
