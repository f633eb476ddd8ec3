-- What the cells of a side say, from those of its term with its words.
use Rattle.std.proofs.Common.{◌≡◌, ℕ, zero, suc, ◌+◌, ◌-◌, ◌≤◌, Bool, List, [], ◌∷◌, ◌++◌, length, take, drop, refl, ap, sym, subst, ◌∙◌, arith, Contains}
use Rattle.std.specs.Prelude.{map}
use Rattle.std.specs.List.{flat_map, AllByRecursion}
use Rattle.std.proofs.lemmas.List.{map-append, length-append, length-map, take-map, drop-map, take_all, length-drop}
use Rattle.bilv_spec.specs.Notes as notes
use Rattle.bilv_spec.specs.Notes.{Expr}
use Rattle.call_spec.specs.Calls.{PairQuestion}
use Rattle.term_spec.specs.Terms.{TermReading, InRange, TermNode, term_word, term_gates}
use Rattle.walk_spec.specs.Unrolled.{UnrolledProgram}
use Rattle.term_spec.specs.Cells.{Cells, Gives, cell_gates}
use Rattle.walk_spec.specs.Prices.{loads_of, stores_of, edges_of, known_of}
use Rattle.term_dag.specs.declared.nodes.Term.{Term}
use Rattle.mem_cells.specs.Words.{places_of}
use Rattle.mem_cells.specs.Words.{IsWordAt, StandForEach, TellsWithWords}
use Rattle.pair_spec.specs.Links.{Link, EqualAtEntry, EqualAtExit, SharedBytes, SameBytes, addresses}
use Rattle.pair_spec.specs.PairTerms.{SideTerm, HaveWidths, added_loads, bits_of, entry_widths, exit_widths, with_exit_place, TellsSide, TellsSideCells}
use Rattle.pair_spec.proofs.ExitPlaces.{exit_place_costs}
use Rattle.pair_spec.proofs.ExitInputs.{exit_place_reads}
use Rattle.pair_terms.specs.Sides.{IsPlacedAs}

-- ---- the places of two rows of words

stand_first : (nodes : List TermNode) (c : Cells) (ws vs ps : List ℕ) → StandForEach nodes c (ws ++ vs) ps → StandForEach nodes c ws (take (length ws) ps)
stand_first nodes c [] vs ps h = tt
stand_first nodes c (w ∷ ws) vs [] h = absurd h
stand_first nodes c (w ∷ ws) vs (p ∷ ps) h = (h.0, stand_first nodes c ws vs ps h.1)

stand_second : (nodes : List TermNode) (c : Cells) (ws vs ps : List ℕ) → StandForEach nodes c (ws ++ vs) ps → StandForEach nodes c vs (drop (length ws) ps)
stand_second nodes c [] vs ps h = h
stand_second nodes c (w ∷ ws) vs [] h = absurd h
stand_second nodes c (w ∷ ws) vs (p ∷ ps) h = stand_second nodes c ws vs ps h.1

-- places that stand for words have their widths
stand_widths : (nodes : List TermNode) (c : Cells) (ws ps ns : List ℕ) → StandForEach nodes c ws ps → HaveWidths nodes ws ns → HaveWidths c.nodes ps ns
stand_widths nodes c [] [] [] h k = tt
stand_widths nodes c [] [] (n ∷ ns) h k = absurd k
stand_widths nodes c [] (p ∷ ps) ns h k = absurd h
stand_widths nodes c (w ∷ ws) [] ns h k = absurd h
stand_widths nodes c (w ∷ ws) (p ∷ ps) [] h k = absurd k
stand_widths nodes c (w ∷ ws) (p ∷ ps) (n ∷ ns) h k = ((h.0.width.0, h.0.width.1 ∙ k.0.1), stand_widths nodes c ws ps ns h.1 k.1)

-- and their words
stand_words : (nodes : List TermNode) (c : Cells) (ws ps : List ℕ) → StandForEach nodes c ws ps → (x : TermReading) → InRange x → Gives c x →
    map (term_word x c.nodes) ps ≡ map (term_word x nodes) ws
stand_words nodes c [] [] h x r g = refl
stand_words nodes c [] (p ∷ ps) h x r g = absurd h
stand_words nodes c (w ∷ ws) [] h x r g = absurd h
stand_words nodes c (w ∷ ws) (p ∷ ps) h x r g = (λ k. h.0.value x r g k ∷ stand_words nodes c ws ps h.1 x r g k)

-- ---- the cells of a side

cells_by : (u : UnrolledProgram) (second : Bool) (links : List Link) (question : PairQuestion) (t : SideTerm) (asked : ℕ → Bool) (c : Cells) (ps : List ℕ) →
    TellsSide u second links question t →
    TellsWithWords (with_exit_place u) (record { nodes = t.nodes; root = t.root }) (t.entries ++ t.exits) asked c ps →
    TellsSideCells u links question t asked (record { cells = c; entries = take (length t.entries) ps; exits = drop (length t.entries) ps })
cells_by u second links question t asked c ps h k =
    let first = stand_first t.nodes c t.entries t.exits ps k.each in
    let last = stand_second t.nodes c t.entries t.exits ps k.each in
    let loads = h.terms.loads in
    let costs = exit_place_costs u in
    let room = loads_of u + added_loads links u in
    record {
      formed = ((exit_place_reads u).5 c).0 k.formed;
      same = k.same;
      entry_widths = stand_widths t.nodes c t.entries _ _ first h.entry_widths;
      exit_widths = λ q. stand_widths t.nodes c t.exits _ _ last (h.exit_widths q);
      entries = stand_words t.nodes c t.entries _ first;
      exits = stand_words t.nodes c t.exits _ last;
      sound = k.sound;
      complete = k.complete;
      gates = subst (λ (e : ℕ). term_gates c.nodes ≤ term_gates t.nodes + cell_gates room (stores_of u) e (known_of u)) costs.1
          (subst (λ (s : ℕ). term_gates c.nodes ≤ term_gates t.nodes + cell_gates room s (edges_of (with_exit_place u)) (known_of u)) costs.0
          (k.gates room loads));
      reads = k.reads room loads;
    }

pub cells_told : (u w : UnrolledProgram) (second : Bool) (links : List Link) (question : PairQuestion) (t : SideTerm) (asked : ℕ → Bool) (c : Cells)
    (ps : List ℕ) → IsPlacedAs u w → TellsSide u second links question t →
    TellsWithWords w (record { nodes = t.nodes; root = t.root }) (t.entries ++ t.exits) asked c ps →
    TellsSideCells u links question t asked (record { cells = c; entries = take (length t.entries) ps; exits = drop (length t.entries) ps })
cells_told u w second links question t asked c ps p h k =
    cells_by u second links question t asked c ps h
    (subst (λ (z : UnrolledProgram). TellsWithWords z (record { nodes = t.nodes; root = t.root }) (t.entries ++ t.exits) asked c ps) p.is k)

-- ---- words have a width

some_bits : (x : Expr) → 1 ≤ bits_of x
some_bits (notes.Flag f) = omega arith
some_bits (notes.Number n) = omega arith
some_bits (notes.Register r) = omega arith
some_bits notes.Pc = omega arith
some_bits notes.Bound = omega arith
some_bits (notes.Memory n e) = omega arith
some_bits (notes.Old e) = omega arith
some_bits (notes.Not e) = omega arith
some_bits (notes.Binary o a b) = omega arith

abbrev AreSome : List ℕ → Type 0
AreSome ws = AllByRecursion (λ w. 1 ≤ w) ws

some_both : (ws vs : List ℕ) → AreSome ws → AreSome vs → AreSome (ws ++ vs)
some_both [] vs h k = k
some_both (w ∷ ws) vs h k = (h.0, some_both ws vs h.1 k)

bytes_some : (xs : List ℕ) → AreSome (map (λ a. 8) xs)
bytes_some [] = tt
bytes_some (x ∷ xs) = (omega arith, bytes_some xs)

entry_some : (links : List Link) → AreSome (flat_map entry_widths links)
entry_some [] = tt
entry_some (EqualAtEntry n x y ∷ links) = (some_bits x, entry_some links)
entry_some (EqualAtExit n x y ∷ links) = entry_some links
entry_some (SharedBytes n low high ∷ links) = some_both _ (flat_map entry_widths links) (bytes_some (addresses low high)) (entry_some links)
entry_some (SameBytes n low high ∷ links) = entry_some links

exit_some : (links : List Link) → AreSome (flat_map exit_widths links)
exit_some [] = tt
exit_some (EqualAtEntry n x y ∷ links) = exit_some links
exit_some (EqualAtExit n x y ∷ links) = (some_bits x, exit_some links)
exit_some (SharedBytes n low high ∷ links) = exit_some links
exit_some (SameBytes n low high ∷ links) = some_both _ (flat_map exit_widths links) (bytes_some (addresses low high)) (exit_some links)

words_are : (nodes : List TermNode) (ts ws : List ℕ) → AreSome ws → HaveWidths nodes ts ws → AllByRecursion (IsWordAt nodes) ts
words_are nodes [] ws h k = tt
words_are nodes (t ∷ ts) [] h k = absurd k
words_are nodes (t ∷ ts) (w ∷ ws) h k = ((k.0.0, (let e = k.0.1 in omega (arith, e, h.0))), words_are nodes ts ws h.1 k.1)

pub entry_words_are : (nodes : List TermNode) (ts : List ℕ) (links : List Link) → HaveWidths nodes ts (flat_map entry_widths links) →
    AllByRecursion (IsWordAt nodes) ts
entry_words_are nodes ts links h = words_are nodes ts (flat_map entry_widths links) (entry_some links) h

pub exit_words_are : (nodes : List TermNode) (ts : List ℕ) (links : List Link) → HaveWidths nodes ts (flat_map exit_widths links) →
    AllByRecursion (IsWordAt nodes) ts
exit_words_are nodes ts links h = words_are nodes ts (flat_map exit_widths links) (exit_some links) h

-- ---- by the lists of terms

-- the words that are asked have a width
pub each_word : (nodes : List TermNode) (ts : List Term) → AllByRecursion (IsWordAt nodes) (places_of ts) → (t : Term) → Contains ts t → IsWordAt nodes t.0
each_word nodes [] h t c = absurd (omega (arith, c.1))
each_word nodes (x ∷ ts) h t (zero, l, e) = subst (λ (z : Term). IsWordAt nodes z.0) e h.0
each_word nodes (x ∷ ts) h t (suc k, l, e) = each_word nodes ts h.1 t (k, omega arith, e)

pub all_words : (nodes : List TermNode) (es xs : List Term) → AllByRecursion (IsWordAt nodes) (places_of es) → AllByRecursion (IsWordAt nodes) (places_of xs) →
    AllByRecursion (IsWordAt nodes) (places_of (es ++ xs))
all_words nodes [] xs h k = k
all_words nodes (e ∷ es) xs h k = (h.0, all_words nodes es xs h.1 k)

-- a list from a place on
pub behind_place : (xs ys : List Term) (n : ℕ) → xs ≡ ys → take (length xs - n) (drop n xs) ≡ drop n ys
behind_place xs ys n e = take_all (length xs - n) (drop n xs) (let l = length-drop n xs in omega arith) ∙ ap (drop n) e

pub cells_from : (u w : UnrolledProgram) (second : Bool) (links : List Link) (question : PairQuestion) (nodes : List TermNode) (root : ℕ) (asked : ℕ → Bool)
    (c : Cells) (es xs words ps ent ext : List Term) (n : ℕ) → words ≡ es ++ xs → n ≡ length es → ent ≡ take n ps → ext ≡ drop n ps → IsPlacedAs u w →
    TellsSide u second links question (record { nodes = nodes; root = root; entries = places_of es; exits = places_of xs }) →
    TellsWithWords w (record { nodes = nodes; root = root }) (places_of words) asked c (places_of ps) →
    TellsSideCells u links question (record { nodes = nodes; root = root; entries = places_of es; exits = places_of xs }) asked
    (record { cells = c; entries = places_of ent; exits = places_of ext })
cells_from u w second links question nodes root asked c es xs words ps ent ext n words_are count first last p h k =
    let t : SideTerm = record { nodes = nodes; root = root; entries = places_of es; exits = places_of xs } in
    let many : length (places_of es) ≡ n = length-map es (λ (z : Term). z.0) ∙ sym count in
    let told = cells_told u w second links question t asked c (places_of ps) p h
    (subst (λ (z : List ℕ). TellsWithWords w (record { nodes = nodes; root = root }) z asked c (places_of ps))
    (ap places_of words_are ∙ map-append (λ (z : Term). z.0) es xs) k) in
    let one : take (length (places_of es)) (places_of ps) ≡ places_of ent =
    ap (λ (z : ℕ). take z (places_of ps)) many ∙ take-map (λ (z : Term). z.0) n ps ∙ ap places_of (sym first) in
    let other : drop (length (places_of es)) (places_of ps) ≡ places_of ext =
    ap (λ (z : ℕ). drop z (places_of ps)) many ∙ drop-map (λ (z : Term). z.0) n ps ∙ ap places_of (sym last) in
    subst (λ (z : List ℕ). TellsSideCells u links question t asked (record { cells = c; entries = places_of ent; exits = z })) other
    (subst (λ (z : List ℕ). TellsSideCells u links question t asked (record { cells = c; entries = z; exits = drop (length (places_of es)) (places_of ps) }))
    one told)

-- there are as many places as words
stand_count : (nodes : List TermNode) (c : Cells) (ws ps : List ℕ) → StandForEach nodes c ws ps → length ps ≡ length ws
stand_count nodes c [] [] h = refl
stand_count nodes c [] (p ∷ ps) h = absurd h
stand_count nodes c (w ∷ ws) [] h = absurd h
stand_count nodes c (w ∷ ws) (p ∷ ps) h = ap suc (stand_count nodes c ws ps h.1)

pub cells_count : (nodes : List TermNode) (c : Cells) (es xs words asked ps : List Term) → asked ≡ words → words ≡ es ++ xs →
    StandForEach nodes c (places_of asked) (places_of ps) → length es ≤ length ps
cells_count nodes c es xs words asked ps e f h =
    let a = stand_count nodes c (places_of asked) (places_of ps) h in
    let b = length-map asked (λ (z : Term). z.0) in
    let d = length-map ps (λ (z : Term). z.0) in
    let l = ap length (e ∙ f) ∙ length-append es xs in omega (arith, a, b, d, l)
