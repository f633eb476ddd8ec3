-- Rows of words as terms, one after another.
use Rattle.std.proofs.Common.{◌≡◌, ℕ, ◌-◌, zero, suc, ◌+◌, ◌*◌, ◌%◌, ◌^◌, ◌<◌, ◌≤◌, Bool, true, false, List, [], ◌∷◌, ◌++◌, length, take, get_or, refl, ap, sym, subst, ◌∙◌, arith}
use Rattle.std.specs.Prelude.{map, slice_index}
use Rattle.std.specs.List.{flat_map}
use Rattle.std.proofs.lemmas.List.{map-append, append-nil, get_or-map, take_more, length-take-le}
use Rattle.std.proofs.lemmas.Bool.{false≢true, leb-true}
use Rattle.std.proofs.lemmas.List.Concat.{flat_map-append}
use Rattle.std.proofs.Math.Nat.{mod-eq_of_lt}
use Rattle.word_spec.specs.State.{State}
use Rattle.word_spec.specs.Memory.{Memory, Little, load}
use Rattle.word_spec.specs.RowFiles.{from_to}
use Rattle.bilv_spec.specs.Notes.{value}
use Rattle.term_spec.specs.Terms.{TermReading, InRange, TermNode, ConstantNode, LoadNode, AreTyped, HasMemory, HasWidth, term_value, term_word}
use Rattle.walk_spec.specs.Unrolled.{Carried, UnrolledProgram, state_at}
use Rattle.term_spec.specs.Passive.{Names, AreNames, Denotes}
use Rattle.term_dag.specs.Made.{Grew, IsMade, IsInterned}
use Rattle.term_dag.proofs.Growth.{grew_none, grew_on, grew_more, grew_width, inputs_none, inputs_on}
use Rattle.note_terms.specs.Steps.{IsStep}
use Rattle.note_terms.proofs.Steps.{step_stays, step_made, step_kept, step_as, step_on}
use Rattle.note_terms.proofs.Valued.{denotes_stays, range_at, range_length}
use Rattle.pair_spec.specs.Links as spec
use Rattle.pair_spec.specs.Links.{AreAlike, kind_of, named_by}
use Rattle.pair_spec.specs.Pairs.{shared_bytes, same_bytes}
use Rattle.pair_spec.specs.PairTerms.{HaveWidths, bits_of}
use Rattle.term_dag.specs.declared.nodes.Term.{Term}
use Rattle.term_names.specs.declared.names.Names as declared
use Rattle.term_names.specs.Views.{form_of, names_of}
use Rattle.weakest_pre.proofs.Entries.{link_is}
use Rattle.weakest_pre.proofs.Told.{both_true}
use Rattle.start_value.specs.declared.layout.Layout.{Layout}
use Rattle.start_value.specs.declared.layout.Layout.TheVariants.{Rv32, Arm}
use Rattle.links_lang.specs.declared.links.Named.{Named}
use Rattle.links_lang.specs.declared.links.Named.TheVariants.{Zero, Register, Flag}
use Rattle.links_lang.specs.declared.links.Link.{Link}
use Rattle.links_lang.specs.declared.links.Link.TheVariants.{Entry, Exit, Share, Same}
use Rattle.links_lang.specs.Views.{IsLinkOf, IsOfForm, link_of, links_of, named_of}
use Rattle.mem_cells.specs.Words.{places_of}
use Rattle.pair_terms.specs.declared.words.Part.{Part}
use Rattle.pair_terms.specs.declared.words.Part.TheVariants.{Word}
use Rattle.pair_terms.specs.Words.{AreLinksOfSide, AreOfForm, AreWordTerms, IsLinkOfSide, IsNamedIn, IsPartIn, link_words, link_widths, links_loads, named_on, part_of, part_words, part_widths, part_loads, part_nodes}

-- widths of terms stay as the terms grow
pub widths_stay : (old new : List TermNode) (g l s j n : ℕ) → Grew old new g l s j n → (ts ws : List ℕ) → HaveWidths old ts ws → HaveWidths new ts ws
widths_stay old new g l s j n grew [] [] h = tt
widths_stay old new g l s j n grew [] (w ∷ ws) h = absurd h
widths_stay old new g l s j n grew (t ∷ ts) [] h = absurd h
widths_stay old new g l s j n grew (t ∷ ts) (w ∷ ws) h = (grew_width old new g l s j n w t grew h.0, widths_stay old new g l s j n grew ts ws h.1)

-- so do their words
pub words_stay : (old new : List TermNode) (g l s j n : ℕ) → Grew old new g l s j n → (x : TermReading) (ts ws : List ℕ) → HaveWidths old ts ws →
    map (term_word x new) ts ≡ map (term_word x old) ts
words_stay old new g l s j n grew x [] ws h = refl
words_stay old new g l s j n grew x (t ∷ ts) [] h = absurd h
words_stay old new g l s j n grew x (t ∷ ts) (w ∷ ws) h = (λ k. (grew.keeps x t h.0.0 k).word ∷ words_stay old new g l s j n grew x ts ws h.1 k)

-- widths of both of two rows
pub widths_both : (nodes : List TermNode) (ts us ws vs : List ℕ) → HaveWidths nodes ts ws → HaveWidths nodes us vs → HaveWidths nodes (ts ++ us) (ws ++ vs)
widths_both nodes [] us [] vs h k = k
widths_both nodes [] us (w ∷ ws) vs h k = absurd h
widths_both nodes (t ∷ ts) us [] vs h k = absurd h
widths_both nodes (t ∷ ts) us (w ∷ ws) vs h k = (h.0, widths_both nodes ts us ws vs h.1 k)

-- no words
pub no_words : (nodes : List TermNode) (form : UnrolledProgram) (names : Names) → AreTyped nodes → AreWordTerms nodes nodes form names [] [] [] 0 0
no_words nodes form names typed = record {
  grew = grew_none nodes;
  inputs = inputs_none nodes _;
  typed = typed;
  widths = tt;
  values = λ x r c at d. refl;
}

-- words, and more
pub words_on : (a b c : List TermNode) (form : UnrolledProgram) (names : Names) (ws vs : List ℕ) (fs gs : List (State → ℕ)) (ts us : List ℕ) (l n l' n' : ℕ) →
    AreNames form a names → AreWordTerms a b form names ws fs ts l n → AreWordTerms b c form names vs gs us l' n' →
    AreWordTerms a c form names (ws ++ vs) (fs ++ gs) (ts ++ us) (l + l') (n + n')
words_on a b c form names ws vs fs gs ts us l n l' n' are h k = record {
  grew = grew_on a b c 0 l 0 0 n 0 l' 0 0 n' h.grew k.grew;
  inputs = inputs_on a b c _ h.inputs k.inputs;
  typed = k.typed;
  widths = widths_both c ts us ws vs (widths_stay b c _ _ _ _ _ k.grew ts ws h.widths) k.widths;
  values = λ x r carried at d.
      map-append (term_word x c) ts us
      ∙ (λ i. (words_stay b c _ _ _ _ _ k.grew x ts ws h.widths ∙ h.values x r carried at d) i
      ++ k.values x r carried at (denotes_stays form a b _ _ _ _ _ names x carried h.grew are d) i)
      ∙ sym (map-append (λ f. f (state_at carried at)) fs gs);
}

-- with other bounds
pub words_as : (a b : List TermNode) (form : UnrolledProgram) (names : Names) (ws vs : List ℕ) (fs gs : List (State → ℕ)) (ts us : List ℕ) (l n l' n' : ℕ) →
    ws ≡ vs → fs ≡ gs → ts ≡ us → l ≤ l' → n ≤ n' → AreWordTerms a b form names ws fs ts l n → AreWordTerms a b form names vs gs us l' n'
words_as a b form names ws vs fs gs ts us l n l' n' e f g p q h =
    let k : AreWordTerms a b form names ws fs ts l' n' = record {
      grew = grew_more a b 0 l 0 0 n 0 l' 0 0 n' (omega arith) p (omega arith) (omega arith) q h.grew;
      inputs = h.inputs;
      typed = h.typed;
      widths = h.widths;
      values = h.values;
    } in
    subst (λ (z : List ℕ). AreWordTerms a b form names vs gs z l' n') g
    (subst (λ (z : List (State → ℕ)). AreWordTerms a b form names vs z ts l' n') f (subst (λ (z : List ℕ). AreWordTerms a b form names z fs ts l' n') e k))

-- one word
pub one_word : (a b : List TermNode) (form : UnrolledProgram) (names : Names) (w t l n : ℕ) (f : State → ℕ) (g : TermReading → ℕ) →
    IsStep a b 0 l n (λ v. v ≡ w) g t →
    ((x : TermReading) → InRange x → (c : Carried) (at : ℕ) → Denotes form a x names c → g x ≡ f (state_at c at)) →
    AreWordTerms a b form names (w ∷ []) (f ∷ []) (t ∷ []) l n
one_word a b form names w t l n f g s same = record {
  grew = s.grew;
  inputs = s.inputs;
  typed = s.typed;
  widths = ((s.within, s.fits), tt);
  values = λ x r c at d. ap (λ (z : ℕ). z ∷ []) (s.value x r ∙ same x r c at d);
}

-- ---- bytes

-- a load of one byte
load_one : (m : Memory) (a : ℕ) → a < 2 ^ 32 → load Little 1 m a ≡ m a
load_one m a l =
    let at : (a + 0) % 2 ^ 32 ≡ a = ap (λ (n : ℕ). n % 2 ^ 32) (let z : a + 0 ≡ a = omega arith in z) ∙ mod-eq_of_lt l in
    (let e : 0 + m ((a + 0) % 2 ^ 32) * 1 ≡ m ((a + 0) % 2 ^ 32) = omega arith in e) ∙ ap m at

pub byte_step : (a b c : List TermNode) (m address p t : ℕ) → address < 2 ^ 32 → HasMemory a m → IsInterned a b (ConstantNode 32 address) p →
    IsMade b c (LoadNode 1 Little m p) t → IsStep a c 0 1 3 (λ w. w ≡ 8) (λ x. (term_value x a m).bytes address) t
byte_step a b c m address p t small memory kept made =
    let first : IsStep a b 0 0 1 (λ w. w ≡ 32) (λ x. address) p =
    step_kept a b _ _ (ConstantNode 32 address) p kept refl refl refl refl (λ i. i) (λ w f. f) (λ x r. refl) in
    let second : IsStep b c 0 1 2 (λ w. w ≡ 8) (λ x. load Little 1 (term_value x b m).bytes (term_word x b p)) t =
    step_made b c 0 1 _ _ (LoadNode 1 Little m p) t made (omega arith) (omega arith) refl refl (λ i. i) (λ w e. e) (λ x r. refl) in
    step_as a c (0 + 0) (0 + 1) (1 + 2) 0 1 3 _ _ _ _ t (step_on a b c 0 0 1 0 1 2 _ _ _ _ p t first second) (omega arith) (omega arith) (omega arith)
    (λ w f. f)
    (λ x r.
    ap (λ v. load Little 1 v.bytes (term_word x b p)) (first.grew.keeps x m memory.0) ∙ ap (load Little 1 (term_value x a m).bytes) (first.value x r)
    ∙ load_one (term_value x a m).bytes address small)

range_push : (low k : ℕ) → from_to low (suc k) ≡ from_to low k ++ (low + k) ∷ []
range_push low zero = ap (λ (z : ℕ). z ∷ []) (let e : low ≡ low + 0 = omega arith in e)
range_push low (suc k) =
    ap (λ (z : List ℕ). low ∷ z) (range_push (low + 1) k ∙ ap (λ (z : ℕ). from_to (low + 1) k ++ z ∷ []) (let e : low + 1 + k ≡ low + suc k = omega arith in e))

mapped_push : {X : Type 0} (g : ℕ → X) (low k : ℕ) → map g (from_to low k) ++ g (low + k) ∷ [] ≡ map g (from_to low (k + 1))
mapped_push g low k =
    sym (map-append g (from_to low k) ((low + k) ∷ [])) ∙ ap (map g) (sym (range_push low k))
    ∙ ap (λ (z : ℕ). map g (from_to low z)) (let e : suc k ≡ k + 1 = omega arith in e)

-- the terms of the first bytes
abbrev pub AreByteTerms : (old new : List TermNode) → UnrolledProgram → Names → (low k : ℕ) → List Term → Type 0
AreByteTerms old new form names low k ts =
    AreWordTerms old new form names (map (λ a. 8) (from_to low k)) (map (λ a s. s.mem a) (from_to low k)) (places_of ts) k (3 * k)

-- one byte more
pub bytes_more : (a b c : List TermNode) (form : UnrolledProgram) (names : Names) (low k : ℕ) (ts more : List Term) (t : Term) → AreNames form a names →
    AreByteTerms a b form names low k ts → IsStep b c 0 1 3 (λ w. w ≡ 8) (λ x. (term_value x b names.memory).bytes (low + k)) t.0 → more ≡ ts ++ t ∷ [] →
    AreByteTerms a c form names low (k + 1) more
bytes_more a b c form names low k ts more t are h s e =
    words_as a c form names _ _ _ _ _ _ (k + 1) (3 * k + 3) (k + 1) (3 * (k + 1)) (mapped_push (λ a. 8) low k) (mapped_push (λ a s. s.mem a) low k)
    (sym (map-append (λ (z : Term). z.0) ts (t ∷ [])) ∙ ap places_of (sym e)) (omega arith) (omega arith)
    (words_on a b c form names _ _ _ _ _ _ k (3 * k) 1 3 are h
    (one_word b c form names 8 t.0 1 3 (λ s. s.mem (low + k)) _ s (λ x r m at d. ap (λ (z : Memory). z (low + k)) d.memory)))

-- ---- registers and flags

-- the register that is always 0
pub zero_word : (a b : List TermNode) (form : UnrolledProgram) (names : Names) (t : Term) → IsInterned a b (ConstantNode 32 0) t.0 →
    AreWordTerms a b form names (part_widths (Word Zero)) (part_words (Word Zero)) (t.0 ∷ []) 0 1
zero_word a b form names t kept =
    one_word a b form names 32 t.0 0 1 _ (λ x. 0)
    (step_kept a b _ _ (ConstantNode 32 0) t.0 kept refl refl refl refl (λ i. i) (λ w f. f) (λ x r. refl)) (λ x r c at d. refl)

-- a register
pub register_word : (ns : List TermNode) (n : declared.Names) (r : ℕ) (t : Term) → AreTyped ns → AreNames (form_of n) ns (names_of n) → IsNamedIn n (Register r) →
    t ≡ get_or n.registers.items (r - n.first) t → AreWordTerms ns ns (form_of n) (names_of n) (part_widths (Word (Register r))) (part_words (Word (Register r)))
    (t.0 ∷ []) 0 1
register_word ns n r t typed names h e =
    let count = length n.registers.items in
    let long = range_length n.first count in
    let k : r - n.first < length (from_to n.first count) = omega (arith, h.0, h.1, long) in
    let is : t.0 ≡ slice_index (names_of n).registers (r - n.first) = link_is n (r - n.first) t (omega (arith, h.0, h.1)) e in
    let place : HasWidth ns 32 t.0 = subst (HasWidth ns 32) (sym is) (names.words (r - n.first) k) in
    let at_range : slice_index (from_to n.first count) (r - n.first) ≡ r = range_at n.first count (r - n.first) (omega (arith, h.0, h.1)) ∙ omega (arith, h.0) in
    one_word ns ns (form_of n) (names_of n) 32 t.0 0 1 _ (λ x. term_word x ns t.0)
    (step_stays ns 0 1 (λ w. w ≡ 32) (λ x. term_word x ns t.0) t.0 typed place.0 place.1 (λ x q. refl))
    (λ x q c at d. ap (term_word x ns) is ∙ d.registers (r - n.first) k ∙ ap c.regs at_range)

-- a flag
pub flag_word : (ns : List TermNode) (n : declared.Names) (f : ℕ) (t : Term) → AreTyped ns → AreNames (form_of n) ns (names_of n) → IsNamedIn n (Flag f) →
    t ≡ get_or n.flags.items f t → AreWordTerms ns ns (form_of n) (names_of n) (part_widths (Word (Flag f))) (part_words (Word (Flag f))) (t.0 ∷ []) 0 1
flag_word ns n f t typed names h e =
    let is : t.0 ≡ slice_index (names_of n).flags f = ap (λ (z : Term). z.0) e ∙ sym (get_or-map (λ (z : Term). z.0) n.flags.items f t 0 h) in
    let place : HasWidth ns 1 t.0 = subst (HasWidth ns 1) (sym is) (names.bits f h) in
    one_word ns ns (form_of n) (names_of n) 1 t.0 0 1 _ (λ x. term_word x ns t.0)
    (step_stays ns 0 1 (λ w. w ≡ 1) (λ x. term_word x ns t.0) t.0 typed place.0 place.1 (λ x q. refl))
    (λ x q c at d. ap (term_word x ns) is ∙ d.flags f h)

-- ---- links

bits_same : (x y : Named) → AreAlike (kind_of (named_of x)) (kind_of (named_of y)) → bits_of (named_of y) ≡ bits_of (named_of x)
bits_same Zero Zero h = refl
bits_same Zero (Register r) h = refl
bits_same Zero (Flag f) h = absurd h
bits_same (Register r) Zero h = refl
bits_same (Register r) (Register s) h = refl
bits_same (Register r) (Flag f) h = absurd h
bits_same (Flag f) Zero h = absurd h
bits_same (Flag f) (Register r) h = absurd h
bits_same (Flag f) (Flag g) h = refl

bits_on : (second : Bool) (x y : Named) → AreAlike (kind_of (named_of x)) (kind_of (named_of y)) → bits_of (named_of (named_on second x y)) ≡ bits_of (named_of x)
bits_on true x y h = bits_same x y h
bits_on false x y h = refl

-- the widths of what a link says
pub part_wide : (at_exit second : Bool) (a b : Layout) (l : Link) → IsLinkOf a b l → part_widths (part_of at_exit second l) ≡ link_widths at_exit (link_of l)
part_wide true second a b (Entry line x y) h = refl
part_wide true second a b (Exit line x y) h = ap (λ (n : ℕ). n ∷ []) (bits_on second x y h.2)
part_wide true second a b (Share line low high) h = refl
part_wide true second a b (Same line low high) h = refl
part_wide false second a b (Entry line x y) h = ap (λ (n : ℕ). n ∷ []) (bits_on second x y h.2)
part_wide false second a b (Exit line x y) h = refl
part_wide false second a b (Share line low high) h = refl
part_wide false second a b (Same line low high) h = refl

word_on : (second : Bool) (x y : Named) → part_words (Word (named_on second x y)) ≡ (λ s. value Little (named_by second (named_of x) (named_of y)) s s) ∷ []
word_on true x y = refl
word_on false x y = refl

-- its words
pub part_worded : (at_exit second : Bool) (l : Link) → part_words (part_of at_exit second l) ≡ link_words at_exit second (link_of l)
part_worded true second (Entry line x y) = refl
part_worded true second (Exit line x y) = word_on second x y
part_worded true second (Share line low high) = refl
part_worded true second (Same line low high) = refl
part_worded false second (Entry line x y) = word_on second x y
part_worded false second (Exit line x y) = refl
part_worded false second (Share line low high) = refl
part_worded false second (Same line low high) = refl

-- its loads, and a bound on its nodes
pub part_loaded : (at_exit second : Bool) (l : Link) → (part_loads (part_of at_exit second l) ≡ links_loads at_exit (link_of l ∷ []))
    × (part_nodes (part_of at_exit second l) ≤ 1 + 3 * links_loads at_exit (link_of l ∷ []))
part_loaded true second (Entry line x y) = (refl, omega arith)
part_loaded true second (Exit line x y) = (refl, omega arith)
part_loaded true second (Share line low high) = (refl, omega arith)
part_loaded true second (Same line low high) = (omega arith, omega arith)
part_loaded false second (Entry line x y) = (refl, omega arith)
part_loaded false second (Exit line x y) = (refl, omega arith)
part_loaded false second (Share line low high) = (omega arith, omega arith)
part_loaded false second (Same line low high) = (refl, omega arith)

-- the loads of links, and of more
shared_both : (xs ys : List spec.Link) → shared_bytes (xs ++ ys) ≡ shared_bytes xs + shared_bytes ys
shared_both [] ys = omega arith
shared_both (spec.EqualAtEntry n x y ∷ xs) ys = shared_both xs ys
shared_both (spec.EqualAtExit n x y ∷ xs) ys = shared_both xs ys
shared_both (spec.SharedBytes n low high ∷ xs) ys = let e = shared_both xs ys in omega arith
shared_both (spec.SameBytes n low high ∷ xs) ys = shared_both xs ys

same_both : (xs ys : List spec.Link) → same_bytes (xs ++ ys) ≡ same_bytes xs + same_bytes ys
same_both [] ys = omega arith
same_both (spec.EqualAtEntry n x y ∷ xs) ys = same_both xs ys
same_both (spec.EqualAtExit n x y ∷ xs) ys = same_both xs ys
same_both (spec.SharedBytes n low high ∷ xs) ys = same_both xs ys
same_both (spec.SameBytes n low high ∷ xs) ys = let e = same_both xs ys in omega arith

loads_both : (at_exit : Bool) (xs ys : List spec.Link) → links_loads at_exit (xs ++ ys) ≡ links_loads at_exit xs + links_loads at_exit ys
loads_both true xs ys = same_both xs ys
loads_both false xs ys = shared_both xs ys

-- links up to the next
pub links_next : (links : List Link) (i : ℕ) (d : Link) → i < length links → links_of (take (i + 1) links) ≡ links_of (take i links) ++ link_of (get_or links i d) ∷ []
links_next links i d within = ap links_of (take_more links i d within) ∙ map-append link_of (take i links) (get_or links i d ∷ [])

pub flat_one : {X Y : Type 0} (f : X → List Y) (xs ys : List X) (x : X) → ys ≡ xs ++ x ∷ [] → flat_map f xs ++ f x ≡ flat_map f ys
flat_one f xs ys x e = sym (flat_map-append f xs (x ∷ []) ∙ ap (λ z. flat_map f xs ++ z) (append-nil (f x))) ∙ ap (flat_map f) (sym e)

-- the terms of the first links
abbrev pub AreLinkTerms : (old new : List TermNode) → declared.Names → (at_exit second : Bool) → List Link → List Term → Type 0
AreLinkTerms old new n at_exit second links ts =
    AreWordTerms old new (form_of n) (names_of n) (flat_map (link_widths at_exit) (links_of links)) (flat_map (link_words at_exit second) (links_of links))
    (places_of ts) (links_loads at_exit (links_of links)) (length links + 3 * links_loads at_exit (links_of links))

-- a link of a side, of the two forms that it is between
pub link_forms : (second : Bool) (form : Layout) (l : Link) → IsLinkOfSide second form l → (x : Layout) × (y : Layout) × IsLinkOf x y l
link_forms true form l h = (h.0, form, h.1)
link_forms false form l h = (form, h.0, h.1)

pub link_at : (second : Bool) (form : Layout) (links : List Link) (i : ℕ) (d : Link) → AreLinksOfSide second form links → i < length links →
    IsLinkOfSide second form (get_or links i d)
link_at true form links i d h l = (h.0, h.1 i d l)
link_at false form links i d h l = (h.0, h.1 i d l)

-- one link more
pub links_more : (a b c : List TermNode) (n : declared.Names) (at_exit second : Bool) (form : Layout) (links : List Link) (i : ℕ) (d : Link) (p : Part)
    (ts us more : List Term) → AreNames (form_of n) a (names_of n) → AreLinksOfSide second form links → i < length links →
    p ≡ part_of at_exit second (get_or links i d) → AreLinkTerms a b n at_exit second (take i links) ts →
    AreWordTerms b c (form_of n) (names_of n) (part_widths p) (part_words p) (places_of us) (part_loads p) (part_nodes p) → more ≡ ts ++ us →
    AreLinkTerms a c n at_exit second (take (i + 1) links) more
links_more a b c n at_exit second form links i d p ts us more are all within is h k f =
    let l = get_or links i d in
    let next = links_next links i d within in
    let loads = ap (links_loads at_exit) next ∙ loads_both at_exit (links_of (take i links)) (link_of l ∷ []) in
    let own = part_loaded at_exit second l in
    let count : length (take (i + 1) links) ≡ i + 1 = length-take-le (i + 1) links (omega arith) in
    let before : length (take i links) ≡ i = length-take-le i links (omega arith) in
    let forms = link_forms second form l (link_at second form links i d all within) in
    let q = part_of at_exit second l in
    let k' : AreWordTerms b c (form_of n) (names_of n) (part_widths q) (part_words q) (places_of us) (part_loads q) (part_nodes q) = subst
    (λ (z : Part). AreWordTerms b c (form_of n) (names_of n) (part_widths z) (part_words z) (places_of us) (part_loads z) (part_nodes z)) is k in
    words_as a c (form_of n) (names_of n) _ _ _ _ _ _ _ _ _ _
    (ap (λ (z : List ℕ). flat_map (link_widths at_exit) (links_of (take i links)) ++ z) (part_wide at_exit second forms.0 forms.1 l forms.2)
    ∙ flat_one (link_widths at_exit) (links_of (take i links)) (links_of (take (i + 1) links)) (link_of l) next)
    (ap (λ (z : List (State → ℕ)). flat_map (link_words at_exit second) (links_of (take i links)) ++ z) (part_worded at_exit second l)
    ∙ flat_one (link_words at_exit second) (links_of (take i links)) (links_of (take (i + 1) links)) (link_of l) next)
    (sym (map-append (λ (z : Term). z.0) ts us) ∙ ap places_of (sym f))
    (omega (arith, loads, own.0)) (omega (arith, loads, own.0, own.1, count, before))
    (words_on a b c (form_of n) (names_of n) _ _ _ _ _ _ _ _ _ _ are h k')

-- ---- the registers and flags of a form

named_in : (form : Layout) (n : declared.Names) (x : Named) → AreOfForm form n → IsOfForm form x → IsNamedIn n x
named_in form n Zero f h = tt
named_in (Rv32 compressed) n (Register r) f h =
    let k = both_true _ _ h in
    let low = leb-true 1 r k.0 in
    let high = leb-true r 31 k.1 in
    let first : n.first ≡ 1 = f.first in
    let count : length n.registers.items ≡ 31 = f.registers in (omega arith, omega arith)
named_in (Arm big profile) n (Register r) f h =
    let high = leb-true r 14 h in
    let first : n.first ≡ 0 = f.first in
    let count : length n.registers.items ≡ 15 = f.registers in (omega arith, omega arith)
named_in (Rv32 compressed) n (Flag g) f h = absurd (false≢true h)
named_in (Arm big profile) n (Flag g) f h =
    let high = leb-true g 3 h in
    let count : length n.flags.items ≡ 4 = f.flags in omega arith

part_in_by : (at_exit second : Bool) (form : Layout) (n : declared.Names) (l : Link) → AreOfForm form n → IsLinkOfSide second form l →
    IsPartIn n (part_of at_exit second l)
part_in_by true true form n (Exit line x y) f h = named_in form n y f h.1.1
part_in_by true false form n (Exit line x y) f h = named_in form n x f h.1.0
part_in_by true true form n (Same line low high) f h = h.1
part_in_by true false form n (Same line low high) f h = h.1
part_in_by true second form n (Entry line x y) f h = tt
part_in_by true second form n (Share line low high) f h = tt
part_in_by false true form n (Entry line x y) f h = named_in form n y f h.1.1
part_in_by false false form n (Entry line x y) f h = named_in form n x f h.1.0
part_in_by false true form n (Share line low high) f h = h.1
part_in_by false false form n (Share line low high) f h = h.1
part_in_by false second form n (Exit line x y) f h = tt
part_in_by false second form n (Same line low high) f h = tt

pub part_in : (at_exit second : Bool) (form : Layout) (n : declared.Names) (links : List Link) (i : ℕ) (d : Link) (p : Part) → AreOfForm form n →
    AreLinksOfSide second form links → i < length links → p ≡ part_of at_exit second (get_or links i d) → IsPartIn n p
part_in at_exit second form n links i d p f h l e =
    subst (IsPartIn n) (sym e) (part_in_by at_exit second form n (get_or links i d) f (link_at second form links i d h l))
