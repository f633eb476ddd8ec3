-- The entry condition as a term.
use mir.Val.{bool_byte}
use Rattle.std.proofs.Common.{◌≡◌, ℕ, ◌+◌, ◌-◌, ◌*◌, ◌%◌, ◌<◌, ◌≤◌, Bool, true, false, not, ◌&&◌, nat_eq, nat_lt, ◌==◌, bit_and, List, [], ◌∷◌, ◌++◌, length, map, slice_index, get_or, take, Contains, sum_by, refl, ap, sym, subst, ◌∙◌, arith}
use Rattle.std.specs.List.{list_any}
use Rattle.std.proofs.lemmas.List.{map-append, length-map, get_or-map, take_more}
use Rattle.std.proofs.lemmas.List.Sums.{sum_by-append}
use Rattle.std.proofs.lemmas.List.Folds.{list_all-append}
use Rattle.word_spec.specs.Words.{bit, bits}
use Rattle.word_spec.specs.Memory.{Endian, endian}
use Rattle.machine_spec.specs.Machine.{unit, is_place}
use Rattle.machine_spec.specs.Bil as bil
use Rattle.bilv_spec.specs.Notes as notes
use Rattle.bilv_spec.specs.Notes.{Expr, value, is_true}
use Rattle.word_spec.specs.RowFiles.{from_to}
use Rattle.bilv_spec.specs.Points.{line_price, bytes_loaded}
use Rattle.term_spec.specs.Terms.{TermReading, TermNode, ConstantNode, BinaryNode, ExtractNode, HasWidth, term_value, term_word, width_of}
use Rattle.walk_spec.specs.Unrolled.{UnrolledProgram, state_at}
use Rattle.walk_spec.specs.Unrolling.{IsReadable}
use Rattle.walk_spec.specs.Prices.{entry_lines, line_size, line_steps, variables_of}
use Rattle.term_spec.specs.WalkQuestions.{IsNamedBelow}
use Rattle.term_spec.specs.Passive.{AreNames}
use Rattle.term_dag.specs.declared.nodes.Term.{Term}
use Rattle.term_dag.specs.Made.{IsMade, IsInterned}
use Rattle.term_dag.proofs.LowBits.{low_bits, few_low_bits}
use Rattle.term_dag.proofs.Growth.{grew_on, grew_more, grew_width, interned_grew, inputs_on, inputs_more}
use Rattle.notes_value.specs.Views.{expr_of}
use Rattle.notes_value.specs.NoteViews.{note_line_of}
use Rattle.notes_value.specs.declared.notes.NoteLine.{NoteLine}
use Rattle.term_names.specs.declared.names.Names.{Names}
use Rattle.term_names.specs.Views.{form_of, names_of}
use Rattle.term_names.specs.Chosen.{AreEntryNames, IsOfForm, at_entry}
use Rattle.term_names.proofs.OfForm.{named_of}
use Rattle.note_terms.specs.declared.Now.{Now}
use Rattle.note_terms.specs.Steps.{IsStep}
use Rattle.note_terms.specs.Lines.{AreStateTerms, IsLine, IsStateOf}
use Rattle.note_terms.proofs.Steps.{step_made, step_kept, step_as, step_on, step_keeps, bits_and}
use Rattle.note_terms.proofs.Valued.{denotes_stays, names_stay, is_state_stays, range_at, range_length, line_enough}
use Rattle.weakest_pre.specs.Entry.{said, all_hold, all_true, without_points, AreTrue, IsEntryBit}

-- whether a row can stand at the address that a word is
pub place_step : (narrow : Bool) (hi : ℕ) → hi ≡ bool_byte (not narrow) → (a b c d : List TermNode) (v l z t : ℕ) → v < length a →
    IsMade a b (ExtractNode hi 0 v) l → IsInterned b c (ConstantNode (hi + 1) 0) z → IsMade c d (BinaryNode bil.Equal (hi + 1) l z) t →
    IsStep a d 2 0 5 (λ w. w ≡ 1) (λ x. bit (is_place narrow (term_word x a v))) t
place_step narrow hi is a b c d v l z t h low none made =
    let few = few_low_bits narrow hi is in
    let first : IsStep a b 0 0 2 (λ w. w ≡ hi + 1) (λ x. bits hi 0 (term_word x a v)) l =
    step_made a b 0 0 (λ w. w ≡ hi + 1) (λ x. bits hi 0 (term_word x a v)) (ExtractNode hi 0 v) l low (omega arith) (omega arith) refl refl (λ i. i)
    (λ w e. (let all : hi + 1 - 0 ≡ hi + 1 = omega arith in e ∙ all)) (λ x r. refl) in
    let second : IsStep b c 0 0 1 (λ w. w ≡ hi + 1) (λ x. 0) z =
    step_kept b c _ _ (ConstantNode (hi + 1) 0) z none refl refl refl refl (λ i. i) (λ w e. e) (λ x r. refl) in
    let last : IsStep c d 2 0 2 (λ w. w ≡ 1) (λ x. bit (term_word x c l == term_word x c z)) t =
    step_made c d 2 0 _ _ (BinaryNode bil.Equal (hi + 1) l z) t made (omega (arith, few)) (omega arith) refl refl (λ i. i) (λ w e. e) (λ x r. refl) in
    step_as a d (0 + 0 + 2) 0 (2 + 1 + 2) 2 0 5 _ _ _ _ t
    (step_on a c d 0 0 (2 + 1) 2 0 2 _ _ _ _ z t (step_on a b c 0 0 2 0 0 1 _ _ _ _ l z first second) last) (omega arith) (omega arith) (omega arith) (λ w e. e)
    (λ x r.
    let left = step_keeps b c 0 0 1 _ _ z second x l first.within ∙ first.value x r ∙ low_bits narrow hi (term_word x a v) is in
    ap (λ (w : ℕ). bit (w == term_word x c z)) left ∙ ap (λ (w : ℕ). bit (term_word x a v % unit narrow == w)) (second.value x r))

-- and with one more
and_more : (b p q : Bool) → ((b && p) && q) ≡ (b && (p && (q && true)))
and_more true true true = refl
and_more true true false = refl
and_more true false q = refl
and_more false p q = refl

-- one more line
pub true_more : (a b c d : List TermNode) (big : Bool) (now entry : Now) (first l r t : ℕ) (done : List Expr) (e : Expr) → AreStateTerms a now →
    AreStateTerms a entry → AreTrue a b big now entry first done l →
    IsLine b c big e now entry r → IsMade c d (BinaryNode bil.And 1 l r) t → AreTrue a d big now entry first (done ++ e ∷ []) t
true_more a b c d big now entry first l r t done e h k before line made =
    let last : IsStep c d 1 0 2 (λ w. w ≡ 1) (λ x. bit_and (term_word x c l) (term_word x c r)) t =
    step_made c d 1 0 _ _ (BinaryNode bil.And 1 l r) t made (omega arith) (omega arith) refl refl (λ i. i) (λ w f. f) (λ x f. refl) in
    let prices = sum_by-append line_price done (e ∷ []) in
    let loads = sum_by-append bytes_loaded done (e ∷ []) in
    let steps = sum_by-append (λ z. line_size z + 4) done (e ∷ []) in
    let enough = line_enough e in
    record {
      grew = grew_more a d (sum_by line_price done + (line_price e - 64) + 1) (sum_by bytes_loaded done + bytes_loaded e + 0) 0 0
          (4 * line_steps done + (4 * line_size e + 8) + 2) (sum_by line_price (done ++ e ∷ [])) (sum_by bytes_loaded (done ++ e
          ∷ [])) 0 0 (4 * line_steps (done ++ e ∷ []))
          (omega arith) (omega arith) (omega arith) (omega arith) (omega arith)
          (grew_on a c d (sum_by line_price done + (line_price e - 64)) (sum_by bytes_loaded done + bytes_loaded e) 0 0
          (4 * line_steps done + (4 * line_size e + 8)) 1 0 0 0 2
          (grew_on a b c (sum_by line_price done) (sum_by bytes_loaded done) 0 0 (4 * line_steps done) (line_price e - 64) (bytes_loaded e) 0 0
          (4 * line_size e + 8)
          before.grew line.grew) last.grew);
      inputs = inputs_on a c d _ (inputs_on a b c _ before.inputs line.inputs) last.inputs;
      typed = last.typed;
      width = (last.within, last.fits);
      value = λ x ok m n at from s o p f.
          let state = state_at m at in
          let old = state_at n from in
          let rest = all_hold (endian big) done state old in
          let one = is_true (value (endian big) e state old) in
          let left : term_word x c l ≡ bit (p && rest) = ap (λ v. v.word) (line.grew.keeps x l before.width.0) ∙ before.value x ok m n at from s o p f in
          let now_b = is_state_stays a b _ _ _ _ _ now x m at before.grew h s in
          let entry_b = is_state_stays a b _ _ _ _ _ entry x n from before.grew k o in
          let right : term_word x c r ≡ bit one = line.value x ok m n at from now_b entry_b in
          last.value x ok ∙ ap (λ (v : ℕ). bit_and v (term_word x c r)) left ∙ ap (bit_and (bit (p && rest))) right ∙ bits_and (p && rest) one
          ∙ ap bit (and_more p rest one ∙ ap (λ (q : Bool). p && q) (sym (list_all-append (λ z. is_true (value (endian big) z state old)) done (e ∷ []))));
    }

-- what the lines of notes say
pub said_is : (lines : List NoteLine) → said lines ≡ map (λ l. l.says) (map note_line_of lines)
said_is [] = refl
said_is (l ∷ lines) = ap (λ (r : List Expr). expr_of l.says ∷ r) (said_is lines)

pub said_more : (lines : List NoteLine) (l : NoteLine) → said (lines ++ l ∷ []) ≡ said lines ++ expr_of l.says ∷ []
said_more lines l = map-append (λ z. expr_of z.says) lines (l ∷ [])

-- an expression is read by registers and flags alone
pub reads_by : (u v : UnrolledProgram) (e : Expr) → u.registers ≡ v.registers → u.flags ≡ v.flags → IsReadable u e → IsReadable v e
reads_by u v (notes.Number n) p q h = h
reads_by u v (notes.Register r) p q h = subst (λ (l : List ℕ). list_any (nat_eq r) l ≡ true) p h
reads_by u v (notes.Flag f) p q h = subst (λ (n : ℕ). nat_lt f n ≡ true) q h
reads_by u v notes.Pc p q h = tt
reads_by u v notes.Bound p q h = tt
reads_by u v (notes.Memory n a) p q h = (h.0, h.1, reads_by u v a p q h.2)
reads_by u v (notes.Old a) p q h = reads_by u v a p q h
reads_by u v (notes.Not a) p q h = reads_by u v a p q h
reads_by u v (notes.Binary o a b) p q h = (reads_by u v a p q h.0, reads_by u v b p q h.1)

-- the entry condition, from its parts
pub entry_made : (u : UnrolledProgram) (a b c d e : List TermNode) (low regs flags : ℕ) (now : Now) (l s t : ℕ) (big : Bool) (lines : List Expr) →
    u.registers ≡ from_to low regs → u.flags ≡ flags → endian big ≡ u.endian → lines ≡ entry_lines u → low ≤ u.link → u.link < low + regs →
    AreEntryNames a b low regs flags now.names.now → IsInterned b c (ConstantNode 32 u.entry) now.pc.0 →
    l ≡ slice_index (names_of now.names.now).registers (u.link - low) →
    IsStep c d 2 0 5 (λ w. w ≡ 1) (λ x. bit (is_place u.narrow (term_word x c l))) s → AreTrue d e big now now s lines t → IsEntryBit u a e t
entry_made u a b c d e low regs flags now l s t big lines pr pf pe pl above below names pc at aligned all =
    let n = now.names.now in
    let pc_step : IsStep b c 0 0 1 (λ w. w ≡ 32) (λ x. u.entry) now.pc.0 =
    step_kept b c _ _ (ConstantNode 32 u.entry) now.pc.0 pc refl refl refl refl (λ i. i) (λ w f. f) (λ x r. refl) in
    let grew_c = grew_on b c d 0 0 0 0 1 2 0 0 0 5 pc_step.grew aligned.grew in
    let long : length (from_to low regs) ≡ regs = range_length low regs in
    let wide : length u.registers ≡ regs = ap length pr ∙ long in
    let prices : sum_by line_price lines ≡ sum_by line_price (entry_lines u) = ap (sum_by line_price) pl in
    let loads : sum_by bytes_loaded lines ≡ sum_by bytes_loaded (entry_lines u) = ap (sum_by bytes_loaded) pl in
    let steps : line_steps lines ≡ line_steps (entry_lines u) = ap line_steps pl in
    record {
      grew = grew_more a e (0 + (0 + 2) + sum_by line_price lines) (0 + (0 + 0) + sum_by bytes_loaded lines) 0 0
          ((regs + flags + 1) + (1 + 5) + 4 * line_steps lines)
          (2 + sum_by line_price (entry_lines u)) (sum_by bytes_loaded (entry_lines u)) 0 0 (2 * variables_of u + 8 + 4 * line_steps (entry_lines u))
          (omega arith) (omega arith) (omega arith) (omega arith) (omega arith)
          (grew_on a d e (0 + (0 + 2)) (0 + (0 + 0)) 0 0 ((regs + flags + 1) + (1 + 5)) (sum_by line_price lines) (sum_by bytes_loaded lines) 0 0
          (4 * line_steps lines)
          (grew_on a b d 0 0 0 0 ((regs + flags + 1)) (0 + 2) (0 + 0) 0 0 (1 + 5) names.grew grew_c) all.grew);
      inputs = inputs_on a d e (IsNamedBelow (without_points u) 0)
          (inputs_on a b d (IsNamedBelow (without_points u) 0)
          (inputs_more a b (IsOfForm low regs flags) (IsNamedBelow (without_points u) 0) (λ m i h. named_of (without_points u) low regs flags m pr pf i h) names.inputs)
          (inputs_more b d (λ m. ⊥) (IsNamedBelow (without_points u) 0) (λ m i h. absurd h) (inputs_on b c d _ pc_step.inputs aligned.inputs)))
          (inputs_more d e (λ m. ⊥) (IsNamedBelow (without_points u) 0) (λ m i h. absurd h) all.inputs);
      typed = all.typed;
      width = all.width;
      value = λ x ok.
          let state : IsStateOf d x now (at_entry x) u.entry = record {
            carried = denotes_stays (form_of n) b d _ _ _ _ _ (names_of n) x (at_entry x) grew_c names.names (names.denotes x ok);
            pc = ap (λ v. v.word) (aligned.grew.keeps x now.pc.0 pc_step.within) ∙ pc_step.value x ok;
          } in
          let count = names.registers in
          let k : u.link - low < length (from_to n.first (length n.registers.items)) = omega
          (arith, range_length n.first (length n.registers.items), names.registers) in
          let here : slice_index (from_to n.first (length n.registers.items)) (u.link - low) ≡ u.link =
          range_at n.first (length n.registers.items) (u.link - low) (omega (arith, names.registers)) ∙ omega (arith, names.first) in
          let link : term_word x c l ≡ x.regs 0 u.link =
          ap (λ v. v.word) (subst (λ (i : ℕ). term_value x c i ≡ term_value x b i) (sym at) (pc_step.grew.keeps x _ (names.names.words (u.link - low) k).0))
          ∙ ap (term_word x b) at ∙ (names.denotes x ok).registers (u.link - low) k ∙ ap (x.regs 0) here in
          all.value x ok (at_entry x) (at_entry x) u.entry u.entry state state (is_place u.narrow (x.regs 0 u.link)) (aligned.value x ok ∙ ap (λ (v : ℕ). bit (is_place u.narrow v)) link)
          ∙ ap (λ (z : List Expr). bit (is_place u.narrow (x.regs 0 u.link) && all_true (endian big) z (state_at (at_entry x) u.entry))) pl
          ∙ ap (λ (z : Endian). bit (is_place u.narrow (x.regs 0 u.link) && all_true z (entry_lines u) (state_at (at_entry x) u.entry))) pe;
    }

-- a term of the registers by its place
pub link_is : (n : Names) (i : ℕ) (t : Term) → i < length n.registers.items → t ≡ get_or n.registers.items i t → t.0 ≡ slice_index (names_of n).registers i
link_is n i t within e = ap (λ z. z.0) e ∙ sym (get_or-map (λ z. z.0) n.registers.items i t 0 within)

-- the names stay where the address is kept and the link value was asked
pub names_ready : (a b c d : List TermNode) (low regs flags v p s : ℕ) (f : TermReading → ℕ) (n : Names) → AreEntryNames a b low regs flags n →
    IsInterned b c (ConstantNode 32 v) p → IsStep c d 2 0 5 (λ w. w ≡ 1) f s → AreNames (form_of n) d (names_of n) × HasWidth d 32 p
names_ready a b c d low regs flags v p s f n names pc aligned =
    let first = interned_grew b c (ConstantNode 32 v) p pc in (
      names_stay (form_of n) b d _ _ _ _ _ (names_of n) (grew_on b c d 0 0 0 0 1 2 0 0 0 5 first aligned.grew) names.names,
      grew_width c d 2 0 0 0 5 32 p aligned.grew (pc.within, ap width_of pc.stored),
    )

-- the link value is a word
pub link_word : (a b c : List TermNode) (low regs flags v p link : ℕ) (n : Names) (t : Term) → AreEntryNames a b low regs flags n →
    IsInterned b c (ConstantNode 32 v) p →
    low ≤ link → link < low + regs → t ≡ get_or n.registers.items (link - low) t → HasWidth c 32 t.0
link_word a b c low regs flags v p link n t names pc above below e =
    let count = names.registers in
    let within : link - low < length n.registers.items = omega arith in
    let k : link - low < length (from_to n.first (length n.registers.items)) = omega (arith, range_length n.first (length n.registers.items)) in
    grew_width b c 0 0 0 0 1 32 t.0 (interned_grew b c (ConstantNode 32 v) p pc)
    (subst (HasWidth b 32) (sym (link_is n (link - low) t within e)) (names.names.words (link - low) k))

-- ranges of one beginning and one length
pub same_range : (first count low regs : ℕ) → low ≡ first → regs ≡ count → from_to first count ≡ from_to low regs
same_range first count low regs p q = ap (λ (n : ℕ). from_to n count) (sym p) ∙ ap (from_to low) (sym q)

-- an element of a list, and what it is mapped to
contains_map : {X Y : Type 0} (f : X → Y) (xs : List X) (x : X) → Contains xs x → Contains (map f xs) (f x)
contains_map f xs x c = (c.0, omega (arith, c.1, length-map xs f), get_or-map f xs c.0 x (f x) c.1 ∙ ap f c.2)

-- the required lines can be read by the names
pub lines_read : (u : UnrolledProgram) (n : Names) (lines items : List NoteLine) → lines ≡ items → u.requires ≡ map note_line_of items →
    u.registers ≡ (form_of n).registers →
    u.flags ≡ (form_of n).flags → ((l : notes.NoteLine) → Contains u.requires l → IsReadable u l.says) → (l : NoteLine) → Contains lines l →
    IsReadable (form_of n) (expr_of l.says)
lines_read u n lines items e r p q h l c =
    reads_by u (form_of n) (expr_of l.says) p q
    (h (note_line_of l) (subst (λ (z : List notes.NoteLine). Contains z (note_line_of l)) (sym r) (contains_map note_line_of items l (subst
    (λ (z : List NoteLine). Contains z l) e c))))

-- the lines up to the next, in their order
pub said_next : (lines : List NoteLine) (i : ℕ) (l : NoteLine) → i < length lines → l ≡ get_or lines i l →
    said (take (i + 1) lines) ≡ said (take i lines) ++ expr_of l.says ∷ []
said_next lines i l within e =
    ap said (take_more lines i l within) ∙ ap (λ (z : NoteLine). said (take i lines ++ z ∷ [])) (sym e) ∙ said_more (take i lines) l
