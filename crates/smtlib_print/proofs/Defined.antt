-- The commands of a script one after another: definitions of terms, of the bytes of the file, and the assertion.
use Rattle.std.proofs.Common.{◌≡◌, ℕ, zero, suc, ◌+◌, ◌-◌, ◌^◌, ◌<◌, ◌≤◌, refl, ap, sym, ◌∙◌, subst, arith, true, false, Bool, List, [], ◌∷◌, ◌++◌, Option, Some, None, length, append_assoc, append-nil, inl, inr}
use Rattle.std.specs.Prelude.{nat_lt, slice_index, slice_index_or}
use Rattle.std.specs.List.{list_any}
use Rattle.std.specs.Str.{bytes_eq}
use Rattle.std.proofs.lemmas.Bool.{cases_lt}
use Rattle.std.proofs.lemmas.Bool.Decides.{nat_tests}
use Rattle.machine_spec.specs.StateText.{Layout}
use Rattle.bilv_spec.specs.Scripts.{choice_name}
use Rattle.bilv_spec.specs.SmtLib.{Sexp, Cons, SmtValue, WordValue, ArrayValue, atom_value, term_value, binds, is_of_sort, truth_of}
use Rattle.machine_spec.proofs.Spelling.{same_number, same_text, decimal_back}
use Rattle.term_spec.specs.Terms as terms
use Rattle.term_spec.specs.Terms.{TermReading, InRange, TermValue, TermNode, word_value, value_at, node_value, values_from, width_of, node_at, HasWidth, AreTypedFrom, AreTyped}
use Rattle.term_dag.proofs.ListLaws.{keeps, keeps_node, last, longer, length_values, values_append, typed_push}
use Rattle.term_dag.proofs.Ranges.{term_fits}
use Rattle.term_dag.proofs.Shapes.{few_bits}
use Rattle.smtlib_print.specs.Commands.{memory_in, name_in, term_name, definition, sort_of, node_term, node_definitions}
use Rattle.smtlib_print.specs.Written.{before}
use Rattle.smtlib_print.proofs.Names.{is_symbol, other_term, symbol_value}
use Rattle.smtlib_print.proofs.NodeValues.{IsValue, Knows, HasInput, says}

-- a name is among names
abbrev pub among : List (List ℕ) → List ℕ → Bool
among names w = list_any (bytes_eq w) names

-- no name is a term's
abbrev pub Apart : List (List ℕ) → Type 0
Apart names = (w : List ℕ) (t : ℕ) → among names w ≡ true → bytes_eq w (term_name t) ≡ false

-- what the symbols have behind some commands: names have the model's values, and terms from a place on have none
pub record Stands (model symbols : List ℕ → Option SmtValue) (names : List (List ℕ)) (upto : ℕ) : Type 0 where
  pub inputs : (w : List ℕ) → among names w ≡ true → symbols w ≡ model w
  pub fresh : (t : ℕ) → upto ≤ t → t < 2 ^ 64 → symbols (term_name t) ≡ None

-- a definition
pub define_step : (model symbols : List ℕ → Option SmtValue) (at : ℕ) (sort says rest : Sexp) (v : SmtValue) → symbols (term_name at) ≡ None →
    term_value symbols says ≡ Some v →
    is_of_sort v sort ≡ true → truth_of model symbols (Cons (definition at sort says) rest) ≡ truth_of model (binds symbols (term_name at) v) rest
define_step model symbols at sort says rest v f h s = rw (f, h, s) refl

-- the defined term, and earlier ones
pub bound_here : (symbols : List ℕ → Option SmtValue) (at : ℕ) (v : SmtValue) → binds symbols (term_name at) v (term_name at) ≡ Some v
bound_here symbols at v = rw (same_text (term_name at)) refl

pub bound_other : (symbols : List ℕ → Option SmtValue) (at t : ℕ) (v : SmtValue) → at < 2 ^ 64 → t < 2 ^ 64 → (t ≡ at → ⊥) →
    binds symbols (term_name at) v (term_name t) ≡ symbols (term_name t)
bound_other symbols at t v h k n = rw (other_term t at k h n) refl

pub stands_on : (model symbols : List ℕ → Option SmtValue) (names : List (List ℕ)) (at : ℕ) (v : SmtValue) → Apart names → at < 2 ^ 64 →
    Stands model symbols names at →
    Stands model (binds symbols (term_name at) v) names (suc at)
stands_on model symbols names at v apart h s = record {
  inputs = λ w m. rw (apart w at m) (s.inputs w m);
  fresh = λ t l k. bound_other symbols at t v h k (λ e. absurd (omega (arith, e, l))) ∙ s.fresh t (omega (arith, l)) k;
}

-- a value of a node is of the node's sort
record Sorted (w : ℕ) (v : TermValue) (o : Option SmtValue) : Type 0 where
  value : SmtValue
  is : o ≡ Some value
  sort : is_of_sort value (sort_of w) ≡ true
  has : IsValue w v (Some value)

sorted : (w : ℕ) (v : TermValue) (o : Option SmtValue) → w < 2 ^ 64 → v.word < 2 ^ w → IsValue w v o → Sorted w v o
sorted zero v o s h i =
    let b = i.bytes refl in
    record { value = ArrayValue b.0; is = b.1; sort = refl; has = record { word = λ z. absurd (omega (arith, z)); bytes = λ z. (b.0, refl, b.2) } }
sorted (suc w) v o s h i =
    let l : nat_lt v.word (2 ^ suc w) ≡ true = grind (arith, nat_tests) in
    record {
      value = WordValue (suc w) v.word;
      is = i.word (omega arith);
      sort = rw (decimal_back (suc w) s, same_number (suc w), l) refl;
      has = record { word = λ z. refl; bytes = λ z. absurd (omega (arith, z)) };
    }

-- one node more
value_last : (x : TermReading) (bs : List TermNode) (n : TermNode) → terms.term_value x (bs ++ n ∷ []) (length bs) ≡ node_value x (values_from x [] bs) n
unfolding values_from
value_last x bs n =
    let l : length bs ≡ length (values_from x [] bs) = omega (arith, length_values x [] bs) in
    ap (λ vs. value_at vs (length bs)) (values_append x [] bs (n ∷ []))
    ∙ ap (value_at (values_from x [] bs ++ node_value x (values_from x [] bs) n ∷ [])) l
    ∙ last (values_from x [] bs) (node_value x (values_from x [] bs) n) (word_value 0)

value_is : (w w' : ℕ) (v v' : TermValue) (o o' : Option SmtValue) → w' ≡ w → v' ≡ v → o' ≡ o → IsValue w v o → IsValue w' v' o'
value_is w w' v v' o o' e f g i = rw (e, f, g) i

knows_on : (symbols : List ℕ → Option SmtValue) (x : TermReading) (bs : List TermNode) (n : TermNode) (at : ℕ) (v : SmtValue) → at ≡ length bs → at < 2 ^ 64 →
    Knows symbols x bs → IsValue (width_of n) (node_value x (values_from x [] bs) n) (Some v) → Knows (binds symbols (term_name at) v) x (bs ++ n ∷ [])
knows_on symbols x bs n at v e s k i = record {
  terms = λ t l. elim (cases_lt t (length bs)) [
    | inl b ↦
        value_is _ _ _ _ _ _ (ap width_of (keeps_node bs (n ∷ []) t b)) (keeps x bs (n ∷ []) t b)
        (bound_other symbols at t v s (omega (arith, b, e)) (λ f. absurd (omega (arith, b, e, f)))) (k.terms t b)
    | inr b ↦ (
        let h : t ≡ length bs = omega (arith, l, longer bs n, b) in
        value_is _ _ _ _ _ _
        (ap (λ u. width_of (node_at (bs ++ n ∷ []) u)) h ∙ ap width_of (last bs n (terms.MemoryNode 0)))
        (ap (terms.term_value x (bs ++ n ∷ [])) h ∙ value_last x bs n)
        (ap (λ u. binds symbols (term_name at) v (term_name u)) (h ∙ sym e) ∙ bound_here symbols at v) i)
  ];
}

-- a name that has a value in the model
pub record IsNamed (model : List ℕ → Option SmtValue) (names : List (List ℕ)) (w : List ℕ) (v : SmtValue) : Type 0 where
  pub named : among names w ≡ true
  pub symbol : is_symbol w ≡ true
  pub value : model w ≡ Some v

-- an input has a name with its value
abbrev pub IsInputOf : (model : List ℕ → Option SmtValue) → (names : List (List ℕ)) → Layout → (numbers : List ℕ) → TermReading → TermNode → Type 0
IsInputOf model names layout numbers x (terms.RegisterNode p r) =
    IsNamed model names (name_in numbers p (slice_index_or layout.registers (r - layout.first) [])) (WordValue 32 (x.regs p r))
IsInputOf model names layout numbers x (terms.FlagNode p f) =
    IsNamed model names (name_in numbers p (slice_index_or layout.flags (length layout.flags - 1 - f) [])) (WordValue 1 (x.flags p f))
IsInputOf model names layout numbers x (terms.ChoiceNode i) = IsNamed model names (choice_name (slice_index numbers i)) (WordValue 2 (x.choice i))
IsInputOf model names layout numbers x (terms.BaseNode p j) = x.base p j ≡ 0
IsInputOf model names layout numbers x (terms.MemoryNode p) = IsNamed model names (memory_in numbers p) (ArrayValue (x.mem p))
IsInputOf model names layout numbers x (terms.TakeNode n m a p) = IsNamed model names (memory_in numbers p) (ArrayValue (x.mem p))
IsInputOf model names layout numbers x n = Unit {0}

-- so have the inputs of a list
abbrev pub AreInputsOf : (model : List ℕ → Option SmtValue) → (names : List (List ℕ)) → Layout → (numbers : List ℕ) → TermReading → List TermNode → Type 0
AreInputsOf model names layout numbers x [] = Unit {0}
AreInputsOf model names layout numbers x (n ∷ ns) = IsInputOf model names layout numbers x n × AreInputsOf model names layout numbers x ns

pub named_value : (model symbols : List ℕ → Option SmtValue) (names : List (List ℕ)) (upto : ℕ) (w : List ℕ) (v : SmtValue) → Stands model symbols names upto →
    IsNamed model names w v →
    atom_value symbols w ≡ Some v
named_value model symbols names upto w v s i = symbol_value symbols w i.symbol ∙ s.inputs w i.named ∙ i.value

-- what the symbols have behind definitions of nodes
pub record Reached (model symbols : List ℕ → Option SmtValue) (names : List (List ℕ)) (upto : ℕ) (x : TermReading) (nodes : List TermNode)
    (commands : List Sexp) : Type 0 where
  pub after : List ℕ → Option SmtValue
  pub stands : Stands model after names upto
  pub knows : Knows after x nodes
  pub runs : (rest : Sexp) → truth_of model symbols (before commands rest) ≡ truth_of model after rest

module _ (model : List ℕ → Option SmtValue) (names : List (List ℕ)) (layout : Layout) (numbers : List ℕ) (x : TermReading) (range : InRange x)
    (apart : Apart names) where
  has_input : (symbols : List ℕ → Option SmtValue) (upto : ℕ) (n : TermNode) → Stands model symbols names upto → IsInputOf model names layout numbers x n →
      HasInput symbols layout numbers x n
  has_input symbols upto (terms.RegisterNode p r) s i = named_value model symbols names upto _ _ s i
  has_input symbols upto (terms.FlagNode p f) s i = named_value model symbols names upto _ _ s i
  has_input symbols upto (terms.ChoiceNode j) s i = named_value model symbols names upto _ _ s i
  has_input symbols upto (terms.BaseNode p j) s i = i
  has_input symbols upto (terms.MemoryNode p) s i = named_value model symbols names upto _ _ s i
  has_input symbols upto (terms.ConstantNode w v) s i = tt
  has_input symbols upto (terms.BinaryNode o w a b) s i = tt
  has_input symbols upto (terms.NotNode w a) s i = tt
  has_input symbols upto (terms.SelectNode w c a b) s i = tt
  has_input symbols upto (terms.ExtractNode hi lo a) s i = tt
  has_input symbols upto (terms.ConcatNode high low a b) s i = tt
  has_input symbols upto (terms.ExtendNode signed n m a) s i = tt
  has_input symbols upto (terms.LoadNode n e m a) s i = tt
  has_input symbols upto (terms.StoreNode n e m a v) s i = tt
  has_input symbols upto (terms.JoinNode c a b) s i = tt
  has_input symbols upto (terms.TakeNode n m a p) s i = named_value model symbols names upto _ _ s i

  node_sorted : (symbols : List ℕ → Option SmtValue) (bs : List TermNode) (n : TermNode) (upto : ℕ) → length bs < 2 ^ 64 → AreTyped bs →
      terms.IsTypedOver bs n → Knows symbols x bs →
      Stands model symbols names upto → IsInputOf model names layout numbers x n →
      Sorted (width_of n) (node_value x (values_from x [] bs) n) (term_value symbols (node_term layout numbers n))
  node_sorted symbols bs n upto few typed here knows stands input =
      let whole = typed_push bs n typed here in
      let l = longer bs n in
      let w : HasWidth (bs ++ n ∷ []) (width_of n) (length bs) = (omega (arith, l), ap width_of (last bs n (terms.MemoryNode 0))) in
      let f = term_fits x (bs ++ n ∷ []) (width_of n) (length bs) range whole w in
      let k = few_bits (bs ++ n ∷ []) (length bs) whole w.0 in
      sorted (width_of n) (node_value x (values_from x [] bs) n) _ (omega (arith, k, w.1))
      (subst (λ (v : TermValue). v.word < 2 ^ width_of n) (value_last x bs n) f.word)
      (says symbols layout numbers x range bs typed few knows n here (has_input symbols upto n stands input))

  pub define_nodes : (bs ns : List TermNode) (at : ℕ) (symbols : List ℕ → Option SmtValue) → at ≡ length bs → length bs + length ns < 2 ^ 64 → AreTyped bs →
      AreTypedFrom bs ns →
      AreInputsOf model names layout numbers x ns → Stands model symbols names at → Knows symbols x bs →
      Reached model symbols names (at + length ns) x (bs ++ ns) (node_definitions layout numbers at ns)
  define_nodes bs [] at symbols e few typed from inputs stands knows = record {
    after = symbols;
    stands = subst (Stands model symbols names) (omega arith) stands;
    knows = subst (Knows symbols x) (sym (append-nil bs)) knows;
    runs = λ rest. refl;
  }
  define_nodes bs (n ∷ ns) at symbols e few typed from inputs stands knows =
      let l = longer bs n in
      let v = node_sorted symbols bs n at (omega (arith, few)) typed from.0 knows stands inputs.0 in
      let next = define_nodes (bs ++ n ∷ []) ns (suc at) (binds symbols (term_name at) v.value) (omega (arith, l, e)) (omega (arith, l, few))
      (typed_push bs n typed from.0) from.1 inputs.1
      (stands_on model symbols names at v.value apart (omega (arith, few, e)) stands)
      (knows_on symbols x bs n at v.value e (omega (arith, few, e)) knows v.has) in
      record {
        after = next.after;
        stands = subst (Stands model next.after names) (omega arith) next.stands;
        knows = subst (Knows next.after x) (append_assoc bs (n ∷ []) ns) next.knows;
        runs = λ rest.
            define_step model symbols at (sort_of (width_of n)) (node_term layout numbers n) (before (node_definitions layout numbers (suc at) ns) rest) v.value
            (stands.fresh at (omega arith) (omega (arith, few, e))) v.is v.sort
            ∙ next.runs rest;
      }
