-- The text by the fields of nodes is that of the program whose graph they are.
use Rattle.std.proofs.Common.{◌≡◌, ℕ, zero, suc, ◌<◌, true, false, refl, ap, sym, ◌∙◌, subst, inl, inr, arith, List, [], ◌∷◌, ◌++◌, length, get_or, map, Bool, Option, Some, None, codes}
use Rattle.std.specs.Prelude.{◌==◌, ◌↔◌, is_some, if◌then◌else◌, Contains, All}
use Rattle.std.specs.List.{flat_map}
use Rattle.std.proofs.lemmas.Bool.{cases_eq}
use Rattle.std.proofs.lemmas.Bool.Decides.{nat_tests}
use Rattle.std.proofs.lemmas.List.{get_or-map, length-map}
use Rattle.std.proofs.lemmas.List.Elements.{All-nil, All-cons, All-head, All-tail}
use Rattle.machine_spec.specs.Machine.{Row}
use Rattle.bilv_spec.specs.Run.{Program, fetchable}
use Rattle.bilv_spec.specs.Points.{file_row, file_word}
use Rattle.bilv_spec.specs.Graph.{Successor, IsAddress, successors_at, may_return}
use Rattle.bilv_spec.specs.LiveFlags.{IsLive}
use Rattle.word_spec.specs.Texts.{word_text, spaced, line}
use Rattle.bilv_spec.specs.GraphText.{successor_words, kept_names, keeps_words, row_words, graph_line, IsGraphText}
use Rattle.graph_nodes.specs.declared.nodes.Node.{Node}
use Rattle.graph_nodes.specs.declared.nodes.Graph.{Graph}
use Rattle.graph_nodes.specs.Graphs.{successors_of, has_flag, addresses_of, node_word, IsNode, IsGraph, LiveStay}
use Rattle.graph_nodes.specs.Places.{AreRising}
use Rattle.graph_text.specs.NodeText.{words_by, node_line}

-- the words by the fields are those by the row
words_same : (p : Program) (n : Node) (o : Option Row) (w : Option ℕ) (x : ℕ) → w ≡ (if is_some o then Some x else None) →
    n.fetchable ≡ fetchable p (file_word p n.at) n.at
    → successors_of n ≡ successors_at p n.at → n.returns ≡ may_return p n.at → words_by n w ≡ row_words p n.at (has_flag n.keeps) o
words_same p n None None x e f s r = ap (λ b. (if b then codes "norow" else codes "fetch") ∷ []) f
words_same p n None (Some w) x e f s r = absurd (cc)
words_same p n (Some row) None x e f s r = absurd (cc)
words_same p n (Some row) (Some w) x e f s r =
    ap (λ (l : List Successor). flat_map successor_words l ++ (if n.returns then codes "x" ∷ [] else []) ++ keeps_words (kept_names (has_flag n.keeps))) s
    ∙ ap (λ b. flat_map successor_words (successors_at p n.at) ++ (if b then codes "x" ∷ [] else []) ++ keeps_words (kept_names (has_flag n.keeps))) r

-- the line of a node is that of its address
abbrev pub IsLineAt : (p : Program) → Node → Type 0
IsLineAt p n = node_line n ≡ graph_line p n.at (has_flag n.keeps)

pub line_same : (p : Program) (n : Node) → n.word ≡ node_word p n.at → n.fetchable ≡ fetchable p (file_word p n.at) n.at → successors_of n ≡ successors_at p n.at
    → n.returns ≡ may_return p n.at → IsLineAt p n
line_same p n word fetches successors returns =
    ap (λ ws. line (word_text n.at ++ spaced ws)) (words_same p n (file_row p n.at) n.word (file_word p n.at) word fetches successors returns)

pub nodes_lines : (p : Program) (ns : List Node) → All (λ n. IsNode p n) ns → All (λ n. IsLineAt p n) ns
nodes_lines p ns h k d w = (let is = h k d w in line_same p (get_or ns k d) is.word is.fetchable is.successors is.returns)

-- the lines of nodes
pub lines_same : (p : Program) (ns : List Node) → All (λ n. IsLineAt p n) ns → flat_map node_line ns ≡ flat_map (λ n. graph_line p n.at (has_flag n.keeps)) ns
lines_same p [] h = refl
lines_same p (n ∷ ns) h =
    ap (λ t. t ++ flat_map node_line ns) (All-head (λ n. IsLineAt p n) n ns h)
    ∙ ap (λ t. graph_line p n.at (has_flag n.keeps) ++ t) (lines_same p ns (All-tail (λ n. IsLineAt p n) n ns h))

-- the flags that the first node of an address keeps
abbrev kept_at : List Node → ℕ → ℕ
kept_at [] a = 0
kept_at (n ∷ ns) a = if n.at == a then n.keeps else kept_at ns a

-- it is this node, or it stands behind it
here : (n : Node) (ns : List Node) (a : ℕ) → n.at ≡ a → kept_at (n ∷ ns) a ≡ n.keeps
here n ns a e = let t : (n.at == a) ≡ true = grind (arith, nat_tests) in ap (λ b. if b then n.keeps else kept_at ns a) t

behind : (n : Node) (ns : List Node) (a : ℕ) → (n.at ≡ a → ⊥) → kept_at (n ∷ ns) a ≡ kept_at ns a
behind n ns a e = let t : (n.at == a) ≡ false = grind (arith, nat_tests) in ap (λ b. if b then n.keeps else kept_at ns a) t

-- where addresses rise, it is each node of the list
kept_here : (ns : List Node) → ((i j : ℕ) → i < j → j < length ns → get_or (map (λ n. n.at) ns) i 0 < get_or (map (λ n. n.at) ns) j 0)
    → All (λ n. kept_at ns n.at ≡ n.keeps) ns
kept_here [] rising = All-nil (λ n. kept_at [] n.at ≡ n.keeps)
kept_here (n ∷ ns) rising =
    All-cons (λ m. kept_at (n ∷ ns) m.at ≡ m.keeps) n ns (here n ns n.at refl)
    (λ k d w.
    let m : Node = get_or ns k d in
    let less : n.at < get_or (map (λ n. n.at) ns) k 0 = rising 0 (suc k) (omega arith) (omega arith) in
    let at : get_or (map (λ n. n.at) ns) k 0 ≡ m.at = get_or-map (λ n. n.at) ns k d 0 w in
    behind n ns m.at (λ e. absurd (omega arith)) ∙ kept_here ns (λ i j l h. rising (suc i) (suc j) (omega arith) (omega arith)) k d w)

-- what holds of the flags of each node holds of the kept flags of an address
kept_holds : (P : ℕ → ℕ → Type 0) (ns : List Node) → All (λ n. P n.keeps n.at) ns → (a : ℕ) → Contains (map (λ n. n.at) ns) a → P (kept_at ns a) a
kept_holds P [] h a (k, w, e) = absurd (omega arith)
kept_holds P (n ∷ ns) h a (k, w, e) = elim (cases_eq n.at a) as (λ _. P (kept_at (n ∷ ns) a) a) [
  | inl same ↦
      subst (λ s. P s a) (sym (here n ns a same)) (subst (λ b. P n.keeps b) same (All-head (λ n. P n.keeps n.at) n ns h))
  | inr other ↦
      subst (λ s. P s a) (sym (behind n ns a other)) (kept_holds P ns (All-tail (λ n. P n.keeps n.at) n ns h) a (in_rest k w e other))
]
  where
    in_rest : (j : ℕ) → j < suc (length (map (λ n. n.at) ns)) → get_or (n.at ∷ map (λ n. n.at) ns) j a ≡ a → (n.at ≡ a → ⊥) → Contains (map (λ n. n.at) ns) a
    in_rest zero v f other = absurd (other f)
    in_rest (suc j) v f other = (j, omega arith, f)

-- the lines of nodes are those of their addresses
by_addresses : (p : Program) (kept : ℕ → ℕ) (ns : List Node) → All (λ n. kept n.at ≡ n.keeps) ns
    → flat_map (λ n. graph_line p n.at (has_flag n.keeps)) ns ≡ flat_map (λ a. graph_line p a (has_flag (kept a))) (map (λ n. n.at) ns)
by_addresses p kept [] h = refl
by_addresses p kept (n ∷ ns) h =
    ap (λ s. graph_line p n.at (has_flag s) ++ flat_map (λ m. graph_line p m.at (has_flag m.keeps)) ns) (sym (All-head (λ n. kept n.at ≡ n.keeps) n ns h))
    ∙ ap (λ t. graph_line p n.at (has_flag (kept n.at)) ++ t) (by_addresses p kept ns (All-tail (λ n. kept n.at ≡ n.keeps) n ns h))

-- the text of a graph whose addresses are these, and the flags whose assignment there is live
pub record IsTextBy (p : Program) (At : ℕ → Type 0) (Live : (f a : ℕ) → Type 0) (text : List ℕ) : Type 0 where
  pub addresses : List ℕ
  pub keeps : ℕ → ℕ → Bool
  pub all : (a : ℕ) → Contains addresses a ↔ At a
  pub rising : (i j : ℕ) → i < j → j < length addresses → get_or addresses i 0 < get_or addresses j 0
  pub live : (a f : ℕ) → At a → f < 4 → (keeps a f ≡ true) ↔ Live f a
  pub text_is : text ≡ flat_map (λ a. graph_line p a (keeps a)) addresses

-- the lines of the nodes are the text of the graph
pub text_by : (p : Program) (At : ℕ → Type 0) (Live : (f a : ℕ) → Type 0) (g : Graph) (text : List ℕ) → ((a : ℕ) → Contains (addresses_of g) a ↔ At a)
    → AreRising g.nodes.items → All (λ n. (f : ℕ) → f < 4 → (has_flag n.keeps f ≡ true) ↔ Live f n.at) g.nodes.items
    → text ≡ flat_map (λ n. graph_line p n.at (has_flag n.keeps)) g.nodes.items → IsTextBy p At Live text
text_by p At Live g text all rising live is =
    let count : length (addresses_of g) ≡ length g.nodes.items = length-map g.nodes.items (λ n. n.at) in
    record {
      addresses = addresses_of g;
      keeps = λ a. has_flag (kept_at g.nodes.items a);
      all = all;
      rising = λ i j l w. rising i j l (omega arith);
      live = λ a f is small.
          kept_holds (λ s b. (has_flag s f ≡ true) ↔ Live f b) g.nodes.items (λ k d w. live k d w f small) a ((all a).1 is);
      text_is = is ∙ by_addresses p (kept_at g.nodes.items) g.nodes.items (kept_here g.nodes.items rising);
    }

-- so that of a program
pub text_is : (p : Program) (g : Graph) (text : List ℕ) → IsGraph p g → LiveStay p g → text ≡ flat_map (λ n. graph_line p n.at (has_flag n.keeps)) g.nodes.items
    → IsGraphText p text
text_is p g text h live is =
    let by = text_by p (IsAddress p) (IsLive p) g text h.all h.rising (λ k d w. (live k d w).exact) is in
    record { addresses = by.addresses; keeps = by.keeps; all = by.all; rising = by.rising; live = by.live; text_is = by.text_is }
