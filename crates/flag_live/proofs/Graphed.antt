-- A graph stays a program's graph whatever assignments of flags stay, and with flags that are asked for at the exit.
use Rattle.std.proofs.Common.{◌≡◌, ◌<◌, ℕ, List, [], ◌∷◌, length, get_or, map, refl, ap, sym, ◌∙◌, subst, arith}
use Rattle.std.specs.Prelude.{All, Contains, ◌||◌}
use Rattle.std.specs.List.{AllZip}
use Rattle.std.proofs.lemmas.List.Elements.{All-cons, All-head, All-tail, length_all_zip}
use Rattle.bilv_spec.specs.Run.{Program, fetchable}
use Rattle.bilv_spec.specs.Points.{file_row, file_word}
use Rattle.bilv_spec.specs.Graph.{successors_at, may_return, IsAddress, entry, listed}
use Rattle.bilv_spec.specs.LiveFlags.{asserts_flag, ensures_flag}
use Rattle.machine_law.specs.declared.facts.FlagUse.{FlagUse}
use Rattle.graph_nodes.specs.declared.nodes.Node.{Node}
use Rattle.graph_nodes.specs.declared.nodes.Graph.{Graph}
use Rattle.graph_nodes.specs.Graphs.{addresses_of, node_word, row_length, row_links, IsFlagSet, IsFlagUseAt, IsNode, IsGraph, IsSameNode, IsSameGraph, has_flag}
use Rattle.flag_live.specs.Asked.{ensuring, unasked}

-- a node stays the node of its address
pub same_node : (p : Program) (old new : Node) → IsSameNode old new → IsNode p old → IsNode p new
same_node p old new same is = record {
  length = same.length ∙ is.length ∙ ap (λ a. row_length (file_row p a)) (sym same.at);
  fetchable = same.fetchable ∙ is.fetchable ∙ ap (λ a. fetchable p (file_word p a) a) (sym same.at);
  word = same.word ∙ is.word ∙ ap (node_word p) (sym same.at);
  successors = same.successors ∙ is.successors ∙ ap (successors_at p) (sym same.at);
  returns = same.returns ∙ is.returns ∙ ap (may_return p) (sym same.at);
  links = same.links ∙ is.links ∙ ap (λ a. row_links (file_row p a)) (sym same.at);
  flags = subst (λ a. IsFlagUseAt p a new.flags) (sym same.at) (subst (λ (u : FlagUse). IsFlagUseAt p old.at u) (sym same.flags) is.flags);
  asserted = subst (λ a. IsFlagSet new.asserted (λ f. asserts_flag p f a)) (sym same.at) (subst
      (λ s. IsFlagSet s (λ f. asserts_flag p f old.at)) (sym same.asserted) is.asserted);
}

same_nodes : (p : Program) (olds news : List Node) → AllZip IsSameNode olds news → All (λ n. IsNode p n) olds → All (λ n. IsNode p n) news
same_nodes p [] [] zip is = is
same_nodes p [] (n ∷ news) zip is = absurd zip
same_nodes p (o ∷ olds) [] zip is = absurd zip
same_nodes p (o ∷ olds) (n ∷ news) zip is =
    All-cons (λ n. IsNode p n) n news (same_node p o n zip.0 (All-head (λ n. IsNode p n) o olds is)) (same_nodes p olds news zip.1 (All-tail
    (λ n. IsNode p n) o olds is))

-- the addresses are the same
same_addresses : (olds news : List Node) → AllZip IsSameNode olds news → map (λ n. n.at) news ≡ map (λ n. n.at) olds
same_addresses [] [] zip = refl
same_addresses [] (n ∷ news) zip = absurd zip
same_addresses (o ∷ olds) [] zip = absurd zip
same_addresses (o ∷ olds) (n ∷ news) zip = ap (λ a. a ∷ map (λ n. n.at) news) zip.0.at ∙ ap (λ l. o.at ∷ l) (same_addresses olds news zip.1)

-- the graph stays the program's
pub same_graph : (p : Program) (old new : Graph) → IsSameGraph old new → IsGraph p old → IsGraph p new
same_graph p old new same is =
    let at : addresses_of new ≡ addresses_of old = same_addresses old.nodes.items new.nodes.items same.nodes in
    let count : length old.nodes.items ≡ length new.nodes.items = length_all_zip IsSameNode old.nodes.items new.nodes.items same.nodes in
    record {
      narrow = same.narrow ∙ is.narrow;
      all = λ a. subst (λ l. (Contains l a → IsAddress p a) × (IsAddress p a → Contains l a)) (sym at) (is.all a);
      rising = λ i j l w. subst (λ xs. get_or xs i 0 < get_or xs j 0) (sym at) (is.rising i j l (omega arith));
      nodes = same_nodes p old.nodes.items new.nodes.items same.nodes is.nodes;
      ensured = subst (λ s. IsFlagSet s (λ f. ensures_flag p f)) (sym same.ensured) is.ensured;
    }

-- what is asked for at the exit changes no address
asked_address : (p : Program) (a : ℕ) → IsAddress (unasked p) a → IsAddress p a
asked_address p _ entry = entry
asked_address p _ (listed at has) = listed (asked_address p _ at) has

unasked_address : (p : Program) (a : ℕ) → IsAddress p a → IsAddress (unasked p) a
unasked_address p _ entry = entry
unasked_address p _ (listed at has) = listed (unasked_address p _ at) has

-- nor what a node says
asked_node : (p : Program) (n : Node) → IsNode (unasked p) n → IsNode p n
asked_node p n is = record {
  length = is.length;
  fetchable = is.fetchable;
  word = is.word;
  successors = is.successors;
  returns = is.returns;
  links = is.links;
  flags = record { reads = is.flags.reads; assigns = is.flags.assigns; surely = is.flags.surely };
  asserted = is.asserted;
}

-- the flags at the exit: those that are asked for, and those of the notes
asked_flags : (p : Program) (out old new : ℕ) → IsFlagSet out p.out → IsFlagSet old (λ f. ensures_flag (unasked p) f) →
    IsFlagSet new (λ f. has_flag out f || has_flag old f) → IsFlagSet new (λ f. ensures_flag p f)
asked_flags p out old new asked noted joined = record {
  small = joined.small;
  exact = λ f few.
      joined.exact f few ∙ ap (λ b. b || has_flag old f) (asked.exact f few) ∙ ap (λ b. p.out f || b) (noted.exact f few);
}

-- the graph of the program that asks for more
pub asked_graph : (p : Program) (g : Graph) (out new : ℕ) → IsFlagSet out p.out → IsFlagSet new (λ f. has_flag out f || has_flag g.ensured f) →
    IsGraph (unasked p) g → IsGraph p (ensuring g new)
asked_graph p g out new asked joined is = record {
  narrow = is.narrow;
  all = λ a. ((λ has. asked_address p a ((is.all a).0 has)), (λ at. (is.all a).1 (unasked_address p a at)));
  rising = is.rising;
  nodes = λ i d w. asked_node p _ (is.nodes i d w);
  ensured = asked_flags p out g.ensured new asked is.ensured joined;
}
