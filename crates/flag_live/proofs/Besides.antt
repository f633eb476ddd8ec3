-- Graphs in which the flags are read besides that contracts read.
use Rattle.std.proofs.Common.{◌≡◌, ℕ, refl, sym, ◌∙◌, subst, arith, Bool, true, false, List, [], ◌∷◌, length, map, bit_or}
use Rattle.std.specs.Prelude.{◌||◌, ◌==◌}
use Rattle.std.proofs.lemmas.Bool.Decides.{nat_tests}
use Rattle.std.specs.List.{AllZip}
use Rattle.frame_spec.specs.Frames.{Contract, contract_at}
use Rattle.frame_spec.specs.FrameUnrolling.{contract_reads}
use Rattle.notes_value.specs.FrameViews.{contract_of}
use Rattle.notes_value.specs.declared.notes.Contract.{Contract as Listed}
use Rattle.graph_nodes.specs.Graphs.{IsFlagSet, IsSameNode}
use Rattle.graph_nodes.specs.Places.{AreRising}
use Rattle.graph_nodes.specs.declared.nodes.Node.{Node}
use Rattle.graph_nodes.specs.declared.nodes.Graph.{Graph}
use Rattle.flow_graph.proofs.FlagSets.{flags_as, flags_or}
use Rattle.flag_live.specs.Contracted.{IsAsked, IsAskedBy}
use Rattle.flag_live.specs.Lives.{AreAllLive, AreLiveBy}
use Rattle.flag_live.specs.declared.trimmed.Lives.{Lives}
use Rattle.flag_live.proofs.Zipped.{rising_too}

-- a copy of a node with what a contract step reads
pub asked_is : (contracts : List Contract) (old copy new : Node) (read : ℕ) → IsSameNode old copy →
    IsFlagSet read (λ f. contract_reads f (contract_at contracts copy.at)) → IsSameNode (record copy { asserted = new.asserted }) new →
    new.asserted ≡ bit_or copy.asserted read → IsAsked contracts old new
asked_is contracts old copy new read same reads again both = record {
  same = record {
    at = again.at ∙ same.at;
    length = again.length ∙ same.length;
    fetchable = again.fetchable ∙ same.fetchable;
    word = again.word ∙ same.word;
    successors = again.successors ∙ same.successors;
    returns = again.returns ∙ same.returns;
    links = again.links ∙ same.links;
    flags = again.flags ∙ same.flags;
    asserted = refl;
  };
  asserted = λ test own.
      subst (λ (s : ℕ). IsFlagSet s (λ f. test f || contract_reads f (contract_at contracts old.at))) (sym both)
      (flags_or copy.asserted read test (λ f. contract_reads f (contract_at contracts old.at))
      (subst (λ (s : ℕ). IsFlagSet s test) (sym same.asserted) own)
      (subst (λ (a : ℕ). IsFlagSet read (λ f. contract_reads f (contract_at contracts a))) same.at reads));
}

-- without contracts nothing is read besides
or_none : (b : Bool) → b ≡ (b || false)
or_none true = refl
or_none false = refl

none_node : (n : Node) → IsAsked [] n n
none_node n = record {
  same = record {
    at = refl;
    length = refl;
    fetchable = refl;
    word = refl;
    successors = refl;
    returns = refl;
    links = refl;
    flags = refl;
    asserted = refl;
  };
  asserted = λ test own. flags_as n.asserted _ _ (λ f. or_none (test f)) own;
}

none_nodes : (list : List Node) → AllZip (IsAsked []) list list
none_nodes [] = tt
none_nodes (n ∷ list) = (none_node n, none_nodes list)

none_asked : (g : Graph) → IsAskedBy [] g g
none_asked g = record { nodes = none_nodes g.nodes.items; ensured = λ test own. flags_as g.ensured _ _ (λ f. or_none (test f)) own }

none_if : (l : List Listed) (e : Bool) → e ≡ (length l == 0) → e ≡ true → l ≡ []
none_if [] e is t = refl
none_if (x ∷ l) e is t = absurd (let z : (length (x ∷ l) == 0) ≡ true = sym is ∙ t in grind (arith, z, nat_tests))

pub lives_of_none : (list : List Listed) (e : Bool) (g : Graph) (live : Lives) → e ≡ (length list == 0) → e ≡ true → AreAllLive g live →
    AreLiveBy (map contract_of list) g live
lives_of_none list e g live is t all =
    subst (λ (l : List Listed). AreLiveBy (map contract_of l) g live) (sym (none_if list e is t))
    (record { asked = g; is = none_asked g; are = all })

-- the nodes of a graph with what contracts read stand at the same addresses, rising
pub asked_rising : (contracts : List Contract) (old new : Graph) → IsAskedBy contracts old new → AreRising old.nodes.items → AreRising new.nodes.items
asked_rising contracts old new is = rising_too (IsAsked contracts) (λ o n s. s.same.at) old.nodes.items new.nodes.items is.nodes
