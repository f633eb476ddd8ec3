-- Nodes, and the successors of their addresses.
use Rattle.std.proofs.Common.{◌≡◌, ◌≢◌, ℕ, zero, suc, List, [], ◌∷◌, map, refl, sym, ap, ◌∙◌, subst, arith}
use Rattle.std.specs.Prelude.{Contains}
use Rattle.std.proofs.lemmas.List.{get_or-map, length-map}
use Rattle.bilv_spec.specs.Graph as graph
use Rattle.bilv_spec.specs.Graph.{successor, ReturnLetter}
use Rattle.graph_nodes.specs.Graphs.{letter_of, successor_of, successors_of, addresses_of}
use Rattle.graph_nodes.specs.declared.nodes.Letter.{Letter}
use Rattle.graph_nodes.specs.declared.nodes.Letter.TheVariants.{Next, Jump, Call, Return}
use Rattle.graph_nodes.specs.declared.nodes.Successor.{Successor}
use Rattle.graph_nodes.specs.declared.nodes.Node.{Node}
use Rattle.graph_nodes.specs.declared.nodes.Graph.{Graph}
use Rattle.flag_live.specs.GraphReads.{StandsAt, IsBehindCall}

-- items of a mapped list
has_map : {X Y : Type 0} (f : X → Y) (xs : List X) (x : X) → Contains xs x → Contains (map f xs) (f x)
has_map f xs x (k, w, e) = (let count = length-map xs f in (k, omega (arith, count), get_or-map f xs k x (f x) w ∙ ap f e))

map_has : {X Y : Type 0} (f : X → Y) (xs : List X) (y : Y) → Contains (map f xs) y → (x : X) × Contains xs x × (f x ≡ y)
map_has f [] y (k, w, e) = absurd (omega arith)
map_has f (x ∷ xs) y (zero, w, e) = (x, (0, omega arith, refl), e)
map_has f (x ∷ xs) y (suc k, w, e) =
    let found = map_has f xs y (k, omega arith, e) in
    let inside = found.1.1 in
    (found.0, (suc found.1.0, omega arith, found.1.2), found.2)

-- the addresses of a graph are those at which nodes stand
pub stands_address : (g : Graph) (a : ℕ) (n : Node) → StandsAt g a n → Contains (addresses_of g) a
stands_address g a n stands =
    subst (λ (x : ℕ). Contains (addresses_of g) x) stands.at (has_map (λ (m : Node). m.at) g.nodes.items n stands.among)

pub address_stands : (g : Graph) (a : ℕ) → Contains (addresses_of g) a → (n : Node) × StandsAt g a n
address_stands g a has =
    let found = map_has (λ (m : Node). m.at) g.nodes.items a has in
    (found.0, record { among = found.1; at = found.2 })

-- letters that are returns
return_letter : (l : Letter) → letter_of l ≡ ReturnLetter → l ≡ Return
return_letter Next e = cc
return_letter Jump e = cc
return_letter Call e = cc
return_letter Return e = refl

-- successors of a node, and of its address
pub goes_along : (n : Node) (xs : List graph.Successor) (s : Successor) → successors_of n ≡ xs → Contains n.successors.items s → s.letter ≢ Return
    → Contains xs (successor_of s) × ((successor_of s).letter ≢ ReturnLetter)
goes_along n xs s is has goes =
    (subst (λ (x : List graph.Successor). Contains x (successor_of s)) is (has_map successor_of n.successors.items s has), λ e. goes (return_letter s.letter e))

pub along_goes : (n : Node) (xs : List graph.Successor) (x : graph.Successor) → successors_of n ≡ xs → Contains xs x → x.letter ≢ ReturnLetter
    → (s : Successor) × Contains n.successors.items s × (s.letter ≢ Return) × (s.to ≡ x.to)
along_goes n xs x is has goes =
    let found = map_has successor_of n.successors.items x (subst (λ (y : List graph.Successor). Contains y x) (sym is) has) in
    (found.0, found.1, (λ e. goes (sym (ap (λ (y : graph.Successor). y.letter) found.2) ∙ ap letter_of e)), ap (λ (y : graph.Successor). y.to) found.2)

return_is : (s : Successor) (b : ℕ) → s.letter ≡ Return → s.to ≡ b → successor_of s ≡ successor ReturnLetter b
return_is s b e to = ap (λ (l : Letter). successor (letter_of l) s.to) e ∙ ap (successor ReturnLetter) to

-- an address after a call, of a node and of its address
pub call_has : (g : Graph) (b : ℕ) (call : IsBehindCall g b) (xs : List graph.Successor) → successors_of call.call ≡ xs → Contains xs (successor ReturnLetter b)
call_has g b call xs is =
    subst (λ (x : graph.Successor). Contains xs x) (return_is call.successor b call.returns call.to)
    (subst (λ (x : List graph.Successor). Contains x (successor_of call.successor)) is (has_map successor_of call.call.successors.items call.successor call.has))

pub has_call : (g : Graph) (c b : ℕ) (n : Node) (xs : List graph.Successor) → StandsAt g c n → successors_of n ≡ xs → Contains xs (successor ReturnLetter b) →
    IsBehindCall g b
has_call g c b n xs stands is has =
    let found = map_has successor_of n.successors.items (successor ReturnLetter b)
    (subst (λ (y : List graph.Successor). Contains y (successor ReturnLetter b)) (sym is) has) in
    record {
      call = n;
      successor = found.0;
      among = stands.among;
      has = found.1;
      returns = return_letter found.0.letter (ap (λ (y : graph.Successor). y.letter) found.2);
      to = ap (λ (y : graph.Successor). y.to) found.2;
    }
