-- What is read on a graph.
use Rattle.std.proofs.Common.{◌≡◌, ℕ, ◌<◌, List, Bool, true, false, length, get_or, refl, sym, ◌∙◌, subst, arith, inl, inr}
use Rattle.std.specs.Prelude.{◌↔◌, ◌+◌, Contains}
use Rattle.std.proofs.lemmas.List.{get_or_default}
use Rattle.graph_nodes.specs.Graphs.{has_flag}
use Rattle.graph_nodes.specs.Places.{AreRising, IsPlace}
use Rattle.graph_nodes.specs.declared.nodes.Letter.TheVariants.{Return}
use Rattle.graph_nodes.specs.declared.nodes.Successor.{Successor}
use Rattle.graph_nodes.specs.declared.nodes.Node.{Node}
use Rattle.graph_nodes.specs.declared.nodes.Graph.{Graph}
use Rattle.flag_live.specs.GraphReads.{StandsAt, IsBehindCall, LeadsToIn, along, back, IsReadIn, by_assert, by_row, later, IsReadAfterIn, on_path, at_exit, IsLiveIn}
use Rattle.flag_live.specs.Reachable as reachable
use Rattle.flag_live.specs.Reachable.{Reaches, IsMarked}
use Rattle.flag_live.specs.Vertices as vertices
use Rattle.flag_live.specs.Vertices.{IsNodeAt, IsEdgeBy, IsEdgeOf, by_successor, by_exit, IsEdge, of, IsStartAt, IsStart, at_node}
use Rattle.flag_live.specs.Meanings.{IsReadBack, ensured, behind, AreReads, LeadsOn, IsLiveNode, IsOn, on_successor, on_exit}
use Rattle.flag_live.proofs.Located.{node_is, node_place, place_node, node_stands, stands_place, place_stands, one_node}

-- the places of what is read, and the number of the nodes where it is read after a return
record IsMeant (g : Graph) (f v : ℕ) : Type 0 where
  at_nodes : (n : Node) → IsNodeAt g.nodes.items v n → IsReadIn g f n.at
  back : v ≡ length g.nodes.items → IsReadBack g f

meant_start : (g : Graph) (f v : ℕ) → IsStart g f v → IsMeant g f v
meant_start g f v (at_node starts) =
    let low = starts.below in
    record {
      at_nodes = λ n at. elim (starts.reads n at) as (λ _. IsReadIn g f n.at) [
        | inl h ↦ by_assert n (node_stands g v n at) h
        | inr h ↦ by_row n (node_stands g v n at) h
      ];
      back = λ e. absurd (omega arith);
    }
meant_start g f v (vertices.at_exit e has) = record { at_nodes = λ n at. let w = at.within in absurd (omega arith); back = λ e. ensured has }

-- where a place is meant, its address is read
place_read : (g : Graph) (f a u : ℕ) → IsMeant g f u → IsPlace g.nodes.items a u → IsReadIn g f a
place_read g f a u meant place = let n = place_node g.nodes.items a u place in subst (λ (x : ℕ). IsReadIn g f x) n.2 (meant.at_nodes n.0 n.1)

-- the flag is read after a return from where it is read back
back_after : (g : Graph) (f a : ℕ) (n : Node) → StandsAt g a n → n.returns ≡ true → IsReadBack g f → IsReadAfterIn g f a
back_after g f a n stands returns (ensured e) = at_exit n stands returns e
back_after g f a n stands returns (behind b call read) = on_path (back n stands returns call) read

-- a node that does not surely assign the flag, and after which it is read, is meant
meant_later : (g : Graph) (f v w : ℕ) (n : Node) → IsNodeAt g.nodes.items w n → v ≡ w → has_flag n.flags.surely f ≡ false → IsReadAfterIn g f n.at → IsMeant g f v
meant_later g f v w n at e free after =
    let low = at.within in
    record {
      at_nodes = λ m other.
          subst (λ (x : Node). IsReadIn g f x.at) (node_is g.nodes.items w n m at (subst (λ (i : ℕ). IsNodeAt g.nodes.items i m) e other))
          (later n (node_stands g w n at) free after);
      back = λ same. absurd (omega arith);
    }

-- an edge by a successor, and by an exit, is meant
meant_by : (g : Graph) (f u v w : ℕ) (n : Node) (s : Successor) → IsNodeAt g.nodes.items w n → Contains n.successors.items s
    → IsEdgeBy g.nodes.items w (has_flag n.flags.surely f) s (u, v) → IsMeant g f u → IsMeant g f v
meant_by g f u v w n s at has (vertices.back goes free place e) meant =
    meant_later g f v w n at e free (on_path (along n s (node_stands g w n at) has goes refl) (place_read g f s.to u meant place))
meant_by g f u v w n s at has (vertices.behind returns place e) meant = record {
  at_nodes = λ m other. let low = other.within in absurd (omega arith);
  back = λ same.
      behind s.to (record { call = n; successor = s; among = (w, at.within, at.is); has = has; returns = returns; to = refl })
      (place_read g f s.to u meant place);
}

meant_of : (g : Graph) (f u v w : ℕ) (n : Node) → IsNodeAt g.nodes.items w n → IsEdgeOf g.nodes.items f w n (u, v) → IsMeant g f u → IsMeant g f v
meant_of g f u v w n at (by_successor (vertices.at j less each)) meant =
    let d : Successor = record { letter = Return; to = 0 } in
    let s = get_or n.successors.items j d in
    meant_by g f u v w n s at (j, less, get_or_default n.successors.items j s d less) (each d) meant
meant_of g f u v w n at (by_exit free returns from to) meant =
    meant_later g f v w n at to free (back_after g f n.at n (node_stands g w n at) returns (meant.back from))

meant_edge : (g : Graph) (f u v : ℕ) → IsEdge g.nodes.items f (length g.nodes.items) (u, v) → IsMeant g f u → IsMeant g f v
meant_edge g f u v (of w n low at edge) meant = meant_of g f u v w n at edge meant

-- what is reached is read
reached_meant : (g : Graph) (f count : ℕ) (edges : List (ℕ × ℕ)) (starts : List ℕ)
    → ((e : ℕ × ℕ) → Contains edges e → IsEdge g.nodes.items f (length g.nodes.items) e) → ((v : ℕ) → Contains starts v → IsStart g f v)
    → (v : ℕ) → Reaches count edges starts v → IsMeant g f v
reached_meant g f count edges starts edge begun v (reachable.start less has) = meant_start g f v (begun v has)
reached_meant g f count edges starts edge begun v (reachable.along {u = u} there less has) =
    meant_edge g f u v (edge (u, v) has) (reached_meant g f count edges starts edge begun u there)

-- marks that have the starts, and with one end of an edge the other
record IsClosed (g : Graph) (f : ℕ) (marked : List Bool) : Type 0 where
  starts : (v : ℕ) → IsStart g f v → IsMarked marked v
  edges : (u v : ℕ) → IsEdge g.nodes.items f (length g.nodes.items) (u, v) → IsMarked marked u → IsMarked marked v

-- a node after which the flag is read, and which does not surely assign it, is marked
on_marked : (g : Graph) (f i : ℕ) (n : Node) (marked : List Bool) → IsClosed g f marked → IsNodeAt g.nodes.items i n → has_flag n.flags.surely f ≡ false
    → IsOn g.nodes.items marked n → IsMarked marked i
on_marked g f i n marked closed at free (on_successor among) =
    let d : Successor = record { letter = Return; to = 0 } in
    let leads = among.leads d in
    closed.edges leads.place i
    (of i n at.within at (by_successor (vertices.at among.index among.below
    (λ x. subst (λ (s : Successor). IsEdgeBy g.nodes.items i (has_flag n.flags.surely f) s (leads.place, i))
    (get_or_default n.successors.items among.index d x among.below)
    (vertices.back leads.goes free leads.is refl)))))
    leads.marks
on_marked g f i n marked closed at free (on_exit returns marks) = closed.edges (length g.nodes.items) i
    (of i n at.within at (by_exit free returns refl refl)) marks

-- what is read has a place
read_place : (g : Graph) (f a : ℕ) → IsReadIn g f a → (i : ℕ) × IsPlace g.nodes.items a i
read_place g f a (by_assert n stands asserts) = stands_place g a n stands
read_place g f a (by_row n stands reads) = stands_place g a n stands
read_place g f a (later n stands free after) = stands_place g a n stands

-- an address behind a call, whose place is marked, marks a read after a return
behind_marked : (g : Graph) (f : ℕ) (marked : List Bool) → IsClosed g f marked → (b k : ℕ) → IsBehindCall g b → IsPlace g.nodes.items b k → IsMarked marked k →
    IsMarked marked (length g.nodes.items)
behind_marked g f marked closed b k call place marks =
    let s = call.successor in
    let xs = call.call.successors.items in
    let i = call.among.0 in
    let at : IsNodeAt g.nodes.items i call.call = record { within = call.among.1; is = call.among.2 } in
    let by : IsEdgeBy g.nodes.items i (has_flag call.call.flags.surely f) s (k, length g.nodes.items) =
    vertices.behind call.returns (subst (λ (a : ℕ). IsPlace g.nodes.items a k) (sym call.to) place) refl in
    closed.edges k (length g.nodes.items) (of i call.call at.within at (by_successor (vertices.at call.has.0 call.has.1 (λ d.
    subst (λ (x : Successor). IsEdgeBy g.nodes.items i (has_flag call.call.flags.surely f) x (k, length g.nodes.items))
    (sym call.has.2 ∙ get_or_default xs call.has.0 s d call.has.1) by)))) marks

-- a path to an address whose place is marked
path_on : (g : Graph) (marked : List Bool) → AreRising g.nodes.items → (a b k : ℕ) (n : Node) → StandsAt g a n → IsPlace g.nodes.items b k → IsMarked marked k
    → (IsBehindCall g b → IsMarked marked (length g.nodes.items)) → LeadsToIn g a b → IsOn g.nodes.items marked n
path_on g marked rising a b k n stands place marks backed (along m s other has goes e) =
    subst (λ (x : Node). IsOn g.nodes.items marked x) (one_node g rising a m n other stands) (on_successor (record {
      index = has.0;
      below = has.1;
      leads = λ d.
          subst (λ (x : Successor). LeadsOn g.nodes.items marked x) (sym has.2 ∙ get_or_default m.successors.items has.0 s d has.1)
          (record { place = k; goes = goes; is = subst (λ (x : ℕ). IsPlace g.nodes.items x k) (sym e) place; marks = marks });
    }))
path_on g marked rising a b k n stands place marks backed (back m other returns call) =
    subst (λ (x : Node). IsOn g.nodes.items marked x) (one_node g rising a m n other stands) (on_exit returns (backed call))

start_marked : (g : Graph) (f : ℕ) (marked : List Bool) → AreRising g.nodes.items → IsClosed g f marked → (a i : ℕ) (n : Node) → StandsAt g a n
    → IsPlace g.nodes.items a i → IsStartAt f n → IsMarked marked i
start_marked g f marked rising closed a i n stands place starts = closed.starts i (at_node (record {
  below = place.within;
  reads = λ m at. subst (λ (x : Node). IsStartAt f x) (node_is g.nodes.items i n m (place_stands g rising a i n place stands) at) starts;
}))

mutual
  -- what is read is marked
  read_marked : (g : Graph) (f : ℕ) (marked : List Bool) → AreRising g.nodes.items → IsClosed g f marked → (a : ℕ) → IsReadIn g f a
      → (i : ℕ) → IsPlace g.nodes.items a i → IsMarked marked i
  read_marked g f marked rising closed a (by_assert n stands asserts) i place = start_marked g f marked rising closed a i n stands place (inl asserts)
  read_marked g f marked rising closed a (by_row n stands reads) i place = start_marked g f marked rising closed a i n stands place (inr reads)
  read_marked g f marked rising closed a (later n stands free after) i place =
      on_marked g f i n marked closed (place_stands g rising a i n place stands) free (after_on g f marked rising closed a after n stands)

  -- after what is read after, marks lead on
  after_on : (g : Graph) (f : ℕ) (marked : List Bool) → AreRising g.nodes.items → IsClosed g f marked → (a : ℕ) → IsReadAfterIn g f a
      → (n : Node) → StandsAt g a n → IsOn g.nodes.items marked n
  after_on g f marked rising closed a (on_path {b = b} leads read) n stands =
      let place = read_place g f b read in
      let marks = read_marked g f marked rising closed b read place.0 place.1 in
      path_on g marked rising a b place.0 n stands place.1 marks (λ call. behind_marked g f marked closed b place.0 call place.1 marks) leads
  after_on g f marked rising closed a (at_exit m other returns has) n stands =
      subst (λ (x : Node). IsOn g.nodes.items marked x) (one_node g rising a m n other stands) (on_exit returns
      (closed.starts (length g.nodes.items) (vertices.at_exit refl has)))

by_below : (nodes : List Node) (w v : ℕ) (assigned : Bool) (s : Successor) (u : ℕ) → w < length nodes → IsEdgeBy nodes w assigned s (u, v) →
    v < length nodes + 1
by_below nodes w v assigned s u low (vertices.back goes free place e) = omega arith
by_below nodes w v assigned s u low (vertices.behind returns place e) = omega arith

edge_below : (nodes : List Node) (f u v : ℕ) → IsEdge nodes f (length nodes) (u, v) → v < length nodes + 1
edge_below nodes f u v (of w n low at (by_successor (vertices.at j less each))) = by_below nodes w v (has_flag n.flags.surely f) _ u low
    (each (record { letter = Return; to = 0 }))
edge_below nodes f u v (of w n low at (by_exit free returns from to)) = omega arith

start_below : (g : Graph) (f v : ℕ) → IsStart g f v → v < length g.nodes.items + 1
start_below g f v (at_node is) = (let low = is.below in omega arith)
start_below g f v (vertices.at_exit e has) = omega arith

back_marked : (g : Graph) (f : ℕ) (marked : List Bool) → AreRising g.nodes.items → IsClosed g f marked → IsReadBack g f → IsMarked marked (length g.nodes.items)
back_marked g f marked rising closed (ensured has) = closed.starts (length g.nodes.items) (vertices.at_exit refl has)
back_marked g f marked rising closed (behind b call read) =
    let place = read_place g f b read in
    behind_marked g f marked closed b place.0 call place.1 (read_marked g f marked rising closed b read place.0 place.1)

-- the marks of what is reached over the edges of a graph
pub reads_are : (g : Graph) (f : ℕ) (edges : List (ℕ × ℕ)) (starts : List ℕ) (marked : List Bool) → AreRising g.nodes.items
    → ((e : ℕ × ℕ) → Contains edges e → IsEdge g.nodes.items f (length g.nodes.items) e) →
    ((e : ℕ × ℕ) → IsEdge g.nodes.items f (length g.nodes.items) e → Contains edges e)
    → ((v : ℕ) → Contains starts v ↔ IsStart g f v) → ((v : ℕ) → IsMarked marked v ↔ Reaches (length g.nodes.items + 1) edges starts v) → AreReads g f marked
reads_are g f edges starts marked rising found all begun reaches =
    let meant = reached_meant g f (length g.nodes.items + 1) edges starts found (λ v has. (begun v).0 has) in
    let closed : IsClosed g f marked = record {
      starts = λ v start. (reaches v).1 (reachable.start (start_below g f v start) ((begun v).1 start));
      edges = λ u v edge marks. (reaches v).1 (reachable.along ((reaches u).0 marks) (edge_below g.nodes.items f u v edge) (all (u, v) edge));
    } in
    record {
      at_nodes = λ i n at. (
        λ marks. (meant i ((reaches i).0 marks)).at_nodes n at,
        λ read. read_marked g f marked rising closed n.at read i (node_place g.nodes.items i n at),
      );
      back = (λ marks. (meant (length g.nodes.items) ((reaches (length g.nodes.items)).0 marks)).back refl, back_marked g f marked rising closed);
    }

-- marks lead on after a node exactly where the flag is read after it
on_after : (g : Graph) (f i : ℕ) (n : Node) (marked : List Bool) → AreReads g f marked → IsNodeAt g.nodes.items i n → IsOn g.nodes.items marked n →
    IsReadAfterIn g f n.at
on_after g f i n marked reads at (on_successor among) =
    let d : Successor = record { letter = Return; to = 0 } in
    let s = get_or n.successors.items among.index d in
    let leads = among.leads d in
    let there = place_node g.nodes.items s.to leads.place leads.is in
    on_path (along n s (node_stands g i n at) (among.index, among.below, get_or_default n.successors.items among.index s d among.below) leads.goes refl)
    (subst (λ (a : ℕ). IsReadIn g f a) there.2 ((reads.at_nodes leads.place there.0 there.1).0 leads.marks))
on_after g f i n marked reads at (on_exit returns marks) = back_after g f n.at n (node_stands g i n at) returns (reads.back.0 marks)

place_marked : (g : Graph) (f b : ℕ) (marked : List Bool) → AreReads g f marked → IsReadIn g f b → (j : ℕ) → IsPlace g.nodes.items b j → IsMarked marked j
place_marked g f b marked reads read j place =
    let there = place_node g.nodes.items b j place in
    (reads.at_nodes j there.0 there.1).1 (subst (λ (a : ℕ). IsReadIn g f a) (sym there.2) read)

after_is_on : (g : Graph) (f : ℕ) (marked : List Bool) → AreRising g.nodes.items → AreReads g f marked → (a : ℕ) (n : Node) → StandsAt g a n
    → IsReadAfterIn g f a → IsOn g.nodes.items marked n
after_is_on g f marked rising reads a n stands (on_path {b = b} leads read) =
    let place = read_place g f b read in
    path_on g marked rising a b place.0 n stands place.1 (place_marked g f b marked reads read place.0 place.1)
    (λ call. reads.back.1 (behind b call read)) leads
after_is_on g f marked rising reads a n stands (at_exit m other returns has) =
    subst (λ (x : Node). IsOn g.nodes.items marked x) (one_node g rising a m n other stands) (on_exit returns (reads.back.1 (ensured has)))

pub live_is : (g : Graph) (f i : ℕ) (n : Node) (marked : List Bool) (live : Bool) → AreRising g.nodes.items → AreReads g f marked →
    IsNodeAt g.nodes.items i n
    → (live ≡ true) ↔ IsLiveNode g.nodes.items marked f n → (live ≡ true) ↔ IsLiveIn g f n.at
live_is g f i n marked live rising reads at exact =
    let stands = node_stands g i n at in (
      λ e. (let found = exact.0 e in record { node = n; stands = stands; assigns = found.assigns; read = on_after g f i n marked reads at found.on }),
      λ lives. exact.1 (record {
        assigns = subst (λ (x : Node). has_flag x.flags.assigns f ≡ true) (one_node g rising n.at lives.node n lives.stands stands) lives.assigns;
        on = after_is_on g f marked rising reads n.at n stands lives.read;
      }),
    )
