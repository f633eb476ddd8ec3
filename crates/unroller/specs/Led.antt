-- The edges of a point, by the numbers of points.
use Rattle.std.specs.Prelude.{ℕ, ◌≡◌, ◌<◌, ◌≤◌, ◌+◌, ◌==◌, ◌&&◌, ◌||◌, ◌↔◌, not, Bool, true, false, List, [], ◌∷◌, ◌++◌, Option, Some, None, Contains, map, length, drop, slice_index, slice_index_or, slice_range, if◌then◌else◌}
use Rattle.std.specs.List.{AllZip, list_any}
use Rattle.std.specs.List.Sorted.{IsStrictlyIncreasing}
use Rattle.word_spec.specs.Words.{add}
use Rattle.graph_nodes.specs.declared.nodes.Node.{Node}
use Rattle.graph_nodes.specs.declared.nodes.Graph.{Graph}
use Rattle.graph_nodes.specs.declared.nodes.Successor.{Successor}
use Rattle.graph_nodes.specs.declared.nodes.Letter.TheVariants.{Call}
use Rattle.program_points.specs.declared.values.Frame.{Frame}
use Rattle.program_points.specs.declared.values.End.{End}
use Rattle.program_points.specs.Tables as tables
use Rattle.program_points.specs.Tables.{end, frame, frame_at, is_call, is_next, jumps_of, linked, listed, return_end}
use Rattle.question_form.specs.declared.unrolled.Deed.{Deed}
use Rattle.question_form.specs.declared.unrolled.Deed.TheVariants.{Row, Arrival, Contract}
use Rattle.question_form.specs.declared.unrolled.Edge.{Edge}
use Rattle.question_form.specs.declared.unrolled.Point.{Point}
use Rattle.question_form.specs.declared.unrolled.Aim.{Aim}
use Rattle.question_form.specs.declared.unrolled.Aim.TheVariants.{IntoHead, Outward}
use Rattle.unroller.specs.Places.{IsGroup, deed_by}
use Rattle.unroller.specs.Keys.{address_of, contract_of, place_in, root_of, stack_of, turns_of, target_key, IsAimAt}

-- one of the successors is the next address
abbrev pub goes_on : List Successor → Bool
goes_on successors = list_any (λ s. is_next s.letter) successors

-- the end by going on to the next address, with the point's stack, if the row may
abbrev pub next_of : Node → (stack : ℕ) → Option End
next_of n stack = if goes_on n.successors.items then Some (end stack (add 32 n.at n.length)) else None

-- the end is that of a number's point
abbrev pub is_key_of : ℕ → End → Bool
is_key_of key e = (e.at == address_of key) && (e.stack == stack_of key)

-- it is the end by going on
abbrev pub is_next_key : Option End → ℕ → Bool
is_next_key None key = false
is_next_key (Some e) key = is_key_of key e

-- two ends are the same
abbrev pub is_same : End → End → Bool
is_same e other = (e.stack == other.stack) && (e.at == other.at)

-- an end is among ends
abbrev pub is_among : List End → End → Bool
is_among ends other = list_any (λ e. is_same e other) ends

-- the end by going on is that of a jump too
abbrev pub is_both : List End → Option End → Bool
is_both jumps None = false
is_both jumps (Some next) = is_among jumps next

-- the edge is that to the point of a number: by going on, by a jump, or by both
pub record IsLedTo (heads : List ℕ) (asserts : List (ℕ × ℕ)) (keys : List ℕ) (next : Option End) (both : Bool) (key : ℕ) (e : Edge) : Type 0 where
  pub falls : e.falls ≡ is_next_key next key
  pub jumps : e.jumps ≡ (not (is_next_key next key) || both)
  pub to : e.to ≡ Some (address_of key)
  pub aim : IsAimAt heads asserts keys key e.aim

-- the edge out of the function
abbrev pub exit_edge : Edge
exit_edge = record { falls = false; jumps = true; to = None; aim = Outward }

-- it is there or not
abbrev pub exits_by : Bool → List Edge
exits_by exits = if exits then exit_edge ∷ [] else []

-- The edges of the point of a number, by its ends: the one out of the function first, if there is one, then one for each point at an end, each once. The ends are
-- those by jumps, and the one by going on, if there is one; the stack behind the point's call is given, where that links.
pub record AreLed (heads stepped : List ℕ) (asserts : List (ℕ × ℕ)) (keys : List ℕ) (own : ℕ) (linked : Option ℕ) (jumps : List End) (next : Option End)
    (exits : Bool) (led : List Edge) : Type 0 where
  pub targets : List ℕ
  pub rise : IsStrictlyIncreasing targets
  pub same : (x : ℕ) → Contains (map (target_key stepped linked own) (jumps ++ listed next)) x ↔ Contains targets x
  pub small : (e : End) → Contains jumps e → e.at < 4294967296
  pub rest : List Edge
  pub is : led ≡ exits_by exits ++ rest
  pub each : AllZip (IsLedTo heads asserts keys next (is_both jumps next)) targets rest

-- those of a point where its row is executed, at its node, with the number of the stack behind a call; the one out of the function is there where the row may
-- return and the stack is empty
abbrev pub AreRowLed : (heads stepped : List ℕ) → (asserts : List (ℕ × ℕ)) → (narrow : Bool) → Node → List Frame → (keys : List ℕ) → (own called : ℕ) →
    List Edge → Type 0
AreRowLed heads stepped asserts narrow n frames keys own called led =
    AreLed heads stepped asserts keys own (linked n.links called) (jumps_of narrow n (frame_at frames (stack_of own)) (stack_of own) called)
    (next_of n (stack_of own)) (n.returns && (stack_of own == 0)) led

-- that of a point where a contract step is made: its return
abbrev pub AreBackLed : (heads stepped : List ℕ) → (asserts : List (ℕ × ℕ)) → (narrow : Bool) → List Frame → (keys : List ℕ) → (own : ℕ) → List Edge → Type 0
AreBackLed heads stepped asserts narrow frames keys own led =
    AreLed heads stepped asserts keys own None (listed (return_end narrow (frame_at frames (stack_of own)))) None false led

-- an edge leads to a head only where there is one, with its part of the assert lines by address
abbrev pub IsAimFor : (heads : List ℕ) → (asserts : List (ℕ × ℕ)) → Aim → Type 0
IsAimFor heads asserts (IntoHead at bounds) = (tables.is_among heads at ≡ true) × IsGroup asserts at bounds
IsAimFor heads asserts aim = Unit {0}

-- edges are added that are those of targets
abbrev pub AreAddedTo : (heads : List ℕ) → (asserts : List (ℕ × ℕ)) → List ℕ → Option End → Bool → List ℕ → (old new : List Edge) → Type 0
AreAddedTo heads asserts keys next both targets old new =
    (led : List Edge) × (new ≡ old ++ led) × AllZip (IsLedTo heads asserts keys next both) targets led

-- the edges of a point are added
abbrev pub HasLed : (heads stepped : List ℕ) → (asserts : List (ℕ × ℕ)) → (keys : List ℕ) → (own : ℕ) → (linked : Option ℕ) → (jumps : List End) →
    (next : Option End) → (exits : Bool) → (old new : List Edge) → Type 0
HasLed heads stepped asserts keys own linked jumps next exits old new =
    (led : List Edge) × (new ≡ old ++ led) × AreLed heads stepped asserts keys own linked jumps next exits led

abbrev pub HasRowLed : (heads stepped : List ℕ) → (asserts : List (ℕ × ℕ)) → (narrow : Bool) → Node → List Frame → (keys : List ℕ) → (own called : ℕ) →
    (old new : List Edge) → Type 0
HasRowLed heads stepped asserts narrow n frames keys own called old new =
    (led : List Edge) × (new ≡ old ++ led) × AreRowLed heads stepped asserts narrow n frames keys own called led

abbrev pub HasBackLed : (heads stepped : List ℕ) → (asserts : List (ℕ × ℕ)) → (narrow : Bool) → List Frame → (keys : List ℕ) → (own : ℕ) →
    (old new : List Edge) → Type 0
HasBackLed heads stepped asserts narrow frames keys own old new =
    (led : List Edge) × (new ≡ old ++ led) × AreBackLed heads stepped asserts narrow frames keys own led

-- where the edges of the points behind one begin
abbrev pub begins_at : List Edge → List Point → ℕ
begins_at edges [] = length edges
begins_at edges (q ∷ rest) = q.edges

-- the number of a stack behind a call of the node
abbrev pub IsCalledBy : Node → (stack : ℕ) → List Frame → (called : ℕ) → Type 0
IsCalledBy n stack frames called = (x : Successor) → Contains n.successors.items x → x.letter ≡ Call →
    frame_at frames called ≡ Some (frame (add 32 n.at n.length) stack)

-- without a call of the node the number is 0
abbrev pub IsNoneCalled : Node → (called : ℕ) → Type 0
IsNoneCalled n called = list_any (λ s. is_call s.letter) n.successors.items ≡ false → called ≡ 0

-- the first n numbers of stacks are those behind the calls at the points of numbers
pub record AreCalled (g : Graph) (keys : List ℕ) (frames : List Frame) (n : ℕ) (called : List ℕ) : Type 0 where
  pub count : length called ≡ n
  pub each : (i : ℕ) → i < n → (m : Node) × Contains g.nodes.items m × (m.at ≡ address_of (slice_index keys i)) ×
      IsCalledBy m (stack_of (slice_index keys i)) frames (slice_index called i) × IsNoneCalled m (slice_index called i)

-- the point of a number is the entry's own, and the entry is a head
abbrev pub is_arrival : (heads : List ℕ) → (key : ℕ) → Bool
is_arrival heads key = (root_of key == 0) && tables.is_among heads (address_of key)

-- what is done at the point of a number
abbrev pub deed_at : (heads stepped : List ℕ) → (key : ℕ) → Deed
deed_at heads stepped key = if contract_of key then Contract (place_in stepped (address_of key)) else deed_by (is_arrival heads key)

-- the edges are those of the point of a number where so is done
abbrev pub IsLeft : Deed → Graph → (heads stepped : List ℕ) → (asserts : List (ℕ × ℕ)) → List Frame → (keys : List ℕ) → (key called : ℕ) → List Edge → Type 0
IsLeft Row g heads stepped asserts frames keys key called led =
    (n : Node) × Contains g.nodes.items n × (n.at ≡ address_of key) × AreRowLed heads stepped asserts g.narrow n frames keys key called led
IsLeft Arrival g heads stepped asserts frames keys key called led = led ≡ []
IsLeft (Contract n) g heads stepped asserts frames keys key called led = AreBackLed heads stepped asserts g.narrow frames keys key led

-- edges are added that are those of the point of a number
abbrev pub AreLeft : Deed → Graph → (heads stepped : List ℕ) → (asserts : List (ℕ × ℕ)) → List Frame → (keys : List ℕ) → (key called : ℕ) →
    (old new : List Edge) → Type 0
AreLeft deed g heads stepped asserts frames keys key called old new =
    (led : List Edge) × (new ≡ old ++ led) × IsLeft deed g heads stepped asserts frames keys key called led

-- there is a code for the point at an address at which so is done
abbrev pub HasCode : Deed → (rows steps : List ℕ) → (at : ℕ) → Type 0
HasCode Row rows steps at = Contains rows at
HasCode Arrival rows steps at = Contains rows at
HasCode (Contract n) rows steps at = Contains steps at

-- the place of a code is that of the address of a row; behind all of those, of a contract step
abbrev pub IsCoded : Deed → (rows steps : List ℕ) → (at code : ℕ) → Type 0
IsCoded Row rows steps at code = (code < length rows) × (slice_index rows code ≡ at)
IsCoded Arrival rows steps at code = (code < length rows) × (slice_index rows code ≡ at)
IsCoded (Contract n) rows steps at code = (j : ℕ) × (code ≡ length rows + j) × (j < length steps) × (slice_index steps j ≡ at)

-- the point is that of a number, of a code of its address, with its edges, which end where those of the next one begin
pub record IsPlacedAt (g : Graph) (heads stepped : List ℕ) (asserts : List (ℕ × ℕ)) (frames : List Frame) (keys rows steps : List ℕ) (key called : ℕ) (q : Point)
    (bound : ℕ) (edges : List Edge) : Type 0 where
  pub root : q.root ≡ root_of key
  pub turns : q.turns ≡ turns_of key
  pub stack : q.stack ≡ stack_of key
  pub deed : q.deed ≡ deed_at heads stepped key
  pub code : IsCoded (deed_at heads stepped key) rows steps (address_of key) q.code
  pub ordered : q.edges ≤ bound
  pub within : bound ≤ length edges
  pub led : IsLeft (deed_at heads stepped key) g heads stepped asserts frames keys key called (slice_range edges q.edges bound)

-- the first n points
pub record ArePlaced (g : Graph) (heads stepped : List ℕ) (asserts : List (ℕ × ℕ)) (frames : List Frame) (keys rows steps called : List ℕ) (n : ℕ)
    (points : List Point) (edges : List Edge) : Type 0 where
  pub count : length points ≡ n
  pub each : (i : ℕ) (d : Point) → i < n →
      IsPlacedAt g heads stepped asserts frames keys rows steps (slice_index keys i) (slice_index called i) (slice_index_or points i d)
      (begins_at edges (drop (i + 1) points)) edges
  pub aims : (e : Edge) → Contains edges e → IsAimFor heads asserts e.aim
