-- The frame of a file, and the numbers of its points among those of its graph.
use Rattle.std.proofs.Common.{◌≡◌, refl, ap, sym, ◌∙◌, subst, arith, ℕ, ◌<◌, ◌≤◌, Bool, true, false, Option, Some, None, List, [], ◌∷◌, ◌++◌, length, get_or, map}
use Rattle.std.specs.Prelude.{Contains, ◌↔◌, ◌==◌, ◌||◌, filter, is_some, not, slice_index, if◌then◌else◌}
use Rattle.std.proofs.lemmas.List.{get_or_default}
use Rattle.std.proofs.Math.ListN.{length-append}
use Rattle.machine_spec.specs.Machine.{Machine}
use Rattle.machine_spec.specs.MachineLaws.{IsLawfulMachine}
use Rattle.bilv_spec.specs.Notes.{Notes}
use Rattle.bilv_spec.proofs.PointSteps.{in_filter, in_map}
use Rattle.bilv_spec.proofs.PointsInGraph.{of_filter, of_map}
use Rattle.frame_spec.specs.Frames.{Frame, contract_at}
use Rattle.frame_spec.specs.FramePoints as spec
use Rattle.frame_spec.specs.FramePoints.{Anchor, AtHead, IsAnchor, IsPoint}
use Rattle.frame_laws.proofs.FrameGraph.{of_point}
use Rattle.graph_nodes.specs.declared.nodes.Graph.{Graph}
use Rattle.graph_nodes.specs.Graphs.{IsGraph, addresses_of}
use Rattle.program_points.specs.declared.values.Frame as stack
use Rattle.program_points.specs.declared.values.Root.{Root}
use Rattle.notes_value.specs.declared.notes.Contract.{Contract}
use Rattle.notes_value.specs.FrameViews.{contract_of as shown}
use Rattle.program_points.specs.Listed.{anchor_of, AreCuts}
use Rattle.program_points.specs.Tables.{is_among, is_root_within, stack_at, stacks_of}
use Rattle.program_points.proofs.Stacked.{stack_keeps}
use Rattle.unroller.specs.Asking.{program_asking}
use Rattle.unroller.specs.Frames.{parts_frame}
use Rattle.unroller.specs.declared.unrolling.FrameParts.{FrameParts}
use Rattle.unroller.specs.Heads.{head_places}
use Rattle.question_form.specs.declared.unrolled.Edge.{Edge}
use Rattle.question_form.specs.declared.unrolled.Point.{Point}
use Rattle.question_form.specs.declared.unrolled.Deed.TheVariants.{Contract as Step}
use Rattle.unroller.specs.Led.{ArePlaced, HasCode, deed_at, is_arrival}
use Rattle.unroller.specs.Places.{deed_by}
use Rattle.unroller.specs.Keys.{address_of, contract_of, is_of, place_in, root_of, stack_of, turns_of, head_of, anchor_by, point_of, AreKeys, AreSegments, IsFrameOf}
use Rattle.unroller.proofs.CutHeads.{among_in, heads_are}
use Rattle.unroller.proofs.FrameFirst.{of_contract}
use Rattle.unroller.proofs.FileRows.{asked_one_way}

some_by : (x : Contract) (rest : List Contract) (a : ℕ) (b : Bool) → (x.at == a) ≡ b →
    is_some (contract_at (map shown rest) a) ≡ is_among (map (λ (y : Contract). y.at) rest) a →
    is_some (if b then Some (shown x) else contract_at (map shown rest) a) ≡ (b || is_among (map (λ (y : Contract). y.at) rest) a)
some_by x rest a true e h = refl
some_by x rest a false e h = h

-- the addresses of contracts are those at which there is one
pub steps_among : (xs : List Contract) (a : ℕ) → is_some (contract_at (map shown xs) a) ≡ is_among (map (λ (x : Contract). x.at) xs) a
steps_among [] a = refl
steps_among (x ∷ xs) a = some_by x xs a (x.at == a) refl (steps_among xs a)

pub frame_is : {M I S : _} {d : _} {v : _} (m : Machine) (file : List ℕ) (n : Notes) (entry : ℕ) (asked : ℕ → Bool) (parts : FrameParts M I S d v) (g : Graph)
    (heads lent steps : List ℕ) →
    IsGraph (program_asking m file n entry asked) g → IsLawfulMachine m → ((i : ℕ) → slice_index file i < 256) →
    ((x : ℕ) → Contains (head_places parts.invariants.now n.asserts) x ↔ Contains heads x) → lent ≡ heads →
    steps ≡ map (λ (x : Contract). x.at) parts.stepped.now →
    IsFrameOf (parts_frame (program_asking m file n entry asked) parts) g lent steps entry
frame_is m file n entry asked parts g heads lent steps graph lawful small same e at = record {
  graph = graph;
  begins = refl;
  way = asked_one_way m file n entry asked lawful small;
  cuts = record {
    heads = λ a.
        heads_are (parts_frame (program_asking m file n entry asked) parts) heads refl same a ∙ ap (λ (l : List ℕ). is_among l a) (sym e);
    stepped = λ a. steps_among parts.stepped.now a ∙ ap (λ (l : List ℕ). is_among l a) (sym at);
  };
}

module _ (f : Frame) (k : ℕ) (frames : List stack.Frame) (segments keys xs : List ℕ) (are : AreKeys f k frames segments keys) (lent : xs ≡ keys) where
  abbrev ys : AreKeys f k frames segments xs
  ys = subst (λ (l : List ℕ). AreKeys f k frames segments l) (sym lent) are

  pub among_graph : (g : Graph) → IsGraph f.program g → (i : ℕ) → i < length xs → Contains (addresses_of g) (address_of (get_or xs i 0))
  among_graph g graph i w = (graph.all (address_of (get_or xs i 0))).1 (of_point f k (point_of frames segments (get_or xs i 0)) (ys.only i w)).0

  pub addresses_among : (contract : Bool) (g : Graph) (addresses os : List ℕ) → IsGraph f.program g → os ≡ addresses →
      ((x : ℕ) → Contains (map address_of (filter (is_of contract) xs)) x ↔ Contains addresses x) → (a : ℕ) → Contains os a → Contains (addresses_of g) a
  addresses_among contract g addresses os graph e same a h =
      let q = of_map address_of (filter (is_of contract) xs) a ((same a).1 (subst (λ (l : List ℕ). Contains l a) e h)) in
      let i = (of_filter (is_of contract) xs q.0 q.1).0 in
      let at : get_or xs i.0 0 ≡ q.0 = get_or_default xs i.0 0 q.0 i.1 ∙ i.2 in
      subst (λ (z : ℕ). Contains (addresses_of g) z) (ap address_of at ∙ q.2) (among_graph g graph i.0 i.1)

  -- the address of a point of a contract step is a contract's
  pub steps_stepped : (heads stepped steps : List ℕ) → AreCuts f heads stepped →
      ((x : ℕ) → Contains (map address_of (filter (is_of true) xs)) x ↔ Contains steps x) → (a : ℕ) → Contains steps a → Contains stepped a
  steps_stepped heads stepped steps cuts same a h =
      let q = of_map address_of (filter (is_of true) xs) a ((same a).1 h) in
      let i = of_filter (is_of true) xs q.0 q.1 in
      let at : get_or xs i.0.0 0 ≡ q.0 = get_or_default xs i.0.0 0 q.0 i.0.1 ∙ i.0.2 in
      let point = of_contract f k (point_of frames segments (get_or xs i.0.0 0)) (ys.only i.0.0 i.0.1) (ap contract_of at ∙ i.1) in
      subst (λ (z : ℕ). Contains stepped z) (ap address_of at ∙ q.2)
      (among_in stepped (address_of (get_or xs i.0.0 0)) (sym (cuts.stepped (address_of (get_or xs i.0.0 0))) ∙ point.0))

  pub keys_fit : (i : ℕ) → i < length xs → stack_of (get_or xs i 0) ≤ length frames
  keys_fit i w = ys.fits i w

  pub keys_low : k ≤ 4096 → (i : ℕ) → i < length xs → turns_of (get_or xs i 0) ≤ 4096
  keys_low le i w = let few = ys.few i w in omega arith

  pub keys_rooted : length segments ≤ 16777216 → (i : ℕ) → i < length xs → root_of (get_or xs i 0) ≤ 16777216
  keys_rooted le i w = let l = ys.rooted i w in omega arith

-- there is a code for each point
code_by : (heads stepped rows steps : List ℕ) (key : ℕ) (b : Bool) → contract_of key ≡ b → (b ≡ true → Contains steps (address_of key)) →
    (b ≡ false → Contains rows (address_of key)) →
    HasCode (if b then Step (place_in stepped (address_of key)) else deed_by (is_arrival heads key)) rows steps (address_of key)
code_by heads stepped rows steps key true e t r = t refl
code_by heads stepped rows steps key false e t r = by (is_arrival heads key) (r refl)
  where
    by : (arrival : Bool) → Contains rows (address_of key) → HasCode (deed_by arrival) rows steps (address_of key)
    by true h = h
    by false h = h

pub keys_coded : (heads stepped xs ys rows steps : List ℕ) → xs ≡ ys →
    ((x : ℕ) → Contains (map address_of (filter (is_of false) xs)) x ↔ Contains rows x) →
    ((x : ℕ) → Contains (map address_of (filter (is_of true) xs)) x ↔ Contains steps x) → (i : ℕ) → i < length ys →
    HasCode (deed_at heads stepped (get_or ys i 0)) rows steps (address_of (get_or ys i 0))
keys_coded heads stepped xs ys rows steps e of_rows of_steps i w =
    let key = get_or ys i 0 in
    let inside : Contains xs key = subst (λ (l : List ℕ). Contains l key) (sym e) (i, w, get_or_default ys i key 0 w) in
    code_by heads stepped rows steps key (contract_of key) refl
    (λ t. (of_steps (address_of key)).0 (in_map address_of (filter (is_of true) xs) key (in_filter (is_of true) xs key inside t)))
    (λ t. (of_rows (address_of key)).0 (in_map address_of (filter (is_of false) xs) key (in_filter (is_of false) xs key inside (ap not t))))

-- more stacks leave the points as they are
module _ (f : Frame) (k : ℕ) (frames rest grown : List stack.Frame) (segments keys : List ℕ) (is : grown ≡ frames ++ rest)
    (segs : AreSegments f k frames segments) where
  longer : length frames ≤ length grown
  longer = let a = ap length is in let b = length-append frames rest in omega arith

  stack_same : (n : ℕ) → n ≤ length frames → stack_at grown n ≡ stack_at frames n
  stack_same n le = ap (λ (l : List stack.Frame). stack_at l n) is ∙ stack_keeps frames rest n le

  head_same : (o : Option Root) → is_root_within (length frames) o → anchor_of (stacks_of grown) o ≡ anchor_of (stacks_of frames) o
  head_same None w = refl
  head_same (Some r) w = ap (λ (l : List ℕ). AtHead l r.at) (stack_same r.stack w)

  anchor_same : (n : ℕ) → n < length segments → anchor_by grown segments n ≡ anchor_by frames segments n
  anchor_same n w = head_same (head_of (get_or segments n 0)) (segs.fits n w)

  within_more : (o : Option Root) → is_root_within (length frames) o → is_root_within (length grown) o
  within_more None w = tt
  within_more (Some r) w = let l = longer in omega arith

  pub segments_grown : AreSegments f k grown segments
  segments_grown = record {
    all = λ anchor a. (let x = segs.all anchor a in (x.0, x.1, anchor_same x.0 x.1 ∙ x.2));
    only = λ n w. subst (λ (z : Anchor). IsAnchor f k z) (sym (anchor_same n w)) (segs.only n w);
    rise = segs.rise;
    fits = λ n w. within_more (head_of (get_or segments n 0)) (segs.fits n w);
    exact = segs.exact;
  }

  module _ (are : AreKeys f k frames segments keys) where
    point_same : (i : ℕ) → i < length keys → point_of grown segments (get_or keys i 0) ≡ point_of frames segments (get_or keys i 0)
    point_same i w =
        let x = get_or keys i 0 in
        ap (λ (z : Anchor). let r : spec.Point = record {
          anchor = z;
          turns = turns_of x;
          contract = contract_of x;
          stack = stack_at grown (stack_of x);
          at =
              address_of x;
        }
        in r) (anchor_same (root_of x) (are.rooted i w))
        ∙ ap (λ (z : List ℕ). let r : spec.Point = record {
          anchor = anchor_by frames segments (root_of x);
          turns = turns_of x;
          contract = contract_of x;
          stack = z;
          at = address_of x;
        } in r) (stack_same (stack_of x) (are.fits i w))

    pub keys_grown : AreKeys f k grown segments keys
    keys_grown = record {
      all = λ q h. (let x = are.all q h in (x.0, x.1, point_same x.0 x.1 ∙ x.2));
      only = λ i w. subst (λ (z : spec.Point). IsPoint f k z) (sym (point_same i w)) (are.only i w);
      rise = are.rise;
      fits = λ i w. (let a = are.fits i w in let l = longer in omega arith);
      few = are.few;
      rooted = are.rooted;
    }

-- points that are placed by lists are placed by equal ones
pub placed_as : (g : Graph) (heads heads' stepped stepped' : List ℕ) (asserts asserts' : List (ℕ × ℕ)) (frames frames' : List stack.Frame)
    (keys keys' rows rows' steps steps' called called' : List ℕ) (points : List Point) (edges : List Edge) → heads ≡ heads' → stepped ≡ stepped' →
    asserts ≡ asserts' → frames ≡ frames' → keys ≡ keys' → rows ≡ rows' → steps ≡ steps' → called ≡ called' →
    ArePlaced g heads stepped asserts frames keys rows steps called (length keys) points edges →
    ArePlaced g heads' stepped' asserts' frames' keys' rows' steps' called' (length keys') points edges
placed_as g heads heads' stepped stepped' asserts asserts' frames frames' keys keys' rows rows' steps steps' called called' points edges a h b c d e i f is =
    subst (λ (l : List ℕ). ArePlaced g l stepped' asserts' frames' keys' rows' steps' called' (length keys') points edges) a
    (subst (λ (l : List ℕ). ArePlaced g heads l asserts' frames' keys' rows' steps' called' (length keys') points edges) h
    (subst (λ (l : List (ℕ × ℕ)). ArePlaced g heads stepped l frames' keys' rows' steps' called' (length keys') points edges) b
    (subst (λ (l : List stack.Frame). ArePlaced g heads stepped asserts l keys' rows' steps' called' (length keys') points edges) c
    (subst (λ (l : List ℕ). ArePlaced g heads stepped asserts frames l rows' steps' called' (length l) points edges) d
    (subst (λ (l : List ℕ). ArePlaced g heads stepped asserts frames keys l steps' called' (length keys) points edges) e
    (subst (λ (l : List ℕ). ArePlaced g heads stepped asserts frames keys rows l called' (length keys) points edges) i
    (subst (λ (l : List ℕ). ArePlaced g heads stepped asserts frames keys rows steps l (length keys) points edges) f is)))))))
