use Rattle.std.proofs.Common.{◌≡◌, ◌<◌, ℕ, List, refl, ap, sym, ◌∙◌, subst, arith, rules, length, map}
use Rattle.std.specs.Prelude.{◌==◌, IfErr, Bool, true, false, Contains, ◌↔◌, filter, not, slice_index}
use Rattle.std.specs.List.Sorted.{IsNonDecreasingBy}
use Rattle.std.proofs.lemmas.List.{length-map}
use Rattle.std.proofs.Math.ListN.{length-append}
use Rattle.machine_spec.specs.MachineLaws.{IsFitted}
use Rattle.machine_spec.specs.StateText.{Layout}
use Rattle.bilv_spec.specs.Run.{Program}
use Rattle.bilv_spec.specs.Points.{IsCount, begins_run, is_known_at}
use Rattle.known_bytes.proofs.Counts.{run_starts}
use Rattle.frame_spec.specs.Frames as contracts
use Rattle.frame_spec.specs.Frames.{Frame}
use Rattle.frame_spec.specs.FramePoints.{has_heads}
use Rattle.frame_spec.specs.FrameUnrolling.{IsLiteralOf, IsUnrolling}
use Rattle.notes_value.specs.FrameViews.{contract_of}
use Rattle.notes_value.specs.NoteViews.{notes_of}
use Rattle.program_points.specs.Listed.{HasTooMany}
use Rattle.program_points.specs.declared.values.Frame as stack
use Rattle.program_points.specs.declared.values.PointsFault.{PointsFault}
use Rattle.start_value.specs.Starts.{layout_of}
use Rattle.question_form.specs.declared.unrolled.Unrolled.{Unrolled}
use Rattle.question_form.specs.FrameViews.{frame_unrolled_of}
use Rattle.question_form.specs.Views.{kept_of}
use Rattle.graph_nodes.specs.Graphs.{has_flag, IsFlagSet, IsGraph}
use Rattle.unroller.specs.Asking.{program_asking}
use Rattle.unroller.specs.Frames.{parts_frame}
use Rattle.unroller.specs.Led.{AreCalled, ArePlaced}
use Rattle.unroller.specs.Lookups.{HasForm}
use Rattle.unroller.specs.Keys.{AreKeys, AreSegments, IsFrameOf, address_of, head_of, is_of}
use Rattle.unroller.specs.Roots.{AreRoots, first_key}
use Rattle.unroller.specs.Rows.{AreLiterals}
use Rattle.unroller.specs.Steps.{AreAllCodes}
use Rattle.unroller.specs.declared.unrolling.FrameParts.{FrameParts}
use Rattle.flag_live.proofs.FlagSets.{own_flags}
use Rattle.unroller.proofs.CutHeads.{heads_flag, heads_none, no_heads}
use Rattle.unroller.proofs.Framed.{frame_is, among_graph, addresses_among, steps_stepped, keys_fit, keys_low, keys_rooted, keys_coded, placed_as, segments_grown, keys_grown}
use Rattle.unroller.proofs.KeptRuns.{kept_runs_are_right}
use Rattle.unroller.proofs.Looked.{forms_are_right}
use Rattle.unroller.proofs.RootPlaces.{first_in}
use Rattle.unroller.proofs.Whole.{IsMade, size, places, lean, lists, words, are_points, first, roots_are, rooted, roots_once, formed, roots_formed, steps_formed, own_roots, entry_first, no_head_roots, one_root, no_arrivals, no_aims, literals_are}
use Rattle.unroller.proofs.unrolling.unroll_with.Given as given
use Rattle.unroller.proofs.unrolling.unroll_with.Goals as goal

pub calls-requires-clause-nodes : goal.calls-requires-clause-nodes
calls-requires-clause-nodes g c =
    let asked : ℕ → Bool = λ f. has_flag c.args.out f in
    let parts = c.args.parts.now in
    let p : Program = program_asking g.M.Machine.machine c.args.parts.now.program.image.now (notes_of parts.program.notes.now) parts.program.entry asked in
    let f : Frame = parts_frame p parts in
    let graph = c.in_ok-live.ensures.graph p (own_flags c.args.out c.requires.out) c.requires.graph in
    graph.rising

pub all_codes-requires-clause-nodes : goal.all_codes-requires-clause-nodes
all_codes-requires-clause-nodes g c =
    let asked : ℕ → Bool = λ f. has_flag c.args.out f in
    let parts = c.args.parts.now in
    let p : Program = program_asking g.M.Machine.machine c.args.parts.now.program.image.now (notes_of parts.program.notes.now) parts.program.entry asked in
    let f : Frame = parts_frame p parts in
    let graph = c.in_ok-live.ensures.graph p (own_flags c.args.out c.requires.out) c.requires.graph in
    graph.rising

pub literals_at-requires-clause-nodes : goal.literals_at-requires-clause-nodes
literals_at-requires-clause-nodes g c =
    let asked : ℕ → Bool = λ f. has_flag c.args.out f in
    let parts = c.args.parts.now in
    let p : Program = program_asking g.M.Machine.machine c.args.parts.now.program.image.now (notes_of parts.program.notes.now) parts.program.entry asked in
    let f : Frame = parts_frame p parts in
    let graph = c.in_ok-live.ensures.graph p (own_flags c.args.out c.requires.out) c.requires.graph in
    graph.rising

pub points_of-requires-clause-nodes : goal.points_of-requires-clause-nodes
points_of-requires-clause-nodes g c =
    let asked : ℕ → Bool = λ f. has_flag c.args.out f in
    let parts = c.args.parts.now in
    let p : Program = program_asking g.M.Machine.machine c.args.parts.now.program.image.now (notes_of parts.program.notes.now) parts.program.entry asked in
    let f : Frame = parts_frame p parts in
    let graph = c.in_ok-live.ensures.graph p (own_flags c.args.out c.requires.out) c.requires.graph in
    graph.rising

pub calls-requires-clause-among : goal.calls-requires-clause-among
calls-requires-clause-among g c =
    let asked : ℕ → Bool = λ f. has_flag c.args.out f in
    let parts = c.args.parts.now in
    let p : Program = program_asking g.M.Machine.machine c.args.parts.now.program.image.now (notes_of parts.program.notes.now) parts.program.entry asked in
    let f : Frame = parts_frame p parts in
    let graph = c.in_ok-live.ensures.graph p (own_flags c.args.out c.requires.out) c.requires.graph in
    let of = frame_is g.M.Machine.machine c.args.parts.now.program.image.now (notes_of parts.program.notes.now) parts.program.entry asked parts c.in_ok-live.live
    c.in_ok-places.places.heads.items c.deref.result.now c.deref-2.result.now graph g.met.M.Machine.lawful c.bytes.ensures c.in_ok-places.ensures.heads
    c.deref.ensures.value (c.deref-2.ensures.value ∙ c.in_ok-places.ensures.stepped) in
    let v = c.in_ok-listed.listed in
    let are = c.in_ok-listed.ensures.keys f of in
    among_graph f c.args.k v.stacks.frames.items v.segments.items v.keys.items c.deref-4.result.now are c.deref-4.ensures.value c.in_ok-live.live graph

pub calls-requires-clause-fits : goal.calls-requires-clause-fits
calls-requires-clause-fits g c =
    let asked : ℕ → Bool = λ f. has_flag c.args.out f in
    let parts = c.args.parts.now in
    let p : Program = program_asking g.M.Machine.machine c.args.parts.now.program.image.now (notes_of parts.program.notes.now) parts.program.entry asked in
    let f : Frame = parts_frame p parts in
    let graph = c.in_ok-live.ensures.graph p (own_flags c.args.out c.requires.out) c.requires.graph in
    let of = frame_is g.M.Machine.machine c.args.parts.now.program.image.now (notes_of parts.program.notes.now) parts.program.entry asked parts c.in_ok-live.live
    c.in_ok-places.places.heads.items c.deref.result.now c.deref-2.result.now graph g.met.M.Machine.lawful c.bytes.ensures c.in_ok-places.ensures.heads
    c.deref.ensures.value (c.deref-2.ensures.value ∙ c.in_ok-places.ensures.stepped) in
    let v = c.in_ok-listed.listed in
    let are = c.in_ok-listed.ensures.keys f of in
    keys_fit f c.args.k v.stacks.frames.items v.segments.items v.keys.items c.deref-4.result.now are c.deref-4.ensures.value

pub all_codes-requires-clause-rows : goal.all_codes-requires-clause-rows
all_codes-requires-clause-rows g c =
    let asked : ℕ → Bool = λ f. has_flag c.args.out f in
    let parts = c.args.parts.now in
    let p : Program = program_asking g.M.Machine.machine c.args.parts.now.program.image.now (notes_of parts.program.notes.now) parts.program.entry asked in
    let f : Frame = parts_frame p parts in
    let graph = c.in_ok-live.ensures.graph p (own_flags c.args.out c.requires.out) c.requires.graph in
    let of = frame_is g.M.Machine.machine c.args.parts.now.program.image.now (notes_of parts.program.notes.now) parts.program.entry asked parts c.in_ok-live.live
    c.in_ok-places.places.heads.items c.deref.result.now c.deref-2.result.now graph g.met.M.Machine.lawful c.bytes.ensures c.in_ok-places.ensures.heads
    c.deref.ensures.value (c.deref-2.ensures.value ∙ c.in_ok-places.ensures.stepped) in
    let v = c.in_ok-listed.listed in
    let are = c.in_ok-listed.ensures.keys f of in
    addresses_among f c.args.k v.stacks.frames.items v.segments.items v.keys.items c.deref-3.result.now are c.deref-3.ensures.value false c.in_ok-live.live c.in_ok-addresses.addresses.rows.items
    c.deref-5.result.now graph c.deref-5.ensures.value c.in_ok-addresses.ensures.of_rows

pub all_codes-requires-clause-sorted : goal.all_codes-requires-clause-sorted
all_codes-requires-clause-sorted g c =
    subst (λ (l : List (ℕ × ℕ)). IsNonDecreasingBy (λ x. x.0) l) (sym c.deref-7.ensures.value) c.in_ok-index.ensures.asserts.rising

pub all_codes-requires-clause-stepped : goal.all_codes-requires-clause-stepped
all_codes-requires-clause-stepped g c = c.deref-8.ensures.value ∙ c.in_ok-places.ensures.stepped

pub all_codes-requires-clause-steps : goal.all_codes-requires-clause-steps
all_codes-requires-clause-steps g c =
    let asked : ℕ → Bool = λ f. has_flag c.args.out f in
    let parts = c.args.parts.now in
    let p : Program = program_asking g.M.Machine.machine c.args.parts.now.program.image.now (notes_of parts.program.notes.now) parts.program.entry asked in
    let f : Frame = parts_frame p parts in
    let graph = c.in_ok-live.ensures.graph p (own_flags c.args.out c.requires.out) c.requires.graph in
    let of = frame_is g.M.Machine.machine c.args.parts.now.program.image.now (notes_of parts.program.notes.now) parts.program.entry asked parts c.in_ok-live.live
    c.in_ok-places.places.heads.items c.deref.result.now c.deref-2.result.now graph g.met.M.Machine.lawful c.bytes.ensures c.in_ok-places.ensures.heads
    c.deref.ensures.value (c.deref-2.ensures.value ∙ c.in_ok-places.ensures.stepped) in
    let v = c.in_ok-listed.listed in
    let are = c.in_ok-listed.ensures.keys f of in
    λ a h. subst (λ (l : List ℕ). Contains l a) (c.deref-2.ensures.value ∙ sym c.deref-8.ensures.value)
    (steps_stepped f c.args.k v.stacks.frames.items v.segments.items v.keys.items c.deref-3.result.now are c.deref-3.ensures.value c.deref.result.now
    c.deref-2.result.now c.in_ok-addresses.addresses.steps.items of.cuts c.in_ok-addresses.ensures.of_steps a
    (subst (λ (l : List ℕ). Contains l a) c.deref-6.ensures.value h))

pub literals_at-requires-clause-among : goal.literals_at-requires-clause-among
literals_at-requires-clause-among g c =
    let asked : ℕ → Bool = λ f. has_flag c.args.out f in
    let parts = c.args.parts.now in
    let p : Program = program_asking g.M.Machine.machine c.args.parts.now.program.image.now (notes_of parts.program.notes.now) parts.program.entry asked in
    let f : Frame = parts_frame p parts in
    let graph = c.in_ok-live.ensures.graph p (own_flags c.args.out c.requires.out) c.requires.graph in
    let of = frame_is g.M.Machine.machine c.args.parts.now.program.image.now (notes_of parts.program.notes.now) parts.program.entry asked parts c.in_ok-live.live
    c.in_ok-places.places.heads.items c.deref.result.now c.deref-2.result.now graph g.met.M.Machine.lawful c.bytes.ensures c.in_ok-places.ensures.heads
    c.deref.ensures.value (c.deref-2.ensures.value ∙ c.in_ok-places.ensures.stepped) in
    let v = c.in_ok-listed.listed in
    let are = c.in_ok-listed.ensures.keys f of in
    addresses_among f c.args.k v.stacks.frames.items v.segments.items v.keys.items c.deref-3.result.now are c.deref-3.ensures.value false c.in_ok-live.live c.in_ok-addresses.addresses.rows.items
    c.deref-9.result.now graph c.deref-9.ensures.value c.in_ok-addresses.ensures.of_rows

pub roots_of-requires-clause-sorted : goal.roots_of-requires-clause-sorted
roots_of-requires-clause-sorted g c =
    subst (λ (l : List (ℕ × ℕ)). IsNonDecreasingBy (λ x. x.0) l) (sym c.deref-12.ensures.value) c.in_ok-index.ensures.asserts.rising

pub points_of-requires-clause-sorted : goal.points_of-requires-clause-sorted
points_of-requires-clause-sorted g c =
    subst (λ (l : List (ℕ × ℕ)). IsNonDecreasingBy (λ x. x.0) l) (sym c.deref-15.ensures.value) c.in_ok-index.ensures.asserts.rising

pub roots_of-requires-clause-first : goal.roots_of-requires-clause-first
roots_of-requires-clause-first g c =
    let asked : ℕ → Bool = λ f. has_flag c.args.out f in
    let parts = c.args.parts.now in
    let p : Program = program_asking g.M.Machine.machine c.args.parts.now.program.image.now (notes_of parts.program.notes.now) parts.program.entry asked in
    let f : Frame = parts_frame p parts in
    let graph = c.in_ok-live.ensures.graph p (own_flags c.args.out c.requires.out) c.requires.graph in
    let of = frame_is g.M.Machine.machine c.args.parts.now.program.image.now (notes_of parts.program.notes.now) parts.program.entry asked parts c.in_ok-live.live
    c.in_ok-places.places.heads.items c.deref.result.now c.deref-2.result.now graph g.met.M.Machine.lawful c.bytes.ensures c.in_ok-places.ensures.heads
    c.deref.ensures.value (c.deref-2.ensures.value ∙ c.in_ok-places.ensures.stepped) in
    let v = c.in_ok-listed.listed in
    let are = c.in_ok-listed.ensures.keys f of in
    let begins = c.in_ok-called.ensures.begins in
    let frames = c.calls.new.stacks.frames.items in
    let segs = c.in_ok-listed.ensures.segments f of in
    let more = keys_grown f c.args.k v.stacks.frames.items begins.0 frames v.segments.items v.keys.items begins.1 segs are in
    let more_segs = segments_grown f c.args.k v.stacks.frames.items begins.0 frames v.segments.items v.keys.items begins.1 segs in
    let small : length frames < 2147483648 =
    (let a = ap length begins.1 in let b = length-append v.stacks.frames.items begins.0 in let l = begins.2 in let e = ap length c.deref-4.ensures.value in
    let n = c.in_ok-listed.ensures.few_stacks in let m = c.in_ok-listed.ensures.few in let x = c.requires.max in omega arith) in
    subst (λ (l : List ℕ). (n : ℕ) → n < length l → Contains c.deref-11.result.now (first_key parts.program.entry n (head_of (slice_index l n)))) (sym
    c.deref-10.ensures.value)
    (subst (λ (l : List ℕ). (n : ℕ) → n < length v.segments.items → Contains l (first_key parts.program.entry n (head_of (slice_index v.segments.items n))))
    (sym c.deref-11.ensures.value)
    (first_in f c.args.k frames c.calls.new.stacks.numbers v.segments.items v.keys.items parts.program.entry c.in_ok-called.ensures.table small more_segs more refl))

pub points_of-requires-clause-root : goal.points_of-requires-clause-root
points_of-requires-clause-root g c =
    let asked : ℕ → Bool = λ f. has_flag c.args.out f in
    let parts = c.args.parts.now in
    let p : Program = program_asking g.M.Machine.machine c.args.parts.now.program.image.now (notes_of parts.program.notes.now) parts.program.entry asked in
    let f : Frame = parts_frame p parts in
    let graph = c.in_ok-live.ensures.graph p (own_flags c.args.out c.requires.out) c.requires.graph in
    let of = frame_is g.M.Machine.machine c.args.parts.now.program.image.now (notes_of parts.program.notes.now) parts.program.entry asked parts c.in_ok-live.live
    c.in_ok-places.places.heads.items c.deref.result.now c.deref-2.result.now graph g.met.M.Machine.lawful c.bytes.ensures c.in_ok-places.ensures.heads
    c.deref.ensures.value (c.deref-2.ensures.value ∙ c.in_ok-places.ensures.stepped) in
    let v = c.in_ok-listed.listed in
    let are = c.in_ok-listed.ensures.keys f of in
    keys_rooted f c.args.k v.stacks.frames.items v.segments.items v.keys.items c.deref-16.result.now are c.deref-16.ensures.value
    (let s = c.in_ok-listed.ensures.short in let m = c.requires.max in omega arith)

pub points_of-requires-clause-low : goal.points_of-requires-clause-low
points_of-requires-clause-low g c =
    let asked : ℕ → Bool = λ f. has_flag c.args.out f in
    let parts = c.args.parts.now in
    let p : Program = program_asking g.M.Machine.machine c.args.parts.now.program.image.now (notes_of parts.program.notes.now) parts.program.entry asked in
    let f : Frame = parts_frame p parts in
    let graph = c.in_ok-live.ensures.graph p (own_flags c.args.out c.requires.out) c.requires.graph in
    let of = frame_is g.M.Machine.machine c.args.parts.now.program.image.now (notes_of parts.program.notes.now) parts.program.entry asked parts c.in_ok-live.live
    c.in_ok-places.places.heads.items c.deref.result.now c.deref-2.result.now graph g.met.M.Machine.lawful c.bytes.ensures c.in_ok-places.ensures.heads
    c.deref.ensures.value (c.deref-2.ensures.value ∙ c.in_ok-places.ensures.stepped) in
    let v = c.in_ok-listed.listed in
    let are = c.in_ok-listed.ensures.keys f of in
    keys_low f c.args.k v.stacks.frames.items v.segments.items v.keys.items c.deref-16.result.now are c.deref-16.ensures.value c.requires.k

pub points_of-requires-clause-among : goal.points_of-requires-clause-among
points_of-requires-clause-among g c =
    let asked : ℕ → Bool = λ f. has_flag c.args.out f in
    let parts = c.args.parts.now in
    let p : Program = program_asking g.M.Machine.machine c.args.parts.now.program.image.now (notes_of parts.program.notes.now) parts.program.entry asked in
    let f : Frame = parts_frame p parts in
    let graph = c.in_ok-live.ensures.graph p (own_flags c.args.out c.requires.out) c.requires.graph in
    let of = frame_is g.M.Machine.machine c.args.parts.now.program.image.now (notes_of parts.program.notes.now) parts.program.entry asked parts c.in_ok-live.live
    c.in_ok-places.places.heads.items c.deref.result.now c.deref-2.result.now graph g.met.M.Machine.lawful c.bytes.ensures c.in_ok-places.ensures.heads
    c.deref.ensures.value (c.deref-2.ensures.value ∙ c.in_ok-places.ensures.stepped) in
    let v = c.in_ok-listed.listed in
    let are = c.in_ok-listed.ensures.keys f of in
    among_graph f c.args.k v.stacks.frames.items v.segments.items v.keys.items c.deref-16.result.now are c.deref-16.ensures.value c.in_ok-live.live graph

pub points_of-requires-clause-coded : goal.points_of-requires-clause-coded
points_of-requires-clause-coded g c =
    keys_coded c.deref-13.result.now c.deref-14.result.now c.deref-3.result.now c.deref-16.result.now c.deref-5.result.now c.deref-6.result.now
    (c.deref-3.ensures.value ∙ sym c.deref-16.ensures.value)
    (subst (λ (l : List ℕ). (x : ℕ) → Contains (map address_of (filter (is_of false) c.deref-3.result.now)) x ↔ Contains l x) (sym c.deref-5.ensures.value)
    c.in_ok-addresses.ensures.of_rows)
    (subst (λ (l : List ℕ). (x : ℕ) → Contains (map address_of (filter (is_of true) c.deref-3.result.now)) x ↔ Contains l x) (sym c.deref-6.ensures.value)
    c.in_ok-addresses.ensures.of_steps)

-- what holds of the fault of too many points holds where it is handed on
handed_on : (g : given.Over) (c : goal.After-drop-live-in_err-listed g) (P : PointsFault → Type 0) → P c.in_err-listed.field-0.0 →
    IfErr c.from_residual-in_err-listed.result P
handed_on g c P more = search rules

pub returns-in_err-listed-clause-more : goal.returns-in_err-listed-clause-more
returns-in_err-listed-clause-more g c asked is =
    let parts = c.args.parts.now in
    let p : Program = program_asking g.M.Machine.machine c.args.parts.now.program.image.now (notes_of parts.program.notes.now) parts.program.entry asked in
    let graph = c.in_ok-live.ensures.graph p is c.requires.graph in
    let of = frame_is g.M.Machine.machine c.args.parts.now.program.image.now (notes_of parts.program.notes.now) parts.program.entry asked parts c.in_ok-live.live
    c.in_ok-places.places.heads.items c.deref.result.now c.deref-2.result.now graph g.met.M.Machine.lawful c.bytes.ensures c.in_ok-places.ensures.heads
    c.deref.ensures.value (c.deref-2.ensures.value ∙ c.in_ok-places.ensures.stepped) in
    handed_on g c (HasTooMany (parts_frame p parts) c.args.k c.args.max) (c.in_err-listed.ensures.more (parts_frame p parts) of)

-- what is made of a frame's points, and what is known of it
module _ (g : given.Over) (c : goal.After-drop-live-2 g) where
  abbrev parts : FrameParts g.row.M.Denot g.row.M-Insn.Denot g.row.M-State.Denot g.M.Machine g.M.State.View
  parts = c.args.parts.now

  abbrev keys : List ℕ
  keys = c.in_ok-listed.listed.keys.items

  abbrev segments : List ℕ
  segments = c.in_ok-listed.listed.segments.items

  abbrev rows : List ℕ
  rows = c.in_ok-addresses.addresses.rows.items

  abbrev steps : List ℕ
  steps = c.in_ok-addresses.addresses.steps.items

  abbrev heads : List ℕ
  heads = c.in_ok-places.places.heads.items

  abbrev stepped : List ℕ
  stepped = c.in_ok-places.places.stepped.items

  abbrev old : List stack.Frame
  old = c.in_ok-listed.listed.stacks.frames.items

  abbrev frames : List stack.Frame
  frames = c.calls.new.stacks.frames.items

  abbrev over : List contracts.Contract
  over = map contract_of parts.contracts.now

  abbrev made : Unrolled
  made = record {
    form = c.layout.result;
    big = parts.program.big;
    narrow = c.is_narrow.result;
    link = c.link.result;
    entry = parts.program.entry;
    notes = parts.program.notes;
    invariants = parts.invariants;
    heads = not c.is_empty.result;
    stepped = parts.stepped;
    own = parts.own;
    asserts = c.in_ok-index.index.asserts;
    kept = c.kept.result;
    known = c.in_ok-known.known.runs;
    literals = c.in_ok-literals.literals;
    frames = c.calls.new.stacks.frames;
    roots = c.in_ok-roots.roots;
    codes = c.in_ok-codes.codes;
    points = c.in_ok-placed.placed.points;
    edges = c.in_ok-placed.placed.edges;
  }

  fitted : IsFitted g.M.Machine.machine (layout_of c.layout.result)
  fitted = subst (λ (z : Layout). IsFitted g.M.Machine.machine z) (sym c.layout.ensures) g.met.M.Machine.fitted

  form : HasForm g.M.Machine.machine made
  form = forms_are_right g.M.Machine.machine made fitted

  small : length frames < 2147483648
  small =
      let begins = c.in_ok-called.ensures.begins in
      let a = ap length begins.1 in
      let b = length-append old begins.0 in
      let l = begins.2 in
      let e = ap length c.deref-4.ensures.value in
      let n = c.in_ok-listed.ensures.few_stacks in
      let m = c.in_ok-listed.ensures.few in
      let x = c.requires.max in
      omega arith

module _ (g : given.Over) (c : goal.After-drop-live-2 g) (asked : ℕ → Bool) (is : IsFlagSet c.args.out asked) where
  abbrev program : Program
  program = program_asking g.M.Machine.machine c.args.parts.now.program.image.now (notes_of (parts g c).program.notes.now) (parts g c).program.entry asked

  abbrev frame : Frame
  frame = parts_frame program (parts g c)

  graph : IsGraph program c.in_ok-live.live
  graph = c.in_ok-live.ensures.graph program is c.requires.graph

  of_lent : (lent steps : List ℕ) → lent ≡ heads g c → steps ≡ stepped g c → IsFrameOf frame c.in_ok-live.live lent steps (parts g c).program.entry
  of_lent lent steps e d =
      frame_is g.M.Machine.machine c.args.parts.now.program.image.now (notes_of (parts g c).program.notes.now) (parts g c).program.entry asked (parts g c) c.in_ok-live.live (heads g c) lent steps
      graph g.met.M.Machine.lawful c.bytes.ensures c.in_ok-places.ensures.heads e (d ∙ c.in_ok-places.ensures.stepped)

  old_of : IsFrameOf frame c.in_ok-live.live c.deref.result.now c.deref-2.result.now (parts g c).program.entry
  old_of = of_lent c.deref.result.now c.deref-2.result.now c.deref.ensures.value c.deref-2.ensures.value

  old_segs : AreSegments frame c.args.k (old g c) (segments g c)
  old_segs = c.in_ok-listed.ensures.segments frame old_of

  old_keys : AreKeys frame c.args.k (old g c) (segments g c) (keys g c)
  old_keys = c.in_ok-listed.ensures.keys frame old_of

  calls : AreCalled c.in_ok-live.live (keys g c) (frames g c) (length (keys g c)) c.in_ok-called.called.items
  calls = subst (λ (l : List ℕ). AreCalled c.in_ok-live.live l (frames g c) (length l) c.in_ok-called.called.items) c.deref-4.ensures.value
      c.in_ok-called.ensures.called

  codes : AreAllCodes program g.M.Machine.bank (over g c) (parts g c).stepped.now (stepped g c) (rows g c) (steps g c) (made g c).asserts.items
      (made g c).codes.items
  codes =
      subst (λ (l : List ℕ). AreAllCodes program g.M.Machine.bank (over g c) (parts g c).stepped.now l (rows g c) (steps g c) (made g c).asserts.items
      (made g c).codes.items) c.deref-8.ensures.value
      (subst (λ (l : List ℕ). AreAllCodes program g.M.Machine.bank (over g c) (parts g c).stepped.now c.deref-8.result.now l (steps g c)
      (made g c).asserts.items (made g c).codes.items) c.deref-5.ensures.value
      (subst (λ (l : List ℕ). AreAllCodes program g.M.Machine.bank (over g c) (parts g c).stepped.now c.deref-8.result.now c.deref-5.result.now l
      (made g c).asserts.items (made g c).codes.items) c.deref-6.ensures.value
      (subst (λ (l : List (ℕ × ℕ)). AreAllCodes program g.M.Machine.bank (over g c) (parts g c).stepped.now c.deref-8.result.now c.deref-5.result.now
      c.deref-6.result.now l (made g c).codes.items) c.deref-7.ensures.value
      (c.in_ok-codes.ensures (notes_of (parts g c).program.notes.now) (parts g c).program.entry asked (over g c) graph
      (c.in_ok-live.ensures.frames program is c.requires.graph)))))

  placed : ArePlaced c.in_ok-live.live (heads g c) (stepped g c) (made g c).asserts.items (frames g c) (keys g c) (rows g c) (steps g c)
      c.in_ok-called.called.items (length (keys g c)) (made g c).points.items (made g c).edges.items
  placed =
      placed_as c.in_ok-live.live c.deref-13.result.now (heads g c) c.deref-14.result.now (stepped g c) c.deref-15.result.now (made g c).asserts.items
      c.deref-17.result.now (frames g c) c.deref-16.result.now (keys g c) c.deref-5.result.now (rows g c) c.deref-6.result.now (steps g c)
      c.deref-18.result.now c.in_ok-called.called.items (made g c).points.items (made g c).edges.items c.deref-13.ensures.value c.deref-14.ensures.value
      c.deref-15.ensures.value c.deref-17.ensures.value c.deref-16.ensures.value c.deref-5.ensures.value c.deref-6.ensures.value c.deref-18.ensures.value
      c.in_ok-placed.ensures

  roots : AreRoots (segments g c) (keys g c) (made g c).asserts.items (parts g c).program.entry (length (segments g c)) (made g c).roots.items
  roots =
      subst (λ (l : List ℕ). AreRoots l (keys g c) (made g c).asserts.items (parts g c).program.entry (length l) (made g c).roots.items) c.deref-10.ensures.value
      (subst (λ (l : List ℕ). AreRoots c.deref-10.result.now l (made g c).asserts.items (parts g c).program.entry (length c.deref-10.result.now)
      (made g c).roots.items) c.deref-11.ensures.value
      (subst (λ (l : List (ℕ × ℕ)). AreRoots c.deref-10.result.now c.deref-11.result.now l (parts g c).program.entry (length c.deref-10.result.now)
      (made g c).roots.items) c.deref-12.ensures.value c.in_ok-roots.ensures))

  abbrev Made : Type 0
  Made = IsMade frame (over g c) c.args.k g.M.Machine.bank c.in_ok-live.live (made g c) c.calls.new.stacks.numbers (heads g c) (stepped g c)
      (segments g c) (keys g c) (rows g c) (steps g c) c.in_ok-called.called.items

  is_made : Made
  is_made =
      let begins = c.in_ok-called.ensures.begins in
      record {
        of = of_lent (heads g c) (stepped g c) refl refl;
        low = c.requires.k;
        own = refl;
        over = refl;
        ats = c.in_ok-places.ensures.stepped;
        cuts = refl;
        invariants = refl;
        fitted = fitted g c;
        registers = λ r. (form g c).registers r;
        flags = λ f. (form g c).flags f;
        table = c.in_ok-called.ensures.table;
        few = small g c;
        segs = segments_grown frame c.args.k (old g c) begins.0 (frames g c) (segments g c) (keys g c) begins.1 old_segs;
        are = keys_grown frame c.args.k (old g c) begins.0 (frames g c) (segments g c) (keys g c) begins.1 old_segs old_keys;
        calls = calls;
        codes = codes;
        placed = placed;
        roots = roots;
        index = c.in_ok-index.ensures.asserts.order;
        noted = refl;
      }

  literals_is : (a : ℕ) → Contains c.in_ok-literals.literals.items a ↔ IsLiteralOf frame c.args.k a
  literals_is =
      literals_are frame (over g c) c.args.k g.M.Machine.bank c.in_ok-live.live (made g c) c.calls.new.stacks.numbers (heads g c) (stepped g c)
      (segments g c) (keys g c) (rows g c) (steps g c) c.in_ok-called.called.items is_made c.in_ok-literals.literals.items
      (subst (λ (l : List ℕ). (x : ℕ) → Contains (map address_of (filter (is_of false) l)) x ↔ Contains (rows g c) x) c.deref-3.ensures.value
      c.in_ok-addresses.ensures.of_rows)
      (subst (λ (l : List ℕ). AreLiterals program l (length l) c.in_ok-literals.literals.items) c.deref-9.ensures.value
      (c.in_ok-literals.ensures (notes_of (parts g c).program.notes.now) (parts g c).program.entry asked graph))

  unrolling : IsUnrolling frame (over g c) c.args.k (frame_unrolled_of (made g c))
  unrolling =
      let runs = kept_runs_are_right c.args.parts.now.program.image.now c.kept.result.now c.kept.ensures.runs (λ i w. (c.kept.ensures.words i w).1) in
      let count = size frame (over g c) c.args.k g.M.Machine.bank c.in_ok-live.live (made g c) c.calls.new.stacks.numbers (heads g c) (stepped g c)
      (segments g c) (keys g c) (rows g c) (steps g c) c.in_ok-called.called.items is_made in
      record {
        endian = c.args.parts.now.program.big_is;
        narrow = c.is_narrow.ensures;
        registers = λ r. (form g c).registers r;
        registers_rise = (form g c).rise;
        flags = λ f. (form g c).flags f;
        link = c.link.ensures;
        entry = refl;
        requires = refl;
        ensures = refl;
        own = refl;
        kept = runs.0;
        runs = runs.1;
        kept_runs =
            subst (λ (z : ℕ). IsCount (begins_run program) z) (sym (length-map c.kept.result.now kept_of))
            (run_starts c.args.parts.now.program.image.now c.kept.result.now c.kept.ensures.runs (λ i w. (c.kept.ensures.words i w).0) g.M.Machine.machine
            (notes_of (parts g c).program.notes.now) (parts g c).program.entry);
        known = λ a w. c.in_ok-known.ensures.bytes g.M.Machine.machine (parts g c).program.entry a w;
        known_bytes =
            subst (λ (z : ℕ). IsCount (is_known_at program) z) (sym c.in_ok-known.ensures.sum)
            (c.in_ok-known.ensures.count g.M.Machine.machine (parts g c).program.entry);
        literals = literals_is;
        points = are_points frame (over g c) c.args.k g.M.Machine.bank c.in_ok-live.live (made g c) c.calls.new.stacks.numbers (heads g c) (stepped g c)
            (segments g c) (keys g c) (rows g c) (steps g c) c.in_ok-called.called.items is_made;
        first = first frame (over g c) c.args.k g.M.Machine.bank c.in_ok-live.live (made g c) c.calls.new.stacks.numbers (heads g c) (stepped g c)
            (segments g c) (keys g c) (rows g c) (steps g c) c.in_ok-called.called.items is_made;
        roots = roots_are frame (over g c) c.args.k g.M.Machine.bank c.in_ok-live.live (made g c) c.calls.new.stacks.numbers (heads g c) (stepped g c)
            (segments g c) (keys g c) (rows g c) (steps g c) c.in_ok-called.called.items is_made;
        rooted = rooted frame (over g c) c.args.k g.M.Machine.bank c.in_ok-live.live (made g c) c.calls.new.stacks.numbers (heads g c) (stepped g c)
            (segments g c) (keys g c) (rows g c) (steps g c) c.in_ok-called.called.items is_made;
        roots_once = roots_once frame (over g c) c.args.k g.M.Machine.bank c.in_ok-live.live (made g c) c.calls.new.stacks.numbers (heads g c) (stepped g c)
            (segments g c) (keys g c) (rows g c) (steps g c) c.in_ok-called.called.items is_made;
        places = λ i w. places frame (over g c) c.args.k g.M.Machine.bank c.in_ok-live.live (made g c) c.calls.new.stacks.numbers (heads g c) (stepped g c)
            (segments g c) (keys g c) (rows g c) (steps g c) c.in_ok-called.called.items is_made i (omega arith);
      }

pub returns-clause-unrolled : goal.returns-clause-unrolled
returns-clause-unrolled g c = unrolling g c

pub returns-clause-lists : goal.returns-clause-lists
returns-clause-lists g c asked is =
    lists (frame g c asked is) (over g c) c.args.k g.M.Machine.bank c.in_ok-live.live (made g c) c.calls.new.stacks.numbers (heads g c)
    (stepped g c) (segments g c) (keys g c) (rows g c) (steps g c) c.in_ok-called.called.items (is_made g c asked is)

pub returns-clause-lean : goal.returns-clause-lean
returns-clause-lean g c asked is =
    lean (frame g c asked is) (over g c) c.args.k g.M.Machine.bank c.in_ok-live.live (made g c) c.calls.new.stacks.numbers (heads g c)
    (stepped g c) (segments g c) (keys g c) (rows g c) (steps g c) c.in_ok-called.called.items (is_made g c asked is)

pub returns-clause-formed : goal.returns-clause-formed
returns-clause-formed g c =
    let asked : ℕ → Bool = λ f. has_flag c.args.out f in
    let is = own_flags c.args.out c.requires.out in
    formed (frame g c asked is) (over g c) c.args.k g.M.Machine.bank c.in_ok-live.live (made g c) c.calls.new.stacks.numbers (heads g c)
    (stepped g c) (segments g c) (keys g c) (rows g c) (steps g c) c.in_ok-called.called.items (is_made g c asked is)
    (λ i d w. (let q = (c.in_ok-index.ensures.asserts.only i d w).0 in let l = length-map (parts g c).program.notes.now.asserts.items (λ a. a.at) in omega arith))

pub returns-clause-roots : goal.returns-clause-roots
returns-clause-roots g c =
    let asked : ℕ → Bool = λ f. has_flag c.args.out f in
    let is = own_flags c.args.out c.requires.out in
    roots_formed (frame g c asked is) (over g c) c.args.k g.M.Machine.bank c.in_ok-live.live (made g c) c.calls.new.stacks.numbers (heads g c)
    (stepped g c) (segments g c) (keys g c) (rows g c) (steps g c) c.in_ok-called.called.items (is_made g c asked is)

pub returns-clause-steps : goal.returns-clause-steps
returns-clause-steps g c =
    let asked : ℕ → Bool = λ f. has_flag c.args.out f in
    let is = own_flags c.args.out c.requires.out in
    steps_formed (frame g c asked is) (over g c) c.args.k g.M.Machine.bank c.in_ok-live.live (made g c) c.calls.new.stacks.numbers (heads g c)
    (stepped g c) (segments g c) (keys g c) (rows g c) (steps g c) c.in_ok-called.called.items (is_made g c asked is)

pub returns-clause-addresses : goal.returns-clause-addresses
returns-clause-addresses g c =
    let asked : ℕ → Bool = λ f. has_flag c.args.out f in
    let is = own_flags c.args.out c.requires.out in
    words (frame g c asked is) (over g c) c.args.k g.M.Machine.bank c.in_ok-live.live (made g c) c.calls.new.stacks.numbers (heads g c)
    (stepped g c) (segments g c) (keys g c) (rows g c) (steps g c) c.in_ok-called.called.items (is_made g c asked is)

pub returns-clause-form : goal.returns-clause-form
returns-clause-form g c = form g c

heads_are : (g : given.Over) (c : goal.After-drop-live-2 g) → (made g c).heads ≡ has_heads (frame g c (λ f. has_flag c.args.out f) (own_flags c.args.out
    c.requires.out))
heads_are g c =
    heads_flag (frame g c (λ f. has_flag c.args.out f) (own_flags c.args.out c.requires.out)) (heads g c) refl c.in_ok-places.ensures.heads c.is_empty.result
    (c.is_empty.ensures ∙ ap (λ (n : ℕ). n == 0) c.in_ok-places.places.heads.ok.0)

pub returns-clause-heads : goal.returns-clause-heads
returns-clause-heads g c = heads_are g c

pub returns-clause-own : goal.returns-clause-own
returns-clause-own g c =
    let asked : ℕ → Bool = λ f. has_flag c.args.out f in
    let is = own_flags c.args.out c.requires.out in
    own_roots (frame g c asked is) (over g c) c.args.k g.M.Machine.bank c.in_ok-live.live (made g c) c.calls.new.stacks.numbers (heads g c)
    (stepped g c) (segments g c) (keys g c) (rows g c) (steps g c) c.in_ok-called.called.items (is_made g c asked is)

pub returns-clause-first : goal.returns-clause-first
returns-clause-first g c =
    let asked : ℕ → Bool = λ f. has_flag c.args.out f in
    let is = own_flags c.args.out c.requires.out in
    entry_first (frame g c asked is) (over g c) c.args.k g.M.Machine.bank c.in_ok-live.live (made g c) c.calls.new.stacks.numbers (heads g c)
    (stepped g c) (segments g c) (keys g c) (rows g c) (steps g c) c.in_ok-called.called.items (is_made g c asked is)

pub returns-clause-headed : goal.returns-clause-headed
returns-clause-headed g c none =
    let asked : ℕ → Bool = λ f. has_flag c.args.out f in
    let is = own_flags c.args.out c.requires.out in
    no_head_roots (frame g c asked is) (over g c) c.args.k g.M.Machine.bank c.in_ok-live.live (made g c) c.calls.new.stacks.numbers (heads g c)
    (stepped g c) (segments g c) (keys g c) (rows g c) (steps g c) c.in_ok-called.called.items (is_made g c asked is) (sym (heads_are g c) ∙ none)

pub returns-clause-headless : goal.returns-clause-headless
returns-clause-headless g c e step own =
    let asked : ℕ → Bool = λ f. has_flag c.args.out f in
    let is = own_flags c.args.out c.requires.out in
    let none = no_heads (parts g c).invariants.now (notes_of (parts g c).program.notes.now).asserts (heads g c) e c.in_ok-places.ensures.heads in
    record {
      invariants = e;
      heads = heads_are g c ∙ heads_none (frame g c asked is) (heads g c) refl c.in_ok-places.ensures.heads none;
      own = own;
      roots = one_root (frame g c asked is) (over g c) c.args.k g.M.Machine.bank c.in_ok-live.live (made g c) c.calls.new.stacks.numbers (heads g c)
          (stepped g c) (segments g c) (keys g c) (rows g c) (steps g c) c.in_ok-called.called.items (is_made g c asked is) none;
      deeds = no_arrivals (frame g c asked is) (over g c) c.args.k g.M.Machine.bank c.in_ok-live.live (made g c) c.calls.new.stacks.numbers (heads g c)
          (stepped g c) (segments g c) (keys g c) (rows g c) (steps g c) c.in_ok-called.called.items (is_made g c asked is) none (ap (map contract_of) step);
      edges = no_aims (frame g c asked is) (over g c) c.args.k g.M.Machine.bank c.in_ok-live.live (made g c) c.calls.new.stacks.numbers (heads g c)
          (stepped g c) (segments g c) (keys g c) (rows g c) (steps g c) c.in_ok-called.called.items (is_made g c asked is) none;
    }
