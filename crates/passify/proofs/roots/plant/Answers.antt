use Rattle.std.proofs.Common.{◌<◌, ◌∙◌, ℕ, List, refl, sym, ap, subst, arith, length}
use Rattle.std.specs.Prelude.{slice_index_or, slice_range}
use Rattle.bilv_spec.specs.Notes.{Expr}
use Rattle.term_spec.specs.Terms.{ConstantNode}
use Rattle.term_dag.proofs.Growth.{interned_grew}
use Rattle.question_form.specs.declared.unrolled.Code.{Code}
use Rattle.question_form.specs.declared.unrolled.Point.{Point}
use Rattle.question_form.specs.FrameViews.{root_of}
use Rattle.passify.specs.Edges.{AreRead}
use Rattle.passify.specs.Planted.{assumed_lines, assumed_of}
use Rattle.passify.specs.Rows.{is_of_head}
use Rattle.passify.proofs.Begun.{planted, root_among, terms_begin}
use Rattle.passify.proofs.Joined.{form_back}
use Rattle.passify.proofs.Kept.{names_keep}
use Rattle.passify.proofs.Planted.{said_assumed}
use Rattle.passify.proofs.Standing.{own_is, places_in, says_read}
use Rattle.passify.proofs.roots.plant.Goals as goal

pub index-requires : goal.index-requires
index-requires c =
    omega (arith, (c.requires.roots.places c.index-root.result.now (c.args.root, c.requires.root, sym c.index-root.ensures)).0, c.args.unrolled.now.points.ok.0)

pub index-code-requires : goal.index-code-requires
index-code-requires c =
    let u = c.args.unrolled.now in
    let within = (c.requires.roots.places c.index-root.result.now (c.args.root, c.requires.root, sym c.index-root.ensures)).0 in
    let code : c.index.result.now.code < length u.codes.items = subst (λ (z : Point). z.code < length u.codes.items) (sym c.index.ensures)
    (c.requires.formed.codes c.index-root.result.now.place c.index.result.now within) in
    omega (arith, code, u.codes.ok.0)

pub part_of-requires-clause-place : goal.part_of-requires-clause-place
part_of-requires-clause-place c = (c.requires.roots.places c.index-root.result.now (c.args.root, c.requires.root, sym c.index-root.ensures)).0

pub entries-index-requires : goal.entries-index-requires
entries-index-requires c = (c.requires.roots.places c.index-root.result.now (c.args.root, c.requires.root, sym c.index-root.ensures)).1

pub assumed-requires-clause-places : goal.assumed-requires-clause-places
assumed-requires-clause-places c =
    let u = c.args.unrolled.now in
    subst (λ (z : List (ℕ × ℕ)). (i : ℕ) → i < length z → (slice_index_or z i (0, 0)).1 < length u.notes.now.asserts.items) (sym c.entries-index.ensures)
    (places_in u c.requires.formed c.index-root.result.now.asserts
    (c.requires.roots.places c.index-root.result.now (c.args.root, c.requires.root, sym c.index-root.ensures)).1)

pub assumed-requires-clause-reads : goal.assumed-requires-clause-reads
assumed-requires-clause-reads c =
    let u = c.args.unrolled.now in
    let x = c.index-root.result.now in
    let k = c.requires.planted in
    let n = c.in_ok-names.names in
    let terms = terms_begin (is_of_head u x.place) c.args.dag.now c.args.sweep.now c.args.head.now n k.well k.head_terms c.in_ok-names.ensures in
    subst (λ (z : List (ℕ × ℕ)). AreRead n (assumed_lines u z)) (sym c.entries-index.ensures)
    (subst (λ (es : List Expr). AreRead n es) (said_assumed (assumed_of u (slice_range u.asserts.items x.asserts.0 x.asserts.1)))
    (says_read u c.args.sweep.now n (root_of u x).assumes k.sweep terms.same
    (c.requires.walkable.assumes (root_of u x) (root_among u c.args.root x c.requires.root c.index-root.ensures))))

pub assumed-requires-clause-same : goal.assumed-requires-clause-same
assumed-requires-clause-same c =
    let k = c.requires.planted in
    form_back c.args.sweep.now.entry c.in_ok-names.names
    (terms_begin (is_of_head c.args.unrolled.now c.index-root.result.now.place) c.args.dag.now c.args.sweep.now c.args.head.now c.in_ok-names.names k.well
    k.head_terms c.in_ok-names.ensures).same

pub assumed-requires-clause-now : goal.assumed-requires-clause-now
assumed-requires-clause-now c =
    let k = c.requires.planted in
    names_keep (interned_grew c.args.dag.now c.keep.new.self (ConstantNode 32 c.from.result) c.in_ok-pc.pc.0 c.in_ok-pc.ensures) c.in_ok-names.names
    (terms_begin (is_of_head c.args.unrolled.now c.index-root.result.now.place) c.args.dag.now c.args.sweep.now c.args.head.now c.in_ok-names.names k.well
    k.head_terms c.in_ok-names.ensures).names

pub assumed-requires-clause-entry : goal.assumed-requires-clause-entry
assumed-requires-clause-entry c =
    names_keep (interned_grew c.args.dag.now c.keep.new.self (ConstantNode 32 c.from.result) c.in_ok-pc.pc.0 c.in_ok-pc.ensures) c.args.sweep.now.entry
    c.requires.planted.well.entry

pub index_mut-requires : goal.index_mut-requires
index_mut-requires c =
    let within = (c.requires.roots.places c.index-root.result.now (c.args.root, c.requires.root, sym c.index-root.ensures)).0 in
    omega (arith, within, c.requires.planted.sweep.places, c.args.sweep.now.met.ok.0)

pub index_mut-requires-2 : goal.index_mut-requires-2
index_mut-requires-2 c =
    let within = (c.requires.roots.places c.index-root.result.now (c.args.root, c.requires.root, sym c.index-root.ensures)).0 in
    omega (arith, within, c.requires.planted.sweep.places, c.requires.planted.well.count, c.args.sweep.now.states.ok.0)

pub returns : goal.returns
returns c =
    let u = c.args.unrolled.now in
    let x = c.index-root.result.now in
    let within = (c.requires.roots.places x (c.args.root, c.requires.root, sym c.index-root.ensures)).0 in
    let own = own_is u x.place c.index.result.now c.index-code.result.now c.requires.formed within c.index.ensures c.index-code.ensures in
    planted u c.args.root c.args.dag.now c.keep.new.self c.assumed.new.dag c.args.sweep.now _ c.args.head.now c.in_ok-names.names c.args.yes.0 c.from.result
    c.in_ok-pc.pc.0 c.in_ok-bit.bit x _ _ c.requires.roots c.requires.headed c.requires.walkable.rooted c.requires.root c.index-root.ensures c.requires.planted
    (c.from.ensures ∙ ap (λ (k : Code). k.at) own) c.in_ok-pc.ensures c.in_ok-names.ensures refl refl refl refl _
    (ap (assumed_lines u) c.entries-index.ensures) c.in_ok-bit.ensures
    (record {
      within = (let p = c.requires.planted.sweep.places in omega (arith, within, p));
      entry = refl;
      pc = refl;
      at = refl;
      met = refl;
      states = refl;
      fails = refl;
      steps = refl;
      turns = refl;
      own = refl;
    })
