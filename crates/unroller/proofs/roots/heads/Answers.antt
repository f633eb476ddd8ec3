use Rattle.std.proofs.Common.{◌≡◌, ℕ, List, length, get_or, ap, sym, ◌∙◌, subst, arith, ◌++◌, ◌<◌, [], ◌∷◌, map}
use Rattle.std.specs.Prelude.{Contains, ◌↔◌}
use Rattle.notes_value.specs.declared.notes.Assert.{Assert}
use Rattle.notes_value.specs.NoteViews.{assert_of}
use Rattle.unroller.specs.Heads.{is_line, head_places}
use Rattle.unroller.proofs.Heading.{heads_found, heads_passed, heads_all}
use Rattle.unroller.proofs.roots.heads.Goals as goal
use Rattle.unroller.proofs.roots.heads.Goals.{then-is_line+in_ok-push, else-is_line}

pub loop-line-preserved : goal.loop-line-preserved
loop-line-preserved c =
    let xs = c.args.notes.now.asserts.items in
    let inv = c.args.invariants.now in
    let i = c.loop-line.line-index in
    let d = c.line-item.result in
    let here : d ≡ get_or xs i d = c.line-item.is ∙ ap (λ (l : List Assert). get_or l i d) c.deref-line-items.ensures.value in
    let all = head_places inv (map assert_of xs) in
    let within : i < length xs = (let e = ap length c.deref-line-items.ensures.value in let t = c.loop-line-test.true in omega arith) in
    let test = c.is_line.ensures ∙ ap (λ (a : Assert). is_line inv (assert_of a)) here in
    elim c.if-is_line.branch [
      | then-is_line+in_ok-push w ↦
          rw (w.found-is)
          (heads_found inv xs i d within c.loop-line.found.items all c.loop-line.invariant (sym test ∙ w.if-is_line.true) w.push.new.self.items
          (w.in_ok-push.ensures.items ∙ ap (λ (a : Assert). c.loop-line.found.items ++ a.at ∷ []) here))
      | else-is_line w ↦ rw (w.found-is) (heads_passed inv xs i d within c.loop-line.found.items all c.loop-line.invariant (sym test ∙ w.if-is_line.false))
    ]

pub returns : goal.returns
returns c =
    subst (λ (l : List ℕ). (x : ℕ) → Contains l x ↔ Contains c.in_ok-ordered.ordered.items x)
    (heads_all c.args.invariants.now c.args.notes.now.asserts.items c.loop-line.line-index c.loop-line.found.items
    (let e = ap length c.deref-line-items.ensures.value in let t = c.loop-line-test.false in omega arith) c.loop-line.invariant)
    c.in_ok-ordered.ensures.same
