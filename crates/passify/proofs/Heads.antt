-- Where the segment of a point begins.
use Rattle.std.proofs.Common.{◌≡◌, ℕ, ◌<◌, Bool, true, false, List, Option, Some, None, length, get_or, refl, ap, sym, ◌∙◌, not, Contains}
use Rattle.std.specs.Prelude.{is_some, slice_index_or}
use Rattle.std.proofs.lemmas.List.Elements.{Contains-get_or}
use Rattle.frame_spec.specs.FramePoints.{is_entry}
use Rattle.program_points.specs.Listed.{anchor_of}
use Rattle.program_points.specs.Tables.{stacks_of}
use Rattle.question_form.specs.declared.unrolled.Point.{Point}
use Rattle.question_form.specs.declared.unrolled.Root.{Root}
use Rattle.question_form.specs.declared.unrolled.Unrolled.{Unrolled}
use Rattle.question_form.specs.FrameViews.{anchor_at, no_root}
use Rattle.question_form.specs.Forms.{AreRootsFormed}
use Rattle.passify.specs.Planted.{AreHeaded}
use Rattle.passify.specs.Rows.{is_of_head, no_point, own_point}
use Rattle.passify.proofs.Pushed.{other_default}

no_true : true ≡ false → ⊥
no_true e = cc

head_by : (stacks : List (List ℕ)) (o : Option _) → is_some o ≡ not (is_entry (anchor_of stacks o))
head_by stacks None = refl
head_by stacks (Some r) = refl

module _ (u : Unrolled) (i : ℕ) (q : Point) (roots : AreRootsFormed u) (within : i < length u.points.items) (at : q ≡ get_or u.points.items i q) where
  pub root_within : q.root < length u.roots.items
  root_within = roots.points q (i, within, sym at)

  pub own_point_is : q ≡ own_point u i
  own_point_is = at ∙ other_default u.points.items i q no_point within

  -- whether its segment begins at a head
  pub head_is : (x : Root) → x ≡ get_or u.roots.items q.root x → is_some x.head ≡ is_of_head u i
  head_is x is =
      head_by (stacks_of u.frames.items) x.head
      ∙ ap (λ (z : Root). not (is_entry (anchor_of (stacks_of u.frames.items) z.head))) (is ∙ other_default u.roots.items q.root x no_root root_within)
      ∙ ap (λ (z : Point). not (is_entry (anchor_at u z.root))) own_point_is

-- a segment begins at a head only where the frame has one
pub some_head : (u : Unrolled) (i : ℕ) → AreRootsFormed u → AreHeaded u → i < length u.points.items → is_of_head u i ≡ true → u.heads ≡ true
some_head u i roots headed within e = by u.heads refl
  where
    root : Root
    root = slice_index_or u.roots.items (own_point u i).root no_root

    among : Contains u.roots.items root
    among = Contains-get_or u.roots.items (own_point u i).root no_root (roots.points (own_point u i) (Contains-get_or u.points.items i no_point within))

    no_head : root.head ≡ None → ⊥
    no_head h = no_true (sym e ∙ ap (λ o. not (is_entry (anchor_of (stacks_of u.frames.items) o))) h)

    by : (b : Bool) → u.heads ≡ b → b ≡ true
    by true h = refl
    by false h = absurd (no_head (headed h root among))
