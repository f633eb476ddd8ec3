-- What is said of a side of its program on its machine.
use Rattle.std.proofs.Common.{◌≡◌, sym, subst}
use Rattle.bilv_spec.specs.Run.{Program}
use Rattle.machine_spec.specs.StateText as texts
use Rattle.pair_sides.specs.Sides.{program_of_side}
use Rattle.pair_sides.specs.declared.sides.Sided.{Sided}
use Rattle.start_value.specs.Starts.{layout_of}

-- what holds of the program on the machine holds of the side, and back
module _ (s : Sided) (here : Program) (form : texts.Layout) (is : here ≡ program_of_side s) (is_form : layout_of s.layout ≡ form) where
  pub to_side : (Claim : Program → texts.Layout → Type 0) → Claim here form → Claim (program_of_side s) (layout_of s.layout)
  to_side Claim h = subst (λ (p : Program). Claim p (layout_of s.layout)) is (subst (Claim here) (sym is_form) h)

  pub from_side : (Claim : Program → texts.Layout → Type 0) → Claim (program_of_side s) (layout_of s.layout) → Claim here form
  from_side Claim h = subst (Claim here) is_form (subst (λ (p : Program). Claim p (layout_of s.layout)) (sym is) h)
