-- What making terms asks of a list.
use Rattle.std.specs.Prelude.{◌≡◌, Bool, true}
use Rattle.machine_spec.specs.Bil.{Bits, BilVariable, Statements, Empty, Assign, JumpTo, Raise, Special, While, If, type_of}
use Rattle.bil_eval.specs.Checked.{IsChecked}
use Rattle.bil_terms.specs.Lowered.{IsSteady}

-- a well typed list over known variables, without loops and specials, of whose choices none is between memories and none has a store in a side
abbrev pub CanLead : Statements → (BilVariable → Bool) → Type 0
CanLead Empty known = Unit {0}
CanLead (Assign x e rest) known = (known x ≡ true) × IsChecked e (type_of x) known × IsSteady e × CanLead rest known
CanLead (JumpTo e rest) known = IsChecked e (Bits 32) known × IsSteady e × CanLead rest known
CanLead (Raise n rest) known = CanLead rest known
CanLead (Special t rest) known = ⊥
CanLead (While e body rest) known = ⊥
CanLead (If e a b rest) known = IsChecked e (Bits 1) known × IsSteady e × CanLead a known × CanLead b known × CanLead rest known
