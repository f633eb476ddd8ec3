-- The machine's registers and flags in tables of names.
use Rattle.std.proofs.Common.{◌≡◌, ℕ, refl, subst, List, [], ◌∷◌, Option, Some, None, Bool, true, false, ◌&&◌, if◌then◌else◌, bytes_eq}
use Rattle.std.specs.Prelude.{IfSome}
use Rattle.std.specs.List.{list_all}
use Rattle.word_spec.specs.Memory.{Little}
use Rattle.word_spec.specs.Profiles.{V4}
use Rattle.machine_spec.specs.RvMachine.{rv32}
use Rattle.machine_spec.specs.Arm.{arm}
use Rattle.bilv_spec.specs.Notes.{Expr, Register, Flag}
use Rattle.notes_spec.specs.RvNames.{name_in, rv_table}
use Rattle.notes_spec.specs.ArmNames.{arm_table}
use Rattle.start_value.specs.declared.layout.Layout.{Layout}
use Rattle.start_value.specs.declared.layout.Layout.TheVariants.{Rv32, Arm}
use Rattle.notes_lang.specs.Parsing.{layout_names}
use Rattle.links_lang.specs.declared.links.Named.{Named}
use Rattle.links_lang.specs.declared.links.Named.TheVariants as named
use Rattle.links_lang.specs.Views.{IsOfForm}
use Rattle.links_lang.specs.Naming.{IsMeaning}

-- a register or a flag of the machine
abbrev has : (has_register has_flag : ℕ → Bool) → Expr → Bool
has has_register has_flag (Register r) = has_register r
has has_register has_flag (Flag f) = has_flag f
has has_register has_flag _ = true

in_row : (test : Expr → Bool) (here tested others : Bool) (x e : Expr) (later : Option Expr) → test x ≡ tested → (tested && others) ≡ true →
    (others ≡ true → later ≡ Some e → test e ≡ true) → (if here then Some x else later) ≡ Some e → test e ≡ true
in_row test true true others x e later t all rest some = let same : x ≡ e = cc in subst (λ y. test y ≡ true) same t
in_row test false true others x e later t all rest some = rest all some
in_row test here false others x e later t all rest some = absurd (cc)

in_table : (test : Expr → Bool) (table : List (List ℕ × Expr)) → list_all (λ n. test n.1) table ≡ true → (w : List ℕ) (e : Expr) → name_in table w ≡ Some e →
    test e ≡ true
in_table test [] all w e is = absurd (cc)
in_table test (n ∷ table) all w e is =
    in_row test (bytes_eq w n.0) (test n.1) (list_all (λ n. test n.1) table) n.1 e (name_in table w) refl all (λ a s. in_table test table a w e s) is

rv_has : list_all (λ n. has (rv32 false).has_register (rv32 false).has_flag n.1) rv_table ≡ true
unfolding rv_table
rv_has = refl

arm_has : list_all (λ n. has (arm Little V4).has_register (arm Little V4).has_flag n.1) arm_table ≡ true
unfolding arm_table
arm_has = refl

-- what a name stands for, the machine has
pub of_form : (layout : Layout) (w : List ℕ) (o : Option Named) → IsMeaning (layout_names layout w) o → IfSome o (λ x. IsOfForm layout x)
of_form layout w None h = tt
of_form layout w (Some named.Zero) h = tt
of_form (Rv32 compressed) w (Some (named.Register r)) h = in_table (has (rv32 false).has_register (rv32 false).has_flag) rv_table rv_has w (Register r) h
of_form (Rv32 compressed) w (Some (named.Flag f)) h = in_table (has (rv32 false).has_register (rv32 false).has_flag) rv_table rv_has w (Flag f) h
of_form (Arm big profile) w (Some (named.Register r)) h = in_table (has (arm Little V4).has_register (arm Little V4).has_flag) arm_table arm_has w (Register r) h
of_form (Arm big profile) w (Some (named.Flag f)) h = in_table (has (arm Little V4).has_register (arm Little V4).has_flag) arm_table arm_has w (Flag f) h
