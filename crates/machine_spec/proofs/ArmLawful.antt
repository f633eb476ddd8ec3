-- The machine of ARM is lawful, in both byte orders and each profile.
use Rattle.std.proofs.Common.{◌≡◌, ◌⊎◌, inl, inr, ℕ, refl, ap, subst, true, false, Bool, Some, None, List, [], ◌∷◌}
use Rattle.std.specs.Prelude.{◌==◌, ◌&&◌, ◌||◌, if◌then◌else◌}
use Rattle.std.proofs.lemmas.Bool.{eqb-true}
use Rattle.machine_spec.proofs.ArmComputing.{computing_lawful}
use Rattle.machine_spec.proofs.ArmFlags.{multiply_lawful, multiply_long_lawful}
use Rattle.machine_spec.proofs.ArmAccess.{swap_lawful, transfer_lawful, halfword_lawful, block_lawful, branch_lawful, software_interrupt_lawful, exchange_lawful, count_lawful}
use Rattle.machine_spec.proofs.LinkRegister.{Linking, without_calls}
use Rattle.word_spec.specs.Words.{add}
use Rattle.word_spec.specs.Memory.{Endian}
use Rattle.word_spec.specs.State.{State}
use Rattle.machine_spec.specs.Machine.{Row}
use Rattle.word_spec.specs.Profiles.{Profile}
use Rattle.machine_spec.specs.Arm.{Instruction, branch, branched, is_linked, when, holds, table, is_fifth, row_in, arm_row, condition_code, is_halfword, is_load, kind_of, halfword_size}
use Rattle.machine_spec.specs.MachineLaws.{IsLawful, IfGoes, IsCall}
use Rattle.machine_spec.specs.ArmMachineLaws.{ArmIsLawful}

-- a line of the table all whose words have lawful rows
abbrev IsLawfulLine : Instruction → Type 0
IsLawfulLine x = (w : ℕ) → x.is w ≡ true → IsLawful (x.row w)

abbrev AreLawful : List Instruction → Type 0
AreLawful [] = Unit {0}
AreLawful (x ∷ rest) = IsLawfulLine x × AreLawful rest

last : (a b : Bool) → (a && b) ≡ true → b ≡ true
last true b h = h
last false b h = cc

-- only halfwords are stored
stored_size : (w : ℕ) → is_halfword w ≡ true → is_load w ≡ false → halfword_size w ≡ 2
stored_size w h l =
    let o = last _ (is_load w || (kind_of w == 1)) h in
    let k : (kind_of w == 1) ≡ true = subst (λ (b : Bool). (b || (kind_of w == 1)) ≡ true) l o in
    let e = eqb-true (kind_of w) 1 k in ap (λ z. if z == 2 then 1 else 2) e

table_lawful : (e : Endian) (profile : Profile) → AreLawful (table e profile)
unfolding table
table_lawful e profile = (
  λ w h. computing_lawful w,
  (
    λ w h. multiply_lawful (is_fifth profile) w,
    (
      λ w h. multiply_long_lawful (is_fifth profile) w,
      (
        λ w h. swap_lawful e w,
        (
          λ w h. transfer_lawful e w,
          (
            λ w h. halfword_lawful e w (stored_size w h),
            (
              λ w h. block_lawful e w,
              (λ w h. branch_lawful w, (λ w h. software_interrupt_lawful w, (λ w h. exchange_lawful w, (λ w h. count_lawful w, tt)))),
            ),
          ),
        ),
      ),
    ),
  ),
)

lawful_in : (lines : List Instruction) → AreLawful lines → (w : ℕ) (row : Row) → row_in lines w ≡ Some row → IsLawful row
lawful_in [] h w row e = cc
lawful_in (x ∷ rest) h w row e = by_first (x.is w) refl e (lawful_in rest h.1 w row)
  where
    by_first : (b : Bool) → x.is w ≡ b → (if b then Some (x.row w) else row_in rest w) ≡ Some row → (row_in rest w ≡ Some row → IsLawful row) → IsLawful row
    by_first true t e other = subst IsLawful (same e) (h.0 w t)
      where
        same : {a b : Row} → Some a ≡ Some b → a ≡ b
        same e = cc
    by_first false t e other = other e

by_condition : (e : Endian) (profile : Profile) (w : ℕ) (row : Row) (never : Bool) →
    (if never then None else row_in (table e profile) w) ≡ Some row → IsLawful row
by_condition e profile w row true h = cc
by_condition e profile w row false h = lawful_in (table e profile) (table_lawful e profile) w row h

row_lawful : (e : Endian) (profile : Profile) (w : ℕ) (row : Row) → arm_row e profile w ≡ Some row → IsLawful row
unfolding arm_row
row_lawful e profile w row h = by_condition e profile w row (condition_code w == 15) h

-- a line of the table all whose rows have 4 bytes
abbrev HasFourBytes : Instruction → Type 0
HasFourBytes x = (w : ℕ) → (x.row w).length ≡ 4

abbrev HaveFourBytes : List Instruction → Type 0
HaveFourBytes [] = Unit {0}
HaveFourBytes (x ∷ rest) = HasFourBytes x × HaveFourBytes rest

four_bytes : (e : Endian) (profile : Profile) → HaveFourBytes (table e profile)
unfolding table
four_bytes e profile = (λ w. refl, (λ w. refl, (λ w. refl, (λ w. refl, (λ w. refl, (λ w. refl, (λ w. refl, (λ w. refl, (λ w. refl, (λ w. refl, (λ w. refl, tt)))))))))))

length_in : (lines : List Instruction) → HaveFourBytes lines → (w : ℕ) (row : Row) → row_in lines w ≡ Some row → row.length ≡ 4
length_in [] h w row e = cc
length_in (x ∷ rest) h w row e = by_first (x.is w) e (length_in rest h.1 w row)
  where
    by_first : (b : Bool) → (if b then Some (x.row w) else row_in rest w) ≡ Some row → (row_in rest w ≡ Some row → row.length ≡ 4) → row.length ≡ 4
    by_first true k other = let same : x.row w ≡ row = cc in subst (λ (r : Row). r.length ≡ 4) same (h.0 w)
    by_first false k other = other k

row_length : (e : Endian) (profile : Profile) (w : ℕ) (row : Row) → arm_row e profile w ≡ Some row → row.length ≡ 4
unfolding arm_row
row_length e profile w row h = by_code (condition_code w == 15) h
  where
    by_code : (never : Bool) → (if never then None else row_in (table e profile) w) ≡ Some row → row.length ≡ 4
    by_code true k = cc
    by_code false k = length_in (table e profile) (four_bytes e profile) w row k

-- BL alone calls, and keeps its return address in register 14
branch_links : (b l : Bool) (w : ℕ) (s : State) → l ≡ true → IfGoes (when b s (branched l w s)) (λ how new. IsCall how → new.regs 14 ≡ add 32 s.pc 4)
branch_links true true w s e = λ call. refl
branch_links true false w s e = λ call. absurd call
branch_links false l w s e = λ call. absurd call

branch_keeps : (b l : Bool) (w : ℕ) (s : State) → l ≡ false → IfGoes (when b s (branched l w s)) (λ how new. IsCall how → new.regs 14 ≡ s.regs 14)
branch_keeps true true w s e = cc
branch_keeps true false w s e = λ call. absurd call
branch_keeps false l w s e = λ call. absurd call

branch_linking : (w : ℕ) → Linking 14 (branch w)
branch_linking w = record {
  linked = λ e s c is. branch_links (holds w s) (is_linked w) w s e;
  unlinked = λ e s c is. branch_keeps (holds w s) (is_linked w) w s e;
}

-- a line of the table whose rows never call, or link as they say
abbrev LinksAsSaid : Instruction → Type 0
LinksAsSaid x = ((w at : ℕ) → ((x.row w).successors at).call ≡ false) ⊎ ((w : ℕ) → Linking 14 (x.row w))

abbrev LinkAsSaid : List Instruction → Type 0
LinkAsSaid [] = Unit {0}
LinkAsSaid (x ∷ rest) = LinksAsSaid x × LinkAsSaid rest

table_links : (e : Endian) (profile : Profile) → LinkAsSaid (table e profile)
unfolding table
table_links e profile = (
  inl (λ w at. refl),
  (
    inl (λ w at. refl),
    (
      inl (λ w at. refl),
      (
        inl (λ w at. refl),
        (
          inl (λ w at. refl),
          (
            inl (λ w at. refl),
            (inl (λ w at. refl), (inr branch_linking, (inl (λ w at. refl), (inl (λ w at. refl), (inl (λ w at. refl), tt))))),
          ),
        ),
      ),
    ),
  ),
)

links_in : (lines : List Instruction) → LinkAsSaid lines → (w : ℕ) (row : Row) → IsLawful row → row_in lines w ≡ Some row → Linking 14 row
links_in [] h w row law e = cc
links_in (x ∷ rest) h w row law e = by_first (x.is w) e (links_in rest h.1 w row law)
  where
    by_line : LinksAsSaid x → x.row w ≡ row → Linking 14 row
    by_line (inl calls) same = without_calls 14 row law (λ at. subst (λ (r : Row). (r.successors at).call ≡ false) same (calls w at))
    by_line (inr links) same = subst (Linking 14) same (links w)

    by_first : (b : Bool) → (if b then Some (x.row w) else row_in rest w) ≡ Some row → (row_in rest w ≡ Some row → Linking 14 row) → Linking 14 row
    by_first true k other = by_line h.0 (let same : x.row w ≡ row = cc in same)
    by_first false k other = other k

row_links : (e : Endian) (profile : Profile) (w : ℕ) (row : Row) → arm_row e profile w ≡ Some row → Linking 14 row
unfolding arm_row
row_links e profile w row h = by_code (condition_code w == 15) h (row_lawful e profile w row h)
  where
    by_code : (never : Bool) → (if never then None else row_in (table e profile) w) ≡ Some row → IsLawful row → Linking 14 row
    by_code true k law = cc
    by_code false k law = links_in (table e profile) (table_links e profile) w row law k

pub arm_is_lawful : ArmIsLawful
arm_is_lawful e profile = record {
  rows = λ w row small h. row_lawful e profile w row h;
  lengths = λ w row small h. row_length e profile w row h;
  little = λ n. cc;
  linked = λ w row small h. (row_links e profile w row h).linked;
  unlinked = λ w row small h. (row_links e profile w row h).unlinked;
}
