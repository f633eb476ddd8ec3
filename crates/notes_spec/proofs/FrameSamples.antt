-- Worked notes with invariants and contracts: what they say, and their first faults.
use Rattle.std.proofs.Common.{◌≡◌, ℕ, ◌<◌, ◌≤◌, ◌^◌, refl, sym, subst, arith, List, [], ◌∷◌, ◌++◌, inl, inr, length, true, false, codes, count_by, All, lit<, lit≤}
use Rattle.bilv_spec.specs.Notes.{Expr, AtMost, Number, Register, Old, Binary, At, Notes}
use Rattle.word_spec.specs.Tokens.{Token, NumberToken, NameToken, BadByte, BadText, tokens_of}
use Rattle.notes_spec.specs.Scopes.{Vocabulary, Scope, Dialect, Paired, in_dialect, Framed, Changed, ChangedRegister, begin, declaring, begun, lenient, loose}
use Rattle.notes_spec.specs.NotesGrammar.{IsGood, is_depth, AreChanged, Parses, Says, VersionIs, EntryIs, ConstIs, InvariantIs, GiveIs, ModifiesAre, WritesAre, IsSaid, AreAligned, IsLine, IsRange, IsVersion, IsNew, is_mixed, line_limit}
use Rattle.notes_spec.specs.NotesFaults.{NoteFault, LimitFault, ByteFault, TokenFault, NumberFault, DepthFault, WordFault, SyntaxFault, NameFault, AlignFault, RangeFault, EntryFault, VersionFault, ConstFault, AllFault, MixedFault, PairFault, note_fault_rank, Repeats, NoteFaultApplies, AreGood, IsFirstNoteFault, at_line}
use Rattle.notes_spec.specs.FrameNotes.{IsFrameText}
use Rattle.notes_spec.specs.RvNames.{rv_names, rv_table}
use Rattle.bilv_spec.proofs.Decided.{none_some}
use Rattle.notes_spec.proofs.ParserEnds.{by_reading}
use Rattle.notes_spec.proofs.NotesSaid.{kind_is, one_saying}
use Rattle.notes_spec.proofs.Modes.{strict_is_lenient, said_loosely}
use Rattle.notes_spec.proofs.NotesSamples.{every}
use Rattle.notes_spec.proofs.NotesFirst.{begins_well, is_good, not_faulty}
use Rattle.notes_spec.proofs.Upgrading.{version_said}

-- RISC-V with lines of invariants and contracts; the scope after the line of the version, and after a constant
abbrev rv : Vocabulary
rv = record { names = rv_names; narrow = false; dialect = Framed }

abbrev later : Scope
later = begun (begin rv true)

abbrev with_n : Scope
with_n = declaring later (codes "n") 4

abbrev entry_says : Says
entry_says = EntryIs (At 0x10000)

entry_line : (d : Dialect) → IsLine (begun (begin (in_dialect d rv) true)) (codes "entry 0x10000") entry_says
entry_line d = record {
  short = lit≤ tt;
  good = every IsGood (tokens_of (codes "entry 0x10000")) (tt, (lit< tt, tt));
  depth = lit≤ tt;
  said = (NumberToken 0x10000, refl, refl);
  aligned = refl;
  range = tt;
  version = tt;
  new = tt;
  alone = λ e. refl;
}

-- an invariant
abbrev not_above : Expr
not_above = Binary AtMost (Register 10) (Old (Register 10))

not_above_read : Parses later 1 (tokens_of (codes "a0 <=u old(a0)")) not_above
unfolding rv_table
not_above_read = by_reading later 40 (tokens_of (codes "a0 <=u old(a0)")) not_above refl

invariant_line : IsLine later (codes "invariant 0x10008 a0 <=u old(a0)") (InvariantIs 0x10008 not_above)
invariant_line = record {
  short = lit≤ tt;
  good = every IsGood (tokens_of (codes "invariant 0x10008 a0 <=u old(a0)")) (tt, (lit< tt, (tt, (tt, (tt, (tt, (tt, (tt, tt))))))));
  depth = lit≤ tt;
  said = ((NumberToken 0x10008, tokens_of (codes "a0 <=u old(a0)"), refl, refl, not_above_read), (refl, refl));
  aligned = refl;
  range = tt;
  version = tt;
  new = tt;
  alone = λ e. cc;
}

abbrev invariant_text : List ℕ
invariant_text = codes "notes 2" ++ 10 ∷ codes "entry 0x10000" ++ 10 ∷ codes "invariant 0x10008 a0 <=u old(a0)"

abbrev plain_notes : Notes
plain_notes = record { entry = At 0x10000; requires = []; ensures = []; asserts = []; targets = []; fixed = [] }

an_invariant : IsFrameText rv invariant_text (record {
  notes = record plain_notes { asserts = record { line = 3; at = 0x10008; says = not_above } ∷ [] };
  invariants = 3 ∷ [];
  contracts = [];
})
an_invariant = record {
  is_notes = record {
    short = lit≤ tt;
    says = VersionIs true ∷ entry_says ∷ InvariantIs 0x10008 not_above ∷ [];
    lines = (version_said rv, (entry_line Framed, (invariant_line, tt)));
    unmixed = refl;
    notes_are = (refl, refl, refl, refl, refl, refl, λ i j d less below. absurd (omega (arith, below)));
  };
  invariants_are = refl;
  contracts_are = refl;
}

-- a contract of two lines, with a constant for a count
const_line : IsLine later (codes "const n 4") (ConstIs (codes "n") 4)
unfolding rv_table
const_line = record {
  short = lit≤ tt;
  good = every IsGood (tokens_of (codes "const n 4")) (tt, (tt, (lit< tt, tt)));
  depth = lit≤ tt;
  said = (refl, refl);
  aligned = tt;
  range = tt;
  version = tt;
  new = refl;
  alone = λ e. refl;
}

modifies_line : IsLine with_n (codes "modifies 0x10010 x10 a1") (ModifiesAre 0x10010 (ChangedRegister 10 ∷ ChangedRegister 11 ∷ []))
unfolding rv_table
modifies_line = record {
  short = lit≤ tt;
  good = every IsGood (tokens_of (codes "modifies 0x10010 x10 a1")) (tt, (lit< tt, (tt, (tt, tt))));
  depth = lit≤ tt;
  said = (NumberToken 0x10010, tokens_of (codes "x10 a1"), refl, refl, (refl, (refl, tt)), lit< tt, (refl, refl));
  aligned = refl;
  range = tt;
  version = tt;
  new = tt;
  alone = λ e. cc;
}

register_after : Parses with_n 1 (tokens_of (codes "a0")) (Register 10)
unfolding rv_table
register_after = by_reading with_n 20 (tokens_of (codes "a0")) (Register 10) refl

writes_line : IsLine with_n (codes "writes 0x10010 a0 n") (WritesAre 0x10010 (Register 10) 4)
writes_line = record {
  short = lit≤ tt;
  good = every IsGood (tokens_of (codes "writes 0x10010 a0 n")) (tt, (lit< tt, (tt, (tt, tt))));
  depth = lit≤ tt;
  said = (NumberToken 0x10010, NameToken (codes "n"), tokens_of (codes "a0"), refl, refl, register_after, refl, (refl, refl));
  aligned = refl;
  range = (lit≤ tt, lit≤ tt);
  version = tt;
  new = tt;
  alone = λ e. cc;
}

abbrev contract_text : List ℕ
contract_text =
    codes "notes 2" ++ 10 ∷ codes "entry 0x10000" ++ 10 ∷ codes "const n 4" ++ 10 ∷ codes "modifies 0x10010 x10 a1" ++ 10 ∷ codes "writes 0x10010 a0 n"

a_contract : IsFrameText rv contract_text (record {
  notes = plain_notes;
  invariants = [];
  contracts = record {
    at = 0x10010;
    needs = [];
    gives = [];
    writes = record { line = 5; says = Register 10; count = 4 } ∷ [];
    registers = 10 ∷ 11 ∷ [];
    flags = [];
  } ∷ [];
})
a_contract = record {
  is_notes = record {
    short = lit≤ tt;
    says = VersionIs true ∷ entry_says ∷ ConstIs (codes "n") 4 ∷ ModifiesAre 0x10010 (ChangedRegister 10 ∷ ChangedRegister 11 ∷ [])
        ∷ WritesAre 0x10010 (Register 10) 4 ∷ [];
    lines = (version_said rv, (entry_line Framed, (const_line, (modifies_line, (writes_line, tt)))));
    unmixed = refl;
    notes_are = (refl, refl, refl, refl, refl, refl, λ i j d less below. absurd (omega (arith, below)));
  };
  invariants_are = refl;
  contracts_are = refl;
}

-- the first lines of the texts that are refused
abbrev first_says : List Says
first_says = VersionIs true ∷ entry_says ∷ []

first_good : (d : Dialect) → AreGood (begin (in_dialect d rv) true) (codes "notes 2" ∷ codes "entry 0x10000" ∷ []) first_says
first_good d = record {
  count = lit≤ tt;
  lines = (version_said (in_dialect d rv), (entry_line d, tt));
  none_repeats = (λ r. r, (λ r. r refl, tt));
  unmixed = refl;
}

abbrev after_first : List ℕ → List ℕ
after_first rest = codes "notes 2" ++ 10 ∷ codes "entry 0x10000" ++ 10 ∷ rest

-- a line that has a form, has no fault before those of names
formed : (s : Scope) (n : ℕ) (before : List Says) (text : List ℕ) (x : Says) → n ≤ line_limit s.is_second → length text ≤ 1024 →
    All IsGood (tokens_of text) → count_by (is_depth s.is_second) (tokens_of text) ≤ 64 → IsSaid (loose s) (tokens_of text) x → (f : NoteFault) →
    note_fault_rank f < 8 → NoteFaultApplies s n before text f → ⊥
formed s n before text x few short good depth said LimitFault less (inl above) = omega (arith, few, above)
formed s n before text x few short good depth said LimitFault less (inr above) = omega (arith, short, above)
formed s n before text x few short good depth said ByteFault less a = is_good (tokens_of text) BadByte good a
formed s n before text x few short good depth said TokenFault less a = is_good (tokens_of text) BadText good a
formed s n before text x few short good depth said NumberFault less a =
    let g : a.0 < 2 ^ 32 = is_good (tokens_of text) (NumberToken a.0) good a.1 in omega (arith, g, a.2)
formed s n before text x few short good depth said DepthFault less a = omega (arith, depth, a)
formed s n before text x few short good depth said WordFault less a = begins_well (loose s) (tokens_of text) x said a
formed s n before text x few short good depth said SyntaxFault less a = a x said
formed s n before text x few short good depth said f less a = omega (arith, less)

-- x0 is no register that may change
abbrev zero_line : List ℕ
zero_line = codes "modifies 0x10010 x0"

zero_none : (x : Says) → IsSaid (lenient later) (tokens_of zero_line) x → ⊥
unfolding rv_table
zero_none (ModifiesAre a cs) (t, rest, is, n, changed, some, may) =
    let tail : rest ≡ NameToken (codes "x0") ∷ [] = cc in none cs (subst (λ ts. AreChanged (lenient later) ts cs) tail changed) where
      none : (cs : List Changed) → AreChanged (lenient later) (NameToken (codes "x0") ∷ []) cs → ⊥
      none [] h = h
      none (c ∷ cs) h = none_some Changed c h.0
zero_none x p = let k = kind_is (lenient later) (tokens_of zero_line) x p in absurd (omega (arith, k))

zero_is_refused : IsFirstNoteFault rv (after_first zero_line) 3 NameFault
zero_is_refused =
    at_line (codes "notes 2" ∷ codes "entry 0x10000" ∷ []) [] zero_line first_says refl (first_good Framed) zero_none
    (formed later 3 first_says zero_line (ModifiesAre 0x10010 (ChangedRegister 0 ∷ [])) (lit≤ tt) (lit≤ tt)
    (every IsGood (tokens_of zero_line) (tt, (lit< tt, (tt, tt)))) (lit≤ tt)
    (NumberToken 0x10010, NameToken (codes "x0") ∷ [], refl, refl, (refl, tt), lit< tt, (refl, refl)))

-- a contract writes at most 256 bytes from an address on
abbrev long_line : List ℕ
long_line = codes "writes 0x10010 a0 257"

abbrev long_says : Says
long_says = WritesAre 0x10010 (Register 10) 257

register_later : Parses later 1 (tokens_of (codes "a0")) (Register 10)
unfolding rv_table
register_later = by_reading later 20 (tokens_of (codes "a0")) (Register 10) refl

long_strict : IsSaid later (tokens_of long_line) long_says
long_strict = (NumberToken 0x10010, NumberToken 257, tokens_of (codes "a0"), refl, refl, register_later, refl, (refl, refl))

long_said : IsSaid (lenient later) (tokens_of long_line) long_says
long_said = strict_is_lenient later (tokens_of long_line) long_says refl long_strict

long_good : All IsGood (tokens_of long_line)
long_good = every IsGood (tokens_of long_line) (tt, (lit< tt, (tt, (lit< tt, tt))))

before_range : (f : NoteFault) → note_fault_rank f < 10 → NoteFaultApplies later 3 first_says long_line f → ⊥
before_range NameFault less a = a long_says long_said
before_range AlignFault less a =
    a.2 (subst (AreAligned false) (one_saying (lenient later) (tokens_of long_line) long_says a.0 long_said a.1) refl)
before_range RangeFault less a = omega (arith, less)
before_range EntryFault less a = omega (arith, less)
before_range VersionFault less a = omega (arith, less)
before_range ConstFault less a = omega (arith, less)
before_range AllFault less a = omega (arith, less)
before_range MixedFault less a = omega (arith, less)
before_range PairFault less a = omega (arith, less)
before_range f less a =
    let y = said_loosely later (tokens_of long_line) long_says long_strict in
    formed later 3 first_says long_line y.0 (lit≤ tt) (lit≤ tt) long_good (lit≤ tt) y.1 f (lit< tt) a

long_is_refused : IsFirstNoteFault rv (after_first long_line) 3 RangeFault
long_is_refused =
    at_line (codes "notes 2" ∷ codes "entry 0x10000" ∷ []) [] long_line first_says refl (first_good Framed)
    (long_says, long_said, λ r. omega (arith, r.1)) before_range

-- an invariant after a line of a contract
gives_line : IsLine later (codes "gives 0x10010 1") (GiveIs 0x10010 (Number 1))
gives_line = record {
  short = lit≤ tt;
  good = every IsGood (tokens_of (codes "gives 0x10010 1")) (tt, (lit< tt, (lit< tt, tt)));
  depth = lit≤ tt;
  said = ((NumberToken 0x10010, NumberToken 1 ∷ [], refl, refl, by_reading later 20 (NumberToken 1 ∷ []) (Number 1) refl), (refl, refl));
  aligned = refl;
  range = tt;
  version = tt;
  new = tt;
  alone = λ e. cc;
}

abbrev three_says : List Says
three_says = first_says ++ GiveIs 0x10010 (Number 1) ∷ []

three_good : AreGood (begin rv true) (codes "notes 2" ∷ codes "entry 0x10000" ∷ codes "gives 0x10010 1" ∷ []) three_says
three_good = record {
  count = lit≤ tt;
  lines = (version_said rv, (entry_line Framed, (gives_line, tt)));
  none_repeats = (λ r. r, (λ r. r refl, (λ r. r, tt)));
  unmixed = refl;
}

before_mixed : (f : NoteFault) → note_fault_rank f < 15 → NoteFaultApplies later 4 three_says (codes "invariant 0x10008 a0 <=u old(a0)") f → ⊥
before_mixed EntryFault less a =
    let ts = tokens_of (codes "invariant 0x10008 a0 <=u old(a0)") in
    let x = InvariantIs 0x10008 not_above in
    subst (Repeats three_says) (one_saying (lenient later) ts a.0 x a.1 (strict_is_lenient later ts x refl invariant_line.said)) a.2
before_mixed MixedFault less a = omega (arith, less)
before_mixed PairFault less a = omega (arith, less)
before_mixed f less a =
    not_faulty later refl 4 [] (codes "invariant 0x10008 a0 <=u old(a0)") (InvariantIs 0x10008 not_above) f (lit≤ tt) invariant_line (λ r. r) refl a

mixed_is_refused : IsFirstNoteFault rv (after_first (codes "gives 0x10010 1" ++ 10 ∷ codes "invariant 0x10008 a0 <=u old(a0)")) 4 MixedFault
mixed_is_refused =
    at_line (codes "notes 2" ∷ codes "entry 0x10000" ∷ codes "gives 0x10010 1" ∷ []) [] (codes "invariant 0x10008 a0 <=u old(a0)") three_says refl
    three_good (InvariantIs 0x10008 not_above, invariant_line.said, refl) before_mixed

-- an invariant where the function is compared
abbrev compared : Vocabulary
compared = in_dialect Paired rv

abbrev later_compared : Scope
later_compared = begun (begin compared true)

abbrev invariant_says : Says
invariant_says = InvariantIs 0x10008 not_above

abbrev invariant_tokens : List Token
invariant_tokens = tokens_of (codes "invariant 0x10008 a0 <=u old(a0)")

not_above_compared : Parses later_compared 1 (tokens_of (codes "a0 <=u old(a0)")) not_above
unfolding rv_table
not_above_compared = by_reading later_compared 40 (tokens_of (codes "a0 <=u old(a0)")) not_above refl

said_compared : IsSaid later_compared invariant_tokens invariant_says
said_compared = ((NumberToken 0x10008, tokens_of (codes "a0 <=u old(a0)"), refl, refl, not_above_compared), (refl, refl))

leniently_compared : IsSaid (lenient later_compared) invariant_tokens invariant_says
leniently_compared = strict_is_lenient later_compared invariant_tokens invariant_says refl said_compared

alone_compared : (y : Says) → IsSaid (lenient later_compared) invariant_tokens y → invariant_says ≡ y
alone_compared y said = one_saying (lenient later_compared) invariant_tokens invariant_says y leniently_compared said

before_pair : (f : NoteFault) → note_fault_rank f < 16 →
    NoteFaultApplies later_compared 3 first_says (codes "invariant 0x10008 a0 <=u old(a0)") f → ⊥
before_pair NameFault less a = a invariant_says leniently_compared
before_pair AlignFault less a = a.2 (subst (AreAligned false) (alone_compared a.0 a.1) refl)
before_pair RangeFault less a = a.2 (subst IsRange (alone_compared a.0 a.1) tt)
before_pair EntryFault less a = subst (Repeats first_says) (sym (alone_compared a.0 a.1)) a.2
before_pair VersionFault less a = a.2 (subst (IsVersion later_compared) (alone_compared a.0 a.1) tt)
before_pair ConstFault less a = a.2 (subst (IsNew later_compared) (alone_compared a.0 a.1) tt)
before_pair AllFault less a = a invariant_says said_compared
before_pair MixedFault less a =
    let is = one_saying later_compared invariant_tokens invariant_says a.0 said_compared a.1 in
    let mixed : false ≡ true = subst (λ y. is_mixed (first_says ++ y ∷ []) ≡ true) (sym is) a.2 in cc
before_pair PairFault less a = omega (arith, less)
before_pair f less a =
    let y = said_loosely later_compared invariant_tokens invariant_says said_compared in
    formed later_compared 3 first_says (codes "invariant 0x10008 a0 <=u old(a0)") y.0 (lit≤ tt) (lit≤ tt) invariant_line.good (lit≤ tt) y.1 f (lit< tt) a

pair_is_refused : IsFirstNoteFault compared (after_first (codes "invariant 0x10008 a0 <=u old(a0)")) 3 PairFault
pair_is_refused =
    at_line (codes "notes 2" ∷ codes "entry 0x10000" ∷ []) [] (codes "invariant 0x10008 a0 <=u old(a0)") first_says refl (first_good Paired)
    (invariant_says, said_compared, λ r. let h : true ≡ false = r refl in cc) before_pair
