-- Worked notes that are refused: what is no expression, and first faults.
use Rattle.std.proofs.Common.{◌≡◌, ℕ, ◌<◌, refl, subst, arith, List, [], ◌∷◌, ◌++◌, None, Bool, true, false, map, codes, Contains, inl, inr, ◌^◌, lit≤, nat_le}
use Rattle.bilv_spec.specs.Notes.{Expr, At}
use Rattle.word_spec.specs.Tokens.{Token, NumberToken, NameToken, SignToken, BadByte, BadText, tokens_of}
use Rattle.notes_spec.specs.NotesGrammar.{Parses, Says, Nothing, EntryIs, RequireIs, IsSaid}
use Rattle.notes_spec.specs.NotesFaults.{NoteFault, LimitFault, ByteFault, TokenFault, NumberFault, DepthFault, WordFault, SyntaxFault, EntryFault, note_fault_rank, NoteFaultApplies, AreGood, IsFirstNoteFault, at_line, no_entry}
use Rattle.notes_spec.proofs.NotesTables.{Each, of_each}
use Rattle.notes_spec.specs.Scopes.{Scope, begin, loose}
use Rattle.notes_spec.proofs.NotesParser.{Level, Read, work, all_read, is_ready}
use Rattle.notes_spec.proofs.ParserFinds.{no_expression}
use Rattle.notes_spec.proofs.NotesSaid.{kind_is}
use Rattle.notes_spec.proofs.NotesSamples.{rv_words, line_1}

-- the scope after the line that names the function, in version 1, and with every word taken as a name
abbrev later : Scope
later = record (begin rv_words false) { is_first = false }

abbrev read : List ℕ → Read
read text = work (loose later) 40 (Level 1) (tokens_of text)

-- a comparison is not chained, and its operands are no `not`; an operator wants two operands; brackets close; `old` wants them
abbrev refused : List (List ℕ)
refused = codes "a0 = a1 = a2" ∷ codes "a0 = not a1" ∷ codes "a0 = 5 +" ∷ codes "(a0" ∷ codes "a0)" ∷ codes "old a0" ∷ codes "mem8(a0)" ∷ codes "- a0"
    ∷ codes "" ∷ []

refused_ready : map (λ text. is_ready (read text)) refused ≡ true ∷ true ∷ true ∷ true ∷ true ∷ true ∷ true ∷ true ∷ true ∷ []
refused_ready = refl

refused_none : map (λ text. all_read (read text)) refused ≡ None ∷ None ∷ None ∷ None ∷ None ∷ None ∷ None ∷ None ∷ None ∷ []
refused_none = refl

unfinished : (e : Expr) → Parses (loose later) 1 (tokens_of (codes "a0 = 5 +")) e → ⊥
unfinished = no_expression (loose later) 40 (tokens_of (codes "a0 = 5 +")) refl refl

-- a line of `require` without an expression says nothing
require_refused : (ts : List Token) → ((e : Expr) → Parses (loose later) 1 ts e → ⊥) → (s : Says) → IsSaid (loose later) (NameToken (codes "require") ∷ ts) s → ⊥
require_refused ts f (RequireIs e) p = let is : p.0 ≡ ts = let x = p.1 in cc in f e (subst (λ us. Parses (loose later) 1 us e) is p.2)
require_refused ts f s p = let k = kind_is (loose later) (NameToken (codes "require") ∷ ts) s p in absurd (omega (arith, k))

-- tokens that may stand in every line, but for their numbers
abbrev is_bad : Token → Bool
is_bad (NumberToken n) = false
is_bad (NameToken w) = false
is_bad (SignToken s) = false
is_bad BadByte = true
is_bad BadText = true

none_bad : (ts : List Token) (t : Token) → Each (λ t. is_bad t ≡ false) ts → is_bad t ≡ true → Contains ts t → ⊥
none_bad ts t each bad c = let good = of_each (λ t. is_bad t ≡ false) ts t each c in cc

abbrev is_large : Token → Bool
is_large (NumberToken n) = nat_le (2 ^ 32) n
is_large t = false

-- the first line of these texts is good
first_good : AreGood (begin rv_words false) (codes "entry 0x10000" ∷ []) (EntryIs (At 0x10000) ∷ [])
first_good = record { count = lit≤ tt; lines = (line_1, tt); none_repeats = (λ r. r refl, tt); unmixed = refl }

-- an expression without its end: the line is of the seven words, and its rest is not of the grammar
abbrev unfinished_text : List ℕ
unfinished_text = codes "entry 0x10000" ++ 10 ∷ codes "require a0 = 5 +" ++ 10 ∷ codes "ensure a0 = old(a0) + 1"

abbrev unfinished_tokens : List Token
unfinished_tokens = tokens_of (codes "require a0 = 5 +")

no_lesser : (g : NoteFault) → note_fault_rank g < 7 → NoteFaultApplies later 2 (EntryIs (At 0x10000) ∷ []) (codes "require a0 = 5 +") g → ⊥
no_lesser LimitFault less (inl above) = omega (arith, above)
no_lesser LimitFault less (inr above) = omega (arith, above)
no_lesser ByteFault less a = none_bad unfinished_tokens BadByte (refl, (refl, (refl, (refl, (refl, tt))))) refl a
no_lesser TokenFault less a = none_bad unfinished_tokens BadText (refl, (refl, (refl, (refl, (refl, tt))))) refl a
no_lesser NumberFault less a =
    let small = of_each (λ t. is_large t ≡ false) unfinished_tokens (NumberToken a.0) (refl, (refl, (refl, (refl, (refl, tt))))) a.1
    in grind (arith, small, a.2)
no_lesser DepthFault less above = omega (arith, above)
no_lesser WordFault less a = a (2, omega arith, refl)
no_lesser f less a = omega (arith, less)

unfinished_is_refused : IsFirstNoteFault rv_words unfinished_text 2 SyntaxFault
unfinished_is_refused =
    at_line (codes "entry 0x10000" ∷ []) (codes "ensure a0 = old(a0) + 1" ∷ []) (codes "require a0 = 5 +") (EntryIs (At 0x10000) ∷ []) refl first_good
    (require_refused (tokens_of (codes "a0 = 5 +")) unfinished) no_lesser

-- a number that is too large
abbrev large_text : List ℕ
large_text = codes "entry 0x10000" ++ 10 ∷ codes "ensure 4294967296 = 0" ++ 10 ∷ []

no_less : (g : NoteFault) → note_fault_rank g < 4 → NoteFaultApplies later 2 (EntryIs (At 0x10000) ∷ []) (codes "ensure 4294967296 = 0") g → ⊥
no_less LimitFault less (inl above) = omega (arith, above)
no_less LimitFault less (inr above) = omega (arith, above)
no_less ByteFault less a = none_bad (tokens_of (codes "ensure 4294967296 = 0")) BadByte (refl, (refl, (refl, (refl, tt)))) refl a
no_less TokenFault less a = none_bad (tokens_of (codes "ensure 4294967296 = 0")) BadText (refl, (refl, (refl, (refl, tt)))) refl a
no_less f less a = omega (arith, less)

large_is_refused : IsFirstNoteFault rv_words large_text 2 NumberFault
large_is_refused =
    at_line (codes "entry 0x10000" ∷ []) [] (codes "ensure 4294967296 = 0") (EntryIs (At 0x10000)
    ∷ []) refl first_good (4294967296, (1, omega arith, refl), lit≤ tt) no_less

-- nothing names the function: the line after the last
empty_is_refused : IsFirstNoteFault rv_words [] 1 EntryFault
empty_is_refused = no_entry [] (record { count = lit≤ tt; lines = tt; none_repeats = tt; unmixed = refl }) refl

blank_is_refused : IsFirstNoteFault rv_words (codes "# nothing" ++ 10 ∷ []) 2 EntryFault
blank_is_refused =
    no_entry (Nothing ∷ []) (record {
      count = lit≤ tt;
      lines = (
        record {
          short = lit≤ tt;
          good = λ k d less. absurd (omega (arith, less));
          depth = lit≤ tt;
          said = refl;
          aligned = tt;
          range = tt;
          version = tt;
          new = tt;
          alone = λ e. refl;
        },
        tt,
      );
      none_repeats = (λ r. r, tt);
      unmixed = refl;
    }) refl
