-- Commands that are appended one after another.
use Rattle.std.proofs.Common.{◌≡◌, ℕ, suc, ◌+◌, ◌-◌, ◌<◌, refl, ap, sym, ◌∙◌, arith, true, false, Bool, List, [], ◌∷◌, ◌++◌, length, get_or, drop, append_assoc, add-one}
use Rattle.std.specs.Prelude.{codes, if◌then◌else◌, slice_index}
use Rattle.std.proofs.Math.Seq.{drop-cons}
use Rattle.bilv_spec.specs.SmtLib.{Sexp}
use Rattle.machine_spec.specs.StateText.{Layout}
use Rattle.term_spec.specs.Terms.{TermNode, node_at, width_of, MemoryNode}
use Rattle.walk_spec.specs.Unrolled.{AddressRun, ByteRun}
use Rattle.smtlib_print.specs.Commands.{definition, sort_of, node_term, node_definitions, declaration, declarations, assertion, byte_assertions, has_byte, is_of_part}
use Rattle.smtlib_print.specs.Written.{written, commands_text}

-- texts of commands one behind the other
pub text-append : (cs ds : List Sexp) → commands_text (cs ++ ds) ≡ commands_text cs ++ commands_text ds
text-append [] ds = refl
text-append (c ∷ cs) ds = ap (λ t. written c ++ 10 ∷ t) (text-append cs ds) ∙ sym (append_assoc (written c) (10 ∷ commands_text cs) (commands_text ds))

-- one command more in front of those that are left
pub one_command : (out new rest all : List ℕ) (c : Sexp) → new ≡ out ++ (written c ++ codes "\n") → out ++ (written c ++ 10 ∷ rest) ≡ all → new ++ rest ≡ all
one_command out new rest all c e inv =
    ap (λ t. t ++ rest) e ∙ append_assoc out (written c ++ codes "\n") rest ∙ ap (λ t. out ++ t) (append_assoc (written c) (codes "\n") rest) ∙ inv

-- the definitions that are left from a place on
abbrev pub left : Layout → List ℕ → List TermNode → ℕ → List ℕ
left layout numbers ns i = commands_text (node_definitions layout numbers i (drop i ns))

pub definition_more : (layout : Layout) (numbers : List ℕ) (ns : List TermNode) (i : ℕ) (n : TermNode) (out new all : List ℕ) → i < length ns →
    n ≡ node_at ns i →
    new ≡ out ++ (written (definition i (sort_of (width_of n)) (node_term layout numbers n)) ++ codes "\n") → out ++ left layout numbers ns i ≡ all →
    new ++ left layout numbers ns (i + 1) ≡ all
definition_more layout numbers ns i n out new all l e step inv =
    let d : drop i ns ≡ n ∷ drop (suc i) ns = drop-cons ns i (MemoryNode 0) l ∙ ap (λ m. m ∷ drop (suc i) ns) (sym e) in
    rw add-one (one_command out new (left layout numbers ns (suc i)) all (definition i (sort_of (width_of n)) (node_term layout numbers n)) step
    (ap (λ t. out ++ commands_text (node_definitions layout numbers i t)) (sym d) ∙ inv))

drop_all : (ns : List TermNode) → drop (length ns) ns ≡ []
drop_all [] = refl
drop_all (n ∷ ns) = drop_all ns

-- the declarations that are left from a place on
abbrev pub undeclared : Sexp → List (List ℕ) → ℕ → List ℕ
undeclared sort names i = commands_text (declarations sort (drop i names))

pub name_more : (sort : Sexp) (names : List (List ℕ)) (i : ℕ) (w out new all : List ℕ) → i < length names → w ≡ get_or names i [] →
    new ≡ out ++ (written (declaration w sort) ++ codes "\n") → out ++ undeclared sort names i ≡ all → new ++ undeclared sort names (i + 1) ≡ all
name_more sort names i w out new all l e step inv =
    let d : drop i names ≡ w ∷ drop (suc i) names = drop-cons names i [] l ∙ ap (λ m. m ∷ drop (suc i) names) (sym e) in
    rw add-one (one_command out new (undeclared sort names (suc i)) all (declaration w sort) step
    (ap (λ t. out ++ commands_text (declarations sort t)) (sym d) ∙ inv))

-- the text of a command that is written or not
abbrev pub text_if : Bool → Sexp → List ℕ
text_if asked c = if asked then written c ++ codes "\n" else []

command_if : (asked : Bool) (c : Sexp) (cs : List Sexp) → commands_text (if asked then c ∷ cs else cs) ≡ text_if asked c ++ commands_text cs
command_if true c cs = sym (append_assoc (written c) (codes "\n") (commands_text cs))
command_if false c cs = refl

-- the bytes of a run that are left from a distance on
abbrev pub unlisted : (part : ℕ) → (kept : List AddressRun) → ByteRun → (i : ℕ) → List ℕ
unlisted p kept r i = commands_text (byte_assertions p kept r i (r.count - i))

pub byte_more : (p : ℕ) (kept : List AddressRun) (r : ByteRun) (i : ℕ) (out new all : List ℕ) → i < r.count →
    new ≡ out ++ text_if (is_of_part p kept (r.at + i)) (assertion (has_byte p (r.at + i) (slice_index r.bytes i))) →
    out ++ unlisted p kept r i ≡ all → new ++ unlisted p kept r (i + 1) ≡ all
byte_more p kept r i out new all l step inv =
    let n : r.count - i ≡ suc (r.count - suc i) = omega (arith, l) in
    let asked = is_of_part p kept (r.at + i) in
    let c = assertion (has_byte p (r.at + i) (slice_index r.bytes i)) in
    let rest = byte_assertions p kept r (suc i) (r.count - suc i) in
    rw add-one
    (ap (λ t. t ++ commands_text rest) step ∙ append_assoc out (text_if asked c) (commands_text rest)
    ∙ ap (λ t. out ++ t) (sym (command_if asked c rest)) ∙ ap (λ k. out ++ commands_text (byte_assertions p kept r i k)) (sym n) ∙ inv)
