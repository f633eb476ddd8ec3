-- The words of a script are words.
use Rattle.std.proofs.Common.{◌≡◌, ℕ, zero, suc, ◌+◌, ◌-◌, ◌*◌, ◌/◌, ◌%◌, ◌^◌, ◌<◌, ◌≤◌, refl, ap, arith, true, false, Bool, List, [], ◌∷◌, ◌++◌, length}
use Rattle.std.specs.Prelude.{◌==◌, codes, if◌then◌else◌, slice_index, slice_index_or}
use Rattle.std.specs.List.{list_all}
use Rattle.std.proofs.lemmas.Bool.Decides.{nat_tests}
use Rattle.std.proofs.lemmas.List.Folds.{list_all-append}
use Rattle.word_spec.specs.Memory.{Endian, Little, Big, place}
use Rattle.machine_spec.specs.Bil.{BinaryOp, Plus, Minus, Times, Divide, SignedDivide, Modulo, SignedModulo, And, Or, Xor, ShiftLeft, ShiftRight, ShiftSigned, Equal, NotEqual, Less, LessEqual, SignedLess, SignedLessEqual}
use Rattle.bilv_spec.specs.Scripts.{choice_name}
use Rattle.bilv_spec.specs.SmtLib.{Sexp, Atom}
use Rattle.machine_spec.specs.StateText.{Layout}
use Rattle.word_spec.specs.Texts.{hex_digit, hex_digits}
use Rattle.term_spec.specs.Terms as terms
use Rattle.term_spec.specs.Terms.{TermNode, HasWidth, IsTypedOver, AreTypedFrom, width_of}
use Rattle.walk_spec.specs.Unrolled.{AddressRun, ByteRun}
use Rattle.term_dag.proofs.ListLaws.{last, longer, typed_push}
use Rattle.term_dag.proofs.Shapes.{few_bits}
use Rattle.smtlib_print.specs.Commands.{file_assertions, head_assertions, part_declarations, part_names, word_sort, is_of_part, memory_in, memory_name, name_in, part_name, binary_digits, constant_text, operation, behind, loading, storing, taking, extract, extend, node_term, sort_of, node_definitions, assertion, has_byte, byte_assertions, run_assertions, declarations, selected, choose}
use Rattle.smtlib_print.proofs.Names.{number_word, term_word}
use Rattle.smtlib_print.proofs.ReadBack.{is_inner, is_word, IsWritable, AreWritable, AreWritable-append}

hex_inner : (d : ℕ) → d < 16 → is_inner (hex_digit d) ≡ true
hex_inner d h = grind (arith, nat_tests)

hex_inners : (n v : ℕ) → list_all is_inner (hex_digits n v) ≡ true
hex_inners zero v = refl
hex_inners (suc n) v =
    rw (list_all-append is_inner (hex_digits n (v / 16)) (hex_digit (v % 16) ∷ []), hex_inners n (v / 16), hex_inner (v % 16) (omega arith)) refl

bit_inner : (d : ℕ) → d < 2 → is_inner (48 + d) ≡ true
bit_inner d h = grind (arith, nat_tests)

bit_inners : (n v : ℕ) → list_all is_inner (binary_digits n v) ≡ true
bit_inners zero v = refl
bit_inners (suc n) v =
    rw (list_all-append is_inner (binary_digits n (v / 2)) ((48 + v % 2) ∷ []), bit_inners n (v / 2), bit_inner (v % 2) (omega arith)) refl

constant_by : (by_four : Bool) (w v : ℕ) → is_word (if by_four then codes "#x" ++ hex_digits (w / 4) v else codes "#b" ++ binary_digits w v) ≡ true
constant_by true w v = hex_inners (w / 4) v
constant_by false w v = bit_inners w v

constant_word : (w v : ℕ) → is_word (constant_text w v) ≡ true
constant_word w v = constant_by (w % 4 == 0) w v

abbrev Few : ℕ → Type 0
Few n = n < 2 ^ 64

operation_writable : (o : BinaryOp) (w a b : ℕ) → Few a → Few b → IsWritable (operation o w a b)
operation_writable Plus w a b h k = (refl, (term_word a h, (term_word b k, tt)))
operation_writable Minus w a b h k = (refl, (term_word a h, (term_word b k, tt)))
operation_writable Times w a b h k = (refl, (term_word a h, (term_word b k, tt)))
operation_writable Divide w a b h k = (refl, (term_word a h, (term_word b k, tt)))
operation_writable SignedDivide w a b h k =
    (refl, ((refl, (term_word b k, (constant_word w 0, tt))), (constant_word w (2 ^ w - 1), ((refl, (term_word a h, (term_word b k, tt))), tt))))
operation_writable Modulo w a b h k = (refl, (term_word a h, (term_word b k, tt)))
operation_writable SignedModulo w a b h k = (refl, (term_word a h, (term_word b k, tt)))
operation_writable And w a b h k = (refl, (term_word a h, (term_word b k, tt)))
operation_writable Or w a b h k = (refl, (term_word a h, (term_word b k, tt)))
operation_writable Xor w a b h k = (refl, (term_word a h, (term_word b k, tt)))
operation_writable ShiftLeft w a b h k = (refl, (term_word a h, (term_word b k, tt)))
operation_writable ShiftRight w a b h k = (refl, (term_word a h, (term_word b k, tt)))
operation_writable ShiftSigned w a b h k = (refl, (term_word a h, (term_word b k, tt)))
operation_writable Equal w a b h k = (refl, ((refl, (term_word a h, (term_word b k, tt))), (refl, (refl, tt))))
operation_writable NotEqual w a b h k = (refl, ((refl, ((refl, (term_word a h, (term_word b k, tt))), tt)), (refl, (refl, tt))))
operation_writable Less w a b h k = (refl, ((refl, (term_word a h, (term_word b k, tt))), (refl, (refl, tt))))
operation_writable LessEqual w a b h k = (refl, ((refl, (term_word a h, (term_word b k, tt))), (refl, (refl, tt))))
operation_writable SignedLess w a b h k = (refl, ((refl, (term_word a h, (term_word b k, tt))), (refl, (refl, tt))))
operation_writable SignedLessEqual w a b h k = (refl, ((refl, (term_word a h, (term_word b k, tt))), (refl, (refl, tt))))

extract_writable : (hi lo a : ℕ) → Few hi → Few lo → Few a → IsWritable (extract hi lo a)
extract_writable hi lo a h k l = ((refl, (refl, (number_word hi h, (number_word lo k, tt)))), (term_word a l, tt))

extend_writable : (signed : Bool) (more a : ℕ) → Few more → Few a → IsWritable (extend signed more a)
extend_writable true more a h k = ((refl, (refl, (number_word more h, tt))), (term_word a k, tt))
extend_writable false more a h k = ((refl, (refl, (number_word more h, tt))), (term_word a k, tt))

behind_writable : (a i : ℕ) → Few a → IsWritable (behind a i)
behind_writable a zero h = term_word a h
behind_writable a (suc i) h = (refl, (term_word a h, (hex_inners 8 (suc i), tt)))

selected_writable : (m a i : ℕ) → Few m → Few a → IsWritable (selected m a i)
selected_writable m a i h k = (refl, (term_word m h, (behind_writable a i k, tt)))

loading_writable : (e : Endian) (m a i : ℕ) → Few m → Few a → IsWritable (loading e m a i)
loading_writable e m a zero h k = selected_writable m a 0 h k
loading_writable Little m a (suc i) h k = (refl, (selected_writable m a (suc i) h k, (loading_writable Little m a i h k, tt)))
loading_writable Big m a (suc i) h k = (refl, (loading_writable Big m a i h k, (selected_writable m a (suc i) h k, tt)))

place_few : (e : Endian) (n i : ℕ) → n ≤ 8 → i < n → place e n i < 8
place_few Little n i h l = omega (arith, h, l)
place_few Big n i h l = omega (arith, h, l)

storing_writable : (e : Endian) (n m a v i : ℕ) → n ≤ 8 → i ≤ n → Few m → Few a → Few v → IsWritable (storing e n m a v i)
storing_writable e n m a v zero s l h k q = term_word m h
storing_writable e n m a v (suc i) s l h k q =
    let p = place_few e n i s (omega (arith, l)) in (
      refl,
      (
        storing_writable e n m a v i s (omega (arith, l)) h k q,
        (
          behind_writable a i k,
          (extract_writable (8 * place e n i + 7) (8 * place e n i) v (omega (arith, p)) (omega (arith, p)) q, tt),
        ),
      ),
    )

taking_writable : (from : List ℕ) (m a i : ℕ) → is_word from ≡ true → Few m → Few a → IsWritable (taking from m a i)
taking_writable from m a zero w h k = term_word m h
taking_writable from m a (suc i) w h k =
    (refl, (taking_writable from m a i w h k, (behind_writable a i k, ((refl, (w, (behind_writable a i k, tt))), tt))))

choose_writable : (c a b : ℕ) → Few c → Few a → Few b → IsWritable (choose c a b)
choose_writable c a b h k l = (refl, ((refl, (term_word c h, (refl, tt))), (term_word a k, (term_word b l, tt))))

-- a name with what a part has before it
pub part_word : (p : ℕ) (w : List ℕ) → is_word w ≡ true → is_word (part_name p w) ≡ true
part_word zero w h = h
part_word (suc p) [] h = absurd (cc h)
part_word (suc p) (b ∷ w) h = h

memory_word : (p : ℕ) → is_word (memory_name p) ≡ true
memory_word p = part_word p (codes "mem") refl

-- the name of an input is a word
abbrev pub HasWord : Layout → (numbers : List ℕ) → TermNode → Type 0
HasWord layout numbers (terms.RegisterNode p r) = is_word (name_in numbers p (slice_index_or layout.registers (r - layout.first) [])) ≡ true
HasWord layout numbers (terms.FlagNode p f) = is_word (name_in numbers p (slice_index_or layout.flags (length layout.flags - 1 - f) [])) ≡ true
HasWord layout numbers (terms.ChoiceNode i) = is_word (choice_name (slice_index numbers i)) ≡ true
HasWord layout numbers (terms.MemoryNode p) = is_word (memory_in numbers p) ≡ true
HasWord layout numbers (terms.TakeNode n m a p) = is_word (memory_in numbers p) ≡ true
HasWord layout numbers n = Unit {0}

abbrev pub HaveWords : Layout → (numbers : List ℕ) → List TermNode → Type 0
HaveWords layout numbers [] = Unit {0}
HaveWords layout numbers (n ∷ ns) = HasWord layout numbers n × HaveWords layout numbers ns

node_writable : (layout : Layout) (numbers : List ℕ) (bs : List TermNode) (n : TermNode) → terms.AreTyped bs → length bs < 2 ^ 32 → IsTypedOver bs n →
    HasWord layout numbers n →
    IsWritable (node_term layout numbers n)
node_writable layout numbers bs (terms.RegisterNode p r) t s h w = w
node_writable layout numbers bs (terms.FlagNode p f) t s h w = w
node_writable layout numbers bs (terms.ChoiceNode i) t s h w = w
node_writable layout numbers bs (terms.BaseNode p j) t s h w = hex_inners 2 0
node_writable layout numbers bs (terms.MemoryNode p) t s h w = w
node_writable layout numbers bs (terms.ConstantNode n v) t s h w = constant_word n v
node_writable layout numbers bs (terms.BinaryNode o n a b) t s h w = operation_writable o n a b (omega (arith, s, h.1.0)) (omega (arith, s, h.2.0))
node_writable layout numbers bs (terms.NotNode n a) t s h w = (refl, (term_word a (omega (arith, s, h.1.0)), tt))
node_writable layout numbers bs (terms.SelectNode n c a b) t s h w =
    choose_writable c a b (omega (arith, s, h.1.0)) (omega (arith, s, h.2.0)) (omega (arith, s, h.3.0))
node_writable layout numbers bs (terms.ExtractNode hi lo a) t s h w =
    let f = few_bits bs a t h.2 in
    extract_writable hi lo a (omega (arith, f, h.1)) (omega (arith, f, h.0, h.1)) (omega (arith, s, h.2))
node_writable layout numbers bs (terms.ConcatNode high low a b) t s h w =
    (refl, (term_word a (omega (arith, s, h.3.0)), (term_word b (omega (arith, s, h.4.0)), tt)))
node_writable layout numbers bs (terms.ExtendNode signed n m a) t s h w = extend_writable signed (m - n) a (omega (arith, h.2)) (omega (arith, s, h.3.0))
node_writable layout numbers bs (terms.LoadNode n e m a) t s h w = loading_writable e m a (n - 1) (omega (arith, s, h.1.0)) (omega (arith, s, h.2.0))
node_writable layout numbers bs (terms.StoreNode n e m a v) t s h w =
    storing_writable e n m a v n h.0.1 (omega arith) (omega (arith, s, h.1.0)) (omega (arith, s, h.2.0)) (omega (arith, s, h.3.0))
node_writable layout numbers bs (terms.JoinNode c a b) t s h w =
    choose_writable c a b (omega (arith, s, h.0.0)) (omega (arith, s, h.1.0)) (omega (arith, s, h.2.0))
node_writable layout numbers bs (terms.TakeNode n m a p) t s h w =
    taking_writable (memory_in numbers p) m a n w (omega (arith, s, h.1.0)) (omega (arith, s, h.2.0))

sort_writable : (w : ℕ) → w < 2 ^ 64 → IsWritable (sort_of w)
sort_writable zero h = (refl, ((refl, (refl, (refl, tt))), ((refl, (refl, (refl, tt))), tt)))
sort_writable (suc w) h = (refl, (refl, (number_word (suc w) h, tt)))

pub nodes_writable : (layout : Layout) (numbers : List ℕ) (bs ns : List TermNode) (at : ℕ) → at ≡ length bs → length bs + length ns < 2 ^ 32 →
    terms.AreTyped bs → AreTypedFrom bs ns →
    HaveWords layout numbers ns → AreWritable (node_definitions layout numbers at ns)
nodes_writable layout numbers bs [] at e s t f w = tt
nodes_writable layout numbers bs (n ∷ ns) at e s t f w =
    let l = longer bs n in
    let whole = typed_push bs n t f.0 in
    let k = few_bits (bs ++ n ∷ []) (length bs) whole (omega (arith, l)) in
    let q = ap width_of (last bs n (terms.MemoryNode 0)) in (
      (
        refl,
        (
          term_word at (omega (arith, e, s)),
          (tt, (sort_writable (width_of n) (omega (arith, k, q)), (node_writable layout numbers bs n t (omega (arith, s)) f.0 w.0, tt))),
        ),
      ),
      nodes_writable layout numbers (bs ++ n ∷ []) ns (suc at) (omega (arith, l, e)) (omega (arith, l, s)) whole f.1 w.1,
    )

byte_writable : (p a v : ℕ) → IsWritable (assertion (has_byte p a v))
byte_writable p a v = (refl, ((refl, ((refl, (memory_word p, (hex_inners 8 a, tt))), (hex_inners 2 v, tt))), tt))

one_writable : (asked : Bool) (c : Sexp) (cs : List Sexp) → IsWritable c → AreWritable cs → AreWritable (if asked then c ∷ cs else cs)
one_writable true c cs h k = (h, k)
one_writable false c cs h k = k

bytes_writable : (p : ℕ) (kept : List AddressRun) (r : ByteRun) (n i : ℕ) → AreWritable (byte_assertions p kept r i n)
bytes_writable p kept r zero i = tt
bytes_writable p kept r (suc n) i =
    one_writable (is_of_part p kept (r.at + i)) _ (byte_assertions p kept r (suc i) n) (byte_writable p (r.at + i) (slice_index r.bytes i))
    (bytes_writable p kept r n (suc i))

runs_writable : (p : ℕ) (kept : List AddressRun) (rs : List ByteRun) → AreWritable (run_assertions p kept rs)
runs_writable p kept [] = tt
runs_writable p kept (r ∷ rs) =
    AreWritable-append (byte_assertions p kept r 0 r.count) (run_assertions p kept rs) (bytes_writable p kept r r.count 0) (runs_writable p kept rs)

head_writable : (asked : Bool) (kept : List AddressRun) (rs : List ByteRun) → AreWritable (head_assertions asked kept rs)
head_writable false kept rs = tt
head_writable true kept rs = runs_writable 1 kept rs

pub file_writable : (asked : Bool) (kept : List AddressRun) (rs : List ByteRun) → AreWritable (file_assertions asked kept rs)
file_writable asked kept rs =
    AreWritable-append (run_assertions 0 kept rs) (head_assertions asked kept rs) (runs_writable 0 kept rs) (head_writable asked kept rs)

-- each name is a word
abbrev pub AreWords : List (List ℕ) → Type 0
AreWords [] = Unit {0}
AreWords (w ∷ ws) = (is_word w ≡ true) × AreWords ws

pub declarations_writable : (sort : Sexp) (names : List (List ℕ)) → IsWritable sort → AreWords names → AreWritable (declarations sort names)
declarations_writable sort [] s h = tt
declarations_writable sort (w ∷ ws) s h = ((refl, (h.0, (s, tt))), declarations_writable sort ws s h.1)

-- the declarations of a part
pub part_writable : (layout : Layout) (p : ℕ) → AreWords (part_names p layout.registers) → AreWords (part_names p layout.flags) →
    AreWritable (part_declarations layout p)
part_writable layout p registers flags =
    let word_is : IsWritable (word_sort (Atom (codes "32"))) = (refl, (refl, (refl, tt))) in
    let bit_is : IsWritable (word_sort (Atom (codes "1"))) = (refl, (refl, (refl, tt))) in
    let byte_is : IsWritable (word_sort (Atom (codes "8"))) = (refl, (refl, (refl, tt))) in
    AreWritable-append _ _ (declarations_writable _ (part_names p layout.registers) word_is registers)
    (AreWritable-append _ _ (declarations_writable _ (part_names p layout.flags) bit_is flags) (
      (refl, (memory_word p, ((refl, (word_is, (byte_is, tt))), tt))),
      tt,
    ))
