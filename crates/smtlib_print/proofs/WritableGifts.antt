-- The words of the declarations of what contract steps are given are words.
use Rattle.std.proofs.Common.{◌≡◌, ℕ, suc, ◌+◌, ◌^◌, ◌<◌, refl, arith, true, false, Bool, List, [], ◌∷◌, length, map}
use Rattle.std.specs.Prelude.{codes, if◌then◌else◌, nat_eq, slice_index}
use Rattle.std.specs.List.{list_any}
use Rattle.bilv_spec.specs.SmtLib.{Atom}
use Rattle.machine_spec.specs.StateText.{Layout}
use Rattle.frame_spec.specs.FrameScripts.{changed_flags, changed_registers, of_given, writes_some, written_memory}
use Rattle.smtlib_print.specs.Commands.{Given, all_given, array_sort, declarations, flag_symbols, given_declarations, memory_symbols, register_symbols, word_sort}
use Rattle.smtlib_print.proofs.GivenNames.{given_word}
use Rattle.smtlib_print.proofs.ReadBack.{is_word, AreWritable, AreWritable-append, IsWritable}
use Rattle.smtlib_print.proofs.Sources.{inner_of}
use Rattle.smtlib_print.proofs.Writable.{AreWords, declarations_writable}

one_word : (t : Bool) (n : ℕ) (w : List ℕ) (ws : List (List ℕ)) → n < 2 ^ 64 → is_word w ≡ true → AreWords (map (of_given n) ws) →
    AreWords (map (of_given n) (if t then w ∷ ws else ws))
one_word true n w ws few h k = (given_word n w few (inner_of w h), k)
one_word false n w ws few h k = k

register_words : (n : ℕ) (changed : List ℕ) (r : ℕ) (names : List (List ℕ)) → n < 2 ^ 64 → AreWords names →
    AreWords (map (of_given n) (changed_registers changed r names))
register_words n changed r [] few h = tt
register_words n changed r (w ∷ names) few h =
    one_word (list_any (nat_eq r) changed) n w (changed_registers changed (r + 1) names) few h.0 (register_words n changed (r + 1) names few h.1)

flag_words : (n : ℕ) (changed : List ℕ) (names : List (List ℕ)) → n < 2 ^ 64 → AreWords names → AreWords (map (of_given n) (changed_flags changed names))
flag_words n changed [] few h = tt
flag_words n changed (w ∷ names) few h =
    one_word (list_any (nat_eq (length names)) changed) n w (changed_flags changed names) few h.0 (flag_words n changed names few h.1)

memory_words : (n : ℕ) (t : Bool) → n < 2 ^ 64 → AreWords (map (of_given n) (written_memory t))
memory_words n true few = (given_word n (codes "mem") few refl, tt)
memory_words n false few = tt

given_writable : (layout : Layout) (n : ℕ) (g : Given) → n < 2 ^ 64 → AreWords layout.registers → AreWords layout.flags →
    AreWritable (given_declarations layout n g)
given_writable layout n g few registers flags =
    let word_is : IsWritable (word_sort (Atom (codes "32"))) = (refl, (refl, (refl, tt))) in
    let bit_is : IsWritable (word_sort (Atom (codes "1"))) = (refl, (refl, (refl, tt))) in
    let byte_is : IsWritable (word_sort (Atom (codes "8"))) = (refl, (refl, (refl, tt))) in
    let array_is : IsWritable array_sort = (refl, (word_is, (byte_is, tt))) in
    AreWritable-append (declarations (word_sort (Atom (codes "32"))) (register_symbols layout n g)) _
    (declarations_writable _ (register_symbols layout n g) word_is (register_words n g.registers layout.first layout.registers few registers))
    (AreWritable-append (declarations (word_sort (Atom (codes "1"))) (flag_symbols layout n g)) _
    (declarations_writable _ (flag_symbols layout n g) bit_is (flag_words n g.flags layout.flags few flags))
    (declarations_writable _ (memory_symbols n g) array_is (memory_words n (writes_some g.writes) few)))

pub gifts_writable : (layout : Layout) (numbers : List ℕ) (gs : List Given) → ((i : ℕ) → i < length numbers → slice_index numbers i < 2 ^ 64) →
    AreWords layout.registers → AreWords layout.flags → AreWritable (all_given layout numbers gs)
gifts_writable layout numbers [] few registers flags = tt
gifts_writable layout [] (g ∷ gs) few registers flags = tt
gifts_writable layout (n ∷ ns) (g ∷ gs) few registers flags =
    AreWritable-append (given_declarations layout n g) (all_given layout ns gs) (given_writable layout n g (few 0 (omega arith)) registers flags)
    (gifts_writable layout ns gs (λ i l. few (suc i) (omega (arith, l))) registers flags)
