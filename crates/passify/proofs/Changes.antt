-- What a contract's frame may have changed.
use Rattle.std.proofs.Common.{◌≡◌, ℕ, ◌+◌, ◌-◌, ◌*◌, ◌<◌, ◌≤◌, Bool, true, false, List, length, refl, ap, sym, ◌∙◌, subst, arith, nat_eq, get_or}
use Rattle.std.specs.Prelude.{◌&&◌, ◌||◌, ◌==◌, not, slice_index}
use Rattle.std.specs.List.{list_any}
use Rattle.std.proofs.lemmas.List.{get_or-map, length-map}
use Rattle.word_spec.specs.Words.{bit}
use Rattle.word_spec.specs.RowFiles.{from_to}
use Rattle.machine_spec.specs.Bil.{NotEqual}
use Rattle.term_spec.specs.Terms.{TermReading, TermNode, BinaryNode, AreTyped, HasWidth, term_word}
use Rattle.term_spec.specs.Passive.{AreNames, Denotes, Tells}
use Rattle.walk_spec.specs.Unrolled.{Carried}
use Rattle.notes_value.specs.FrameViews.{contract_of}
use Rattle.notes_value.specs.declared.notes.Contract.{Contract}
use Rattle.term_dag.specs.Made.{Grew, IsMade}
use Rattle.term_dag.proofs.Growth.{grew_on, grew_more, grew_none, grew_width, inputs_on, inputs_none, made_grew, made_inputs}
use Rattle.term_dag.specs.declared.nodes.Term.{Term}
use Rattle.term_names.specs.Choices.{AreWide, places}
use Rattle.term_names.specs.declared.names.Names.{Names}
use Rattle.term_names.specs.Chosen.{HaveSameForm}
use Rattle.term_names.specs.Gifts.{is_in}
use Rattle.term_names.specs.Views.{form_of, names_of}
use Rattle.note_terms.proofs.Valued.{range_at, range_length}
use Rattle.passify.specs.Bits.{Makes, TellsByBoth}
use Rattle.passify.specs.Changes.{TellsAmong, TellsChanged, changes, differs_among}
use Rattle.passify.specs.Sweeps.{bits_of, terms_of}
use Rattle.passify.proofs.Kept.{tells_keep, word_keeps}
use Rattle.passify.proofs.Ranges.{any_below, any_push, any_ranges, listed}

-- one word against another
pub differs_made : (old mid new : List TermNode) (w left right before hit t : ℕ) → HasWidth old 1 before → IsMade old mid (BinaryNode NotEqual w left right) hit →
    Makes mid new 1 2 1 t (TellsByBoth (λ p q. p || q) mid new before hit t) →
    Makes old new (w + 1) 4 1 t (λ x. (p : Bool) → Tells old x before p → Tells new x t (p || not (term_word x old left == term_word x old right)))
differs_made old mid new w left right before hit t wb m k =
    let g = made_grew old mid (BinaryNode NotEqual w left right) hit m in
    record {
      grew = grew_on old mid new w 0 0 0 2 1 0 0 0 2 g k.grew;
      inputs = inputs_on old mid new (λ m. ⊥) (made_inputs old mid (BinaryNode NotEqual w left right) hit (λ m. ⊥) m (λ i. i)) k.inputs;
      typed = k.typed;
      width = k.width;
      holds = λ x r p h.
          k.holds x r p (not (term_word x old left == term_word x old right)) (tells_keep g x before p wb.0 h) (ap (λ v. v.word) (m.value x r));
    }

or_false : (p : Bool) → p ≡ (p || false)
or_false true = refl
or_false false = refl

or_three : (p q r : Bool) → ((p || q) || r) ≡ (p || (q || r))
or_three true q r = refl
or_three false q r = refl

pub among_none : (ns : List TermNode) (w set low : ℕ) (entry next : List ℕ) (before : ℕ) → AreTyped ns → HasWidth ns 1 before →
    Makes ns ns ((w + 1) * 0) (4 * 0) 1 before (TellsAmong ns ns set low entry next 0 before before)
among_none ns w set low entry next before typed wb = record {
  grew = grew_more ns ns 0 0 0 0 0 ((w + 1) * 0) 0 0 0 (4 * 0) (omega arith) (omega arith) (omega arith) (omega arith) (omega arith) (grew_none ns);
  inputs = inputs_none ns (λ m. ⊥);
  typed = typed;
  width = wb;
  holds = λ x r p h. h ∙ ap bit (or_false p);
}

module _ (old cur : List TermNode) (w set low : ℕ) (entry next : List ℕ) (i before left : ℕ)
    (k : Makes old cur ((w + 1) * i) (4 * i) 1 left (TellsAmong old cur set low entry next i before left)) where
  abbrev test : TermReading → ℕ → Bool
  test x j = not (is_in set (low + j)) && not (term_word x old (slice_index next j) == term_word x old (slice_index entry j))

  at_next : (x : TermReading) → differs_among old x set low entry next (i + 1) ≡ (differs_among old x set low entry next i || test x i)
  at_next x = any_push (test x) 0 i ∙ ap (λ z. differs_among old x set low entry next i || test x z) (let e : 0 + i ≡ i = omega arith in e)

  pub among_passed : is_in set (low + i) ≡ true → Makes old cur ((w + 1) * (i + 1)) (4 * (i + 1)) 1 left (TellsAmong old cur set low entry next (i + 1) before left)
  among_passed e = record {
    grew = grew_more old cur ((w + 1) * i) 0 0 0 (4 * i) ((w + 1) * (i + 1)) 0 0 0 (4 * (i + 1)) (omega arith) (omega arith) (omega arith) (omega arith)
        (omega arith) k.grew;
    inputs = k.inputs;
    typed = k.typed;
    width = k.width;
    holds = λ x r p h.
        let d = differs_among old x set low entry next i in
        let q = not (term_word x old (slice_index next i) == term_word x old (slice_index entry i)) in
        k.holds x r p h ∙ ap (λ z. bit (p || z)) (or_false d ∙ sym (at_next x ∙ ap (λ z. d || (not z && q)) e));
  }

  pub among_more : (new : List TermNode) (t : ℕ) → HasWidth old w (slice_index entry i) → HasWidth old w (slice_index next i) → is_in set (low + i) ≡ false →
      Makes cur new (w + 1) 4 1 t (λ x. (p : Bool) → Tells cur x left p →
      Tells new x t (p || not (term_word x cur (slice_index next i) == term_word x cur (slice_index entry i)))) →
      Makes old new ((w + 1) * (i + 1)) (4 * (i + 1)) 1 t (TellsAmong old new set low entry next (i + 1) before t)
  among_more new t we wn e m = record {
    grew = grew_more old new ((w + 1) * i + (w + 1)) 0 0 0 (4 * i + 4) ((w + 1) * (i + 1)) 0 0 0 (4 * (i + 1)) (omega arith) (omega arith) (omega arith)
        (omega arith) (omega arith) (grew_on old cur new ((w + 1) * i) 0 0 0 (4 * i) (w + 1) 0 0 0 4 k.grew m.grew);
    inputs = inputs_on old cur new (λ m. ⊥) k.inputs m.inputs;
    typed = m.typed;
    width = m.width;
    holds = λ x r p h.
        let d = differs_among old x set low entry next i in
        let a = term_word x old (slice_index next i) in
        let b = term_word x old (slice_index entry i) in
        m.holds x r (p || d) (k.holds x r p h)
        ∙ ap (λ z. bit ((p || d) || not (z == term_word x cur (slice_index entry i)))) (word_keeps k.grew x (slice_index next i) wn.0)
        ∙ ap (λ z. bit ((p || d) || not (a == z))) (word_keeps k.grew x (slice_index entry i) we.0)
        ∙ ap bit (or_three p d (not (a == b)))
        ∙ ap (λ z. bit (p || z)) (sym (at_next x ∙ ap (λ z. d || (not z && not (a == b))) e));
  }

-- there is a place for each term
pub place_at : (ts : List Term) (i : ℕ) → i < length ts → i < length (places ts)
place_at ts i l = let m = length-map ts (λ (z : Term). z.0) in omega (arith, m, l)

-- the word of a place is that of its term
pub differs_at : (old cur new : List TermNode) (w : ℕ) (entry next : List Term) (i before t : ℕ) → i < length entry → length next ≡ length entry →
    Makes cur new (w + 1) 4 1 t (λ x. (p : Bool) → Tells cur x before p →
    Tells new x t (p || not (term_word x cur (get_or next i (record { 0 = 0 })).0 == term_word x cur (get_or entry i (record { 0 = 0 })).0))) →
    Makes cur new (w + 1) 4 1 t (λ x. (p : Bool) → Tells cur x before p →
    Tells new x t (p || not (term_word x cur (slice_index (places next) i) == term_word x cur (slice_index (places entry) i))))
differs_at old cur new w entry next i before t l same m =
    subst (λ (a : ℕ). Makes cur new (w + 1) 4 1 t (λ x. (p : Bool) → Tells cur x before p →
    Tells new x t (p || not (term_word x cur a == term_word x cur (slice_index (places entry) i))))) (word_of next (omega (arith, same, l)))
    (subst (λ (b : ℕ). Makes cur new (w + 1) 4 1 t (λ x. (p : Bool) → Tells cur x before p →
    Tells new x t (p || not (term_word x cur (get_or next i (record { 0 = 0 })).0 == term_word x cur b)))) (word_of entry l) m)
  where
    word_of : (ts : List Term) → i < length ts → (get_or ts i (record { 0 = 0 })).0 ≡ slice_index (places ts) i
    word_of ts l = sym (get_or-map (λ (z : Term). z.0) ts i (record { 0 = 0 }) 0 l)

-- each term has the width
pub width_at : (old cur : List TermNode) (g l st j n w : ℕ) (ts : List Term) (i : ℕ) → Grew old cur g l st j n → AreWide old w (places ts) → i < length ts →
    HasWidth cur w (get_or ts i (record { 0 = 0 })).0
width_at old cur g l st j n w ts i grew h k =
    subst (λ (t : ℕ). HasWidth cur w t) (get_or-map (λ (z : Term). z.0) ts i (record { 0 = 0 }) 0 k)
    (grew_width old cur g l st j n w (slice_index (places ts) i) grew (h i (place_at ts i k)))

-- all of them
pub among_all : (old new : List TermNode) (w set low : ℕ) (entry next : List ℕ) (i n before t : ℕ) → i ≡ n →
    Makes old new ((w + 1) * i) (4 * i) 1 t (TellsAmong old new set low entry next i before t) →
    Makes old new ((w + 1) * n) (4 * n) 1 t (TellsAmong old new set low entry next n before t)
among_all old new w set low entry next i n before t e m =
    subst (λ (j : ℕ). Makes old new ((w + 1) * j) (4 * j) 1 t (TellsAmong old new set low entry next j before t)) e m

-- registers and flags
module _ (k : Contract) (old a b new : List TermNode) (entry next : Names) (never words t : ℕ) (few : entry.first + length entry.registers.items ≤ 32)
    (flags : length entry.flags.items ≤ 4) (same : HaveSameForm entry next)
    (he : AreNames (form_of entry) old (names_of entry)) (hn : AreNames (form_of next) old (names_of next))
    (m1 : Makes old a 0 1 1 never (λ x. Tells a x never false))
    (m2 : Makes a b ((32 + 1) * length entry.registers.items) (4 * length entry.registers.items) 1 words
    (TellsAmong a b k.registers next.first (names_of entry).registers (names_of next).registers (length entry.registers.items) never words))
    (m3 : Makes b new ((1 + 1) * length entry.flags.items) (4 * length entry.flags.items) 1 t
    (TellsAmong b new k.flags 0 (names_of entry).flags (names_of next).flags (length entry.flags.items) words t)) where
  g12 : Grew old b (0 + (32 + 1) * length entry.registers.items) 0 0 0 (1 + 4 * length entry.registers.items)
  g12 = grew_on old a b 0 0 0 0 1 ((32 + 1) * length entry.registers.items) 0 0 0 (4 * length entry.registers.items) m1.grew m2.grew

  module _ (x : TermReading) (d e : Carried) (de : Denotes (form_of entry) old x (names_of entry) d) (dn : Denotes (form_of next) old x (names_of next) e) where
    count : length next.registers.items ≡ length entry.registers.items
    count = sym same.registers

    word_test : (i : ℕ) → i < length entry.registers.items →
        (not (is_in k.registers (next.first + i)) && not (term_word x a (slice_index (names_of next).registers i) == term_word x a (slice_index (names_of entry).registers i)))
        ≡ (not (list_any (nat_eq (next.first + i)) (contract_of k).registers) && not (e.regs (next.first + i) == d.regs (next.first + i)))
    word_test i l =
        let ln : i < length (form_of next).registers = (let q = range_length next.first (length next.registers.items) in omega (arith, q, l, count)) in
        let le : i < length (form_of entry).registers = (let q = range_length entry.first (length entry.registers.items) in omega (arith, q, l)) in
        let r = next.first + i in
        let below : r < 32 = omega (arith, same.first, few, l) in
        let vn : term_word x a (slice_index (names_of next).registers i) ≡ e.regs r =
        word_keeps m1.grew x (slice_index (names_of next).registers i) (hn.words i ln).0 ∙ dn.registers i ln
        ∙ ap e.regs (range_at next.first (length next.registers.items) i (omega (arith, l, count))) in
        let ve : term_word x a (slice_index (names_of entry).registers i) ≡ d.regs r =
        word_keeps m1.grew x (slice_index (names_of entry).registers i) (he.words i le).0 ∙ de.registers i le
        ∙ ap d.regs (range_at entry.first (length entry.registers.items) i l ∙ ap (λ z. z + i) same.first) in
        ap (λ z. not z && not (term_word x a (slice_index (names_of next).registers i) == term_word x a (slice_index (names_of entry).registers i)))
        (sym (listed (is_in k.registers) r 32 below))
        ∙ ap (λ z. not (list_any (nat_eq r) (contract_of k).registers) && not (z == term_word x a (slice_index (names_of entry).registers i))) vn
        ∙ ap (λ z. not (list_any (nat_eq r) (contract_of k).registers) && not (e.regs r == z)) ve

    flag_test : (i : ℕ) → i < length entry.flags.items →
        (not (is_in k.flags (0 + i)) && not (term_word x b (slice_index (names_of next).flags i) == term_word x b (slice_index (names_of entry).flags i)))
        ≡ (not (list_any (nat_eq (0 + i)) (contract_of k).flags) && not (e.flags (0 + i) == d.flags (0 + i)))
    flag_test i l =
        let ln : i < length next.flags.items = omega (arith, l, same.flags) in
        let z : 0 + i ≡ i = omega arith in
        let vn : term_word x b (slice_index (names_of next).flags i) ≡ e.flags (0 + i) =
        word_keeps g12 x (slice_index (names_of next).flags i) (hn.bits i ln).0 ∙ dn.flags i ln ∙ ap e.flags (sym z) in
        let ve : term_word x b (slice_index (names_of entry).flags i) ≡ d.flags (0 + i) =
        word_keeps g12 x (slice_index (names_of entry).flags i) (he.bits i l).0 ∙ de.flags i l ∙ ap d.flags (sym z) in
        ap (λ y. not y && not (term_word x b (slice_index (names_of next).flags i) == term_word x b (slice_index (names_of entry).flags i)))
        (sym (listed (is_in k.flags) (0 + i) 4 (omega (arith, l, flags))))
        ∙ ap (λ y. not (list_any (nat_eq (0 + i)) (contract_of k).flags) && not (y == term_word x b (slice_index (names_of entry).flags i))) vn
        ∙ ap (λ y. not (list_any (nat_eq (0 + i)) (contract_of k).flags) && not (e.flags (0 + i) == y)) ve

    all_tests : (differs_among a x k.registers next.first (names_of entry).registers (names_of next).registers (length entry.registers.items)
        || differs_among b x k.flags 0 (names_of entry).flags (names_of next).flags (length entry.flags.items))
        ≡ changes (contract_of k) next d e
    all_tests =
        let R = λ (r : ℕ). not (list_any (nat_eq r) (contract_of k).registers) && not (e.regs r == d.regs r) in
        let F = λ (g : ℕ). not (list_any (nat_eq g) (contract_of k).flags) && not (e.flags g == d.flags g) in
        let fs = differs_among b x k.flags 0 (names_of entry).flags (names_of next).flags (length entry.flags.items) in
        ap (λ z. z || fs) (any_ranges _ R 0 next.first (length entry.registers.items) (λ i l.
        ap (λ j. not (is_in k.registers (next.first + j)) && not (term_word x a (slice_index (names_of next).registers j) == term_word x a (slice_index (names_of entry).registers j)))
        (let z : 0 + i ≡ i = omega arith in z) ∙ word_test i l))
        ∙ ap (λ n. list_any R (from_to next.first n) || fs) (sym count)
        ∙ ap (λ z. list_any R (form_of next).registers || z) (any_ranges _ F 0 0 (length entry.flags.items) (λ i l.
        ap (λ j. not (is_in k.flags (0 + j)) && not (term_word x b (slice_index (names_of next).flags j) == term_word x b (slice_index (names_of entry).flags j)))
        (let z : 0 + i ≡ i = omega arith in z) ∙ flag_test i l))
        ∙ ap (λ n. list_any R (form_of next).registers || list_any F (from_to 0 n)) same.flags
        ∙ ap (λ z. list_any R (form_of next).registers || z) (sym (any_below F (length next.flags.items)))

  pub all_changes : Makes old new (bits_of next + terms_of next - 1) (4 * terms_of next - 3) 1 t (TellsChanged old new (contract_of k) entry next t)
  all_changes =
      let r = same.registers in let f = same.flags in
      record {
        grew = grew_more old new (0 + (32 + 1) * length entry.registers.items + (1 + 1) * length entry.flags.items) 0 0 0
            (1 + 4 * length entry.registers.items + 4 * length entry.flags.items)
            (bits_of next + terms_of next - 1) 0 0 0 (4 * terms_of next - 3) (omega (arith, r, f)) (omega arith) (omega arith) (omega arith) (omega (arith, r, f))
            (grew_on old b new _ 0 0 0 _ ((1 + 1) * length entry.flags.items) 0 0 0 (4 * length entry.flags.items) g12 m3.grew);
        inputs = inputs_on old b new (λ m. ⊥) (inputs_on old a b (λ m. ⊥) m1.inputs m2.inputs) m3.inputs;
        typed = m3.typed;
        width = m3.width;
        holds = λ x ok d e de dn.
            let ws = differs_among a x k.registers next.first (names_of entry).registers (names_of next).registers (length entry.registers.items) in
            m3.holds x ok ws (m2.holds x ok false (m1.holds x ok)) ∙ ap bit (all_tests x d e de dn);
      }
