-- The inputs of nodes are named, and their names are words.
use Rattle.std.proofs.Common.{◌≡◌, ℕ, zero, suc, ◌+◌, ◌-◌, ◌<◌, ◌≤◌, ap, subst, ◌∙◌, refl, arith, true, List, [], ◌∷◌, Option, Some, length, Contains}
use Rattle.std.specs.Prelude.{codes, slice_index}
use Rattle.bilv_spec.specs.Scripts.{choice_name}
use Rattle.bilv_spec.specs.SmtLib.{SmtValue, WordValue, ArrayValue}
use Rattle.term_spec.specs.Terms as terms
use Rattle.term_spec.specs.Terms.{TermReading, TermNode}
use Rattle.smtlib_print.specs.Commands.{Source, choices_of, memory_in}
use Rattle.smtlib_print.proofs.Declared.{onto_done, onto_new}
use Rattle.smtlib_print.proofs.Defined.{IsNamed, IsInputOf, AreInputsOf}
use Rattle.smtlib_print.proofs.Drawn.{drawn_among}
use Rattle.smtlib_print.proofs.Names.{choice_symbol, choice_word, is_symbol}
use Rattle.smtlib_print.proofs.GivenNames.{given_word}
use Rattle.smtlib_print.proofs.ReadBack.{is_word}
use Rattle.smtlib_print.proofs.Sources.{HasValues, IsFormed, IsNamedIn, IsOfPart, declared_names, flag_fixed, flag_named, gives_memory, gives_register, given_of, memory_named, names_before, names_until, register_fixed, register_named}
use Rattle.smtlib_print.proofs.Writable.{HasWord, HaveWords}

memory_symbol : (numbers : List ℕ) (p : ℕ) → is_symbol (memory_in numbers p) ≡ true
memory_symbol numbers zero = refl
memory_symbol numbers (suc zero) = refl
memory_symbol numbers (suc (suc p)) = refl

module _ (s : Source) (formed : IsFormed s) where
  -- a register by its number
  of_number : (p n : ℕ) → IsOfPart s.heads s.given (gives_register n) p → s.layout.first ≤ n →
      IsOfPart s.heads s.given (gives_register (s.layout.first + (n - s.layout.first))) p
  of_number p n of l =
      let e : n ≡ s.layout.first + (n - s.layout.first) = omega (arith, l) in
      subst (λ (k : ℕ). IsOfPart s.heads s.given (gives_register k) p) e of

  memory_words : (p : ℕ) → IsOfPart s.heads s.given gives_memory p → is_word (memory_in s.numbers p) ≡ true
  memory_words zero of = refl
  memory_words (suc zero) of = refl
  memory_words (suc (suc j)) of =
      given_word (slice_index s.numbers j) (codes "mem") (formed.few j (omega (arith, of.0, formed.numbered))) refl

  has_word : (n : TermNode) → IsNamedIn s.layout s.heads s.draws s.given n → HasWord s.layout s.numbers n
  has_word (terms.RegisterNode p r) h =
      (register_fixed s formed p (r - s.layout.first) (of_number p r h.0 h.1) h.2).word
  has_word (terms.FlagNode p f) h = (flag_fixed s formed p (length s.layout.flags - 1 - f) f h.0 (omega (arith, h.1))).word
  has_word (terms.ChoiceNode i) h = choice_word (slice_index s.numbers i) (formed.few i (omega (arith, h.0, formed.count)))
  has_word (terms.BaseNode p j) h = tt
  has_word (terms.MemoryNode p) h = memory_words p h
  has_word (terms.ConstantNode w v) h = tt
  has_word (terms.BinaryNode o w a b) h = tt
  has_word (terms.NotNode w a) h = tt
  has_word (terms.SelectNode w c a b) h = tt
  has_word (terms.ExtractNode hi lo a) h = tt
  has_word (terms.ConcatNode high low a b) h = tt
  has_word (terms.ExtendNode signed n m a) h = tt
  has_word (terms.LoadNode n e m a) h = tt
  has_word (terms.StoreNode n e m a v) h = tt
  has_word (terms.JoinNode c a b) h = tt
  has_word (terms.TakeNode n m a p) h = memory_words p h

  words_of : (ns : List TermNode) → ((n : TermNode) → Contains ns n → IsNamedIn s.layout s.heads s.draws s.given n) → HaveWords s.layout s.numbers ns
  words_of [] h = tt
  words_of (n ∷ ns) h = (has_word n (h n (0, omega arith, refl)), words_of ns (λ m c. h m (suc c.0, omega (arith, c.1), c.2)))

  pub have_words : HaveWords s.layout s.numbers s.nodes
  have_words = words_of s.nodes formed.named

  module _ (x : TermReading) (model : List ℕ → Option SmtValue) (values : HasValues s x model) where
    -- the memory of a part
    pub memory_input : (p : ℕ) → IsOfPart s.heads s.given gives_memory p → IsNamed model (declared_names s) (memory_in s.numbers p) (ArrayValue (x.mem p))
    memory_input p of = record { named = memory_named s formed p of; symbol = memory_symbol s.numbers p; value = values.memory p of }

    is_input : (n : TermNode) → IsNamedIn s.layout s.heads s.draws s.given n → IsInputOf model (declared_names s) s.layout s.numbers x n
    is_input (terms.RegisterNode p n) h =
        let i = n - s.layout.first in
        let e : s.layout.first + i ≡ n = omega (arith, h.1) in
        record {
          named = register_named s formed p i (of_number p n h.0 h.1) h.2;
          symbol = (register_fixed s formed p i (of_number p n h.0 h.1) h.2).symbol;
          value = values.registers p i (of_number p n h.0 h.1) h.2 ∙ ap (λ z. Some (WordValue 32 (x.regs p z))) e;
        }
    is_input (terms.FlagNode p f) h =
        let i = length s.layout.flags - 1 - f in
        let l : i < length s.layout.flags = omega (arith, h.1) in
        record {
          named = flag_named s formed p i f (omega (arith, h.1)) h.0 l;
          symbol = (flag_fixed s formed p i f h.0 l).symbol;
          value = values.flags p f h.0 h.1;
        }
    is_input (terms.ChoiceNode i) h =
        let l : i < length s.numbers = omega (arith, h.0, formed.count) in
        record {
          named = onto_done (names_until s) (given_of s) (choice_name (slice_index s.numbers i))
              (onto_new (names_before s) (choices_of s) (choice_name (slice_index s.numbers i)) (drawn_among s.numbers s.draws i l h.0 h.1));
          symbol = choice_symbol (slice_index s.numbers i);
          value = values.choices i l;
        }
    is_input (terms.BaseNode p j) h = absurd h
    is_input (terms.MemoryNode p) h = memory_input p h
    is_input (terms.ConstantNode w v) h = tt
    is_input (terms.BinaryNode o w a b) h = tt
    is_input (terms.NotNode w a) h = tt
    is_input (terms.SelectNode w c a b) h = tt
    is_input (terms.ExtractNode hi lo a) h = tt
    is_input (terms.ConcatNode high low a b) h = tt
    is_input (terms.ExtendNode signed n m a) h = tt
    is_input (terms.LoadNode n e m a) h = tt
    is_input (terms.StoreNode n e m a v) h = tt
    is_input (terms.JoinNode c a b) h = tt
    is_input (terms.TakeNode n m a p) h = memory_input p h

    inputs_of : (ns : List TermNode) → ((n : TermNode) → Contains ns n → IsNamedIn s.layout s.heads s.draws s.given n) →
        AreInputsOf model (declared_names s) s.layout s.numbers x ns
    inputs_of [] h = tt
    inputs_of (n ∷ ns) h = (is_input n (h n (0, omega arith, refl)), inputs_of ns (λ m c. h m (suc c.0, omega (arith, c.1), c.2)))

    pub are_inputs : AreInputsOf model (declared_names s) s.layout s.numbers x s.nodes
    are_inputs = inputs_of s.nodes formed.named
