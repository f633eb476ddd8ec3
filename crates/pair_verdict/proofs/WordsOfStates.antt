-- The words of exit states that links compare, as code reads them.
use Rattle.std.proofs.Common.{◌≡◌, ℕ, suc, ◌+◌, ◌-◌, ◌≤◌, refl, sym, ap, ◌∙◌, arith, Bool, true, false, List, [], ◌∷◌, ◌++◌, append_assoc, get_or}
use Rattle.std.specs.Prelude.{map}
use Rattle.std.proofs.lemmas.Bool.Decides.{nat_tests}
use Rattle.word_spec.specs.RowFiles.{from_to}
use Rattle.word_spec.specs.State.{State}
use Rattle.machine_spec.specs.Machine.{Machine}
use Rattle.links_lang.specs.Views.{AreLinksOf, IsLinkOf, IsOfForm, link_of}
use Rattle.links_lang.specs.declared.links.Link.{Link}
use Rattle.links_lang.specs.declared.links.Link.TheVariants.{Entry, Exit, Share, Same}
use Rattle.links_lang.specs.declared.links.Named.{Named}
use Rattle.links_lang.specs.declared.links.Named.TheVariants.{Zero, Register, Flag}
use Rattle.notes_lang.specs.Parsing.{layout_flags, layout_registers}
use Rattle.pair_sides.specs.Sides.{machine_in}
use Rattle.pair_spec.specs.Links as spec
use Rattle.pair_spec.specs.Links.{addresses}
use Rattle.start_value.specs.declared.layout.Layout.{Layout}
use Rattle.start_value.specs.declared.layout.Layout.TheVariants.{Rv32, Arm}
use Rattle.pair_verdict.specs.ExitLines.{lined_words}
use Rattle.pair_verdict.specs.StateWords.{AreExitLinks, IsExitLink, named_in, AreWordsOf, IsNamedOf, IsWordOf, lined_bytes}

-- the bytes from an address on, after one more
pub bytes_next : (line high : ℕ) (s : State) (at next byte : ℕ) (old before after : List (ℕ × ℕ)) → at ≤ high → next ≡ at + 1 → byte ≡ s.mem at →
    after ≡ before ++ (line, byte) ∷ [] → before ++ lined_bytes line s (from_to at (high + 1 - at)) ≡ old →
    after ++ lined_bytes line s (from_to next (high + 1 - next)) ≡ old
bytes_next line high s at next byte old before after within next_is byte_is push so =
    let more : high + 1 - at ≡ suc (high + 1 - next) = omega arith in
    let rest = lined_bytes line s (from_to (at + 1) (high + 1 - next)) in
    let first : lined_bytes line s (from_to at (high + 1 - at)) ≡ (line, s.mem at) ∷ rest = ap (λ n. lined_bytes line s (from_to at n)) more in
    ap (λ z. z ++ lined_bytes line s (from_to next (high + 1 - next))) push
    ∙ ap (λ n. (before ++ (line, byte) ∷ []) ++ lined_bytes line s (from_to n (high + 1 - next))) next_is
    ∙ ap (λ b. (before ++ (line, b) ∷ []) ++ rest) byte_is
    ∙ append_assoc before ((line, s.mem at) ∷ []) rest
    ∙ ap (λ z. before ++ z) (sym first) ∙ so

-- the bytes of a link
lined_same : (n : ℕ) (s : State) (places : List ℕ) → map (λ (f : State → ℕ). (n, f s)) (map (λ a (z : State). z.mem a) places) ≡ lined_bytes n s places
lined_same n s [] = refl
lined_same n s (a ∷ places) = ap (λ z. (n, s.mem a) ∷ z) (lined_same n s places)

same_words : (side : Bool) (s : State) (line low high : ℕ) → lined_bytes line s (addresses low high) ≡ lined_words side s (spec.SameBytes line low high)
same_words true s line low high = sym (lined_same line s (addresses low high))
same_words false s line low high = sym (lined_same line s (addresses low high))

pub same_pushed : (side : Bool) (s : State) (l : Link) (line low high : ℕ) (old new : List (ℕ × ℕ)) → l ≡ Same line low high →
    new ≡ old ++ lined_bytes line s (addresses low high) → new ≡ old ++ lined_words side s (link_of l)
same_pushed side s l line low high old new is push =
    push ∙ ap (λ z. old ++ z) (same_words side s line low high ∙ ap (λ x. lined_words side s (link_of x)) (sym is))

-- ---- links of states

has_registers : (form : Layout) → layout_registers form ≡ (machine_in form).has_register
has_registers (Rv32 compressed) = refl
has_registers (Arm big profile) = refl

few_flags : (form : Layout) (f : ℕ) → layout_flags form f ≡ true → f ≤ 3
few_flags (Rv32 compressed) f h = absurd (let x : false ≡ true = h in cc)
few_flags (Arm big profile) f h = grind (arith, nat_tests)

module _ (side : Bool) (form : Layout) (m : Machine) (is : machine_in form ≡ m) (has : ℕ → Bool) (same : has ≡ m.has_register) where
  named_has : (x : Named) → IsOfForm form x → IsNamedOf has x
  named_has Zero h = tt
  named_has (Register r) h =
      let here : has r ≡ true = ap (λ f. f r) same ∙ ap (λ (z : Machine). z.has_register r) (sym is) ∙ ap (λ f. f r) (sym (has_registers form)) ∙ h in here
  named_has (Flag f) h = few_flags form f h

  word_of : (l : Link) → IsExitLink side form l → IsWordOf side has l
  word_of (Entry line x y) h = tt
  word_of (Exit line x y) h = named_has (named_in side x y) h
  word_of (Share line low high) h = tt
  word_of (Same line low high) h = tt

  pub words_of_links : (links : List Link) → AreExitLinks side form links → AreWordsOf side has links
  words_of_links links h = λ k d l. word_of (get_or links k d) (h k d l)

-- links between two forms are links of each side
first_link : (form other : Layout) (l : Link) → IsLinkOf form other l → IsExitLink false form l
first_link form other (Entry line x y) h = tt
first_link form other (Exit line x y) h = h.0
first_link form other (Share line low high) h = tt
first_link form other (Same line low high) h = tt

second_link : (form other : Layout) (l : Link) → IsLinkOf form other l → IsExitLink true other l
second_link form other (Entry line x y) h = tt
second_link form other (Exit line x y) h = h.1
second_link form other (Share line low high) h = tt
second_link form other (Same line low high) h = tt

pub first_exit_links : (form other : Layout) (links : List Link) → AreLinksOf form other links → AreExitLinks false form links
first_exit_links form other links h = λ k d l. first_link form other (get_or links k d) (h k d l)

pub second_exit_links : (form other : Layout) (links : List Link) → AreLinksOf form other links → AreExitLinks true other links
second_exit_links form other links h = λ k d l. second_link form other (get_or links k d) (h k d l)
