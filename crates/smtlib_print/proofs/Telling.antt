-- The text of a script says the question of its program.
use Rattle.std.proofs.Common.{◌≡◌, ℕ, zero, suc, ◌+◌, ◌-◌, ◌^◌, ◌<◌, refl, ap, sym, ◌∙◌, arith, false, List, [], Some, length, map, Contains, inl, inr}
use Rattle.std.specs.Prelude.{slice_index}
use Rattle.std.specs.Str.{bytes_eq}
use Rattle.std.proofs.lemmas.Map.Views.{Contains-from_any}
use Rattle.bilv_spec.specs.Points.{Point}
use Rattle.bilv_spec.specs.Questions.{Reading, IsReading}
use Rattle.call_spec.specs.Calls.{Question}
use Rattle.bilv_spec.specs.Scripts.{choice_name, values_of}
use Rattle.bilv_spec.specs.SmtLib.{WordValue, ArrayValue}
use Rattle.machine_spec.specs.StateText.{Layout}
use Rattle.term_spec.specs.Terms.{InRange, TermNode}
use Rattle.walk_spec.specs.Unrolled.{UnrolledProgram, point_at}
use Rattle.walk_spec.specs.Unrolling.{IsLaidOut}
use Rattle.term_spec.specs.WalkQuestions.{IsTrueOfWalk, TellsQuestion, term_reading}
use Rattle.smtlib_print.specs.Commands.{Source, choices_of, memory_in, middle_commands, name_in}
use Rattle.smtlib_print.specs.Written.{commands_text}
use Rattle.smtlib_print.specs.Told.{AreInOrder, IsDrawn, IsSymbolOf, TellsScript}
use Rattle.smtlib_print.specs.Scripted.{AreBehind, AreNumbers, FitMemory, program_source, script_text}
use Rattle.smtlib_print.proofs.Defined.{among}
use Rattle.smtlib_print.proofs.Drawn.{drawn_among}
use Rattle.smtlib_print.proofs.Layouts.{IsUsable, name_at}
use Rattle.smtlib_print.proofs.Named.{draws_at, draws_length, program_named}
use Rattle.smtlib_print.proofs.Names.{text_of}
use Rattle.smtlib_print.proofs.Sources.{HasValues, IsFormed, IsOfPart, gives_flag, gives_memory, gives_register}
use Rattle.smtlib_print.proofs.Spoken.{IsDeclared, Says, commands, commands_are, defines, drawn_is, plain, says_from, says_to, symbol_from, symbol_to, text_is, well_formed, whole_lines}
use Rattle.smtlib_print.proofs.Valued.{choice_is, flag_is, memory_is, register_is}

term_range : (u : UnrolledProgram) (r : Reading) → IsReading r → InRange (term_reading u r)
term_range u r is = record {
  regs = λ p. is.state.regs;
  flags = λ p. is.state.flags;
  mem = λ p. is.state.mem;
  choice = λ i. is.choice (point_at u i).point;
  base = λ p j. omega arith;
}

module _ (u : UnrolledProgram) (layout : Layout) (usable : IsUsable layout) (laid : IsLaidOut layout u) (points : List Point) (numbers : List ℕ)
    (are : AreNumbers u points numbers)
    (nodes : List TermNode) (root : ℕ) (question : Question) (tells : TellsQuestion u question (record { nodes = nodes; root = root }))
    (few : length nodes < 2 ^ 32)
    (fit : FitMemory u.known) (behind : AreBehind 0 u.known) where
  abbrev s : Source
  s = program_source layout u numbers nodes root

  formed : IsFormed s
  formed = record {
    usable = usable;
    count = are.count ∙ sym (draws_length u.points);
    few = λ i l. omega (arith, are.within i l, are.few);
    distinct = are.distinct;
    typed = tells.terms.typed;
    small = few;
    root = tells.root;
    named = λ n c. program_named u layout laid n (tells.terms.named n c);
    fit = fit;
    behind = behind;
    asks = λ e. absurd (cc);
    numbered = omega arith;
  }

  -- a program has no head
  register_value : (r : Reading) (p i : ℕ) → IsOfPart false [] (gives_register (layout.first + i)) p → i < length layout.registers →
      values_of layout points r (name_in numbers p (name_at layout.registers i)) ≡ Some (WordValue 32 (r.state.regs (layout.first + i)))
  register_value r zero i of l = register_is layout usable points are.few r i l
  register_value r (suc zero) i of l = absurd (cc of)
  register_value r (suc (suc p)) i of l = absurd (omega (arith, of.0))

  flag_value : (r : Reading) (p f : ℕ) → IsOfPart false [] (gives_flag f) p → f < length layout.flags →
      values_of layout points r (name_in numbers p (name_at layout.flags (length layout.flags - 1 - f))) ≡ Some (WordValue 1 (r.state.flags f))
  flag_value r zero f of l = flag_is layout usable points are.few r f l
  flag_value r (suc zero) f of l = absurd (cc of)
  flag_value r (suc (suc p)) f of l = absurd (omega (arith, of.0))

  memory_value : (r : Reading) (p : ℕ) → IsOfPart false [] gives_memory p → values_of layout points r (memory_in numbers p) ≡ Some (ArrayValue r.state.mem)
  memory_value r zero of = memory_is layout usable points are.few r
  memory_value r (suc zero) of = absurd (cc of)
  memory_value r (suc (suc p)) of = absurd (omega (arith, of.0))

  values : (r : Reading) → HasValues s (term_reading u r) (values_of layout points r)
  values r = record {
    registers = register_value r;
    flags = flag_value r;
    memory = memory_value r;
    choices = λ i l. choice_is layout usable points are.few r (slice_index numbers i) (point_at u i).point (are.within i l) (are.at i l);
  }

  -- the choices that are declared are those of the places that draw
  choice_drawn : (w : List ℕ) → Contains (choices_of s) w → IsDrawn u points w
  choice_drawn w c =
      let f = drawn_is numbers (map (λ q. q.draws) u.points) w c in
      let l : f.0 < length u.points = omega (arith, f.1, are.count) in
      (f.0, slice_index numbers f.0, (l, sym (draws_at u.points f.0 l) ∙ f.3), are.at f.0 f.1, f.4)

  drawn_choice : (w : List ℕ) → IsDrawn u points w → Contains (choices_of s) w
  drawn_choice w d =
      let l : d.0 < length numbers = omega (arith, d.2.0, are.count) in
      let n = are.once d.0 d.1 l d.3 in
      let a = drawn_among numbers (map (λ q. q.draws) u.points) d.0 l (omega (arith, d.2.0, draws_length u.points)) (draws_at u.points d.0 d.2.0 ∙ d.2.1) in
      let e : w ≡ choice_name (slice_index numbers d.0) = d.4 ∙ ap choice_name n in
      Contains-from_any {eq = bytes_eq} text_of w (choices_of s) (ap (among (choices_of s)) e ∙ a)

  symbol_of : (w : List ℕ) → IsDeclared s w → IsSymbolOf u layout points w
  symbol_of w (inl v) = inl v
  symbol_of w (inr (inl e)) = inr (inl e)
  symbol_of w (inr (inr (inl h))) = absurd (omega (arith, h.1))
  symbol_of w (inr (inr (inr (inl c)))) = inr (inr (choice_drawn w c))
  symbol_of w (inr (inr (inr (inr g)))) = absurd (omega (arith, g.1))

  of_symbol : (w : List ℕ) → IsSymbolOf u layout points w → IsDeclared s w
  of_symbol w (inl v) = inl v
  of_symbol w (inr (inl e)) = inr (inl e)
  of_symbol w (inr (inr d)) = inr (inr (inr (inl (drawn_choice w d))))

  -- what it says is the question
  question_to : (r : Reading) → IsReading r → r.state.pc ≡ u.entry → Says s (term_reading u r) → IsTrueOfWalk u r question
  question_to r is pc t =
      let q = (tells.means r is pc).0 t.root in
      record {
        choice = is.choice;
        entry = record { state = is.state; pc = pc; lines = q.lines; bytes = λ a b l k asked. t.entry a b l k refl };
        ends = q.ends;
      }

  question_from : (r : Reading) → IsReading r → r.state.pc ≡ u.entry → IsTrueOfWalk u r question → Says s (term_reading u r)
  question_from r is pc t = record {
    root = (tells.means r is pc).1 (record { lines = t.entry.lines; ends = t.ends });
    entry = λ a b l k asked. t.entry.bytes a b l k refl;
    head = λ e. absurd (cc);
  }

  pub script_tells : AreInOrder u points → TellsScript u layout question (script_text layout u numbers nodes root)
  script_tells order = record {
    points = points;
    are_in_order = order;
    middle = commands_text (middle_commands s);
    text_is = text_is s formed;
    whole_lines = whole_lines (middle_commands s);
    plain = plain s formed;
    commands = commands s formed;
    commands_are = commands_are s formed;
    declares = λ w. ((λ c. symbol_of w (symbol_to s w c)), (λ d. symbol_from s w (of_symbol w d)));
    defines = defines s formed;
    well_formed = λ r is. well_formed s formed (term_reading u r) (term_range u r is) (values_of layout points r) (values r);
    means = λ r is pc. (
      (λ e. question_to r is pc (says_to s formed (term_reading u r) (term_range u r is) (values_of layout points r) (values r) e)),
      (λ t. says_from s formed (term_reading u r) (term_range u r is) (values_of layout points r) (values r) (question_from r is pc t)),
    );
  }
