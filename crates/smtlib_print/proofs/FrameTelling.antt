-- The text of a script says the question of its frame.
use Rattle.std.proofs.Common.{◌≡◌, ℕ, zero, suc, ◌+◌, ◌-◌, ◌^◌, ◌<◌, refl, ap, sym, ◌∙◌, arith, true, Bool, List, Some, subst, length, map, Contains, inl, inr}
use Rattle.std.specs.Prelude.{◌&&◌, slice_get, slice_index}
use Rattle.std.specs.Str.{bytes_eq}
use Rattle.std.proofs.lemmas.List.{get_or-map, length-map}
use Rattle.std.proofs.lemmas.Map.Views.{Contains-from_any}
use Rattle.std.proofs.lemmas.Option.{slice_get-get_or}
use Rattle.bilv_spec.specs.Scripts.{choice_name}
use Rattle.bilv_spec.specs.SmtLib.{WordValue, ArrayValue}
use Rattle.frame_laws.specs.RunOfFrame.{IsTrueOfSweepOver}
use Rattle.frame_spec.specs.FramePoints.{Point}
use Rattle.frame_spec.specs.FrameQuestions.{Question, Reading, IsReading, asks_head}
use Rattle.frame_spec.specs.FrameScripts.{frame_values_of, of_given}
use Rattle.frame_spec.specs.FrameWalk.{Action, Executes, Arrives, StepsOver, UnrolledPoint, UnrolledProgram, no_point, point_at}
use Rattle.frame_terms.specs.PassiveFrames.{TellsQuestion, inputs_of, part_content, part_reading}
use Rattle.machine_spec.specs.StateText.{Layout}
use Rattle.term_spec.specs.Terms.{InRange, TermNode}
use Rattle.walk_spec.specs.Unrolling.{IsLaidOut}
use Rattle.smtlib_print.specs.Commands.{Given, Source, choices_of, memory_in, middle_commands, name_in}
use Rattle.smtlib_print.specs.Written.{commands_text}
use Rattle.smtlib_print.specs.FrameTold.{IsFrameDrawn, IsFrameGiven, IsFrameSymbolOf, TellsFrameScript}
use Rattle.smtlib_print.specs.Numbered.{AreRanked}
use Rattle.smtlib_print.specs.Scripted.{AreBehind, FitMemory, source_text}
use Rattle.smtlib_print.proofs.Declared.{both_true}
use Rattle.smtlib_print.proofs.Defined.{among}
use Rattle.smtlib_print.proofs.Drawn.{drawn_among}
use Rattle.smtlib_print.proofs.FrameValued.{entry_flag, entry_memory, entry_register, frame_choice, given_flag, given_memory, given_register, head_flag, head_memory, head_register}
use Rattle.smtlib_print.proofs.GivenSymbols.{given_at, names_of, symbols_are}
use Rattle.smtlib_print.proofs.GiftPlaces.{given_place, nothing_given, place_given}
use Rattle.smtlib_print.proofs.Layouts.{IsUsable, name_at}
use Rattle.smtlib_print.proofs.Named.{frame_draws_at, frame_draws_length, frame_named, given_in, given_is, givens, givens_length}
use Rattle.smtlib_print.proofs.Names.{text_of}
use Rattle.smtlib_print.proofs.Sources.{HasValues, IsFormed, IsOfPart, given_of, gives_flag, gives_memory, gives_register}
use Rattle.smtlib_print.proofs.Spoken.{IsDeclared, Says, commands, commands_are, defines, drawn_is, plain, says_from, says_to, symbol_from, symbol_to, text_is, well_formed, whole_lines}

-- what the script of a term over an unrolled frame is made of
abbrev pub frame_source : Layout → UnrolledProgram → (heads : Bool) → Question → (numbers : List ℕ) → (nodes : List TermNode) → (root : ℕ) → Source
frame_source layout u heads question numbers nodes root = record {
  layout = layout;
  heads = heads;
  numbers = numbers;
  draws = map (λ q. q.draws) u.points;
  given = givens u;
  known = u.known;
  kept = u.kept;
  asks_head = heads && asks_head question;
  nodes = nodes;
  root = root;
}

first_true : (a b : Bool) → (a && b) ≡ true → a ≡ true
first_true a b h = (both_true a b h).0

both_are : (a b : Bool) → a ≡ true → b ≡ true → (a && b) ≡ true
both_are a b h k = rw h k

-- the values of a reading's parts are in range
module _ (u : UnrolledProgram) (r : Reading) (is : IsReading r) where
  regs_small : (p n : ℕ) → (part_content u r p).regs n < 2 ^ 32
  regs_small zero n = is.state.regs n
  regs_small (suc zero) n = is.head.regs n
  regs_small (suc (suc i)) n = (is.given (point_at u i).point).regs n

  flags_small : (p f : ℕ) → (part_content u r p).flags f < 2
  flags_small zero f = is.state.flags f
  flags_small (suc zero) f = is.head.flags f
  flags_small (suc (suc i)) f = (is.given (point_at u i).point).flags f

  bytes_small : (p a : ℕ) → (part_content u r p).mem a < 256
  bytes_small zero a = is.state.mem a
  bytes_small (suc zero) a = is.head.mem a
  bytes_small (suc (suc i)) a = (is.given (point_at u i).point).mem a

  part_range : InRange (part_reading u r)
  part_range = record {
    regs = regs_small;
    flags = flags_small;
    mem = bytes_small;
    choice = λ i. is.choice (point_at u i).point;
    base = λ p j. omega arith;
  }

module _ (u : UnrolledProgram) (heads : Bool) (layout : Layout) (usable : IsUsable layout) (laid : IsLaidOut layout (inputs_of u))
    (points : List Point) (numbers : List ℕ) (are : AreRanked (map (λ q. q.point) u.points) points numbers)
    (nodes : List TermNode) (root : ℕ) (question : Question) (tells : TellsQuestion u heads question (record { nodes = nodes; root = root }))
    (few : length nodes < 2 ^ 32)
    (fit : FitMemory u.known) (behind : AreBehind 0 u.known) where
  abbrev s : Source
  s = frame_source layout u heads question numbers nodes root

  points_long : length numbers ≡ length u.points
  points_long = are.count ∙ length-map u.points (λ (q : UnrolledPoint). q.point)

  -- the point of a number
  point_is : (i : ℕ) → i < length u.points → slice_get (map (λ (q : UnrolledPoint). q.point) u.points) i ≡ Some (point_at u i).point
  point_is i l =
      let n = length-map u.points (λ (q : UnrolledPoint). q.point) in
      slice_get-get_or (map (λ (q : UnrolledPoint). q.point) u.points) i no_point.point (omega (arith, l, n))
      ∙ ap Some (get_or-map (λ (q : UnrolledPoint). q.point) u.points i no_point no_point.point l)

  number_at : (i : ℕ) → i < length numbers → slice_get points (slice_index numbers i) ≡ Some (point_at u i).point
  number_at i l = are.at i l ∙ point_is i (omega (arith, l, points_long))

  formed : IsFormed s
  formed = record {
    usable = usable;
    count = points_long ∙ sym (frame_draws_length u.points);
    few = λ i l. omega (arith, are.within i l, are.few);
    distinct = are.distinct;
    typed = tells.terms.typed;
    small = few;
    root = tells.root;
    named = λ n c. frame_named u heads layout laid n (tells.terms.named n c);
    fit = fit;
    behind = behind;
    asks = first_true heads (asks_head question);
    numbered = omega (arith, points_long, givens_length u.points);
  }

  -- the point of a place with a gift
  given_number : (j : ℕ) → j < length (givens u) → slice_get points (slice_index numbers j) ≡ Some (point_at u j).point
  given_number j l = number_at j (omega (arith, l, points_long, givens_length u.points))

  register_value : (r : Reading) (p i : ℕ) → IsOfPart heads (givens u) (gives_register (layout.first + i)) p → i < length layout.registers →
      frame_values_of layout points r (name_in numbers p (name_at layout.registers i)) ≡ Some (WordValue 32 ((part_content u r p).regs (layout.first + i)))
  register_value r zero i of l = entry_register layout usable points are.few r i l
  register_value r (suc zero) i of l = head_register layout usable points are.few r i l
  register_value r (suc (suc j)) i of l =
      given_register layout usable points are.few r (slice_index numbers j) i (point_at u j).point (given_number j of.0) l

  flag_value : (r : Reading) (p f : ℕ) → IsOfPart heads (givens u) (gives_flag f) p → f < length layout.flags →
      frame_values_of layout points r (name_in numbers p (name_at layout.flags (length layout.flags - 1 - f)))
      ≡ Some (WordValue 1 ((part_content u r p).flags f))
  flag_value r zero f of l = entry_flag layout usable points are.few r f l
  flag_value r (suc zero) f of l = head_flag layout usable points are.few r f l
  flag_value r (suc (suc j)) f of l =
      given_flag layout usable points are.few r (slice_index numbers j) f (point_at u j).point (given_number j of.0) l

  memory_value : (r : Reading) (p : ℕ) → IsOfPart heads (givens u) gives_memory p →
      frame_values_of layout points r (memory_in numbers p) ≡ Some (ArrayValue (part_content u r p).mem)
  memory_value r zero of = entry_memory layout usable points are.few r
  memory_value r (suc zero) of = head_memory layout usable points are.few r
  memory_value r (suc (suc j)) of = given_memory layout usable points are.few r (slice_index numbers j) (point_at u j).point (given_number j of.0)

  values : (r : Reading) → HasValues s (part_reading u r) (frame_values_of layout points r)
  values r = record {
    registers = register_value r;
    flags = flag_value r;
    memory = memory_value r;
    choices = λ i l. frame_choice layout usable points are.few r (slice_index numbers i) (point_at u i).point (are.within i l) (number_at i l);
  }

  -- the choices that are declared are those of the places that draw
  choice_drawn : (w : List ℕ) → Contains (choices_of s) w → IsFrameDrawn u points w
  choice_drawn w c =
      let f = drawn_is numbers (map (λ q. q.draws) u.points) w c in
      let l : f.0 < length u.points = omega (arith, f.1, points_long) in
      (f.0, slice_index numbers f.0, (l, sym (frame_draws_at u.points f.0 l) ∙ f.3), number_at f.0 f.1, f.4)

  drawn_choice : (w : List ℕ) → IsFrameDrawn u points w → Contains (choices_of s) w
  drawn_choice w d =
      let l : d.0 < length numbers = omega (arith, d.2.0, points_long) in
      let n = are.once d.0 d.1 l (d.3 ∙ sym (point_is d.0 d.2.0)) in
      let a = drawn_among numbers (map (λ q. q.draws) u.points) d.0 l (omega (arith, d.2.0, frame_draws_length u.points))
      (frame_draws_at u.points d.0 d.2.0 ∙ d.2.1) in
      let e : w ≡ choice_name (slice_index numbers d.0) = d.4 ∙ ap choice_name n in
      Contains-from_any {eq = bytes_eq} text_of w (choices_of s) (ap (among (choices_of s)) e ∙ a)

  -- what is declared of contract steps is what they are given
  by_action : (j : ℕ) (w : List ℕ) (does : Action) → j < length u.points → (point_at u j).does ≡ does →
      Contains (map (of_given (slice_index numbers j)) (names_of layout (given_in does))) w → IsFrameGiven u layout points w
  by_action j w (Executes list) l e c = absurd (nothing_given layout (slice_index numbers j) w c)
  by_action j w Arrives l e c = absurd (nothing_given layout (slice_index numbers j) w c)
  by_action j w (StepsOver x) l e c =
      (j, slice_index numbers j, x, record { place = l; does = e }, number_at j (omega (arith, l, points_long)), c)

  given_declared : (w : List ℕ) → Contains (given_of s) w → IsFrameGiven u layout points w
  given_declared w c =
      let q = given_place layout numbers (givens u) w c in
      let l : q.0 < length u.points = omega (arith, q.2, givens_length u.points) in
      by_action q.0 w (point_at u q.0).does l refl
      (subst (λ (g : Given). Contains (map (of_given (slice_index numbers q.0)) (names_of layout g)) w) (given_is u.points q.0 l)
      (subst (λ (ws : List (List ℕ)). Contains ws w) (symbols_are layout (slice_index numbers q.0) (given_at (givens u) q.0)) q.3))

  declared_given : (w : List ℕ) → IsFrameGiven u layout points w → Contains (given_of s) w
  declared_given w (i, n, x, gift, is, c) =
      let l : i < length numbers = omega (arith, gift.place, points_long) in
      let m = are.once i n l (is ∙ sym (point_is i gift.place)) in
      let g : given_at (givens u) i ≡ given_in (StepsOver x) = given_is u.points i gift.place ∙ ap given_in gift.does in
      place_given layout numbers (givens u) i w l (omega (arith, gift.place, givens_length u.points))
      (subst (λ (ws : List (List ℕ)). Contains ws w) (sym (symbols_are layout (slice_index numbers i) (given_at (givens u) i)))
      (subst (λ (h : Given). Contains (map (of_given (slice_index numbers i)) (names_of layout h)) w) (sym g)
      (subst (λ (k : ℕ). Contains (map (of_given k) (names_of layout (given_in (StepsOver x)))) w) m c)))

  symbol_of : (w : List ℕ) → IsDeclared s w → IsFrameSymbolOf u heads layout points w
  symbol_of w (inl v) = inl v
  symbol_of w (inr (inl e)) = inr (inl e)
  symbol_of w (inr (inr (inl h))) = inr (inr (inl h))
  symbol_of w (inr (inr (inr (inl c)))) = inr (inr (inr (inl (choice_drawn w c))))
  symbol_of w (inr (inr (inr (inr g)))) = inr (inr (inr (inr (given_declared w g))))

  of_symbol : (w : List ℕ) → IsFrameSymbolOf u heads layout points w → IsDeclared s w
  of_symbol w (inl v) = inl v
  of_symbol w (inr (inl e)) = inr (inl e)
  of_symbol w (inr (inr (inl h))) = inr (inr (inl h))
  of_symbol w (inr (inr (inr (inl d)))) = inr (inr (inr (inl (drawn_choice w d))))
  of_symbol w (inr (inr (inr (inr g)))) = inr (inr (inr (inr (declared_given w g))))

  -- what it says is the question
  question_to : (r : Reading) → IsReading r → r.state.pc ≡ u.entry → Says s (part_reading u r) → IsTrueOfSweepOver u heads (λ a. true) r question
  question_to r is pc t =
      let q = (tells.means r is pc).0 t.root in
      record {
        reading = is;
        entry = record {
          state = is.state;
          pc = pc;
          link = q.lines.link;
          requires = q.lines.requires;
          bytes = λ a b l k asked. t.entry a b l k refl;
        };
        head = λ has asks a b l k kept asked. t.head (both_are heads (asks_head question) has asks) a b l k kept;
        ends = q.ends;
      }

  question_from : (r : Reading) → IsReading r → r.state.pc ≡ u.entry → IsTrueOfSweepOver u heads (λ a. true) r question → Says s (part_reading u r)
  question_from r is pc t = record {
    root = (tells.means r is pc).1 (record { lines = record { link = t.entry.link; requires = t.entry.requires }; ends = t.ends });
    entry = λ a b l k asked. t.entry.bytes a b l k refl;
    head = λ e a b l k kept. (let h = both_true heads (asks_head question) e in t.head h.0 h.1 a b l k kept refl);
  }

  pub frame_script_tells : TellsFrameScript u heads layout question (source_text s)
  frame_script_tells = record {
    points = points;
    are_in_order = are.in_order;
    middle = commands_text (middle_commands s);
    text_is = text_is s formed;
    whole_lines = whole_lines (middle_commands s);
    plain = plain s formed;
    commands = commands s formed;
    commands_are = commands_are s formed;
    declares = λ w. ((λ c. symbol_of w (symbol_to s w c)), (λ d. symbol_from s w (of_symbol w d)));
    defines = defines s formed;
    well_formed = λ r is. well_formed s formed (part_reading u r) (part_range u r is) (frame_values_of layout points r) (values r);
    means = λ r is pc. (
      (λ e. question_to r is pc (says_to s formed (part_reading u r) (part_range u r is) (frame_values_of layout points r) (values r) e)),
      (λ t. says_from s formed (part_reading u r) (part_range u r is) (frame_values_of layout points r) (values r) (question_from r is pc t)),
    );
  }
