-- The inputs of what is given at the points of contract steps, place by place.
use Rattle.std.proofs.Common.{◌≡◌, ◌⊎◌, inl, inr, refl, ap, sym, ◌∙◌, subst, arith, ℕ, zero, suc, ◌+◌, ◌*◌, ◌%◌, ◌^◌, ◌<◌, ◌≤◌, Bool, true, false, List, [], ◌∷◌, ◌++◌, Option, Some, None, length, map, replicate, get_or}
use Rattle.std.specs.Prelude.{◌==◌, ◌||◌, Contains, filter, nat_eq, slice_get, slice_index_or, if◌then◌else◌}
use Rattle.std.specs.List.{list_any}
use Rattle.std.specs.Global.{Vec}
use Rattle.std.proofs.lemmas.Bool.{cases_lt}
use Rattle.std.proofs.lemmas.Bool.Decides.{nat_tests}
use Rattle.std.proofs.lemmas.List.{length_push, map-append}
use Rattle.std.proofs.Math.Nat.{div-eq_of_lt, pow-le-pow_right}
use Rattle.word_spec.specs.RowFiles.{from_to}
use Rattle.frame_spec.specs.FrameWalk.{UnrolledProgram, no_point, point_at}
use Rattle.start_value.specs.declared.layout.Layout.{Layout}
use Rattle.start_value.specs.declared.layout.Layout.TheVariants.{Rv32, Arm}
use Rattle.start_value.specs.Starts.{layout_of}
use Rattle.bil_ast.specs.declared.statements.Stmt.{Stmt}
use Rattle.notes_value.specs.declared.notes.Contract.{Contract}
use Rattle.notes_value.specs.FrameViews.{contract_of, is_in}
use Rattle.question_form.specs.declared.unrolled.Deed.{Deed}
use Rattle.question_form.specs.declared.unrolled.Deed.TheVariants as deeds
use Rattle.question_form.specs.declared.unrolled.Point.{Point}
use Rattle.question_form.specs.declared.unrolled.Unrolled.{Unrolled}
use Rattle.program_points.specs.Tables.{stack_at}
use Rattle.question_form.specs.FrameViews.{action_of, frame_unrolled_of, no_contract, points_of, stepped_at}
use Rattle.question_form.specs.Views.{code_of}
use Rattle.bit_blast.specs.Places.{lists_of}
use Rattle.frame_terms.specs.FrameStarts.{gift_registers as given_registers}
use Rattle.bit_blast.specs.Laid.{AreAdded, AreGifts, AreNumbered, given_flags, given_sets, gift_first, sets_of}
use Rattle.bit_blast.proofs.Drawn.{few_flags, range_push}

-- ---- lists with one element more

at_left : (ps qs : List (Option ℕ)) (n k : ℕ) → slice_index_or ps n None ≡ Some k → slice_index_or (ps ++ qs) n None ≡ Some k
at_left [] qs n k e = absurd (cc)
at_left (p ∷ ps) qs zero k e = e
at_left (p ∷ ps) qs (suc n) k e = at_left ps qs n k e

at_last : (ps : List (Option ℕ)) (o : Option ℕ) → slice_index_or (ps ++ o ∷ []) (length ps) None ≡ o
at_last [] o = refl
at_last (p ∷ ps) o = at_last ps o

at_push : (ps : List (Option ℕ)) (o : Option ℕ) (n k : ℕ) → slice_index_or (ps ++ o ∷ []) n None ≡ Some k →
    (slice_index_or ps n None ≡ Some k) ⊎ ((n ≡ length ps) × (o ≡ Some k))
at_push [] o zero k e = inr (refl, e)
at_push [] o (suc n) k e = absurd (cc)
at_push (p ∷ ps) o zero k e = inl e
at_push (p ∷ ps) o (suc n) k e = elim (at_push ps o n k e) [ inl h ↦ inl h | inr h ↦ inr (ap suc h.0, h.1) ]

got_left : (xs ys : List ℕ) (q n : ℕ) → slice_get xs q ≡ Some n → slice_get (xs ++ ys) q ≡ Some n
got_left [] ys q n e = absurd (cc)
got_left (x ∷ xs) ys zero n e = e
got_left (x ∷ xs) ys (suc q) n e = got_left xs ys q n e

got_last : (xs : List ℕ) (m : ℕ) → slice_get (xs ++ m ∷ []) (length xs) ≡ Some m
got_last [] m = refl
got_last (x ∷ xs) m = got_last xs m

got_push : (xs : List ℕ) (m q n : ℕ) → slice_get (xs ++ m ∷ []) q ≡ Some n → (slice_get xs q ≡ Some n) ⊎ ((q ≡ length xs) × (m ≡ n))
got_push [] m zero n e = inr (refl, (cc))
got_push [] m (suc q) n e = absurd (cc)
got_push (x ∷ xs) m zero n e = inl e
got_push (x ∷ xs) m (suc q) n e = elim (got_push xs m q n e) [ inl h ↦ inl h | inr h ↦ inr (ap suc h.0, h.1) ]

-- the list of a place as it is read, and none behind the last
pub list_at : (lists : List (Vec (Option ℕ))) (i n : ℕ) (d : Vec (Option ℕ)) → i < length lists →
    slice_index_or (slice_index_or lists i d).items n None ≡ slice_index_or (slice_index_or (lists_of lists) i []) n None
list_at [] i n d l = absurd (omega arith)
list_at (x ∷ xs) zero n d l = refl
list_at (x ∷ xs) (suc i) n d l = list_at xs i n d (omega arith)

pub list_out : (lists : List (Vec (Option ℕ))) (i n : ℕ) → length lists ≤ i → None ≡ slice_index_or (slice_index_or (lists_of lists) i []) n None
list_out [] i n l = refl
list_out (x ∷ xs) zero n l = absurd (omega arith)
list_out (x ∷ xs) (suc i) n l = list_out xs i n (omega arith)

-- what is listed for a place is within
pub listed : (ls : List (List (Option ℕ))) (i n k : ℕ) → slice_index_or (slice_index_or ls i []) n None ≡ Some k → i < length ls
listed [] i n k e = absurd (cc)
listed (l ∷ ls) zero n k e = omega arith
listed (l ∷ ls) (suc i) n k e = let m = listed ls i n k e in omega arith

-- ---- numbers with their inputs

-- one number more, behind those that are listed
numbered_one : (xs : List ℕ) (first width : ℕ) (ps : List (Option ℕ)) → AreNumbered xs first width ps →
    AreNumbered (xs ++ length ps ∷ []) first width (ps ++ Some (first + width * length xs) ∷ [])
numbered_one xs first width ps h = record {
  right = λ n k e. elim (at_push ps (Some (first + width * length xs)) n k e) [
    | inl old ↦ (let r = h.right n k old in (r.0, got_left xs (length ps ∷ []) r.0 n r.1, r.2))
    | inr new ↦ (
      length xs,
      got_last xs (length ps) ∙ ap Some (sym new.0),
      (let s = new.1 in let same : first + width * length xs ≡ k = cc in sym same),
    )
  ];
  each = λ n q e. elim (got_push xs (length ps) q n e) [
    | inl old ↦ at_left ps (Some (first + width * length xs) ∷ []) n (first + width * q) (h.each n q old)
    | inr new ↦ ap (λ z. slice_index_or (ps ++ Some (first + width * length xs) ∷ []) z None) (sym new.1)
        ∙ at_last ps (Some (first + width * length xs)) ∙ ap (λ z. Some (first + width * z)) (sym new.0)
  ];
}

-- none more
numbered_none : (xs : List ℕ) (first width : ℕ) (ps : List (Option ℕ)) → AreNumbered xs first width ps → AreNumbered xs first width (ps ++ None ∷ [])
numbered_none xs first width ps h = record {
  right = λ n k e. elim (at_push ps None n k e) [ inl old ↦ h.right n k old | inr new ↦ absurd (let s = new.1 in cc) ];
  each = λ n q e. at_left ps (None ∷ []) n (first + width * q) (h.each n q e);
}

-- the first numbers of a range that are in a set have their inputs
pub record AreNumberedTo (set from i first width : ℕ) (ps : List (Option ℕ)) (behind : ℕ) : Type 0 where
  pub count : length ps ≡ from + i
  pub are : AreNumbered (filter (is_in set) (from_to from i)) first width ps
  pub behind_is : behind ≡ first + width * length (filter (is_in set) (from_to from i))
  pub few : behind ≤ first + 32 * i

abbrev nothing : Option ℕ
nothing = None

none_at : (n j k : ℕ) → slice_index_or (replicate n nothing) j None ≡ Some k → ⊥
none_at zero j k e = absurd (cc)
none_at (suc n) zero k e = absurd (cc)
none_at (suc n) (suc j) k e = none_at n j k e

none_long : (n : ℕ) → length (replicate n nothing) ≡ n
none_long zero = refl
none_long (suc n) = ap suc (none_long n)

pub numbered_start : (set from first width : ℕ) (ps : List (Option ℕ)) → ps ≡ replicate from nothing → AreNumberedTo set from 0 first width ps first
numbered_start set from first width ps e = record {
  count = ap length e ∙ none_long from ∙ (let z : from ≡ from + 0 = omega arith in z);
  are = record {
    right = λ n k g. absurd (none_at from n k (ap (λ l. slice_index_or l n None) (sym e) ∙ g));
    each = λ n q g. absurd (cc);
  };
  behind_is = (let z : first ≡ first + width * 0 = omega arith in z);
  few = omega arith;
}

-- the numbers of a range that are in a set, with one more
filter_push : (P : ℕ → Bool) (xs : List ℕ) (m : ℕ) (b : Bool) → P m ≡ b → filter P (xs ++ m ∷ []) ≡ filter P xs ++ (if b then m ∷ [] else [])
filter_push P [] m b e = ap (λ z. if z then m ∷ [] else []) e
filter_push P (x ∷ xs) m b e = by (P x) (filter_push P xs m b e)
  where
    by : (t : Bool) → filter P (xs ++ m ∷ []) ≡ filter P xs ++ (if b then m ∷ [] else []) → (if t then x ∷ filter P (xs ++ m ∷ []) else filter P (xs ++ m ∷ [])) ≡
        (if t then x ∷ filter P xs else filter P xs) ++ (if b then m ∷ [] else [])
    by true h = ap (λ l. x ∷ l) h
    by false h = h

range_filter : (P : ℕ → Bool) (from i : ℕ) (b : Bool) → P (from + i) ≡ b →
    filter P (from_to from (i + 1)) ≡ filter P (from_to from i) ++ (if b then (from + i) ∷ [] else [])
range_filter P from i b e =
    ap (λ z. filter P (from_to from z)) (let f : i + 1 ≡ suc i = omega arith in f) ∙ ap (filter P) (range_push from i)
    ∙ filter_push P (from_to from i) (from + i) b e

one_more : (f w n : ℕ) → f + w * n + w ≡ f + w * (n + 1)
one_more f w n = grind arith

pub numbered_in : (set from i first width : ℕ) (ps qs : List (Option ℕ)) (behind next : ℕ) → width ≤ 32 → AreNumberedTo set from i first width ps behind →
    is_in set (from + i) ≡ true → qs ≡ ps ++ Some behind ∷ [] → next ≡ behind + width → AreNumberedTo set from (i + 1) first width qs next
numbered_in set from i first width ps qs behind next l h t e f =
    let xs = filter (is_in set) (from_to from i) in
    let more : filter (is_in set) (from_to from (i + 1)) ≡ xs ++ (from + i) ∷ [] = range_filter (is_in set) from i true t in
    record {
      count = ap length e ∙ length_push ps (Some behind) ∙ (let c = h.count in let z : length ps + 1 ≡ from + (i + 1) = omega arith in z);
      are = subst (λ (z : List ℕ). AreNumbered z first width qs) (ap (λ z. xs ++ z ∷ []) h.count ∙ sym more)
          (subst (λ (z : List (Option ℕ)). AreNumbered (xs ++ length ps ∷ []) first width z) (ap (λ z. ps ++ Some z ∷ []) (sym h.behind_is) ∙ sym e)
          (numbered_one xs first width ps h.are));
      behind_is = f ∙ ap (λ z. z + width) h.behind_is ∙ one_more first width (length xs)
          ∙ ap (λ z. first + width * z) (sym (ap length more ∙ length_push xs (from + i)));
      few = (let a = h.few in omega arith);
    }

pub numbered_out : (set from i first width : ℕ) (ps qs : List (Option ℕ)) (behind next : ℕ) → AreNumberedTo set from i first width ps behind →
    is_in set (from + i) ≡ false → qs ≡ ps ++ None ∷ [] → next ≡ behind → AreNumberedTo set from (i + 1) first width qs next
numbered_out set from i first width ps qs behind next h t e f =
    let xs = filter (is_in set) (from_to from i) in
    let more : filter (is_in set) (from_to from (i + 1)) ≡ xs ++ [] = range_filter (is_in set) from i false t in
    let same : filter (is_in set) (from_to from (i + 1)) ≡ xs = more ∙ nothing_more xs in
    record {
      count = ap length e ∙ length_push ps None ∙ (let c = h.count in let z : length ps + 1 ≡ from + (i + 1) = omega arith in z);
      are = subst (λ (z : List ℕ). AreNumbered z first width qs) (sym same)
          (subst (λ (z : List (Option ℕ)). AreNumbered xs first width z) (sym e) (numbered_none xs first width ps h.are));
      behind_is = f ∙ h.behind_is ∙ ap (λ z. first + width * length z) (sym same);
      few = (let a = h.few in omega arith);
    }
  where
    nothing_more : (xs : List ℕ) → xs ++ [] ≡ xs
    nothing_more [] = refl
    nothing_more (x ∷ xs) = ap (λ l. x ∷ l) (nothing_more xs)

-- all have
pub numbered_all : (set from i count first width : ℕ) (ps : List (Option ℕ)) (behind : ℕ) → AreNumberedTo set from i first width ps behind → i ≡ count →
    AreNumberedTo set from count first width ps behind
numbered_all set from i count first width ps behind h e = subst (λ (z : ℕ). AreNumberedTo set from z first width ps behind) e h

-- ---- one place after another

list_left : (ls ms : List (List (Option ℕ))) (i : ℕ) → i < length ls → slice_index_or (ls ++ ms) i [] ≡ slice_index_or ls i []
list_left [] ms i l = absurd (omega arith)
list_left (x ∷ ls) ms zero l = refl
list_left (x ∷ ls) ms (suc i) l = list_left ls ms i (omega arith)

list_last : (ls : List (List (Option ℕ))) (x : List (Option ℕ)) (i : ℕ) → i ≡ length ls → slice_index_or (ls ++ x ∷ []) i [] ≡ x
list_last [] x zero e = refl
list_last [] x (suc i) e = absurd (omega arith)
list_last (y ∷ ls) x zero e = absurd (omega arith)
list_last (y ∷ ls) x (suc i) e = list_last ls x i (omega arith)

long_by_one : (ls : List (List (Option ℕ))) (x : List (Option ℕ)) → length (ls ++ x ∷ []) ≡ length ls + 1
long_by_one ls x = length_push ls x

pub no_gifts : (u : UnrolledProgram) (first : ℕ) (rs fs : List (Vec (Option ℕ))) → rs ≡ [] → fs ≡ [] → AreGifts u first 0 (lists_of rs) (lists_of fs) first
no_gifts u first rs fs e g = record {
  register_count = ap (λ z. length (lists_of z)) e;
  flag_count = ap (λ z. length (lists_of z)) g;
  registers = λ i l. absurd (omega arith);
  flags = λ i l. absurd (omega arith);
  behind = refl;
}

pub gifts_next : (u : UnrolledProgram) (first n : ℕ) (rs fs ss gs : List (List (Option ℕ))) (behind between next : ℕ) → AreGifts u first n rs fs behind →
    AreAdded (given_registers u (point_at u n).does) behind 32 rs ss between → AreAdded (given_flags u (point_at u n).does) between 1 fs gs next →
    AreGifts u first (n + 1) ss gs next
gifts_next u first n rs fs ss gs behind between next h r f =
    let at : between ≡ gift_first u first n + 32 * length (given_registers u (point_at u n).does) =
    r.behind ∙ ap (λ z. z + 32 * length (given_registers u (point_at u n).does)) h.behind in
    record {
      register_count = ap length r.more ∙ long_by_one rs r.places ∙ ap (λ z. z + 1) h.register_count;
      flag_count = ap length f.more ∙ long_by_one fs f.places ∙ ap (λ z. z + 1) h.flag_count;
      registers = λ i l. elim (cases_lt i n) [
        | inl less ↦ subst (AreNumbered (given_registers u (point_at u i).does) (gift_first u first i) 32)
            (sym (ap (λ z. slice_index_or z i []) r.more ∙ list_left rs (r.places ∷ []) i (omega (arith, h.register_count)))) (h.registers i less)
        | inr more ↦ (let e : n ≡ i = omega arith in
            subst (λ (j : ℕ). AreNumbered (given_registers u (point_at u j).does) (gift_first u first j) 32 (slice_index_or ss j [])) e
            (subst (AreNumbered (given_registers u (point_at u n).does) (gift_first u first n) 32)
            (sym (ap (λ z. slice_index_or z n []) r.more ∙ list_last rs r.places n (sym h.register_count)))
            (subst (λ (z : ℕ). AreNumbered (given_registers u (point_at u n).does) z 32 r.places) h.behind r.are)))
      ];
      flags = λ i l. elim (cases_lt i n) [
        | inl less ↦ subst (AreNumbered (given_flags u (point_at u i).does) (gift_first u first i + 32 * length (given_registers u (point_at u i).does)) 1)
            (sym (ap (λ z. slice_index_or z i []) f.more ∙ list_left fs (f.places ∷ []) i (omega (arith, h.flag_count)))) (h.flags i less)
        | inr more ↦ (let e : n ≡ i = omega arith in
            subst (λ (j : ℕ). AreNumbered (given_flags u (point_at u j).does)
            (gift_first u first j + 32 * length (given_registers u (point_at u j).does)) 1 (slice_index_or gs j [])) e
            (subst (AreNumbered (given_flags u (point_at u n).does) (gift_first u first n + 32 * length (given_registers u (point_at u n).does)) 1)
            (sym (ap (λ z. slice_index_or z n []) f.more ∙ list_last fs f.places n (sym h.flag_count)))
            (subst (λ (z : ℕ). AreNumbered (given_flags u (point_at u n).does) z 1 f.places) at f.are)))
      ];
      behind = sum next between (length (given_flags u (point_at u n).does)) (gift_first u first n)
          (32 * length (given_registers u (point_at u n).does)) f.behind at ∙ ap (gift_first u first) (let e : suc n ≡ n + 1 = omega arith in e);
    }
  where
    sum : (a b c d e : ℕ) → a ≡ b + 1 * c → b ≡ d + e → a ≡ d + (e + c)
    sum a b c d e p q = omega arith

pub first_least : (u : UnrolledProgram) (first n : ℕ) → first ≤ gift_first u first n
first_least u first zero = omega arith
first_least u first (suc n) = let l = first_least u first n in omega arith

pub gifts_behind : (u : UnrolledProgram) (first n : ℕ) (rs fs : List (List (Option ℕ))) (behind : ℕ) → AreGifts u first n rs fs behind → first ≤ behind
gifts_behind u first n rs fs behind h = let l = first_least u first n in let e = h.behind in omega arith

pub added_as : (xs ys : List ℕ) (first width : ℕ) (old new : List (List (Option ℕ))) (behind : ℕ) → xs ≡ ys → AreAdded xs first width old new behind →
    AreAdded ys first width old new behind
added_as xs ys first width old new behind e h = subst (λ (z : List ℕ). AreAdded z first width old new behind) e h

-- a list that is pushed
pub added_list : (xs : List ℕ) (first width : ℕ) (old new : List (Vec (Option ℕ))) (places : Vec (Option ℕ)) (behind : ℕ) →
    AreNumbered xs first width places.items → new ≡ old ++ places ∷ [] → behind ≡ first + width * length xs →
    AreAdded xs first width (lists_of old) (lists_of new) behind
added_list xs first width old new places behind h e f = record {
  places = places.items;
  are = h;
  more = ap lists_of e ∙ map-append (λ (v : Vec (Option ℕ)). v.items) old (places ∷ []);
  behind = f;
}

-- the points of the frame are those of the value
pub points_count : (v : Unrolled) (qs : List Point) → length (points_of v qs) ≡ length qs
points_count v [] = refl
points_count v (q ∷ qs) = ap suc (points_count v qs)

-- the registers of a form are named by numbers of 5 bits
pub few_numbers : (form : Layout) → (layout_of form).first + length (layout_of form).registers ≤ 32
few_numbers (Rv32 compressed) =
    let e : (layout_of (Rv32 compressed)).first + length (layout_of (Rv32 compressed)).registers ≡ 32 = refl in omega arith
few_numbers (Arm big profile) =
    let e : (layout_of (Arm big profile)).first + length (layout_of (Arm big profile)).registers ≡ 15 = refl in omega arith

-- ---- what a deed gives

-- nothing is in the set without bits
none_in : (xs : List ℕ) → [] ≡ filter (is_in 0) xs
none_in [] = refl
none_in (x ∷ xs) = none_in xs ∙ ap (λ b. if b then x ∷ filter (is_in 0) xs else filter (is_in 0) xs) (sym (out x))
  where
    out : (n : ℕ) → is_in 0 n ≡ false
    out n =
        let grows : 2 ^ 0 ≤ 2 ^ n = pow-le-pow_right {n = 2} (omega arith) {i = 0} {j = n} (omega arith) in
        let below : 0 < 2 ^ n = omega (arith, grows) in
        ap (λ k. k % 2 == 1) (div-eq_of_lt below)

-- so no number has inputs, and none is listed
empty_left : (set from count : ℕ) → set ≡ 0 → [] ≡ filter (is_in set) (from_to from count)
empty_left set from count e = none_in (from_to from count) ∙ ap (λ z. filter (is_in z) (from_to from count)) (sym e)

pub empty_numbered : (set from count first width : ℕ) (ps : List (Option ℕ)) → set ≡ 0 → ps ≡ [] →
    AreNumbered (filter (is_in set) (from_to from count)) first width ps
empty_numbered set from count first width ps e f =
    subst (λ (z : List ℕ). AreNumbered z first width ps) (empty_left set from count e) (record {
      right = λ n k g. absurd (none_at 0 n k (ap (λ (l : List (Option ℕ)). slice_index_or l n None) (sym f) ∙ g));
      each = λ n q g. absurd (cc);
    })

pub empty_behind : (set from count first width : ℕ) → set ≡ 0 → first ≡ first + width * length (filter (is_in set) (from_to from count))
empty_behind set from count first width e =
    (let z : first ≡ first + width * 0 = omega arith in z) ∙ ap (λ (l : List ℕ). first + width * length l) (empty_left set from count e)

-- members of a filtered range
any_outside : (P : ℕ → Bool) (f n r : ℕ) → r < f → list_any (nat_eq r) (filter P (from_to f n)) ≡ false
any_outside P f zero r l = refl
any_outside P f (suc n) r l = by (P f) (any_outside P (f + 1) n r (omega arith))
  where
    other : nat_eq r f ≡ false
    other = grind (arith, nat_tests)

    by : (b : Bool) → list_any (nat_eq r) (filter P (from_to (f + 1) n)) ≡ false →
        list_any (nat_eq r) (if b then f ∷ filter P (from_to (f + 1) n) else filter P (from_to (f + 1) n)) ≡ false
    by true h = ap (λ z. z || list_any (nat_eq r) (filter P (from_to (f + 1) n))) other ∙ h
    by false h = h

any_filter : (P : ℕ → Bool) (f n r : ℕ) → f ≤ r → r < f + n → list_any (nat_eq r) (filter P (from_to f n)) ≡ P r
any_filter P f zero r l m = absurd (omega arith)
any_filter P f (suc n) r l m = elim (cases_lt f r) [
  | inl less ↦ later less (P f) (any_filter P (f + 1) n r (omega arith) (omega arith))
  | inr more ↦ (let e : r ≡ f = omega arith in first e (P f) refl)
]
  where
    later : f < r → (b : Bool) → list_any (nat_eq r) (filter P (from_to (f + 1) n)) ≡ P r →
        list_any (nat_eq r) (if b then f ∷ filter P (from_to (f + 1) n) else filter P (from_to (f + 1) n)) ≡ P r
    later less true h =
        let other : nat_eq r f ≡ false = grind (arith, nat_tests) in
        ap (λ z. z || list_any (nat_eq r) (filter P (from_to (f + 1) n))) other ∙ h
    later less false h = h

    first : r ≡ f → (b : Bool) → P f ≡ b → list_any (nat_eq r) (if b then f ∷ filter P (from_to (f + 1) n) else filter P (from_to (f + 1) n)) ≡ P r
    first e true h =
        let same : nat_eq r f ≡ true = grind (arith, nat_tests) in
        ap (λ z. z || list_any (nat_eq r) (filter P (from_to (f + 1) n))) same ∙ sym h ∙ ap P (sym e)
    first e false h = any_outside P (f + 1) n r (omega arith) ∙ sym h ∙ ap P (sym e)

sets_same : (set most a n : ℕ) → a + n ≤ most →
    filter (λ r. list_any (nat_eq r) (filter (is_in set) (from_to 0 most))) (from_to a n) ≡ filter (is_in set) (from_to a n)
sets_same set most a zero l = refl
sets_same set most a (suc n) l =
    let P : ℕ → Bool = λ r. list_any (nat_eq r) (filter (is_in set) (from_to 0 most)) in
    ap (λ b. if b then a ∷ filter P (from_to (a + 1) n) else filter P (from_to (a + 1) n)) (any_filter (is_in set) 0 most a (omega arith) (omega arith))
    ∙ ap (λ z. if is_in set a then a ∷ z else z) (sets_same set most (a + 1) n (omega arith))

-- the sets of a contract that is there, and of none
pub sets_there : (xs : List Contract) (n : ℕ) (d : Contract) → n < length xs → ((get_or xs n d).registers, (get_or xs n d).flags) ≡ sets_of (slice_get xs n)
sets_there [] n d l = absurd (omega arith)
sets_there (x ∷ xs) zero d l = refl
sets_there (x ∷ xs) (suc n) d l = sets_there xs n d (omega arith)

pub sets_out : (xs : List Contract) (n : ℕ) → length xs ≤ n → (0, 0) ≡ sets_of (slice_get xs n)
sets_out [] n l = refl
sets_out (x ∷ xs) zero l = absurd (omega arith)
sets_out (x ∷ xs) (suc n) l = sets_out xs n (omega arith)

-- nothing else gives something
pub sets_other : (v : Unrolled) (deed : Deed) → ((n : ℕ) → deed ≡ deeds.Contract n → ⊥) → (0, 0) ≡ given_sets v deed
sets_other v deeds.Row h = refl
sets_other v deeds.Arrival h = refl
sets_other v (deeds.Contract n) h = absurd (h n refl)

-- what the contract of a number may change
stepped_registers : (xs : List Contract) (n : ℕ) →
    (slice_index_or (map contract_of xs) n no_contract).registers ≡ filter (is_in (sets_of (slice_get xs n)).0) (from_to 0 32)
stepped_registers [] n = none_in (from_to 0 32)
stepped_registers (x ∷ xs) zero = refl
stepped_registers (x ∷ xs) (suc n) = stepped_registers xs n

stepped_flags : (xs : List Contract) (n : ℕ) →
    (slice_index_or (map contract_of xs) n no_contract).flags ≡ filter (is_in (sets_of (slice_get xs n)).1) (from_to 0 4)
stepped_flags [] n = none_in (from_to 0 4)
stepped_flags (x ∷ xs) zero = refl
stepped_flags (x ∷ xs) (suc n) = stepped_flags xs n

module _ (v : Unrolled) where
  abbrev u : UnrolledProgram
  u = frame_unrolled_of v

  module _ (first count : ℕ) (registers : u.registers ≡ from_to first count) (few : first + count ≤ 32) where
    registers_by : (deed : Deed) (list : Option (Vec Stmt)) (stack : List ℕ) →
        filter (is_in (given_sets v deed).0) (from_to first count) ≡ given_registers u (action_of v deed list stack)
    registers_by deeds.Row None stack = sym (none_in (from_to first count))
    registers_by deeds.Row (Some list) stack = sym (none_in (from_to first count))
    registers_by deeds.Arrival list stack = sym (none_in (from_to first count))
    registers_by (deeds.Contract n) list stack =
        sym (ap (λ l. filter (λ r. list_any (nat_eq r) (stepped_at v n).registers) l) registers
        ∙ ap (λ l. filter (λ r. list_any (nat_eq r) l) (from_to first count)) (stepped_registers v.stepped.now n)
        ∙ sets_same (given_sets v (deeds.Contract n)).0 32 first count few)

  module _ (count : ℕ) (flags : u.flags ≡ count) (few : count ≤ 4) where
    flags_by : (deed : Deed) (list : Option (Vec Stmt)) (stack : List ℕ) →
        filter (is_in (given_sets v deed).1) (from_to 0 count) ≡ given_flags u (action_of v deed list stack)
    flags_by deeds.Row None stack = sym (none_in (from_to 0 count))
    flags_by deeds.Row (Some list) stack = sym (none_in (from_to 0 count))
    flags_by deeds.Arrival list stack = sym (none_in (from_to 0 count))
    flags_by (deeds.Contract n) list stack =
        sym (ap (λ z. filter (λ r. list_any (nat_eq r) (stepped_at v n).flags) (from_to 0 z)) flags
        ∙ ap (λ l. filter (λ r. list_any (nat_eq r) l) (from_to 0 count)) (stepped_flags v.stepped.now n)
        ∙ sets_same (given_sets v (deeds.Contract n)).1 4 0 count (omega arith))

  -- what is done at a place
  does_at : (qs : List Point) (i : ℕ) (d : Point) → i < length qs → d ≡ get_or qs i d →
      action_of v d.deed (code_of v d).list (stack_at v.frames.items d.stack) ≡ (slice_index_or (points_of v qs) i no_point).does
  does_at [] i d l e = absurd (omega arith)
  does_at (q ∷ qs) zero d l e = ap (λ (x : Point). action_of v x.deed (code_of v x).list (stack_at v.frames.items x.stack)) e
  does_at (q ∷ qs) (suc i) d l e = does_at qs i d (omega arith) e

  pub registers_here : (first count : ℕ) → u.registers ≡ from_to first count → first + count ≤ 32 → (i : ℕ) (d : Point) → i < length v.points.items →
      d ≡ get_or v.points.items i d → filter (is_in (given_sets v d.deed).0) (from_to first count) ≡ given_registers u (point_at u i).does
  registers_here first count e few i d l f =
      registers_by first count e few d.deed (code_of v d).list (stack_at v.frames.items d.stack) ∙ ap (given_registers u) (does_at v.points.items i d l f)

  pub flags_here : (count : ℕ) → u.flags ≡ count → count ≤ 4 → (i : ℕ) (d : Point) → i < length v.points.items → d ≡ get_or v.points.items i d →
      filter (is_in (given_sets v d.deed).1) (from_to 0 count) ≡ given_flags u (point_at u i).does
  flags_here count e few i d l f =
      flags_by count e few d.deed (code_of v d).list (stack_at v.frames.items d.stack) ∙ ap (given_flags u) (does_at v.points.items i d l f)

  -- one place more, as the sets of its deed give it: first its registers are added, and then its flags
  pub gifts_step : (first n from count flags : ℕ) (d : Point) (sets : ℕ × ℕ) (rs fs ms hs ss gs : Vec (Vec (Option ℕ))) (behind between next : ℕ) →
      from ≡ (layout_of v.form).first → count ≡ length (layout_of v.form).registers → flags ≡ length (layout_of v.form).flags →
      n < length v.points.items → d ≡ get_or v.points.items n d → sets ≡ given_sets v d.deed →
      AreGifts u first n (lists_of rs.items) (lists_of fs.items) behind →
      AreAdded (filter (is_in sets.0) (from_to from count)) behind 32 (lists_of rs.items) (lists_of ms.items) between → hs ≡ fs →
      AreAdded (filter (is_in sets.1) (from_to 0 flags)) between 1 (lists_of hs.items) (lists_of gs.items) next → ss ≡ ms →
      AreGifts u first (n + 1) (lists_of ss.items) (lists_of gs.items) next
  gifts_step first n from count flags d sets rs fs ms hs ss gs behind between next a b e l f s h r i g j =
      let numbers = few_numbers v.form in
      let few : from + count ≤ 32 = omega (arith, numbers, a, b) in
      let four : flags ≤ 4 = omega (arith, few_flags v.form, e) in
      let names : u.registers ≡ from_to from count = ap (λ z. from_to z (length (layout_of v.form).registers)) (sym a) ∙ ap (from_to from) (sym b) in
      let given : filter (is_in sets.0) (from_to from count) ≡ given_registers u (point_at u n).does =
      ap (λ (z : ℕ × ℕ). filter (is_in z.0) (from_to from count)) s ∙ registers_here from count names few n d l f in
      let changed : filter (is_in sets.1) (from_to 0 flags) ≡ given_flags u (point_at u n).does =
      ap (λ (z : ℕ × ℕ). filter (is_in z.1) (from_to 0 flags)) s ∙ flags_here flags (sym e) four n d l f in
      gifts_next u first n (lists_of rs.items) (lists_of fs.items) (lists_of ss.items) (lists_of gs.items) behind between next h
      (subst (λ (z : Vec (Vec (Option ℕ))). AreAdded (given_registers u (point_at u n).does) behind 32 (lists_of rs.items) (lists_of z.items) between) (sym j)
      (added_as _ _ behind 32 (lists_of rs.items) (lists_of ms.items) between given r))
      (subst (λ (z : Vec (Vec (Option ℕ))). AreAdded (given_flags u (point_at u n).does) between 1 (lists_of z.items) (lists_of gs.items) next) i
      (added_as _ _ between 1 (lists_of hs.items) (lists_of gs.items) next changed g))

  -- where no contract is stepped over nothing is given
  nothing_by : (deed : Deed) (list : Option (Vec Stmt)) (stack : List ℕ) → deed ≡ deeds.Row →
      (given_registers u (action_of v deed list stack) ≡ []) × (given_flags u (action_of v deed list stack) ≡ [])
  nothing_by deeds.Row None stack e = (refl, refl)
  nothing_by deeds.Row (Some list) stack e = (refl, refl)
  nothing_by deeds.Arrival list stack e = (refl, refl)
  nothing_by (deeds.Contract n) list stack e = absurd (cc)

  nothing_at : (qs : List Point) → ((q : Point) → Contains qs q → q.deed ≡ deeds.Row) → (i : ℕ) →
      (given_registers u (slice_index_or (points_of v qs) i no_point).does ≡ []) × (given_flags u (slice_index_or (points_of v qs) i no_point).does ≡ [])
  nothing_at [] h i = (refl, refl)
  nothing_at (q ∷ qs) h zero = nothing_by q.deed (code_of v q).list (stack_at v.frames.items q.stack) (h q (0, omega arith, refl))
  nothing_at (q ∷ qs) h (suc i) =
      nothing_at qs (λ x k. h x (suc k.0, (let l = k.1 in omega arith), k.2)) i

  module _ (rows : (q : Point) → Contains v.points.items q → q.deed ≡ deeds.Row) where
    first_kept : (first n : ℕ) → gift_first u first n ≡ first
    first_kept first zero = refl
    first_kept first (suc n) =
        let g = nothing_at v.points.items rows n in
        ap (λ z. gift_first u first n + (32 * length z + length (given_flags u (point_at u n).does))) g.0
        ∙ ap (λ z. gift_first u first n + (0 + length z)) g.1 ∙ (let e : gift_first u first n + (0 + 0) ≡ gift_first u first n = omega arith in e)
        ∙ first_kept first n

    none_numbered : (xs : List ℕ) (first width : ℕ) (ps : List (Option ℕ)) (n k : ℕ) → xs ≡ [] → AreNumbered xs first width ps →
        slice_index_or ps n None ≡ Some k → ⊥
    none_numbered xs first width ps n k e h f =
        let r = h.right n k f in let g = ap (λ z. slice_get z r.0) (sym e) ∙ r.1 in absurd (cc)

    module _ (first count : ℕ) (rs fs : List (List (Option ℕ))) (behind : ℕ) (h : AreGifts u first count rs fs behind) where
      pub nothing_behind : behind ≡ first
      nothing_behind = h.behind ∙ first_kept first count

      pub no_register : (i n k : ℕ) → slice_index_or (slice_index_or rs i []) n None ≡ Some k → ⊥
      no_register i n k e =
          none_numbered (given_registers u (point_at u i).does) (gift_first u first i) 32 (slice_index_or rs i []) n k
          (nothing_at v.points.items rows i).0 (h.registers i (omega (arith, h.register_count, listed rs i n k e))) e

      pub no_flag : (i n k : ℕ) → slice_index_or (slice_index_or fs i []) n None ≡ Some k → ⊥
      no_flag i n k e =
          none_numbered (given_flags u (point_at u i).does) (gift_first u first i + 32 * length (given_registers u (point_at u i).does)) 1
          (slice_index_or fs i []) n k
          (nothing_at v.points.items rows i).1 (h.flags i (omega (arith, h.flag_count, listed fs i n k e))) e
