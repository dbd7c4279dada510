-- A step that was made over the documents that it looks at does the same over all of them, or is refused there.
use Rattle.std.specs.Prelude.{filter, map, sum_by, is_some, is_none, not, ◌&&◌, ◌||◌, nat_lt, Option, Some, None, Ok, Err, if◌then◌else◌}
use Rattle.std.proofs.Common.{◌≡◌, ℕ, ◌+◌, ◌≤◌, Bool, true, false, true≢false, cond, List, [], ◌∷◌, ◌++◌, length, refl, sym, ap, ap₂, ◌∙◌, subst, arith}
use Rattle.std.proofs.lemmas.Bool.{ltb-false, le-ltb, or_parts}
use Rattle.std.proofs.lemmas.List.Sums.{sum_by-cons}
use Rattle.map_model.specs.Maps.{at, IsSorted}
use Rattle.map_model.specs.MapLaws.{sorted-filter}
use Rattle.map_model.specs.Changes.{Fit}
use Rattle.value_model.specs.Val.{Val, Entries}
use Rattle.value_model.specs.Size.{is_name, size}
use Rattle.value_model.specs.Depth.{depth}
use Rattle.ejson_value.specs.declared.key.Key.{Key}
use Rattle.ejson_value.specs.declared.change.Change.{Change}
use Rattle.ejson_value.specs.declared.fault.Fault.{Fault}
use Rattle.ejson_value.specs.Key.{key_cmp, key_order, key_of}
use Rattle.ejson_value.specs.Rows.{Rows, rows_of}
use Rattle.ejson_value.specs.Changes.{changes_of}
use Rattle.ejson_value.specs.ChangeLaws.{Fit-from_all}
use Rattle.ejson_value.specs.Results.{made, and_then}
use Rattle.selector_match.specs.Query.{Query}
use Rattle.selector_match.specs.Holds.{holds}
use Rattle.modifier_apply.specs.Change.{Modification}
use Rattle.collection_store.specs.declared.fault.OpFault.TheVariants as fault
use Rattle.collection_store.specs.declared.operation.Op.TheVariants as operation
use Rattle.collection_store.specs.Outcome.{Outcome}
use Rattle.collection_store.specs.Limits.{document, bytes_of, size_if, old_bytes, new_bytes, max_documents, max_bytes, max_document_size, max_document_depth, is_too_large, is_full}
use Rattle.collection_store.specs.Applied.{Row, Plan, Applied, is_listed, after, done, matching, chosen, insertion, all_updated, update_plan, plan_for, remove_plan, applied}
use Rattle.collection_store.specs.Answered.{AreFor}
use Rattle.collection_store.proofs.Sums.{one_if, changed_sum, length-sum, bytes-after, not_full}
use Rattle.stub_simulation.proofs.Stepping.{append-nil}
use Rattle.collection_store.proofs.Picked.{Picked, AreFor-from_picked, AreFor-insertion, of_chosen_matching, picked_updates, length-updates}
use Rattle.program_steps.specs.declared.step.ProgramStep.{ProgramStep}
use Rattle.program_steps.specs.declared.step.ProgramStep.TheVariants as step
use Rattle.program_steps.specs.declared.rules.Action.{Action}
use Rattle.program_steps.specs.Runs.{done as run_done}
use Rattle.program_model.specs.Faults.{bad_parameters, not_allowed, fault_of}
use Rattle.program_model.specs.Guarded.{judged_document, no_rules, id_of, on_document}
use Rattle.program_model.specs.Run.{Run, New, gone_on, if_over, ended, inserted, new_in, selector_in, modifier_in, filled_in}
use Rattle.program_model.specs.Steps.{Stepped, Writing, unchanged, refused, by_answer, if_made, if_found, by_verdict, writing_in, by_rules, done_step, client_setting, stub_room}
use Rattle.stub_simulation.specs.Drafts.{IsFoundBy, IsWindow, old_count, new_count, is_past, is_new, is_taken, new_ids}

-- ---- what becomes of the step

-- over all rows it does what it did over those that it looks at
pub record Alike (rows : Rows) (win real : Stepped) : Type 0 where
  pub left : real.rows ≡ after rows win.changes
  pub changes : real.changes ≡ win.changes
  pub touched : real.touched ≡ win.touched
  pub run : real.run ≡ win.run

-- the stub is over there
pub record Refused (rows : Rows) (real : Stepped) : Type 0 where
  pub left : real.rows ≡ rows
  pub changes : real.changes ≡ []
  pub touched : real.touched ≡ []
  pub over : real.run.left ≡ []

abbrev pub Becomes : Bool → Rows → Stepped → Stepped → Type 0
Becomes true rows win real = Alike rows win real
Becomes false rows win real = Refused rows real

either_way : (b : Bool) (rows : Rows) (win real : Stepped) → Alike rows win real → Refused rows real → Becomes b rows win real
either_way true rows win real alike over = alike
either_way false rows win real alike over = over

refused_same : (rows W : Rows) (run : Run) (why : Fault) → Alike rows (refused W run why) (refused rows run why)
refused_same rows W run why = record { left = refl; changes = refl; touched = refl; run = refl }

refused_over : (rows : Rows) (run : Run) (why : Fault) → Refused rows (refused rows run why)
refused_over rows run why = record { left = refl; changes = refl; touched = refl; over = refl }

refused_becomes : (b : Bool) (rows W : Rows) (run : Run) (why : Fault) → Becomes b rows (refused W run why) (refused rows run why)
refused_becomes b rows W run why = either_way b rows (refused W run why) (refused rows run why) (refused_same rows W run why) (refused_over rows run why)

-- ---- fewer documents than all

sum_some : {A : Type 0} (test : A → Bool) (f : A → ℕ) (xs : List A) → sum_by f (filter test xs) ≤ sum_by f xs
sum_some test f [] = omega arith
sum_some test f (x ∷ xs) =
    let rest = sum_some test f xs in
    elim (test x) as (λ b. sum_by f (cond b (x ∷ filter test xs) (filter test xs)) ≤ sum_by f (x ∷ xs)) [
      | true ↦ omega (arith, rest, sum_by-cons f x (filter test xs), sum_by-cons f x xs)
      | false ↦ omega (arith, rest, sum_by-cons f x xs)
    ]

length_some : {A : Type 0} (test : A → Bool) (xs : List A) → length (filter test xs) ≤ length xs
length_some test [] = omega arith
length_some test (x ∷ xs) =
    let rest = length_some test xs in
    elim (test x) as (λ b. length (cond b (x ∷ filter test xs) (filter test xs)) ≤ length (x ∷ xs)) [ true ↦ omega (arith, rest) | false ↦ omega (arith, rest) ]

module _ (collection : List ℕ) (selector : Query) (rows : Rows) where
  abbrev in_collection : Row → Bool
  in_collection row = is_name row.0.collection collection

  abbrev is_held : Row → Bool
  is_held row = holds selector row.0.id row.1

  fewer_bytes : bytes_of (matching collection selector rows) ≤ bytes_of rows
  fewer_bytes =
      let f = λ (row : Row). size (document row.1) in
      omega (arith, sum_some is_held f (rows_of collection rows), sum_some in_collection f rows)

  fewer : length (matching collection selector rows) ≤ length rows
  fewer = omega (arith, length_some is_held (rows_of collection rows), length_some in_collection rows)

filter_again : {A : Type 0} (p q : A → Bool) (xs : List A) → filter q (filter p (filter q (filter p xs))) ≡ filter q (filter p xs)
filter_again p q [] = refl
filter_again p q (x ∷ xs) =
    let rest = filter_again p q xs in
    elim (p x) as (λ b. p x ≡ b → filter q (filter p (filter q (cond b (x ∷ filter p xs) (filter p xs)))) ≡ filter q (cond b (x ∷ filter p xs) (filter p xs))) [
      | false ↦ λ e. rest
      | true ↦ λ e.
          elim (q x) as (λ b. q x ≡ b → filter q (filter p (cond b (x ∷ filter q (filter p xs)) (filter q (filter p xs)))) ≡ cond b (x ∷ filter q (filter p xs)) (filter q (filter p xs))) [
            | false ↦ λ f. rest
            | true ↦ λ f. ap (λ b. filter q (cond b (x ∷ filter p (filter q (filter p xs))) (filter p (filter q (filter p xs))))) e ∙ ap (λ b. cond b (x ∷ filter q (filter p (filter q (filter p xs)))) (filter q (filter p (filter q (filter p xs))))) f ∙ ap (λ ys. x ∷ ys) rest
          ] refl
    ] refl

-- the selector holds of the same documents among those that it holds of
same_found : (collection : List ℕ) (selector : Query) (rows W : Rows) → W ≡ matching collection selector rows → matching collection selector W ≡ matching collection selector rows
same_found collection selector rows W is = ap (matching collection selector) is ∙ filter_again (λ (row : Row). is_name row.0.collection collection) (λ (row : Row). holds selector row.0.id row.1) rows

sorted_matching : (collection : List ℕ) (selector : Query) (rows : Rows) → IsSorted key_cmp rows → IsSorted key_cmp (matching collection selector rows)
sorted_matching collection selector rows s =
    sorted-filter key_order (λ (row : Row). holds selector row.0.id row.1) (rows_of collection rows) (sorted-filter key_order (λ (row : Row). is_name row.0.collection collection) rows s)

-- ---- counts

counted : (f : Change → Option Entries) (cs : List Change) → length (filter (λ (c : Change). is_some (f c)) cs) ≡ sum_by (λ (c : Change). one_if (f c)) cs
counted f [] = refl
counted f (c ∷ cs) =
    let rest = counted f cs in
    elim (f c) as (λ o. f c ≡ o → length (cond (is_some o) (c ∷ filter (λ (c : Change). is_some (f c)) cs) (filter (λ (c : Change). is_some (f c)) cs)) ≡ sum_by (λ (c : Change). one_if (f c)) (c ∷ cs)) [
      | None ↦ λ e. omega (arith, rest, sum_by-cons (λ (c : Change). one_if (f c)) c cs, ap one_if e)
      | Some d ↦ λ e. omega (arith, rest, sum_by-cons (λ (c : Change). one_if (f c)) c cs, ap one_if e)
    ] refl

-- there is this much once changes that fit are made
pub record Totalled (rows : Rows) (cs : List Change) (documents bytes : ℕ) : Type 0 where
  pub many : documents ≡ length (after rows cs)
  pub large : bytes ≡ bytes_of (after rows cs)

pub totalled : (rows : Rows) (cs : List Change) (documents bytes : ℕ) → IsSorted key_cmp rows → Fit key_cmp rows (changes_of cs)
    → documents + old_count cs ≡ length rows + new_count cs → bytes + old_bytes cs ≡ bytes_of rows + new_bytes cs → Totalled rows cs documents bytes
totalled rows cs documents bytes s fit d b = record {
  many = omega (arith, d, counted (λ (c : Change). c.before) cs, counted (λ (c : Change). c.after) cs, length-sum rows, length-sum (after rows cs), changed_sum one_if refl rows cs s fit);
  large = omega (arith, b, changed_sum size_if refl rows cs s fit);
}

-- ---- an operation whose new documents need room

-- a plan is carried out over both, or over neither, or the rows alone have no room
by_room : (rows W : Rows) (run next : Run) (plan : Plan) (full_w full taken : Bool) → (full_w ≡ true → full ≡ true) → (full_w ≡ false → taken ≡ not full)
    → Becomes taken rows (by_answer W run (if full_w then Err fault.Full else Ok (done W plan)) (λ a. next)) (by_answer rows run (if full then Err fault.Full else Ok (done rows plan)) (λ a. next))
by_room rows W run next plan true true taken more is = refused_becomes taken rows W run (fault_of fault.Full)
by_room rows W run next plan true false taken more is = absurd (true≢false (sym (more refl)))
by_room rows W run next plan false true taken more is =
    subst (λ b. Becomes b rows (by_answer W run (Ok (done W plan)) (λ a. next)) (refused rows run (fault_of fault.Full))) (sym (is refl)) (refused_over rows run (fault_of fault.Full))
by_room rows W run next plan false false taken more is =
    subst (λ b. Becomes b rows (by_answer W run (Ok (done W plan)) (λ a. next)) (by_answer rows run (Ok (done rows plan)) (λ a. next))) (sym (is refl)) (record { left = refl; changes = refl; touched = refl; run = refl })

more_than : (m a b : ℕ) → a ≤ b → nat_lt m a ≡ true → nat_lt m b ≡ true
more_than m a b le over = by (nat_lt m b) refl
  where
    by : (c : Bool) → nat_lt m b ≡ c → c ≡ true
    by true e = refl
    by false e = absurd (true≢false (sym over ∙ le-ltb m a (let h = ltb-false m b e in omega (arith, h, le))))

full_more : (rows W : Rows) (cs : List Change) (room : ℕ) → length W ≤ length rows → bytes_of W ≤ bytes_of rows → is_full W cs room ≡ true → is_full rows cs room ≡ true
full_more rows W cs room few small full =
    by (nat_lt max_documents (length W)) (nat_lt max_documents (length rows)) (nat_lt max_bytes (bytes_of W)) (nat_lt max_bytes (bytes_of rows)) (nat_lt room (new_bytes cs))
    (more_than max_documents (length W) (length rows) few) (more_than max_bytes (bytes_of W) (bytes_of rows) small) full
  where
    by : (a b c d e : Bool) → (a ≡ true → b ≡ true) → (c ≡ true → d ≡ true) → (a || c || e) ≡ true → (b || d || e) ≡ true
    by true b c d e f g h = ap (λ x. x || d || e) (f refl)
    by false true c d e f g h = refl
    by false false true d e f g h = ap (λ x. false || x || e) (g refl)
    by false false false true e f g h = refl
    by false false false false e f g h = h

-- where the documents that a step looks at have room, all have where they are not past what a store holds
room_left : (rows W : Rows) (cs : List Change) (room documents bytes : ℕ) → Totalled rows cs documents bytes → is_full (after W cs) cs room ≡ false → not (is_past documents bytes) ≡ not (is_full (after rows cs) cs room)
room_left rows W cs room documents bytes t free =
    let last : nat_lt room (new_bytes cs) ≡ false = (or_parts (nat_lt max_documents (length (after W cs)) || nat_lt max_bytes (bytes_of (after W cs))) (nat_lt room (new_bytes cs)) free).1 in
    ap not (ap₂ (λ d b. nat_lt max_documents d || nat_lt max_bytes b) t.many t.large ∙ sym (ap (λ b. nat_lt max_documents (length (after rows cs)) || nat_lt max_bytes (bytes_of (after rows cs)) || b) last ∙ or_no (nat_lt max_documents (length (after rows cs))) (nat_lt max_bytes (bytes_of (after rows cs)))))
  where
    or_no : (a b : Bool) → (a || b || false) ≡ (a || b)
    or_no true b = refl
    or_no false true = refl
    or_no false false = refl

-- ---- each kind of step

abbrev pub Holds : Rows → ProgramStep → ℕ → ℕ → Stepped → Stepped → Type 0
Holds rows s documents bytes win real =
    documents + old_count win.changes ≡ length rows + new_count win.changes → bytes + old_bytes win.changes ≡ bytes_of rows + new_bytes win.changes → Becomes (is_taken rows s win.changes documents bytes) rows win real

module _ (collection : List ℕ) (selector : Query) (m : Modification) (all : Bool) (rows W : Rows) (run next : Run) (room documents bytes : ℕ) (sorted : IsSorted key_cmp rows) (is : W ≡ matching collection selector rows) where
  abbrev found : Rows
  found = chosen all (matching collection selector rows)

  abbrev answer : Rows → Bool → Outcome (List Change) → Outcome Applied
  answer rs listed u = if listed then and_then (made (λ changes. plan_for found changes) u) (λ plan. if is_full (after rs plan.changes) plan.changes room then Err fault.Full else Ok (done rs plan)) else Err fault.NoCollection

  abbrev left_by : Rows → Bool → Outcome (List Change) → Stepped
  left_by rs listed u = by_answer rs run (answer rs listed u) (λ a. next)

  by_update : (listed : Bool) (u : Outcome (List Change)) → all_updated m found ≡ u
      → documents + old_count (left_by W listed u).changes ≡ length rows + new_count (left_by W listed u).changes → bytes + old_bytes (left_by W listed u).changes ≡ bytes_of rows + new_bytes (left_by W listed u).changes
      → Becomes (not (is_past documents bytes)) rows (left_by W listed u) (left_by rows listed u)
  by_update false u made d b = refused_becomes (not (is_past documents bytes)) rows W run (fault_of fault.NoCollection)
  by_update true (Err e) made d b = refused_becomes (not (is_past documents bytes)) rows W run (fault_of e)
  by_update true (Ok cs) made d b =
      let in_both : chosen all (matching collection selector W) ≡ found = ap (chosen all) (same_found collection selector rows W is) in
      let sorted_w : IsSorted key_cmp W = subst (IsSorted key_cmp) (sym is) (sorted_matching collection selector rows sorted) in
      let picked = picked_updates m found cs made in
      let for : AreFor rows cs = AreFor-from_picked rows cs sorted (of_chosen_matching all collection selector rows cs picked) in
      let for_w : AreFor W cs = AreFor-from_picked W cs sorted_w (of_chosen_matching all collection selector W cs (subst (λ (rs : Rows). Picked rs cs) (sym in_both) picked)) in
      let few : length (after W cs) ≤ length (after rows cs) = omega (arith, length-updates m found W cs sorted_w for_w made, length-updates m found rows cs sorted for made, ap length is, fewer collection selector rows) in
      let small : bytes_of (after W cs) ≤ bytes_of (after rows cs) = omega (arith, bytes-after W cs sorted_w for_w, bytes-after rows cs sorted for, ap bytes_of is, fewer_bytes collection selector rows) in
      let win : Bool → Stepped = λ (full : Bool). by_answer W run (if full then Err fault.Full else Ok (done W (plan_for found cs))) (λ a. next) in
      by_room rows W run next (plan_for found cs) (is_full (after W cs) cs room) (is_full (after rows cs) cs room) (not (is_past documents bytes)) (full_more (after rows cs) (after W cs) cs room few small) (λ free.
      room_left rows W cs room documents bytes
      (totalled rows cs documents bytes sorted (Fit-from_all rows cs sorted for.apart for.fit)
      (subst (λ (full : Bool). documents + old_count (win full).changes ≡ length rows + new_count (win full).changes) free d)
      (subst (λ (full : Bool). bytes + old_bytes (win full).changes ≡ bytes_of rows + new_bytes (win full).changes) free b)) free)

module _ (key : Key) (doc : Entries) (rows : Rows) (run next : Run) (room documents bytes : ℕ) (sorted : IsSorted key_cmp rows) (roomy : 1048576 ≤ room) where
  abbrev plan : Plan
  plan = insertion key doc

  abbrev cs : List Change
  cs = plan.changes

  -- nothing else takes room
  alone : is_too_large doc ≡ false → is_full (after [] cs) cs room ≡ false
  alone fits =
      let parts = or_parts (nat_lt max_document_size (size (document doc))) (nat_lt max_document_depth (depth (document doc))) fits in
      let small = ltb-false max_document_size (size (document doc)) parts.0 in
      not_full (after [] cs) cs room (omega arith) (omega (arith, small, sum_by-cons (λ (row : Row). size (document row.1)) (key, doc) [])) (omega (arith, small, roomy, sum_by-cons (λ (c : Change). size_if c.after) (record { key = key; before = None; after = Some doc }) []))

  abbrev put_into : Rows → Option Entries → Bool → Outcome Applied
  put_into rs there big = and_then (if is_some there then Err fault.Duplicate else (if big then Err fault.TooLarge else Ok plan)) (λ p. if is_full (after rs p.changes) p.changes room then Err fault.Full else Ok (done rs p))

  abbrev over_none : Bool → Stepped
  over_none full = by_answer [] run (if full then Err fault.Full else Ok (done [] plan)) (λ a. next)

  by_there : is_too_large doc ≡ false → (there : Option Entries) → at key_cmp rows key ≡ there → (full : Bool) → full ≡ false
      → documents + old_count (over_none full).changes ≡ length rows + new_count (over_none full).changes → bytes + old_bytes (over_none full).changes ≡ bytes_of rows + new_bytes (over_none full).changes
      → Becomes (is_new rows (over_none full).changes && not (is_past documents bytes)) rows (over_none full) (by_answer rows run (put_into rows there false) (λ a. next))
  by_there fits there is true free d b = absurd (true≢false free)
  by_there fits (Some other) is false free d b =
      subst (λ (o : Option Entries). Becomes (is_none o && not (is_past documents bytes)) rows (over_none false) (refused rows run (fault_of fault.Duplicate))) (sym is) (refused_over rows run (fault_of fault.Duplicate))
  by_there fits None is false free d b =
      let for = AreFor-insertion rows key doc is in
      subst (λ (o : Option Entries). Becomes (is_none o && not (is_past documents bytes)) rows (over_none false) (by_answer rows run (if is_full (after rows cs) cs room then Err fault.Full else Ok (done rows plan)) (λ a. next))) (sym is)
      (by_room rows [] run next plan false (is_full (after rows cs) cs room) (not (is_past documents bytes)) (λ e. absurd (true≢false (sym e))) (λ e.
      room_left rows [] cs room documents bytes (totalled rows cs documents bytes sorted (Fit-from_all rows cs sorted for.apart for.fit) d b) (alone fits)))

  abbrev answer_into : Rows → Bool → Bool → Outcome Applied
  answer_into rs listed big = if listed then put_into rs (at key_cmp rs key) big else Err fault.NoCollection

  abbrev into : Rows → Bool → Bool → Stepped
  into rs listed big = by_answer rs run (answer_into rs listed big) (λ a. next)

  by_insert : (listed big : Bool) → is_too_large doc ≡ big
      → documents + old_count (into [] listed big).changes ≡ length rows + new_count (into [] listed big).changes → bytes + old_bytes (into [] listed big).changes ≡ bytes_of rows + new_bytes (into [] listed big).changes
      → Becomes (is_new rows (into [] listed big).changes && not (is_past documents bytes)) rows (into [] listed big) (into rows listed big)
  by_insert false big is d b = refused_over rows run (fault_of fault.NoCollection)
  by_insert true true is d b =
      elim (at key_cmp rows key) as (λ (o : Option Entries). Refused rows (by_answer rows run (put_into rows o true) (λ a. next))) [
        | Some other ↦ refused_over rows run (fault_of fault.Duplicate)
        | None ↦ refused_over rows run (fault_of fault.TooLarge)
      ]
  by_insert true false is d b = by_there is (at key_cmp rows key) refl (is_full (after [] cs) cs room) (alone is) d b

-- A client's collections have no rules, so nothing is allowed.
guarded_over : (names : List (List ℕ)) (rows : Rows) (run : Run) (collection : List ℕ) (a : Action) → Refused rows (done_step (client_setting names) rows run (step.Guarded collection a))
guarded_over names rows run collection a =
    elim (writing_in collection run a run.params) as (λ (o : Option Writing). Refused rows (if_made rows run o (λ w. by_rules (client_setting names) rows run collection None w))) [
      | None ↦ refused_over rows run bad_parameters
      | Some w ↦ by_document w (judged_document w.0 (at key_cmp rows (key_of collection (id_of w.0))))
    ]
  where
    by_document : (w : Writing) (o : Option Entries) → Refused rows (by_verdict (client_setting names) rows run collection w (on_document no_rules w.0 o))
    by_document w None = record { left = refl; changes = refl; touched = refl; over = refl }
    by_document w (Some d) = refused_over rows run not_allowed

module _ (names : List (List ℕ)) (rows W : Rows) (run : Run) (documents bytes : ℕ) (sorted : IsSorted key_cmp rows) where
  abbrev here : ProgramStep → Rows → Stepped
  here s rs = done_step (client_setting names) rs run s

  -- the step is made, or the stub is over there
  pub step_becomes : (s : ProgramStep) → IsWindow run.params run.made rows s W → Holds rows s documents bytes (here s W) (here s rows)
  step_becomes (step.Insert collection template) is =
      subst (λ (w : Rows). Holds rows (step.Insert collection template) documents bytes (here (step.Insert collection template) w) (here (step.Insert collection template) rows)) (sym is)
      (elim (new_in run collection template) as (λ (o : Option New).
      Holds rows (step.Insert collection template) documents bytes
      (if_made [] run o (λ new. by_answer [] run (applied names [] (operation.Insert collection new.id new.doc) stub_room) (λ a. gone_on (inserted collection new run))))
      (if_made rows run o (λ new. by_answer rows run (applied names rows (operation.Insert collection new.id new.doc) stub_room) (λ a. gone_on (inserted collection new run))))) [
        | None ↦ λ d b. refused_over rows run bad_parameters
        | Some new ↦ λ d b. by_insert (key_of collection new.id) new.doc rows run (gone_on (inserted collection new run)) stub_room documents bytes sorted (omega arith) (is_listed names collection) (is_too_large new.doc) refl d b
      ])
  step_becomes (step.Update collection selector modifier all) is =
      (elim (selector_in run selector) as (λ (o : Option Query). IsFoundBy o collection rows W →
      Holds rows (step.Update collection selector modifier all) documents bytes
      (if_made W run o (λ q. if_made W run (modifier_in run modifier) (λ m. by_answer W run (applied names W (operation.Update collection q m all) stub_room) (λ a. gone_on run))))
      (if_made rows run o (λ q. if_made rows run (modifier_in run modifier) (λ m. by_answer rows run (applied names rows (operation.Update collection q m all) stub_room) (λ a. gone_on run))))) [
        | None ↦ λ w d b. refused_becomes (not (is_past documents bytes)) rows W run bad_parameters
        | Some q ↦ λ w.
            elim (modifier_in run modifier) as (λ (o : Option Modification).
            Holds rows (step.Update collection selector modifier all) documents bytes
            (if_made W run o (λ m. by_answer W run (applied names W (operation.Update collection q m all) stub_room) (λ a. gone_on run)))
            (if_made rows run o (λ m. by_answer rows run (applied names rows (operation.Update collection q m all) stub_room) (λ a. gone_on run)))) [
              | None ↦ λ d b. refused_becomes (not (is_past documents bytes)) rows W run bad_parameters
              | Some m ↦
                  let in_both : chosen all (matching collection q W) ≡ chosen all (matching collection q rows) = ap (chosen all) (same_found collection q rows W w) in
                  subst (λ (found : Rows).
                  Holds rows (step.Update collection selector modifier all) documents bytes
                  (by_answer W run (if is_listed names collection then and_then (update_plan m found) (λ plan. if is_full (after W plan.changes) plan.changes stub_room then Err fault.Full else Ok (done W plan)) else Err fault.NoCollection) (λ a. gone_on run))
                  (by_answer rows run (applied names rows (operation.Update collection q m all) stub_room) (λ a. gone_on run))) (sym in_both)
                  (λ d b. by_update collection q m all rows W run (gone_on run) stub_room documents bytes sorted w (is_listed names collection) (all_updated m (chosen all (matching collection q rows))) refl d b)
            ]
      ]) is
  step_becomes (step.Remove collection selector) is =
      (elim (selector_in run selector) as (λ (o : Option Query). IsFoundBy o collection rows W →
      Holds rows (step.Remove collection selector) documents bytes
      (if_made W run o (λ q. by_answer W run (applied names W (operation.Remove collection q) stub_room) (λ a. gone_on run)))
      (if_made rows run o (λ q. by_answer rows run (applied names rows (operation.Remove collection q) stub_room) (λ a. gone_on run)))) [
        | None ↦ λ w d b. refused_same rows W run bad_parameters
        | Some q ↦ λ w d b.
            subst (λ (found : Rows). Alike rows (by_answer W run (if is_listed names collection then Ok (done W (remove_plan found)) else Err fault.NoCollection) (λ a. gone_on run)) (by_answer rows run (if is_listed names collection then Ok (done rows (remove_plan (matching collection q rows))) else Err fault.NoCollection) (λ a. gone_on run)))
            (sym (same_found collection q rows W w))
            (elim (is_listed names collection) as (λ (b : Bool). Alike rows (by_answer W run (if b then Ok (done W (remove_plan (matching collection q rows))) else Err fault.NoCollection) (λ a. gone_on run)) (by_answer rows run (if b then Ok (done rows (remove_plan (matching collection q rows))) else Err fault.NoCollection) (λ a. gone_on run))) [
              | true ↦ record { left = refl; changes = refl; touched = refl; run = refl }
              | false ↦ refused_same rows W run (fault_of fault.NoCollection)
            ])
      ]) is
  step_becomes (step.Require collection selector why) is =
      (elim (selector_in run selector) as (λ (o : Option Query). IsFoundBy o collection rows W →
      Holds rows (step.Require collection selector why) documents bytes
      (if_made W run o (λ q. if_found W run why (matching collection q W)))
      (if_made rows run o (λ q. if_found rows run why (matching collection q rows)))) [
        | None ↦ λ w d b. refused_same rows W run bad_parameters
        | Some q ↦ λ w d b.
            subst (λ (found : Rows). Alike rows (if_found W run why found) (if_found rows run why (matching collection q rows))) (sym (same_found collection q rows W w))
            (elim (matching collection q rows) as (λ (found : Rows). Alike rows (if_found W run why found) (if_found rows run why found)) [
              | [] ↦ refused_same rows W run why
              | row ∷ more ↦ record { left = refl; changes = refl; touched = refl; run = refl }
            ])
      ]) is
  step_becomes step.Unblock is = λ d b. record { left = refl; changes = refl; touched = refl; run = refl }
  step_becomes (step.Throw why) is = λ d b. refused_same rows W run why
  step_becomes (step.Return template) is = λ d b.
      elim (filled_in run template) as (λ (o : Option Val). Alike rows (if_made W run o (λ v. unchanged W (ended (run_done (Some v)) run))) (if_made rows run o (λ v. unchanged rows (ended (run_done (Some v)) run)))) [
        | None ↦ refused_same rows W run bad_parameters
        | Some v ↦ record { left = refl; changes = refl; touched = refl; run = refl }
      ]
  step_becomes (step.Guarded collection a) is = λ d b. guarded_over names rows run collection a

-- ---- the ids that a step made

over_made : (left : List ProgramStep) (run : Run) → (if_over left run).made ≡ run.made
over_made [] run = refl
over_made (s ∷ left) run = refl

gone_made : (run : Run) → (gone_on run).made ≡ run.made ++ []
gone_made run = over_made run.left run ∙ sym (append-nil run.made)

answer_made : (rs : Rows) (run : Run) (o : Outcome Applied) → (by_answer rs run o (λ a. gone_on run)).run.made ≡ run.made ++ []
answer_made rs run (Ok a) = gone_made run
answer_made rs run (Err e) = sym (append-nil run.made)

module _ (names : List (List ℕ)) (W : Rows) (run : Run) where
  abbrev ids : List Key → List (List ℕ)
  ids touched = map (λ (k : Key). k.id) touched

  abbrev inserting : List ℕ → New → Bool → Bool → Bool → Stepped
  inserting collection new listed big full =
      by_answer [] run (if listed then and_then (if big then Err fault.TooLarge else Ok (insertion (key_of collection new.id) new.doc)) (λ (p : Plan). if full then Err fault.Full else Ok (done [] p)) else Err fault.NoCollection) (λ a. gone_on (inserted collection new run))

  insert_made : (collection : List ℕ) (new : New) (listed big full : Bool) → (inserting collection new listed big full).run.made ≡ run.made ++ ids (inserting collection new listed big full).touched
  insert_made collection new false big full = sym (append-nil run.made)
  insert_made collection new true true full = sym (append-nil run.made)
  insert_made collection new true false true = sym (append-nil run.made)
  insert_made collection new true false false = over_made run.left (inserted collection new run)

  big_made : (collection : List ℕ) (new : New) (listed big : Bool) →
      let o : Outcome Applied = (if listed then and_then (if big then Err fault.TooLarge else Ok (insertion (key_of collection new.id) new.doc)) (λ (p : Plan). if is_full (after [] p.changes) p.changes stub_room then Err fault.Full else Ok (done [] p)) else Err fault.NoCollection) in
      (by_answer [] run o (λ a. gone_on (inserted collection new run))).run.made ≡ run.made ++ ids (by_answer [] run o (λ a. gone_on (inserted collection new run))).touched
  big_made collection new false big = sym (append-nil run.made)
  big_made collection new true true = sym (append-nil run.made)
  big_made collection new true false = insert_made collection new true false (is_full (after [] (insertion (key_of collection new.id) new.doc).changes) (insertion (key_of collection new.id) new.doc).changes stub_room)

  pub step_made : (s : ProgramStep) (rows : Rows) (documents bytes : ℕ) → IsWindow run.params run.made rows s W → is_taken rows s (done_step (client_setting names) W run s).changes documents bytes ≡ true
      → (done_step (client_setting names) W run s).run.made ≡ run.made ++ new_ids s (done_step (client_setting names) W run s).touched
  step_made (step.Insert collection template) rows documents bytes is taken =
      subst (λ (w : Rows). (done_step (client_setting names) w run (step.Insert collection template)).run.made ≡ run.made ++ ids (done_step (client_setting names) w run (step.Insert collection template)).touched) (sym is)
      (elim (new_in run collection template) as (λ (o : Option New).
      (if_made [] run o (λ new. by_answer [] run (applied names [] (operation.Insert collection new.id new.doc) stub_room) (λ a. gone_on (inserted collection new run)))).run.made
      ≡ run.made ++ ids (if_made [] run o (λ new. by_answer [] run (applied names [] (operation.Insert collection new.id new.doc) stub_room) (λ a. gone_on (inserted collection new run)))).touched) [
        | None ↦ sym (append-nil run.made)
        | Some new ↦ big_made collection new (is_listed names collection) (is_too_large new.doc)
      ])
  step_made (step.Update collection selector modifier all) rows documents bytes is taken =
      elim (selector_in run selector) as (λ (o : Option Query). (if_made W run o (λ q. if_made W run (modifier_in run modifier) (λ m. by_answer W run (applied names W (operation.Update collection q m all) stub_room) (λ a. gone_on run)))).run.made ≡ run.made ++ []) [
        | None ↦ sym (append-nil run.made)
        | Some q ↦ elim (modifier_in run modifier) as (λ (o : Option Modification). (if_made W run o (λ m. by_answer W run (applied names W (operation.Update collection q m all) stub_room) (λ a. gone_on run))).run.made ≡ run.made ++ []) [
          | None ↦ sym (append-nil run.made)
          | Some m ↦ answer_made W run (applied names W (operation.Update collection q m all) stub_room)
        ]
      ]
  step_made (step.Remove collection selector) rows documents bytes is taken =
      elim (selector_in run selector) as (λ (o : Option Query). (if_made W run o (λ q. by_answer W run (applied names W (operation.Remove collection q) stub_room) (λ a. gone_on run))).run.made ≡ run.made ++ []) [
        | None ↦ sym (append-nil run.made)
        | Some q ↦ answer_made W run (applied names W (operation.Remove collection q) stub_room)
      ]
  step_made (step.Require collection selector why) rows documents bytes is taken =
      elim (selector_in run selector) as (λ (o : Option Query). (if_made W run o (λ q. if_found W run why (matching collection q W))).run.made ≡ run.made ++ []) [
        | None ↦ sym (append-nil run.made)
        | Some q ↦ elim (matching collection q W) as (λ (found : Rows). (if_found W run why found).run.made ≡ run.made ++ []) [ [] ↦ sym (append-nil run.made) | row ∷ more ↦ gone_made run ]
      ]
  step_made step.Unblock rows documents bytes is taken = over_made run.left (record run { unblocked = true }) ∙ sym (append-nil run.made)
  step_made (step.Throw why) rows documents bytes is taken = sym (append-nil run.made)
  step_made (step.Return template) rows documents bytes is taken =
      elim (filled_in run template) as (λ (o : Option Val). (if_made W run o (λ v. unchanged W (ended (run_done (Some v)) run))).run.made ≡ run.made ++ []) [ None ↦ sym (append-nil run.made) | Some v ↦ sym (append-nil run.made) ]
  step_made (step.Guarded collection a) rows documents bytes is taken = absurd (true≢false (sym taken))
