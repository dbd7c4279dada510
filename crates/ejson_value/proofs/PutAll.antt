-- Lemmas of changes put into contents.
use Rattle.std.proofs.Common.{◌≡◌, ◌<◌, ℕ, suc, ◌+◌, Bool, true, false, cond, if◌then◌else◌, ◌&&◌, ◌||◌, List, [], ◌∷◌, map, length, drop, get_or}
use Rattle.std.proofs.Common.{Option, None, Some, IsSome, is_none, unwrap_or, refl, ap, ap₂, sym, subst, ◌∙◌, add-one, arith}
use Rattle.std.specs.List.{AllByRecursion, AllAdjacentBelow}
use Rattle.std.proofs.lemmas.List.{get_or-map, length-map}
use Rattle.std.proofs.lemmas.Map.Keys.{IsDistinct-from_sorted, IsDistinct-head, IsDistinct-tail, sorted_from_all_adjacent}
use Rattle.std.specs.Option.{option_or}
use Rattle.std.specs.declared.cmp.Ordering.{Ordering}
use Rattle.std.specs.Ordering.{eq_by_cmp, is_lt}
use Rattle.std.proofs.lemmas.Cmp.{eq_by_cmp_equiv}
use Rattle.std.proofs.Math.Seq.{drop-cons}
use Rattle.std.specs.BTreeMap.{insert_entry}
use Rattle.map_model.specs.Maps.{at, set, IsSorted, IsKeyOrder}
use Rattle.map_model.specs.MapLaws.{at-put, at-set, at-tail, sorted-put, sorted-set, same_maps, key_is, eq_by_cmp-self}
use Rattle.map_model.specs.Changes.{last_at, changed}
use Rattle.map_model.specs.ChangeLaws.{at-changed, sorted-changed}
use Rattle.value_model.specs.Val.{Entries}
use Rattle.ejson_value.specs.declared.key.Key.{Key}
use Rattle.ejson_value.specs.declared.change.Change.{Change}
use Rattle.ejson_value.specs.Key.{key_cmp, key_total, key_order}
use Rattle.value_model.specs.Valid.{IsDocument}
use Rattle.ejson_value.specs.ChangeLaws.{AllFit, HaveDistinctKeys}
use Rattle.ejson_value.specs.Rows.{Rows, AreRows, AreDocuments-put}
use Rattle.ejson_value.specs.Changes.{changes_of, has_new}
use Rattle.ejson_value.specs.declared.memory.Mem.{Mem}
use Rattle.std.specs.Prelude.{Result, Ok, IfOk}
use Rattle.ejson_value.proofs.Places.{lt_of}
use Rattle.std.proofs.lemmas.List.Elements.{All-head, All-tail}

-- a map that has a value in place of another is that with it put
pub written_by : {K X : Type 0} {R : K → K → Ordering} → IsKeyOrder R → (old new : List (K × X)) (key : K) (v : X) → IsSorted R old → IsSorted R new
    → ((q : K) → at R new q ≡ cond (eq_by_cmp R key q) (Some v) (at R old q)) → new ≡ insert_entry R old key v
written_by {R = R} o old new key v s t is =
    same_maps o new (insert_entry R old key v) t (sorted-put o old key v s)
    (λ q. is q ∙ (ap (λ b. cond b (Some v) (at R old q)) ((eq_by_cmp_equiv o.total).symm key q) ∙ sym (at-put o old key v q)))

-- contents that have a document in place of another are those with it put
pub written : (old new : Rows) (key : Key) (doc : Entries) → IsSorted key_cmp old → IsSorted key_cmp new
    → ((q : Key) → at key_cmp new q ≡ cond (eq_by_cmp key_cmp key q) (Some doc) (at key_cmp old q)) → new ≡ insert_entry key_cmp old key doc
written old new key doc s t is = written_by key_order old new key doc s t is

-- what is left to do of the changes from the i-th on, by the i-th
pub next_change : (cs : List Change) (i : ℕ) (c : Change) → c ≡ get_or cs i c → i < length cs → drop i cs ≡ c ∷ drop (i + 1) cs
next_change cs i c is h = rw (add-one, drop-cons cs i c) (ap (λ d. d ∷ drop (suc i) cs) (sym is))

-- where there is nothing, there is no document
pub nothing : {X : Type 0} (found : Option X) → None ≡ found → IsSome found → ⊥
nothing None e there = cc
nothing (Some doc) e there = cc

-- a document put keeps what contents keep
pub AreRows-written : (old new : Rows) (key : Key) (doc : Entries) → new ≡ insert_entry key_cmp old key doc → AreRows old → IsDocument doc → AreRows new
AreRows-written old new key doc is rows one = subst AreRows (sym is) (record { by_key = sorted-put key_order old key doc rows.by_key; documents = AreDocuments-put old key doc rows.documents one })

-- contents with a document put where there was none keep what they kept
pub AreRows-put_new : (b : Bool) (old new : Rows) (key : Key) (doc : Entries) → new ≡ (if b then insert_entry key_cmp old key doc else old) → AreRows old → IsDocument doc → AreRows new
AreRows-put_new true old new key doc is rows one = AreRows-written old new key doc is rows one
AreRows-put_new false old new key doc is rows one = subst AreRows (sym is) rows

-- what is said of a place that was found, or wasn't
pub told_new : (said : Result Bool Mem) (found : Option Entries) → said ≡ Ok true → found ≡ None → IfOk said (λ new. new ≡ is_none found)
told_new said found is none = subst (λ (r : Result Bool Mem). IfOk r (λ new. new ≡ is_none found)) (sym is) (ap is_none (sym none))

pub told_there : (said : Result Bool Mem) (found : Option Entries) → said ≡ Ok false → IsSome found → IfOk said (λ new. new ≡ is_none found)
told_there said (Some doc) is there = subst (λ (r : Result Bool Mem). IfOk r (λ new. new ≡ is_none (Some doc))) (sym is) refl
told_there said None is there = cc

at_either : (b : Bool) (first second : Rows) (k : Key) (o : Option Entries) → at key_cmp first k ≡ o → at key_cmp (cond b first second) k ≡ cond b o (at key_cmp second k)
at_either true first second k o e = e
at_either false first second k o e = refl

pub either_is : (b : Bool) (rows first second : Rows) → b ≡ true → rows ≡ first → rows ≡ cond b first second
either_is true rows first second b e = e
either_is false rows first second b e = cc

pub otherwise_is : (b : Bool) (rows first second : Rows) → b ≡ false → rows ≡ second → rows ≡ cond b first second
otherwise_is true rows first second b e = cc
otherwise_is false rows first second b e = e

after_one : (e b r : Bool) (w old : Option Entries) → cond r w (cond b (cond e w old) old) ≡ cond ((e && b) || r) w old
after_one true true true w old = refl
after_one true true false w old = refl
after_one true false true w old = refl
after_one true false false w old = refl
after_one false true true w old = refl
after_one false true false w old = refl
after_one false false true w old = refl
after_one false false false w old = refl

-- one change's place, made or taken out: what is left to do, done to the contents before, is the rest, done to those after
pub one_change : (w : Option Entries) (cs : List Change) (i : ℕ) (c : Change) (rows rows' : Rows) → c ≡ get_or cs i c → i < length cs
    → ((q : Key) → at key_cmp (set key_cmp rows c.key w) q ≡ cond (eq_by_cmp key_cmp q c.key) w (at key_cmp rows q))
    → rows' ≡ cond (is_none c.before) (set key_cmp rows c.key w) rows
    → (k : Key) → cond (has_new k (drop (i + 1) cs)) w (at key_cmp rows' k) ≡ cond (has_new k (drop i cs)) w (at key_cmp rows k)
one_change w cs i c rows rows' is h sets made k =
    let here = ap (λ (rs : Rows). at key_cmp rs k) made ∙ at_either (is_none c.before) (set key_cmp rows c.key w) rows k (cond (eq_by_cmp key_cmp k c.key) w (at key_cmp rows k)) (sets k) in
    ap (λ o. cond (has_new k (drop (i + 1) cs)) w o) here
    ∙ (after_one (eq_by_cmp key_cmp k c.key) (is_none c.before) (has_new k (drop (i + 1) cs)) w (at key_cmp rows k)
    ∙ ap (λ ds. cond (has_new k ds) w (at key_cmp rows k)) (sym (next_change cs i c is h)))

or_false : (a b : Bool) → (a || b) ≡ false → b ≡ false
or_false true b e = cc
or_false false b e = e

-- where no change left makes a place, none of the rest does
pub fewer_new : (cs : List Change) (i : ℕ) (c : Change) (k : Key) → c ≡ get_or cs i c → i < length cs → has_new k (drop i cs) ≡ false → has_new k (drop (i + 1) cs) ≡ false
fewer_new cs i c k is h none = or_false (eq_by_cmp key_cmp k c.key && is_none c.before) (has_new k (drop (i + 1) cs)) (ap (has_new k) (sym (next_change cs i c is h)) ∙ none)

later_wins : (e : Bool) (last : Option (Option Entries)) (after : Option Entries) (planned : Option (Option Entries)) →
    option_or last (cond e (Some after) planned) ≡ option_or (option_or last (cond e (Some after) None)) planned
later_wins true None after planned = refl
later_wins true (Some w) after planned = refl
later_wins false None after planned = refl
later_wins false (Some w) after planned = refl

-- one change planned
pub one_planned : (cs : List Change) (i : ℕ) (c : Change) (plan plan' : List (Key × Option Entries)) → c ≡ get_or cs i c → i < length cs → plan' ≡ insert_entry key_cmp plan c.key c.after
    → (k : Key) → option_or (last_at key_cmp k (changes_of (drop (i + 1) cs))) (at key_cmp plan' k) ≡ option_or (last_at key_cmp k (changes_of (drop i cs))) (at key_cmp plan k)
one_planned cs i c plan plan' is h made k =
    let last = last_at key_cmp k (changes_of (drop (i + 1) cs)) in
    let here = ap (λ (es : List (Key × Option Entries)). at key_cmp es k) made ∙ at-put key_order plan c.key c.after k in
    ap (option_or last) here
    ∙ (later_wins (eq_by_cmp key_cmp k c.key) last c.after (at key_cmp plan k)
    ∙ ap (λ ds. option_or (last_at key_cmp k (changes_of ds)) (at key_cmp plan k)) (sym (next_change cs i c is h)))

next_left : (e : Bool) (rest : Option (Option Entries)) (planned old : Option Entries) → (e ≡ true → rest ≡ None) → unwrap_or rest (cond e planned old) ≡ unwrap_or (cond e (Some planned) rest) old
next_left true rest planned old tail = ap (λ o. unwrap_or o planned) (tail refl)
next_left false rest planned old tail = refl

next_room : (e : Bool) (rest : Option (Option Entries)) (planned old : Option Entries) (doc : Entries) → (e ≡ true → rest ≡ None) → rest ≡ Some (Some doc)
    → (cond e (Some planned) rest ≡ Some (Some doc) → IsSome old) → IsSome (cond e planned old)
next_room true rest planned old doc tail is room = let none = tail refl in cc
next_room false rest planned old doc tail is room = room is

-- one key of the plan done
module _ (plan plan' : List (Key × Option Entries)) (key : Key) (planned : Option Entries) (rows rows' : Rows) (first : plan ≡ (key, planned) ∷ plan') (sorted : IsSorted key_cmp plan) (rows_sorted : IsSorted key_cmp rows)
    (done : rows' ≡ set key_cmp rows key planned) where
  at_rows : (k : Key) → at key_cmp rows' k ≡ cond (eq_by_cmp key_cmp k key) planned (at key_cmp rows k)
  at_rows k = ap (λ (rs : Rows). at key_cmp rs k) done ∙ at-set key_order rows key planned k rows_sorted

  at_plan : (k : Key) → at key_cmp plan k ≡ cond (eq_by_cmp key_cmp k key) (Some planned) (at key_cmp plan' k)
  at_plan k = ap (λ (es : List (Key × Option Entries)). at key_cmp es k) first

  tail : (k : Key) → eq_by_cmp key_cmp k key ≡ true → at key_cmp plan' k ≡ None
  tail k = at-tail key_order (key, planned) plan' k (subst (IsSorted key_cmp) first sorted)

  pub one_done : (k : Key) → unwrap_or (at key_cmp plan' k) (at key_cmp rows' k) ≡ unwrap_or (at key_cmp plan k) (at key_cmp rows k)
  one_done k =
      ap (unwrap_or (at key_cmp plan' k)) (at_rows k)
      ∙ (next_left (eq_by_cmp key_cmp k key) (at key_cmp plan' k) planned (at key_cmp rows k) (tail k)
      ∙ ap (λ o. unwrap_or o (at key_cmp rows k)) (sym (at_plan k)))

  pub room_left : ((k : Key) (doc : Entries) → at key_cmp plan k ≡ Some (Some doc) → IsSome (at key_cmp rows k)) → (k : Key) (doc : Entries) → at key_cmp plan' k ≡ Some (Some doc) → IsSome (at key_cmp rows' k)
  room_left room k doc is =
      subst IsSome (sym (at_rows k)) (next_room (eq_by_cmp key_cmp k key) (at key_cmp plan' k) planned (at key_cmp rows k) doc (tail k) is (λ e. room k doc (at_plan k ∙ e)))

pub sorted_either : (b : Bool) (rows rows' : Rows) (key : Key) (w : Option Entries) → rows' ≡ cond b (set key_cmp rows key w) rows → IsSorted key_cmp rows → IsSorted key_cmp rows'
sorted_either true rows rows' key w made s = subst (IsSorted key_cmp) (sym made) (sorted-set key_order rows key w s)
sorted_either false rows rows' key w made s = subst (IsSorted key_cmp) (sym made) s

fits_here : (rows : Rows) (c : Change) (k : Key) → at key_cmp rows c.key ≡ c.before → eq_by_cmp key_cmp k c.key ≡ true → at key_cmp rows k ≡ c.before
fits_here rows c k fits here = ap (at key_cmp rows) (key_is key_order k c.key here) ∙ fits

none_is : (o : Option Entries) → is_none o ≡ true → o ≡ None
none_is None e = refl
none_is (Some doc) e = cc

some_is : (o : Option Entries) → is_none o ≡ false → IsSome o
some_is None e = cc
some_is (Some doc) e = refl

by_new : {P : Type 0} (e b r : Bool) → ((e && b) || r) ≡ true → (e ≡ true → b ≡ true → P) → (r ≡ true → P) → P
by_new true true r new here later = here refl refl
by_new true false r new here later = later new
by_new false b r new here later = later new

-- a key of a change that had no document has none
pub new_had_none : (rows : Rows) (cs : List Change) (k : Key) → AllFit rows cs → has_new k cs ≡ true → at key_cmp rows k ≡ None
new_had_none rows [] k fit new = cc
new_had_none rows (c ∷ cs) k fit new =
    let here = All-head (λ (c : Change). at key_cmp rows c.key ≡ c.before) c cs fit in
    let rest = new_had_none rows cs k (All-tail (λ (c : Change). at key_cmp rows c.key ≡ c.before) c cs fit) in
    by_new (eq_by_cmp key_cmp k c.key) (is_none c.before) (has_new k cs) new (λ e b. fits_here rows c k here e ∙ none_is c.before b) rest

undone_at : (b : Bool) (old placed : Option Entries) → (b ≡ true → old ≡ None) → (b ≡ false → placed ≡ old) → cond b None placed ≡ old
undone_at true old placed new others = sym (new refl)
undone_at false old placed new others = others refl

-- places taken out again leave the contents that were
pub undone : (cs : List Change) (rows placed after : Rows) → AllFit rows cs → IsSorted key_cmp rows → IsSorted key_cmp after
    → ((k : Key) → has_new k cs ≡ false → at key_cmp placed k ≡ at key_cmp rows k)
    → ((k : Key) → at key_cmp after k ≡ (if has_new k cs then None else at key_cmp placed k)) → after ≡ rows
undone cs rows placed after fit s t others taken =
    same_maps key_order after rows t s (λ k. taken k ∙ undone_at (has_new k cs) (at key_cmp rows k) (at key_cmp placed k) (new_had_none rows cs k fit) (others k))

room_step : (last : Option (Option Entries)) (e b r : Bool) (after old : Option Entries) → IsSome (option_or last (cond e (Some after) None))
    → (IsSome last → IsSome (cond r (Some []) old)) → (e ≡ true → b ≡ false → IsSome old) → IsSome (cond ((e && b) || r) (Some []) old)
room_step (Some w) true true r after old some later here = refl
room_step (Some w) true false r after old some later here = later refl
room_step (Some w) false b r after old some later here = later refl
room_step None true true r after old some later here = refl
room_step None true false true after old some later here = refl
room_step None true false false after old some later here = here refl refl
room_step None false b r after old some later here = cc

-- once the places are made, each key of a change has a document
pub room_made : (rows : Rows) (cs : List Change) (k : Key) → AllFit rows cs → IsSome (last_at key_cmp k (changes_of cs)) → IsSome (cond (has_new k cs) (Some []) (at key_cmp rows k))
room_made rows [] k fit some = cc
room_made rows (c ∷ cs) k fit some =
    let here = All-head (λ (c : Change). at key_cmp rows c.key ≡ c.before) c cs fit in
    let rest = room_made rows cs k (All-tail (λ (c : Change). at key_cmp rows c.key ≡ c.before) c cs fit) in
    room_step (last_at key_cmp k (changes_of cs)) (eq_by_cmp key_cmp k c.key) (is_none c.before) (has_new k cs) c.after (at key_cmp rows k) some rest
    (λ e b. subst IsSome (sym (fits_here rows c k here e)) (some_is c.before b))

none_step : (last : Option (Option Entries)) (e b r : Bool) (after : Option Entries) → option_or last (cond e (Some after) None) ≡ None → (last ≡ None → r ≡ false) → ((e && b) || r) ≡ false
none_step (Some w) e b r after none later = cc
none_step None true b r after none later = cc
none_step None false b r after none later = later refl

-- where no change is at the key, none makes a place there
none_new : (cs : List Change) (k : Key) → last_at key_cmp k (changes_of cs) ≡ None → has_new k cs ≡ false
none_new [] k none = refl
none_new (c ∷ cs) k none = none_step (last_at key_cmp k (changes_of cs)) (eq_by_cmp key_cmp k c.key) (is_none c.before) (has_new k cs) c.after none (none_new cs k)

places_hidden : (last : Option (Option Entries)) (new : Bool) (old : Option Entries) → (last ≡ None → new ≡ false) → unwrap_or last (cond new (Some []) old) ≡ unwrap_or last old
places_hidden (Some w) new old none = refl
places_hidden None new old none = ap (λ b. cond b (Some []) old) (none refl)

-- no two of the changes that go by rising key are at one key
pub rising_apart : (cs : List Change) → AllAdjacentBelow (λ (x y : Change). true ≡ is_lt (key_cmp x.key y.key)) cs (length cs) → HaveDistinctKeys cs
rising_apart cs rise =
    let none : Change = record { key = record { collection = []; id = [] }; before = None; after = None } in
    let keys = map (λ (c : Change). c.key) cs in
    IsDistinct-from_sorted key_cmp keys (sorted_from_all_adjacent key_total keys none.key (λ k l.
    let within : k + 1 < length cs = subst (λ n. k + 1 < n) (length-map cs (λ (c : Change). c.key)) l in
    ap₂ key_cmp (get_or-map (λ (c : Change). c.key) cs k none none.key (omega (arith, within))) (get_or-map (λ (c : Change). c.key) cs (k + 1) none none.key within)
    ∙ lt_of _ (sym (rise k none within))))

-- the first copy is of what the first change leaves
pub first_copy : (c : Change) (cs : List Change) (copies left : List (Option Entries)) (after : Option Entries)
    → copies ≡ map (λ (c : Change). c.after) (c ∷ cs) → copies ≡ after ∷ left → after ≡ c.after
first_copy c cs copies left after are first = ap (λ (os : List (Option Entries)). get_or os 0 None) (sym first ∙ are)

-- as long as a change is left, so is a copy
pub no_copy : {P : Type 0} (c : Change) (cs : List Change) (copies left : List (Option Entries))
    → copies ≡ map (λ (c : Change). c.after) (c ∷ cs) → left ≡ drop 1 copies → copies ≡ left → P
no_copy c cs copies left are rest none =
    let longer = ap (λ (os : List (Option Entries)). length os) (sym are ∙ (none ∙ (rest ∙ ap (drop 1) are))) in absurd (omega (arith, longer))

-- nothing is said of a key at which no change is
last_apart : (key : Key) (cs : List Change) → AllByRecursion (λ q. eq_by_cmp key_cmp key q ≡ false) (map (λ (c : Change). c.key) cs) → last_at key_cmp key (changes_of cs) ≡ None
last_apart key [] apart = refl
last_apart key (c ∷ cs) apart = ap₂ (λ last b. option_or last (cond b (Some c.after) None)) (last_apart key cs apart.1) apart.0

place_stays : (e : Bool) (last : Option (Option Entries)) (after w old : Option Entries) → (e ≡ true → last ≡ None) → IsSome last
    → (IsSome (option_or last (cond e (Some after) None)) → IsSome old) → IsSome (cond e w old)
place_stays true None after w old alone some place = cc
place_stays true (Some x) after w old alone some place = let none = alone refl in cc
place_stays false None after w old alone some place = cc
place_stays false (Some x) after w old alone some place = place refl

-- one change made, of changes at distinct keys: the keys of the others have what they had
pub places_left : (rows : Rows) (c : Change) (cs : List Change) (w : Option Entries) → IsSorted key_cmp rows → HaveDistinctKeys (c ∷ cs)
    → ((k : Key) → IsSome (last_at key_cmp k (changes_of (c ∷ cs))) → IsSome (at key_cmp rows k))
    → (k : Key) → IsSome (last_at key_cmp k (changes_of cs)) → IsSome (at key_cmp (set key_cmp rows c.key w) k)
places_left rows c cs w s apart places k some =
    subst IsSome (sym (at-set key_order rows c.key w k s))
    (place_stays (eq_by_cmp key_cmp k c.key) (last_at key_cmp k (changes_of cs)) c.after w (at key_cmp rows k)
    (λ e. ap (λ (q : Key). last_at key_cmp q (changes_of cs)) (key_is key_order k c.key e)
    ∙ last_apart c.key cs (IsDistinct-head (eq_by_cmp key_cmp) c.key (map (λ (c : Change). c.key) cs) apart))
    some (places k))

pub apart_left : (c : Change) (cs : List Change) → HaveDistinctKeys (c ∷ cs) → HaveDistinctKeys cs
apart_left c cs apart = IsDistinct-tail (eq_by_cmp key_cmp) c.key (map (λ (c : Change). c.key) cs) apart

some_last : (last : Option (Option Entries)) (after : Option Entries) (e : Bool) → e ≡ true → IsSome (option_or last (cond e (Some after) None))
some_last None after true e = refl
some_last (Some w) after true e = refl
some_last last after false e = cc

-- the first change's key has a place
pub first_place : (rows : Rows) (c : Change) (cs : List Change) → ((k : Key) → IsSome (last_at key_cmp k (changes_of (c ∷ cs))) → IsSome (at key_cmp rows k)) → IsSome (at key_cmp rows c.key)
first_place rows c cs places = places c.key (some_last (last_at key_cmp c.key (changes_of cs)) c.after (eq_by_cmp key_cmp c.key c.key) (eq_by_cmp-self key_order c.key))

-- what the plan makes of the contents with their places is what the changes make of those before
pub all_put : (cs : List Change) (plan : List (Key × Option Entries)) (rows placed after : Rows) → IsSorted key_cmp rows → IsSorted key_cmp after
    → ((k : Key) → at key_cmp plan k ≡ last_at key_cmp k (changes_of cs))
    → ((k : Key) → at key_cmp placed k ≡ (if has_new k cs then Some [] else at key_cmp rows k))
    → ((k : Key) → at key_cmp after k ≡ unwrap_or (at key_cmp plan k) (at key_cmp placed k)) → after ≡ changed key_cmp rows (changes_of cs)
all_put cs plan rows placed after s t planned places done =
    same_maps key_order after (changed key_cmp rows (changes_of cs)) t (sorted-changed key_order rows (changes_of cs) s) (λ k.
    done k
    ∙ (ap (λ o. unwrap_or o (at key_cmp placed k)) (planned k)
    ∙ (ap (unwrap_or (last_at key_cmp k (changes_of cs))) (places k)
    ∙ (places_hidden (last_at key_cmp k (changes_of cs)) (has_new k cs) (at key_cmp rows k) (none_new cs k)
    ∙ sym (at-changed key_order rows (changes_of cs) k s)))))

-- what the changes make of the contents with their places is what they make of those before
pub all_made : (cs : List Change) (rows placed : Rows) → IsSorted key_cmp rows → IsSorted key_cmp placed
    → ((k : Key) → at key_cmp placed k ≡ (if has_new k cs then Some [] else at key_cmp rows k)) → changed key_cmp placed (changes_of cs) ≡ changed key_cmp rows (changes_of cs)
all_made cs rows placed s t places =
    same_maps key_order (changed key_cmp placed (changes_of cs)) (changed key_cmp rows (changes_of cs))
    (sorted-changed key_order placed (changes_of cs) t) (sorted-changed key_order rows (changes_of cs) s) (λ k.
    at-changed key_order placed (changes_of cs) k t
    ∙ (ap (unwrap_or (last_at key_cmp k (changes_of cs))) (places k)
    ∙ (places_hidden (last_at key_cmp k (changes_of cs)) (has_new k cs) (at key_cmp rows k) (none_new cs k)
    ∙ sym (at-changed key_order rows (changes_of cs) k s))))
