-- The answer made of what the cursors tell is the difference of what they publish.
use Rattle.std.proofs.Common.{◌≡◌, ℕ, Bool, true, false, cond, List, [], ◌∷◌, map, Option, None, Some, refl, ap, sym, subst, ◌∙◌}
use Rattle.std.specs.Prelude.{◌||◌, if◌then◌else◌}
use Rattle.std.specs.Option.{option_or}
use Rattle.std.specs.List.{AllByRecursion, list_any}
use Rattle.std.specs.Ordering.{is_eq, eq_by_cmp}
use Rattle.std.specs.Map.{keys_of}
use Rattle.std.proofs.lemmas.Option.{none-some, same_Some}
use Rattle.std.proofs.lemmas.Map.Keys.{sorted_tail}
use Rattle.std.proofs.lemmas.Slice.Eq.{bytes_eq-Decides}
use Rattle.map_model.specs.Maps.{at, set, IsSorted}
use Rattle.map_model.specs.MapLaws.{at-put, at-tail, sorted-put, sorted-nil, key_is}
use Rattle.value_model.specs.Val.{Entries}
use Rattle.value_model.specs.Size.{is_name}
use Rattle.value_model.specs.Order.{text_cmp}
use Rattle.ejson_value.specs.declared.key.Key.{Key}
use Rattle.ejson_value.specs.declared.change.Change.{Change}
use Rattle.ejson_value.specs.declared.change.Publish.{Publish}
use Rattle.ejson_value.specs.Key.{key_cmp, key_of, key_order, name_order}
use Rattle.ejson_value.specs.Rows.{Rows}
use Rattle.ejson_value.specs.Changes.{news_of}
use Rattle.sort_window.specs.Shown.{IsTold}
use Rattle.publication.specs.declared.cursor.Cursor.{Cursor}
use Rattle.publication.specs.Cursors.{ACursors, publishes, HaveDistinctNames}
use Rattle.publication.specs.Published.{published, published_by}
use Rattle.live_observer.specs.declared.watched.Watched.{Watched}
use Rattle.live_observer.specs.Observing.{AnObserver, cursors_of, StandsAt, Follows, IsDifference, IsStep, IsPlanOf, carried}
use Rattle.live_observer.specs.Noting.{seen}
use Rattle.live_observer.specs.Answering.{ToldMap, ToldOf, put_told, put_all, publish_of, Leading, IsToldBy, AreToldBy, plan_of}
use Rattle.live_observer.proofs.Matching.{own_name, same_collection}
use Rattle.live_observer.proofs.News.{other_key}

abbrev pub Told : Type 0
Told = List (List ℕ × Option Entries)

pub sorted_told : (name : List ℕ) (answer : ToldMap) (told : Told) → IsSorted key_cmp answer → IsSorted key_cmp (put_told name answer told)
sorted_told name answer [] s = s
sorted_told name answer (one ∷ told) s = sorted_told name (set key_cmp answer (key_of name one.0) (Some one.1)) told (sorted-put key_order answer (key_of name one.0) one.1 s)

-- under another name nothing is put
other_told : (name : List ℕ) (answer : ToldMap) (told : Told) (key : Key) → is_name name key.collection ≡ false → at key_cmp (put_told name answer told) key ≡ at key_cmp answer key
other_told name answer [] key other = refl
other_told name answer (one ∷ told) key other =
    let apart : eq_by_cmp key_cmp key (key_of name one.0) ≡ false =
    elim (eq_by_cmp key_cmp key (key_of name one.0)) as (λ b. eq_by_cmp key_cmp key (key_of name one.0) ≡ b → b ≡ false) [
      | true ↦ λ e.
          let is : key ≡ key_of name one.0 = key_is key_order key (key_of name one.0) e in
          let own : is_name name key.collection ≡ true = ap (λ (k : Key). is_name name k.collection) is ∙ own_name name in
          cc
      | false ↦ λ e. refl
    ] refl in
    other_told name (set key_cmp answer (key_of name one.0) (Some one.1)) told key other
    ∙ at-put key_order answer (key_of name one.0) one.1 key
    ∙ ap (λ b. cond b (Some one.1) (at key_cmp answer key)) apart

own_told : (name : List ℕ) (answer : ToldMap) (told : Told) (key : Key) → key.collection ≡ name → IsSorted text_cmp told → at key_cmp (put_told name answer told) key ≡ option_or (at text_cmp told key.id) (at key_cmp answer key)
own_told name answer [] key of s = refl
own_told name answer (one ∷ told) key of s =
    let before = at key_cmp answer key in
    let rest = own_told name (set key_cmp answer (key_of name one.0) (Some one.1)) told key of (sorted_tail text_cmp _ _ s) in
    let same : eq_by_cmp key_cmp key (key_of name one.0) ≡ eq_by_cmp text_cmp key.id one.0 = ap is_eq (same_collection name key (key_of name one.0) of refl) in
    rest ∙ ap (option_or (at text_cmp told key.id)) (at-put key_order answer (key_of name one.0) one.1 key ∙ ap (λ b. cond b (Some one.1) before) same)
    ∙ elim (eq_by_cmp text_cmp key.id one.0)
    as (λ b. eq_by_cmp text_cmp key.id one.0 ≡ b → option_or (at text_cmp told key.id) (cond b (Some one.1) before) ≡ option_or (cond b (Some one.1) (at text_cmp told key.id)) before) [
      | true ↦ λ e. ap (λ w. option_or w (Some one.1)) (at-tail name_order one told key.id s e)
      | false ↦ λ e. refl
    ] refl

either_no : (a b : Bool) → (a || b) ≡ false → (a ≡ false) × (b ≡ false)
either_no true b e = cc
either_no false b e = (refl, e)

none_published : (cursors : ACursors) (rows : Rows) (key : Key) → publishes cursors key.collection ≡ false → published cursors rows key ≡ None
none_published [] rows key none = refl
none_published (cursor ∷ cursors) rows key none =
    let both = either_no (is_name cursor.name key.collection) (publishes cursors key.collection) none in
    ap (λ o. option_or o (published_by cursor rows key)) (none_published cursors rows key both.1)
    ∙ ap (λ b. if b then seen cursor rows key.id else None) both.0

-- what is told at a key, by what was seen there and what is
abbrev Says : Option Entries → Option Entries → Option (Option Entries) → Type 0
Says old new told = (told ≡ None → old ≡ new) × ((doc : Option Entries) → told ≡ Some doc → (doc ≡ new) × (old ≡ new → ⊥))

or_none : (w : Option (Option Entries)) → option_or w None ≡ w
or_none None = refl
or_none (Some w) = refl

keeps : (o : Option Entries) → option_or o None ≡ o
keeps None = refl
keeps (Some d) = refl

module _ (changes : List Change) (rows rows' : Rows) where
  abbrev AllLead : AnObserver → Type 0
  AllLead watched = AllByRecursion (λ (w : Watched). Leading w changes rows rows') watched

  pub sorted_all : (answer : ToldMap) (all : List ToldOf) → IsSorted key_cmp answer → IsSorted key_cmp (put_all answer all)
  sorted_all answer [] s = s
  sorted_all answer (one ∷ all) s = sorted_all (put_told one.name answer one.told) all (sorted_told one.name answer one.told s)

  -- under a name of none of the cursors nothing is put
  none_told : (watched : AnObserver) (all : List ToldOf) (answer : ToldMap) (key : Key) → AreToldBy watched changes all → publishes (cursors_of watched) key.collection ≡ false → at key_cmp (put_all answer all) key ≡ at key_cmp answer key
  none_told [] [] answer key told none = refl
  none_told [] (one ∷ all) answer key told none = absurd told
  none_told (w ∷ watched) [] answer key told none = absurd told
  none_told (w ∷ watched) (one ∷ all) answer key told none =
      let both = either_no (is_name w.cursor.name key.collection) (publishes (cursors_of watched) key.collection) none in
      none_told watched all (put_told one.name answer one.told) key told.1 both.1
      ∙ other_told one.name answer one.told key (ap (λ n. is_name n key.collection) told.0.name ∙ both.0)

  all_say : (watched : AnObserver) (all : List ToldOf) (answer : ToldMap) (key : Key) → HaveDistinctNames (cursors_of watched) → AllLead watched → AreToldBy watched changes all → at key_cmp answer key ≡ None →
      Says (published (cursors_of watched) rows key) (published (cursors_of watched) rows' key) (at key_cmp (put_all answer all) key)
  all_say [] [] answer key d lead told none = (λ e. refl, λ doc e. absurd (none-some doc (sym none ∙ e)))
  all_say [] (one ∷ all) answer key d lead told none = absurd told
  all_say (w ∷ watched) [] answer key d lead told none = absurd told
  all_say (w ∷ watched) (one ∷ all) answer key d lead told none =
      let cursors = cursors_of watched in
      let put = put_told one.name answer one.told in
      let seen_in = λ (r : Rows) (b : Bool). option_or (published cursors r key) (if b then seen w.cursor r key.id else None) in
      elim (is_name w.cursor.name key.collection)
      as (λ b. is_name w.cursor.name key.collection ≡ b → Says (seen_in rows b) (seen_in rows' b) (at key_cmp (put_all put all) key)) [
        | true ↦ λ own.
            let is : w.cursor.name ≡ key.collection = (bytes_eq-Decides w.cursor.name key.collection).0 own in
            let others : publishes cursors key.collection ≡ false = ap (publishes cursors) (sym is) ∙ d.0 in
            let tells = told.0.tells rows rows' lead.0 in
            let at_key = none_told watched all put key told.1 others
            ∙ own_told one.name answer one.told key (sym (told.0.name ∙ is)) tells.by_id
            ∙ ap (option_or (at text_cmp one.told key.id)) none
            ∙ or_none (at text_cmp one.told key.id) in
            let was = ap (λ o. option_or o (seen w.cursor rows key.id)) (none_published cursors rows key others) in
            let will = ap (λ o. option_or o (seen w.cursor rows' key.id)) (none_published cursors rows' key others) in (
              λ e. was ∙ tells.quiet key.id (sym at_key ∙ e) ∙ sym will,
              λ doc e. let both = tells.news key.id doc (sym at_key ∙ e) in (both.0 ∙ sym will, λ same. both.1 (sym was ∙ same ∙ will)),
            )
        | false ↦ λ other.
            let rest = all_say watched all put key d.1 lead.1 told.1 (other_told one.name answer one.told key (ap (λ n. is_name n key.collection) told.0.name ∙ other) ∙ none) in
            let was = keeps (published cursors rows key) in
            let will = keeps (published cursors rows' key) in (
              λ e. was ∙ rest.0 e ∙ sym will,
              λ doc e. let both = rest.1 doc e in (both.0 ∙ sym will, λ same. both.1 (sym was ∙ same ∙ will)),
            )
      ] refl

all_lead : (watched : AnObserver) (changes : List Change) (rows rows' : Rows) → Follows watched changes rows rows' → AllByRecursion (λ (w : Watched). Leading w changes rows rows') watched
all_lead [] changes rows rows' f = tt
all_lead (w ∷ watched) changes rows rows' f = (
  record { by_key = f.by_key; stands = f.stands.0; leads = f.leads },
  all_lead watched changes rows rows' (record { by_key = f.by_key; stands = f.stands.1; leads = f.leads }),
)

all_land : (watched : AnObserver) (all : List ToldOf) (changes : List Change) (rows rows' : Rows) → AreToldBy watched changes all → AllByRecursion (λ (w : Watched). Leading w changes rows rows') watched → StandsAt (carried watched (plan_of all)) rows'
all_land [] [] changes rows rows' told lead = tt
all_land [] (one ∷ all) changes rows rows' told lead = absurd told
all_land (w ∷ watched) [] changes rows rows' told lead = absurd told
all_land (w ∷ watched) (one ∷ all) changes rows rows' told lead = (told.0.lands rows rows' lead.0, all_land watched all changes rows rows' told.1 lead.1)

pub news_published : (told : ToldMap) → news_of (map publish_of told) ≡ told
news_published [] = refl
news_published (one ∷ told) = ap (λ rest. one ∷ rest) (news_published told)

-- the step of the cursors
pub is_step : (watched : AnObserver) (all : List ToldOf) (changes : List Change) (rows rows' : Rows) → HaveDistinctNames (cursors_of watched) → AreToldBy watched changes all → Follows watched changes rows rows' →
    IsStep watched rows rows' (put_all [] all) (plan_of all)
is_step watched all changes rows rows' d told f =
    let lead = all_lead watched changes rows rows' f in
    let says = λ (key : Key). all_say changes rows rows' watched all [] key d lead told refl in
    record {
      differs = record {
        by_key = sorted_all changes rows rows' [] all (sorted-nil key_cmp);
        quiet = λ key e. (says key).0 e;
        news = λ key doc e. (says key).1 doc e;
      };
      lands = all_land watched all changes rows rows' told lead;
    }

pub is_plan : (watched : AnObserver) (all : List ToldOf) (changes : List Change) → AreToldBy watched changes all → IsPlanOf watched (plan_of all)
is_plan [] [] changes told = tt
is_plan [] (one ∷ all) changes told = absurd told
is_plan (w ∷ watched) [] changes told = absurd told
is_plan (w ∷ watched) (one ∷ all) changes told = (told.0.fits, is_plan watched all changes told.1)
