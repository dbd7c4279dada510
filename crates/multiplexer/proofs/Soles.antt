-- What is known of a span is known of the entry that alone names a key.
use Rattle.std.specs.Prelude.{◌≡◌, ℕ, zero, suc, ◌+◌, ◌-◌, ◌≤◌, ◌<◌, true, false, cond, Bool, List, [], ◌∷◌, ◌++◌, map, length, take, drop, slice_get, slice_set, Option, Some, None, is_some, unwrap_or, option_map, if◌then◌else◌, refl}
use Rattle.std.specs.Option.{option_or}
use Rattle.std.specs.Ordering.{eq_by_cmp, is_eq}
use Rattle.std.specs.Arc.{arc_value}
use Rattle.std.specs.Map.{keys_of}
use Rattle.std.proofs.Common.{ap, ap₂, sym, subst, ◌∙◌, arith}
use Rattle.std.proofs.lemmas.Option.{same_Some, none-some, slice_get-map}
use Rattle.std.proofs.lemmas.List.{length-map, drop-map, take-map}
use Rattle.std.proofs.lemmas.Map.Keys.{sorted_tail}
use Rattle.map_model.specs.Maps.{at, IsSorted}
use Rattle.map_model.specs.MapLaws.{eq_by_cmp-self, at-tail}
use Rattle.map_model.specs.Orders.{IsAbove}
use Rattle.value_model.specs.Val.{Entries}
use Rattle.ejson_value.specs.declared.key.Key.{Key}
use Rattle.ejson_value.specs.declared.change.Publish.{Publish}
use Rattle.ejson_value.specs.Key.{key_cmp, key_order}
use Rattle.ejson_value.specs.Rows.{Rows}
use Rattle.ejson_value.specs.Changes.{news_of}
use Rattle.known_texts.specs.Places.{Texts, text_at, is_open, put_text}
use Rattle.publication.specs.Cursors.{ACursors}
use Rattle.publication.specs.Published.{published}
use Rattle.live_observer.specs.Observing.{IsDifference}
use Rattle.multiplexer.specs.declared.entry.Told.{Told}
use Rattle.multiplexer.specs.declared.origins.Origin.{Origin}
use Rattle.multiplexer.specs.Inside.{seen_entry}
use Rattle.multiplexer.specs.Joining.{key_at, IsBelow}
use Rattle.multiplexer.specs.Known.{IsSeenAs, IsKnown, AreKnown}
use Rattle.multiplexer.specs.Leading.{News, last_said, IsLead, AreDifferences}
use Rattle.multiplexer.specs.LeadingLaws.{said_leads, differ_behind, differ_first}
use Rattle.multiplexer.specs.Telling.{AnEntry, news_in, AreKnownFrom}
use Rattle.multiplexer.specs.Origins.{AreByKey, IsSole, IsSoleIn, IsKnownAt, AreTaught}

-- ---- keys at places

tail_at : (e : Key × Option Entries) (news : News) (key : Key) (doc : Option Entries) → IsSorted key_cmp (e ∷ news) → at key_cmp news key ≡ Some doc → at key_cmp (e ∷ news) key ≡ Some doc
tail_at e news key doc s is = elim (eq_by_cmp key_cmp key e.0) as (λ b. eq_by_cmp key_cmp key e.0 ≡ b → cond b (Some e.1) (at key_cmp news key) ≡ Some doc) [
  | true ↦ λ t. absurd (none-some doc (sym (at-tail key_order e news key s t) ∙ is))
  | false ↦ λ _. is
] refl

head_at : (e : Key × Option Entries) (news : News) (key : Key) → e.0 ≡ key → at key_cmp (e ∷ news) key ≡ Some e.1
head_at e news key same = ap (λ (b : Bool). cond b (Some e.1) (at key_cmp news key)) (subst (λ k. eq_by_cmp key_cmp key k ≡ true) (sym same) (eq_by_cmp-self key_order key))

-- the document there
pub record IsThere (news : News) (place : ℕ) (key : Key) : Type 0 where
  pub doc : Option Entries
  pub get : slice_get news place ≡ Some (key, doc)
  pub at : at key_cmp news key ≡ Some doc

pub there : (news : News) (place : ℕ) (key : Key) → IsSorted key_cmp news → key_at news place ≡ Some key → IsThere news place key
there [] place key s is = absurd (none-some key is)
there (e ∷ news) zero key s is =
    let same : e.0 ≡ key = same_Some e.0 key is in
    record { doc = e.1; get = ap (λ k. Some (k, e.1)) same; at = head_at e news key same }
there (e ∷ news) (suc place) key s is =
    let later = there news place key (sorted_tail _ _ _ s) is in
    record { doc = later.doc; get = later.get; at = tail_at e news key later.doc s later.at }

pub at_place : (news : News) (place : ℕ) (one : Key × Option Entries) → IsSorted key_cmp news → slice_get news place ≡ Some one → at key_cmp news one.0 ≡ Some one.1
at_place [] place one s is = absurd (none-some one is)
at_place (e ∷ news) zero one s is = let same : e ≡ one = same_Some e one is in subst (λ (x : Key × Option Entries). at key_cmp (e ∷ news) x.0 ≡ Some x.1) same (head_at e news e.0 refl)
at_place (e ∷ news) (suc place) one s is = tail_at e news one.0 one.1 s (at_place news place one (sorted_tail _ _ _ s) is)

-- the key is not there
pub not_there : (news : News) (place : ℕ) (key : Key) → IsAbove key_cmp key (take place (keys_of news)) → IsBelow key (drop place (keys_of news)) → at key_cmp news key ≡ None
not_there [] place key above below = refl
not_there (e ∷ news) zero key above below = ap (λ o. cond (is_eq o) (Some e.1) (at key_cmp news key)) below.0 ∙ not_there news zero key tt below.1
not_there (e ∷ news) (suc place) key above below = ap (λ o. cond (is_eq o) (Some e.1) (at key_cmp news key)) above.0 ∙ not_there news place key above.1 below

-- ---- entries at places

take_next : {A : Type 0} (xs : List A) (place : ℕ) (x : A) → slice_get xs place ≡ Some x → take (suc place) xs ≡ take place xs ++ x ∷ []
take_next [] place x is = absurd (none-some x is)
take_next (y ∷ xs) zero x is = ap (λ z. z ∷ []) (same_Some y x is)
take_next (y ∷ xs) (suc place) x is = ap (λ zs. y ∷ zs) (take_next xs place x is)

take_more : {A : Type 0} (xs : List A) (place : ℕ) (x : A) → slice_get xs place ≡ Some x → take (place + 1) xs ≡ take place xs ++ x ∷ []
take_more xs place x is = let next : place + 1 ≡ suc place = omega arith in ap (λ n. take n xs) next ∙ take_next xs place x is

taken_many : {A : Type 0} (xs : List A) (place : ℕ) (x : A) → slice_get xs place ≡ Some x → length (take place xs) ≡ place
taken_many [] place x is = absurd (none-some x is)
taken_many (y ∷ xs) zero x is = refl
taken_many (y ∷ xs) (suc place) x is = ap suc (taken_many xs place x is)

-- ---- the entry that alone names a key

pub both_none : (a b : Option (Option Entries)) → option_or a b ≡ None → (a ≡ None) × (b ≡ None)
both_none None b e = (refl, e)
both_none (Some d) b e = cc e

said_more : (ones : List AnEntry) (one : AnEntry) (key : Key) → last_said (map news_in ones) key ≡ None → at key_cmp (news_in one) key ≡ None → last_said (map news_in (ones ++ one ∷ [])) key ≡ None
said_more [] one key said none = none
said_more (first ∷ ones) one key said none =
    let both = both_none (last_said (map news_in ones) key) (at key_cmp (news_in first) key) said in
    ap₂ option_or (said_more ones one key both.0 none) both.1

sole_more : (ones : List AnEntry) (one : AnEntry) (key : Key) (entry place : ℕ) → IsSole ones key entry place → at key_cmp (news_in one) key ≡ None → IsSole (ones ++ one ∷ []) key entry place
sole_more [] one key entry place sole none = absurd sole
sole_more (first ∷ ones) one key zero place sole none = (sole.0, said_more ones one key sole.1 none)
sole_more (first ∷ ones) one key (suc entry) place sole none = (sole.0, sole_more ones one key entry place sole.1 none)

-- one entry more that does not name it
pub still_sole : (ones : List AnEntry) (one : AnEntry) (key : Key) (o : Option Origin) → IsSoleIn ones key o → at key_cmp (news_in one) key ≡ None → IsSoleIn (ones ++ one ∷ []) key o
still_sole ones one key None said none = said_more ones one key said none
still_sole ones one key (Some o) sole none = sole_more ones one key o.entry o.place sole none

-- one entry more that does, where none did
sole_new : (ones : List AnEntry) (one : AnEntry) (key : Key) (place : ℕ) → last_said (map news_in ones) key ≡ None → key_at (news_in one) place ≡ Some key → IsSole (ones ++ one ∷ []) key (length ones) place
sole_new [] one key place said is = (is, refl)
sole_new (first ∷ ones) one key place said is =
    let both = both_none (last_said (map news_in ones) key) (at key_cmp (news_in first) key) said in
    (both.1, sole_new ones one key place both.0 is)

-- none named it so far
pub said_none : (ones : List AnEntry) (key : Key) (o : Option Origin) → IsSoleIn ones key o → is_some o ≡ false → last_said (map news_in ones) key ≡ None
said_none ones key None said none = said
said_none ones key (Some o) said none = cc none

-- one entry more of a list, of which a search for the key is made
module _ (all : List AnEntry) (entry : ℕ) (one : AnEntry) (is : slice_get all entry ≡ Some one) (key : Key) where
  pub first_sole : (place : ℕ) → last_said (map news_in (take entry all)) key ≡ None → key_at (news_in one) place ≡ Some key → IsSole (take (entry + 1) all) key entry place
  first_sole place said names =
      subst (λ (ones : List AnEntry). IsSole ones key entry place) (sym (take_more all entry one is))
      (subst (λ n. IsSole (take entry all ++ one ∷ []) key n place) (taken_many all entry one is) (sole_new (take entry all) one key place said names))

  pub sole_stays : (o : Option Origin) → IsSoleIn (take entry all) key o → at key_cmp (news_in one) key ≡ None → IsSoleIn (take (entry + 1) all) key o
  sole_stays o sole none = subst (λ (ones : List AnEntry). IsSoleIn ones key o) (sym (take_more all entry one is)) (still_sole (take entry all) one key o sole none)

-- ---- texts at places

pub known_at : (before : Key → Option Entries) (news : News) (texts : Texts) (place : ℕ) (one : Key × Option Entries) (text : List ℕ) → AreKnown before news texts → slice_get news place ≡ Some one → text_at texts place ≡ Some text → IsKnown before one (Some text)
known_at before news [] place one text known get is = absurd (none-some text is)
known_at before [] (x ∷ texts) place one text known get is = absurd known
known_at before (n ∷ news) (x ∷ texts) zero one text known get is = subst (λ (m : Key × Option Entries). IsKnown before m (Some text)) (same_Some n one get) (subst (IsKnown before n) is known.0)
known_at before (n ∷ news) (x ∷ texts) (suc place) one text known get is = known_at before news texts place one text known.1 get is

-- the document of a publish is what is led to
pub ends_there : (before after : Key → Option Entries) (news : News) (place : ℕ) (one : Key × Option Entries) → slice_get news place ≡ Some one → IsLead before after news → one.1 ≡ after one.0
ends_there before after news place one get lead = sym (ap (λ (o : Option (Option Entries)). unwrap_or o (before one.0)) (at_place news place one lead.by_key get)) ∙ lead.leads one.0

set_known : (before : Key → Option Entries) (news : News) (texts : Texts) (place : ℕ) (one : Key × Option Entries) (text : List ℕ) → AreKnown before news texts → slice_get news place ≡ Some one → IsKnown before one (Some text) →
    AreKnown before news (slice_set texts place (Some text))
set_known before news [] place one text known get is = tt
set_known before [] (x ∷ texts) place one text known get is = absurd known
set_known before (n ∷ news) (x ∷ texts) zero one text known get is = (subst (λ (m : Key × Option Entries). IsKnown before m (Some text)) (sym (same_Some n one get)) is, known.1)
set_known before (n ∷ news) (x ∷ texts) (suc place) one text known get is = (known.0, set_known before news texts place one text known.1 get is)

-- one text more is known
pub put_known : (before : Key → Option Entries) (news : News) (texts : Texts) (place : ℕ) (one : Key × Option Entries) (text : List ℕ) → AreKnown before news texts → slice_get news place ≡ Some one → IsKnown before one (Some text) →
    AreKnown before news (put_text texts place text)
put_known before news texts place one text known get is =
    elim (is_open texts place) as (λ b. AreKnown before news (if b then slice_set texts place (Some text) else texts)) [ true ↦ set_known before news texts place one text known get is | false ↦ known ]

pub known_same : (before other : Key → Option Entries) (one : Key × Option Entries) (text : Option (List ℕ)) → before one.0 ≡ other one.0 → IsKnown before one text → IsKnown other one text
known_same before other one None same known = tt
known_same before other one (Some text) same known = λ seen is. known seen (subst (IsSeenAs seen) (sym same) is)

-- ---- an entry and the span

module _ (cursors : ACursors) (C : ℕ → Rows) where
  abbrev pub shows : ℕ → Key → Option Entries
  shows n = published cursors (C n)

  further : (from n : ℕ) → suc from + n ≡ from + suc n
  further from n = omega arith

  pub by_key_of : (from : ℕ) (ones : List AnEntry) → AreDifferences cursors C from (map news_in ones) → AreByKey ones
  by_key_of from [] differ = tt
  by_key_of from (one ∷ ones) differ = (differ.0.by_key, by_key_of (suc from) ones differ.1)

  -- a key that the entries do not name is shown after them as before
  stays : (from : ℕ) (ones : List AnEntry) (key : Key) → AreDifferences cursors C from (map news_in ones) → last_said (map news_in ones) key ≡ None → shows from key ≡ shows (from + length ones) key
  stays from ones key differ said =
      sym (ap (λ (o : Option (Option Entries)). unwrap_or o (shows from key)) said) ∙ (said_leads cursors C from (map news_in ones) key differ ∙ ap (λ n. shows (from + n) key) (length-map ones news_in))

  -- it says of the key what the span says
  says_same : (from : ℕ) (one : AnEntry) (ones : List AnEntry) (key : Key) (place : ℕ) (doc : Option Entries) → IsDifference (shows from) (shows (suc from)) (news_in one) → AreDifferences cursors C (suc from) (map news_in ones) →
      (t : IsThere (news_in one) place key) → last_said (map news_in ones) key ≡ None → doc ≡ shows (from + suc (length ones)) key → t.doc ≡ doc
  says_same from one ones key place doc d ds t said ends = (d.news key t.doc t.at).0 ∙ (stays (suc from) ones key ds said ∙ (ap (λ n. shows n key) (further from (length ones)) ∙ sym ends))

  -- a text that is known of the span is known of it
  pub known_sole : (from : ℕ) (ones : List AnEntry) (key : Key) (entry place : ℕ) (doc : Option Entries) (text : List ℕ) (one : AnEntry) → AreDifferences cursors C from (map news_in ones) → IsSole ones key entry place →
      doc ≡ shows (from + length ones) key → IsKnown (shows from) (key, doc) (Some text) → slice_get ones entry ≡ Some one → IsKnownAt (shows (from + entry)) (news_in one) place text
  known_sole from [] key entry place doc text one differ sole ends is get = absurd sole
  known_sole from (first ∷ ones) key zero place doc text one differ sole ends is get =
      let t = there (news_in first) place key differ.0.by_key sole.0 in
      let here : from ≡ from + 0 = omega arith in
      let known = subst (λ (d : Option Entries). IsKnown (shows from) (key, d) (Some text)) (sym (says_same from first ones key place doc differ.0 differ.1 t sole.1 ends)) is in
      subst (λ (e : AnEntry). IsKnownAt (shows (from + 0)) (news_in e) place text) (same_Some first one get)
      (subst (λ n. IsKnownAt (shows n) (news_in first) place text) here (record { one = (key, t.doc); at = t.get; known = known }))
  known_sole from (first ∷ ones) key (suc entry) place doc text one differ sole ends is get =
      subst (λ n. IsKnownAt (shows n) (news_in one) place text) (further from entry)
      (known_sole (suc from) ones key entry place doc text one differ.1 sole.1 (ends ∙ ap (λ n. shows n key) (sym (further from (length ones))))
      (known_same (shows from) (shows (suc from)) (key, doc) (Some text) (differ.0.quiet key sole.0) is) get)

  -- ---- entries in a list

  -- the entry at a place has other texts
  pub known_with_texts : (from : ℕ) (ones : List AnEntry) (entry : ℕ) (one new : AnEntry) → AreKnownFrom cursors C from ones → slice_get ones entry ≡ Some one → AreKnown (shows (from + entry)) (news_in new) new.texts → AreKnownFrom cursors C from (slice_set ones entry new)
  known_with_texts from [] entry one new known at is = tt
  known_with_texts from (first ∷ ones) zero one new known at is = let here : from + 0 ≡ from = omega arith in (subst (λ n. AreKnown (shows n) (news_in new) new.texts) here is, known.1)
  known_with_texts from (first ∷ ones) (suc entry) one new known at is =
      (known.0, known_with_texts (suc from) ones entry one new known.1 at (subst (λ n. AreKnown (shows n) (news_in new) new.texts) (sym (further from entry)) is))

  pub known_there : (from : ℕ) (ones : List AnEntry) (entry : ℕ) (one : AnEntry) → AreKnownFrom cursors C from ones → slice_get ones entry ≡ Some one → AreKnown (shows (from + entry)) (news_in one) one.texts
  known_there from [] entry one known get = absurd (none-some one get)
  known_there from (first ∷ ones) zero one known get =
      let here : from ≡ from + 0 = omega arith in
      subst (λ (e : AnEntry). AreKnown (shows (from + 0)) (news_in e) e.texts) (same_Some first one get) (subst (λ n. AreKnown (shows n) (news_in first) first.texts) here known.0)
  known_there from (first ∷ ones) (suc entry) one known get =
      subst (λ n. AreKnown (shows n) (news_in one) one.texts) (further from entry) (known_there (suc from) ones entry one known.1 get)

  -- one entry more
  pub known_with_one : (from : ℕ) (ones : List AnEntry) (one : AnEntry) → AreKnownFrom cursors C from ones → AreKnown (shows (from + length ones)) (news_in one) one.texts → AreKnownFrom cursors C from (ones ++ one ∷ [])
  known_with_one from [] one known is = let here : from + 0 ≡ from = omega arith in (subst (λ n. AreKnown (shows n) (news_in one) one.texts) here is, tt)
  known_with_one from (first ∷ ones) one known is = (known.0, known_with_one (suc from) ones one known.1 (subst (λ n. AreKnown (shows n) (news_in one) one.texts) (sym (further from (length ones))) is))

  -- some of them
  pub known_behind : (n from : ℕ) (ones : List AnEntry) → AreKnownFrom cursors C from ones → AreKnownFrom cursors C (from + n) (drop n ones)
  known_behind zero from ones known = let here : from ≡ from + 0 = omega arith in subst (λ p. AreKnownFrom cursors C p ones) here known
  known_behind (suc n) from [] known = tt
  known_behind (suc n) from (one ∷ ones) known = subst (λ p. AreKnownFrom cursors C p (drop n ones)) (further from n) (known_behind n (suc from) ones known.1)

  pub known_first : (n from : ℕ) (ones : List AnEntry) → AreKnownFrom cursors C from ones → AreKnownFrom cursors C from (take n ones)
  known_first zero from ones known = tt
  known_first (suc n) from [] known = tt
  known_first (suc n) from (one ∷ ones) known = (known.0, known_first n (suc from) ones known.1)

-- the news of an entry stay, whatever texts it has
pub news_stay : (ones : List AnEntry) (entry : ℕ) (one new : AnEntry) → slice_get ones entry ≡ Some one → new.told ≡ one.told → map news_in (slice_set ones entry new) ≡ map news_in ones
news_stay [] entry one new get same = refl
news_stay (first ∷ ones) zero one new get same = ap (λ (told : List Publish). news_of told ∷ map news_in ones) (same ∙ sym (ap (λ (e : AnEntry). e.told) (same_Some first one get)))
news_stay (first ∷ ones) (suc entry) one new get same = ap (λ (rest : List News). news_in first ∷ rest) (news_stay ones entry one new get same)

-- what stands in a list stands in some of it
first_get : {A : Type 0} (xs : List A) (many place : ℕ) (x : A) → slice_get xs place ≡ Some x → place < many → slice_get (take many xs) place ≡ Some x
first_get xs zero place x get near = absurd (omega (arith, near))
first_get [] (suc many) place x get near = absurd (none-some x get)
first_get (y ∷ xs) (suc many) zero x get near = get
first_get (y ∷ xs) (suc many) (suc place) x get near = first_get xs many place x get (omega (arith, near))

pub some_get : {A : Type 0} (xs : List A) (start many place : ℕ) (x : A) → slice_get xs (start + place) ≡ Some x → place < many → slice_get (take many (drop start xs)) place ≡ Some x
some_get xs zero many place x get near =
    let here : 0 + place ≡ place = omega arith in
    first_get xs many place x (subst (λ n. slice_get xs n ≡ Some x) here get) near
some_get [] (suc start) many place x get near = absurd (none-some x get)
some_get (y ∷ xs) (suc start) many place x get near =
    let next : suc start + place ≡ suc (start + place) = omega arith in
    some_get xs start many place x (subst (λ n. slice_get (y ∷ xs) n ≡ Some x) next get) near

-- ---- entries as they are kept

-- how many of the entries
pub some_many : {A : Type 0} (n k : ℕ) (xs : List A) → k + n ≤ length xs → length (take n (drop k xs)) ≡ n
some_many zero zero xs fits = refl
some_many (suc n) zero [] fits = absurd (omega (arith, fits))
some_many (suc n) zero (x ∷ xs) fits = ap suc (some_many n zero xs (omega (arith, fits)))
some_many n (suc k) [] fits = absurd (omega (arith, fits))
some_many n (suc k) (x ∷ xs) fits = some_many n k xs (omega (arith, fits))

pub set_mapped : {A B : Type 0} (f : A → B) (xs : List A) (i : ℕ) (x : A) → map f (slice_set xs i x) ≡ slice_set (map f xs) i (f x)
set_mapped f [] i x = refl
set_mapped f (y ∷ xs) zero x = refl
set_mapped f (y ∷ xs) (suc i) x = ap (λ zs. f y ∷ zs) (set_mapped f xs i x)

pub some_mapped : {A B : Type 0} (f : A → B) (n k : ℕ) (xs : List A) → take n (drop k (map f xs)) ≡ map f (take n (drop k xs))
some_mapped f n k xs = ap (take n) (drop-map f k xs) ∙ take-map f n (drop k xs)

module _ (cursors : ACursors) (C : ℕ → Rows) where
  entries_behind : (n from : ℕ) (ones : List AnEntry) → AreDifferences cursors C from (map news_in ones) → AreDifferences cursors C (from + n) (map news_in (drop n ones))
  entries_behind n from ones told = subst (AreDifferences cursors C (from + n)) (drop-map news_in n ones) (differ_behind cursors C n from (map news_in ones) told)

  entries_first : (n from : ℕ) (ones : List AnEntry) → AreDifferences cursors C from (map news_in ones) → AreDifferences cursors C from (map news_in (take n ones))
  entries_first n from ones told = subst (AreDifferences cursors C from) (take-map news_in n ones) (differ_first cursors C n from (map news_in ones) told)

  -- some of them
  pub taught_some : (first start count : ℕ) (xs : List Told) → AreTaught cursors C first (map seen_entry xs) → AreTaught cursors C (first + start) (map seen_entry (take count (drop start xs)))
  taught_some first start count xs taught =
      let ones = map seen_entry xs in
      subst (AreTaught cursors C (first + start)) (some_mapped seen_entry count start xs) (record {
        each = entries_first count (first + start) (drop start ones) (entries_behind start first ones taught.each);
        known = known_first cursors C count (first + start) (drop start ones) (known_behind cursors C start first ones taught.known);
      })

  pub taught_known : (first entry : ℕ) (xs : List Told) (x : Told) → AreTaught cursors C first (map seen_entry xs) → slice_get xs entry ≡ Some x → AreKnown (published cursors (C (first + entry))) (news_in (seen_entry x)) x.texts
  taught_known first entry xs x taught get = known_there cursors C first (map seen_entry xs) entry (seen_entry x) taught.known (slice_get-map seen_entry xs entry ∙ ap (option_map seen_entry) get)

  -- one of them has other texts
  pub taught_with : (first entry : ℕ) (xs : List Told) (x new : Told) → AreTaught cursors C first (map seen_entry xs) → slice_get xs entry ≡ Some x → arc_value new.news ≡ arc_value x.news →
      AreKnown (published cursors (C (first + entry))) (news_in (seen_entry new)) new.texts → AreTaught cursors C first (map seen_entry (slice_set xs entry new))
  taught_with first entry xs x new taught get same known =
      let ones = map seen_entry xs in
      let there : slice_get ones entry ≡ Some (seen_entry x) = slice_get-map seen_entry xs entry ∙ ap (option_map seen_entry) get in
      subst (AreTaught cursors C first) (sym (set_mapped seen_entry xs entry new)) (record {
        each = subst (AreDifferences cursors C first) (sym (news_stay ones entry (seen_entry x) (seen_entry new) there same)) taught.each;
        known = known_with_texts cursors C first ones entry (seen_entry x) (seen_entry new) taught.known there known;
      })

  -- the entry that alone names the key of some of them learns a text that is known of these
  pub taught_sole : (first start end : ℕ) (xs : List Told) (key : Key) (entry place : ℕ) (doc : Option Entries) (text : List ℕ) (x : Told) → start ≤ end → end ≤ length xs → AreTaught cursors C first (map seen_entry xs) →
      IsSole (map seen_entry (take (end - start) (drop start xs))) key entry place → doc ≡ published cursors (C (first + end)) key → IsKnown (published cursors (C (first + start))) (key, doc) (Some text) → slice_get xs (start + entry) ≡ Some x → entry < end - start →
      IsKnownAt (published cursors (C (first + (start + entry)))) (news_in (seen_entry x)) place text
  taught_sole first start end xs key entry place doc text x order within taught sole ends known get near =
      let some = take (end - start) (drop start xs) in
      let ones = map seen_entry some in
      let many : length some ≡ end - start = some_many (end - start) start xs (omega (arith, order, within)) in
      let size : first + end ≡ (first + start) + length ones = omega (arith, order, many, length-map some seen_entry) in
      let further : (first + start) + entry ≡ first + (start + entry) = omega arith in
      subst (λ n. IsKnownAt (published cursors (C n)) (news_in (seen_entry x)) place text) further
      (known_sole cursors C (first + start) ones key entry place doc text (seen_entry x) (taught_some first start (end - start) xs taught).each sole (ends ∙ ap (λ n. published cursors (C n) key) size) known
      (slice_get-map seen_entry some entry ∙ ap (option_map seen_entry) (some_get xs start (end - start) entry x get near)))
