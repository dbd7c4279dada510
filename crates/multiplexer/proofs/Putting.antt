-- What is known of entries is known of what is put together of them.
use Rattle.std.specs.Prelude.{◌≡◌, ℕ, zero, suc, ◌+◌, ◌≤◌, true, false, cond, Bool, List, [], ◌∷◌, map, length, drop, slice_get, Option, Some, None, IfSome, refl}
use Rattle.std.specs.List.{AllByRecursion, insert}
use Rattle.std.specs.Ordering.{eq_by_cmp}
use Rattle.std.proofs.Common.{ap, sym, subst, ◌∙◌, arith}
use Rattle.std.proofs.lemmas.Option.{same_Some, none-some}
use Rattle.map_model.specs.Maps.{at, set}
use Rattle.map_model.specs.MapLaws.{at-put}
use Rattle.value_model.specs.Val.{Entries}
use Rattle.ejson_value.specs.declared.key.Key.{Key}
use Rattle.ejson_value.specs.Key.{key_cmp, key_order}
use Rattle.ejson_value.specs.Rows.{Rows}
use Rattle.known_texts.specs.Places.{Texts, text_at}
use Rattle.publication.specs.Cursors.{ACursors}
use Rattle.publication.specs.Published.{published}
use Rattle.multiplexer.specs.Joining.{put_news}
use Rattle.multiplexer.specs.Known.{IsKnown, AreKnown}
use Rattle.multiplexer.specs.Leading.{News, AreDifferences}
use Rattle.multiplexer.specs.Telling.{AnEntry, news_in, AreKnownFrom}
use Rattle.multiplexer.specs.Origins.{IsKnownAt}
use Rattle.multiplexer.specs.Parts.{AreNewKnown}
use Rattle.multiplexer.proofs.Joins.{at_put_news}
use Rattle.multiplexer.proofs.Soles.{both_none, known_same}

-- ---- lists

pub all_inserted : {A : Type 0} (P : A → Type 0) (xs : List A) (i : ℕ) (x : A) → AllByRecursion P xs → P x → AllByRecursion P (insert xs i x)
all_inserted P xs zero x all one = (one, all)
all_inserted P [] (suc i) x all one = (one, tt)
all_inserted P (y ∷ xs) (suc i) x all one = (all.0, all_inserted P xs i x all.1 one)

pub drop_next : {A : Type 0} (xs : List A) (place : ℕ) (x : A) → slice_get xs place ≡ Some x → drop place xs ≡ x ∷ drop (suc place) xs
drop_next [] place x is = absurd (none-some x is)
drop_next (y ∷ xs) zero x is = ap (λ z. z ∷ xs) (same_Some y x is)
drop_next (y ∷ xs) (suc place) x is = drop_next xs place x is

pub drop_more : {A : Type 0} (xs : List A) (place : ℕ) (x : A) → slice_get xs place ≡ Some x → drop place xs ≡ x ∷ drop (place + 1) xs
drop_more xs place x is = let next : suc place ≡ place + 1 = omega arith in drop_next xs place x is ∙ ap (λ n. x ∷ drop n xs) next

pub drop_all : {A : Type 0} (xs : List A) (place : ℕ) → length xs ≤ place → drop place xs ≡ []
drop_all [] zero le = refl
drop_all [] (suc place) le = refl
drop_all (x ∷ xs) zero le = absurd (omega (arith, le))
drop_all (x ∷ xs) (suc place) le = drop_all xs place (omega (arith, le))

-- ---- keys that are not named

-- a key that is not named after one more was put was not named before
pub not_named : (named : News) (key : Key) (doc : Option Entries) (other : Key) → at key_cmp (set key_cmp named key (Some doc)) other ≡ None → at key_cmp named other ≡ None
not_named named key doc other none = by (eq_by_cmp key_cmp other key) (sym (at-put key_order named key doc other) ∙ none)
  where
    by : (b : Bool) → cond b (Some doc) (at key_cmp named other) ≡ None → at key_cmp named other ≡ None
    by true e = cc e
    by false e = e

-- ---- texts of places

-- a text that is known is one of the news at its place
pub known_place : (before : Key → Option Entries) (news : News) (texts : Texts) (place : ℕ) (text : List ℕ) → AreKnown before news texts → text_at texts place ≡ Some text → IsKnownAt before news place text
known_place before news [] place text known is = absurd (none-some text is)
known_place before [] (x ∷ texts) place text known is = absurd known
known_place before (n ∷ news) (x ∷ texts) zero text known is = record { one = n; at = refl; known = subst (IsKnown before n) is known.0 }
known_place before (n ∷ news) (x ∷ texts) (suc place) text known is =
    let later = known_place before news texts place text known.1 is in
    record { one = later.one; at = later.at; known = later.known }

-- the text at a place, known or not
pub text_known_at : (before : Key → Option Entries) (news : News) (texts : Texts) (place : ℕ) (one : Key × Option Entries) → AreKnown before news texts → slice_get news place ≡ Some one → IsKnown before one (text_at texts place)
text_known_at before news [] place one known get = tt
text_known_at before [] (x ∷ texts) place one known get = absurd known
text_known_at before (n ∷ news) (x ∷ texts) zero one known get = subst (λ (m : Key × Option Entries). IsKnown before m x) (same_Some n one get) known.0
text_known_at before (n ∷ news) (x ∷ texts) (suc place) one known get = text_known_at before news texts place one known.1 get

-- a text that is known or none, at its place
pub if_known : (before : Key → Option Entries) (news : News) (place : ℕ) (one : Key × Option Entries) (text : Option (List ℕ)) → slice_get news place ≡ Some one → IsKnown before one text → IfSome text (IsKnownAt before news place)
if_known before news place one None get is = tt
if_known before news place one (Some text) get is = record { one = one; at = get; known = is }

pub if_known_at : (before : Key → Option Entries) (news : News) (texts : Texts) (place : ℕ) → AreKnown before news texts → IfSome (text_at texts place) (IsKnownAt before news place)
if_known_at before news texts place known = by (text_at texts place) refl
  where
    by : (text : Option (List ℕ)) → text_at texts place ≡ text → IfSome text (IsKnownAt before news place)
    by None is = tt
    by (Some text) is = known_place before news texts place text known is

-- ---- entries, one after another

module _ (cursors : ACursors) (C : ℕ → Rows) (before : Key → Option Entries) where
  -- what is shown at a key that is not named yet is what was shown before
  pub all_new : (from : ℕ) (named : News) (ones : List AnEntry) → ((key : Key) → at key_cmp named key ≡ None → before key ≡ published cursors (C from) key) → AreDifferences cursors C from (map news_in ones) → AreKnownFrom cursors C from ones →
      AreNewKnown before named ones
  all_new from named [] same differ known = tt
  all_new from named (one ∷ ones) same differ known = (
    λ place n get none. known_same (published cursors (C from)) before n (text_at one.texts place) (sym (same n.0 none)) (text_known_at (published cursors (C from)) (news_in one) one.texts place n known.0 get),
    all_new (suc from) (put_news named (news_in one)) ones (λ key none.
        let both = both_none (at key_cmp (news_in one) key) (at key_cmp named key) (sym (at_put_news named (news_in one) key differ.0.by_key) ∙ none) in
        same key both.1 ∙ differ.0.quiet key both.0) differ.1 known.1,
  )
