-- What several entries tell, put together key by key, is what is said last of each key.
use Rattle.std.specs.Prelude.{◌≡◌, ◌+◌, ℕ, suc, Bool, true, false, cond, List, [], ◌∷◌, length, map, Option, Some, None, Result, Ok, Err, IfOk, refl}
use Rattle.std.specs.List.{AllByRecursion}
use Rattle.std.specs.Option.{option_or}
use Rattle.std.specs.Ordering.{eq_by_cmp}
use Rattle.std.proofs.Common.{ap, sym, subst, ◌∙◌}
use Rattle.std.proofs.lemmas.Map.Keys.{sorted_tail}
use Rattle.map_model.specs.Maps.{at, set, IsSorted}
use Rattle.map_model.specs.MapLaws.{at-put, at-tail, sorted-put, sorted-nil}
use Rattle.value_model.specs.Val.{Entries}
use Rattle.ejson_value.specs.declared.key.Key.{Key}
use Rattle.ejson_value.specs.Key.{key_cmp, key_order}
use Rattle.ejson_value.specs.Rows.{Rows}
use Rattle.publication.specs.Cursors.{ACursors}
use Rattle.publication.specs.Published.{published}
use Rattle.multiplexer.specs.Leading.{News, last_said, IsJoined, IsLead, AreDifferences}
use Rattle.multiplexer.specs.LeadingLaws.{joined_leads}
use Rattle.multiplexer.specs.Sources.{entry_of}
use Rattle.multiplexer.specs.Telling.{news_in}
use Rattle.ejson_value.specs.declared.change.Publish.{Publish}
use Rattle.ejson_value.specs.Changes.{news_of}
use Rattle.multiplexer.specs.Joining.{put_news, put_all}

-- what is put counts, and otherwise what is said behind it or was said before it
put_or : (b : Bool) (v : Option Entries) (later was : Option (Option Entries)) → (b ≡ true → later ≡ None) → option_or later (cond b (Some v) was) ≡ option_or (cond b (Some v) later) was
put_or true v later was none = ap (λ (x : Option (Option Entries)). option_or x (Some v)) (none refl)
put_or false v later was none = refl

pub at_put_news : (named news : News) (key : Key) → IsSorted key_cmp news → at key_cmp (put_news named news) key ≡ option_or (at key_cmp news key) (at key_cmp named key)
at_put_news named [] key s = refl
at_put_news named (one ∷ news) key s =
    at_put_news (set key_cmp named one.0 (Some one.1)) news key (sorted_tail key_cmp _ _ s)
    ∙ (ap (option_or (at key_cmp news key)) (at-put key_order named one.0 one.1 key)
    ∙ put_or (eq_by_cmp key_cmp key one.0) one.1 (at key_cmp news key) (at key_cmp named key) (at-tail key_order one news key s))

or_or : (a b c : Option (Option Entries)) → option_or a (option_or b c) ≡ option_or (option_or a b) c
or_or None b c = refl
or_or (Some v) b c = refl

or_none : (a : Option (Option Entries)) → option_or a None ≡ a
or_none None = refl
or_none (Some v) = refl

at_put_all : (named : News) (all : List News) (key : Key) → AllByRecursion (IsSorted key_cmp) all → at key_cmp (put_all named all) key ≡ option_or (last_said all key) (at key_cmp named key)
at_put_all named [] key s = refl
at_put_all named (one ∷ all) key s =
    at_put_all (put_news named one) all key s.1
    ∙ (ap (option_or (last_said all key)) (at_put_news named one key s.0)
    ∙ or_or (last_said all key) (at key_cmp one key) (at key_cmp named key))

sorted_put_news : (named news : News) → IsSorted key_cmp named → IsSorted key_cmp (put_news named news)
sorted_put_news named [] s = s
sorted_put_news named (one ∷ news) s = sorted_put_news (set key_cmp named one.0 (Some one.1)) news (sorted-put key_order named one.0 one.1 s)

sorted_put_all : (named : News) (all : List News) → IsSorted key_cmp named → IsSorted key_cmp (put_all named all)
sorted_put_all named [] s = s
sorted_put_all named (one ∷ all) s = sorted_put_all (put_news named one) all (sorted_put_news named one s)

-- what several say, put together
pub put_joined : (all : List News) (told : News) → told ≡ put_all [] all → AllByRecursion (IsSorted key_cmp) all → IsJoined all told
put_joined all told is sorted = record {
  by_key = subst (IsSorted key_cmp) (sym is) (sorted_put_all [] all (sorted-nil key_cmp));
  each = λ key. ap (λ (news : News). at key_cmp news key) is ∙ (at_put_all [] all key sorted ∙ or_none (last_said all key));
}

pub all_joined : {E : Type 0} (all : List News) (named : News) (result : Result (List Publish) E) → IfOk result (λ told. news_of told ≡ named) → named ≡ put_all [] all → AllByRecursion (IsSorted key_cmp) all → IfOk result (λ told. IsJoined all (news_of told))
all_joined all named (Ok told) lists is sorted = put_joined all (news_of told) (lists ∙ is) sorted
all_joined all named (Err e) lists is sorted = tt

-- answers of which no text is known
pub map_untold : {A : Type 0} (value : A → List Publish) (xs : List A) → map news_in (map (λ x. entry_of (value x)) xs) ≡ map (λ x. news_of (value x)) xs
map_untold value [] = refl
map_untold value (x ∷ xs) = ap (λ (all : List News). news_of (value x) ∷ all) (map_untold value xs)

module _ (cursors : ACursors) (C : ℕ → Rows) where
  by_key : (from : ℕ) (all : List News) → AreDifferences cursors C from all → AllByRecursion (IsSorted key_cmp) all
  by_key from [] told = tt
  by_key from (one ∷ all) told = (told.0.by_key, by_key (suc from) all told.1)

  pub put_leads : (from : ℕ) (all : List News) (told : News) → told ≡ put_all [] all → AreDifferences cursors C from all → IsLead (published cursors (C from)) (published cursors (C (from + length all))) told
  put_leads from all told is differ = joined_leads cursors C from all told differ (put_joined all told is (by_key from all differ))

  -- one entry alone
  pub one_leads : (from : ℕ) (one : News) → AreDifferences cursors C from (one ∷ []) → IsLead (published cursors (C from)) (published cursors (C (from + 1))) one
  one_leads from one differ = joined_leads cursors C from (one ∷ []) one differ (record { by_key = differ.0.by_key; each = λ key. refl })
