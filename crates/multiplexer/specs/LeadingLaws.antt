-- Laws: What is told of entries, one after another, put together: by key, what is said last of each key.
use Rattle.std.specs.Prelude.{◌≡◌, ℕ, zero, suc, ◌+◌, List, [], ◌∷◌, ◌++◌, length, take, drop, Option, Some, None, unwrap_or, refl}
use Rattle.std.specs.Option.{option_or}
use Rattle.std.proofs.Common.{ap, sym, subst, ◌∙◌, arith}
use Rattle.map_model.specs.Maps.{at}
use Rattle.value_model.specs.Val.{Entries}
use Rattle.ejson_value.specs.declared.key.Key.{Key}
use Rattle.ejson_value.specs.Key.{key_cmp}
use Rattle.ejson_value.specs.Rows.{Rows}
use Rattle.publication.specs.Cursors.{ACursors}
use Rattle.publication.specs.Published.{published}
use Rattle.live_observer.specs.Observing.{IsDifference}
use Rattle.multiplexer.specs.Leading.{AreDifferences, IsJoined, IsLead, News, last_said}

-- ---- what is said last

or_later : (a b c : Option (Option Entries)) → option_or (option_or a b) c ≡ option_or a (option_or b c)
or_later None b c = refl
or_later (Some d) b c = refl

or_none : (a : Option (Option Entries)) → option_or a None ≡ a
or_none None = refl
or_none (Some d) = refl

-- one entry more
pub said_with : (all : List News) (one : News) (key : Key) → last_said (all ++ one ∷ []) key ≡ option_or (at key_cmp one key) (last_said all key)
said_with [] one key = sym (or_none (at key_cmp one key))
said_with (first ∷ all) one key = ap (λ (x : Option (Option Entries)). option_or x (at key_cmp first key)) (said_with all one key)
    ∙ or_later (at key_cmp one key) (last_said all key) (at key_cmp first key)

later_counts : (later said : Option (Option Entries)) (was : Option Entries) → unwrap_or later (unwrap_or said was) ≡ unwrap_or (option_or later said) was
later_counts None said was = refl
later_counts (Some d) said was = refl

differs_by : (before after : Key → Option Entries) (told : News) (key : Key) → IsDifference before after told → (o : Option (Option Entries)) →
    at key_cmp told key ≡ o → unwrap_or o (before key) ≡ after key
differs_by before after told key d None e = d.quiet key e
differs_by before after told key d (Some doc) e = (d.news key doc e).0

-- a difference leads from the one to the other
pub difference_leads : (before after : Key → Option Entries) (told : News) → IsDifference before after told → IsLead before after told
difference_leads before after told d = record { by_key = d.by_key; leads = λ key. differs_by before after told key d (at key_cmp told key) refl }

-- ---- where it leads

module _ (cursors : ACursors) (C : ℕ → Rows) where
  further : (from n : ℕ) → suc from + n ≡ from + suc n
  further from n = omega arith

  none_on : (from : ℕ) → from ≡ from + 0
  none_on from = omega arith

  abbrev place : ℕ → Key → Option Entries
  place n = published cursors (C n)

  pub said_leads : (from : ℕ) (all : List News) (key : Key) → AreDifferences cursors C from all →
      unwrap_or (last_said all key) (place from key) ≡ place (from + length all) key
  said_leads from [] key told = ap (λ n. place n key) (none_on from)
  said_leads from (one ∷ all) key told =
      sym (later_counts (last_said all key) (at key_cmp one key) (place from key))
      ∙ (ap (λ (doc : Option Entries). unwrap_or (last_said all key) doc) (differs_by (place from) (place (suc from)) one key told.0 (at key_cmp one key) refl)
      ∙ (said_leads (suc from) all key told.1 ∙ ap (λ n. place n key) (further from (length all))))

  -- what is said last of each key leads to where the entries do
  pub joined_leads : (from : ℕ) (all : List News) (told : News) → AreDifferences cursors C from all → IsJoined all told →
      IsLead (place from) (place (from + length all)) told
  joined_leads from all told differ joined = record {
    by_key = joined.by_key;
    leads = λ key. ap (λ (x : Option (Option Entries)). unwrap_or x (place from key)) (joined.each key) ∙ said_leads from all key differ;
  }

  -- ---- some of the entries

  -- those behind the first n
  pub differ_behind : (n from : ℕ) (all : List News) → AreDifferences cursors C from all → AreDifferences cursors C (from + n) (drop n all)
  differ_behind zero from all told = subst (λ p. AreDifferences cursors C p all) (none_on from) told
  differ_behind (suc n) from [] told = tt
  differ_behind (suc n) from (one ∷ all) told = subst (λ p. AreDifferences cursors C p (drop n all)) (further from n) (differ_behind n (suc from) all told.1)

  -- the first n
  pub differ_first : (n from : ℕ) (all : List News) → AreDifferences cursors C from all → AreDifferences cursors C from (take n all)
  differ_first zero from all told = tt
  differ_first (suc n) from [] told = tt
  differ_first (suc n) from (one ∷ all) told = (told.0, differ_first n (suc from) all told.1)

  -- one entry more
  pub differ_with : (from : ℕ) (all : List News) (one : News) → AreDifferences cursors C from all →
      IsDifference (place (from + length all)) (place (suc (from + length all))) one → AreDifferences cursors C from (all ++ one ∷ [])
  differ_with from [] one told d = (subst (λ n. IsDifference (place n) (place (suc n)) one) (sym (none_on from)) d, tt)
  differ_with from (first ∷ all) one told d =
      (told.0, differ_with (suc from) all one told.1 (subst (λ n. IsDifference (place n) (place (suc n)) one) (sym (further from (length all))) d))
