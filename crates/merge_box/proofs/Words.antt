-- What the words of a plan say, one after another.
use Rattle.std.proofs.Common.{◌≡◌, ℕ, zero, suc, ◌<◌, arith, length, get_or, option_and_then, option_map, option_to_list, append_assoc, append-nil, ◌++◌, List, [], ◌∷◌, Option, Some, None, is_some, IfSome, refl, sym, ap, ap₂, subst, ◌∙◌, true≢false}
use Rattle.std.specs.Prelude.{slice_get}
use Rattle.map_model.specs.Maps.{keyed}
use Rattle.map_model.specs.Differences.{Step, between}
use Rattle.value_model.specs.Val.{Val, Entries}
use Rattle.value_model.specs.Order.{text_cmp}
use Rattle.merge_model.specs.Kept.{merged_doc, publishers_at}
use Rattle.ejson_value.specs.declared.key.Key.{Key}
use Rattle.ejson_value.specs.declared.change.Publish.{Publish}
use Rattle.ejson_value.specs.Key.{key_cmp}
use Rattle.ejson_value.specs.declared.message.DataMsg.{DataMsg}
use Rattle.ejson_value.specs.Messages.{said}
use Rattle.ejson_value.specs.Changes.{news_of}
use Rattle.known_texts.specs.Places.{Texts, text_at, is_open}
use Rattle.kept_document.specs.declared.held.Change.{Change}
use Rattle.kept_document.specs.declared.held.Change.TheVariants.{Whole}
use Rattle.kept_document.specs.Held.{KeptDoc, same_value, has_other, alone_if, IsAlone}
use Rattle.kept_document.specs.Changes.{with_change}
use Rattle.kept_document.proofs.Alone.{merged-alone}
use Rattle.merge_box.specs.declared.plan.Word.{Word}
use Rattle.merge_box.specs.declared.plan.Word.TheVariants.{Known, New}
use Rattle.merge_box.specs.State.{KeptDocs}
use Rattle.merge_box.specs.Words.{NewsList, Seen, seen_in, keyed_step, told_by, said_by, said_all, new_words, AreWords, IsOpenAt, IsToldBy, HasSaid, HasTold}
use Rattle.merge_box.specs.Inside.{step_of}

pub said_all-append : (seen : Seen) (news : NewsList) (before more : List Word) → said_all seen news (before ++ more) ≡ said_all seen news before ++ said_all seen news more
said_all-append seen news [] more = refl
said_all-append seen news (word ∷ before) more =
    ap (λ rest. option_to_list (said_by seen news word) ++ rest) (said_all-append seen news before more)
    ∙ sym (append_assoc (option_to_list (said_by seen news word)) (said_all seen news before) (said_all seen news more))

pub words-append : (sub : ℕ) (kept : KeptDocs) (news : NewsList) (texts : Texts) (before more : List Word) → AreWords sub kept news texts before → AreWords sub kept news texts more → AreWords sub kept news texts (before ++ more)
words-append sub kept news texts [] more are further = further
words-append sub kept news texts (word ∷ before) more are further = (are.0, words-append sub kept news texts before more are.1 further)

-- ---- a client that sees the same is told the same
module _ (a b : Seen) (same : (k : Key) → a k ≡ b k) where
  told_same : (one : Key × Option Entries) → told_by a one ≡ told_by b one
  told_same one = ap (λ d. keyed_step one.0 (between text_cmp same_value d one.1)) (same one.0)

  found_same : (x : Option (Key × Option Entries)) → option_and_then (told_by a) x ≡ option_and_then (told_by b) x
  found_same None = refl
  found_same (Some one) = told_same one

  one_same : (news : NewsList) (word : Word) → said_by a news word ≡ said_by b news word
  one_same news (Known place) = found_same (slice_get news place)
  one_same news (New message at) = refl

  pub said_same : (news : NewsList) (words : List Word) → said_all a news words ≡ said_all b news words
  said_same news [] = refl
  said_same news (word ∷ words) = ap₂ (λ w rest. option_to_list w ++ rest) (one_same news word) (said_same news words)

-- words of documents with the same publishers, of which a client sees the same
module _ (sub : ℕ) (a b : KeptDocs) (news : NewsList) (texts : Texts) (publishers : (k : Key) → publishers_at key_cmp b k ≡ publishers_at key_cmp a k) (same : (k : Key) → seen_in b k ≡ seen_in a k) where
  pub words_on : (words : List Word) → AreWords sub a news texts words → AreWords sub b news texts words
  words_on [] are = tt
  words_on (Known place ∷ words) are =
      let it = are.0 in
      (record { one = it.one; is = (it.is.0, ap (has_other sub) (publishers it.one.0) ∙ it.is.1); known = it.known }, words_on words are.1)
  words_on (New message None ∷ words) are = (tt, words_on words are.1)
  words_on (New message (Some at) ∷ words) are =
      let it = are.0 in
      (record { one = it.one; is = (it.is.0, ap (has_other sub) (publishers it.one.0) ∙ it.is.1); told = told_same (seen_in b) (seen_in a) same it.one ∙ it.told; free = it.free }, words_on words are.1)

-- ---- where no text is known, each word is a message of no place
module _ (sub : ℕ) (kept : KeptDocs) (news : NewsList) where
  pub unknown_words : (others : NewsList) (texts : Texts) (words : List Word) → AreWords sub kept news [] words → AreWords sub kept others texts words
  unknown_words others texts [] are = tt
  unknown_words others texts (Known place ∷ words) are = absurd (true≢false (sym are.0.known))
  unknown_words others texts (New message None ∷ words) are = (tt, unknown_words others texts words are.1)
  unknown_words others texts (New message (Some at) ∷ words) are = absurd (true≢false (sym are.0.free))

  pub unknown_said : (seen : Seen) (others : NewsList) (words : List Word) → AreWords sub kept news [] words → said_all seen others words ≡ said_all seen news words
  unknown_said seen others [] are = refl
  unknown_said seen others (Known place ∷ words) are = absurd (true≢false (sym are.0.known))
  unknown_said seen others (New message at ∷ words) are = ap (λ rest. said message ∷ rest) (unknown_said seen others words are.1)

-- ---- the words of one publish
-- a message that is added, or none
pub said_told : (sub : ℕ) (texts : Texts) (place : ℕ) (key : Key) (publishers : List ℕ) (step : Option (Step (List ℕ) Val)) (before after : List Word) (at : Option ℕ) → IfSome at (IsOpenAt sub texts place publishers) → HasSaid at key step before after → HasTold sub texts place key publishers step before after
said_told sub texts place key publishers step before after at free has = record { words = new_words has.message at; more = has.more; told = told has.message has.says }
  where
    silent : (s : Option (Step (List ℕ) Val)) → None ≡ keyed_step key s → s ≡ None
    silent None is = refl
    silent (Some s) is = absurd (true≢false (sym (ap is_some is)))

    told : (message : Option DataMsg) → option_map said message ≡ keyed_step key step → IsToldBy sub texts place key publishers step (new_words message at)
    told None is = silent step is
    told (Some message) is = (is, free)

pub news_get : (news : List Publish) (i : ℕ) (p : Publish) → p ≡ get_or news i p → i < length news → slice_get (news_of news) i ≡ Some (p.key, p.new)
news_get [] i p is h = absurd (omega arith)
news_get (q ∷ news) zero p is h = ap (λ (x : Publish). Some (x.key, x.new)) (sym is)
news_get (q ∷ news) (suc i) p is h = let h' : i < length news = omega arith in news_get news i p is h'

-- what a client sees of a document that the subscription alone publishes is what it publishes
seen_whole : (sub : ℕ) (doc : Option Entries) (e : KeptDoc) → merged_doc (with_change e (Whole (alone_if sub doc))) ≡ doc
seen_whole sub None e = refl
seen_whole sub (Some d) e = ap Some (merged-alone sub d)

module _ (sub : ℕ) (texts : Texts) (place : ℕ) (key : Key) (doc : Option Entries) (e : KeptDoc) (change : Change) (kept : KeptDocs) (news : NewsList) (seen : seen_in kept key ≡ merged_doc e) (publishers : publishers_at key_cmp kept key ≡ e.publishers)
    (there : slice_get news place ≡ Some (key, doc)) (whole : IsAlone sub e.publishers → change ≡ Whole (alone_if sub doc)) where
  told_alone : IsAlone sub e.publishers → told_by (seen_in kept) (key, doc) ≡ keyed_step key (step_of e change)
  told_alone alone =
      ap (λ d. keyed_step key (between text_cmp same_value d doc)) seen
      ∙ ap (λ d. keyed_step key (between text_cmp same_value (merged_doc e) d)) (sym (seen_whole sub doc e))
      ∙ ap (λ c. keyed_step key (step_of e c)) (sym (whole alone))

  keyed_is : (step : Option (Step (List ℕ) Val)) → option_to_list (keyed_step key step) ≡ keyed key step []
  keyed_is None = refl
  keyed_is (Some s) = refl

  said_words : (words : List Word) → IsToldBy sub texts place key e.publishers (step_of e change) words → said_all (seen_in kept) news words ≡ keyed key (step_of e change) []
  said_words [] none = sym (ap (λ s. keyed key s []) none)
  said_words (Known at ∷ []) told =
      append-nil (option_to_list (option_and_then (told_by (seen_in kept)) (slice_get news at)))
      ∙ ap option_to_list (ap (λ p. option_and_then (told_by (seen_in kept)) (slice_get news p)) told.0 ∙ ap (option_and_then (told_by (seen_in kept))) there ∙ told_alone told.1)
      ∙ keyed_is (step_of e change)
  said_words (New message at ∷ []) told = ap option_to_list told.0 ∙ keyed_is (step_of e change)
  said_words (word ∷ next ∷ words) told = absurd told

  told_words : (words : List Word) → IsToldBy sub texts place key e.publishers (step_of e change) words → AreWords sub kept news texts words
  told_words [] none = tt
  told_words (Known at ∷ []) told = (
    record {
      one = (key, doc);
      is = (ap (slice_get news) told.0 ∙ there, ap (has_other sub) publishers ∙ told.1);
      known = ap (λ p. is_some (text_at texts p)) told.0 ∙ told.2;
    },
    tt,
  )
  told_words (New message None ∷ []) told = (tt, tt)
  told_words (New message (Some at) ∷ []) told =
      let place_is = told.1 in (
        record {
          one = (key, doc);
          is = (ap (slice_get news) place_is.here ∙ there, ap (has_other sub) publishers ∙ place_is.alone);
          told = told_alone place_is.alone ∙ sym told.0;
          free = ap (is_open texts) place_is.here ∙ place_is.free;
        },
        tt,
      )
  told_words (word ∷ next ∷ words) told = absurd told

  -- what is told of it is added
  module _ (before after : List Word) (has : HasTold sub texts place key e.publishers (step_of e change) before after) where
    pub said_next : said_all (seen_in kept) news after ≡ said_all (seen_in kept) news before ++ keyed key (step_of e change) []
    said_next = ap (said_all (seen_in kept) news) has.more ∙ said_all-append (seen_in kept) news before has.words
        ∙ ap (λ ms. said_all (seen_in kept) news before ++ ms) (said_words has.words has.told)

    pub words_next : AreWords sub kept news texts before → AreWords sub kept news texts after
    words_next are = subst (AreWords sub kept news texts) (sym has.more) (words-append sub kept news texts before has.words are (told_words has.words has.told))
