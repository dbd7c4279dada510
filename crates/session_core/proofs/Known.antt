-- The texts that a session takes over and learns.
use Rattle.std.proofs.Common.{◌≡◌, ℕ, zero, suc, ◌+◌, ◌<◌, arith, add-one, length, get_or, take, append_assoc, append-nil, option_and_then, List, [], ◌∷◌, ◌++◌, map, Option, Some, None, is_some, IsSome, option_map, option_to_list, cond, true, false, refl, sym, ap, ap₂, subst, ◌∙◌, true≢false}
use Rattle.std.specs.Prelude.{slice_get, slice_set}
use Rattle.std.specs.Option.{option_flatten}
use Rattle.value_model.specs.Val.{Entries}
use Rattle.ejson_value.specs.declared.key.Key.{Key}
use Rattle.merge_model.specs.Kept.{publishers_at}
use Rattle.ejson_value.specs.Key.{key_cmp}
use Rattle.known_texts.specs.Places.{Texts, text_at, has_none, is_open, put_text}
use Rattle.kept_document.specs.Held.{IsAlone}
use Rattle.merge_box.specs.State.{KeptDocs}
use Rattle.std.proofs.lemmas.List.{map-append}
use Rattle.map_model.specs.Differences.{Step}
use Rattle.value_model.specs.Val.{Val}
use Rattle.merge_box.specs.declared.plan.Word.{Word}
use Rattle.merge_box.specs.declared.plan.Word.TheVariants.{Known, New}
use Rattle.ejson_value.specs.declared.message.DataMsg.{DataMsg}
use Rattle.session_texts.specs.Said.{data_text}
use Rattle.session_core.proofs.Said.{text_is}
use Rattle.merge_box.specs.Words.{NewsList, Seen, seen_in, told_by, said_by, said_all, IsKnownOf, IsWord, AreWords}
use Rattle.session_core.specs.declared.adding.News.{News}
use Rattle.session_core.specs.declared.adding.News.TheVariants as news
use Rattle.session_core.specs.Known.{text_about, text_told, IsRight, AreRight, IsLearnt, AreLearnt, sub_by, news_by, known_by, AreRightBy, kept_text}

module _ (sub : ℕ) (box : KeptDocs) where
  -- nothing is learnt
  learnt_itself : (one : Key × Option Entries) (text : Option (List ℕ)) → IsLearnt sub box one text text
  learnt_itself one None = tt
  learnt_itself one (Some text) = refl

  pub nothing_learnt : (news : NewsList) (texts : Texts) → AreRight sub box news texts → AreLearnt sub box news texts texts
  nothing_learnt news [] right = tt
  nothing_learnt [] (text ∷ texts) right = absurd right
  nothing_learnt (one ∷ news) (text ∷ texts) right = (learnt_itself one text, nothing_learnt news texts right.1)

  -- what is known of a publish is right
  pub right_at : (news : NewsList) (texts : Texts) (place : ℕ) (one : Key × Option Entries) (text : List ℕ) → AreRight sub box news texts → slice_get news place ≡ Some one → text_at texts place ≡ Some text → IsAlone sub (publishers_at key_cmp box one.0) → text_told box one ≡ Some text
  right_at news [] place one text right there known = absurd (true≢false (sym (ap is_some known)))
  right_at [] (t ∷ texts) place one text right there known = absurd right
  right_at (o ∷ news) (t ∷ texts) zero one text right there known = λ alone. first o one t there known right.0 alone
    where
      first : (o one : Key × Option Entries) (t : Option (List ℕ)) → Some o ≡ Some one → option_flatten (Some t) ≡ Some text → IsRight sub box o t → IsAlone sub (publishers_at key_cmp box one.0) → text_told box one ≡ Some text
      first o one None there known right = absurd (true≢false (sym (ap is_some known)))
      first o one (Some t) there known right =
          let same : o ≡ one = cc there in
          λ alone. subst (λ p. IsRight sub box p (Some t)) same right alone ∙ known
  right_at (o ∷ news) (t ∷ texts) (suc place) one text right there known = right_at news texts place one text right.1 there known

  -- a text is learnt of a publish of which none was known
  put_open : (o one : Key × Option Entries) (was now : Option (List ℕ)) (text : List ℕ) → Some o ≡ Some one → has_none (Some now) ≡ true → IsAlone sub (publishers_at key_cmp box one.0) → text_told box one ≡ Some text → IsLearnt sub box o was now → IsLearnt sub box o was (Some text)
  put_open o one None now text there free alone told learnt =
      let same : one ≡ o = cc there in
      (subst (λ (p : Key × Option Entries). IsAlone sub (publishers_at key_cmp box p.0)) same alone, subst (λ p. text_told box p ≡ Some text) same told)
  put_open o one (Some t) None text there free alone told learnt = cc learnt
  put_open o one (Some t) (Some u) text there free alone told learnt = absurd (true≢false (sym free))

  -- what was known stays known
  pub known_stays : (news : NewsList) (old new : Texts) (place : ℕ) (text : List ℕ) → AreLearnt sub box news old new → text_at old place ≡ Some text → text_at new place ≡ Some text
  known_stays news [] new place text learnt known = absurd (true≢false (sym (ap is_some known)))
  known_stays news (was ∷ old) [] place text learnt known = absurd learnt
  known_stays [] (was ∷ old) (now ∷ new) place text learnt known = absurd learnt
  known_stays (one ∷ news) (was ∷ old) (now ∷ new) zero text learnt known = stays was now learnt.0 known
    where
      stays : (was now : Option (List ℕ)) → IsLearnt sub box one was now → option_flatten (Some was) ≡ Some text → option_flatten (Some now) ≡ Some text
      stays None now learnt known = absurd (true≢false (sym (ap is_some known)))
      stays (Some t) now learnt known = learnt ∙ known
  known_stays (one ∷ news) (was ∷ old) (now ∷ new) (suc place) text learnt known = known_stays news old new place text learnt.1 known

  pub set_learnt : (news : NewsList) (old new : Texts) (place : ℕ) (one : Key × Option Entries) (text : List ℕ) → AreLearnt sub box news old new → slice_get news place ≡ Some one → is_open new place ≡ true → IsAlone sub (publishers_at key_cmp box one.0) → text_told box one ≡ Some text → AreLearnt sub box news old (slice_set new place (Some text))
  set_learnt news [] [] place one text learnt there free alone told = absurd (true≢false (sym free))
  set_learnt news [] (now ∷ new) place one text learnt there free alone told = absurd learnt
  set_learnt news (was ∷ old) [] place one text learnt there free alone told = absurd learnt
  set_learnt [] (was ∷ old) (now ∷ new) place one text learnt there free alone told = absurd learnt
  set_learnt (o ∷ news) (was ∷ old) (now ∷ new) zero one text learnt there free alone told = (put_open o one was now text there free alone told learnt.0, learnt.1)
  set_learnt (o ∷ news) (was ∷ old) (now ∷ new) (suc place) one text learnt there free alone told = (learnt.0, set_learnt news old new place one text learnt.1 there free alone told)

  pub put_learnt : (news : NewsList) (old new : Texts) (place : ℕ) (one : Key × Option Entries) (text : List ℕ) → AreLearnt sub box news old new → slice_get news place ≡ Some one → IsAlone sub (publishers_at key_cmp box one.0) → text_told box one ≡ Some text → AreLearnt sub box news old (put_text new place text)
  put_learnt news old new place one text learnt there alone told = elim (is_open new place) as (λ b. is_open new place ≡ b → AreLearnt sub box news old (cond b (slice_set new place (Some text)) new)) [
    | true ↦ λ free. set_learnt news old new place one text learnt there free alone told
    | false ↦ λ _. learnt
  ] refl

-- where nothing is published there are no texts
no_texts : (sub : ℕ) (box : KeptDocs) (texts : Texts) → AreRight sub box [] texts → [] ≡ texts
no_texts sub box [] right = refl
no_texts sub box (text ∷ texts) right = absurd right

all_known : (handed : News) (box : KeptDocs) (texts : Texts) → AreRightBy handed box texts → known_by handed texts ≡ texts
all_known news.Nothing box texts right = no_texts 0 box texts right
all_known (news.Of sub changes) box texts right = refl
all_known (news.Gone sub) box texts right = no_texts sub box texts right

-- the words of a plan, where texts are known of these news
pub words_by : (handed : News) (box : KeptDocs) (texts : Texts) (plan words : List Word) → words ≡ plan → AreRightBy handed box texts → AreWords (sub_by handed) box (news_by handed) (known_by handed texts) plan → AreWords (sub_by handed) box (news_by handed) texts words
words_by handed box texts plan words same right are =
    subst (AreWords (sub_by handed) box (news_by handed) texts) (sym same) (subst (λ (ts : Texts). AreWords (sub_by handed) box (news_by handed) ts plan) (all_known handed box texts right) are)

-- ---- one word after another
module _ (sub : ℕ) (box : KeptDocs) (news : NewsList) (texts : Texts) where
  pub word_at : (words : List Word) (i : ℕ) (word : Word) → word ≡ get_or words i word → i < length words → AreWords sub box news texts words → IsWord sub box news texts word
  word_at [] i word is h are = absurd (omega arith)
  word_at (w ∷ words) zero word is h are = subst (IsWord sub box news texts) (sym is) are.0
  word_at (w ∷ words) (suc i) word is h are = let h' : i < length words = omega arith in word_at words i word is h' are.1

pub said_more : (seen : Seen) (news : NewsList) (words : List Word) (i : ℕ) (word : Word) → word ≡ get_or words i word → i < length words → said_all seen news (take (suc i) words) ≡ said_all seen news (take i words) ++ option_to_list (said_by seen news word)
said_more seen news [] i word is h = absurd (omega arith)
said_more seen news (w ∷ words) zero word is h = append-nil (option_to_list (said_by seen news w)) ∙ ap (λ x. option_to_list (said_by seen news x)) (sym is)
said_more seen news (w ∷ words) (suc i) word is h =
    let h' : i < length words = omega arith in
    ap (λ rest. option_to_list (said_by seen news w) ++ rest) (said_more seen news words i word is h')
    ∙ sym (append_assoc (option_to_list (said_by seen news w)) (said_all seen news (take i words)) (option_to_list (said_by seen news word)))

-- the text of a word, if it says something
pub texts_more : (seen : Seen) (news : NewsList) (words : List Word) (i : ℕ) (word : Word) (made : List (List ℕ)) (text : Option (List ℕ)) → word ≡ get_or words i word → i < length words → made ≡ map text_about (said_all seen news (take i words)) → text ≡ option_map text_about (said_by seen news word)
    → made ++ option_to_list text ≡ map text_about (said_all seen news (take (i + 1) words))
texts_more seen news words i word made text is h so_far next = rw add-one (
    ap₂ (λ a b. a ++ option_to_list b) so_far next
    ∙ ap (λ b. map text_about (said_all seen news (take i words)) ++ b) (listed (said_by seen news word))
    ∙ sym (map-append text_about (said_all seen news (take i words)) (option_to_list (said_by seen news word)))
    ∙ ap (map text_about) (sym (said_more seen news words i word is h)))
  where
    listed : (x : Option (Key × Step (List ℕ) Val)) → option_to_list (option_map text_about x) ≡ map text_about (option_to_list x)
    listed None = refl
    listed (Some told) = refl

some_of : {X : Type 0} (x : Option X) → IsSome x → (v : X) × (x ≡ Some v)
some_of None h = absurd (true≢false (sym h))
some_of (Some v) h = (v, refl)

-- a text that is known is what its word says
pub known_says : (sub : ℕ) (box : KeptDocs) (news : NewsList) (before now : Texts) (place : ℕ) (found : Option (List ℕ)) → AreRight sub box news before → AreLearnt sub box news before now → IsKnownOf sub box news before place → found ≡ text_at now place → found ≡ option_map text_about (said_by (seen_in box) news (Known place))
known_says sub box news before now place found right learnt it is =
    let some = some_of (text_at before place) it.known in
    is ∙ known_stays sub box news before now place some.0 learnt some.1
    ∙ sym (right_at sub box news before place it.one some.0 right it.is.0 some.1 it.is.1)
    ∙ ap (λ x. option_map text_about (option_and_then (told_by (seen_in box)) x)) (sym it.is.0)

-- the text of a new message is kept where there is a place for it
pub put_kept : (sub : ℕ) (box : KeptDocs) (news : NewsList) (before now after : Texts) (message : DataMsg) (at : Option ℕ) → AreLearnt sub box news before now → IsWord sub box news before (New message at) → after ≡ kept_text at (data_text message) now → AreLearnt sub box news before after
put_kept sub box news before now after message None learnt is kept = subst (AreLearnt sub box news before) (sym kept) learnt
put_kept sub box news before now after message (Some place) learnt is kept =
    subst (AreLearnt sub box news before) (sym kept)
    (put_learnt sub box news before now place is.one (data_text message) learnt is.is.0 is.is.1 (ap (option_map text_about) is.told ∙ ap Some (sym (text_is message))))
