-- The texts that are known of publishes: what a session may take over of them, and what is learnt of it.
use Rattle.std.specs.Prelude.{◌≡◌, ℕ, List, [], ◌∷◌, Option, Some, None, option_map}
use Rattle.map_model.specs.Differences.{Step}
use Rattle.merge_model.specs.Kept.{publishers_at}
use Rattle.value_model.specs.Val.{Val, Entries}
use Rattle.ejson_value.specs.declared.key.Key.{Key}
use Rattle.ejson_value.specs.Key.{key_cmp}
use Rattle.ejson_value.specs.Changes.{news_of}
use Rattle.known_texts.specs.Places.{Texts, put_text}
use Rattle.kept_document.specs.Held.{IsAlone}
use Rattle.merge_box.specs.State.{KeptDocs}
use Rattle.merge_box.specs.Words.{NewsList, seen_in, told_by}
use Rattle.ddp_messages.specs.Texts.{server_text}
use Rattle.session_model.specs.Out.{about}
use Rattle.session_core.specs.declared.adding.News.{News}
use Rattle.session_core.specs.declared.adding.News.TheVariants as news

-- the text of what is told of a document
abbrev pub text_about : Key × Step (List ℕ) Val → List ℕ
text_about told = server_text (about told)

-- the text that the client is told of the publish, if there is one
abbrev pub text_told : KeptDocs → Key × Option Entries → Option (List ℕ)
text_told box one = option_map text_about (told_by (seen_in box) one)

-- a text that is known is the one, where no other subscription publishes the document
abbrev pub IsRight : ℕ → KeptDocs → Key × Option Entries → Option (List ℕ) → Type 0
IsRight sub box one None = Unit {0}
IsRight sub box one (Some text) = IsAlone sub (publishers_at key_cmp box one.0) → text_told box one ≡ Some text

abbrev pub AreRight : ℕ → KeptDocs → NewsList → Texts → Type 0
AreRight sub box news [] = Unit {0}
AreRight sub box [] (text ∷ texts) = ⊥
AreRight sub box (one ∷ news) (text ∷ texts) = IsRight sub box one text × AreRight sub box news texts

-- what was known stays, and a text that is known now is the one, of a document that no other subscription publishes
abbrev pub IsLearnt : ℕ → KeptDocs → Key × Option Entries → Option (List ℕ) → Option (List ℕ) → Type 0
IsLearnt sub box one (Some text) new = new ≡ Some text
IsLearnt sub box one None None = Unit {0}
IsLearnt sub box one None (Some text) = IsAlone sub (publishers_at key_cmp box one.0) × (text_told box one ≡ Some text)

abbrev pub AreLearnt : ℕ → KeptDocs → NewsList → Texts → Texts → Type 0
AreLearnt sub box news [] [] = Unit {0}
AreLearnt sub box news [] (text ∷ texts) = ⊥
AreLearnt sub box news (was ∷ old) [] = ⊥
AreLearnt sub box [] (was ∷ old) (text ∷ texts) = ⊥
AreLearnt sub box (one ∷ news) (was ∷ old) (text ∷ texts) = IsLearnt sub box one was text × AreLearnt sub box news old texts

-- ---- of what a subscription publishes from now on
abbrev pub sub_by : News → ℕ
sub_by news.Nothing = 0
sub_by (news.Of sub changes) = sub
sub_by (news.Gone sub) = sub

abbrev pub news_by : News → NewsList
news_by news.Nothing = []
news_by (news.Of sub changes) = news_of changes.now
news_by (news.Gone sub) = []

-- texts are known only of publishes
abbrev pub known_by : News → Texts → Texts
known_by news.Nothing texts = []
known_by (news.Of sub changes) texts = texts
known_by (news.Gone sub) texts = []

abbrev pub AreRightBy : News → KeptDocs → Texts → Type 0
AreRightBy handed box texts = AreRight (sub_by handed) box (news_by handed) texts

abbrev pub AreLearntBy : News → KeptDocs → Texts → Texts → Type 0
AreLearntBy handed box old new = AreLearnt (sub_by handed) box (news_by handed) old new

-- with the text at the place, where there is one
abbrev pub kept_text : Option ℕ → List ℕ → Texts → Texts
kept_text None text texts = texts
kept_text (Some place) text texts = put_text texts place text
