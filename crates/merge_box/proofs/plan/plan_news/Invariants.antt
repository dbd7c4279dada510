use Rattle.std.proofs.Common.{◌≡◌, ℕ, true, IsSome, length, take}
use Rattle.std.specs.Map.{keys_of}
use Rattle.map_model.specs.Maps.{at, IsSorted}
use Rattle.merge_model.specs.Publishing.{last_news}
use Rattle.merge_model.specs.Kept.{kept_at}
use Rattle.ejson_value.specs.declared.key.Key.{Key}
use Rattle.ejson_value.specs.Key.{key_cmp}
use Rattle.ejson_value.specs.Changes.{news_of}
use Rattle.merge_box.specs.Index.{lists_of, is_listed}
use Rattle.merge_box.specs.Inside.{changes_of, told_of, AreNamed, HasGrown, IsPlannedAt, IsPublished}
use Rattle.merge_box.specs.Words.{seen_in, said_all, AreWords}
use Rattle.merge_box.proofs.plan.plan_news.Given as goal

abbrev pub invariant-loop-publish : goal.invariant-loop-publish
invariant-loop-publish l = record {
  grown : HasGrown l.initial.kept l.kept;
  listed : (s : ℕ) (k : Key) → is_listed (lists_of l.initial.index.entries) s k ≡ true → is_listed (lists_of l.index.entries) s k ≡ true;
  named : AreNamed l.kept.keys l.plan.items;
  keys : keys_of (changes_of l.kept.keys l.plan.items) ≡ keys_of (news_of (take l.publish-index l.news));
  by_key : IsSorted key_cmp (changes_of l.kept.keys l.plan.items);
  planned : (k : Key) → IsPlannedAt l.sub (last_news key_cmp (news_of (take l.publish-index l.news)) k) (kept_at key_cmp l.kept.docs k) (at key_cmp (changes_of l.kept.keys l.plan.items) k);
  room : (k : Key) → IsSome (at key_cmp (changes_of l.kept.keys l.plan.items) k) → IsSome (at key_cmp l.kept.docs k);
  listed_here : (k : Key) → IsPublished (last_news key_cmp (news_of (take l.publish-index l.news)) k) → is_listed (lists_of l.index.entries) l.sub k ≡ true;
  count : length l.plan.items ≡ l.publish-index;
  words : AreWords l.sub l.initial.kept.docs (news_of l.news) l.texts l.words.items;
  told : said_all (seen_in l.initial.kept.docs) (news_of l.news) l.words.items ≡ told_of l.kept.docs (changes_of l.kept.keys l.plan.items);
}
