use Rattle.std.proofs.Common.{◌≡◌, take}
use Rattle.map_model.specs.Maps.{at}
use Rattle.merge_model.specs.Publishing.{last_news}
use Rattle.ejson_value.specs.declared.key.Key.{Key}
use Rattle.ejson_value.specs.Key.{key_cmp}
use Rattle.ejson_value.specs.Changes.{news_of}
use Rattle.merge_box.proofs.news.last_by_key.Given as goal

abbrev pub invariant-loop-publish : goal.invariant-loop-publish
invariant-loop-publish l = record {
  last : (k : Key) → at key_cmp l.last.entries k ≡ last_news key_cmp (news_of (take l.publish-index l.news)) k;
}
