use Rattle.std.proofs.Common.{◌≡◌, ◌++◌, ◌∷◌, [], ℕ, ◌+◌, length, true, None, is_some, refl, ap, ap₂, sym, subst, ◌∙◌, true≢false}
use Rattle.std.specs.Map.{keys_of}
use Rattle.std.proofs.lemmas.List.{take_all, length-append}
use Rattle.map_model.specs.Maps.{at, IsSorted}
use Rattle.map_model.specs.MapLaws.{sorted-nil}
use Rattle.map_model.specs.Orders.{IsAbove}
use Rattle.merge_model.specs.Publishing.{last_news}
use Rattle.std.specs.Prelude.{slice_get}
use Rattle.merge_model.specs.Kept.{has, kept_at}
use Rattle.ejson_value.specs.declared.key.Key.{Key}
use Rattle.ejson_value.specs.Key.{key_cmp}
use Rattle.ejson_value.specs.Changes.{news_of}
use Rattle.merge_box.specs.Index.{lists_of, is_listed}
use Rattle.merge_box.specs.Inside.{changes_of, told_of, AreNamed, IsPlannedAt, IsPublished}
use Rattle.merge_box.proofs.InOrder.{at_push, sorted_push, next_above}
use Rattle.merge_box.proofs.Places.{HasGrown-on, HasGrown-itself}
use Rattle.merge_box.proofs.Slots.{key_named, is_named}
use Rattle.merge_box.proofs.Naming.{changes_more, named_more, changes_stay, named_stay, all_stay}
use Rattle.merge_box.proofs.Plans.{news_step, keys_step, planned_step, room_step, listed_step, told_step}
use Rattle.kept_document.proofs.Places.{merged_same}
use Rattle.merge_box.specs.Words.{seen_in, said_all, AreWords}
use Rattle.merge_box.proofs.Words.{news_get, said_next, words_next}
use Rattle.merge_box.proofs.plan.plan_news.Goals as goal

pub plan_publish-requires : goal.plan_publish-requires
plan_publish-requires c = λ there.
    let before = c.loop-publish.invariant in
    let p = c.publish-item.result in
    before.listed c.args.sub p.key (c.requires.listed p.key (ap (has c.args.sub) (sym (before.grown.docs.docs p.key).same.publishers) ∙ there))

pub loop-publish-init : goal.loop-publish-init
loop-publish-init c =
    let kept = c.args.kept.now in
    let empty = ap (changes_of kept.keys) c.in_ok-plan.ensures.items in
    record {
      grown = HasGrown-itself kept;
      listed = λ s k was. was;
      named = subst (AreNamed kept.keys) (sym c.in_ok-plan.ensures.items) tt;
      keys = ap keys_of empty;
      by_key = subst (λ m. IsSorted key_cmp m) (sym empty) (sorted-nil key_cmp);
      planned = λ k. subst (λ m. IsPlannedAt c.args.sub None (kept_at key_cmp kept.docs k) (at key_cmp m k)) (sym empty) refl;
      room = λ k some. absurd (true≢false (sym some ∙ ap (λ m. is_some (at key_cmp m k)) empty));
      listed_here = λ k some. absurd (true≢false (sym some));
      count = ap length c.in_ok-plan.ensures.items;
      words = subst (AreWords c.args.sub kept.docs (news_of c.args.news.now) c.args.texts.now) (sym c.requires.none) tt;
      told = ap (said_all (seen_in kept.docs) (news_of c.args.news.now)) c.requires.none ∙ ap (told_of kept.docs) (sym empty);
    }

pub loop-publish-preserved : goal.loop-publish-preserved
loop-publish-preserved c =
    let before = c.loop-publish.invariant in
    let grown = c.plan_publish.ensures.grown in
    let planned = c.in_ok-planned.planned in
    let next = c.in_ok-planned.ensures.planned in
    let p = c.publish-item.result in
    let news = c.args.news.now in
    let i = c.loop-publish.publish-index in
    let more = news_step news i p c.publish-item.is c.loop-publish-test.true in
    let old = c.loop-publish.kept in
    let now = c.plan_publish.new.kept in
    let items = c.loop-publish.plan.items in
    let stay = all_stay old.keys now.keys grown.names items before.named in
    let plan = changes_of old.keys items in
    let new = changes_of now.keys c.push.new.self.items in
    let named = c.in_ok-planned.ensures.named in
    let push = ap (changes_of now.keys) c.in_ok-push.ensures.items ∙ changes_more now.keys items planned
    ∙ ap₂ (λ cs k. cs ++ (k, planned.change) ∷ []) (changes_stay old.keys now.keys items stay) (key_named now.keys planned.slot p.key named) in
    let above = subst (IsAbove key_cmp p.key) (sym before.keys) (next_above news i p c.publish-item.is c.loop-publish-test.true c.requires.by_key) in
    let all = HasGrown-on c.args.kept.now old now before.grown grown in
    let first = all.docs.docs p.key in
    let was = c.requires.held p.key in
    let start = c.args.kept.now.docs in
    let seen = sym (merged_same (kept_at key_cmp start p.key) (kept_at key_cmp now.docs p.key) first.same was.by_name (first.held was).by_name) in
    let there = ap (slice_get (news_of news)) (c.len-place.ensures ∙ c.loop-publish.plan.ok.0 ∙ before.count) ∙ news_get news i p c.publish-item.is c.loop-publish-test.true in
    let words = c.loop-publish.words.items in
    let put = λ (k : Key). ap (λ m. at key_cmp m k) push ∙ at_push plan p.key planned.change above k in
    record {
      grown = all;
      listed = λ s k was. c.plan_publish.ensures.listed s k (before.listed s k was);
      named = subst (AreNamed now.keys) (sym c.in_ok-push.ensures.items) (named_more now.keys items planned (named_stay old.keys now.keys items stay) (is_named now.keys planned.slot p.key named));
      keys = keys_step plan new planned.change news i p more push before.keys;
      by_key = subst (λ m. IsSorted key_cmp m) (sym push) (sorted_push plan p.key planned.change above before.by_key);
      planned = planned_step c.args.sub old.docs now.docs plan new planned.change news i p more grown.docs before.planned put next.is next.places;
      room = room_step old.docs now.docs plan new planned.change p.key before.room grown.docs.keys c.in_ok-planned.ensures.room put;
      listed_here = listed_step c.args.sub c.loop-publish.index.entries c.plan_publish.new.index.entries news i p more before.listed_here c.plan_publish.ensures.listed next.listed;
      count = ap length c.in_ok-push.ensures.items ∙ length-append items (planned ∷ []) ∙ ap (λ (n : ℕ). n + 1) before.count;
      words = words_next c.args.sub c.args.texts.now c.len-place.result p.key p.new (kept_at key_cmp now.docs p.key) planned.change start (news_of news) seen (sym first.same.publishers) there next.alone words c.plan_publish.new.words.items next.told before.words;
      told = told_step old.docs now.docs plan new p.key planned.change [] (said_all (seen_in start) (news_of news) words) (said_all (seen_in start) (news_of news) c.plan_publish.new.words.items) push c.plan_publish.ensures.others above before.told
          (said_next c.args.sub c.args.texts.now c.len-place.result p.key p.new (kept_at key_cmp now.docs p.key) planned.change start (news_of news) seen (sym first.same.publishers) there next.alone words c.plan_publish.new.words.items next.told);
    }

pub returns-in_err-planned-clause-grown : goal.returns-in_err-planned-clause-grown
returns-in_err-planned-clause-grown c = HasGrown-on c.args.kept.now c.loop-publish.kept c.plan_publish.new.kept c.loop-publish.invariant.grown c.plan_publish.ensures.grown

pub returns-in_err-planned-clause-listed : goal.returns-in_err-planned-clause-listed
returns-in_err-planned-clause-listed c = λ s k was. c.plan_publish.ensures.listed s k (c.loop-publish.invariant.listed s k was)

pub returns-in_err-push-clause-grown : goal.returns-in_err-push-clause-grown
returns-in_err-push-clause-grown c = HasGrown-on c.args.kept.now c.loop-publish.kept c.plan_publish.new.kept c.loop-publish.invariant.grown c.plan_publish.ensures.grown

pub returns-in_err-push-clause-listed : goal.returns-in_err-push-clause-listed
returns-in_err-push-clause-listed c = λ s k was. c.plan_publish.ensures.listed s k (c.loop-publish.invariant.listed s k was)

pub returns-clause-grown : goal.returns-clause-grown
returns-clause-grown c = c.loop-publish.invariant.grown

pub returns-clause-listed : goal.returns-clause-listed
returns-clause-listed c = c.loop-publish.invariant.listed

pub returns-clause-room : goal.returns-clause-room
returns-clause-room c = c.loop-publish.invariant.room

pub returns-clause-planned : goal.returns-clause-planned
returns-clause-planned c = λ k.
    subst (λ ns. IsPlannedAt c.args.sub (last_news key_cmp (news_of ns) k) (kept_at key_cmp c.loop-publish.kept.docs k) (at key_cmp (changes_of c.loop-publish.kept.keys c.loop-publish.plan.items) k))
    (take_all c.loop-publish.publish-index c.args.news.now c.loop-publish-test.false) (c.loop-publish.invariant.planned k)

pub returns-clause-listed_here : goal.returns-clause-listed_here
returns-clause-listed_here c = λ k.
    subst (λ ns. IsPublished (last_news key_cmp (news_of ns) k) → is_listed (lists_of c.loop-publish.index.entries) c.args.sub k ≡ true)
    (take_all c.loop-publish.publish-index c.args.news.now c.loop-publish-test.false) (c.loop-publish.invariant.listed_here k)
